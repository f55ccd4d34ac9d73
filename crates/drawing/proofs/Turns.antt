-- How cells are filled: one run put after the runs of fewer levels, at each bin number that it can have.
use Rattle.std.proofs.Common.{◌≡◌, ℕ, ◌+◌, ◌<◌, Bool, true, false, cond, ◌≢◌, List, length, get_or, set, refl, ap, ◌∙◌, ap₂, inl, inr, arith, length-set}
use Rattle.std.proofs.lemmas.List.{get_or-set_same, get_or-set_other, set-get_or}
use Rattle.std.proofs.lemmas.Bool.{cases_eq}
use Rattle.pricing.specs.Tallies.{Ops}
use Rattle.drawing.specs.Cells.{Turned}

module _ {C : Type 0} (o : Ops C) (keep : C → C → Bool) (price : C) (start row before : ℕ) where
  -- no cell yet
  pub turned_none : (ts : List C) (ls : List ℕ) → Turned o keep price start row before 0 ts ts ls ls
  turned_none ts ls = record { long = (refl, refl); tallies = λ k h. absurd (omega arith); links = λ k h. absurd (omega arith); others = λ k h. (refl, refl) }

  -- one cell more
  turned_more : (count : ℕ) (ts tk : List C) (ls lk : List ℕ) (v : C) (w : ℕ) → row + count < length ts → row + count < length ls → before + count < row →
      v ≡ cond (keep (get_or tk (row + count) o.neutral) (o.join price (get_or tk (before + count) o.neutral))) (get_or tk (row + count) o.neutral) (o.join price (get_or tk (before + count) o.neutral)) →
      w ≡ cond (keep (get_or tk (row + count) o.neutral) (o.join price (get_or tk (before + count) o.neutral))) (get_or lk (row + count) 0) start →
      Turned o keep price start row before count ts tk ls lk → Turned o keep price start row before (count + 1) ts (set tk (row + count) v) ls (set lk (row + count) w)
  turned_more count ts tk ls lk v w room link_room under e f t =
      let n = o.neutral in
      let at = row + count in
      let same_old = t.others at (inr (omega arith)) in
      let same_before = t.others (before + count) (inl under) in
      let there : at < length tk = omega (arith, t.long) in
      let link_there : at < length lk = omega (arith, t.long) in
      record {
        long = (length-set tk at v ∙ t.long.0, length-set lk at w ∙ t.long.1);
        tallies = (λ k h. elim (cases_eq k count) [
          | inl same ↦ rw same (get_or-set_same tk at v n there ∙ e ∙ ap₂ (λ (old below : C). cond (keep old (o.join price below)) old (o.join price below)) same_old.0 same_before.0)
          | inr ne ↦ get_or-set_other tk at (row + k) v n (λ s. ne (omega arith)) ∙ t.tallies k (omega arith)
        ]);
        links = (λ k h. elim (cases_eq k count) [
          | inl same ↦ rw same (get_or-set_same lk at w 0 link_there ∙ f ∙ (let x = same_old.0 in let y = same_before.0 in let z = same_old.1 in cc))
          | inr ne ↦ get_or-set_other lk at (row + k) w 0 (λ s. ne (omega arith)) ∙ t.links k (omega arith)
        ]);
        others = (λ k h.
            let ne : k ≢ at = (λ s. elim h [ inl lt ↦ omega arith | inr ge ↦ omega arith ]) in
            let old = t.others k (elim h [ inl lt ↦ inl lt | inr ge ↦ inr (omega arith) ]) in
            (get_or-set_other tk at k v n ne ∙ old.0, get_or-set_other lk at k w 0 ne ∙ old.1));
      }

  -- one cell more, which keeps what it had or takes what it is given
  module _ (count : ℕ) (ts tk tk' : List C) (ls lk lk' : List ℕ) (joined : C) (kept : Bool) (room : row + count < length ts) (link_room : row + count < length ls) (under : before + count < row)
      (joined_is : joined ≡ o.join price (get_or tk (before + count) o.neutral)) (kept_is : kept ≡ keep (get_or tk (row + count) o.neutral) joined)
      (t : Turned o keep price start row before count ts tk ls lk) where
    taken : (v : C) (w : ℕ) → v ≡ cond kept (get_or tk (row + count) o.neutral) joined → w ≡ cond kept (get_or lk (row + count) 0) start →
        Turned o keep price start row before (count + 1) ts (set tk (row + count) v) ls (set lk (row + count) w)
    taken v w e f =
        turned_more count ts tk ls lk v w room link_room under
        (e ∙ ap₂ (λ (b : Bool) (x : C). cond b (get_or tk (row + count) o.neutral) x) whole joined_is)
        (f ∙ ap (λ (b : Bool). cond b (get_or lk (row + count) 0) start) whole) t
      where
        whole : kept ≡ keep (get_or tk (row + count) o.neutral) (o.join price (get_or tk (before + count) o.neutral))
        whole = kept_is ∙ ap (keep (get_or tk (row + count) o.neutral)) joined_is

    pub turned_put : kept ≡ false → tk' ≡ set tk (row + count) joined → lk' ≡ set lk (row + count) start → Turned o keep price start row before (count + 1) ts tk' ls lk'
    turned_put not e f = rw (e, f) (taken joined start (rw not refl) (rw not refl))

    pub turned_kept : kept ≡ true → tk' ≡ tk → lk' ≡ lk → Turned o keep price start row before (count + 1) ts tk' ls lk'
    turned_kept is e f =
        let same = set-get_or tk (row + count) o.neutral in
        let link_same = set-get_or lk (row + count) 0 in
        rw (e, f) (rw (same, link_same) at (taken (get_or tk (row + count) o.neutral) (get_or lk (row + count) 0) (rw is refl) (rw is refl)))
