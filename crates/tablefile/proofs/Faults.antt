-- When a part of a file has a fault and when not, and the first of several faults.
use Rattle.std.proofs.Common.{◌≡◌, ℕ, zero, suc, ◌+◌, ◌<◌, ◌≤◌, Bool, true, false, ◌&&◌, leb, List, [], ◌∷◌, length, get_or, IsErrAnd, Some, None, Ok, Err, Option, Result, sym, refl, ap, ◌∙◌, subst, inl, inr, add-one, arith}
use Rattle.std.proofs.lemmas.Bool.{lt-ltb, le-ltb, lt-leb, le-leb, leb-true, eq-eqb, ne_eqb, cases_lt, cases_Bool, and_parts}
use Rattle.std.proofs.lemmas.Option.{none-some}
use Rattle.counting.specs.Outputs.{Row}
use Rattle.tablefile.specs.Fields.{levels_in, counted_in, bins_place, bins_in, bin_place}
use Rattle.tablefile.specs.Faults.{first, first_of, part_fault, edition_fault, head_fault, level_fault, levels_fault, bin_fault, bins_fault, rest_fault, first_fault}
use Rattle.tablefile.specs.Rows.{number_row}
use Rattle.tablefile.specs.Parts.{Judged}
use Rattle.tablefile.specs.declared.fault.CutShort.{CutShort}

-- the exit of a `?`, where the fault goes into another as the same row
pub judged_err : {X E : Type 0} (row : E → Row) (fault : Option Row) (P : X → Type 0) (r : Result X E) (x : Row) → IsErrAnd r (λ y. row y ≡ x) → fault ≡ Some x → Judged row fault P r
judged_err row fault P (Ok y) x e is = absurd e
judged_err row fault P (Err y) x e is = is ∙ ap Some (sym e)

-- and where it goes on as it is
pub judged_same : {X E : Type 0} (row : E → Row) (fault : Option Row) (P : X → Type 0) (r : Result X E) (x : E) → IsErrAnd r (λ y. y ≡ x) → fault ≡ Some (row x) → Judged row fault P r
judged_same row fault P (Ok y) x e is = absurd e
judged_same row fault P (Err y) x e is = is ∙ ap (λ z. Some (row z)) (sym e)

-- what a part's fault is
module _ (file : List ℕ) (section place size : ℕ) (rule : Bool) where
  pub part_cut : length file < place + size → part_fault file section place size rule ≡ Some (13, section ∷ length file ∷ [])
  unfolding part_fault
  part_cut h = let t = lt-ltb (length file) (place + size) h in rw t refl

  pub part_broken : place + size ≤ length file → rule ≡ false → part_fault file section place size rule ≡ Some (14, section ∷ place ∷ [])
  unfolding part_fault
  part_broken h e = let t = le-ltb (length file) (place + size) h in rw (t, e) refl

  pub part_fine : place + size ≤ length file → rule ≡ true → part_fault file section place size rule ≡ None
  unfolding part_fault
  part_fine h e = let t = le-ltb (length file) (place + size) h in rw (t, e) refl

  pub part_none : part_fault file section place size rule ≡ None → (place + size ≤ length file) × (rule ≡ true)
  part_none none = elim (cases_lt (length file) (place + size)) [
    | inl cut ↦ absurd (none-some _ (sym none ∙ part_cut cut))
    | inr fits ↦ (fits, elim (cases_Bool rule) [ inl e ↦ e | inr e ↦ absurd (none-some _ (sym none ∙ part_broken fits e)) ])
  ]

-- the edition byte
module _ (file : List ℕ) where
  pub edition_cut : length file < 1 → edition_fault file ≡ Some (13, 0 ∷ length file ∷ [])
  unfolding edition_fault
  edition_cut h = let t = lt-ltb (length file) 1 h in rw t refl

  pub edition_other : 1 ≤ length file → (get_or file 0 0 ≡ 5 → ⊥) → edition_fault file ≡ Some (12, get_or file 0 0 ∷ [])
  unfolding edition_fault
  edition_other h ne = let t = le-ltb (length file) 1 h in let u = ne_eqb (get_or file 0 0) 5 ne in rw (t, u) refl

  pub edition_fine : 1 ≤ length file → get_or file 0 0 ≡ 5 → edition_fault file ≡ None
  unfolding edition_fault
  edition_fine h e = let t = le-ltb (length file) 1 h in let u = eq-eqb (get_or file 0 0) 5 e in rw (t, u) refl

-- bytes after the last section
pub rest_none : (file : List ℕ) (end : ℕ) → length file ≤ end → rest_fault file end ≡ None
unfolding rest_fault
rest_none file end h = let t = le-ltb end (length file) h in rw t refl

pub rest_some : (file : List ℕ) (end : ℕ) → end < length file → rest_fault file end ≡ Some (15, end ∷ [])
unfolding rest_fault
rest_some file end h = let t = lt-ltb end (length file) h in rw t refl

-- the first of two faults
pub first_is : (a b : Option Row) (x : Row) → a ≡ Some x → first a b ≡ Some x
first_is a b x e = ap (λ (o : Option Row). first o b) e

pub first_then : (a b : Option Row) → a ≡ None → first a b ≡ b
first_then a b e = ap (λ (o : Option Row). first o b) e

pub first_none : (a b : Option Row) → first a b ≡ None → (a ≡ None) × (b ≡ None)
first_none (Some x) b e = absurd (none-some x (sym e))
first_none None b e = (refl, e)

-- the first fault of several entries
pub first_of_more : (fault : ℕ → Option Row) (i : ℕ) → first_of fault i ≡ None → fault i ≡ None → first_of fault (i + 1) ≡ None
unfolding first_of
first_of_more fault i before here = rw add-one (first_then (first_of fault i) (fault i) before ∙ here)

pub first_of_stops : (fault : ℕ → Option Row) (i n : ℕ) (x : Row) → i < n → first_of fault i ≡ None → fault i ≡ Some x → first_of fault n ≡ Some x
unfolding first_of
first_of_stops fault i zero x h before here = absurd (omega arith)
first_of_stops fault i (suc n) x h before here = elim (cases_lt i n) [
  | inl lt ↦ first_is (first_of fault n) (fault n) x (first_of_stops fault i n x lt before here)
  | inr ge ↦ (
      let e : i ≡ n = omega arith in
      let P : ℕ → Type 0 = λ k. first (first_of fault k) (fault k) ≡ Some x in
      subst P e (first_then (first_of fault i) (fault i) before ∙ here))
]

pub first_of_none : (fault : ℕ → Option Row) (n i : ℕ) → first_of fault n ≡ None → i < n → fault i ≡ None
unfolding first_of
first_of_none fault zero i none h = absurd (omega arith)
first_of_none fault (suc n) i none h =
    let parts = first_none (first_of fault n) (fault n) none in
    elim (cases_lt i n) [
      | inl lt ↦ first_of_none fault n i parts.0 lt
      | inr ge ↦ (let e : n ≡ i = omega arith in let P : ℕ → Type 0 = λ k. fault k ≡ None in subst P e parts.1)
    ]

pub first_of_fine : (fault : ℕ → Option Row) (n : ℕ) → ((i : ℕ) → i < n → fault i ≡ None) → first_of fault n ≡ None
unfolding first_of
first_of_fine fault zero all = refl
first_of_fine fault (suc n) all = first_then (first_of fault n) (fault n) (first_of_fine fault n (λ i h. all i (omega arith))) ∙ all n (omega arith)

-- the row of a number that is cut short
pub cut_row : (section : ℕ) (file : List ℕ) (fault : CutShort) → fault.length ≡ length file → ◌≡◌ {A = Option Row} (Some (13, section ∷ length file ∷ [])) (Some (number_row section fault))
cut_row section file fault e = sym (ap (λ (n : ℕ). Some (13, section ∷ n ∷ [])) e)

-- Section 1: its number cut short, its number too large, an entry's fault, and none
module _ (file : List ℕ) (levels : ℕ) where
  pub levels_cut : length file < 5 → levels_fault file levels ≡ Some (13, 1 ∷ length file ∷ [])
  unfolding levels_fault
  levels_cut h = first_is _ _ _ (part_cut file 1 3 2 _ h)

  pub levels_many : 5 ≤ length file → levels < counted_in file → levels_fault file levels ≡ Some (14, 1 ∷ 3 ∷ [])
  unfolding levels_fault
  levels_many h more = first_is _ _ _ (part_broken file 1 3 2 _ h (lt-leb (counted_in file) levels more))

  pub levels_entries : 5 ≤ length file → counted_in file ≤ levels → levels_fault file levels ≡ first_of (level_fault file levels) (counted_in file)
  unfolding levels_fault
  levels_entries h le = first_then _ _ (part_fine file 1 3 2 _ h (le-leb (counted_in file) levels le))

  pub levels_none : levels_fault file levels ≡ None → (5 ≤ length file) × (counted_in file ≤ levels) × (first_of (level_fault file levels) (counted_in file) ≡ None)
  unfolding levels_fault
  levels_none e =
      let parts = first_none _ _ e in
      let number = part_none file 1 3 2 _ parts.0 in
      (number.0, leb-true _ _ number.1, parts.1)

-- Section 2, likewise
module _ (file : List ℕ) (levels place : ℕ) where
  abbrev bins_rule : Bool
  bins_rule = leb 1 (bins_in file place) && (leb (bins_in file place) 256 && leb (bins_in file place) levels)

  pub bins_cut : length file < place + 2 → bins_fault file levels place ≡ Some (13, 2 ∷ length file ∷ [])
  unfolding bins_fault
  bins_cut h = first_is _ _ _ (part_cut file 2 place 2 _ h)

  pub bins_many : place + 2 ≤ length file → bins_rule ≡ false → bins_fault file levels place ≡ Some (14, 2 ∷ place ∷ [])
  unfolding bins_fault
  bins_many h e = first_is _ _ _ (part_broken file 2 place 2 _ h e)

  pub bins_entries : place + 2 ≤ length file → bins_rule ≡ true → bins_fault file levels place ≡ first_of (bin_fault file levels place) (bins_in file place)
  unfolding bins_fault
  bins_entries h e = first_then _ _ (part_fine file 2 place 2 _ h e)

  pub bins_none : bins_fault file levels place ≡ None →
      (place + 2 ≤ length file) × (1 ≤ bins_in file place) × (bins_in file place ≤ 256) × (bins_in file place ≤ levels) × (first_of (bin_fault file levels place) (bins_in file place) ≡ None)
  unfolding bins_fault
  bins_none e =
      let parts = first_none _ _ e in
      let number = part_none file 2 place 2 bins_rule parts.0 in
      let a = and_parts (leb 1 (bins_in file place)) _ number.1 in
      let b = and_parts (leb (bins_in file place) 256) _ a.1 in
      (number.0, leb-true _ _ a.0, leb-true _ _ b.0, leb-true _ _ b.1, parts.1)

-- A file's first fault is that of the first section that has one.
module _ (file : List ℕ) where
  pub head_stops : (x : Row) → head_fault file ≡ Some x → first_fault file ≡ Some x
  unfolding first_fault
  head_stops x e = first_is _ _ x e

  module _ (head : head_fault file ≡ None) where
    pub levels_stop : (x : Row) → levels_fault file (levels_in file) ≡ Some x → first_fault file ≡ Some x
    unfolding first_fault
    levels_stop x e = first_then _ _ head ∙ first_is _ _ x e

    module _ (levels : levels_fault file (levels_in file) ≡ None) where
      pub bins_stop : (x : Row) → bins_fault file (levels_in file) (bins_place file) ≡ Some x → first_fault file ≡ Some x
      unfolding first_fault
      bins_stop x e = first_then _ _ head ∙ first_then _ _ levels ∙ first_is _ _ x e

      pub rest_left : bins_fault file (levels_in file) (bins_place file) ≡ None → first_fault file ≡ rest_fault file (bin_place (bins_place file) (bins_in file (bins_place file)))
      unfolding first_fault
      rest_left bins = first_then _ _ head ∙ first_then _ _ levels ∙ first_then _ _ bins
