-- What a test of neighbours says of bounds; each bin in turn fills the levels up to its bound, so that each level has its lowest bin; and a table keeps the rules.
use Rattle.std.proofs.Common.{◌≡◌, ℕ, ◌+◌, ◌-◌, ◌<◌, ◌≤◌, Bool, true, false, ltb, List, length, get_or, take, replicate, Decides, refl, sym, ap, ◌∙◌, inl, inr, arith, length-append, length-drop}
use borrow.Rule.Slice.PartMut.{put_mid}
use Rattle.std.specs.List.{prefix_len, AllAdjacentBelow, IsAllAdjacentAnswer}
use Rattle.std.proofs.lemmas.List.Sorted.{IsNonDecreasingBy-from_all_adjacent}
use Rattle.std.proofs.lemmas.List.Sums.{prefix_len_is}
use Rattle.std.proofs.lemmas.Bool.{ltb-true, lt-ltb, le-ltb, false≢true, cases_lt, cases_eq}
use Rattle.std.proofs.lemmas.List.{length-map, get_or-map, length-take-le, get_or-take, get_or_append_left, get_or-append_right, get_or-replicate, get_or_default, length-replicate}
use Rattle.tables.specs.Table.{Table, Lawful}
use Rattle.tables.specs.Bins.{bounds_in, representatives_in}
use Rattle.tables.specs.Meaning.{table_of}
use Rattle.tables.specs.declared.table.Bin.{Bin}
use Rattle.tables.specs.declared.table.LevelTable.{LevelTable}

-- what is read past the last bin
abbrev pub no_bin : Bin
no_bin = record { bound = 0; representative = 0 }

-- a bin's bound and representative, read from the bin or from the lists that the bins make
pub bound_at : (bins : List Bin) (i : ℕ) → i < length bins → get_or (bounds_in bins) i 0 ≡ (get_or bins i no_bin).bound
bound_at bins i h = get_or-map (λ bin. bin.bound) bins i no_bin 0 h

pub representative_at : (bins : List Bin) (i : ℕ) → i < length bins → get_or (representatives_in bins) i 0 ≡ (get_or bins i no_bin).representative
representative_at bins i h = get_or-map (λ bin. bin.representative) bins i no_bin 0 h

-- neighbours compared one by one say whether the bounds rise, whatever the items are whose bounds they are
pub risen : {X : Type 0} (bound_of : X → ℕ) (none : X) (items : List X) (bounds : List ℕ) → length bounds ≡ length items →
    ((i : ℕ) → i < length items → get_or bounds i 0 ≡ bound_of (get_or items i none)) →
    (r : Bool) → IsAllAdjacentAnswer (λ low high b. b ≡ ltb (bound_of low) (bound_of high)) items r →
    Decides r ((i : ℕ) → i + 1 < length bounds → get_or bounds i 0 < get_or bounds (i + 1) 0)
risen bound_of none items bounds long at true each = (
  λ _ i h. omega (arith, at i (omega arith), at (i + 1) (omega arith), ltb-true _ _ (sym (each i none (omega arith)))),
  λ _. refl,
)
risen bound_of none items bounds long at false some = (
  λ e. absurd (false≢true e),
  λ all. (
      let up = all some.0 (omega (arith, some.1)) in
      absurd (false≢true (some.2 none ∙ lt-ltb _ _ (omega (arith, at some.0 (omega (arith, some.1)), at (some.0 + 1) some.1))))),
)

-- the bins below `bin` have filled the levels below `first`
pub record Binning (bounds of_level : List ℕ) (bin first : ℕ) : Type 0 where
  pub wide : length of_level ≡ 1024
  pub below : (k : ℕ) → k < bin → get_or bounds k 0 < first
  pub ahead : bin < length bounds → first ≤ get_or bounds bin 0
  pub reached : bin ≡ length bounds → first ≡ get_or bounds (length bounds - 1) 0 + 1
  pub found : (l : ℕ) → l < first → get_or of_level l 0 ≡ prefix_len (λ bound. ltb bound l) bounds

-- and the next bin fills the levels up to its bound
module _ (bounds of_level part : List ℕ) (bin first bound : ℕ) (b : Binning bounds of_level bin first)
    (inside : bin < length bounds) (here : bound ≡ get_or bounds bin 0) (within : bound < 1024)
    (rising : (i : ℕ) → i + 1 < length bounds → get_or bounds i 0 < get_or bounds (i + 1) 0)
    (filled : part ≡ replicate (bound + 1 - first) bin) where
  front : length (take first of_level) ≡ first
  front = length-take-le first of_level (omega (arith, b.wide, b.ahead inside))

  long : length part ≡ bound + 1 - first
  long = ap length filled ∙ length-replicate (bound + 1 - first) bin

  next_found : (l : ℕ) → l < bound + 1 → get_or (put_mid first (bound + 1 - first) of_level part) l 0 ≡ prefix_len (λ bound. ltb bound l) bounds
  next_found l lt = elim (cases_lt l first) [
    | inl before ↦ (
        let same : get_or (put_mid first (bound + 1 - first) of_level part) l 0 ≡ get_or of_level l 0 =
        get_or_append_left (take first of_level) _ 0 l (omega (arith, front)) ∙ get_or-take first of_level l 0 before in
        same ∙ b.found l before)
    | inr after ↦ (
        let new : get_or (put_mid first (bound + 1 - first) of_level part) l 0 ≡ bin =
        get_or-append_right (take first of_level) _ first l 0 front after
        ∙ get_or_append_left part _ 0 (l - first) (omega (arith, long))
        ∙ ap (λ (cells : List ℕ). get_or cells (l - first) 0) filled ∙ get_or-replicate (bound + 1 - first) (l - first) bin 0 (omega arith) in
        let lowest = prefix_len_is (λ bound. ltb bound l) bounds bin 0 (omega arith) (λ k h. lt-ltb _ _ (let below = b.below k h in omega arith)) (λ _. le-ltb _ _ (omega arith)) in
        new ∙ sym lowest)
  ]

  pub next_bin : Binning bounds (put_mid first (bound + 1 - first) of_level part) (bin + 1) (bound + 1)
  next_bin = record {
    wide = simp (length-append, length-drop) (omega (arith, front, long, b.wide, b.ahead inside));
    below = (λ k h. elim (cases_eq k bin) [ inl e ↦ rw (e, here) (omega arith) | inr ne ↦ (let below = b.below k (omega arith) in omega (arith, b.ahead inside)) ]);
    ahead = (λ more. let up = rising bin more in omega arith);
    reached = (λ last. let e : length bounds - 1 ≡ bin = omega arith in rw (e, here) refl);
    found = next_found;
  }

-- no bound of a lawful table is past its levels
pub bound_below : (t : Table) → Lawful t → (i : ℕ) → i < length t.bounds → get_or t.bounds i 0 < t.levels
bound_below t law i h =
    let rising : AllAdjacentBelow (λ x y. x ≤ y) t.bounds (length t.bounds) =
    λ k d more. (let up = law.rising k more in omega (arith, get_or_default t.bounds k d 0 (omega arith), get_or_default t.bounds (k + 1) d 0 more)) in
    omega (arith, law.ends, IsNonDecreasingBy-from_all_adjacent (λ x. x) t.bounds rising i (length t.bounds - 1) 0 (omega arith) (omega arith))

-- a table that exists keeps the rules
pub lawful_table : (t : LevelTable) → Lawful (table_of t)
lawful_table t =
    let bounds : length (bounds_in t.bins.items) ≡ length t.bins.items = length-map t.bins.items (λ bin. bin.bound) in
    let greys : length (representatives_in t.bins.items) ≡ length t.bins.items = length-map t.bins.items (λ bin. bin.representative) in
    record {
      range = t.range;
      few = (omega (arith, t.few), omega (arith, t.few));
      paired = greys ∙ sym bounds;
      rising = (λ i h. t.rising i (omega arith));
      ends = rw bounds t.ends;
      greys = (λ i h. t.greys i (omega arith));
    }
