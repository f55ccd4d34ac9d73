-- How far the entries of section 2 are read, and that entries without a fault list a lawful table.
use Rattle.std.proofs.Common.{◌≡◌, ℕ, suc, ◌+◌, ◌-◌, ◌<◌, ◌≤◌, Bool, true, eqb, ltb, leb, List, map, length, [], ◌∷◌, ◌++◌, get_or, None, sym, refl, ap, ◌∙◌, ap₂, add-one, arith}
use Rattle.std.specs.List.{range_with_len}
use Rattle.std.proofs.lemmas.Bool.{and_parts, leb-true, ltb-true, eqb-true, eq-eqb}
use Rattle.std.proofs.lemmas.Simd.{map-map}
use Rattle.std.proofs.lemmas.List.FromFn.{map-range_with_len_more, length-map-range_with_len, get_or-map-range_with_len}
use Rattle.tables.specs.Table.{Lawful, given}
use Rattle.tables.specs.Bins.{bounds_in, representatives_in}
use Rattle.tables.specs.declared.table.Bin.{Bin}
use Rattle.tablefile.specs.Fields.{bins_in, bin_place, bound_in, representative_in}
use Rattle.tablefile.specs.Faults.{first_of, part_fault, bin_rule, bin_fault, least_next}
use Rattle.tablefile.specs.Numbers.{word_at}
use Rattle.tablefile.specs.Parts.{GotBin, table_in}
use Rattle.tablefile.specs.declared.body.Body.{Body}
use Rattle.tablefile.proofs.Faults.{first_of_more, first_of_none, part_none}

-- the first bins of a file
abbrev bin_in : List ℕ → ℕ → ℕ → Bin
bin_in file place i = record { bound = bound_in file place i; representative = representative_in file place i }

abbrev pub first_bins : List ℕ → ℕ → ℕ → List Bin
first_bins file place i = map (bin_in file place) (range_with_len 0 i)

-- entries 0 to i - 1 of section 2 are read, and none has a fault
pub record BinsUpto (file : List ℕ) (levels place : ℕ) (bins : List Bin) (least i : ℕ) (body : Body) : Type 0 where
  pub fine : first_of (bin_fault file levels place) i ≡ None
  pub so_far : bins ≡ first_bins file place i
  pub rises : least ≡ least_next (bound_in file place) i
  pub file_is : body.file.now ≡ file
  pub levels_are : body.levels ≡ levels
  pub reach : body.place ≡ bin_place place i

pub no_bins : (file : List ℕ) (levels place : ℕ) (bins : List Bin) (body : Body) → bins ≡ [] →
    body.file.now ≡ file → body.levels ≡ levels → body.place ≡ place + 2 → BinsUpto file levels place bins 0 0 body
unfolding first_of
no_bins file levels place bins body none same levels_are at =
    record { fine = refl; so_far = none; rises = refl; file_is = same; levels_are = levels_are; reach = omega arith }

module _ (file : List ℕ) (levels place : ℕ) (bins : List Bin) (least i : ℕ) (body : Body) (u : BinsUpto file levels place bins least i body) where
  pub bins_long : length bins ≡ i
  bins_long = ap length u.so_far ∙ length-map-range_with_len (bin_in file place) 0 i

  -- the fault of the next entry
  pub bin_next : (count : ℕ) → count ≡ bins_in file place →
      part_fault body.file.now 2 body.place 4 (bin_rule body.levels least (eqb (i + 1) count) (word_at body.file.now body.place) (word_at body.file.now (body.place + 2))) ≡ bin_fault file levels place i
  bin_next count e = let a = u.rises in let b = u.file_is in let c = u.levels_are in let d = u.reach in cc

  pub bins_more : (then : Body) (bin : Bin) → bin_fault file levels place i ≡ None → GotBin body then bin →
      BinsUpto file levels place (bins ++ bin ∷ []) (bin.bound + 1) (i + 1) then
  bins_more then bin none got =
      let a = u.file_is in
      let b = u.reach in
      let bound : bin.bound ≡ bound_in file place i = got.0 ∙ ap₂ word_at a b in
      let grey : bin.representative ≡ representative_in file place i = got.1 ∙ ap₂ (λ (f : List ℕ) (p : ℕ). word_at f (p + 2)) a b in
      let is : bin ≡ bin_in file place i = ap₂ (λ (x y : ℕ). record { bound = x; representative = y }) bound grey in
      record {
        fine = first_of_more (bin_fault file levels place) i u.fine none;
        so_far = ap₂ (λ (xs : List Bin) (x : Bin). xs ++ x ∷ []) u.so_far is ∙ sym (map-range_with_len_more (bin_in file place) 0 i i (omega arith));
        rises = rw (add-one i) (ap (λ (n : ℕ). n + 1) bound);
        file_is = got.3.0 ∙ a;
        levels_are = got.3.1 ∙ u.levels_are;
        reach = omega (arith, got.3.2);
      }

-- the table that all bins of a file make
pub bins_listed : (file : List ℕ) (levels place : ℕ) (bins : List Bin) → bins ≡ first_bins file place (bins_in file place) →
    given levels (bounds_in bins) (representatives_in bins) ≡ table_in file levels place
bins_listed file levels place bins e =
    let all = range_with_len 0 (bins_in file place) in
    let at = bin_in file place in
    let bounds = ap bounds_in e ∙ map-map (λ (bin : Bin). bin.bound) at all in
    let greys = ap representatives_in e ∙ map-map (λ (bin : Bin). bin.representative) at all in
    ap₂ (given levels) bounds greys

-- a bin's rule, part by part
pub bin_rules : (levels least : ℕ) (last : Bool) (bound grey : ℕ) → bin_rule levels least last bound grey ≡ true →
    (least ≤ bound) × (bound < levels) × (grey < levels) × (last ≡ true → bound + 1 ≡ levels)
bin_rules levels least last bound grey e =
    let a = and_parts (leb least bound) _ e in
    let b = and_parts (ltb bound levels) _ a.1 in
    let d = and_parts (ltb grey levels) _ b.1 in
    (leb-true _ _ a.0, ltb-true _ _ b.0, ltb-true _ _ d.0, λ t. eqb-true _ _ (rw t at d.1))

-- entries of section 2 without a fault
module _ (file : List ℕ) (levels place : ℕ) (none : first_of (bin_fault file levels place) (bins_in file place) ≡ None) where
  abbrev bins : ℕ
  bins = bins_in file place

  bin_part : (i : ℕ) → i < bins → (bin_place place i + 4 ≤ length file) × (bin_rule levels (least_next (bound_in file place) i) (eqb (i + 1) bins) (bound_in file place i) (representative_in file place i) ≡ true)
  bin_part i h = part_none file 2 (bin_place place i) 4 _ (first_of_none (bin_fault file levels place) bins i none h)

  rules_at : (i : ℕ) → i < bins → (least_next (bound_in file place) i ≤ bound_in file place i) × (bound_in file place i < levels) × (representative_in file place i < levels) × (eqb (i + 1) bins ≡ true → bound_in file place i + 1 ≡ levels)
  rules_at i h = bin_rules levels (least_next (bound_in file place) i) (eqb (i + 1) bins) (bound_in file place i) (representative_in file place i) (bin_part i h).1

  pub bin_reach : (i : ℕ) → i < bins → bin_place place i + 4 ≤ length file
  bin_reach i h = (bin_part i h).0

  pub table_lawful : (2 ≤ levels) × (levels ≤ 1024) → 1 ≤ bins → bins ≤ 256 → Lawful (table_in file levels place)
  table_lawful range some few =
      let bounds = map (bound_in file place) (range_with_len 0 bins) in
      let long = length-map-range_with_len (bound_in file place) 0 bins in
      let also = length-map-range_with_len (representative_in file place) 0 bins in
      let at : (i : ℕ) → i < bins → get_or bounds i 0 ≡ bound_in file place i = λ i h. get_or-map-range_with_len (bound_in file place) 0 bins i i 0 h (omega arith) in
      record {
        range = range;
        few = (omega arith, omega arith);
        paired = also ∙ sym long;
        rising = (λ i h. let more : i + 1 < bins = rw long at h in
            let e = at i (omega arith) in let f = at (i + 1) more in
            let up : least_next (bound_in file place) (suc i) ≤ bound_in file place (suc i) = (rules_at (suc i) (omega arith)).0 in
            let next : bound_in file place (suc i) ≡ bound_in file place (i + 1) = ap (bound_in file place) (sym (add-one i)) in omega arith);
        ends = (let e = at (bins - 1) (omega arith) in
            let last = (rules_at (bins - 1) (omega arith)).3 (eq-eqb _ _ (omega arith)) in rw (long, e) last);
        greys = (λ i h. let inside : i < bins = rw also at h in
            let e = get_or-map-range_with_len (representative_in file place) 0 bins i i 0 inside (omega arith) in
            let small = (rules_at i inside).2 in rw e small);
      }
