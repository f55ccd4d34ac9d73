-- What stands in the bytes of a pair, and so that they have no fault and list the pair.
use Rattle.std.proofs.Common.{◌≡◌, ℕ, zero, suc, ◌+◌, ◌-◌, ◌<◌, ◌≤◌, Bool, true, false, cond, ◌&&◌, eqb, ltb, leb, List, [], ◌++◌, map, length, get_or, take, drop, None, sum, sym, refl, ap, ◌∙◌, ap₂, inl, inr, append-nil, zero-add, add-one, arith}
use Rattle.std.specs.List.{range_with_len, flat_map}
use Rattle.std.proofs.lemmas.List.{drop_all, length-drop, length-take-le, ext_get_or, get_or-drop, get_or_past, get_or-take}
use Rattle.std.proofs.lemmas.List.Sums.{sum_by-take-drop, length-filter, count_by-le-length}
use Rattle.std.proofs.lemmas.List.FromFn.{length-range_with_len, get_or-range_with_len, fill_by_all}
use Rattle.std.proofs.lemmas.Bool.{lt-ltb, le-leb, eq-eqb, eqb-true, ltb-true, ltb-false, and_from, cases_Bool, cases_lt, both_ways}
use Rattle.counting.specs.Ledger.{Ledger, pixels_at, total_of}
use Rattle.counting.proofs.Rows.{sum_zeros}
use Rattle.tables.specs.Table.{Table, Lawful, bound_of, representative_of, given}
use Rattle.tablefile.specs.Numbers.{word, long}
use Rattle.tablefile.specs.Bytes.{counted_of, level_bytes, levels_bytes, bin_bytes, bins_bytes, bytes_of}
use Rattle.tablefile.specs.Fields.{levels_in, counted_in, level_place, level_in, pixels_in, bins_place, bins_in, bin_place, bound_in, representative_in}
use Rattle.tablefile.specs.Faults.{first_of, head_fault, least_next, pixels_before, level_fault, levels_fault, bin_fault, bins_fault, first_fault}
use Rattle.tablefile.specs.Parts.{pixels_upto, ledger_in, table_in}
use Rattle.tablefile.specs.Theorems.{Pair}
use Rattle.tablefile.proofs.Faults.{first_then, edition_fine, part_fine, first_of_fine, levels_entries, bins_entries, rest_left, rest_none}
use Rattle.tablefile.proofs.Kept.{Keeps, kept_below, kept_keeps, kept_place}
use Rattle.tablefile.proofs.Levels.{Entry, upto_wide, at_entry, elsewhere, upto_sum, before_grows}
use Rattle.tablefile.proofs.Places.{read_word, read_long, read_entries, read_entry}

-- a lawful table's bounds: none below its place, all below the number of levels
module _ (t : Table) (law : Lawful t) where
  pub bound_least : (i : ℕ) → i < length t.bounds → i ≤ bound_of t i
  bound_least zero h = omega arith
  bound_least (suc i) h =
      let before = bound_least i (omega arith) in
      let up : bound_of t i < bound_of t (i + 1) = law.rising i (omega arith) in
      let next : bound_of t (i + 1) ≡ bound_of t (suc i) = ap (bound_of t) (add-one i) in omega arith

  far_below : (d i : ℕ) → i + d + 1 ≡ length t.bounds → bound_of t i < t.levels
  far_below zero i e = let last : length t.bounds - 1 ≡ i = omega arith in let f = ap (bound_of t) last in omega (arith, law.ends)
  far_below (suc d) i e =
      let up : bound_of t i < bound_of t (i + 1) = law.rising i (omega arith) in
      let rest = far_below d (i + 1) (omega arith) in omega arith

  pub bound_below : (i : ℕ) → i < length t.bounds → bound_of t i < t.levels
  bound_below i h = far_below (length t.bounds - 1 - i) i (omega arith)

module _ (g : Ledger) (t : Table) (pair : Pair g t) where
  abbrev pub file : List ℕ
  file = bytes_of g t

  abbrev xs : List ℕ
  xs = counted_of g

  abbrev c : ℕ
  c = length xs

  abbrev k : ℕ
  k = g.levels

  abbrev b : ℕ
  b = length t.bounds

  levels_left : drop 1 file ≡ word k ++ (levels_bytes g ++ bins_bytes t)
  unfolding bytes_of
  levels_left = refl

  counted_left : drop 3 file ≡ word c ++ (flat_map (level_bytes g) xs ++ bins_bytes t)
  unfolding bytes_of
  counted_left = refl

  entries_left : drop (level_place 0) file ≡ flat_map (level_bytes g) xs ++ bins_bytes t
  unfolding bytes_of
  entries_left = refl

  first_byte : get_or file 0 0 ≡ 5
  unfolding bytes_of
  first_byte = refl

  pub levels_are : levels_in file ≡ k
  levels_are = (read_word file 1 k _ levels_left).0

  counted_are : counted_in file ≡ c
  counted_are = (read_word file 3 c _ counted_left).0

  entry_left : (i : ℕ) → i < c → drop (level_place i) file ≡ word (get_or xs i 0) ++ (long (pixels_at g (get_or xs i 0)) ++ (flat_map (level_bytes g) (drop (suc i) xs) ++ bins_bytes t))
  entry_left = read_entry file (level_bytes g) 6 (λ x. refl) level_place (λ i. omega arith) xs (bins_bytes t) entries_left

  level_is : (i : ℕ) → i < c → level_in file i ≡ get_or xs i 0
  level_is i h = (read_word file (level_place i) (get_or xs i 0) _ (entry_left i h)).0

  pixels_part : (i : ℕ) → i < c → (pixels_in file i ≡ pixels_at g (get_or xs i 0)) × (level_place i + 6 ≤ length file)
  pixels_part i h =
      let part = read_long file (level_place i + 2) (pixels_at g (get_or xs i 0)) _ (read_word file (level_place i) (get_or xs i 0) _ (entry_left i h)).1 in
      (part.0, omega (arith, part.2))

  keeps : Keeps (λ l. ltb 0 (pixels_at g l)) xs k
  keeps = kept_keeps (λ l. ltb 0 (pixels_at g l)) k

  listed : (i : ℕ) → i < c → Entry file k i
  listed i h =
      let level = level_is i h in
      let below = keeps.below i h in
      let some = ltb-true _ _ (keeps.passes i h) in
      let pixels = (pixels_part i h).0 in
      record { rises = up i h; level = omega arith; pixels = omega arith }
    where
      up : (j : ℕ) → j < c → least_next (level_in file) j ≤ level_in file j
      up zero h = omega arith
      up (suc j) h =
          let a = level_is j (omega arith) in
          let d = level_is (suc j) h in
          let rises = keeps.rises j (omega arith) in
          let next : get_or xs (j + 1) 0 ≡ get_or xs (suc j) 0 = ap (λ (n : ℕ). get_or xs n 0) (add-one j) in omega arith

  few : k ≤ 1024
  few = pair.histogram.range.1

  past_levels : (l : ℕ) → k ≤ l → pixels_at g l ≡ 0
  past_levels l h = get_or_past g.at l 0 (omega (arith, pair.histogram.width))

  -- each level has the pixels that it has in the ledger
  laid_level : (l : ℕ) → get_or (pixels_upto file c) l 0 ≡ pixels_at g l
  laid_level l = elim (cases_Bool (ltb 0 (pixels_at g l))) [
    | inl some ↦ (
        let more = ltb-true _ _ some in
        let within : l < k = elim (cases_lt l k) [ inl lt ↦ lt | inr ge ↦ absurd (omega (arith, past_levels l ge)) ] in
        let rank = kept_place (λ m. ltb 0 (pixels_at g m)) k l within some in
        let i = length (kept_below (λ m. ltb 0 (pixels_at g m)) l) in
        let level : level_in file i ≡ l = level_is i rank.0 ∙ rank.1 in
        sym (ap (λ (m : ℕ). get_or (pixels_upto file c) m 0) level) ∙ at_entry file k c few listed c i rank.0 (omega arith) ∙ (pixels_part i rank.0).0 ∙ ap (pixels_at g) rank.1)
    | inr none ↦ (
        let zero_here : pixels_at g l ≡ 0 = omega (arith, ltb-false 0 (pixels_at g l) none) in
        elsewhere file k c few listed c l (omega arith) (λ j h e. both_ways _ none (rw (sym (sym (level_is j h) ∙ e)) (keeps.passes j h))) ∙ sym zero_here)
  ]

  laid_is : take k (pixels_upto file c) ≡ g.at
  laid_is =
      let wide = upto_wide file k c few listed c in
      let long_enough : length (take k (pixels_upto file c)) ≡ k = length-take-le k (pixels_upto file c) (omega (arith, pair.histogram.range)) in
      ext_get_or 0 (take k (pixels_upto file c)) g.at (long_enough ∙ sym pair.histogram.width)
      (λ i h. let within : i < k = rw long_enough at h in get_or-take k (pixels_upto file c) i 0 within ∙ laid_level i)

  total_is : pixels_before file c ≡ total_of g
  total_is =
      let all = upto_sum file k c few listed c (omega arith) in
      let parts = sum_by-take-drop (λ x. x) (pixels_upto file c) k in
      let front = ap sum laid_is in
      let back : sum (drop k (pixels_upto file c)) ≡ 0 = sum_zeros (drop k (pixels_upto file c)) (λ l h. get_or-drop k (pixels_upto file c) l 0 ∙ laid_level (k + l) ∙ past_levels (k + l) (omega arith)) in
      omega arith

  -- the entries of section 1 keep the rules
  level_fine : (i : ℕ) → i < c → level_fault file k i ≡ None
  level_fine i h =
      let entry = listed i h in
      let some : pixels_before file (suc i) ≤ pixels_before file c = before_grows file k c few listed (suc i) c (omega arith) in
      let limit : pixels_before file i + pixels_in file i ≤ 4294967295 = omega (arith, total_is, pair.histogram.fits) in
      part_fine file 1 (level_place i) 6 _ (pixels_part i h).1
      (and_from _ _ (le-leb _ _ entry.rises) (and_from _ _ (lt-ltb _ _ entry.level) (and_from _ _ (lt-ltb _ _ entry.pixels) (le-leb _ _ limit))))

  -- Section 2 stands after them
  abbrev place : ℕ
  place = bins_place file

  place_is : place ≡ level_place c
  place_is = ap level_place counted_are

  bins_left : drop place file ≡ word b ++ flat_map (bin_bytes t) (range_with_len 0 b)
  bins_left =
      ap (λ (p : ℕ). drop p file) place_is ∙ read_entries file (level_bytes g) 6 (λ x. refl) level_place (λ i. omega arith) xs (bins_bytes t) entries_left c (omega arith)
      ∙ ap (λ (ys : List ℕ). flat_map (level_bytes g) ys ++ bins_bytes t) (drop_all c xs (omega arith))

  bins_part : (bins_in file place ≡ b) × (drop (place + 2) file ≡ flat_map (bin_bytes t) (range_with_len 0 b)) × (place + 2 ≤ length file)
  bins_part = read_word file place b _ bins_left

  bin_start : drop (bin_place place 0) file ≡ flat_map (bin_bytes t) (range_with_len 0 b) ++ []
  bin_start = let start : bin_place place 0 ≡ place + 2 = omega arith in ap (λ (p : ℕ). drop p file) start ∙ bins_part.1 ∙ sym (append-nil _)

  bin_left : (i : ℕ) → i < b → drop (bin_place place i) file ≡ word (bound_of t i) ++ (word (representative_of t i) ++ (flat_map (bin_bytes t) (drop (suc i) (range_with_len 0 b)) ++ []))
  bin_left i h =
      let many = length-range_with_len 0 b in
      let at : get_or (range_with_len 0 b) i 0 ≡ i = get_or-range_with_len 0 b i 0 h ∙ zero-add i in
      read_entry file (bin_bytes t) 4 (λ x. refl) (bin_place place) (λ i. omega arith) (range_with_len 0 b) [] bin_start i (omega arith)
      ∙ ap (λ (n : ℕ). bin_bytes t n ++ (flat_map (bin_bytes t) (drop (suc i) (range_with_len 0 b)) ++ [])) at

  bound_is : (i : ℕ) → i < b → bound_in file place i ≡ bound_of t i
  bound_is i h = (read_word file (bin_place place i) (bound_of t i) _ (bin_left i h)).0

  grey_part : (i : ℕ) → i < b → (representative_in file place i ≡ representative_of t i) × (bin_place place i + 4 ≤ length file)
  grey_part i h =
      let part = read_word file (bin_place place i + 2) (representative_of t i) _ (read_word file (bin_place place i) (bound_of t i) _ (bin_left i h)).1 in
      (part.0, omega (arith, part.2))

  file_ends : length file ≤ bin_place place b
  file_ends =
      let many = length-range_with_len 0 b in
      let left : drop (bin_place place b) file ≡ [] =
      read_entries file (bin_bytes t) 4 (λ x. refl) (bin_place place) (λ i. omega arith) (range_with_len 0 b) [] bin_start b (omega arith)
      ∙ ap (λ (ys : List ℕ). flat_map (bin_bytes t) ys ++ []) (drop_all b (range_with_len 0 b) (omega arith)) in
      let none = ap length left in
      let rest = length-drop (bin_place place b) file in omega arith

  -- the entries of section 2 keep the rules
  bin_fine : (i : ℕ) → i < b → bin_fault file k place i ≡ None
  bin_fine i h =
      let law = pair.table in
      let same = pair.same in
      let bound = bound_is i h in
      let grey = (grey_part i h).0 in
      let below = bound_below t law i h in
      let small = law.greys i (omega (arith, law.paired)) in
      let bound_small : bound_in file place i < k = omega arith in
      let grey_small : representative_in file place i < k = omega arith in
      let last : (r : Bool) → eqb (i + 1) (bins_in file place) ≡ r → cond r (eqb (bound_in file place i + 1) k) true ≡ true = at_last i h in
      part_fine file 2 (bin_place place i) 4 _ (grey_part i h).1
      (and_from _ _ (le-leb _ _ (up i h)) (and_from _ _ (lt-ltb _ _ bound_small) (and_from _ _ (lt-ltb _ _ grey_small) (last _ refl))))
    where
      up : (j : ℕ) → j < b → least_next (bound_in file place) j ≤ bound_in file place j
      up zero h = omega arith
      up (suc j) h =
          let d = bound_is j (omega arith) in
          let e = bound_is (suc j) h in
          let rises : bound_of t j < bound_of t (j + 1) = pair.table.rising j (omega arith) in
          let next : bound_of t (j + 1) ≡ bound_of t (suc j) = ap (bound_of t) (add-one j) in omega arith

      at_last : (j : ℕ) → j < b → (r : Bool) → eqb (j + 1) (bins_in file place) ≡ r → cond r (eqb (bound_in file place j + 1) k) true ≡ true
      at_last j h true e =
          let here = eqb-true _ _ e in
          let number = bins_part.0 in
          let last : b - 1 ≡ j = omega arith in
          let bound = bound_is j h in
          let ends : bound_of t (b - 1) + 1 ≡ t.levels = pair.table.ends in
          let at = ap (bound_of t) last in
          eq-eqb _ _ (omega (arith, pair.same))
      at_last j h false e = refl

  -- the table that the file lists
  table_is : table_in file k place ≡ t
  table_is =
      let number = bins_part.0 in
      let bounds : map (bound_in file place) (range_with_len 0 b) ≡ t.bounds = sym (fill_by_all (bound_in file place) t.bounds b 0 refl (λ i h. sym (bound_is i h))) in
      let greys : map (representative_in file place) (range_with_len 0 b) ≡ t.representatives = sym (fill_by_all (representative_in file place) t.representatives b 0 pair.table.paired (λ i h. sym (grey_part i h).0)) in
      ap₂ (λ (l n : ℕ). given l (map (bound_in file place) (range_with_len 0 n)) (map (representative_in file place) (range_with_len 0 n))) pair.same number
      ∙ ap₂ (λ (bs rs : List ℕ). given t.levels bs rs) bounds greys

  ledger_is : ledger_in file k ≡ g
  ledger_is =
      ap (λ (n : ℕ). record { levels = k; at = take k (pixels_upto file n) }) counted_are
      ∙ ap (λ (ps : List ℕ). record { levels = k; at = ps }) laid_is

  pub pair_listed : (ledger_in file (levels_in file) ≡ g) × (table_in file (levels_in file) (bins_place file) ≡ t)
  pair_listed = (ap (ledger_in file) levels_are ∙ ledger_is, ap (λ (l : ℕ). table_in file l place) levels_are ∙ table_is)

  -- no fault
  pub pair_faultless : first_fault file ≡ None
  pair_faultless =
      let range = pair.histogram.range in
      let head_part = read_word file 1 k _ levels_left in
      let number_part = read_word file 3 c _ counted_left in
      let low : 2 ≤ levels_in file = omega (arith, levels_are) in
      let high : levels_in file ≤ 1024 = omega (arith, levels_are) in
      let rule : (leb 2 (levels_in file) && leb (levels_in file) 1024) ≡ true = and_from _ _ (le-leb _ _ low) (le-leb _ _ high) in
      let head : head_fault file ≡ None = first_then _ _ (edition_fine file (omega (arith, head_part.2)) first_byte) ∙ part_fine file 0 1 2 _ head_part.2 rule in
      let c_few : c ≤ k = omega (arith, length-filter (λ l. ltb 0 (pixels_at g l)) (range_with_len 0 k), count_by-le-length (λ l. ltb 0 (pixels_at g l)) (range_with_len 0 k), length-range_with_len 0 k) in
      let levels : levels_fault file k ≡ None =
      levels_entries file k number_part.2 (omega (arith, counted_are)) ∙ ap (first_of (level_fault file k)) counted_are ∙ first_of_fine (level_fault file k) c level_fine in
      let law = pair.table in
      let least = bound_least t law (b - 1) (omega (arith, law.few)) in
      let below = bound_below t law (b - 1) (omega (arith, law.few)) in
      let b_few : b ≤ k = omega (arith, pair.same, law.few) in
      let number = bins_part.0 in
      let b_some : 1 ≤ bins_in file place = omega (arith, law.few) in
      let b_most : bins_in file place ≤ 256 = omega (arith, law.few) in
      let b_inside : bins_in file place ≤ k = omega arith in
      let bins_rule : (leb 1 (bins_in file place) && (leb (bins_in file place) 256 && leb (bins_in file place) k)) ≡ true =
      and_from _ _ (le-leb _ _ b_some) (and_from _ _ (le-leb _ _ b_most) (le-leb _ _ b_inside)) in
      let bins : bins_fault file k place ≡ None =
      bins_entries file k place bins_part.2 bins_rule ∙ ap (first_of (bin_fault file k place)) number ∙ first_of_fine (bin_fault file k place) b bin_fine in
      let of_all : levels_fault file (levels_in file) ≡ None = ap (levels_fault file) levels_are ∙ levels in
      let of_bins : bins_fault file (levels_in file) place ≡ None = ap (λ (n : ℕ). bins_fault file n place) levels_are ∙ bins in
      let ends : length file ≤ bin_place place (bins_in file place) = omega (arith, file_ends) in
      rest_left file head of_all of_bins ∙ rest_none file (bin_place place (bins_in file place)) ends
