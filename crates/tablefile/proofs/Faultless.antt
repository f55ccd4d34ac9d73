-- A file without a fault is the bytes of the pair that it lists.
use Rattle.std.proofs.Common.{◌≡◌, ℕ, zero, suc, ◌+◌, ◌/◌, ◌%◌, ◌<◌, ◌≤◌, leb, List, [], ◌∷◌, ◌++◌, map, length, get_or, drop, None, sym, refl, ap, ◌∙◌, ap₂, inl, inr, append_assoc, append-nil, add-one, arith}
use Rattle.std.specs.List.{range_with_len, flat_map}
use Rattle.std.proofs.lemmas.List.{drop_more, drop_all, flat_map_more}
use Rattle.std.proofs.lemmas.List.Folds.{flat_map-map}
use Rattle.std.proofs.lemmas.Option.{none-some}
use Rattle.std.proofs.lemmas.List.FromFn.{length-map-range_with_len, get_or-map-range_with_len}
use Rattle.std.proofs.lemmas.Bool.{and_parts, leb-true, cases_lt, cases_eq}
use Rattle.counting.specs.Ledger.{Ledger, pixels_at}
use Rattle.tables.specs.Table.{Table, bound_of, representative_of}
use Rattle.tablefile.specs.Numbers.{word, long, word_at, long_at}
use Rattle.tablefile.specs.Bytes.{counted_of, level_bytes, levels_bytes, bin_bytes, bins_bytes, bytes_of}
use Rattle.tablefile.specs.Fields.{levels_in, counted_in, level_place, level_in, pixels_in, bins_place, bins_in, bin_place, bound_in, representative_in}
use Rattle.tablefile.specs.Faults.{first_of, edition_fault, level_fault, bin_fault, rest_fault, first_fault}
use Rattle.tablefile.specs.Parts.{ledger_in, table_in}
use Rattle.tablefile.specs.Theorems.{File}
use Rattle.tablefile.proofs.Faults.{first_none, part_none, edition_cut, edition_other, levels_none, bins_none, rest_some}
use Rattle.tablefile.proofs.Kept.{counting_more}
use Rattle.tablefile.proofs.Levels.{Entry, laid_at, at_entry, counted_are}
use Rattle.tablefile.proofs.Entries.{entries, entry_reach}
use Rattle.tablefile.proofs.Bins.{bin_reach}

-- what a file without a fault keeps to
pub record Faultless (file : List ℕ) : Type 0 where
  pub edition : (1 ≤ length file) × (get_or file 0 0 ≡ 5)
  pub head : (3 ≤ length file) × (2 ≤ levels_in file) × (levels_in file ≤ 1024)
  pub levels : (5 ≤ length file) × (counted_in file ≤ levels_in file) × (first_of (level_fault file (levels_in file)) (counted_in file) ≡ None)
  pub bins : (bins_place file + 2 ≤ length file) × (1 ≤ bins_in file (bins_place file)) × (bins_in file (bins_place file) ≤ 256) × (bins_in file (bins_place file) ≤ levels_in file)
      × (first_of (bin_fault file (levels_in file) (bins_place file)) (bins_in file (bins_place file)) ≡ None)
  pub rest : length file ≤ bin_place (bins_place file) (bins_in file (bins_place file))

edition_none : (file : List ℕ) → edition_fault file ≡ None → (1 ≤ length file) × (get_or file 0 0 ≡ 5)
edition_none file none = elim (cases_lt (length file) 1) [
  | inl cut ↦ absurd (none-some _ (sym none ∙ edition_cut file cut))
  | inr some ↦ (some, elim (cases_eq (get_or file 0 0) 5) [ inl e ↦ e | inr ne ↦ absurd (none-some _ (sym none ∙ edition_other file some ne)) ])
]

rest_end : (file : List ℕ) (end : ℕ) → rest_fault file end ≡ None → length file ≤ end
rest_end file end none = elim (cases_lt end (length file)) [ inl more ↦ absurd (none-some _ (sym none ∙ rest_some file end more)) | inr all ↦ all ]

pub faultless : (file : List ℕ) → first_fault file ≡ None → Faultless file
unfolding first_fault
faultless file none =
    let a = first_none _ _ none in
    let h = first_none _ _ a.0 in
    let levels = part_none file 0 1 2 _ h.1 in
    let range = and_parts (leb 2 (levels_in file)) _ levels.1 in
    let b = first_none _ _ a.1 in
    let d = first_none _ _ b.1 in
    record {
      edition = edition_none file h.0;
      head = (levels.0, leb-true _ _ range.0, leb-true _ _ range.1);
      levels = levels_none file (levels_in file) b.0;
      bins = bins_none file (levels_in file) (bins_place file) d.0;
      rest = rest_end file _ d.1;
    }

-- a file cut at its places
module _ (file : List ℕ) (bytes : File file) where
  pub word_cut : (p : ℕ) → p + 2 ≤ length file → drop p file ≡ word (word_at file p) ++ drop (p + 2) file
  word_cut p h =
      let a = bytes p in let b = bytes (p + 1) in
      let high : get_or file p 0 ≡ word_at file p / 256 = omega arith in
      let low : get_or file (p + 1) 0 ≡ word_at file p % 256 = omega arith in
      let next : p + 1 + 1 ≡ p + 2 = omega arith in
      drop_more file p 0 (omega arith)
      ∙ ap₂ (λ (x : ℕ) (xs : List ℕ). x ∷ xs) high (drop_more file (p + 1) 0 (omega arith) ∙ ap₂ (λ (x n : ℕ). x ∷ drop n file) low next)

  pub long_cut : (p : ℕ) → p + 4 ≤ length file → drop p file ≡ long (long_at file p) ++ drop (p + 4) file
  long_cut p h =
      let n = long_at file p in
      let a = bytes p in let b = bytes (p + 1) in let d = bytes (p + 2) in let e = bytes (p + 3) in
      let b3 : get_or file p 0 ≡ n / 16777216 = omega arith in
      let b2 : get_or file (p + 1) 0 ≡ n / 65536 % 256 = omega arith in
      let b1 : get_or file (p + 2) 0 ≡ n / 256 % 256 = omega arith in
      let b0 : get_or file (p + 3) 0 ≡ n % 256 = omega arith in
      let p2 : p + 1 + 1 ≡ p + 2 = omega arith in
      let p3 : p + 2 + 1 ≡ p + 3 = omega arith in
      let p4 : p + 3 + 1 ≡ p + 4 = omega arith in
      let cons : ℕ → List ℕ → List ℕ = λ x xs. x ∷ xs in
      drop_more file p 0 (omega arith) ∙ ap₂ cons b3
      (drop_more file (p + 1) 0 (omega arith) ∙ ap₂ cons b2 (ap (λ (k : ℕ). drop k file) p2
      ∙ drop_more file (p + 2) 0 (omega arith) ∙ ap₂ cons b1 (ap (λ (k : ℕ). drop k file) p3
      ∙ drop_more file (p + 3) 0 (omega arith) ∙ ap₂ cons b0 (ap (λ (k : ℕ). drop k file) p4))))

  -- parts that follow each other
  parts_cut : (f : ℕ → List ℕ) (at : ℕ → ℕ) (n : ℕ) → ((i : ℕ) → i < n → drop (at i) file ≡ f i ++ drop (at (suc i)) file) →
      drop (at 0) file ≡ flat_map f (range_with_len 0 n) ++ drop (at n) file
  parts_cut f at zero part = refl
  parts_cut f at (suc n) part =
      let more : flat_map f (range_with_len 0 n) ++ f n ≡ flat_map f (range_with_len 0 (suc n)) =
      flat_map_more f [] (range_with_len 0 n) n ∙ ap (flat_map f) (sym (counting_more n) ∙ ap (range_with_len 0) (add-one n)) in
      parts_cut f at n (λ i h. part i (omega arith)) ∙ ap (λ (xs : List ℕ). flat_map f (range_with_len 0 n) ++ xs) (part n (omega arith))
      ∙ sym (append_assoc (flat_map f (range_with_len 0 n)) (f n) (drop (at (suc n)) file)) ∙ ap (λ (xs : List ℕ). xs ++ drop (at (suc n)) file) more

  module _ (fine : Faultless file) where
    abbrev k : ℕ
    k = levels_in file

    abbrev g : Ledger
    g = ledger_in file k

    abbrev place : ℕ
    place = bins_place file

    abbrev t : Table
    t = table_in file k place

    listed : (i : ℕ) → i < counted_in file → Entry file k i
    listed = entries file k (counted_in file) fine.levels.2

    level_cut : (i : ℕ) → i < counted_in file → drop (level_place i) file ≡ level_bytes g (level_in file i) ++ drop (level_place (suc i)) file
    level_cut i h =
        let p = level_place i in
        let reach = entry_reach file k (counted_in file) fine.levels.2 i h in
        let pixels : pixels_in file i ≡ pixels_at g (level_in file i) =
        sym (laid_at file k (counted_in file) fine.head.2 listed (level_in file i) (listed i h).level ∙ at_entry file k (counted_in file) fine.head.2 listed (counted_in file) i h (omega arith)) in
        let next : p + 2 + 4 ≡ level_place (suc i) = omega arith in
        word_cut p (omega arith) ∙ ap (λ (xs : List ℕ). word (level_in file i) ++ xs) (long_cut (p + 2) (omega arith) ∙ ap₂ (λ (n q : ℕ). long n ++ drop q file) pixels next)

    levels_cut : drop 3 file ≡ levels_bytes g ++ drop place file
    levels_cut =
        let c = counted_in file in
        let are : counted_of g ≡ map (level_in file) (range_with_len 0 c) = counted_are file k c fine.head.2 listed in
        let many : c ≡ length (counted_of g) = sym (ap length are ∙ length-map-range_with_len (level_in file) 0 c) in
        let same : flat_map (λ i. level_bytes g (level_in file i)) (range_with_len 0 c) ≡ flat_map (level_bytes g) (counted_of g) =
        sym (flat_map-map (level_bytes g) (level_in file) (range_with_len 0 c)) ∙ ap (flat_map (level_bytes g)) (sym are) in
        word_cut 3 fine.levels.0 ∙ ap₂ (λ (n : ℕ) (xs : List ℕ). word n ++ xs) many
        (parts_cut (λ i. level_bytes g (level_in file i)) level_place c level_cut ∙ ap (λ (xs : List ℕ). xs ++ drop place file) same)

    bin_cut : (i : ℕ) → i < bins_in file place → drop (bin_place place i) file ≡ bin_bytes t i ++ drop (bin_place place (suc i)) file
    bin_cut i h =
        let p = bin_place place i in
        let b = bins_in file place in
        let reach = bin_reach file k place fine.bins.4 i h in
        let bound : bound_in file place i ≡ bound_of t i = sym (get_or-map-range_with_len (bound_in file place) 0 b i i 0 h (omega arith)) in
        let grey : representative_in file place i ≡ representative_of t i = sym (get_or-map-range_with_len (representative_in file place) 0 b i i 0 h (omega arith)) in
        let next : p + 2 + 2 ≡ bin_place place (suc i) = omega arith in
        word_cut p (omega arith) ∙ ap₂ (λ (n : ℕ) (xs : List ℕ). word n ++ xs) bound (word_cut (p + 2) (omega arith) ∙ ap₂ (λ (n q : ℕ). word n ++ drop q file) grey next)

    bins_cut : drop place file ≡ bins_bytes t
    bins_cut =
        let b = bins_in file place in
        let many : b ≡ length t.bounds = sym (length-map-range_with_len (bound_in file place) 0 b) in
        let start : place + 2 ≡ bin_place place 0 = omega arith in
        let none : drop (bin_place place b) file ≡ [] = drop_all (bin_place place b) file fine.rest in
        let entries_are : drop (place + 2) file ≡ flat_map (bin_bytes t) (range_with_len 0 b) =
        ap (λ (q : ℕ). drop q file) start ∙ parts_cut (bin_bytes t) (bin_place place) b bin_cut ∙ ap (λ (xs : List ℕ). flat_map (bin_bytes t) (range_with_len 0 b) ++ xs) none ∙ append-nil _ in
        word_cut place fine.bins.0 ∙ ap (λ (xs : List ℕ). word b ++ xs) entries_are ∙ ap (λ (n : ℕ). word n ++ flat_map (bin_bytes t) (range_with_len 0 n)) many

    pub file_bytes : bytes_of g t ≡ file
    unfolding bytes_of
    file_bytes =
        let first : file ≡ get_or file 0 0 ∷ drop 1 file = drop_more file 0 0 fine.edition.0 in
        let levels_are : drop 1 file ≡ word k ++ (levels_bytes g ++ bins_bytes t) =
        word_cut 1 fine.head.0 ∙ ap (λ (xs : List ℕ). word k ++ xs) (levels_cut ∙ ap (λ (xs : List ℕ). levels_bytes g ++ xs) bins_cut) in
        sym (first ∙ ap₂ (λ (x : ℕ) (xs : List ℕ). x ∷ xs) fine.edition.1 levels_are)
