-- A file and its pair determine each other.
use Rattle.std.proofs.Common.{◌≡◌, ℕ, suc, ◌<◌, ◌≤◌, ltb, List, [], ◌∷◌, ◌++◌, length, get_or, None, sym, refl, ap, ◌∙◌, subst, inl, inr, zero-add, arith}
use Rattle.std.specs.List.{range_with_len, flat_map, AllByRecursion}
use Rattle.std.proofs.ByRecursion.{All-get_or, All-append}
use Rattle.std.proofs.lemmas.List.{get_or_past}
use Rattle.std.proofs.lemmas.List.Sums.{get_or-le-sum_by, length-filter, count_by-le-length}
use Rattle.std.proofs.lemmas.List.FromFn.{length-range_with_len, get_or-range_with_len}
use Rattle.std.proofs.lemmas.Bool.{cases_lt}
use Rattle.counting.specs.Ledger.{Ledger, pixels_at}
use Rattle.counting.specs.Sound.{Sound}
use Rattle.tables.specs.Table.{Table, bound_of, representative_of}
use Rattle.tablefile.specs.Numbers.{word, long}
use Rattle.tablefile.specs.Bytes.{head_bytes, counted_of, level_bytes, levels_bytes, bin_bytes, bins_bytes, bytes_of}
use Rattle.tablefile.specs.Fields.{levels_in, bins_place}
use Rattle.tablefile.specs.Faults.{first_fault}
use Rattle.tablefile.specs.Parts.{ledger_in, table_in}
use Rattle.tablefile.specs.Theorems.{Pair, File, OneToOne}
use Rattle.tablefile.proofs.Bins.{table_lawful}
use Rattle.tablefile.proofs.Entries.{made_lawful, made_ledger}
use Rattle.tablefile.proofs.Faultless.{faultless, file_bytes}
use Rattle.tablefile.proofs.Kept.{kept_keeps}
use Rattle.tablefile.proofs.Pairs.{bound_below, pair_listed, pair_faultless}

abbrev Byte : ℕ → Type 0
Byte b = b < 256

word_bytes : (n : ℕ) → n < 65536 → AllByRecursion Byte (word n)
word_bytes n h = (omega arith, (omega arith, tt))

long_bytes : (n : ℕ) → n ≤ 4294967295 → AllByRecursion Byte (long n)
long_bytes n h = (omega arith, (omega arith, (omega arith, (omega arith, tt))))

joined_bytes : (f : ℕ → List ℕ) (xs : List ℕ) → ((i : ℕ) → i < length xs → AllByRecursion Byte (f (get_or xs i 0))) → AllByRecursion Byte (flat_map f xs)
joined_bytes f [] each = tt
joined_bytes f (x ∷ xs) each = All-append Byte (f x) (flat_map f xs) (each 0 (omega arith)) (joined_bytes f xs (λ i h. each (suc i) (omega arith)))

-- the bytes of a pair are bytes
module _ (g : Ledger) (t : Table) (pair : Pair g t) where
  levels_fit : g.levels ≤ 1024
  levels_fit = pair.histogram.range.1

  few_levels : length (counted_of g) ≤ g.levels
  few_levels =
      omega (arith, length-filter (λ l. ltb 0 (pixels_at g l)) (range_with_len 0 g.levels), count_by-le-length (λ l. ltb 0 (pixels_at g l)) (range_with_len 0 g.levels), length-range_with_len 0 g.levels)

  level_fits : (i : ℕ) → i < length (counted_of g) → AllByRecursion Byte (level_bytes g (get_or (counted_of g) i 0))
  level_fits i h =
      let l = get_or (counted_of g) i 0 in
      let below = (kept_keeps (λ l. ltb 0 (pixels_at g l)) g.levels).below i h in
      let part = get_or-le-sum_by (λ x. x) g.at l 0 (omega (arith, pair.histogram.width)) in
      All-append Byte (word l) (long (pixels_at g l)) (word_bytes l (omega (arith, levels_fit))) (long_bytes (pixels_at g l) (omega (arith, pair.histogram.fits)))

  bin_fits : (i : ℕ) → i < length t.bounds → AllByRecursion Byte (bin_bytes t i)
  bin_fits i h =
      let law = pair.table in
      let bound = bound_below t law i h in
      let grey = law.greys i (omega (arith, law.paired)) in
      All-append Byte (word (bound_of t i)) (word (representative_of t i)) (word_bytes (bound_of t i) (omega (arith, law.range))) (word_bytes (representative_of t i) (omega (arith, law.range)))

  pair_bytes : AllByRecursion Byte (bytes_of g t)
  unfolding bytes_of
  pair_bytes =
      let head : AllByRecursion Byte (head_bytes g.levels) = (omega arith, word_bytes g.levels (omega (arith, levels_fit))) in
      let levels : AllByRecursion Byte (levels_bytes g) =
      All-append Byte (word (length (counted_of g))) (flat_map (level_bytes g) (counted_of g)) (word_bytes (length (counted_of g)) (omega (arith, few_levels, levels_fit)))
      (joined_bytes (level_bytes g) (counted_of g) level_fits) in
      let many = length-range_with_len 0 (length t.bounds) in
      let bins : AllByRecursion Byte (bins_bytes t) =
      All-append Byte (word (length t.bounds)) (flat_map (bin_bytes t) (range_with_len 0 (length t.bounds))) (word_bytes (length t.bounds) (omega (arith, pair.table.few)))
      (joined_bytes (bin_bytes t) (range_with_len 0 (length t.bounds))
      (λ i h. let at : i ≡ get_or (range_with_len 0 (length t.bounds)) i 0 = sym (get_or-range_with_len 0 (length t.bounds) i 0 (omega arith) ∙ zero-add i) in
      subst (λ (n : ℕ). AllByRecursion Byte (bin_bytes t n)) at (bin_fits i (omega arith)))) in
      All-append Byte (head_bytes g.levels) (levels_bytes g ++ bins_bytes t) head (All-append Byte (levels_bytes g) (bins_bytes t) levels bins)

  pub pair_file : File (bytes_of g t)
  pair_file k = elim (cases_lt k (length (bytes_of g t))) [
    | inl within ↦ All-get_or Byte (bytes_of g t) k 0 within pair_bytes
    | inr past ↦ (let e = get_or_past (bytes_of g t) k 0 past in omega arith)
  ]

-- a file without a fault lists a pair
pub listed_pair : (file : List ℕ) → first_fault file ≡ None → Pair (ledger_in file (levels_in file)) (table_in file (levels_in file) (bins_place file))
listed_pair file none =
    let fine = faultless file none in
    let k = levels_in file in
    let range : (2 ≤ k) × (k ≤ 1024) = (fine.head.1, fine.head.2) in
    record {
      histogram = subst Sound (made_ledger file k _ fine.levels.2 range) (made_lawful file k _ fine.levels.2 range);
      table = table_lawful file k (bins_place file) fine.bins.4 range fine.bins.1 fine.bins.2;
      same = refl;
    }

pub pairs_apart : (g h : Ledger) (t u : Table) → Pair g t → Pair h u → bytes_of g t ≡ bytes_of h u → (g ≡ h) × (t ≡ u)
pairs_apart g h t u pair other same =
    let one = pair_listed g t pair in
    let two = pair_listed h u other in
    let ledgers : List ℕ → Ledger = λ file. ledger_in file (levels_in file) in
    let tables : List ℕ → Table = λ file. table_in file (levels_in file) (bins_place file) in
    (sym one.0 ∙ ap ledgers same ∙ two.0, sym one.1 ∙ ap tables same ∙ two.1)

pub one_to_one : OneToOne
one_to_one = record {
  faultless = (λ file bytes none. (ledger_in file (levels_in file), table_in file (levels_in file) (bins_place file), listed_pair file none, file_bytes file bytes (faultless file none)));
  pairs = (λ g t pair. (pair_file g t pair, pair_faultless g t pair));
  write_apart = pairs_apart;
  read_apart = (λ a b g t first second. sym first.1 ∙ second.1);
}
