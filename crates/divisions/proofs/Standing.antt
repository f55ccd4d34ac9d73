-- The table of a division keeps the rules: strictly rising bounds that end at the highest level, and levels for representatives.
use Rattle.std.proofs.Common.{◌≡◌, ℕ, ◌+◌, ◌-◌, ◌<◌, ◌≤◌, List, [], ◌∷◌, ◌++◌, map, length, get_or, sym, refl, ap, ◌∙◌, inl, inr, arith}
use lib.ListN.{length-map, get_or-map}
use Rattle.std.specs.List.{AllByRecursion}
use Rattle.std.proofs.ByRecursion.{All-append, All-get_or}
use Rattle.std.proofs.lemmas.List.{length_push, get_or_push, get_or_append_left}
use Rattle.std.proofs.lemmas.Bool.{cases_lt}
use Rattle.counting.specs.Ledger.{Ledger, counted_levels}
use Rattle.pricing.specs.Tallies.{Ops}
use Rattle.tables.specs.Table.{Lawful}
use Rattle.counting.specs.Sound.{Sound}
use Rattle.divisions.specs.Divisions.{level_at, representative, Divides}
use Rattle.divisions.specs.Tables.{bins_below, table_to, table_by}
use Rattle.divisions.proofs.Places.{at, rising}
use Rattle.divisions.proofs.Prices.{representative_level}
use Rattle.divisions.proofs.OwnMap.{bounds_below}

-- the bound of the bin at a place
abbrev bound_at : List (ℕ × ℕ) → ℕ → ℕ
bound_at bins i = (get_or bins i (0, 0)).0

-- the bounds rise, and the representatives are levels
record Rising (levels : ℕ) (bins : List (ℕ × ℕ)) : Type 0 where
  pub up : (i : ℕ) → i + 1 < length bins → bound_at bins i < bound_at bins (i + 1)
  pub shows : AllByRecursion (λ b. b.1 < levels) bins

-- one more bin
module _ (bins : List (ℕ × ℕ)) (bin : ℕ × ℕ) where
  before : (i : ℕ) → i < length bins → bound_at (bins ++ bin ∷ []) i ≡ bound_at bins i
  before i h = ap (λ (b : ℕ × ℕ). b.0) (get_or_append_left bins (bin ∷ []) (0, 0) i h)

  last : (i : ℕ) → length bins ≡ i → bound_at (bins ++ bin ∷ []) i ≡ bin.0
  last i e = ap (λ (b : ℕ × ℕ). b.0) (get_or_push bins bin (0, 0) i e)

  push : (levels : ℕ) → Rising levels bins → AllByRecursion (λ b. b.0 < bin.0) bins → bin.1 < levels → Rising levels (bins ++ bin ∷ [])
  push levels R low level = record {
    up = (λ i h.
        let n = length_push bins bin in
        let here = before i (omega arith) in
        elim (cases_lt (i + 1) (length bins)) [
          | inl a ↦ omega (arith, R.up i a, before (i + 1) a)
          | inr a ↦ omega (arith, All-get_or (λ b. b.0 < bin.0) bins i (0, 0) (omega arith) low, last (i + 1) (omega arith))
        ]);
    shows = All-append (λ b. b.1 < levels) bins (bin ∷ []) R.shows (level, tt);
  }

module _ {C : Type 0} (o : Ops C) (error : ℕ → ℕ → ℕ) (g : Ledger) (S : Sound g) where
  -- a bin for each run
  number : (ks : List ℕ) (n : ℕ) → length (bins_below o error g ks n) ≡ length ks
  unfolding bins_below
  number [] n = refl
  number (k ∷ ks) n = length_push (bins_below o error g ks (n - k)) _ ∙ omega (arith, number ks (n - k))

  -- the last run's bin, with a bound that is not below the run's highest level
  with_last : (k : ℕ) (ks : List ℕ) (n bound : ℕ) → Divides (k ∷ ks) n → n ≤ counted_levels g → level_at g (n - 1) ≤ bound → Rising g.levels (bins_below o error g ks (n - k)) →
      Rising g.levels (bins_below o error g ks (n - k) ++ (bound, representative o error g (n - k) k) ∷ [])
  with_last k ks n bound v h top R =
      push (bins_below o error g ks (n - k)) _ g.levels R
      (bounds_below o error g ks (n - k) bound v.2 (λ i a. omega (arith, rising g S i (n - 1) (omega arith) (omega arith))))
      (representative_level o error g S (n - k) k v.0 (omega arith))

  below : (ks : List ℕ) (n : ℕ) → Divides ks n → n ≤ counted_levels g → Rising g.levels (bins_below o error g ks n)
  unfolding bins_below
  below [] n v h = record { up = (λ i a. absurd (omega arith)); shows = tt }
  below (k ∷ ks) n v h = with_last k ks n (level_at g (n - 1)) v h (omega arith) (below ks (n - k) v.2 (omega arith))

  pub table_lawful : (ks : List ℕ) (n : ℕ) → Divides ks n → n ≤ counted_levels g → 0 < length ks → length ks ≤ 256 → Lawful (table_by g.levels (table_to o error g ks n))
  unfolding table_to
  table_lawful [] n v h some most = absurd (omega arith)
  table_lawful (k ∷ ks) n v h some most = record {
    range = S.range;
    few = (omega (arith, size, long), omega (arith, size, long, number ks (n - k)));
    paired = greys ∙ sym size;
    rising = (λ i a. rw (bound i, bound (i + 1)) (R.up i (omega (arith, size))));
    ends = omega (arith, S.range.0, bound (length (map (λ b. b.0) bins) - 1), last front bin (length (map (λ b. b.0) bins) - 1) (omega (arith, size, long)));
    greys = (λ i a. rw (get_or-map (λ (b : ℕ × ℕ). b.1) bins i (0, 0)) (All-get_or (λ b. b.1 < g.levels) bins i (0, 0) (omega (arith, greys)) R.shows));
  }
    where
      bin : ℕ × ℕ
      bin = (g.levels - 1, representative o error g (n - k) k)

      front : List (ℕ × ℕ)
      front = bins_below o error g ks (n - k)

      bins : List (ℕ × ℕ)
      bins = front ++ bin ∷ []

      R : Rising g.levels bins
      R = with_last k ks n (g.levels - 1) v h (omega (arith, (at g S (n - 1) (omega arith)).level)) (below ks (n - k) v.2 (omega arith))

      bound : (i : ℕ) → get_or (map (λ (b : ℕ × ℕ). b.0) bins) i 0 ≡ bound_at bins i
      bound i = get_or-map (λ (b : ℕ × ℕ). b.0) bins i (0, 0)

      long : length bins ≡ length front + 1
      long = length_push front bin

      size : length (map (λ (b : ℕ × ℕ). b.0) bins) ≡ length bins
      size = length-map bins (λ b. b.0)

      greys : length (map (λ (b : ℕ × ℕ). b.1) bins) ≡ length bins
      greys = length-map bins (λ b. b.1)
