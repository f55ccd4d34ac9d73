-- A table shows each level by its own run: the tally of the table's map is the tally of the division, each pixel charged once.
use Rattle.std.proofs.Common.{◌≡◌, ℕ, ◌+◌, ◌-◌, ◌<◌, ◌≤◌, List, [], ◌∷◌, ◌++◌, sym, refl, ap, ◌∙◌, ap₂, append_assoc, one-add, arith}
use Rattle.std.specs.List.{AllByRecursion}
use Rattle.std.proofs.ByRecursion.{All-append}
use Rattle.std.proofs.lemmas.Bool.{lt-ltb, le-ltb}
use Rattle.counting.specs.Ledger.{Ledger, counted_levels}
use Rattle.pricing.specs.Tallies.{Ops, Laws}
use Rattle.pricing.specs.Prices.{map_tally}
use Rattle.tables.specs.Table.{shown_by}
use Rattle.counting.specs.Sound.{Sound}
use Rattle.divisions.specs.Divisions.{level_at, representative, price, Divides, divided, tally_of}
use Rattle.divisions.specs.Tables.{bins_below, table_to, table_by, table_for}
use Rattle.divisions.proofs.Places.{at, rising, not_falling}
use Rattle.divisions.proofs.Costs.{spent, spent_ext, spent_split, pixels_of, all_by_places}
use Rattle.divisions.proofs.Prices.{price_by_places}

-- how the table of these bins shows a level
abbrev shown_in : ℕ → List (ℕ × ℕ) → ℕ → ℕ
shown_in levels bins l = shown_by (table_by levels bins) l

-- bins whose bounds lie below a level do not show it
passes : (levels : ℕ) (xs zs : List (ℕ × ℕ)) (l : ℕ) → AllByRecursion (λ b. b.0 < l) xs → shown_in levels (xs ++ zs) l ≡ shown_in levels zs l
passes levels [] zs l a = refl
passes levels (x ∷ xs) zs l a = rw (lt-ltb x.0 l a.0, one-add) (passes levels xs zs l a.1)

-- and the first whose bound does not, shows it
shows : (levels : ℕ) (bin : ℕ × ℕ) (zs : List (ℕ × ℕ)) (l : ℕ) → l ≤ bin.0 → shown_in levels (bin ∷ zs) l ≡ bin.1
shows levels bin zs l h = rw (le-ltb bin.0 l h)

module _ {C : Type 0} (o : Ops C) (error : ℕ → ℕ → ℕ) (g : Ledger) where
  -- the bounds of the first n levels lie below what is above all of these
  pub bounds_below : (ks : List ℕ) (n l : ℕ) → Divides ks n → ((i : ℕ) → i < n → level_at g i < l) → AllByRecursion (λ b. b.0 < l) (bins_below o error g ks n)
  unfolding bins_below
  bounds_below [] n l v h = tt
  bounds_below (k ∷ ks) n l v h =
      All-append (λ b. b.0 < l) (bins_below o error g ks (n - k)) _ (bounds_below ks (n - k) l v.2 (λ i a. h i (omega arith))) (h (n - 1) (omega arith), tt)

module _ {C : Type 0} (o : Ops C) (L : Laws o) (error : ℕ → ℕ → ℕ) (g : Ledger) (S : Sound g) where
  -- what a map that a list of bins gives costs on the first n levels
  abbrev Shown : List (ℕ × ℕ) → ℕ → C
  Shown bins n = spent o (pixels_of g) (λ i. error (level_at g i) (shown_in g.levels bins (level_at g i))) 0 n

  last_bin : (k : ℕ) (ks : List ℕ) (n bound : ℕ) (zs : List (ℕ × ℕ)) → Divides (k ∷ ks) n → n ≤ counted_levels g → level_at g (n - 1) ≤ bound →
      Shown (bins_below o error g ks (n - k) ++ (bound, representative o error g (n - k) k) ∷ zs) (n - k) ≡ divided o (price o error g) ks (n - k) →
      Shown (bins_below o error g ks (n - k) ++ (bound, representative o error g (n - k) k) ∷ zs) n ≡ divided o (price o error g) (k ∷ ks) n
  unfolding divided
  last_bin k ks n bound zs v h top ih =
      ap (Shown bins) (sym whole)
      ∙ spent_split o L (pixels_of g) (λ i. error (level_at g i) (shown_in g.levels bins (level_at g i))) 0 (n - k) k
      ∙ ap₂ (λ (x y : C). o.join x y) (ap (λ (x : ℕ). spent o (pixels_of g) (λ i. error (level_at g i) (shown_in g.levels bins (level_at g i))) x k) none ∙ run) ih
    where
      r : ℕ
      r = representative o error g (n - k) k

      bins : List (ℕ × ℕ)
      bins = bins_below o error g ks (n - k) ++ (bound, r) ∷ zs

      whole : n - k + k ≡ n
      whole = omega arith

      none : 0 + (n - k) ≡ n - k
      none = omega arith

      own : (i : ℕ) → n - k ≤ i → i < n → shown_in g.levels bins (level_at g i) ≡ r
      own i a b =
          passes g.levels (bins_below o error g ks (n - k)) ((bound, r) ∷ zs) (level_at g i) (bounds_below o error g ks (n - k) (level_at g i) v.2 (λ j c. rising g S j i (omega arith) (omega arith)))
          ∙ shows g.levels (bound, r) zs (level_at g i) (omega (arith, not_falling g S i (n - 1) (omega arith) (omega arith)))

      run : spent o (pixels_of g) (λ i. error (level_at g i) (shown_in g.levels bins (level_at g i))) (n - k) k ≡ price o error g (n - k) k
      run =
          spent_ext o (pixels_of g) _ (λ i. error (level_at g i) r) (n - k) k (λ i a b. ap (error (level_at g i)) (own i a (omega arith)))
          ∙ sym (price_by_places o L error g S (n - k) k v.0 (omega arith))

  below_costs : (ks : List ℕ) (n : ℕ) (zs : List (ℕ × ℕ)) → Divides ks n → n ≤ counted_levels g → Shown (bins_below o error g ks n ++ zs) n ≡ divided o (price o error g) ks n
  unfolding divided spent bins_below
  below_costs [] n zs v h = ap (Shown zs) v
  below_costs (k ∷ ks) n zs v h =
      let bin : ℕ × ℕ = (level_at g (n - 1), representative o error g (n - k) k) in
      ap (λ (bins : List (ℕ × ℕ)). Shown bins n) (append_assoc (bins_below o error g ks (n - k)) (bin ∷ []) zs)
      ∙ last_bin k ks n (level_at g (n - 1)) zs v h (omega arith) (below_costs ks (n - k) (bin ∷ zs) v.2 (omega arith))

  table_costs : (ks : List ℕ) (n : ℕ) → Divides ks n → n ≤ counted_levels g → Shown (table_to o error g ks n) n ≡ divided o (price o error g) ks n
  unfolding divided spent table_to
  table_costs [] n v h = ap (Shown []) v
  table_costs (k ∷ ks) n v h =
      last_bin k ks n (g.levels - 1) [] v h (omega (arith, (at g S (n - 1) (omega arith)).level))
      (below_costs ks (n - k) ((g.levels - 1, representative o error g (n - k) k) ∷ []) v.2 (omega arith))

  pub own_map : (runs : List ℕ) → Divides runs (counted_levels g) → map_tally o error g (shown_by (table_for o error g runs)) ≡ tally_of o error g runs
  own_map runs v =
      all_by_places o L g S (λ k. error k (shown_by (table_for o error g runs) k))
      ∙ table_costs runs (counted_levels g) v (omega arith)
