-- The three sums over a range, one level at a time, and their bounds.
use Rattle.std.proofs.Common.{◌≡◌, ℕ, ◌+◌, ◌*◌, ◌^◌, ◌<◌, ◌≤◌, refl, arith}
use Rattle.std.proofs.lemmas.Nat.{mul-le}
use Rattle.counting.specs.Ledger.{Ledger, pixels_at, total_of}
use Rattle.counting.specs.Meaning.{ledger_of}
use Rattle.counting.specs.declared.histogram.Histogram.{Histogram}
use Rattle.pricing.specs.Measures.{squared}
use Rattle.pricing.specs.Plain.{plain, Added, Small}
use Rattle.pricing.proofs.PlainSums.{plain_next, plain_le, pixels_within}
use Rattle.pricing.proofs.Centroids.{cost_is}

pub few_pixels : (h : Histogram) → total_of (ledger_of h) < 2 ^ 32
few_pixels h = omega (arith, h.balance, h.fits)

pub added_none : (g : Ledger) (a : ℕ) → Added g a 0 0 0 0
unfolding plain
added_none g a = record { counts = refl; adds = refl; adds_squares = refl }

-- the level k more, which has n pixels
pub added_more : (g : Ledger) (a d n k q p l s : ℕ) → n ≡ pixels_at g (a + d) → k ≡ a + d → q ≡ k * k → Added g a d p l s → Added g a (d + 1) (p + n) (l + n * k) (s + n * q)
added_more g a d n k q p l s e at square A = rw (e, square, at) record {
  counts = omega (arith, plain_next g (λ k. 1) a d, A.counts);
  adds = omega (arith, plain_next g (λ k. k) a d, A.adds);
  adds_squares = omega (arith, plain_next g (λ k. k * k) a d, A.adds_squares);
}

-- sums over levels of a histogram are small
pub added_small : (h : Histogram) (a d p l s : ℕ) → a + d ≤ h.levels → Added (ledger_of h) a d p l s → Small p l s
added_small h a d p l s within A =
    let g : Ledger = ledger_of h in
    let low : (k : ℕ) → k < a + d → k ≤ 1023 = λ k b. omega (arith, h.range) in
    record {
      few = omega (arith, few_pixels h, pixels_within g a d, A.counts);
      low = omega (arith, plain_le g (λ k. k) a d 1023 (λ k f b. low k b), A.adds, A.counts);
      low_squares = omega (arith, plain_le g (λ k. k * k) a d 1046529 (λ k f b. mul-le k k 1023 1023 (low k b) (low k b)), A.adds_squares, A.counts);
    }

-- twice the product of a level and the sum of the levels is within the squares
pub added_apart : (g : Ledger) (a d p l s : ℕ) → Added g a d p l s → (r : ℕ) → 2 * (r * l) ≤ s + p * (r * r)
added_apart g a d p l s A r =
    let e : plain g (λ k. squared k r) a d + 2 * (r * l) ≡ s + p * (r * r) = rw (← A.counts, ← A.adds, ← A.adds_squares) at (cost_is g a d r) in
    omega (arith, e)

-- the products of n pixels and the level k
pub products : (n k : ℕ) → n < 2 ^ 32 → k < 1024 → (n * k ≤ 4393751542785) × (k * k ≤ 1046529) × (n * (k * k) ≤ 4494807828269055)
products n k few low =
    let square : k * k ≤ 1046529 = omega (arith, mul-le k k 1023 1023 (omega arith) (omega arith)) in (
      omega (arith, mul-le n k 4294967295 1023 (omega arith) (omega arith)),
      square,
      omega (arith, mul-le n (k * k) 4294967295 1046529 (omega arith) square),
    )
