use Rattle.std.proofs.Common.{◌≡◌, ℕ, ◌<◌, ◌≤◌, ltb, List, length, Option, Some, None, MatchOption, sym, arith, rules, tests}
use Rattle.std.specs.List.{prefix_len, AllWithin, HoldsAt}
use Rattle.std.proofs.lemmas.Bool.{lt-ltb, le-ltb}
use Rattle.std.proofs.lemmas.Iterator.{IsFirst-from_position, YieldsList-from_slice}
use Rattle.std.proofs.lemmas.List.Sums.{prefix_len_is}
use Rattle.tables.proofs.table.rows.first_no_bin.Goals as goal

-- the first index that is no bin's, by what stands before it
first_beyond : (bins : ℕ) (xs : List ℕ) (r : Option ℕ) →
    MatchOption r (AllWithin (λ x. x < bins) xs 0 (length xs)) (λ i. (i < length xs) × HoldsAt (λ x. bins ≤ x) xs i × AllWithin (λ x. x < bins) xs 0 i) →
    MatchOption r (prefix_len (λ x. ltb x bins) xs ≡ length xs) (λ i. (i ≡ prefix_len (λ x. ltb x bins) xs) × (i < length xs))
first_beyond bins xs None all = prefix_len_is (λ x. ltb x bins) xs (length xs) 0 (omega arith) (λ k h. lt-ltb _ _ (all k 0 (omega arith) h)) (λ h. absurd (omega arith))
first_beyond bins xs (Some i) found =
    (sym (prefix_len_is (λ x. ltb x bins) xs i 0 (omega (arith, found.0)) (λ k h. lt-ltb _ _ (found.2 k 0 (omega arith) h)) (λ _. le-ltb _ _ (found.1 0))), found.0)

pub returns : goal.returns
returns c =
    let indices = c.args.indices.now in
    let found = IsFirst-from_position _ _ _ (λ x. c.args.bins ≤ x) (λ x. x < c.args.bins) c.position.ensures.ran (YieldsList-from_slice indices cc) (λ x q k. search (rules, tests)) (λ x q k. search (rules, tests)) in
    first_beyond c.args.bins indices _ found
