-- Cells written one after the other over the first of an output.
use Rattle.std.proofs.Common.{◌≡◌, ℕ, ◌+◌, ◌<◌, ◌≤◌, List, [], ◌∷◌, ◌++◌, map, length, get_or, take, drop, set, sym, ap, ◌∙◌, arith}
use Rattle.std.proofs.lemmas.List.{append_assoc, drop_more, set_at, length_push, length-map, length-take-le, take_all, map_more}
use Rattle.counting.specs.Outputs.{over}

-- one cell more
pub over_more : {X : Type 0} (cells before : List X) (v : X) (n : ℕ) → length cells ≡ n → n < length before → set (over cells before) n v ≡ over (cells ++ v ∷ []) before
over_more cells before v n e room =
    let n' = length cells in
    let here = drop_more before n' v (omega arith) in
    let after : n' + 1 ≡ length (cells ++ v ∷ []) = sym (length_push cells v) in
    ap (λ (xs : List _). set (cells ++ xs) n v) here ∙ set_at cells _ _ v n e ∙ sym (append_assoc cells (v ∷ []) (drop (n' + 1) before)) ∙ ap (λ (k : ℕ). (cells ++ v ∷ []) ++ drop k before) after

-- a loop that writes f of each element of a row
module _ (f : ℕ → ℕ) (row before : List ℕ) where
  pub fill_more : (out : List ℕ) (i : ℕ) → i < length row → length row ≤ length before → out ≡ over (map f (take i row)) before → set out i (f (get_or row i 0)) ≡ over (map f (take (i + 1) row)) before
  fill_more out i within room e =
      let long : length (map f (take i row)) ≡ i = length-map (take i row) f ∙ length-take-le i row (omega arith) in
      ap (λ (xs : List ℕ). set xs i (f (get_or row i 0))) e ∙ over_more (map f (take i row)) before (f (get_or row i 0)) i long (omega arith)
      ∙ ap (λ (cells : List ℕ). over cells before) (sym (map_more f row i 0 within))

  pub fill_all : (out : List ℕ) (i : ℕ) → length row ≤ i → out ≡ over (map f (take i row)) before → out ≡ over (map f row) before
  fill_all out i end e = e ∙ ap (λ (xs : List ℕ). over (map f xs) before) (take_all i row end)
