-- What is known of a drawing that no row of the refusal table fits.
use Rattle.std.proofs.Common.{◌≡◌, ℕ, zero, suc, ◌<◌, ◌≤◌, Bool, true, false, cond, ◌&&◌, eqb, ltb, leb, List, [], ◌∷◌, Some, None, sum, count_by, Option, refl, arith}
use Rattle.std.proofs.lemmas.List.Sums.{sum_by-cons}
use Rattle.std.proofs.lemmas.Bool.{and_parts, leb-true, ltb-false, lt-ltb, eqb-false, cond-true}
use Rattle.counting.specs.Ledger.{Ledger, counted_levels, total_of}
use Rattle.counting.specs.Outputs.{Row}
use Rattle.drawing.specs.Drawings.{draw_row, cells_needed}

-- where there are pixels, some level has them
some_have : (xs : List ℕ) → 0 < sum xs → 0 < count_by (ltb 0) xs
some_have [] pixels = pixels
some_have (zero ∷ xs) pixels =
    let all = sum_by-cons (λ x. x) 0 xs in
    let counted = sum_by-cons (λ x. cond (ltb 0 x) 1 0) 0 xs in
    let rest = some_have xs (omega arith) in
    omega arith
some_have (suc x ∷ xs) pixels =
    let yes = lt-ltb 0 (suc x) (omega arith) in
    let here : ◌≡◌ {A = ℕ} (cond {A = ℕ} (ltb 0 (suc x)) 1 0) 1 = cond-true {A = ℕ} (ltb 0 (suc x)) 1 0 yes in
    let counted = sum_by-cons (λ y. cond (ltb 0 y) 1 0) (suc x) xs in
    omega arith

pub record Allowed (g : Ledger) (most cells : ℕ) : Type 0 where
  pub bins : (1 ≤ most) × (most ≤ 256)
  pub some : 0 < counted_levels g
  pub room : cells_needed g most ≤ cells

pub allowed : (g : Ledger) (most cells : ℕ) → draw_row g most cells ≡ None → Allowed g most cells
allowed g most cells e = first (leb 1 most && leb most 256) refl e
  where
    third : (1 ≤ most) × (most ≤ 256) → 0 < total_of g → (b : Bool) → ltb cells (cells_needed g most) ≡ b → cond {A = Option Row} b (Some (7, cells_needed g most ∷ [])) None ≡ None → Allowed g most cells
    third bins pixels true t e = cc
    third bins pixels false t e = record { bins = bins; some = some_have g.at pixels; room = ltb-false _ _ t }

    second : (1 ≤ most) × (most ≤ 256) → (b : Bool) → eqb (total_of g) 0 ≡ b →
        cond {A = Option Row} b (Some (6, [])) (cond {A = Option Row} (ltb cells (cells_needed g most)) (Some (7, cells_needed g most ∷ [])) None) ≡ None → Allowed g most cells
    second bins true t e = cc
    second bins false t e = let ne = eqb-false (total_of g) 0 t in third bins (omega arith) (ltb cells (cells_needed g most)) refl e

    first : (b : Bool) → (leb 1 most && leb most 256) ≡ b →
        cond {A = Option Row} b (cond {A = Option Row} (eqb (total_of g) 0) (Some (6, [])) (cond {A = Option Row} (ltb cells (cells_needed g most)) (Some (7, cells_needed g most ∷ [])) None)) (Some (5, most ∷ [])) ≡ None → Allowed g most cells
    first true t e = let p = and_parts (leb 1 most) (leb most 256) t in second (leb-true 1 most p.0, leb-true most 256 p.1) (eqb (total_of g) 0) refl e
    first false t e = cc
