-- Each theorem at the first ledger of the worked cases, by the squared total.
use Rattle.std.proofs.Common.{◌≡◌, ℕ, ◌+◌, ◌<◌, ◌≤◌, cond, eqb, ltb, List, [], ◌∷◌, get_or, sym, refl, ap, ◌∙◌, arith}
use Rattle.std.specs.List.{ContainsAt}
use Rattle.std.proofs.lemmas.Bool.{leb-true, cond_both}
use Rattle.pricing.specs.Kinds.{held, total_ops}
use Rattle.pricing.specs.Measures.{squared}
use Rattle.pricing.specs.Plain.{plain}
use Rattle.pricing.specs.Prices.{range_tally, map_tally, PricedAt}
use Rattle.pricing.specs.declared.tallies.total.Total.{Total}
use Rattle.pricing.specs.ErrorLaws.{squared_fair}
use Rattle.pricing.specs.KindLaws.{total_laws, held_is}
use Rattle.tables.specs.Table.{given, Lawful, shown_by}
use Rattle.divisions.specs.Divisions.{price, Divides, BestOf, tally_of}
use Rattle.divisions.specs.Figures.{PathStep}
use Rattle.divisions.specs.Samples.{four_levels}
use Rattle.divisions.specs.Theorems.{Serves}
use Rattle.divisions.proofs.Models.{four_sound}
use Rattle.divisions.proofs.Stated.{prices_are_answers, no_level_beats_the_price, best_found, one_best_division, more_bins_never_cost_more, enough_bins_cost_nothing, never_beaten_stated, charged_once, totals_are_plain_sums, tables_stand, path_steps_are_tested}
use Rattle.divisions.proofs.Worked.{computing, two}

pub answered : PricedAt total_ops squared four_levels 1 7 4 (held 64)
unfolding computing
answered = rw (held_is (price total_ops squared four_levels 0 4) 64 refl) at (prices_are_answers total_ops squared four_levels total_laws four_sound 0 4 (omega arith) (omega arith)).right

pub cheapest : (r : ℕ) → r < 1024 → 64 ≤ (range_tally total_ops squared four_levels 1 7 r).sum
unfolding computing
cheapest r h = leb-true 64 _ (no_level_beats_the_price total_ops squared four_levels total_laws squared_fair four_sound 0 4 r (omega arith) (omega arith) h)

-- the best division into two runs
best_two : BestOf total_ops squared four_levels 2 (1 ∷ 3 ∷ [])
unfolding computing
best_two = best_found total_ops squared four_levels 2 total_laws (omega arith)

pub only : (runs : List ℕ) → BestOf total_ops squared four_levels 2 runs → runs ≡ 1 ∷ 3 ∷ []
only runs B = let s = one_best_division total_ops squared four_levels 2 total_laws (omega arith) in s.only runs B ∙ sym (s.only (1 ∷ 3 ∷ []) best_two)

pub more : (runs others : List ℕ) → BestOf total_ops squared four_levels 2 runs → BestOf total_ops squared four_levels 3 others → (tally_of total_ops squared four_levels others).sum ≤ (tally_of total_ops squared four_levels runs).sum
more runs others A B = leb-true _ _ (more_bins_never_cost_more total_ops squared four_levels total_laws squared_fair four_sound 2 3 runs others (omega arith) A B)

pub enough : (runs : List ℕ) → BestOf total_ops squared four_levels 256 runs → (tally_of total_ops squared four_levels runs).sum ≡ 0
enough runs B = ap (λ (t : Total). t.sum) (enough_bins_cost_nothing total_ops squared four_levels total_laws squared_fair four_sound 256 runs (omega arith) B)

pub unbeaten : (f : ℕ → ℕ) (shown : List ℕ) → Serves four_levels 2 f shown → 8 ≤ (map_tally total_ops squared four_levels f).sum
unbeaten f shown s =
    let d = two.1 in
    leb-true 8 _ (rw (d.tally_is, two.2) at (never_beaten_stated total_ops squared four_levels total_laws squared_fair four_sound 2 d.runs d.best f shown s))

pub scattered : Serves four_levels 2 (λ l. cond (eqb l 3) 7 2) (2 ∷ 7 ∷ [])
scattered = record {
  few = omega arith;
  levels = (omega arith, (omega arith, tt));
  each = (λ l _ _. cond_both (eqb l 3) 7 2 (ContainsAt (2 ∷ 7 ∷ [])) (λ _. (1, omega arith, λ d. refl)) (λ _. (0, omega arith, λ d. refl)));
}

one_and_three : Divides (1 ∷ 3 ∷ []) 4
one_and_three = (omega arith, omega arith, (omega arith, omega arith, refl))

pub charged : (map_tally total_ops squared four_levels (shown_by (given 8 (4 ∷ 7 ∷ []) (2 ∷ 7 ∷ [])))).sum ≡ 8
unfolding computing
charged = ap (λ (t : Total). t.sum) (charged_once total_ops squared four_levels total_laws four_sound (1 ∷ 3 ∷ []) one_and_three)

pub summed : plain four_levels (λ k. squared k (shown_by (given 8 (4 ∷ 7 ∷ []) (2 ∷ 7 ∷ [])) k)) 0 8 ≡ 8
summed = sym (totals_are_plain_sums squared four_levels squared_fair four_sound (shown_by (given 8 (4 ∷ 7 ∷ []) (2 ∷ 7 ∷ []))) (λ l _ _.
    cond_both (ltb 4 l) _ 0 (λ i. get_or (2 ∷ 7 ∷ []) i 0 < 1024) (λ _. cond_both (ltb 7 l) 1 0 (λ i. get_or (2 ∷ 7 ∷ []) (1 + i) 0 < 1024) (λ _. omega arith) (λ _. omega arith)) (λ _. omega arith)))
    ∙ charged

pub standing : Lawful (given 8 (4 ∷ 7 ∷ []) (2 ∷ 7 ∷ []))
unfolding computing
standing = tables_stand total_ops squared four_levels four_sound (1 ∷ 3 ∷ []) one_and_three (omega arith) (omega arith)

pub step : PathStep 4 3 1 2 1
step = (path_steps_are_tested 4 3 1 2 1).stands refl
