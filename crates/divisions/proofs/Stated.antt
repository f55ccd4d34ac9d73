-- The theorems, as the contracts state them.
use Rattle.std.proofs.Common.{◌≡◌, ℕ, ◌+◌, ◌<◌, min, leb, ◌⊎◌, sym, ◌∙◌, inl, inr, arith}
use Rattle.std.proofs.lemmas.Bool.{cases_eq, and_from, le-leb}
use Rattle.counting.specs.Ledger.{Ledger, counted_levels}
use Rattle.pricing.specs.Tallies.{Ops, Laws}
use Rattle.divisions.specs.Divisions.{bins_of, price, BestOf}
use Rattle.divisions.specs.Figures.{longest}
use Rattle.divisions.specs.Theorems.{CountedLevelsAreListed, PricesAreAnswers, NoLevelBeatsThePrice, OneBestDivision, MoreBinsNeverCostMore, EnoughBinsCostNothing, NeverBeaten, ChargedOnce, TotalsArePlainSums, TablesStand, PathStepsAreTested}
use Rattle.divisions.specs.Recurrence.{best_division}
use Rattle.divisions.proofs.Divisions.{best_division_best, best_unique}
use Rattle.divisions.proofs.Places.{rank, rank_all, at, rising, place_of}
use Rattle.divisions.proofs.Prices.{price_priced, priced_is, price_le}
use Rattle.divisions.proofs.Beaten.{never_beaten, more_bins, enough_bins}
use Rattle.divisions.proofs.OwnMap.{own_map}
use Rattle.divisions.proofs.Sums.{plain_sums}
use Rattle.divisions.proofs.Standing.{table_lawful}
use Rattle.divisions.proofs.Cuts.{step_true, stands, tested}

pub counted_levels_are_listed : CountedLevelsAreListed
unfolding rank
counted_levels_are_listed g S = record {
  number = rank_all g S;
  rising = rising g S;
  counted = (λ i h. ((at g S i h).level, (at g S i h).counted));
  each = (λ l h k. let p = place_of g S l h k in (rank g l, p.0, p.1));
}

pub prices_are_answers : {C : Type 0} → PricesAreAnswers C
prices_are_answers o error g L S i d pos h = record { right = price_priced o L error g S i d pos h; only = (λ r t p. priced_is o L error g S i d r t pos h p) }

pub no_level_beats_the_price : {C : Type 0} → NoLevelBeatsThePrice C
no_level_beats_the_price o error g L F S = price_le o L error F g S

-- the best division, found from the best ones of fewer levels
pub best_found : {C : Type 0} (o : Ops C) (error : ℕ → ℕ → ℕ) (g : Ledger) (most : ℕ) → Laws o → 0 < most → BestOf o error g most (best_division o (price o error g) (bins_of g most) (counted_levels g))
best_found o error g most L pos =
    let b = best_division_best o L (price o error g) (bins_of g most) (counted_levels g) (omega arith) (enough (counted_levels g)) in
    record { number = b.1; best = b.0 }
  where
    enough : (c : ℕ) → (c ≡ 0) ⊎ (0 < min most c)
    enough c = elim (cases_eq c 0) [ inl e ↦ inl e | inr e ↦ inr (omega arith) ]

pub one_best_division : {C : Type 0} → OneBestDivision C
one_best_division o error g most L pos =
    let b = best_found o error g most L pos in
    record {
      runs = best_division o (price o error g) (bins_of g most) (counted_levels g);
      best = b;
      only = (λ others B. best_unique o L (price o error g) others _ (counted_levels g) (B.number ∙ sym b.number) B.best b.best);
    }

pub more_bins_never_cost_more : {C : Type 0} → MoreBinsNeverCostMore C
more_bins_never_cost_more o error g L F S = more_bins o L error F g S

pub enough_bins_cost_nothing : {C : Type 0} → EnoughBinsCostNothing C
enough_bins_cost_nothing o error g L F S = enough_bins o L error F g S

pub never_beaten_stated : {C : Type 0} → NeverBeaten C
never_beaten_stated o error g L F S most runs B f shown s = never_beaten o L error F g S most runs B f shown s.few s.levels s.each

pub charged_once : {C : Type 0} → ChargedOnce C
charged_once o error g L S = own_map o L error g S

pub totals_are_plain_sums : TotalsArePlainSums
totals_are_plain_sums = plain_sums

pub tables_stand : {C : Type 0} → TablesStand C
tables_stand o error g S runs v = table_lawful o error g S runs (counted_levels g) v (omega arith)

pub path_steps_are_tested : PathStepsAreTested
path_steps_are_tested c b i d m = record {
  passes = tested c b i d m;
  stands = stands c b i d m;
  tried = (λ p. let s = step_true c b i d m (tested c b i d m p) in (omega (arith, s.some, s.fits), s.some, omega (arith, s.fits), s.bin));
  short = (λ p.
      let s = step_true c b i d m (tested c b i d m p) in
      and_from (leb d (longest c b)) (leb (i + d) c) (le-leb d (longest c b) (omega (arith, s.fits, s.bin, s.under.0, s.over.0))) (le-leb (i + d) c s.fits));
}
