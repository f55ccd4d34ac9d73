-- What is proved of divisions, tables and figures, for every kind of tally that keeps its laws, every error that keeps its own,
-- and every ledger of 2 to 1,024 levels whose total fits 32 bits.
use Rattle.std.specs.Prelude.{◌≡◌, ℕ, ◌+◌, ◌-◌, ◌<◌, ◌≤◌, true, List, length}
use Rattle.std.specs.List.{ContainsAt, AllByRecursion}
use Rattle.counting.specs.Ledger.{Ledger, counted_levels}
use Rattle.pricing.specs.Tallies.{Ops, Laws, NotAbove}
use Rattle.pricing.specs.Errors.{Fair}
use Rattle.pricing.specs.Kinds.{total_ops}
use Rattle.pricing.specs.Plain.{plain}
use Rattle.pricing.specs.Prices.{Counted, map_tally, PricedAt}
use Rattle.tables.specs.Table.{Lawful, shown_by}
use Rattle.counting.specs.Sound.{Sound}
use Rattle.divisions.specs.Divisions.{levels_of, level_at, run_tally, representative, price, Divides, BestOf, tally_of}
use Rattle.divisions.specs.Tables.{table_for}
use Rattle.divisions.specs.Figures.{PathStep, path_step, candidate}

-- The places list the counted levels: as many as there are, in rising order, none but counted levels, and each of them.
pub record Listed (g : Ledger) : Type 0 where
  pub number : length (levels_of g) ≡ counted_levels g
  pub rising : (i k : ℕ) → i < k → k < counted_levels g → level_at g i < level_at g k
  pub counted : (i : ℕ) → i < counted_levels g → (level_at g i < g.levels) × Counted g (level_at g i)
  pub each : (l : ℕ) → l < g.levels → Counted g l → (i : ℕ) × (i < counted_levels g) × (level_at g i ≡ l)

abbrev pub CountedLevelsAreListed : Type 0
CountedLevelsAreListed = (g : Ledger) → Sound g → Listed g

-- A run's representative and price are what a pricer answers for it, and a pricer can answer nothing else.
pub record Answered {C : Type 0} (o : Ops C) (error : ℕ → ℕ → ℕ) (g : Ledger) (i d : ℕ) : Type 0 where
  pub right : PricedAt o error g (level_at g i) (level_at g (i + d - 1)) (representative o error g i d) (price o error g i d)
  pub only : (r : ℕ) (t : C) → PricedAt o error g (level_at g i) (level_at g (i + d - 1)) r t → (r ≡ representative o error g i d) × (t ≡ price o error g i d)

abbrev pub PricesAreAnswers : Type 0 → Type 0
PricesAreAnswers C = (o : Ops C) (error : ℕ → ℕ → ℕ) (g : Ledger) → Laws o → Sound g → (i d : ℕ) → 0 < d → i + d ≤ counted_levels g → Answered o error g i d

-- The price of a run is not above the tally of showing its levels as any one level.
abbrev pub NoLevelBeatsThePrice : Type 0 → Type 0
NoLevelBeatsThePrice C = (o : Ops C) (error : ℕ → ℕ → ℕ) (g : Ledger) → Laws o → Fair error → Sound g → (i d r : ℕ) → 0 < d → i + d ≤ counted_levels g → r < 1024 →
    NotAbove o (price o error g i d) (run_tally o error g i d r)

-- For a table of at least one bin there is a best division, and only one.
pub record Settled {C : Type 0} (o : Ops C) (error : ℕ → ℕ → ℕ) (g : Ledger) (most : ℕ) : Type 0 where
  pub runs : List ℕ
  pub best : BestOf o error g most runs
  pub only : (others : List ℕ) → BestOf o error g most others → others ≡ runs

abbrev pub OneBestDivision : Type 0 → Type 0
OneBestDivision C = (o : Ops C) (error : ℕ → ℕ → ℕ) (g : Ledger) (most : ℕ) → Laws o → 0 < most → Settled o error g most

-- More bins never raise the least tally.
abbrev pub MoreBinsNeverCostMore : Type 0 → Type 0
MoreBinsNeverCostMore C = (o : Ops C) (error : ℕ → ℕ → ℕ) (g : Ledger) → Laws o → Fair error → Sound g → (few many : ℕ) (runs others : List ℕ) → few ≤ many →
    BestOf o error g few runs → BestOf o error g many others → NotAbove o (tally_of o error g others) (tally_of o error g runs)

-- With a bin for each counted level the least tally is neutral.
abbrev pub EnoughBinsCostNothing : Type 0 → Type 0
EnoughBinsCostNothing C = (o : Ops C) (error : ℕ → ℕ → ℕ) (g : Ledger) → Laws o → Fair error → Sound g → (most : ℕ) (runs : List ℕ) → counted_levels g ≤ most →
    BestOf o error g most runs → tally_of o error g runs ≡ o.neutral

-- The map f shows each counted level as one of the levels in `shown`, of which there are at most `most`. It may group the levels or scatter them.
pub record Serves (g : Ledger) (most : ℕ) (f : ℕ → ℕ) (shown : List ℕ) : Type 0 where
  pub few : length shown ≤ most
  pub levels : AllByRecursion (λ r. r < g.levels) shown
  pub each : (l : ℕ) → l < g.levels → Counted g l → ContainsAt shown (f l)

-- Never beaten: no map to at most `most` levels has a lower tally than the best division.
abbrev pub NeverBeaten : Type 0 → Type 0
NeverBeaten C = (o : Ops C) (error : ℕ → ℕ → ℕ) (g : Ledger) → Laws o → Fair error → Sound g → (most : ℕ) (runs : List ℕ) → BestOf o error g most runs →
    (f : ℕ → ℕ) (shown : List ℕ) → Serves g most f shown → NotAbove o (tally_of o error g runs) (map_tally o error g f)

-- Charged once: the tally of the table's own map is that of its division.
abbrev pub ChargedOnce : Type 0 → Type 0
ChargedOnce C = (o : Ops C) (error : ℕ → ℕ → ℕ) (g : Ledger) → Laws o → Sound g → (runs : List ℕ) → Divides runs (counted_levels g) →
    map_tally o error g (shown_by (table_for o error g runs)) ≡ tally_of o error g runs

-- Under Total such a tally is the plain sum of pixels times error, whatever map to levels it is of: the hold is not reached.
abbrev pub TotalsArePlainSums : Type 0
TotalsArePlainSums = (error : ℕ → ℕ → ℕ) (g : Ledger) → Fair error → Sound g → (f : ℕ → ℕ) → ((l : ℕ) → l < g.levels → Counted g l → f l < 1024) →
    (map_tally total_ops error g f).sum ≡ plain g (λ k. error k (f k)) 0 g.levels

-- A division into 1 to 256 runs has a table that keeps the rules.
abbrev pub TablesStand : Type 0 → Type 0
TablesStand C = (o : Ops C) (error : ℕ → ℕ → ℕ) (g : Ledger) → Sound g → (runs : List ℕ) → Divides runs (counted_levels g) → 0 < length runs → length runs ≤ 256 →
    Lawful (table_for o error g runs)

-- The test by which path steps are counted passes exactly for the path steps, each of them lies where it is tried, and its run is a candidate bin.
pub record Tested (c b i d m : ℕ) : Type 0 where
  pub passes : PathStep c b i d m → path_step c b i d m ≡ true
  pub stands : path_step c b i d m ≡ true → PathStep c b i d m
  pub tried : PathStep c b i d m → (i < c) × (1 ≤ d) × (d ≤ c) × (m < b)
  pub short : PathStep c b i d m → candidate c b i d ≡ true

abbrev pub PathStepsAreTested : Type 0
PathStepsAreTested = (c b i d m : ℕ) → Tested c b i d m
