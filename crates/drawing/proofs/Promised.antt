-- From the filled cells to what a drawing promises.
use Rattle.std.proofs.Common.{◌≡◌, ℕ, zero, suc, ◌+◌, ◌-◌, ◌<◌, ◌≤◌, List, ◌∷◌, sym, refl, ap, ◌∙◌, subst, ap₂, inr, arith}
use Rattle.counting.specs.Ledger.{Ledger, counted_levels}
use Rattle.pricing.specs.Tallies.{Ops, Laws}
use Rattle.pricing.specs.Errors.{Fair, SameErrors}
use Rattle.pricing.specs.Prices.{map_tally}
use Rattle.tables.specs.Table.{Table, Lawful, bin_of, shown_by}
use Rattle.tables.proofs.Rows.{bin_inside}
use Rattle.counting.specs.Sound.{Sound}
use Rattle.divisions.specs.Divisions.{price, divided, bins_of, BestOf, tally_of, Divides}
use Rattle.divisions.specs.Figures.{priced_of, compared_of}
use Rattle.divisions.specs.Tables.{table_for, table_by}
use Rattle.drawing.specs.Cells.{Cell, Searched}
use Rattle.divisions.specs.Recurrence.{best_division, least_tally}
use Rattle.drawing.specs.Drawings.{Drew, DrawnTotalsArePlain}
use Rattle.pricing.specs.Kinds.{total_ops}
use Rattle.pricing.specs.declared.tallies.total.Total.{Total}
use Rattle.drawing.specs.declared.receipt.Receipt.{Receipt}
use Rattle.divisions.proofs.Divisions.{best_is, best_same, best_divides, best_division_best}
use Rattle.divisions.proofs.Same.{price_same, tally_same, table_same}
use Rattle.divisions.proofs.Stated.{best_found, never_beaten_stated, charged_once, enough_bins_cost_nothing, tables_stand, totals_are_plain_sums}

-- Errors that agree at every level: the same best divisions, cells and tables.
module _ {C : Type 0} (o : Ops C) (L : Laws o) (e e' : ℕ → ℕ → ℕ) (same : SameErrors e e') (g : Ledger) (S : Sound g) where
  divisions_same : (q n : ℕ) → q ≤ n → 0 < q → n ≤ counted_levels g → best_division o (price o e g) q n ≡ best_division o (price o e' g) q n
  divisions_same q n few some h =
      let f = best_division_best o L (price o e g) q n few (inr some) in
      best_is o L (price o e' g) (best_division o (price o e g) q n) n (best_same o (price o e g) (price o e' g) _ n (λ i d a b. price_same o e e' same g S i d a (omega arith)) f.0)
      ∙ ap (λ (x : ℕ). best_division o (price o e' g) x n) f.1

  before_same : (m link : ℕ) → m ≤ link → link ≤ counted_levels g → best_division o (price o e g) m link ≡ best_division o (price o e' g) m link
  unfolding best_division
  before_same zero link few h = refl
  before_same (suc m) link few h = divisions_same (suc m) link few (omega arith) h

  least_same : (q n : ℕ) → q ≤ n → 0 < q → n ≤ counted_levels g → least_tally o (price o e g) q n ≡ least_tally o (price o e' g) q n
  least_same q n few some h =
      let f = best_division_best o L (price o e g) q n few (inr some) in
      tally_same o e e' same g S (best_division o (price o e g) q n) n h (best_divides o (price o e g) _ n f.0)
      ∙ ap (λ (ks : List ℕ). divided o (price o e' g) ks n) (divisions_same q n few some h)

  cell_same : (m n : ℕ) (t : C) (link : ℕ) → m < n → n ≤ counted_levels g → Cell o (price o e g) m n t link → Cell o (price o e' g) m n t link
  cell_same m n t link under h c = record {
    least = c.least ∙ least_same (m + 1) n (omega arith) (omega arith) h;
    runs = sym (divisions_same (m + 1) n (omega arith) (omega arith) h) ∙ c.runs ∙ ap (λ (ks : List ℕ). (n - link) ∷ ks) (before_same m link c.low (omega (arith, c.high)));
    low = c.low;
    high = c.high;
  }

  pub searched_same : (c b : ℕ) (ts : List C) (ls : List ℕ) → c ≡ counted_levels g → Searched o (price o e g) c b (c + 1) (c + 1) ts ls → Searched o (price o e' g) c b (c + 1) (c + 1) ts ls
  searched_same c b ts ls all s = record {
    room = s.room;
    filled = (λ m k lt need. cell_same m k _ _ need.under (omega arith) (s.filled m k lt need));
    first = (λ z. absurd (omega arith));
    tried = (λ m p need lt. absurd (omega arith));
  }

  pub table_for_same : (b c : ℕ) → c ≡ counted_levels g → 0 < b → b ≤ c →
      table_for o e g (best_division o (price o e g) b c) ≡ table_for o e' g (best_division o (price o e' g) b c)
  table_for_same b c all some few =
      let f = best_division_best o L (price o e g) b c few (inr some) in
      let divides : Divides (best_division o (price o e g) b c) (counted_levels g) = subst (λ (n : ℕ). Divides (best_division o (price o e g) b c) n) all (best_divides o (price o e g) _ c f.0) in
      ap (table_by g.levels) (table_same o e e' same g S (best_division o (price o e g) b c) (counted_levels g) (omega arith) divides)
      ∙ ap (table_for o e' g) (divisions_same b c few some (omega arith))

-- what the receipt and the table promise
module _ {C : Type 0} (o : Ops C) (L : Laws o) (error : ℕ → ℕ → ℕ) (F : Fair error) (g : Ledger) (S : Sound g) (most c b : ℕ)
    (all : c ≡ counted_levels g) (bins : b ≡ bins_of g most) (allowed : 1 ≤ most) (some : 0 < c) where
  pub drew : (receipt : Receipt C) (table : Table) → receipt.tally ≡ least_tally o (price o error g) b c → table ≡ table_for o error g (best_division o (price o error g) b c) →
      receipt.bins ≡ b → receipt.priced ≡ priced_of g most → receipt.compared ≡ compared_of g most → Drew o error g most receipt table
  drew receipt table tally_is table_is bins_is priced_is compared_is =
      let runs = best_division o (price o error g) b c in
      let found = best_found o error g most L allowed in
      let runs_are : best_division o (price o error g) (bins_of g most) (counted_levels g) ≡ runs = ap₂ (best_division o (price o error g)) (sym bins) (sym all) in
      let best : BestOf o error g most runs = subst (BestOf o error g most) runs_are found in
      let total : receipt.tally ≡ tally_of o error g runs = tally_is ∙ ap (divided o (price o error g) runs) all in
      let divides = best_divides o (price o error g) runs (counted_levels g) best.best in
      record {
        charged_once = total ∙ sym (charged_once o error g L S runs divides) ∙ ap (λ (t : Table). map_tally o error g (shown_by t)) (sym table_is);
        never_higher = (λ f shown s. rw total (never_beaten_stated o error g L F S most runs best f shown s));
        runs = runs;
        best = best;
        table_is = table_is;
        levels = ap (λ (t : Table). t.levels) table_is;
        bins = bins_is ∙ bins;
        priced = priced_is;
        compared = compared_is;
        enough = (λ h. total ∙ enough_bins_cost_nothing o error g L F S most runs h best);
      }

-- a table of levels shows levels
pub drawn_totals_are_plain : DrawnTotalsArePlain
drawn_totals_are_plain error g most receipt table F S some few pixels d =
    let divides = best_divides total_ops (price total_ops error g) d.runs (counted_levels g) d.best.best in
    let law : Lawful table = subst Lawful (sym d.table_is) (tables_stand total_ops error g S d.runs divides (omega (arith, d.best.number)) (omega (arith, d.best.number))) in
    ap (λ (t : Total). t.sum) d.charged_once ∙ totals_are_plain_sums error g F S (shown_by table) (λ l h _.
    let inside = bin_inside table law l (omega (arith, ap (λ (t : Table). t.levels) d.table_is)) in
    let grey = law.greys (bin_of table l) (omega (arith, law.paired)) in
    omega (arith, law.range))
