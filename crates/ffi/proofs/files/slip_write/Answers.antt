-- The bytes written are those of the histogram and the table that the lists give.
use Rattle.std.proofs.Common.{◌≡◌, ℕ, length, ap, ◌∙◌, subst}
use Rattle.counting.specs.Ledger.{Ledger}
use Rattle.counting.specs.Meaning.{ledger_of}
use Rattle.counting.specs.Sound.{Sound}
use Rattle.counting.proofs.Ledgers.{sound_histogram}
use Rattle.tables.specs.Meaning.{table_of}
use Rattle.tables.specs.Table.{Lawful, given}
use Rattle.tables.proofs.Bins.{lawful_table}
use Rattle.ffi.proofs.Putting.{put_pair}
use Rattle.ffi.proofs.files.slip_write.Goals as goal

pub returns : goal.returns
returns c =
    let bounds = c.args.bounds.now in
    let greys = c.args.representatives.now in
    let made = c.in-Some.ensures in
    let table : table_of c.in-Some-of.table ≡ given (length c.args.at.now) bounds greys = c.in-Some-of.ensures
    ∙ ap (λ (levels : ℕ). given levels bounds greys) (c.levels.ensures ∙ ap (λ (g : Ledger). g.levels) made) in
    record {
      lawful = λ sound law. put_pair (ledger_of c.in-Some.histogram) _ (table_of c.in-Some-of.table) _ _ _ c.write.result _ made table c.unwrap_or.ensures c.write.ensures;
      lawless = λ no. absurd (no (subst Sound made (sound_histogram c.in-Some.histogram)) (subst Lawful table (lawful_table c.in-Some-of.table)));
    }
