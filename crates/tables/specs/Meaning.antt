-- What a `LevelTable` of the code means.
use Rattle.tables.specs.Table.{Table}
use Rattle.tables.specs.Bins.{table_in}
use Rattle.tables.specs.declared.table.LevelTable.{LevelTable}

abbrev pub table_of : LevelTable → Table
table_of t = table_in t.levels t.bins.items
