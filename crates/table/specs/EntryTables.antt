-- The table that an EntryTable holds. Rests on the rows of its entries, and on what a table and a
-- name are.
use Rattle.std.specs.Prelude.{map}
use Rattle.table.specs.Entries.{row_of}
use Rattle.table.specs.Names.{name_of}
use Rattle.table.specs.Tables.{Table}
use Rattle.table.specs.declared.table.EntryTable.TheInside.{Inside}

abbrev pub table_of : Inside → Table
table_of t = record { base = name_of t.base; rows = map row_of t.entries.items; fill = t.fill }
