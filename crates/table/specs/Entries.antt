-- The row that an entry is in a table, and which entries can move. Rests on the table's definitions
-- and on names.
use Rattle.std.specs.Prelude.{ℕ, ◌+◌, ◌-◌, ◌^◌, ◌<◌, ◌≤◌, List, All}
use Rattle.table.specs.Names.{name_of}
use Rattle.table.specs.Tables.{Row}
use Rattle.table.specs.declared.entry.Entry.{Entry}
use Rattle.table.specs.declared.name.Name.{Name}

abbrev pub row_of : Entry → Row
row_of e = record { place = e.place; length = e.length; from = name_of e.from; to = name_of e.to }

-- an entry with n bytes and another to name
abbrev pub united_entry : ℕ → Name → Entry → Entry
united_entry n to e = record e { length = n; to = to }

-- an entry moved together with the bytes after an old place, which now begin at a new one
abbrev pub moved_entry : ℕ → ℕ → Entry → Entry
moved_entry old new e = record e { place = new + (e.place - old) }

-- an entry that can move: it lies after the old place, and its new place is a number of 64 bits
abbrev pub CanMove : ℕ → ℕ → Entry → Type 0
CanMove old new e = (old ≤ e.place) × (new + (e.place - old) < 2 ^ 64)

abbrev pub Movable : ℕ → ℕ → List Entry → Type 0
Movable old new = All (CanMove old new)
