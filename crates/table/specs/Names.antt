-- The bytes of a name in a table. Rests on nothing.
use Rattle.std.specs.Prelude.{ℕ, List, take}
use Rattle.table.specs.declared.name.Name.{Name}

abbrev pub name_of : Name → List ℕ
name_of n = take n.length n.bytes
