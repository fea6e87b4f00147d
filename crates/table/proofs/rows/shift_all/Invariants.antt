use Rattle.std.proofs.Common.{◌≡◌, ◌++◌, map, take, drop}
use Rattle.table.specs.Entries.{moved_entry}
use Rattle.table.proofs.rows.shift_all.Given as goal

-- those that were reached have moved
abbrev pub invariant-loop-entry : goal.invariant-loop-entry
invariant-loop-entry l = l.entries ≡ map (moved_entry l.old l.new) (take l.entry-index l.initial.entries) ++ drop l.entry-index l.initial.entries
