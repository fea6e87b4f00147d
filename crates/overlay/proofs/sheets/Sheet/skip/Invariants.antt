use Rattle.std.proofs.Common.{◌≡◌, length}
use Rattle.overlay.specs.Walks.{runs_left}
use Rattle.overlay.proofs.sheets.Sheet.skip.Given as goal

abbrev pub invariant-loop-rest : goal.invariant-loop-rest
invariant-loop-rest g l = record { size : l.left.size ≡ l.self.size; runs : runs_left l.pos l.left.runs.now ≡ runs_left l.pos l.self.runs.now }

abbrev pub decreases-loop-rest : goal.decreases-loop-rest
decreases-loop-rest g l = length l.left.runs.now
