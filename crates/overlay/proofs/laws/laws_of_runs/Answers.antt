use Rattle.overlay.proofs.StateLists.{one_runs}
use Rattle.overlay.proofs.CanonicalRuns.{exists}
use Rattle.overlay.proofs.laws.laws_of_runs.Goals as goal

pub returns : goal.returns
returns g c = record {
  one_runs = one_runs g.M.Mark.moves g.met.M.Mark.laws.still;
  runs_exist = exists g.M.Mark.moves g.M.Mark.alike g.met.M.Mark.laws.decides g.met.M.Mark.laws.still g.met.M.Mark.laws.further;
}
