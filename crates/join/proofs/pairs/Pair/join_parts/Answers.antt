use Rattle.std.proofs.Common.{◌^◌, ◌<◌, length, sym, subst, rules}
use Rattle.overlay.specs.Runs.{RunsOf}
use Rattle.overlay.proofs.BufferRuns.{placed}
use Rattle.join.proofs.PairOverlays.{join_cells, join_placed}
use Rattle.join.proofs.pairs.Pair.join_parts.Goals as goal

pub returns-clause-placed : goal.returns-clause-placed
returns-clause-placed c =
    let p = c.args.self in
    let short : length c.args.self.earlier.bytes.now < 2 ^ 64 = search rules in
    let brief : length c.args.self.later.bytes.now < 2 ^ 64 = search rules in
    let o = c.overlay.ensures in
    let f = placed _ c.args.out.now c.unwrap-count.result _ c.overlay.new.out c.unwrap-count.ensures o.count o.places in
    join_placed p.earlier p.later p.on_earlier p.on_later short brief _ (subst (RunsOf _ _ _) (sym f.firsts) o.runs)

pub returns-clause-cells : goal.returns-clause-cells
returns-clause-cells c =
    let p = c.args.self in
    let o = c.overlay.ensures in
    let f = placed _ c.args.out.now c.unwrap-count.result _ c.overlay.new.out c.unwrap-count.ensures o.count o.places in
    join_cells p.earlier p.later p.on_earlier p.on_later _ (subst (RunsOf _ _ _) (sym f.firsts) o.runs)
