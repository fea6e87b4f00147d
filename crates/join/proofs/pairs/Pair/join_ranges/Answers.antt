use Rattle.std.proofs.Common.{ap, ◌∙◌}
use Rattle.overlay.specs.Buffers.{run_count, first_places}
use Rattle.join.proofs.PairOverlays.{join_ranged}
use Rattle.join.proofs.pairs.Pair.join_ranges.Goals as goal

pub returns : goal.returns
returns c =
    let p = c.args.self in
    let m = c.mark_ranges.ensures in
    let n = c.mark_ranges-2.ensures in
    let is = join_ranged p.earlier p.later p.on_earlier p.on_later _ _ _ _ m.runs n.runs m.size n.size in
    record {
      count = c.overlay.ensures.count ∙ ap (λ rs. run_count rs c.args.out.now) is;
      places = c.overlay.ensures.places ∙ ap (λ rs. first_places rs c.args.out.now) is;
    }
