use Rattle.std.proofs.Common.{refl, ap, ◌∙◌, arith}
use Rattle.overlay.specs.Buffers.{run_count, first_places}
use Rattle.overlay.proofs.BufferRuns.{placed, count_room}
use Rattle.stream.specs.Parts.{range_runs}
use Rattle.stream.proofs.FoundRanges.{over_none_runs}
use Rattle.stream.proofs.RangeCounts.{united_few}
use Rattle.stream.proofs.ranges.unite.Goals as goal

pub unwrap-requires : goal.unwrap-requires
unwrap-requires c =
    let s = c.args.sheet in
    let few = united_few s.runs.now s.size (omega arith) s.rising in
    let is = over_none_runs s.runs.now s.size in
    rw (c.overlay.ensures.count ∙ ap (λ rs. run_count rs c.args.out.now) is ∙ count_room (range_runs s.runs.now s.size) c.args.out.now (omega (arith, few))) refl

pub returns : goal.returns
returns c =
    let s = c.args.sheet in
    let rs = range_runs s.runs.now s.size in
    let out = c.args.out.now in
    let few = united_few s.runs.now s.size (omega arith) s.rising in
    let is = over_none_runs s.runs.now s.size in
    let p = placed rs out c.unwrap.result c.overlay.result c.overlay.new.out c.unwrap.ensures (c.overlay.ensures.count ∙ ap (λ rs. run_count rs out) is) (c.overlay.ensures.places ∙ ap (λ rs. first_places rs out) is) in
    record { count = p.count; few = omega (arith, p.count, few); found = p.firsts; places = c.overlay.ensures.places ∙ ap (λ rs. first_places rs out) is }
