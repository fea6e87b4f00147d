use Rattle.std.proofs.Common.{ℕ, ◌+◌, List, [], ◌∷◌, map, get_or, drop, Err, ap, ◌∙◌}
use Rattle.std.proofs.lemmas.Result.{err_from_is_err_and}
use Rattle.overlay.specs.declared.runs.Run.{Run}
use Rattle.overlay.specs.declared.payloads.PayloadMark.{PayloadMark}
use Rattle.overlay.specs.declared.payloads.PayloadMark.TheVariants.{Zeroed}
use Rattle.stream.specs.Places.{run_record}
use Rattle.apply.specs.Steps.{Step, with_number, writes}
use Rattle.apply.specs.Applies.{apply_steps}
use Rattle.apply.proofs.ImageChanges.{both_inside}
use Rattle.apply.proofs.PartFacts.{part_lies}
use Rattle.apply.proofs.StepSeries.{goes_on, ends_here, all_done, writes_more}
use Rattle.apply.proofs.ranges.write_parts.Goals as goal

-- the part that a read past the end would give
abbrev none : Run PayloadMark
none = record { offset = 0; length = 0; mark = Zeroed }

pub write_part-requires : goal.write_part-requires
write_part-requires g c =
    part_lies c.args.stream.bytes.now c.args.stream.sheet.runs.now c.args.stream.sheet.size c.args.stream.parted c.loop-part.part-index none c.loop-part-test.true

-- the steps of parts
abbrev steps : ℕ → List ℕ → List (Run PayloadMark) → List Step
steps n bytes parts = with_number n (writes (map (run_record bytes) parts))

pub returns-in_err-write_part : goal.returns-in_err-write_part
returns-in_err-write_part g c =
    let m = g.S.Store in
    let i = c.loop-part.part-index in
    let xs = c.args.stream.bytes.now in
    let p = err_from_is_err_and c.from_residual.result c.from_residual.ensures.1 in
    record {
      same = c.write_part.ensures.same ∙ c.loop-part.invariant.0;
      outcome = ends_here (m.holds c.args.store.now) (m.holds c.loop-part.store) (m.image c.loop-part.store) (m.image c.write_part.new.store) c.write_part.result _
          (steps c.args.record xs (get_or c.args.stream.sheet.runs.now i none ∷ [])) (steps c.args.record xs (drop (i + 1) c.args.stream.sheet.runs.now)) _
          c.loop-part.invariant.0 c.write_part.ensures.outcome (writes_more xs c.args.record c.args.stream.sheet.runs.now i none c.loop-part-test.true) c.loop-part.invariant.1
          _ c.from_residual.result c.in_err-write_part.was (p.1 ∙ ap Err p.2);
      inside = both_inside m.image m.past c.args.store.now c.loop-part.store c.write_part.new.store c.loop-part.invariant.2 c.write_part.ensures.inside;
    }

pub loop-part-preserved : goal.loop-part-preserved
loop-part-preserved g c =
    let m = g.S.Store in
    let i = c.loop-part.part-index in
    let xs = c.args.stream.bytes.now in (
      c.write_part.ensures.same ∙ c.loop-part.invariant.0,
      goes_on (m.holds c.args.store.now) (m.holds c.loop-part.store) (m.image c.loop-part.store) (m.image c.write_part.new.store) c.write_part.result _
          (steps c.args.record xs (get_or c.args.stream.sheet.runs.now i none ∷ [])) (steps c.args.record xs (drop (i + 1) c.args.stream.sheet.runs.now)) _
          c.loop-part.invariant.0 c.write_part.ensures.outcome (writes_more xs c.args.record c.args.stream.sheet.runs.now i none c.loop-part-test.true) c.loop-part.invariant.1
          _ c.in_ok-write_part.was,
      both_inside m.image m.past c.args.store.now c.loop-part.store c.write_part.new.store c.loop-part.invariant.2 c.write_part.ensures.inside,
    )

pub returns : goal.returns
returns g c =
    let m = g.S.Store in
    record {
      same = c.loop-part.invariant.0;
      outcome = all_done (λ l. apply_steps (m.holds c.args.store.now) (m.image c.loop-part.store) (steps c.args.record c.args.stream.bytes.now l)) c.args.stream.sheet.runs.now c.loop-part.part-index _
          c.loop-part-test.false c.loop-part.invariant.1;
      inside = c.loop-part.invariant.2;
    }
