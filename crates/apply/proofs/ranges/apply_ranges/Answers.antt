use Rattle.std.proofs.Common.{ℕ, ◌+◌, List, map, get_or, drop, Err, ap, ◌∙◌, arith}
use Rattle.std.proofs.lemmas.Result.{err_from_is_err_and}
use Rattle.overlay.specs.declared.runs.Run.{Run}
use Rattle.overlay.specs.declared.ranges.RangeMark.{RangeMark}
use Rattle.overlay.specs.declared.ranges.RangeMark.TheVariants.{Zeroed}
use Rattle.overlay.specs.declared.payloads.PayloadMark.{PayloadMark}
use Rattle.overlay.specs.Runs.{run_end}
use Rattle.overlay.proofs.RunPositions.{rising_le}
use Rattle.stream.specs.Places.{run_record}
use Rattle.apply.specs.Steps.{Step, with_number, range_records, steps_from}
use Rattle.apply.specs.Applies.{apply_steps}
use Rattle.apply.proofs.RangeParts.{rising_at, window_steps}
use Rattle.apply.proofs.ImageChanges.{both_inside}
use Rattle.apply.proofs.StepSeries.{goes_on, ends_here, all_done}
use Rattle.apply.proofs.ranges.apply_ranges.Goals as goal

-- the range that a read past the end would give
abbrev none : Run RangeMark
none = record { offset = 0; length = 0; mark = Zeroed }

pub end-requires : goal.end-requires
end-requires g c =
    let rs = c.args.ranges.now in
    let h = rising_at rs c.loop-i.i none c.args.stream.sheet.size c.loop-i-test.true c.requires in
    let l = rising_le (run_end (get_or rs c.loop-i.i none)) c.args.stream.sheet.size (drop (c.loop-i.i + 1) rs) h.2 in
    omega arith

-- the steps of a turn, and those that are left
abbrev here : List ℕ → ℕ → Run RangeMark → List (Run PayloadMark) → List Step
here xs n r inside = with_number n (range_records r.mark r.offset r.length (map (run_record xs) inside))

abbrev left : List ℕ → List (Run PayloadMark) → ℕ → List (Run RangeMark) → List Step
left xs parts n rs = steps_from n (map (run_record xs) parts) rs

pub returns-in_err-apply_range : goal.returns-in_err-apply_range
returns-in_err-apply_range g c =
    let m = g.S.Store in
    let inside = c.split_before-in-loop-i.result.0 in
    let cut = c.split_before-in-loop-i.ensures in
    let p = err_from_is_err_and c.from_residual.result c.from_residual.ensures.1 in
    record {
      same = c.apply_range.ensures.same ∙ c.loop-i.invariant.1;
      outcome = ends_here (m.holds c.args.store.now) (m.holds c.loop-i.store) (m.image c.loop-i.store) (m.image c.apply_range.new.store) c.apply_range.result _
          (here inside.bytes.now (c.loop-i.i + 1) (get_or c.args.ranges.now c.loop-i.i none) inside.sheet.runs.now)
          (left c.args.stream.bytes.now c.split_before-in-loop-i.result.1.sheet.runs.now (c.loop-i.i + 1 + 1) (drop (c.loop-i.i + 1) c.args.ranges.now)) _
          c.loop-i.invariant.1 c.apply_range.ensures.outcome
          (window_steps c.args.stream.bytes.now _ _ _ (c.loop-i.i + 1) c.args.ranges.now c.loop-i.i none c.args.stream.sheet.size _ _ _ _
          (cut.bytes.0 ∙ c.split_before.ensures.bytes.1 ∙ c.loop-i.invariant.0) c.loop-i-test.true c.loop-i.left.sheet.rising c.requires c.end.ensures c.split_before.ensures.back cut.front cut.back)
          c.loop-i.invariant.2 _ c.from_residual.result c.in_err-apply_range.was (p.1 ∙ ap Err p.2);
      inside = both_inside m.image m.past c.args.store.now c.loop-i.store c.apply_range.new.store c.loop-i.invariant.3 c.apply_range.ensures.inside;
    }

pub loop-i-preserved : goal.loop-i-preserved
loop-i-preserved g c =
    let m = g.S.Store in
    let inside = c.split_before-in-loop-i.result.0 in
    let cut = c.split_before-in-loop-i.ensures in
    let from = c.split_before.ensures.bytes.1 ∙ c.loop-i.invariant.0 in (
      cut.bytes.1 ∙ from,
      c.apply_range.ensures.same ∙ c.loop-i.invariant.1,
      goes_on (m.holds c.args.store.now) (m.holds c.loop-i.store) (m.image c.loop-i.store) (m.image c.apply_range.new.store) c.apply_range.result _
          (here inside.bytes.now (c.loop-i.i + 1) (get_or c.args.ranges.now c.loop-i.i none) inside.sheet.runs.now)
          (left c.args.stream.bytes.now c.split_before-in-loop-i.result.1.sheet.runs.now (c.loop-i.i + 1 + 1) (drop (c.loop-i.i + 1) c.args.ranges.now)) _
          c.loop-i.invariant.1 c.apply_range.ensures.outcome
          (window_steps c.args.stream.bytes.now _ _ _ (c.loop-i.i + 1) c.args.ranges.now c.loop-i.i none c.args.stream.sheet.size _ _ _ _
          (cut.bytes.0 ∙ from) c.loop-i-test.true c.loop-i.left.sheet.rising c.requires c.end.ensures c.split_before.ensures.back cut.front cut.back)
          c.loop-i.invariant.2 _ c.in_ok-apply_range.was,
      both_inside m.image m.past c.args.store.now c.loop-i.store c.apply_range.new.store c.loop-i.invariant.3 c.apply_range.ensures.inside,
    )

pub returns : goal.returns
returns g c =
    let m = g.S.Store in
    let steps = left c.args.stream.bytes.now c.loop-i.left.sheet.runs.now (c.loop-i.i + 1) in
    record {
      same = c.loop-i.invariant.1;
      outcome = all_done (λ l. apply_steps (m.holds c.args.store.now) (m.image c.loop-i.store) (steps l)) c.args.ranges.now c.loop-i.i _ c.loop-i-test.false c.loop-i.invariant.2;
      inside = c.loop-i.invariant.3;
    }
