use Rattle.std.proofs.Common.{◌<◌, length, arith}
use Rattle.join.proofs.Records.{run_of, next_rising, next_under, record_most}
use Rattle.join.proofs.lengths.stream_length.Goals as goal

pub record_length-total-requires : goal.record_length-total-requires
record_length-total-requires c =
    omega (arith, next_under c.args.records.now c.loop-run.run-index (omega arith) c.loop-run.invariant.0 c.args.heading.size c.loop-run.invariant.1)

pub overflow_add-total-in-loop-run : goal.overflow_add-total-in-loop-run
overflow_add-total-in-loop-run c =
    let lt : c.loop-run.run-index < length c.args.records.now = omega arith in
    let h = next_rising c.args.records.now c.loop-run.run-index lt c.loop-run.invariant.0 c.args.heading.size c.loop-run.invariant.1 in
    let u = next_under c.args.records.now c.loop-run.run-index lt c.loop-run.invariant.0 c.args.heading.size c.loop-run.invariant.1 in
    let m = record_most (run_of c.args.records.now c.loop-run.run-index) h.1 in
    omega (arith, u, m, h.0, c.loop-run.invariant.3, c.record_length-total.ensures)
