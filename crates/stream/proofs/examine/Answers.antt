use Rattle.std.proofs.Common.{length, Ok, ap, ◌∙◌, arith}
use Rattle.std.proofs.lemmas.Result.{err_from_is_err_and}
use Rattle.stream.specs.Verdict.{check_answer}
use Rattle.stream.proofs.NextRecords.{begun, next_reads, comes_end, checked_before}
use Rattle.stream.proofs.examine.Goals as goal

pub loop-init : goal.loop-init
loop-init c = (begun check_answer c.args.stream.now _ c.in_ok-reader.reader c.type_inv.stream c.open.ensures c.in_ok-reader.was).0

pub returns-in_err-next : goal.returns-in_err-next
returns-in_err-next c =
    let y = err_from_is_err_and c.from_residual-in_err-next.result c.from_residual-in_err-next.ensures.1 in
    rw (y.1, y.2) (comes_end c.loop.invariant c.next.ensures c.in_err-next.was)

pub loop-preserved : goal.loop-preserved
loop-preserved c =
    let t = next_reads c.loop.invariant c.next.ensures (c.in_ok-next.was ∙ ap Ok c.in-Some.is) in
    t.underway (checked_before t.content)

pub returns : goal.returns
returns c = comes_end c.loop.invariant c.next.ensures (c.in_ok-next.was ∙ ap Ok c.in_default.is)

pub loop-smaller : goal.loop-smaller
loop-smaller c =
    let t = next_reads c.loop.invariant c.next.ensures (c.in_ok-next.was ∙ ap Ok c.in-Some.is) in
    let l = ap length (ap (λ x. x.now) c.next.ensures.bytes) in
    let m = t.moved in
    let w = c.next.new.self.within in
    omega arith
