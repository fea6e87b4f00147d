use Rattle.std.proofs.Common.{Ok, sym, refl, ap, ◌∙◌, arith}
use Rattle.std.proofs.lemmas.Result.{err_from_is_err_and}
use Rattle.fault.specs.Fault.{and_then}
use Rattle.stream.specs.Streams.{stream_cells}
use Rattle.stream.proofs.FoundRanges.{gathered_err}
use Rattle.stream.proofs.GatheredRecords.{standing, standing_on, read_meaning, meaning_err}
use Rattle.stream.proofs.stream.Stream.read_all.Goals as goal

pub returns-in_err-summary : goal.returns-in_err-summary
returns-in_err-summary c =
    let y = err_from_is_err_and c.from_residual.result c.from_residual.ensures.1 in
    let v = gathered_err _ _ _ _ _ c.in_err-summary.ensures in
    record { means = rw (y.1, y.2) (sym (meaning_err c.args.bytes.now _ v)); bytes = rw (y.1) tt; on_side = rw (y.1) tt; runs = rw (y.1) tt }

pub invariant_of-sheet : goal.invariant_of-sheet
invariant_of-sheet c =
    let t = standing c.args.side c.args.bytes.now _ c.type_inv.bytes (omega arith) c.in_ok-summary.ensures in
    record { rising = rw c.as_slice.ensures t.read.stands.rising }

pub of-from-requires : goal.of-from-requires
of-from-requires c = (standing c.args.side c.args.bytes.now _ c.type_inv.bytes (omega arith) c.in_ok-summary.ensures).from_in

pub of-to-requires : goal.of-to-requires
of-to-requires c = (standing c.args.side c.args.bytes.now _ c.type_inv.bytes (omega arith) c.in_ok-summary.ensures).to_in

pub invariant_of-result : goal.invariant_of-result
invariant_of-result c =
    let t = standing c.args.side c.args.bytes.now _ c.type_inv.bytes (omega arith) c.in_ok-summary.ensures in
    let on = standing_on c.args.side c.args.bytes.now _ t c.of-from.result.now c.of-to.result.now c.of-from.ensures c.of-to.ensures in
    record { was_read = ∣ (c.args.side, rw c.as_slice.ensures on) ∣₁ }

pub returns : goal.returns
unfolding stream_cells
returns c =
    let t = standing c.args.side c.args.bytes.now _ c.type_inv.bytes (omega arith) c.in_ok-summary.ensures in
    let on = standing_on c.args.side c.args.bytes.now _ t c.of-from.result.now c.of-to.result.now c.of-from.ensures c.of-to.ensures in
    let is = sym (read_meaning c.args.side c.args.bytes.now _ _ _ _ on) in
    record { means = rw c.as_slice.ensures is; bytes = refl; on_side = rw c.as_slice.ensures on; runs = ap Ok c.as_slice.ensures ∙ ap (λ r. and_then r (λ g. Ok g.runs)) c.in_ok-summary.ensures }
