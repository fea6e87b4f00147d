use Rattle.std.proofs.Common.{length, get_or, take, ap, ◌∙◌, arith}
use Rattle.std.specs.List.{flat_map}
use Rattle.std.proofs.lemmas.List.{take_all, length-append}
use Rattle.listing.specs.Text.{line}
use Rattle.listing.proofs.Lines.{none, lines_more, length_listing}
use Rattle.listing.proofs.text.text_length.Goals as goal

pub loop-run-preserved : goal.loop-run-preserved
loop-run-preserved c =
    let rs = c.args.ranges.now in
    let i = c.loop-run.run-index in
    let e = ap length (lines_more rs i c.loop-run-test.true) ∙ length-append (flat_map line (take i rs)) (line (get_or rs i none)) in
    let v = c.loop-run.invariant in
    let x = c.line_length-total.ensures.exact in
    let s = c.line_length-total.ensures.short in
    (omega arith, omega arith)

pub returns : goal.returns
returns c =
    let rs = c.args.ranges.now in
    let v = c.loop-run.invariant.0 in
    let e = ap length (ap (flat_map line) (take_all c.loop-run.run-index rs c.loop-run-test.false)) in
    let l = length_listing rs in
    omega arith
