use Rattle.std.proofs.Common.{sym, ap, ◌∙◌}
use Rattle.std.proofs.lemmas.Result.{err_from_is_err_and}
use Rattle.stream.specs.Verdict.{same}
use Rattle.apply.proofs.Readings.{led_err, leads, leads_not, verdict_err}
use Rattle.apply.proofs.reading.read_led.Goals as goal

pub returns-in_err-stream : goal.returns-in_err-stream
returns-in_err-stream c =
    let y = err_from_is_err_and c.from_residual.result c.from_residual.ensures.1 in
    rw (y.1, y.2) (led_err c.args.name.now c.args.bytes.now _ (verdict_err c.args.bytes.now _ c.in_err-stream.ensures.means))

pub returns-then-not-leads_from : goal.returns-then-not-leads_from
returns-then-not-leads_from c =
    let name = c.args.name.now in
    let e = c.in_ok-stream.ensures in
    let on = rw e.bytes at e.on_side in
    rw c.new.ensures (leads_not name c.args.bytes.now on.records on.was_read (ap (λ xs. same xs name) (sym on.from_is) ∙ sym c.leads_from.ensures ∙ c.if-not-leads_from.true))

pub returns : goal.returns
returns c =
    let name = c.args.name.now in
    let e = c.in_ok-stream.ensures in
    let on = rw e.bytes at e.on_side in
    (e.bytes, leads name c.args.bytes.now on.records on.was_read (ap (λ xs. same xs name) (sym on.from_is) ∙ sym c.leads_from.ensures ∙ c.if-not-leads_from.false))
