use Rattle.std.proofs.Common.{◌≡◌, length, None, Ok, Option, Result, sym, refl, ap, ◌∙◌}
use Rattle.std.proofs.lemmas.Result.{err_from_is_err_and}
use Rattle.fault.specs.Fault.{and_then}
use Rattle.fault.specs.declared.fault.Fault.{Fault}
use Rattle.stream.specs.Stands.{finish_answer, next_answer, pos_of}
use Rattle.stream.specs.declared.reader.Reader.{Reader}
use Rattle.stream.specs.declared.records.Record.{Record}
use Rattle.stream.specs.declared.records.Record.TheVariants.{End}
use Rattle.stream.proofs.ReaderSteps.{turned, unended_is}
use Rattle.stream.proofs.reader.Reader.next.Goals as goal

-- the answer at the end, by what finishing says
finished : (old new : Reader) (r : Record) (b x : Result (Unit {0}) Fault) → r ≡ End → new.bytes ≡ old.bytes → b ≡ finish_answer (length new.bytes.now) new.place → b ≡ x
    → next_answer (length old.bytes.now) r (pos_of new) ≡ and_then {B = Option Record} x (λ _. Ok None)
finished old new r b x e same f h =
    ap (λ v. next_answer (length old.bytes.now) v (pos_of new)) e
    ∙ ap (λ v. and_then v (λ _. Ok None)) (sym (sym h ∙ f ∙ ap (λ v. finish_answer (length v.now) new.place) same))

pub returns-in_err-record : goal.returns-in_err-record
returns-in_err-record c =
    let y = err_from_is_err_and c.from_residual.result c.from_residual.ensures.1 in
    rw (y.1, y.2) (turned c.step.ensures c.in_err-record.was refl)

pub returns-in_err-finish : goal.returns-in_err-finish
returns-in_err-finish c =
    let y = err_from_is_err_and c.from_residual-in_err-finish.result c.from_residual-in_err-finish.ensures.1 in
    let e = finished c.args.self.now c.step.new.self _ _ _ c.in-End.is c.step.ensures.bytes c.finish.ensures c.in_err-finish.was in
    rw (y.1, y.2) (turned c.step.ensures c.in_ok-record.was e)

pub returns : goal.returns
returns c =
    let e = unended_is (length c.args.self.now.bytes.now) _ (pos_of c.step.new.self) c.in_default.not-End in
    turned c.step.ensures c.in_ok-record.was e

pub returns-in-End : goal.returns-in-End
returns-in-End c =
    let e = finished c.args.self.now c.step.new.self _ _ _ c.in-End.is c.step.ensures.bytes c.finish.ensures c.in_ok-finish.was in
    turned c.step.ensures c.in_ok-record.was e
