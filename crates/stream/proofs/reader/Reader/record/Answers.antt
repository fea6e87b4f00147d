use Rattle.std.proofs.Common.{◌≡◌, ℕ, ◌<◌, ◌≤◌, List, length, Result, sym, ◌∙◌, ap, arith, rules}
use Rattle.std.proofs.lemmas.Result.{err_from_is_err_and}
use Rattle.stream.specs.Steps.{Pos, step_answer, pos_after}
use Rattle.stream.specs.Stands.{pos_of, rest_of, Took}
use Rattle.stream.specs.declared.reader.Reader.{Reader}
use Rattle.stream.specs.declared.records.Record.{Record}
use Rattle.stream.specs.declared.records.Record.TheVariants.{From, To}
use Rattle.fault.specs.declared.cause.Cause.{Cause}
use Rattle.stream.proofs.ReaderSteps.{from_now, to_now, zeros_now, data_now}
use Rattle.stream.proofs.reader.Reader.record.Goals as goal

-- a rest with a tag is not empty
tagged : {xs ys : List ℕ} → xs ≡ ys → 1 ≤ length xs → 0 < length ys
tagged e l = let m = ap length e in omega arith

-- what a step promises, by what the step is
taken : {old new : Reader} {o q : Result (Record × Pos) Cause} {r : Result Record Cause} → q ≡ o → Took old new o r → Took old new q r
taken {old} e t = record { result = t.result ∙ ap step_answer (sym e); stands = t.stands ∙ ap (pos_after (pos_of old)) (sym e); bytes = t.bytes }

pub returns-in_ok-reached-in_default-eq122 :
    goal.returns-in_ok-reached-in_default-eq122
returns-in_ok-reached-in_default-eq122 c =
    let some = tagged c.rest.ensures c.in-len1-up.len_at_least in
    let o = zeros_now _ c.args.self.now.state _ (rest_of c.args.self.now) some (search rules) (sym c.reached.ensures ∙ c.in_ok-reached-in_default-eq122.was) in
    taken o c.take_zeros.ensures

pub returns-in_ok-reached-in_default-eq119 :
    goal.returns-in_ok-reached-in_default-eq119
returns-in_ok-reached-in_default-eq119 c =
    let some = tagged c.rest.ensures c.in-len1-up.len_at_least in
    let o = data_now _ c.args.self.now.state _ (rest_of c.args.self.now) some (search rules) (sym c.reached-in_default-eq119.ensures ∙ c.in_ok-reached-in_default-eq119.was) in
    taken o c.take_data.ensures

pub returns-in_err-span-in-Meta-eq102 : goal.returns-in_err-span-in-Meta-eq102
returns-in_err-span-in-Meta-eq102 c =
    let some = tagged c.rest.ensures c.in-len1-up.len_at_least in
    let o = from_now _ c.args.self.now.state _ (rest_of c.args.self.now) some (search rules) c.in-Meta-eq102.is-0 (search rules) in
    let y = err_from_is_err_and c.from_residual.result c.from_residual.ensures.1 in
    rw (y.1, y.2) (taken o (rw c.in_err-span-in-Meta-eq102.was at (c.take_name.ensures From)))

pub returns-in_ok-span-in-Meta-eq102 : goal.returns-in_ok-span-in-Meta-eq102
returns-in_ok-span-in-Meta-eq102 c = taken (search rules) (rw c.in_ok-span-in-Meta-eq102.was at (c.take_name.ensures From))

pub returns-in_err-span-in-Meta-eq116 : goal.returns-in_err-span-in-Meta-eq116
returns-in_err-span-in-Meta-eq116 c =
    let some = tagged c.rest.ensures c.in-len1-up.len_at_least in
    let o = to_now _ c.args.self.now.state _ (rest_of c.args.self.now) some (search rules) c.in-Meta-eq116.is-0 (search rules) in
    let y = err_from_is_err_and c.from_residual-in_err-span-in-Meta-eq116.result c.from_residual-in_err-span-in-Meta-eq116.ensures.1 in
    rw (y.1, y.2) (taken o (rw c.in_err-span-in-Meta-eq116.was at (c.take_name-in-Meta-eq116.ensures To)))

pub returns-in_ok-span-in-Meta-eq116 : goal.returns-in_ok-span-in-Meta-eq116
returns-in_ok-span-in-Meta-eq116 c = taken (search rules) (rw c.in_ok-span-in-Meta-eq116.was at (c.take_name-in-Meta-eq116.ensures To))
