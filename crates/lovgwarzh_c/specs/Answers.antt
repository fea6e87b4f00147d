-- What the calls for C return: the six numbers of an answer, in the order in which C reads them.
-- Rests on the definitions of check, list and join, on buffers, and on the numbers of causes and
-- layers.
use Rattle.std.specs.Prelude.{ℕ, List, [], ◌∷◌, Ok, Err, Result}
use Rattle.fault.specs.Fault.{and_then, cause_number, layer_number}
use Rattle.fault.specs.declared.fault.Fault.{Fault}
use Rattle.fault.specs.declared.layer.Layer.TheVariants.{Join}
use Rattle.join.specs.Joins.{joined_stream}
use Rattle.listing.specs.Lists.{stream_list_answer}
use Rattle.stream.specs.Buffers.{written_answer}
use Rattle.stream.specs.Verdict.{verdict, check_answer}
use Rattle.lovgwarzh_c.specs.declared.answer.Answer.{Answer}

-- written, cause, layer, place, record, entry: the bytes written and zeros, or no bytes and the
-- five numbers of the fault
abbrev pub six_numbers : Result ℕ Fault → List ℕ
six_numbers (Ok n) = n ∷ 0 ∷ 0 ∷ 0 ∷ 0 ∷ 0 ∷ []
six_numbers (Err f) = 0 ∷ cause_number f.cause ∷ layer_number f.layer ∷ f.place ∷ f.«record» ∷ f.entry ∷ []

abbrev pub answer_of : Result ℕ Fault → Answer
answer_of r = record { numbers = six_numbers r }

-- the answer of each call
abbrev pub check_numbers : List ℕ → Answer
check_numbers stream = answer_of (and_then (check_answer (verdict stream)) (λ _. Ok 0))

abbrev pub list_numbers : List ℕ → List ℕ → Answer
list_numbers stream text = answer_of (stream_list_answer stream text)

abbrev pub join_numbers : List ℕ → List ℕ → List ℕ → Answer
join_numbers earlier later out = answer_of (and_then (joined_stream earlier later) (λ bytes. written_answer Join out bytes))
