-- The five numbers of a fault as text: cause, layer, place, record and entry, in decimal, single
-- spaces between. Rests on the numbers of causes and layers.
use Rattle.std.specs.Prelude.{ℕ, List, ◌++◌, Option, Some, Ok, Err, Result, codes, decimal}
use Rattle.fault.specs.Fault.{cause_number, layer_number}
use Rattle.fault.specs.declared.fault.Fault.{Fault}

abbrev pub numbers_of : Fault → List ℕ
numbers_of f = decimal (cause_number f.cause) ++ (codes " " ++ (decimal (layer_number f.layer) ++ (codes " " ++ (decimal f.place ++ (codes " " ++ (decimal f.«record» ++ (codes " " ++ decimal f.entry)))))))

-- an answer as text, where `text` is how a value is printed: the value, or the numbers of the fault
abbrev pub answer_text : {T : Type 0} → (T → Option (List ℕ)) → Result T Fault → Option (List ℕ)
answer_text text (Ok x) = text x
answer_text text (Err f) = Some (numbers_of f)
