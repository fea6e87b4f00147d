-- A printable name is text. Assumes nothing.
use Rattle.std.proofs.Common.{◌≡◌, ℕ, zero, suc, ◌<◌, true, List, [], ◌∷◌, slice_index, nat_le, lit<, arith}
use Rattle.std.specs.Str.{IsUtf8}
use Rattle.std.proofs.lemmas.Bool.{and_parts, leb-true}
use Rattle.std.proofs.lemmas.Str.{IsUtf8-from_ascii}
use Rattle.stream.specs.Steps.{every_printable, printable_byte}

ascii : (name : List ℕ) → every_printable name ≡ true → (i : ℕ) → slice_index name i < 128
ascii [] h i = lit< tt
ascii (b ∷ bs) h zero =
    let parts = and_parts (printable_byte b) (every_printable bs) h in
    let low = and_parts (nat_le 33 b) (nat_le b 126) parts.0 in
    let most = leb-true b 126 low.1 in
    omega arith
ascii (b ∷ bs) h (suc i) = ascii bs (and_parts (printable_byte b) (every_printable bs) h).1 i

pub printable_text : (name : List ℕ) → every_printable name ≡ true → IsUtf8 name
printable_text name h = IsUtf8-from_ascii name (ascii name h)
