use Rattle.std.proofs.Common.{[], ◌∷◌, ◌++◌, refl, ap, ◌∙◌, arith}
use Rattle.stream.specs.Bytes.{le_bytes, buffer_with}
use Rattle.writer.proofs.BufferTail.{lent_on}
use Rattle.writer.proofs.Numbers.{in_eight}
use Rattle.writer.proofs.fields.put_numbers.Goals as goal

pub returns : goal.returns
returns c =
    let xs = c.args.tail.now in
    let t = c.args.tag ∷ [] in
    let o = le_bytes 8 c.args.first in
    let n = le_bytes 8 c.args.second in
    let b = lent_on xs _ _ t o 0 1 c.put_u8.ensures refl (omega arith) (c.put_bytes.ensures ∙ ap (buffer_with _ 0) (c.to_le_bytes.ensures ∙ in_eight c.args.first)) in
    lent_on xs _ _ (t ++ o) n 0 9 b refl (omega arith) (c.put_bytes-2.ensures ∙ ap (buffer_with _ 0) (c.to_le_bytes-2.ensures ∙ in_eight c.args.second))
