use Rattle.std.proofs.Common.{[], ◌∷◌, ◌++◌, length, refl, ap, ◌∙◌, arith}
use Rattle.stream.specs.Bytes.{le_bytes, buffer_with}
use Rattle.writer.proofs.BufferTail.{lent_on}
use Rattle.writer.proofs.Numbers.{in_four}
use Rattle.writer.proofs.fields.put_name.Goals as goal

pub returns : goal.returns
returns c =
    let xs = c.args.tail.now in
    let t = c.args.tag ∷ [] in
    let n = le_bytes 4 (length c.args.name.now) in
    let b = lent_on xs _ _ t n 0 1 c.put_u8.ensures refl (omega arith) (c.put_bytes.ensures ∙ ap (buffer_with _ 0) (c.to_le_bytes.ensures ∙ in_four (length c.args.name.now))) in
    lent_on xs _ _ (t ++ n) c.args.name.now 0 5 b refl (omega arith) c.put_bytes-2.ensures
