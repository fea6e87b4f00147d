use Rattle.std.proofs.Common.{ℕ, ◌+◌, List, [], ◌∷◌, ◌++◌, length, sym, refl, ap, ◌∙◌, arith}
use Rattle.std.proofs.lemmas.List.{length-append}
use Rattle.stream.specs.Bytes.{le_bytes, buffer_with}
use Rattle.stream.specs.Records.{header, records_bytes, from_records}
use Rattle.writer.specs.Fields.{name_record}
use Rattle.writer.proofs.BufferTail.{lent_on}
use Rattle.writer.proofs.StreamHead.{opening_is, length_opening}
use Rattle.writer.proofs.Numbers.{in_eight}
use Rattle.writer.proofs.heading.put_opening.Goals as goal

pub returns : goal.returns
returns c =
    let xs = c.args.tail.now in
    let from = c.args.from.now in
    let to = c.args.to.now in
    let size = c.args.size in
    let f = records_bytes (from_records from) in
    let t = name_record 116 to in
    let s : List ℕ = 115 ∷ [] in
    let v = le_bytes 8 size in
    let n = c.from_length.result in
    let taken = c.from_length.ensures.exact in
    let room = length_opening from to size in
    let l1 = length-append f t in
    let l2 = length-append (f ++ t) s in
    let a = lent_on xs _ _ header f 0 12 c.put_bytes.ensures refl (omega arith) c.put_from.ensures in
    let b = lent_on xs _ _ (header ++ f) t 0 (12 + n) a (omega arith) (omega arith) c.put_name.ensures in
    let d = lent_on xs _ _ ((header ++ f) ++ t) s 0 (12 + n + 5 + length to) b (omega arith) (omega arith) c.put_u8.ensures in
    lent_on xs _ _ (((header ++ f) ++ t) ++ s) v 0 (12 + n + 5 + length to + 1) d (omega arith) (omega arith) (c.put_bytes-2.ensures ∙ ap (buffer_with _ 0) (c.to_le_bytes.ensures ∙ in_eight size))
    ∙ ap (buffer_with xs 0) (sym (opening_is from to size))
