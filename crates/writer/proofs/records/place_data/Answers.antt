use Rattle.std.proofs.Common.{◌+◌, length, refl, arith}
use Rattle.writer.specs.Fields.{range_head}
use Rattle.writer.proofs.BufferTail.{lent, lent_on}
use Rattle.writer.proofs.records.place_data.Goals as goal

pub returns : goal.returns
returns c =
    let xs = c.args.out.now in
    let at = c.args.at in
    let bs = c.args.bytes.now in
    let head = range_head 119 c.args.offset (length bs) in
    let a = lent xs _ head at (omega arith) c.put_range.ensures in
    lent_on xs _ _ head bs at (at + 17) a refl (omega arith) c.put_bytes.ensures
