use Rattle.std.proofs.Common.{arith}
use Rattle.writer.specs.Fields.{range_head}
use Rattle.writer.proofs.BufferTail.{lent}
use Rattle.writer.proofs.records.place_zeros.Goals as goal

pub returns : goal.returns
returns c = lent c.args.out.now _ (range_head 122 c.args.offset c.args.count) c.args.at (omega arith) c.put_range.ensures
