use Rattle.std.proofs.Common.{arith}
use Rattle.writer.specs.Fields.{end_record}
use Rattle.writer.proofs.BufferTail.{lent}
use Rattle.writer.proofs.records.place_end.Goals as goal

pub returns : goal.returns
returns c = lent c.args.out.now _ end_record c.args.at (omega arith) c.put_u8.ensures
