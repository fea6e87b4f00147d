use Rattle.std.proofs.Common.{◌+◌, length, ◌∙◌, arith, refl}
use Rattle.paged.specs.State.{all_of}
use Rattle.paged.proofs.PageLoop.{none_put, all_put, chunk_here, turn_put, turn_room}
use Rattle.paged.proofs.pages.Pages.put_range.Goals as goal

pub loop-i-init : goal.loop-i-init
loop-i-init c = record { kept = refl; pages = none_put (all_of c.args.self.now.paging) c.args.offset (length c.args.bytes.now) c.args.bytes.now }

pub loop-i-preserved : goal.loop-i-preserved
loop-i-preserved c =
    let told = c.of-part.ensures in
    turn_put c.args.self.now.paging c.loop-i.self.paging c.args.offset _ c.args.bytes.now c.loop-i.i _ _ _ refl (omega arith) told.part told.start told.end c.loop-i.invariant c.put.new.self.paging c.put.ensures

pub put-requires : goal.put-requires
put-requires c =
    let s = c.args.self.now.paging in
    let t = c.loop-i.self.paging in
    let told = c.of-part.ensures in
    let inv = c.loop-i.invariant in
    record {
      here = chunk_here s t c.args.offset _ c.args.bytes.now c.loop-i.i _ _ _ refl (omega arith) told.part inv.kept c.requires.inside (omega arith);
      room = turn_room s t c.args.offset _ c.args.bytes.now c.loop-i.i _ _ _ refl (omega arith) told.part told.start told.end inv (c.requires.room (c.loop-i.i + 1) (omega (arith, c.loop-i.auto.i)));
    }

pub returns : goal.returns
returns c =
    let inv = c.loop-i.invariant in
    record { kept = inv.kept; pages = inv.pages ∙ all_put (all_of c.args.self.now.paging) c.args.offset c.loop-i.i c.args.bytes.now (omega (arith, c.loop-i-test.false, c.div_ceil-i-end.ensures)) }
