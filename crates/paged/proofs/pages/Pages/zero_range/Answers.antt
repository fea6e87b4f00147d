use Rattle.std.proofs.Common.{ℕ, ◌+◌, ◌*◌, replicate, sym, ap, ◌∙◌, subst, arith, refl}
use lib.ListN.{length-replicate}
use Rattle.std.proofs.lemmas.List.{take_all}
use Rattle.store.specs.Images.{image_with}
use Rattle.paged.specs.Pages.{bytes_before}
use Rattle.paged.specs.State.{all_of, PutAt}
use Rattle.paged.proofs.PageLoop.{none_put, zeros_chunk, part_here, turn_put}
use Rattle.paged.proofs.pages.Pages.zero_range.Goals as goal

pub loop-i-init : goal.loop-i-init
loop-i-init c = record { kept = refl; pages = none_put (all_of c.args.self.now.paging) c.args.offset c.args.count (replicate c.args.count 0) }

pub loop-i-preserved : goal.loop-i-preserved
loop-i-preserved c =
    let t = c.loop-i.self.paging in
    let u = c.put_zeros.new.self.paging in
    let told = c.of-part.ensures in
    let put = subst (PutAt t u (256 * c.loop-i.i + c.of-part.result.from)) (sym (zeros_chunk c.args.count c.of-part.result.start c.of-part.result.end told.part.order told.part.most)) c.put_zeros.ensures in
    turn_put c.args.self.now.paging t c.args.offset c.args.count (replicate c.args.count 0) c.loop-i.i _ _ _ (length-replicate {A = ℕ} c.args.count 0) (omega arith) told.part told.start told.end c.loop-i.invariant u put

pub put_zeros-requires : goal.put_zeros-requires
put_zeros-requires c =
    record {
      here = part_here c.args.self.now.paging c.loop-i.self.paging c.args.offset c.args.count c.loop-i.i _ _ _ c.loop-i.invariant.kept c.requires.inside c.of-part.ensures.part (omega arith);
    }

pub returns : goal.returns
returns c =
    let inv = c.loop-i.invariant in
    let all = take_all (bytes_before c.args.offset c.args.count c.loop-i.i) (replicate {A = ℕ} c.args.count 0) (omega (arith, length-replicate {A = ℕ} c.args.count 0, c.loop-i-test.false, c.div_ceil-i-end.ensures)) in
    record { kept = inv.kept; pages = inv.pages ∙ ap (image_with (all_of c.args.self.now.paging) c.args.offset) all }
