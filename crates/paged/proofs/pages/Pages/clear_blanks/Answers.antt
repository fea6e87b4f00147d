use Rattle.std.proofs.Common.{◌≡◌, ℕ, ◌+◌, ◌-◌, ◌≤◌, List, length, take, drop, refl, ◌∙◌, arith}
use Rattle.store.specs.Images.{image_with}
use Rattle.paged.specs.Pages.{all_pages, page_of, places, bytes_before, blank}
use Rattle.paged.proofs.Ranges.{ready_all, ready_more}
use Rattle.paged.proofs.UntouchedMemory.{width_kept}
use Rattle.paged.proofs.PageLoop.{chunk_here}
use Rattle.paged.proofs.pages.Pages.clear_blanks.Goals as goal

pub loop-i-preserved : goal.loop-i-preserved
loop-i-preserved c =
    let s = c.args.self.now.paging in
    let t = c.loop-i.self.paging in
    let u = c.clear_blank.new.self.paging in
    let bytes : List ℕ = c.args.bytes.now in
    let offset : ℕ = c.args.offset in
    let i : ℕ = c.loop-i.i in
    let d : ℕ = c.of-part.result.start in
    let m : ℕ = c.of-part.result.end in
    let from : ℕ = c.of-part.result.from in
    let inv = c.loop-i.invariant in
    let told = c.clear_blank.ensures in
    let part = c.of-part.ensures in
    let mid : List ℕ = all_pages t.map.now t.pool.now in
    let new : List ℕ = all_pages u.map.now u.pool.now in
    let p = c.of-part.ensures.part in
    let width : places t.map.now ≡ places s.map.now = width_kept c.args.self.now.paging c.loop-i.self.paging inv.kept in
    let fits : offset + length bytes ≤ length mid = omega (arith, c.requires.inside) in
    let step = ready_more mid offset bytes i d m from p fits (omega arith)
    (blank (image_with (page_of mid i) from (take (m - d) (drop d bytes)))) new refl told.pages
    (λ j some h below. inv.ready j (omega (arith, part.start)) h (omega (arith, part.start))) in
    record {
      kept = told.kept ∙ inv.kept;
      same = step.0 ∙ inv.same;
      ready = λ j some h below. step.1 j (omega (arith, part.end)) h (omega (arith, part.end));
    }

pub clear_blank-requires : goal.clear_blank-requires
clear_blank-requires c =
    let s = c.args.self.now.paging in
    let bytes : List ℕ = c.args.bytes.now in
    let p = c.of-part.ensures.part in
    record { here = chunk_here s c.loop-i.self.paging c.args.offset _ bytes c.loop-i.i _ _ _ refl (omega arith) p c.loop-i.invariant.kept c.requires.inside (omega arith) }

pub returns : goal.returns
returns c =
    let t = c.loop-i.self.paging in
    let bytes : List ℕ = c.args.bytes.now in
    let offset : ℕ = c.args.offset in
    let inv = c.loop-i.invariant in
    let mid : List ℕ = all_pages t.map.now t.pool.now in
    let width = width_kept c.args.self.now.paging c.loop-i.self.paging inv.kept in
    let fits : offset + length bytes ≤ length mid = omega (arith, c.requires.inside) in
    let end : bytes_before offset (length bytes) c.loop-i.i ≡ length bytes = omega (arith, c.loop-i-test.false, c.div_ceil-i-end.ensures) in
    record {
      kept = inv.kept;
      same = inv.same;
      ready = ready_all mid offset bytes fits (λ j some meets below. inv.ready j (omega arith) meets (omega arith));
    }
