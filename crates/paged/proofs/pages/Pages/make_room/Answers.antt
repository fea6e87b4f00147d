use Rattle.std.proofs.Common.{◌≡◌, ℕ, ◌+◌, List, length, sym, ap, ◌∙◌, arith}
use Rattle.std.proofs.lemmas.Bool.{leb-true}
use Rattle.store.specs.Images.{image_with}
use Rattle.paged.specs.Pages.{places, pool_pages, pages_met, bytes_before, filled_from}
use Rattle.paged.specs.State.{all_of}
use Rattle.paged.proofs.Ranges.{spare_room, part_fills_less}
use Rattle.paged.proofs.UntouchedMemory.{width_kept, depth_kept}
use Rattle.paged.proofs.pages.Pages.make_room.Goals as goal

pub returns-then-has_spare-clause-room : goal.returns-then-has_spare-clause-room
returns-then-has_spare-clause-room c =
    let s = c.args.self.now.paging in
    let count : ℕ = length c.args.bytes.now in
    let spare = leb-true (s.used + pages_met c.args.offset count) (pool_pages s.pool.now) (sym c.has_spare.ensures ∙ c.if-has_spare.true) in
    λ i past. spare_room s.map.now s.pool.now s.spare s.used c.args.offset c.args.bytes.now (bytes_before c.args.offset count i) c.args.self.now.sound c.requires.inside spare

pub returns-clause-room : goal.returns-clause-room
returns-clause-room c =
    let s = c.args.self.now.paging in
    let t = c.clear_blanks.new.self.paging in
    let bytes : List ℕ = c.args.bytes.now in
    let offset : ℕ = c.args.offset in
    let told = c.clear_blanks.ensures in
    let width : places t.map.now ≡ places s.map.now = width_kept s t told.kept in
    let depth : pool_pages t.pool.now ≡ pool_pages s.pool.now = depth_kept s t told.kept in
    let same = ap (filled_from (places t.map.now)) told.same ∙ ap (λ m. filled_from m (image_with (all_of s) offset bytes)) width in
    λ i past.
    let m : ℕ = bytes_before offset (length bytes) i in
    omega (arith, part_fills_less (places t.map.now) (all_of t) offset bytes m (omega arith) (omega arith) told.ready (λ more. omega arith), c.requires.room)
