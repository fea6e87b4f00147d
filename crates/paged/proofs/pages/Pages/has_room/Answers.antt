use Rattle.std.proofs.Common.{ℕ, ◌+◌, List, length, ap, ◌∙◌, sym, arith}
use Rattle.std.proofs.lemmas.Bool.{le-leb, leb-true}
use Rattle.std.proofs.lemmas.List.{take_all}
use Rattle.store.specs.Images.{image_with}
use Rattle.paged.specs.Pages.{all_pages, places, pool_pages, pages_met, filled_from}
use Rattle.paged.proofs.Ranges.{spare_room}
use Rattle.paged.proofs.pages.Pages.has_room.Goals as goal

pub returns-then-has_spare : goal.returns-then-has_spare
returns-then-has_spare c =
    let s = c.args.self.now.paging in
    let bytes : List ℕ = c.args.bytes.now in
    let offset : ℕ = c.args.offset in
    let filled : List ℕ → ℕ = λ b. filled_from (places s.map.now) (image_with (all_pages s.map.now s.pool.now) offset b) in
    let spare = leb-true (s.used + pages_met offset (length bytes)) (pool_pages s.pool.now) (sym c.has_spare.ensures ∙ c.if-has_spare.true) in
    let room = spare_room s.map.now s.pool.now s.spare s.used offset bytes (length bytes) c.args.self.now.sound c.requires.inside spare in
    sym (le-leb (filled bytes) (pool_pages s.pool.now) (omega (arith, room, ap filled (take_all (length bytes) bytes (omega arith)))))
