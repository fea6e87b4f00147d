use Rattle.std.proofs.Common.{List, sym, ◌∙◌, ⊎_elim, arith}
use Rattle.std.proofs.lemmas.List.{get_or-take}
use Rattle.std.proofs.lemmas.Bool.{cases_lt}
use Rattle.paged.specs.Pages.{all_pages}
use Rattle.paged.proofs.ImagePages.{valid_of, take_resized}
use Rattle.paged.proofs.image.PagedImage.set_size.Goals as goal

pub invariant_of-self : goal.invariant_of-self
invariant_of-self c =
    let s = c.args.self.now in
    let all : List _ = all_pages s.pages.paging.map.now s.pages.paging.pool.now in
    let v =
    valid_of s.pages.paging.map.now s.pages.paging.pool.now s.pages.paging.spare s.pages.paging.used c.args.size s.pages.sound c.requires.room
    (λ p h. ⊎_elim (λ low. sym (get_or-take s.size all p 0 low) ∙ c.requires.clear p h) (λ high. s.valid.ended p high) (cases_lt p s.size))
    in
    record { valid = v }

pub returns-clause-image : goal.returns-clause-image
returns-clause-image c =
    let s = c.args.self.now in
    take_resized (all_pages s.pages.paging.map.now s.pages.paging.pool.now) s.size c.args.size (omega (arith, c.requires.room)) s.valid.ended
