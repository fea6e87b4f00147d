use Rattle.std.proofs.Common.{◌≡◌, ℕ, ◌+◌, ◌*◌, ◌≤◌, true, List, length, get_or, replicate, ap, ◌∙◌, add-zero, arith, refl}
use lib.ListN.{length-replicate}
use Rattle.std.proofs.lemmas.Bool.{eq-eqb}
use Rattle.store.specs.Images.{image_with}
use Rattle.paged.specs.Pages.{all_pages, page_of, blank}
use Rattle.paged.proofs.PagePuts.{blank_zeroed, kept_page}
use Rattle.paged.proofs.pages.Pages.clear.Goals as goal

pub returns-in_default : goal.returns-in_default
returns-in_default c =
    let s = c.args.self.now.paging in
    let i : ℕ = c.args.i in
    let none : get_or s.map.now i 0 ≡ 0 = c.in_default.ensures in
    let all : List ℕ = all_pages s.map.now s.pool.now in
    let zeros : List ℕ = replicate 256 0 in
    let lz : length zeros ≡ 256 = length-replicate {A = ℕ} 256 0 in
    let whole : 256 * i + 256 ≤ length all = omega (arith, c.requires.here) in
    let was : blank (page_of all i) ≡ true = c.args.self.now.sound.filled i c.requires.here ∙ eq-eqb (get_or s.map.now i 0) 0 none in
    record {
      kept = refl;
      pages = kept_page all i 0 zeros (omega arith) whole was (blank_zeroed all i) ∙ ap (λ o. image_with all o zeros) (add-zero (256 * i));
    }
