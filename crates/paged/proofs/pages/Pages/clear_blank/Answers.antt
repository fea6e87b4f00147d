use Rattle.std.proofs.Common.{◌≡◌, ℕ, ◌+◌, ◌*◌, Bool, true, false, if◌then◌else◌, List, get_or, sym, refl, ap, ◌∙◌}
use Rattle.std.proofs.lemmas.Bool.{eq-eqb}
use Rattle.store.specs.Images.{image_with}
use Rattle.paged.specs.Pages.{all_pages, page_of, blank}
use Rattle.paged.proofs.PagePuts.{page_fits, no_page, kept_page, cleared_put}
use Rattle.paged.proofs.pages.Pages.clear_blank.Goals as goal

either : (t : Bool) (x y : List ℕ) → (t ≡ true → x ≡ y) → x ≡ (if t then y else x)
either true x y h = h refl
either false x y h = refl

pub returns-then-is_none : goal.returns-then-is_none
returns-then-is_none c =
    let s = c.args.self.now.paging in
    let i : ℕ = c.args.i in
    let from : ℕ = c.args.from in
    let bytes : List ℕ = c.args.bytes.now in
    let all : List ℕ = all_pages s.map.now s.pool.now in
    let none : get_or s.map.now i 0 ≡ 0 = no_page c.page.result (get_or s.map.now i 0) c.page.ensures c.if-is_none.ensures in
    let fits = page_fits s.map.now s.pool.now s.spare s.used i from bytes c.args.self.now.sound c.requires.here.0 c.requires.here.1 in
    let was : blank (page_of all i) ≡ true = c.args.self.now.sound.filled i c.requires.here.0 ∙ eq-eqb (get_or s.map.now i 0) 0 none in
    record {
      kept = refl;
      pages = either (blank (image_with (page_of all i) from bytes)) all (image_with all (256 * i + from) bytes) (λ e. kept_page all i from bytes c.requires.here.1 fits was e);
    }

pub returns-then-not-blank_with : goal.returns-then-not-blank_with
returns-then-not-blank_with c =
    let s = c.args.self.now.paging in
    let all : List ℕ = all_pages s.map.now s.pool.now in
    record {
      kept = refl;
      pages = ap (λ t. if t then image_with all (256 * c.args.i + c.args.from) c.args.bytes.now else all) c.if-not-blank_with.ensures;
    }

pub returns : goal.returns
returns c =
    let s = c.args.self.now.paging in
    let all : List ℕ = all_pages s.map.now s.pool.now in
    let put = cleared_put s c.clear.new.self.paging c.args.i c.args.from c.args.bytes.now c.args.self.now.sound c.requires.here (sym c.if-not-blank_with.ensures) c.clear.ensures in
    record {
      kept = put.kept;
      pages = put.pages ∙ ap (λ t. if t then image_with all (256 * c.args.i + c.args.from) c.args.bytes.now else all) c.if-not-blank_with.ensures;
    }
