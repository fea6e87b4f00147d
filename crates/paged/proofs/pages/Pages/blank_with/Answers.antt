use Rattle.std.proofs.Common.{◌≡◌, ℕ, suc, ◌+◌, ◌-◌, ◌*◌, Bool, true, false, ◌&&◌, List, length, get_or, take, drop, sym, ap, ◌∙◌, arith, length-drop}
use Rattle.std.proofs.lemmas.List.{take_all}
use Rattle.store.specs.Images.{image_with}
use Rattle.paged.specs.Pages.{all_pages, page_of, page_at, blank}
use Rattle.paged.proofs.PageLaws.{page_value}
use Rattle.paged.proofs.PagePuts.{blank_none, blank_in_blank, blank_around, blank_zeros}
use Rattle.paged.proofs.pages.Pages.blank_with.Goals as goal

pub returns-then-not-all_zero : goal.returns-then-not-all_zero
returns-then-not-all_zero c =
    let s = c.args.self.now.paging in
    sym (blank_none (page_of (all_pages s.map.now s.pool.now) c.args.i) c.args.from c.args.bytes.now (sym c.if-not-all_zero.ensures))

pub returns-in_default : goal.returns-in_default
returns-in_default c =
    let s = c.args.self.now.paging in
    let page : List ℕ = page_of (all_pages s.map.now s.pool.now) c.args.i in
    let none : get_or s.map.now c.args.i 0 ≡ 0 = c.in_default.ensures in
    let empty : blank page ≡ true =
    ap blank (page_value s.map.now s.pool.now c.args.i c.args.self.now.sound.placed.mapped c.requires.here.0)
    ∙ ap (λ v. blank (page_at s.pool.now v)) none ∙ blank_zeros 256 in
    sym (blank_in_blank page c.args.from c.args.bytes.now empty (sym c.if-not-all_zero.ensures))

-- around the bytes, the pool page decides
around : (table pool bytes page : List ℕ) (i from k : ℕ) (f t : Bool) → page_of (all_pages table pool) i ≡ page_at pool (get_or table i 0) → get_or table i 0 ≡ k + 1 → page ≡ take (256 * k + 256 - 256 * k) (drop (256 * k) pool)
    → blank bytes ≡ true → blank (take from page) ≡ f → blank (drop (from + length bytes) page) ≡ t → blank (image_with (page_of (all_pages table pool) i) from bytes) ≡ (f && t)
around table pool bytes page i from k f t is value cut b x y =
    let value' : get_or table i 0 ≡ suc k = omega arith in
    let size : 256 * k + 256 - 256 * k ≡ 256 = omega arith in
    let pool-page : page_of (all_pages table pool) i ≡ page = is ∙ ap (page_at pool) value' ∙ ap (λ n. take n (drop (256 * k) pool)) (sym size) ∙ sym cut in
    blank_around (page_of (all_pages table pool) i) from bytes b
    ∙ ap (λ p. blank (take from p) && blank (drop (from + length bytes) p)) pool-page
    ∙ (λ n. x n && y n)

pub returns-then-not-all_zero-2 : goal.returns-then-not-all_zero-2
returns-then-not-all_zero-2 c =
    let s = c.args.self.now.paging in
    let table : List ℕ = s.map.now in
    let pool : List ℕ = s.pool.now in
    let k : ℕ = c.in-Some.k in
    let page : List ℕ = take (256 * k + 256 - 256 * k) (drop (256 * k) pool) in
    sym (around table pool c.args.bytes.now page c.args.i c.args.from k false _ (page_value table pool c.args.i c.args.self.now.sound.placed.mapped c.requires.here.0) c.in-Some.ensures (λ n. page)
    (sym c.if-not-all_zero.ensures) (sym c.if-not-all_zero-2.ensures) (λ n. blank (drop (c.args.from + length c.args.bytes.now) page)))

pub returns : goal.returns
returns c =
    let s = c.args.self.now.paging in
    let table : List ℕ = s.map.now in
    let pool : List ℕ = s.pool.now in
    let k : ℕ = c.in-Some.k in
    let page : List ℕ = take (256 * k + 256 - 256 * k) (drop (256 * k) pool) in
    let after : ℕ = c.args.from + length c.args.bytes.now in
    let tail : take (length page - after) (drop after page) ≡ drop after page = take_all (length page - after) (drop after page) (omega (arith, length-drop after page)) in
    sym (around table pool c.args.bytes.now page c.args.i c.args.from k true _ (page_value table pool c.args.i c.args.self.now.sound.placed.mapped c.requires.here.0) c.in-Some.ensures (λ n. page)
    (sym c.if-not-all_zero.ensures) (sym c.if-not-all_zero-2.ensures) (ap blank (sym tail) ∙ sym c.all_zero-3.ensures))
