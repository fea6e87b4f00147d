-- How long all pages are, and where a byte of them lies. Rests on the definition of pages.
use Rattle.std.proofs.Common.{◌≡◌, ℕ, zero, suc, ◌+◌, ◌*◌, ◌/◌, ◌%◌, ◌<◌, ◌≤◌, List, [], ◌∷◌, ◌++◌, length, get_or, take, drop, sym, ap, ◌∙◌, ⊎_elim, refl, arith, length-append, length-take, length-drop}
use Rattle.std.specs.List.{flat_map}
use Rattle.std.proofs.lemmas.List.{drop-drop, drop_at, ext_get_or, get_or-take, get_or-drop, get_or-replicate, get_or_past, length-replicate, take_at}
use Rattle.std.proofs.lemmas.Bool.{cases_lt}
use Rattle.paged.specs.Pages.{places, pool_pages, page_at, page_of, all_pages, Mapped}

-- the bytes of page i, and page i past the first one
pub getD_page : (b : List ℕ) (i r : ℕ) → r < 256 → get_or (page_of b i) r 0 ≡ get_or b (256 * i + r) 0
getD_page b i r l = get_or-take 256 (drop (256 * i) b) r 0 l ∙ get_or-drop (256 * i) b r 0

pub page_on : (c : List ℕ) (i : ℕ) → page_of (drop 256 c) i ≡ page_of c (suc i)
page_on c i = ap (take 256) (drop-drop (256 * i) 256 c ∙ ap (λ m. drop m c) (omega arith))

pub length_page : (pool : List ℕ) (k : ℕ) → k ≤ pool_pages pool → length (page_at pool k) ≡ 256
length_page pool zero h = length-replicate {A = ℕ} 256 0
length_page pool (suc k) h = simp (length-take, length-drop) (omega arith)

-- map values that are in the pool
InPool : List ℕ → List ℕ → Type 0
InPool pool ks = (i : ℕ) → i < length ks → get_or ks i 0 ≤ pool_pages pool

in_pool : (table pool : List ℕ) → Mapped table pool → InPool pool (take 65536 table)
unfolding InPool
in_pool table pool h i l = let short = length-take 65536 table in let low : i < 65536 = omega arith in rw get_or-take (h i (omega arith))

length_pages : (pool ks : List ℕ) → InPool pool ks → length (flat_map (page_at pool) ks) ≡ 256 * length ks
unfolding InPool
length_pages pool [] h = refl
length_pages pool (k ∷ ks) h = simp length-append (omega (arith, length_page pool k (h 0 (omega arith)), length_pages pool ks (λ i l. h (suc i) (omega arith))))

pub length_all : (table pool : List ℕ) → Mapped table pool → length (all_pages table pool) ≡ 256 * places table
length_all table pool h = omega (arith, length_pages pool (take 65536 table) (in_pool table pool h), length-take 65536 table)

page_in : (pool ks : List ℕ) (i : ℕ) → InPool pool ks → i < length ks → page_of (flat_map (page_at pool) ks) i ≡ page_at pool (get_or ks i 0)
unfolding InPool
page_in pool [] i h l = absurd (omega arith)
page_in pool (k ∷ ks) zero h l = take_at (page_at pool k) (flat_map (page_at pool) ks) 256 (length_page pool k (h 0 (omega arith)))
page_in pool (k ∷ ks) (suc i) h l =
    sym (page_on (page_at pool k ++ flat_map (page_at pool) ks) i) ∙ ap (λ b. page_of b i) (drop_at (page_at pool k) (flat_map (page_at pool) ks) 256 (length_page pool k (h 0 (omega arith))))
    ∙ page_in pool ks i (λ j m. h (suc j) (omega arith)) (omega arith)

-- page i is the page of its map value
pub page_value : (table pool : List ℕ) (i : ℕ) → Mapped table pool → i < places table → page_of (all_pages table pool) i ≡ page_at pool (get_or table i 0)
page_value table pool i h l =
    page_in pool (take 65536 table) i (in_pool table pool h) (omega (arith, length-take 65536 table)) ∙ ap (page_at pool) (get_or-take 65536 table i 0 (omega arith))

-- pages are what each page is
pub pages_same : (n : ℕ) (a b : List ℕ) → length a ≡ 256 * n → length b ≡ 256 * n → ((j : ℕ) → j < n → page_of a j ≡ page_of b j) → a ≡ b
pages_same n a b long also same =
    ext_get_or 0 a b (long ∙ sym also)
    (λ p l.
    let at : 256 * (p / 256) + p % 256 ≡ p = omega arith in
    ap (λ q. get_or a q 0) (sym at) ∙ sym (getD_page a (p / 256) (p % 256) (omega arith)) ∙ ap (λ page. get_or page (p % 256) 0) (same (p / 256) (omega arith))
    ∙ getD_page b (p / 256) (p % 256) (omega arith) ∙ ap (λ q. get_or b q 0) at)

-- a map of zeros has pages of zeros
pub pages_none : (table pool : List ℕ) → ((i : ℕ) → i < places table → get_or table i 0 ≡ 0) → (p : ℕ) → get_or (all_pages table pool) p 0 ≡ 0
pages_none table pool clear p =
    let all : List ℕ = all_pages table pool in
    let mapped : Mapped table pool = λ i l. omega (arith, clear i l) in
    let at : 256 * (p / 256) + p % 256 ≡ p = omega arith in
    ⊎_elim
    (λ low.
    ap (λ q. get_or all q 0) (sym at) ∙ sym (getD_page all (p / 256) (p % 256) (omega arith))
    ∙ ap (λ page. get_or page (p % 256) 0) (page_value table pool (p / 256) mapped (omega arith) ∙ ap (page_at pool) (clear (p / 256) (omega arith)))
    ∙ get_or-replicate {A = ℕ} 256 (p % 256) 0 0 (omega arith))
    (λ high. get_or_past all p 0 (omega (arith, length_all table pool mapped)))
    (cases_lt p (256 * places table))
