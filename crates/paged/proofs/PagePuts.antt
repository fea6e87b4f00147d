-- Bytes put into one page, and into a range. Rests on the laws of pages and of filled pages.
use Rattle.std.proofs.Common.{Option, Some, None, MatchOption, is_some, not, ◌≡◌, ℕ, zero, suc, ◌+◌, ◌*◌, ◌/◌, ◌%◌, ◌<◌, ◌≤◌, min, Bool, true, false, cond, ◌&&◌, eqb, ◌≢◌, List, ◌++◌, length, get_or, take, drop, replicate, sym, refl, ap, ◌∙◌, ⊎_elim, add-zero, arith, length-append, length-drop, length-take}
use lib.ListN.{length-replicate}
use Rattle.std.proofs.lemmas.List.Folds.{list_all-append}
use Rattle.std.proofs.lemmas.List.{same_lists, places as places-law, ext_get_or}
use Rattle.std.proofs.lemmas.Bool.{cases_lt, cases_eq, and_left, and_right, both_ways, eq-eqb, ne_eqb}
use Rattle.std.specs.Int.{from_bool}
use Rattle.store.specs.Images.{image_with}
use Rattle.store.proofs.ImageLaws.{length_overwritten, overwritten_after, overwritten_before, take_overwritten}
use Rattle.paged.specs.declared.pages.TheConstants.{POOL}
use Rattle.paged.specs.Pages.{places, pool_pages, page_of, blank, all_pages, filled_from, PagesPlaced, SoundPages}
use Rattle.paged.specs.State.{all_of, blank_after, SoundIn, InPage, PutAt}
use Rattle.paged.specs.declared.pages.paging.Paging.{Paging}
use Rattle.paged.proofs.UntouchedMemory.{Kept}
use Rattle.paged.proofs.PageLaws.{length_all, getD_page}
use Rattle.paged.proofs.FilledLaws.{blank_all, blank_at, page_same, filled_step, weight}

pub blank_over : (page : List ℕ) (from : ℕ) (bytes : List ℕ) → blank (image_with page from bytes) ≡ (blank (take from page) && (blank bytes && blank (drop (from + length bytes) page)))
blank_over page from bytes =
    list_all-append (λ b. eqb b 0) (take from page) (bytes ++ drop (from + length bytes) page)
    ∙ ap (λ t. blank (take from page) && t) (list_all-append (λ b. eqb b 0) bytes (drop (from + length bytes) page))

-- blank bytes in a blank page
pub blank_in_blank : (page : List ℕ) (from : ℕ) (bytes : List ℕ) → blank page ≡ true → blank bytes ≡ true → blank (image_with page from bytes) ≡ true
blank_in_blank page from bytes p b =
    let old : (r : ℕ) → get_or page r 0 ≡ 0 = λ r. blank_at page r p in
    let new : (r : ℕ) → get_or bytes r 0 ≡ 0 = λ r. blank_at bytes r b in
    blank_all (image_with page from bytes) (λ r. grind (arith, places-law))

pub blank_none : (page : List ℕ) (from : ℕ) (bytes : List ℕ) → blank bytes ≡ false → blank (image_with page from bytes) ≡ false
blank_none page from bytes h =
    blank_over page from bytes ∙ and_right (blank (take from page)) (blank bytes && blank (drop (from + length bytes) page)) (and_left (blank bytes) (blank (drop (from + length bytes) page)) h)

pub blank_around : (page : List ℕ) (from : ℕ) (bytes : List ℕ) → blank bytes ≡ true → blank (image_with page from bytes) ≡ (blank (take from page) && blank (drop (from + length bytes) page))
blank_around page from bytes h = blank_over page from bytes ∙ ap (λ t. blank (take from page) && (t && blank (drop (from + length bytes) page))) h

pub blank_zeros : (n : ℕ) → blank (replicate n 0) ≡ true
blank_zeros zero = refl
blank_zeros (suc n) = blank_zeros n

-- what lies past a position before the range
drop_before : (n : ℕ) (image : List ℕ) (offset : ℕ) (bytes : List ℕ) → n + offset + length bytes ≤ length image → drop n (image_with image (n + offset) bytes) ≡ image_with (drop n image) offset bytes
drop_before n image offset bytes fits = same_lists _ _ (simp (length-append, length-take, length-drop) (omega arith)) (λ r d l. grind (arith, places-law))

-- bytes put into page i
module _ (b : List ℕ) (i from : ℕ) (bytes : List ℕ) (inside : from + length bytes ≤ 256) (whole : 256 * i + 256 ≤ length b) where
  fits : 256 * i + from + length bytes ≤ length b
  fits = omega arith

  pub over_outside : (p : ℕ) → p / 256 ≢ i → get_or (image_with b (256 * i + from) bytes) p 0 ≡ get_or b p 0
  over_outside p ne =
      ⊎_elim
      (λ low. overwritten_before b (256 * i + from) bytes fits p low)
      (λ high. overwritten_after b (256 * i + from) bytes fits p (omega arith))
      (cases_lt p (256 * i + from))

  pub page_over : page_of (image_with b (256 * i + from) bytes) i ≡ image_with (page_of b i) from bytes
  page_over = ap (take 256) (drop_before (256 * i) b from bytes fits) ∙ take_overwritten 256 (drop (256 * i) b) from bytes inside (simp length-drop (omega arith))

  pub page_apart : (j : ℕ) → j ≢ i → page_of (image_with b (256 * i + from) bytes) j ≡ page_of b j
  page_apart j ne = page_same (image_with b (256 * i + from) bytes) b j (length_overwritten b (256 * i + from) bytes fits) (λ p q. over_outside p (λ e. ne (sym q ∙ e)))

-- two lists that agree outside page i, which is blank in both
pub page_settles : (a b : List ℕ) (i : ℕ) → length a ≡ length b → ((p : ℕ) → p / 256 ≢ i → get_or a p 0 ≡ get_or b p 0) → blank (page_of a i) ≡ true → blank (page_of b i) ≡ true → a ≡ b
page_settles a b i e h x y =
    ext_get_or 0 a b e
    (λ p l.
    ⊎_elim
    (λ (is : p / 256 ≡ i).
    let at : 256 * i + p % 256 ≡ p = omega arith in
    let zero_in : (c : List ℕ) → blank (page_of c i) ≡ true → get_or c p 0 ≡ 0 = λ c z. ap (λ n. get_or c n 0) (sym at) ∙ sym (getD_page c i (p % 256) (omega arith)) ∙ blank_at (page_of c i) (p % 256) z in
    zero_in a x ∙ sym (zero_in b y))
    (λ (ne : p / 256 ≡ i → ⊥). h p ne)
    (cases_eq (p / 256) i))

-- bytes put into page i of sound pages
module _ (table pool spare : List ℕ) (used i from : ℕ) (bytes : List ℕ) (sound : SoundPages table pool spare used) (here : i < places table) (inside : from + length bytes ≤ 256) where
  pub page_fits : 256 * i + 256 ≤ length (all_pages table pool)
  page_fits = omega (arith, sound.long)

  same_length : length (image_with (all_pages table pool) (256 * i + from) bytes) ≡ length (all_pages table pool)
  same_length = length_overwritten (all_pages table pool) (256 * i + from) bytes (omega (arith, page_fits))

  -- how the count changes
  pub put_count : filled_from (places table) (image_with (all_pages table pool) (256 * i + from) bytes) + cond (eqb (get_or table i 0) 0) 0 1 ≡ used + cond (blank (image_with (page_of (all_pages table pool) i) from bytes)) 0 1
  put_count =
      let all : List ℕ = all_pages table pool in
      let new : List ℕ = image_with all (256 * i + from) bytes in
      omega (
        arith,
        filled_step (places table) i all new here (sym same_length) (λ p ne. sym (over_outside all i from bytes inside page_fits p ne)),
        weight (sound.filled i here),
        weight (ap blank (page_over all i from bytes inside page_fits)),
        sound.counted,
      )

  pub sound_put : (T P S : List ℕ) (U : ℕ) → PagesPlaced T P S U → Kept table pool T P → all_pages T P ≡ image_with (all_pages table pool) (256 * i + from) bytes → ((j : ℕ) → j ≢ i → get_or T j 0 ≡ get_or table j 0)
      → blank (image_with (page_of (all_pages table pool) i) from bytes) ≡ eqb (get_or T i 0) 0
      → U + cond (eqb (get_or table i 0) 0) 0 1 ≡ used + cond (eqb (get_or T i 0) 0) 0 1
      → filled_from (places table) (image_with (all_pages table pool) (256 * i + from) bytes) ≤ pool_pages pool
      → SoundPages T P S U
  sound_put T P S U placed kept pages others mark step room =
      let all : List ℕ = all_pages table pool in
      let new : List ℕ = image_with all (256 * i + from) bytes in
      let width : places T ≡ places table = ap (λ n. min n 65536) kept.map_length in
      let depth : pool_pages P ≡ pool_pages pool = ap (λ n. min (n / 256) POOL) kept.pool_length in
      let count : U ≡ filled_from (places table) new = omega (arith, put_count, weight mark) in
      record {
        placed = placed;
        long = length_all T P placed.mapped;
        filled = λ j l.
            ap (λ b. blank (page_of b j)) pages
            ∙ ⊎_elim
            (λ (is : j ≡ i). ap (λ m. blank (page_of new m)) is ∙ ap blank (page_over all i from bytes inside page_fits) ∙ mark ∙ ap (λ m. eqb (get_or T m 0) 0) (sym is))
            (λ (ne : j ≡ i → ⊥).
            ap blank (page_apart all i from bytes inside page_fits j ne)
            ∙ sound.filled j (omega (arith, width)) ∙ ap (λ v. eqb v 0) (sym (others j ne)))
            (cases_eq j i);
        counted = count ∙ ap (λ n. filled_from n new) (sym width) ∙ ap (filled_from (places T)) (sym pages);
        room = omega arith;
      }

-- a page that is zeroed whole
covered : (page bytes : List ℕ) → length page ≤ length bytes → image_with page 0 bytes ≡ bytes
covered page bytes long = same_lists _ _ (simp (length-append, length-drop) (omega arith)) (λ r d l. grind (arith, places-law))

zeros_over : (b : List ℕ) (i : ℕ) → image_with (page_of b i) 0 (replicate 256 0) ≡ replicate 256 0
zeros_over b i = covered (page_of b i) (replicate 256 0) (omega (arith, length-take 256 (drop (256 * i) b), length-replicate {A = ℕ} 256 0))

pub blank_zeroed : (b : List ℕ) (i : ℕ) → blank (image_with (page_of b i) 0 (replicate 256 0)) ≡ true
blank_zeroed b i = ap blank (zeros_over b i) ∙ blank_zeros 256

pub page_zeroed : (b : List ℕ) (i : ℕ) → 256 * i + 256 ≤ length b → page_of (image_with b (256 * i + 0) (replicate 256 0)) i ≡ replicate 256 0
page_zeroed b i whole = page_over b i 0 (replicate 256 0) (omega (arith, length-replicate {A = ℕ} 256 0)) whole ∙ zeros_over b i

-- a page that becomes blank may as well be zeroed
pub zeroed_page : (b : List ℕ) (i from : ℕ) (bytes : List ℕ) → from + length bytes ≤ 256 → 256 * i + 256 ≤ length b → blank (image_with (page_of b i) from bytes) ≡ true → image_with b (256 * i) (replicate 256 0) ≡ image_with b (256 * i + from) bytes
zeroed_page b i from bytes inside whole empty =
    let zeros : List ℕ = replicate 256 0 in
    let lz : length zeros ≡ 256 = length-replicate {A = ℕ} 256 0 in
    let all : 0 + length zeros ≤ 256 = omega arith in
    let e : image_with b (256 * i) zeros ≡ image_with b (256 * i + 0) zeros = ap (λ o. image_with b o zeros) (sym (add-zero (256 * i))) in
    let z : List ℕ = image_with b (256 * i + 0) zeros in
    let none : blank (page_of z i) ≡ true = ap blank (page_over b i 0 zeros all whole) ∙ blank_zeroed b i in
    e ∙ page_settles z (image_with b (256 * i + from) bytes) i
    (length_overwritten b (256 * i + 0) zeros (omega arith) ∙ sym (length_overwritten b (256 * i + from) bytes (omega arith)))
    (λ p ne. over_outside b i 0 zeros all whole p ne ∙ sym (over_outside b i from bytes inside whole p ne))
    none (ap blank (page_over b i from bytes inside whole) ∙ empty)

-- a page that was cleared has the bytes that were to make it blank
pub cleared_put : (s u : Paging) (i from : ℕ) (bytes : List ℕ) → SoundIn s → InPage s i from (length bytes) → blank_after s i from bytes ≡ true → PutAt s u (256 * i) (replicate 256 0) → PutAt s u (256 * i + from) bytes
cleared_put s u i from bytes sound here empty put =
    let fits = page_fits s.map.now s.pool.now s.spare s.used i from bytes sound here.0 here.1 in
    record { kept = put.kept; pages = put.pages ∙ zeroed_page (all_of s) i from bytes here.1 fits empty }

-- blank bytes leave a blank page
pub kept_page : (b : List ℕ) (i from : ℕ) (bytes : List ℕ) → from + length bytes ≤ 256 → 256 * i + 256 ≤ length b → blank (page_of b i) ≡ true → blank (image_with (page_of b i) from bytes) ≡ true → b ≡ image_with b (256 * i + from) bytes
kept_page b i from bytes inside whole was empty =
    page_settles b (image_with b (256 * i + from) bytes) i (sym (length_overwritten b (256 * i + from) bytes (omega arith)))
    (λ p ne. sym (over_outside b i from bytes inside whole p ne)) was (ap blank (page_over b i from bytes inside whole) ∙ empty)

-- 1 for a page that is not blank, and 0 for a blank one
pub weight_filled : (b : Bool) → from_bool (not b) ≡ cond b 0 1
weight_filled true = refl
weight_filled false = refl

-- 1 for a place with a pool page, and 0 for one without
pub weight_place : (page : Option ℕ) (v : ℕ) → MatchOption page (v ≡ 0) (λ k. v ≡ k + 1) → from_bool (is_some page) ≡ cond (eqb v 0) 0 1
weight_place None v e = sym (weight (eq-eqb v 0 e))
weight_place (Some k) v e = sym (weight (ne_eqb v 0 (λ z. omega arith)))

pub no_page : (page : Option ℕ) (v : ℕ) → MatchOption page (v ≡ 0) (λ k. v ≡ k + 1) → is_some page ≡ false → v ≡ 0
no_page None v e h = e
no_page (Some k) v e h = absurd (both_ways true h refl)
