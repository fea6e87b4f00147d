-- What a change of the pages makes of the image. Rests on the laws of pages, of filled pages and of
-- images.
use Rattle.std.proofs.Common.{◌≡◌, ℕ, ◌+◌, ◌-◌, ◌*◌, ◌<◌, ◌≤◌, min, true, false, ◌&&◌, leb, List, length, get_or, take, replicate, sym, ap, ◌∙◌, ⊎_elim, arith, length-take, rules}
use Rattle.std.proofs.Math.Bool.{and-true}
use Rattle.std.proofs.lemmas.List.{same_lists, places as places-law, ext_get_or}
use Rattle.std.proofs.lemmas.Bool.{cases_lt, le-leb, lt-leb, eqb-true}
use Rattle.store.specs.Images.{image_with, image_of_size}
use Rattle.store.proofs.ImageLaws.{length_overwritten, length_resized, overwritten_after, take_overwritten}
use Rattle.paged.specs.Pages.{places, pool_pages, all_pages, filled_from, filled_pages, paged_set, ZeroFrom, Ended, SoundPages, Valid}
use Rattle.paged.proofs.FilledLaws.{filled_cut, filled_mono, page_blank}
use Rattle.paged.proofs.UntouchedMemory.{width_kept}
use Rattle.paged.specs.State.{pool_of, all_of, filled_after, PutAt}
use Rattle.paged.specs.Paged.{paged_image, paged_holds}
use Rattle.paged.specs.declared.image.PagedImage.{PagedImage}
use Rattle.paged.specs.declared.pages.Pages.{Pages}

-- an image's pages have the whole image
pub whole_of : (s : PagedImage) → s.size ≤ length (all_pages s.pages.paging.map.now s.pages.paging.pool.now)
whole_of s = omega (arith, s.valid.fits, s.pages.sound.long)

-- an image that is short enough is in the set exactly if its filled pages are few enough
pub by_count : (table pool image : List ℕ) → length image ≤ 256 * places table → paged_set table pool image ≡ leb (filled_pages image) (pool_pages pool)
unfolding paged_set
by_count table pool image short = ap (λ t. t && leb (filled_pages image) (pool_pages pool)) (le-leb (length image) (256 * places table) short)

-- sound pages with zeros past a size
pub valid_of : (table pool spare : List ℕ) (used size : ℕ) → SoundPages table pool spare used → size ≤ 256 * places table → Ended table pool size → Valid table pool used size
valid_of table pool spare used size sound fits ended =
    let all : List ℕ = all_pages table pool in
    let long : length (take size all) ≡ size = omega (arith, length-take size all, sound.long) in
    let count = sound.counted ∙ sym (filled_cut (places table) size all ended fits) in
    record {
      fits = fits;
      long = long;
      held = by_count table pool (take size all) (omega (arith, long)) ∙ le-leb (filled_pages (take size all)) (pool_pages pool) (omega (arith, count, sound.room));
      counted = count;
      ended = ended;
      unmapped = λ i l h. eqb-true (get_or table i 0) 0 (sym (sound.filled i l) ∙ page_blank all i (λ r. ended (256 * i + r) (omega arith)));
    }

-- a change inside the size
module _ (all : List ℕ) (size o : ℕ) (bytes : List ℕ) (within : o + length bytes ≤ size) (fits : size ≤ length all) (ended : ZeroFrom size all) where
  pub ended_over : ZeroFrom size (image_with all o bytes)
  ended_over p h = overwritten_after all o bytes (omega arith) p (omega arith) ∙ ended p h

  pub filled_over : (n : ℕ) → size ≤ 256 * n → filled_pages (image_with (take size all) o bytes) ≡ filled_from n (image_with all o bytes)
  filled_over n most = sym (ap filled_pages (take_overwritten size all o bytes within fits)) ∙ filled_cut n size (image_with all o bytes) ended_over most

-- bytes put into an image
module _ (s : PagedImage) (o : ℕ) (bytes : List ℕ) (inside : o + length bytes ≤ s.size) where
  -- the image can be had exactly if there is room for the bytes
  pub held_put : paged_holds s (image_with (paged_image s) o bytes) ≡ leb (filled_after s.pages.paging o bytes) (pool_of s.pages.paging)
  held_put =
      let table : List ℕ = s.pages.paging.map.now in
      let pool : List ℕ = s.pages.paging.pool.now in
      let new : List ℕ = image_with (paged_image s) o bytes in
      let ranged : o + length bytes ≤ length (paged_image s) = omega (arith, inside, s.valid.long) in
      let short : length new ≤ 256 * places table = omega (arith, length_overwritten (paged_image s) o bytes ranged, s.valid.long, s.valid.fits) in
      by_count table pool new short ∙ ap (λ n. leb n (pool_pages pool)) (filled_over (all_pages table pool) s.size o bytes inside (whole_of s) s.valid.ended (places table) (s.valid.fits))

  -- pages with the bytes have a valid image again
  pub valid_put : (t : Pages) → PutAt s.pages.paging t.paging o bytes → Valid t.paging.map.now t.paging.pool.now t.paging.used s.size
  valid_put t put =
      let width = width_kept s.pages.paging t.paging put.kept in
      valid_of t.paging.map.now t.paging.pool.now t.paging.spare t.paging.used s.size t.sound (omega (arith, s.valid.fits))
      (λ p h. ap (λ b. get_or b p 0) put.pages ∙ ended_over (all_of s.pages.paging) s.size o bytes inside (whole_of s) s.valid.ended p h)

  -- and it is the old one with the bytes
  pub image_put : (t : Pages) → PutAt s.pages.paging t.paging o bytes → take s.size (all_of t.paging) ≡ image_with (paged_image s) o bytes
  image_put t put = ap (take s.size) put.pages ∙ take_overwritten s.size (all_of s.pages.paging) o bytes inside (whole_of s)

-- zeros from a position up to the end
pub cleared_at : (image : List ℕ) (size start p : ℕ) → size ≡ length image → start ≤ p → start ≤ size → get_or (image_with image start (replicate (size - start) 0)) p 0 ≡ 0
cleared_at image size start p e h k = grind (arith, places-law)

pub cleared_front : (image : List ℕ) (size start from : ℕ) → size ≡ length image → start ≡ min size from → image_of_size (image_with image start (replicate (size - start) 0)) from ≡ image_of_size image from
cleared_front image size start from e h = same_lists _ _ (search (rules, places-law)) (λ p d l. grind (arith, places-law))

-- another size of the image in pages with zeros past the old one
pub take_resized : (all : List ℕ) (old size : ℕ) → size ≤ length all → ZeroFrom old all → take size all ≡ image_of_size (take old all) size
take_resized all old size most ended =
    ext_get_or 0 (take size all) (image_of_size (take old all) size) (length-take size all ∙ omega arith ∙ sym (length_resized (take old all) size))
    (λ p l. let low : p < size = omega (arith, length-take size all) in ⊎_elim (λ h. grind (arith, places-law)) (λ h. let none = ended p h in grind (arith, places-law)) (cases_lt p old))

-- another size needs no more filled pages
resized_fills_less : (image : List ℕ) (size : ℕ) → filled_pages (image_of_size image size) ≤ filled_pages image
resized_fills_less image size =
    filled_mono (length (image_of_size image size)) (length image) (image_of_size image size) image
    (λ p e. grind (arith, places-law))
    (λ p h. grind (arith, places-law))

-- the image at another size is in the set exactly if there is a map place for each page
held_resized : (table pool image : List ℕ) (size : ℕ) → filled_pages image ≤ pool_pages pool → paged_set table pool (image_of_size image size) ≡ leb size (256 * places table)
unfolding paged_set
held_resized table pool image size few =
    let less = resized_fills_less image size in
    ap (λ n. leb n (256 * places table) && leb (filled_pages (image_of_size image size)) (pool_pages pool)) (length_resized image size)
    ∙ ap (λ t. leb size (256 * places table) && t) (le-leb (filled_pages (image_of_size image size)) (pool_pages pool) (omega arith)) ∙ and-true (leb size (256 * places table))

pub held_small : (table pool image : List ℕ) (size : ℕ) → filled_pages image ≤ pool_pages pool → size ≤ 256 * places table → paged_set table pool (image_of_size image size) ≡ true
held_small table pool image size few h = held_resized table pool image size few ∙ le-leb size (256 * places table) h

pub held_large : (table pool image : List ℕ) (size : ℕ) → filled_pages image ≤ pool_pages pool → 256 * places table < size → paged_set table pool (image_of_size image size) ≡ false
held_large table pool image size few h = held_resized table pool image size few ∙ lt-leb size (256 * places table) h

pub ruleset resizes = (held_small, held_large, cleared_at, cleared_front)
