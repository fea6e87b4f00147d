-- Bytes read page by page. Rests on the laws of pages.
use Rattle.std.proofs.Common.{◌≡◌, ℕ, suc, ◌+◌, ◌-◌, ◌*◌, ◌<◌, ◌≤◌, List, length, get_or, take, drop, replicate, sym, ap, ◌∙◌, ⊎_elim, arith, length-drop, length-take}
use Rattle.std.proofs.lemmas.List.{places as places-law, drop-drop, take-replicate, drop-replicate, ext_get_or}
use Rattle.std.proofs.lemmas.Bool.{cases_lt}
use Rattle.store.specs.Images.{part, image_with}
use Rattle.store.proofs.ImageLaws.{part_take}
use Rattle.paged.specs.Pages.{places, page_at, page_of, all_pages, Mapped}
use Rattle.paged.proofs.PageLaws.{length_all, page_value}

-- a part of page i
part_in : (b : List ℕ) (i from count : ℕ) → from + count ≤ 256 → 256 * i + 256 ≤ length b → part b (256 * i + from) count ≡ part (page_of b i) from count
part_in b i from count inside whole = ap (take count) (sym (drop-drop from (256 * i) b)) ∙ sym (part_take 256 (drop (256 * i) b) from count inside (simp length-drop (omega arith)))

-- from the pool page or from none
module _ (table pool : List ℕ) (i from count : ℕ) (mapped : Mapped table pool) (here : i < places table) (inside : from + count ≤ 256) where
  in_page : (v : ℕ) → get_or table i 0 ≡ v → part (all_pages table pool) (256 * i + from) count ≡ part (page_at pool v) from count
  in_page v e = part_in (all_pages table pool) i from count inside (omega (arith, length_all table pool mapped)) ∙ ap (λ page. part page from count) (page_value table pool i mapped here ∙ ap (page_at pool) e)

  pub part_none : get_or table i 0 ≡ 0 → replicate count 0 ≡ part (all_pages table pool) (256 * i + from) count
  part_none none = sym (in_page 0 none ∙ ap (take count) (drop-replicate from 256 0) ∙ take-replicate count (256 - from) 0 (omega arith))

  pub part_page : (n : ℕ) → get_or table i 0 ≡ suc n → take (256 * n + from + count - (256 * n + from)) (drop (256 * n + from) pool) ≡ part (all_pages table pool) (256 * i + from) count
  part_page n value =
      let e : 256 * n + from + count - (256 * n + from) ≡ count = omega arith in
      ap (λ k. take k (drop (256 * n + from) pool)) e ∙ part_in pool n from count inside (omega (arith, mapped i here)) ∙ sym (in_page (suc n) value)

-- one part more in the buffer
pub read_more : (all buf : List ℕ) (offset d m : ℕ) → d ≤ m → m ≤ length buf → offset + m ≤ length all → ((k : ℕ) → k < d → get_or buf k 0 ≡ get_or all (offset + k) 0) → (k : ℕ) → k < m → get_or (image_with buf d (part all (offset + d) (m - d))) k 0 ≡ get_or all (offset + k) 0
read_more all buf offset d m order most fits first k l = ⊎_elim (λ low. let old = first k low in grind (arith, places-law)) (λ high. grind (arith, places-law)) (cases_lt k d)

-- a buffer filled byte by byte
pub read_whole : (image buf : List ℕ) (offset count : ℕ) → length buf ≡ count → offset + count ≤ length image → ((k : ℕ) → k < count → get_or buf k 0 ≡ get_or image (offset + k) 0) → buf ≡ part image offset count
read_whole image buf offset count e h each = ext_get_or 0 buf (part image offset count) (simp (length-take, length-drop) (omega arith)) (λ k l. let at-k = each k (omega arith) in grind (arith, places-law))
