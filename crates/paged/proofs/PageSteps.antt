-- What a step on a page makes of the pages. Rests on the laws of pages and of images.
use Rattle.std.proofs.Common.{◌≡◌, ℕ, zero, suc, ◌+◌, ◌-◌, ◌*◌, ◌/◌, ◌<◌, ◌≤◌, min, ◌≢◌, List, length, get_or, set, replicate, sym, refl, ap, ◌∙◌, ⊎_elim, arith, length-set}
use lib.ListN.{length-replicate}
use Rattle.std.proofs.lemmas.List.{get_or-set_same, get_or-set_other, drop-set-lt}
use Rattle.std.proofs.lemmas.Bool.{cases_eq}
use Rattle.store.specs.Images.{image_with}
use Rattle.store.proofs.ImageLaws.{length_overwritten, drop_overwritten}
use Rattle.paged.specs.declared.pages.TheConstants.{POOL}
use Rattle.paged.specs.Pages.{places, pool_pages, page_at, page_of, all_pages, Mapped, PlacesApart, SpareIn, SpareApart, SpareFree, PagesPlaced}
use Rattle.paged.proofs.UntouchedMemory.{Kept}
use Rattle.paged.proofs.PageLaws.{length_all, page_value, pages_same}
use Rattle.paged.proofs.PagePuts.{page_over, page_apart, page_zeroed}

-- the pool after a write into its page n
abbrev pub pool' : List ℕ → ℕ → ℕ → List ℕ → List ℕ
pool' pool n from bytes = image_with pool (256 * n + from) bytes

-- it leaves the pages of other map values
page_other : (pool : List ℕ) (n from : ℕ) (bytes : List ℕ) → from + length bytes ≤ 256 → 256 * n + 256 ≤ length pool → (k : ℕ) → k ≢ suc n → page_at (pool' pool n from bytes) k ≡ page_at pool k
page_other pool n from bytes inside whole zero ne = refl
page_other pool n from bytes inside whole (suc k) ne = page_apart pool n from bytes inside whole k (λ e. ne (ap suc e))

-- the map's places stay within a pool of the same length
pub mapped_over : (table pool new : List ℕ) → length new ≡ length pool → Mapped table pool → Mapped table new
mapped_over table pool new e h i l = omega (arith, h i l, ap (λ n. min (n / 256) POOL) e)

-- bytes put into the page of place i, which has pool page n
module _ (table pool : List ℕ) (i n from : ℕ) (bytes : List ℕ) (mapped : Mapped table pool) (apart : PlacesApart table) (here : i < places table) (value : get_or table i 0 ≡ suc n) (inside : from + length bytes ≤ 256) where
  whole : 256 * n + 256 ≤ length pool
  whole = omega (arith, mapped i here)

  others : (j : ℕ) → j < places table → j ≢ i → get_or table j 0 ≢ suc n
  others j l ne e = ne (sym (apart i j (here, l, omega arith, value ∙ sym e)))

  pub stored : all_pages table (pool' pool n from bytes) ≡ image_with (all_pages table pool) (256 * i + from) bytes
  stored =
      let all : List ℕ = all_pages table pool in
      let new : List ℕ = pool' pool n from bytes in
      let long = length_all table pool mapped in
      let page : 256 * i + 256 ≤ length all = omega arith in
      let mapped' = mapped_over table pool new (length_overwritten pool (256 * n + from) bytes (omega (arith, whole))) mapped in
      pages_same (places table) (all_pages table new) (image_with all (256 * i + from) bytes) (length_all table new mapped') (length_overwritten all (256 * i + from) bytes (omega arith) ∙ long)
      (λ j l.
      page_value table new j mapped' l
      ∙ ⊎_elim
      (λ (is : j ≡ i).
      ap (page_at new) (ap (λ m. get_or table m 0) is ∙ value) ∙ page_over pool n from bytes inside whole
      ∙ ap (λ b. image_with b from bytes) (sym (page_value table pool i mapped here ∙ ap (page_at pool) value)) ∙ sym (page_over all i from bytes inside page)
      ∙ ap (page_of (image_with all (256 * i + from) bytes)) (sym is))
      (λ (ne : j ≡ i → ⊥).
      page_other pool n from bytes inside whole (get_or table j 0) (others j l ne) ∙ sym (page_value table pool j mapped l) ∙ sym (page_apart all i from bytes inside page j ne))
      (cases_eq j i))

-- what each step leaves
pub kept_set : (table pool : List ℕ) (i v : ℕ) → i < places table → Kept table pool (set table i v) pool
kept_set table pool i v here = record { map_length = length-set table i v; pool_length = refl; map_rest = drop-set-lt 65536 table i v (omega arith); pool_rest = refl }

pub kept_pool : (table pool : List ℕ) (n from : ℕ) (bytes : List ℕ) → n < pool_pages pool → from + length bytes ≤ 256 → Kept table pool table (pool' pool n from bytes)
kept_pool table pool n from bytes l inside = record {
  map_length = refl;
  pool_length = length_overwritten pool (256 * n + from) bytes (omega arith);
  map_rest = refl;
  pool_rest = drop_overwritten (256 * pool_pages pool) pool (256 * n + from) bytes (omega arith) (omega arith);
}

-- a pool of the same length keeps what is placed
pub placed_over : (table pool new spare : List ℕ) (used : ℕ) → length new ≡ length pool → PagesPlaced table pool spare used → PagesPlaced table new spare used
placed_over table pool new spare used e h =
    let same : pool_pages new ≡ pool_pages pool = ap (λ n. min (n / 256) POOL) e in
    record {
      mapped = mapped_over table pool new e h.mapped;
      apart = h.apart;
      spare_in = λ j l. omega (arith, h.spare_in j (omega (arith, l.0), omega (arith, l.1)));
      spare_apart = λ i j l. h.spare_apart i j (l.0, omega (arith, l.1), l.2, omega (arith, l.3), l.4);
      spare_free = λ i j l. h.spare_free i j (l.0, l.1, omega (arith, l.2), l.3);
    }

-- a value that no place has, and 0, keep places apart
module _ (table : List ℕ) (i v : ℕ) (here : i < places table) (apart : PlacesApart table) (new : (j : ℕ) → j < places table → get_or table j 0 ≡ v → 0 < v → ⊥) where
  pub apart_set : PlacesApart (set table i v)
  apart_set j k h =
      let less = ap (λ m. min m 65536) (length-set table i v) in
      let at : get_or (set table i v) i 0 ≡ v = get_or-set_same table i v 0 (omega arith) in
      let other : (m : ℕ) → (m ≡ i → ⊥) → get_or (set table i v) m 0 ≡ get_or table m 0 = λ m ne. get_or-set_other table i m v 0 ne in
      ⊎_elim
      (λ (is : j ≡ i).
      let top : get_or (set table i v) j 0 ≡ v = ap (λ m. get_or (set table i v) m 0) is ∙ at in
      ⊎_elim (λ (is' : k ≡ i). is ∙ sym is') (λ (ne' : k ≡ i → ⊥). absurd (new k (omega (arith, h.1)) (sym (other k ne') ∙ sym h.3 ∙ top) (omega (arith, h.2)))) (cases_eq k i))
      (λ (ne : j ≡ i → ⊥).
      ⊎_elim
      (λ (is' : k ≡ i). absurd (new j (omega (arith, h.0)) (sym (other j ne) ∙ h.3 ∙ ap (λ m. get_or (set table i v) m 0) is' ∙ at) (omega (arith, h.2, h.3, ap (λ m. get_or (set table i v) m 0) is', at))))
      (λ (ne' : k ≡ i → ⊥). apart j k (omega (arith, h.0), omega (arith, h.1), omega (arith, h.2, other j ne), sym (other j ne) ∙ h.3 ∙ other k ne'))
      (cases_eq k i))
      (cases_eq j i)

-- the first spare page k, cleared, given to place i, whose page is zeros
module _ (table pool spare : List ℕ) (used i : ℕ) (placed : PagesPlaced table pool spare used) (here : i < places table) (none : get_or table i 0 ≡ 0) (room : used < pool_pages pool) where
  pub spare_within : get_or spare used 0 < pool_pages pool
  spare_within = placed.spare_in used (omega arith, room)

  fresh : (j : ℕ) → j < places table → get_or table j 0 ≡ get_or spare used 0 + 1 → ⊥
  fresh j l e = placed.spare_free j used (l, omega arith, room, e)

  same_places : (v : ℕ) → places (set table i v) ≡ places table
  same_places v = ap (λ n. min n 65536) (length-set table i v)

  at_i : (v : ℕ) → get_or (set table i v) i 0 ≡ v
  at_i v = get_or-set_same table i v 0 (omega arith)

  mapped_claim : (new : List ℕ) → length new ≡ length pool → Mapped (set table i (get_or spare used 0 + 1)) new
  mapped_claim new e j l =
      let v : ℕ = get_or spare used 0 + 1 in
      let lt : j < places table = omega (arith, same_places v) in
      let room = ap (λ n. min (n / 256) POOL) e in
      ⊎_elim
      (λ (is : j ≡ i). omega (arith, at_i v, ap (λ m. get_or (set table i v) m 0) is, spare_within))
      (λ (ne : j ≡ i → ⊥). omega (arith, get_or-set_other table i j v 0 ne, placed.mapped j lt))
      (cases_eq j i)

  spare_free_claim : SpareFree (set table i (get_or spare used 0 + 1)) pool spare (used + 1)
  spare_free_claim m j h =
      let v : ℕ = get_or spare used 0 + 1 in
      ⊎_elim
      (λ (is : m ≡ i).
      let value : get_or (set table i v) m 0 ≡ v = ap (λ n. get_or (set table i v) n 0) is ∙ at_i v in
      let same : get_or spare used 0 ≡ get_or spare j 0 = omega (arith, h.3) in
      let first : used ≡ j = placed.spare_apart used j (omega arith, room, omega (arith, h.1), h.2, same) in
      omega (arith, h.1))
      (λ (ne : m ≡ i → ⊥).
      placed.spare_free m j (omega (arith, h.0, same_places v), omega (arith, h.1), h.2, sym (get_or-set_other table i m v 0 ne) ∙ h.3))
      (cases_eq m i)

  pub placed_claim : (new : List ℕ) → length new ≡ length pool → PagesPlaced (set table i (get_or spare used 0 + 1)) new spare (used + 1)
  placed_claim new e = placed_over (set table i (get_or spare used 0 + 1)) pool new spare (used + 1) e (record {
    mapped = mapped_claim pool refl;
    apart = apart_set table i (get_or spare used 0 + 1) here placed.apart (λ j l e some. fresh j l e);
    spare_in = λ j h. placed.spare_in j (omega (arith, h.0), h.1);
    spare_apart = λ a b h. placed.spare_apart a b (omega (arith, h.0), h.1, omega (arith, h.2), h.3, h.4);
    spare_free = spare_free_claim;
  })

  pub claimed : all_pages (set table i (get_or spare used 0 + 1)) (pool' pool (get_or spare used 0) 0 (replicate 256 0)) ≡ all_pages table pool
  claimed =
      let k : ℕ = get_or spare used 0 in
      let zeros : List ℕ = replicate 256 0 in
      let lz : length zeros ≡ 256 = length-replicate {A = ℕ} 256 0 in
      let whole : 256 * k + 256 ≤ length pool = omega (arith, spare_within) in
      let new : List ℕ = pool' pool k 0 zeros in
      let table' : List ℕ = set table i (k + 1) in
      let mapped' = mapped_claim new (length_overwritten pool (256 * k + 0) zeros (omega arith)) in
      pages_same (places table) (all_pages table' new) (all_pages table pool) (length_all table' new mapped' ∙ ap (λ n. 256 * n) (same_places (k + 1))) (length_all table pool placed.mapped)
      (λ j l.
      page_value table' new j mapped' (omega (arith, same_places (k + 1)))
      ∙ ⊎_elim
      (λ (is : j ≡ i).
      let v : get_or table' j 0 ≡ suc k = ap (λ m. get_or table' m 0) is ∙ at_i (k + 1) ∙ omega arith in
      ap (page_at new) v ∙ page_zeroed pool k whole ∙ sym (ap (page_at pool) (ap (λ m. get_or table m 0) is ∙ none)))
      (λ (ne : j ≡ i → ⊥).
      ap (page_at new) (get_or-set_other table i j (k + 1) 0 ne) ∙ page_other pool k 0 zeros (omega arith) whole (get_or table j 0) (λ e. fresh j l (omega arith)))
      (cases_eq j i)
      ∙ sym (page_value table pool j placed.mapped l))

-- the pool page n of place i, taken back
module _ (table pool spare : List ℕ) (used i n : ℕ) (placed : PagesPlaced table pool spare used) (here : i < places table) (value : get_or table i 0 ≡ suc n) (some : 0 < used) (most : used ≤ pool_pages pool) (long : length spare ≡ POOL) where
  fewer : places (set table i 0) ≡ places table
  fewer = ap (λ m. min m 65536) (length-set table i 0)

  at_none : get_or (set table i 0) i 0 ≡ 0
  at_none = get_or-set_same table i 0 0 (omega arith)

  at_top : get_or (set spare (used - 1) n) (used - 1) 0 ≡ n
  at_top = get_or-set_same spare (used - 1) n 0 (omega arith)

  mapped_release : Mapped (set table i 0) pool
  mapped_release j l =
      ⊎_elim
      (λ (is : j ≡ i). omega (arith, at_none, ap (λ m. get_or (set table i 0) m 0) is))
      (λ (ne : j ≡ i → ⊥). omega (arith, get_or-set_other table i j 0 0 ne, placed.mapped j (omega (arith, fewer))))
      (cases_eq j i)

  in_release : SpareIn pool (set spare (used - 1) n) (used - 1)
  in_release j h =
      ⊎_elim
      (λ (is : j ≡ used - 1). omega (arith, at_top, ap (λ m. get_or (set spare (used - 1) n) m 0) is, placed.mapped i here))
      (λ (ne : j ≡ used - 1 → ⊥). omega (arith, get_or-set_other spare (used - 1) j n 0 ne, placed.spare_in j (omega (arith, h.0), h.1)))
      (cases_eq j (used - 1))

  -- the page is not among the spare ones
  new_spare : (j : ℕ) → used - 1 ≤ j → j < pool_pages pool → j ≢ used - 1 → n ≡ get_or (set spare (used - 1) n) j 0 → ⊥
  new_spare j l m ne e = placed.spare_free i j (here, omega arith, m, omega (arith, get_or-set_other spare (used - 1) j n 0 ne))

  apart_spare : SpareApart pool (set spare (used - 1) n) (used - 1)
  apart_spare a b h =
      let new : List ℕ = set spare (used - 1) n in
      ⊎_elim
      (λ (is : a ≡ used - 1).
      ⊎_elim
      (λ (is' : b ≡ used - 1). is ∙ sym is')
      (λ (ne' : b ≡ used - 1 → ⊥). absurd (new_spare b h.2 h.3 ne' (sym at_top ∙ sym (ap (λ m. get_or new m 0) is) ∙ h.4)))
      (cases_eq b (used - 1)))
      (λ (ne : a ≡ used - 1 → ⊥).
      ⊎_elim
      (λ (is' : b ≡ used - 1). absurd (new_spare a h.0 h.1 ne (sym at_top ∙ sym (ap (λ m. get_or new m 0) is') ∙ sym h.4)))
      (λ (ne' : b ≡ used - 1 → ⊥).
      placed.spare_apart a b (omega (arith, h.0), h.1, omega (arith, h.2), h.3, sym (get_or-set_other spare (used - 1) a n 0 ne) ∙ h.4 ∙ get_or-set_other spare (used - 1) b n 0 ne'))
      (cases_eq b (used - 1)))
      (cases_eq a (used - 1))

  free_release : SpareFree (set table i 0) pool (set spare (used - 1) n) (used - 1)
  free_release m j h =
      let new : List ℕ = set spare (used - 1) n in
      ⊎_elim
      (λ (is : m ≡ i). omega (arith, at_none, ap (λ q. get_or (set table i 0) q 0) is, h.3))
      (λ (ne : m ≡ i → ⊥).
      let old = get_or-set_other table i m 0 0 ne in
      let l : m < places table = omega (arith, h.0, fewer) in
      ⊎_elim
      (λ (top : j ≡ used - 1).
      let e : get_or table m 0 ≡ n + 1 = sym old ∙ h.3 ∙ ap (λ q. get_or new q 0 + 1) top ∙ ap (λ q. q + 1) at_top in
      ne (sym (placed.apart i m (here, l, omega arith, omega arith))))
      (λ (under : j ≡ used - 1 → ⊥). placed.spare_free m j (l, omega (arith, h.1), h.2, sym old ∙ h.3 ∙ ap (λ q. q + 1) (get_or-set_other spare (used - 1) j n 0 under)))
      (cases_eq j (used - 1)))
      (cases_eq m i)

  pub placed_release : PagesPlaced (set table i 0) pool (set spare (used - 1) n) (used - 1)
  placed_release = record { mapped = mapped_release; apart = apart_set table i 0 here placed.apart (λ j l e some. omega arith); spare_in = in_release; spare_apart = apart_spare; spare_free = free_release }

  pub released : all_pages (set table i 0) pool ≡ image_with (all_pages table pool) (256 * i + 0) (replicate 256 0)
  released =
      let all : List ℕ = all_pages table pool in
      let zeros : List ℕ = replicate 256 0 in
      let lz : length zeros ≡ 256 = length-replicate {A = ℕ} 256 0 in
      let la = length_all table pool placed.mapped in
      let whole : 256 * i + 256 ≤ length all = omega arith in
      pages_same (places table) (all_pages (set table i 0) pool) (image_with all (256 * i + 0) zeros) (length_all (set table i 0) pool mapped_release ∙ ap (λ m. 256 * m) fewer) (length_overwritten all (256 * i + 0) zeros (omega arith) ∙ la)
      (λ j l.
      page_value (set table i 0) pool j mapped_release (omega (arith, fewer))
      ∙ ⊎_elim
      (λ (is : j ≡ i). ap (page_at pool) (ap (λ m. get_or (set table i 0) m 0) is ∙ at_none) ∙ sym (page_zeroed all i whole) ∙ ap (page_of (image_with all (256 * i + 0) zeros)) (sym is))
      (λ (ne : j ≡ i → ⊥). ap (page_at pool) (get_or-set_other table i j 0 0 ne) ∙ sym (page_value table pool j placed.mapped l) ∙ sym (page_apart all i 0 zeros (omega arith) whole j ne))
      (cases_eq j i))
