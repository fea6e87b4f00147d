-- What a paged image means. Rests on the contract of a store, and on the pages that have the image,
-- with their map and pool.
use Rattle.std.specs.Prelude.{◌≡◌, ℕ, ◌*◌, false, List, length, take, nat_le, is_ok, Result}
use Rattle.std.proofs.Math.Nat.{le_trans, mul-le-mul_left, min-le_right}
use Rattle.std.proofs.Common.{lit≤}
use Rattle.std.proofs.lemmas.Bool.{leb-true, and_parts}
use Rattle.fault.specs.declared.fault.Fault.{Fault}
use Rattle.store.specs.Stores.{Images, Laws}
use Rattle.paged.specs.declared.pages.TheConstants.{PAGE, PLACES}
use Rattle.paged.specs.declared.image.PagedImage.{PagedImage}
use Rattle.paged.specs.Pages.{PagedRest, all_pages, paged_set, places, pool_pages, filled_pages, Ended, Unmapped}
use Rattle.paged.specs.State.{paging_rest}

-- its bytes now
abbrev pub paged_image : PagedImage → List ℕ
paged_image s = take s.size (all_pages s.pages.paging.map.now s.pages.paging.pool.now)

-- the images that it can hold
abbrev pub paged_holds : PagedImage → Images
paged_holds s = paged_set s.pages.paging.map.now s.pages.paging.pool.now

-- the memory that no call touches, whatever the position: the pages of an image lie anywhere in the
-- pool
abbrev pub paged_past : PagedImage → ℕ → PagedRest
paged_past s n = paging_rest s.pages.paging

-- past the size, map places and page bytes hold 0
pub record PastZero (s : PagedImage) : Type 0 where
  pub map_places : Unmapped s.pages.paging.map.now s.size
  pub page_bytes : Ended s.pages.paging.map.now s.pages.paging.pool.now s.size

-- a refused call leaves all as it was: the map, the pool, and which pool pages are spare
abbrev pub RefusedSame : Result (Unit {0}) Fault → PagedImage → PagedImage → Type 0
RefusedSame result old new = is_ok result ≡ false → new ≡ old

pub paged_laws : Laws paged_image paged_holds
unfolding paged_set
paged_laws = record {
  present = λ s. s.valid.held;
  limited = λ s b held.
      let table = s.pages.paging.map.now in
      let most = PAGE * places table in
      let few = pool_pages s.pages.paging.pool.now in
      let fits = (and_parts (nat_le (length b) most) (nat_le (filled_pages b) few) held).0 in
      let used = mul-le-mul_left PAGE (min-le_right (length table) PLACES) in
      le_trans (leb-true (length b) most fits) (le_trans used (lit≤ tt));
}
