-- The definitions of pages, taken of the map and the pool together. Rests on the definition of
-- pages, and on the store's images.
use Rattle.std.specs.Prelude.{◌≡◌, ℕ, ◌+◌, ◌*◌, ◌/◌, ◌<◌, ◌≤◌, Bool, List, length, take, slice_index}
use Rattle.store.specs.Images.{image_with}
use Rattle.paged.specs.declared.pages.TheConstants.{PAGE}
use Rattle.paged.specs.Pages.{places, pool_pages, all_pages, page_of, blank, bytes_before, filled_from, Ready, SoundPages, PagedRest, paged_rest}
use Rattle.paged.specs.declared.pages.paging.Paging.{Paging}

-- how many map places, and whole pool pages, are used
abbrev pub places_of : Paging → ℕ
places_of s = places s.map.now

abbrev pub pool_of : Paging → ℕ
pool_of s = pool_pages s.pool.now

-- the map value of a place
abbrev pub value_of : Paging → ℕ → ℕ
value_of s i = slice_index s.map.now i

-- all pages, one after the other
abbrev pub all_of : Paging → List ℕ
all_of s = all_pages s.map.now s.pool.now

abbrev pub SoundIn : Paging → Type 0
SoundIn s = SoundPages s.map.now s.pool.now s.spare s.used

-- the memory that no step touches
abbrev pub paging_rest : Paging → PagedRest
paging_rest s = paged_rest s.map.ghost_name s.pool.ghost_name s.map.now s.pool.now

-- it is as it was
abbrev pub KeptBy : Paging → Paging → Type 0
KeptBy before s = paging_rest s ≡ paging_rest before

-- a change has left these bytes in all pages, and what no step touches as it was
pub record Becomes (before s : Paging) (all : List ℕ) : Type 0 where
  pub kept : KeptBy before s
  pub pages : all_of s ≡ all

-- bytes were put into all pages, from an offset on
abbrev pub PutAt : Paging → Paging → ℕ → List ℕ → Type 0
PutAt before s offset bytes = Becomes before s (image_with (all_of before) offset bytes)

-- a range lies in the pages
abbrev pub InPages : Paging → ℕ → ℕ → Type 0
InPages s offset count = offset + count ≤ PAGE * places_of s

-- a range lies in the page of place i
abbrev pub InPage : Paging → ℕ → ℕ → ℕ → Type 0
InPage s i from count = (i < places_of s) × (from + count ≤ PAGE)

-- whether the page of place i would have only zeros with these bytes in it
abbrev pub blank_after : Paging → ℕ → ℕ → List ℕ → Bool
blank_after s i from bytes = blank (image_with (page_of (all_of s) i) from bytes)

-- how many pages would have a non-zero byte with these bytes in them
abbrev pub filled_after : Paging → ℕ → List ℕ → ℕ
filled_after s offset bytes = filled_from (places_of s) (image_with (all_of s) offset bytes)

-- the pool has a page for each of them
abbrev pub RoomAfter : Paging → ℕ → List ℕ → Type 0
RoomAfter s offset bytes = filled_after s offset bytes ≤ pool_of s

-- with these bytes put, all pages are what they would have been before
abbrev pub SameOncePut : Paging → Paging → ℕ → List ℕ → Type 0
SameOncePut before s offset bytes = image_with (all_of s) offset bytes ≡ image_with (all_of before) offset bytes

-- each page that would have only zeros with these bytes in it has only zeros
abbrev pub ReadyFor : Paging → ℕ → List ℕ → Type 0
ReadyFor s offset bytes = Ready (all_of s) (image_with (all_of s) offset bytes)

-- the pool has room after each page, where bytes are put into a range page by page
abbrev pub RoomAlong : Paging → ℕ → List ℕ → Type 0
RoomAlong s offset bytes = (i : ℕ) → offset / PAGE < i → RoomAfter s offset (take (bytes_before offset (length bytes) i) bytes)
