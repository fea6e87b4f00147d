-- Pages in a pool, and a map from the pages of an image to them. Rests on the contract of a store.
use Rattle.std.specs.Prelude.{◌≡◌, ℕ, zero, suc, ◌+◌, ◌-◌, ◌*◌, ◌/◌, ◌<◌, ◌≤◌, min, Bool, true, if◌then◌else◌, ◌&&◌, List, length, take, drop, replicate, ◌==◌, nat_le, slice_index}
use Rattle.std.specs.List.{flat_map, list_all}
use Rattle.paged.specs.declared.pages.TheConstants.{PAGE, PLACES, POOL}
use Rattle.store.specs.Images.{part}
use Rattle.store.specs.Stores.{Images}

-- how many places of the map, and whole pages of the pool, are used
abbrev pub places : List ℕ → ℕ
places table = min (length table) PLACES

abbrev pub pool_pages : List ℕ → ℕ
pool_pages pool = min (length pool / PAGE) POOL

-- a map value's page: 0 is a page of zeros, and k is pool page k - 1
abbrev pub page_at : List ℕ → ℕ → List ℕ
page_at pool zero = replicate PAGE 0
page_at pool (suc k) = take PAGE (drop (PAGE * k) pool)

-- all pages, one after the other
abbrev pub all_pages : List ℕ → List ℕ → List ℕ
all_pages table pool = flat_map (page_at pool) (take PLACES table)

-- page i of some bytes
abbrev pub page_of : List ℕ → ℕ → List ℕ
page_of bytes i = part bytes (PAGE * i) PAGE

-- how many bytes of a range lie before page i
abbrev pub bytes_before : ℕ → ℕ → ℕ → ℕ
bytes_before offset count i = min (PAGE * i - offset) count

-- how many pages a range meets
abbrev pub pages_met : ℕ → ℕ → ℕ
pages_met offset count = (offset + count + (PAGE - 1)) / PAGE - offset / PAGE

-- the part of a range in page i, which the range meets: bytes d to m of the range lie there, from a
-- place of the page on
pub record PartOf (offset count i d m from : ℕ) : Type 0 where
  pub order : d ≤ m
  pub most : m ≤ count
  pub place : PAGE * i + from ≡ offset + d
  pub low : offset + m ≤ PAGE * i + PAGE
  pub start : 0 < d → from ≡ 0
  pub end : m < count → offset + m ≡ PAGE * i + PAGE

-- only zeros
abbrev pub blank : List ℕ → Bool
blank bytes = list_all (λ b. b == 0) bytes

-- the pages, among the first n, that have a non-zero byte
abbrev pub filled_from : ℕ → List ℕ → ℕ
filled_from zero image = 0
filled_from (suc n) image = (if blank (take PAGE image) then 0 else 1) + filled_from n (drop PAGE image)

-- the pages of an image that have a non-zero byte (it has no more pages than bytes)
abbrev pub filled_pages : List ℕ → ℕ
filled_pages image = filled_from (length image) image

-- the images that a map and a pool can hold
unfoldable pub paged_set : List ℕ → List ℕ → Images
paged_set table pool image = nat_le (length image) (PAGE * places table) && nat_le (filled_pages image) (pool_pages pool)

-- each map value is in the pool
abbrev pub Mapped : List ℕ → List ℕ → Type 0
Mapped table pool = (i : ℕ) → i < places table → slice_index table i ≤ pool_pages pool

-- no two places share a pool page
abbrev pub PlacesApart : List ℕ → Type 0
PlacesApart table = (i j : ℕ) → (i < places table) × (j < places table) × (0 < slice_index table i) × (slice_index table i ≡ slice_index table j) → i ≡ j

-- the spare list holds, from place `used` up to the number of pool pages, pool pages
abbrev pub SpareIn : List ℕ → List ℕ → ℕ → Type 0
SpareIn pool spare used = (j : ℕ) → (used ≤ j) × (j < pool_pages pool) → slice_index spare j < pool_pages pool

-- no two of them are the same
abbrev pub SpareApart : List ℕ → List ℕ → ℕ → Type 0
SpareApart pool spare used = (i j : ℕ) → (used ≤ i) × (i < pool_pages pool) × (used ≤ j) × (j < pool_pages pool) × (slice_index spare i ≡ slice_index spare j) → i ≡ j

-- none of them is the page of a place
abbrev pub SpareFree : List ℕ → List ℕ → List ℕ → ℕ → Type 0
SpareFree table pool spare used = (i j : ℕ) → (i < places table) × (used ≤ j) × (j < pool_pages pool) × (slice_index table i ≡ slice_index spare j + 1) → ⊥

-- a place has map value 0 exactly if its page has only zeros
abbrev pub Filled : List ℕ → List ℕ → Type 0
Filled table pool = (i : ℕ) → i < places table → blank (page_of (all_pages table pool) i) ≡ (slice_index table i == 0)

-- zeros from a position on
abbrev pub ZeroFrom : ℕ → List ℕ → Type 0
ZeroFrom size bytes = (p : ℕ) → size ≤ p → slice_index bytes p ≡ 0

-- each page that is to have only zeros has only zeros
abbrev pub Ready : List ℕ → List ℕ → Type 0
Ready image result = (j : ℕ) → blank (page_of result j) ≡ true → blank (page_of image j) ≡ true

-- past the size, each page holds 0
abbrev pub Ended : List ℕ → List ℕ → ℕ → Type 0
Ended table pool size = ZeroFrom size (all_pages table pool)

-- past the size, each map place holds 0
abbrev pub Unmapped : List ℕ → ℕ → Type 0
Unmapped table size = (i : ℕ) → i < places table → size ≤ PAGE * i → slice_index table i ≡ 0

-- what each step on a page keeps
pub record PagesPlaced (table pool spare : List ℕ) (used : ℕ) : Type 0 where
  pub mapped : Mapped table pool
  pub apart : PlacesApart table
  pub spare_in : SpareIn pool spare used
  pub spare_apart : SpareApart pool spare used
  pub spare_free : SpareFree table pool spare used

-- what each change of a range keeps: pool pages go to the pages with a non-zero byte alone
pub record SoundPages (table pool spare : List ℕ) (used : ℕ) : Type 0 where
  pub placed : PagesPlaced table pool spare used
  pub long : length (all_pages table pool) ≡ PAGE * places table
  pub filled : Filled table pool
  pub counted : used ≡ filled_from (places table) (all_pages table pool)
  pub room : used ≤ pool_pages pool

-- what an image of a size has beside sound pages
pub record Valid (table pool : List ℕ) (used size : ℕ) : Type 0 where
  pub fits : size ≤ PAGE * places table
  pub long : length (take size (all_pages table pool)) ≡ size
  pub held : paged_set table pool (take size (all_pages table pool)) ≡ true
  pub counted : used ≡ filled_pages (take size (all_pages table pool))
  pub ended : Ended table pool size
  pub unmapped : Unmapped table size

-- the memory that was handed in, as far as no image accounts for it: which memory it is, how much,
-- and what it holds past the map places and the whole pool pages that are used
pub record PagedRest : Type 0 where
  pub map_lender : ℕ
  pub pool_lender : ℕ
  pub map_length : ℕ
  pub pool_length : ℕ
  pub map_rest : List ℕ
  pub pool_rest : List ℕ

abbrev pub paged_rest : ℕ → ℕ → List ℕ → List ℕ → PagedRest
paged_rest map_lender pool_lender table pool = record {
  map_lender = map_lender;
  pool_lender = pool_lender;
  map_length = length table;
  pool_length = length pool;
  map_rest = drop PLACES table;
  pool_rest = drop (PAGE * pool_pages pool) pool;
}
