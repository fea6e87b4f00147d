-- What no step touches of the lent memory. Rests on the definition of pages, and of the map and
-- pool together.
use Rattle.std.proofs.Common.{◌≡◌, ℕ, ◌*◌, ◌/◌, min, ◌&&◌, leb, List, length, drop, sym, ap, ◌∙◌}
use Rattle.paged.specs.declared.pages.TheConstants.{PAGE, PLACES, POOL}
use Rattle.paged.specs.declared.pages.paging.Paging.{Paging}
use Rattle.paged.specs.Pages.{pool_pages, filled_pages, paged_rest, paged_set}
use Rattle.paged.specs.State.{places_of, pool_of, KeptBy}

-- map places past the first 65,536 and pool bytes past the whole pages that are used stay as they
-- were
pub record Kept (table pool table' pool' : List ℕ) : Type 0 where
  pub map_length : length table' ≡ length table
  pub pool_length : length pool' ≡ length pool
  pub map_rest : drop PLACES table' ≡ drop PLACES table
  pub pool_rest : drop (PAGE * pool_pages pool) pool' ≡ drop (PAGE * pool_pages pool) pool

pub kept_on : (a b a' b' a'' b'' : List ℕ) → Kept a b a' b' → Kept a' b' a'' b'' → Kept a b a'' b''
kept_on a b a' b' a'' b'' h k =
    let same : pool_pages b' ≡ pool_pages b = ap (λ n. min (n / PAGE) POOL) h.pool_length in
    record {
      map_length = k.map_length ∙ h.map_length;
      pool_length = k.pool_length ∙ h.pool_length;
      map_rest = k.map_rest ∙ h.map_rest;
      pool_rest = ap (λ n. drop (PAGE * n) b'') (sym same) ∙ k.pool_rest ∙ ap (λ n. drop (PAGE * n) b') same ∙ h.pool_rest;
    }

-- the same memory is kept
pub rest_kept : (m p : ℕ) (table pool table' pool' : List ℕ) → Kept table pool table' pool' → paged_rest m p table' pool' ≡ paged_rest m p table pool
rest_kept m p table pool table' pool' k =
    let rest = ap (λ n. drop (PAGE * min (n / PAGE) POOL) pool') k.pool_length ∙ k.pool_rest in
    λ i. record { map_lender = m; pool_lender = p; map_length = k.map_length i; pool_length = k.pool_length i; map_rest = k.map_rest i; pool_rest = rest i }

-- the set hangs on the lengths of the map and the pool alone
pub same_set : (table old pool was : List ℕ) → length table ≡ length old → length pool ≡ length was → paged_set table pool ≡ paged_set old was
unfolding paged_set
same_set table old pool was e f = (λ i. λ (b : List ℕ). leb (length b) (PAGE * min (e i) PLACES) && leb (filled_pages b) (min (f i / PAGE) POOL))

-- what hangs on the lengths of the map and the pool
module _ (a b : Paging) (kept : KeptBy a b) where
  pub width_kept : places_of b ≡ places_of a
  width_kept = ap (λ r. min r.map_length PLACES) kept

  pub depth_kept : pool_of b ≡ pool_of a
  depth_kept = ap (λ r. min (r.pool_length / PAGE) POOL) kept

  pub set_kept : paged_set b.map.now b.pool.now ≡ paged_set a.map.now a.pool.now
  set_kept = same_set b.map.now a.map.now b.pool.now a.pool.now (ap (λ r. r.map_length) kept) (ap (λ r. r.pool_length) kept)
