-- A turn of a loop over the pages of a range: page i gets its part of the bytes that are put into
-- the range. Rests on what no step touches, and on bytes put into a range.
use Rattle.std.proofs.Common.{◌≡◌, ℕ, ◌+◌, ◌-◌, ◌*◌, ◌/◌, ◌<◌, ◌≤◌, List, length, take, drop, replicate, sym, ap, ◌∙◌, arith}
use Rattle.std.proofs.lemmas.List.{take_all, take-replicate, drop-replicate}
use Rattle.store.specs.Images.{image_with}
use Rattle.store.proofs.ImageLaws.{overwritten_none}
use Rattle.paged.specs.Pages.{bytes_before, filled_from, PartOf}
use Rattle.paged.specs.State.{places_of, all_of, KeptBy, Becomes, PutAt, InPages, InPage, RoomAfter}
use Rattle.paged.specs.declared.pages.paging.Paging.{Paging}
use Rattle.paged.proofs.Ranges.{length_chunk, over_chunk}
use Rattle.paged.proofs.UntouchedMemory.{width_kept, depth_kept}

-- before the first page nothing is put, and past the last one all
pub none_put : (b : List ℕ) (o count : ℕ) (bytes : List ℕ) → b ≡ image_with b o (take (bytes_before o count (o / 256)) bytes)
none_put b o count bytes = let none : 0 ≡ bytes_before o count (o / 256) = omega arith in overwritten_none b o ∙ ap (λ n. image_with b o (take n bytes)) none

pub all_put : (b : List ℕ) (o i : ℕ) (bytes : List ℕ) → length bytes ≤ bytes_before o (length bytes) i → image_with b o (take (bytes_before o (length bytes) i) bytes) ≡ image_with b o bytes
all_put b o i bytes reached = ap (image_with b o) (take_all (bytes_before o (length bytes) i) bytes reached)

-- a part of zeros
pub zeros_chunk : (count d m : ℕ) → d ≤ m → m ≤ count → take (m - d) (drop d (replicate {A = ℕ} count 0)) ≡ replicate (m - d) 0
zeros_chunk count d m order most = ap (take (m - d)) (drop-replicate d count 0) ∙ take-replicate (m - d) (count - d) 0 (omega arith)

-- the part of a range in page i lies in that page, whatever was put before
pub part_here : (s t : Paging) (o count i d m from : ℕ) → KeptBy s t → InPages s o count → PartOf o count i d m from → 256 * i < o + count → InPage t i from (m - d)
part_here s t o count i d m from kept inside part meets =
    let width = width_kept s t kept in (omega (arith, inside), omega (arith, part.place, part.low, part.order))

-- pages t have what is put into pages s before page i
module _ (s t : Paging) (o count : ℕ) (bytes : List ℕ) (i d m from : ℕ) (long : length bytes ≡ count) (fits : o + count ≤ length (all_of s)) (part : PartOf o count i d m from) where
  pub chunk_here : KeptBy s t → InPages s o count → 256 * i < o + count → InPage t i from (length (take (m - d) (drop d bytes)))
  chunk_here kept inside meets =
      let here = part_here s t o count i d m from kept inside part meets in
      (here.0, omega (arith, here.1, length_chunk (all_of s) o bytes d m part.order (omega (arith, part.most)) (omega arith)))

  module _ (start : d ≡ bytes_before o count i) (end : m ≡ bytes_before o count (i + 1)) (was : Becomes s t (image_with (all_of s) o (take (bytes_before o count i) bytes))) where
    next : image_with (all_of t) (256 * i + from) (take (m - d) (drop d bytes)) ≡ image_with (all_of s) o (take (bytes_before o count (i + 1)) bytes)
    next =
        ap (λ q. image_with (all_of t) q (take (m - d) (drop d bytes))) part.place
        ∙ ap (λ b. image_with b (o + d) (take (m - d) (drop d bytes))) (was.pages ∙ ap (λ n. image_with (all_of s) o (take n bytes)) (sym start))
        ∙ over_chunk (all_of s) o bytes d m part.order (omega (arith, part.most)) (omega arith) ∙ ap (λ n. image_with (all_of s) o (take n bytes)) end

    pub turn_put : (u : Paging) → PutAt t u (256 * i + from) (take (m - d) (drop d bytes)) → Becomes s u (image_with (all_of s) o (take (bytes_before o count (i + 1)) bytes))
    turn_put u put = record { kept = put.kept ∙ was.kept; pages = put.pages ∙ next }

    -- there is room for the part if there is room for all up to it
    pub turn_room : RoomAfter s o (take (bytes_before o count (i + 1)) bytes) → RoomAfter t (256 * i + from) (take (m - d) (drop d bytes))
    turn_room room =
        let same = ap (filled_from (places_of t)) next ∙ ap (λ n. filled_from n (image_with (all_of s) o (take (bytes_before o count (i + 1)) bytes))) (width_kept s t was.kept) in
        omega (arith, same, depth_kept s t was.kept, room)
