-- The promise: nobody who puts, joins, settles or lists can change what the base image comes back
-- to. Rests on series of calls, on the ledger, on what stretches come to, on entries and their
-- faults, on what reading a stream promises, on the list's text, and on the images of a store.
use Rattle.std.specs.Prelude.{◌≡◌, ℕ, ◌<◌, ◌≤◌, List, [], ◌∷◌, ◌++◌, map, length, take, drop, Ok, Err, slice_index_or}
use Rattle.fault.specs.Fault.{fault}
use Rattle.fault.specs.declared.cause.Cause.TheVariants.{NoEntry}
use Rattle.std.specs.List.{flat_map, AllByRecursion}
use Rattle.listing.specs.Text.{listing}
use Rattle.store.specs.Stores.{Images}
use Rattle.stream.specs.Difference.{meaning}
use Rattle.stream.specs.Parts.{stream_ranges}
use Rattle.shelf.specs.Entries.{entry, shelf_streams}
use Rattle.shelf.specs.Calls.{Call, list}
use Rattle.shelf.specs.Ledger.{streams_of, Ledger, ledger, accepted_streams}
use Rattle.shelf.specs.Stretches.{difference_in, differences_in, applied_all, stretch_join, stretch_stream, stretch_overlay}
use Rattle.shelf.specs.Series.{World, first_world, Event, fed_call, events, last_world}

-- a list call that was not refused returned the length of the text of the overlay of the entry's
-- stretch and wrote that text; the bytes after it are as they were
pub record Lists (l : Ledger) (i : ℕ) (text : List ℕ) (n : ℕ) (buffer : List ℕ) : Type 0 where
  pub there : i < length l.stretches
  pub length_is : n ≡ length (listing (slice_index_or (map stretch_overlay l.stretches) i []))
  pub buffer_is : buffer ≡ listing (slice_index_or (map stretch_overlay l.stretches) i []) ++ drop n text

-- after calls that were made as `es` says, beside a base image that was `first`
pub record ComesBack (first : List ℕ) (es : List Event) (w : World) : Type 0 where
  -- the base image comes back: the image with the shelf's streams applied in order is the first
  -- image with all accepted streams applied in order
  pub comes_back : applied_all (differences_in (shelf_streams w.table w.bytes)) w.image ≡ applied_all (differences_in (accepted_streams (map fed_call es))) first
  pub accepted_are_streams : AllByRecursion (λ stream. meaning stream ≡ Ok (difference_in stream)) (accepted_streams (map fed_call es))
  -- the ledger cuts the accepted streams into those settled and a stretch for each shelf stream,
  -- which is the canonical join of its stretch, byte for byte
  pub cut : (ledger (map fed_call es)).settled ++ flat_map streams_of (ledger (map fed_call es)).stretches ≡ accepted_streams (map fed_call es)
  pub canonical_joins : shelf_streams w.table w.bytes ≡ map stretch_stream (ledger (map fed_call es)).stretches
  -- no entry is ever damaged: in bytes that reach the fill it reads as the join of its stretch
  pub entries_read : (k i : ℕ) → i < length w.table.rows → w.table.fill ≤ length (take k w.bytes)
      → entry w.table (take k w.bytes) i ≡ slice_index_or (map (λ s. Ok (stretch_join s)) (ledger (map fed_call es)).stretches) i (Err (fault NoEntry i))
  -- each shelf stream's ranges are the overlay of its stretch, and each list call that was not
  -- refused wrote exactly these when it was made
  pub overlays : map stream_ranges (shelf_streams w.table w.bytes) ≡ map (λ s. Ok (stretch_overlay s)) (ledger (map fed_call es)).stretches
  pub lists : (before later : List Event) (k i : ℕ) (text : List ℕ) (n : ℕ) (buffer : List ℕ)
      → es ≡ before ++ (record { call = list k i text; answer = Ok n; buffer = buffer } ∷ later) → Lists (ledger (map fed_call before)) i text n buffer

-- for every store, by the set of images that it can hold, every first image, base name and first
-- bytes, and every series of calls
abbrev pub AlwaysComesBack : Type 0
AlwaysComesBack =
    (holds : Images) (name bytes image : List ℕ) (calls : List Call)
    → ComesBack image (events holds (first_world name bytes image) calls) (last_world holds (first_world name bytes image) calls)
