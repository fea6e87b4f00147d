-- The promise, for every series: by what holds between two calls.
use Rattle.std.proofs.Common.{◌≡◌, ℕ, Bool, true, false, List, [], ◌∷◌, ◌++◌, map, length, Ok, fold, sym, refl, ap, ◌∙◌, subst, arith}
use mathlib.Core.List.{map-map}
use Rattle.fault.specs.Fault.{and_then}
use Rattle.std.specs.List.{AllByRecursion}
use Rattle.std.proofs.lemmas.List.{append_assoc, append-nil}
use Rattle.std.proofs.lemmas.Bool.{false≢true}
use Rattle.store.specs.Stores.{Images}
use Rattle.stream.specs.Meaning.{ranges}
use Rattle.stream.specs.Parts.{stream_ranges}
use Rattle.stream.specs.Difference.{canonical_bytes}
use Rattle.stream.proofs.StreamFacts.{ranges_meant}
use Rattle.join.proofs.CanonicalRecords.{expressed_meaning}
use Rattle.shelf.specs.Entries.{shelf_streams}
use Rattle.shelf.specs.Calls.{Call, put, join, settle, list}
use Rattle.shelf.specs.Ledger.{Stretch, Ledger, empty_ledger, ledger_with, ledger, streams_accepted_by, accepted_streams}
use Rattle.shelf.specs.Stretches.{differences_in, applied_all, stretch_join, stretch_stream, stretch_overlay, difference_or_empty}
use Rattle.shelf.specs.Series.{World, first_world, Event, fed_call, event, world_after, events, last_world}
use Rattle.shelf.specs.Promise.{Lists, AlwaysComesBack}
use Rattle.overlay.proofs.OverlayLaws.{cons}
use Rattle.shelf.proofs.ShelfDifferences.{stands_streams}
use Rattle.shelf.proofs.StretchJoins.{GoodStretch, overlay_good}
use Rattle.shelf.proofs.SeriesSteps.{Held, stays}
use Rattle.shelf.proofs.EntryLists.{reads_join, list_shows}

abbrev is_list : Call → Bool
is_list (list k i text) = true
is_list c = false

-- the streams of good stretches: what they mean, and their ranges
means_joins : (ss : List Stretch) → AllByRecursion GoodStretch ss → differences_in (map stretch_stream ss) ≡ map stretch_join ss
means_joins [] g = refl
means_joins (s ∷ ss) g = cons (ap difference_or_empty (expressed_meaning (stretch_join s) g.0.join)) (means_joins ss g.1)

ranges_overlay : (ss : List Stretch) → AllByRecursion GoodStretch ss → map stream_ranges (map stretch_stream ss) ≡ map (λ s. Ok (stretch_overlay s)) ss
ranges_overlay [] g = refl
ranges_overlay (s ∷ ss) g =
    let own = ap (λ m. and_then m (λ d. Ok (ranges d.cells))) (expressed_meaning (stretch_join s) g.0.join) in
    cons (ranges_meant (stretch_stream s) ∙ own ∙ ap Ok (sym (overlay_good s g.0))) (ranges_overlay ss g.1)

module _ (holds : Images) (first : List ℕ) where
  abbrev happens : World → Call → Event
  happens w c = event holds w c

  abbrev next : World → Call → World
  next w c = world_after holds w c

  series_held : (cs : List Call) (l : Ledger) (acc : List (List ℕ)) (w : World) → Held first l acc w
      → Held first (fold ledger_with l (map fed_call (events holds w cs))) (acc ++ accepted_streams (map fed_call (events holds w cs))) (last_world holds w cs)
  series_held [] l acc w h = rw (append-nil acc) h
  series_held (c ∷ cs) l acc w h =
      rw (← append_assoc acc (streams_accepted_by (fed_call (happens w c))) (accepted_streams (map fed_call (events holds (next w c) cs))))
      (series_held cs (ledger_with l (fed_call (happens w c))) (acc ++ streams_accepted_by (fed_call (happens w c))) (next w c) (stays holds first l acc w h c))

  -- each list call of a series
  abbrev shows : ℕ → ℕ → List ℕ → ℕ → List ℕ → Event
  shows k i text n buffer = record { call = list k i text; answer = Ok n; buffer = buffer }

  one_listed : (c : Call) (l : Ledger) (acc : List (List ℕ)) (w : World) → Held first l acc w → (k i : ℕ) (text : List ℕ) (n : ℕ) (buffer : List ℕ)
      → happens w c ≡ shows k i text n buffer → Lists l i text n buffer
  one_listed (put k' stream) l acc w h k i text n buffer e = absurd (false≢true (ap (λ x. is_list x.call) e))
  one_listed (join k' i' work) l acc w h k i text n buffer e = absurd (false≢true (ap (λ x. is_list x.call) e))
  one_listed (settle k') l acc w h k i text n buffer e = absurd (false≢true (ap (λ x. is_list x.call) e))
  one_listed (list k' i' text') l acc w h k i text n buffer e =
      let z : list k' i' text' ≡ list k i text = ap (λ x. x.call) e in
      let same-i : i' ≡ i = cc in
      let same_text : text' ≡ text = cc in
      let held = list_shows holds l first acc w h k' i' text' n (ap (λ x. x.answer) e) in
      subst (λ b. Lists l i text n b) (ap (λ x. x.buffer) e) (rw (← same-i, ← same_text) held)

  all_listed : (cs : List Call) (before later : List Event) (l : Ledger) (acc : List (List ℕ)) (w : World) → Held first l acc w → (k i : ℕ) (text : List ℕ) (n : ℕ) (buffer : List ℕ)
      → events holds w cs ≡ before ++ (shows k i text n buffer ∷ later) → Lists (fold ledger_with l (map fed_call before)) i text n buffer
  all_listed [] [] later l acc w h k i text n buffer e = absurd (omega (arith, ap length e))
  all_listed [] (b ∷ bs) later l acc w h k i text n buffer e = absurd (omega (arith, ap length e))
  all_listed (c ∷ cs) [] later l acc w h k i text n buffer e = one_listed c l acc w h k i text n buffer (cc)
  all_listed (c ∷ cs) (b ∷ bs) later l acc w h k i text n buffer e =
      let here : happens w c ≡ b = cc in
      let rest : events holds (next w c) cs ≡ bs ++ (shows k i text n buffer ∷ later) = cc in
      subst (λ x. Lists (fold ledger_with (ledger_with l (fed_call x)) (map fed_call bs)) i text n buffer) here
      (all_listed cs bs later (ledger_with l (fed_call (happens w c))) (acc ++ streams_accepted_by (fed_call (happens w c))) (next w c) (stays holds first l acc w h c) k i text n buffer rest)

-- an empty shelf
begins : (name bytes image : List ℕ) → Held image empty_ledger [] (first_world name bytes image)
begins name bytes image = record {
  stands = record { rows = tt; fill = refl; tail = bytes; is = refl };
  good = tt;
  streams = tt;
  cut = refl;
  back = refl;
}

pub promise : AlwaysComesBack
promise holds name bytes image calls =
    let w = first_world name bytes image in
    let end = last_world holds w calls in
    let start = begins name bytes image in
    let held = series_held holds image calls empty_ledger [] w start in
    let streams = stands_streams _ end.table end.bytes held.stands in
    let ss = (ledger (map fed_call (events holds w calls))).stretches in
    let joins : shelf_streams end.table end.bytes ≡ map stretch_stream ss = streams ∙ map-map canonical_bytes stretch_join ss in
    record {
      comes_back = ap (λ x. applied_all x end.image) (ap differences_in joins ∙ means_joins ss held.good) ∙ held.back;
      accepted_are_streams = held.streams;
      entries_read = λ k i l reaches. reads_join _ _ _ _ _ _ _ held k i l reaches _;
      cut = held.cut;
      canonical_joins = joins;
      overlays = ap (map stream_ranges) joins ∙ ranges_overlay ss held.good;
      lists = λ before later k i text n buffer e. all_listed holds image calls before later empty_ledger [] w start k i text n buffer e;
    }
