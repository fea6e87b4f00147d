-- Each call of a series keeps what holds between two calls.
use Rattle.std.proofs.Common.{◌≡◌, ℕ, List, [], ◌++◌, take, Ok, Err, Result, refl, ap, ◌∙◌, subst}
use Rattle.fault.specs.declared.fault.Fault.{Fault}
use Rattle.std.proofs.lemmas.List.{append-nil, take-append-drop}
use Rattle.store.specs.Stores.{Images}
use Rattle.stream.specs.Meaning.{cells}
use Rattle.stream.specs.Difference.{Difference, image_after, canonical_records, Expressible}
use Rattle.apply.specs.Applies.{apply_records}
use Rattle.apply.proofs.ApplyLaws.{applies_exactly, stops_harmless}
use Rattle.join.proofs.CanonicalRecords.{expressed_sound, expressed_means}
use Rattle.shelf.specs.Outcomes.{put_plan, join_plan, settle_plan, list_plan}
use Rattle.shelf.specs.Calls.{Call, put, join, settle, list}
use Rattle.shelf.specs.Ledger.{Ledger, ledger_with, ledger_after, accepts, streams_accepted_by}
use Rattle.shelf.specs.Series.{World, fed_call, outcome_of, event, world_after}
use Rattle.shelf.proofs.CallPlans.{put_planned, join_planned, settle_planned}
use Rattle.shelf.proofs.SeriesInvariant.{Kept, put_kept, join_kept}
use Rattle.shelf.proofs.SettleSteps.{settle_kept, stop_kept}

-- what holds of a ledger, the accepted streams and a world beside a first image
abbrev pub Held : List ℕ → Ledger → List (List ℕ) → World → Type 0
Held first l acc w = Kept first l.settled l.stretches acc w.table w.bytes w.image

-- applying a difference that a stream can express: whole, it makes of the image what the difference
-- says; stopped, whole again comes to the same
module _ (holds : Images) (image : List ℕ) (d : Difference) (x : Expressible d) where
  cells_are : cells (canonical_records d) ≡ d.cells
  cells_are = ap (λ e. e.cells) (expressed_means d x)

  whole : (apply_records holds image (canonical_records d)).0 ≡ Ok tt → (apply_records holds image (canonical_records d)).1 ≡ image_after d.cells image
  whole e =
      let o = apply_records holds image (canonical_records d) in
      (applies_exactly holds image (canonical_records d) (expressed_sound d x)).means o.1 (ap (λ a. (a, o.1)) e) ∙ ap (λ c. image_after c image) cells_are

  again : image_after d.cells (apply_records holds image (canonical_records d)).1 ≡ image_after d.cells image
  again =
      let o = apply_records holds image (canonical_records d) in
      subst (λ c. image_after c o.1 ≡ image_after c image) cells_are (stops_harmless holds image (canonical_records d) (expressed_sound d x)).again

module _ (holds : Images) (first : List ℕ) (l : Ledger) (acc : List (List ℕ)) (w : World) (h : Held first l acc w) where
  -- what is to be shown of a call
  abbrev pub Stays : Call → Type 0
  Stays c = Held first (ledger_with l (fed_call (event holds w c))) (acc ++ streams_accepted_by (fed_call (event holds w c))) (world_after holds w c)

  -- a call that leaves table, bytes and image as they are keeps the promise
  module _ (c : Call) (table : (outcome_of holds w c).table ≡ w.table) (bytes : (outcome_of holds w c).bytes ≡ w.bytes) (image : (outcome_of holds w c).image ≡ w.image) where
    -- if it is refused
    pub refused_stays : (f : Fault) → (outcome_of holds w c).answer ≡ Err f → Stays c
    refused_stays f e = rw (table, bytes, image, e, append-nil acc) h

    answered_stays : ledger_after l c ≡ l → accepts c ≡ [] → (r : Result ℕ Fault) → (outcome_of holds w c).answer ≡ r → Stays c
    answered_stays a b (Ok n) e = rw (table, bytes, image, e, a, b, append-nil acc) h
    answered_stays a b (Err f) e = rw (table, bytes, image, e, append-nil acc) h

    -- or if its kind says nothing to the ledger, whatever it answers
    pub read_only_stays : ledger_after l c ≡ l → accepts c ≡ [] → Stays c
    read_only_stays a b = answered_stays a b (outcome_of holds w c).answer refl

  put_stays : (k : ℕ) (stream : List ℕ) (p : Result Difference Fault) → put_plan w.table (take k w.bytes) stream ≡ p → Stays (put k stream)
  put_stays k stream (Ok d) e =
      rw e (put_kept first l.settled l.stretches acc w.table w.bytes w.image h k stream d (put_planned w.table (take k w.bytes) stream d e))
  put_stays k stream (Err f) e = refused_stays (put k stream) (rw e refl) (rw e (take-append-drop k w.bytes)) refl f (rw e refl)

  join_stays : (k i : ℕ) (work : List ℕ) (p : Result Difference Fault) → join_plan w.table (take k w.bytes) i work ≡ p → Stays (join k i work)
  join_stays k i work (Ok j) e =
      rw e (join_kept first l.settled l.stretches acc w.table w.bytes w.image h k i j (join_planned w.table (take k w.bytes) i work j e))
  join_stays k i work (Err f) e = refused_stays (join k i work) (rw e refl) (rw e (take-append-drop k w.bytes)) refl f (rw e refl)

  applied_stays : (k : ℕ) (d : Difference) → settle_plan w.table (take k w.bytes) ≡ Ok d
      → (a : Result (Unit {0}) Fault) → (apply_records holds w.image (canonical_records d)).0 ≡ a → Stays (settle k)
  applied_stays k d p (Ok u) e =
      rw (p, e)
      (settle_kept first l acc w.table w.bytes w.image k d (settle_planned w.table (take k w.bytes) d p) (apply_records holds w.image (canonical_records d)).1 l.stretches h
      (λ s. whole holds w.image d s e))
  applied_stays k d p (Err f) e =
      rw (p, e)
      (stop_kept first l acc w.table w.bytes w.image k d (settle_planned w.table (take k w.bytes) d p) (apply_records holds w.image (canonical_records d)).1 l.stretches h
      (λ s. again holds w.image d s))

  settle_stays : (k : ℕ) (p : Result Difference Fault) → settle_plan w.table (take k w.bytes) ≡ p → Stays (settle k)
  settle_stays k (Ok d) p = applied_stays k d p _ refl
  settle_stays k (Err f) p = refused_stays (settle k) (rw p refl) (rw p (take-append-drop k w.bytes)) (rw p refl) f (rw p refl)

  list_stays : (k i : ℕ) (text : List ℕ) (p : Result (List ℕ) Fault) → list_plan w.table (take k w.bytes) i text ≡ p → Stays (list k i text)
  list_stays k i text (Ok x) e = read_only_stays (list k i text) (rw e refl) (rw e (take-append-drop k w.bytes)) refl refl refl
  list_stays k i text (Err f) e = read_only_stays (list k i text) (rw e refl) (rw e (take-append-drop k w.bytes)) refl refl refl

  pub stays : (c : Call) → Stays c
  stays (put k stream) = put_stays k stream _ refl
  stays (join k i work) = join_stays k i work _ refl
  stays (settle k) = settle_stays k _ refl
  stays (list k i text) = list_stays k i text _ refl
