-- A refused call leaves everything as it was, but for the image where the store stopped a settle.
use Rattle.std.proofs.Common.{◌≡◌, ℕ, not, List, take, Ok, Err, Result, sym, refl, ap, ◌∙◌, subst}
use Rattle.fault.specs.Fault.{fault, in_entry}
use Rattle.fault.specs.declared.cause.Cause.TheVariants.{NoRoom, Damaged}
use Rattle.fault.specs.declared.fault.Fault.{Fault}
use Rattle.std.proofs.lemmas.List.{take-append-drop}
use Rattle.store.specs.Stores.{Images}
use Rattle.stream.specs.Difference.{Difference, meaning, canonical_records, Expressible}
use Rattle.stream.proofs.ReadRecords.{passes, then_back, ok_same}
use Rattle.stream.proofs.SoundLists.{never}
use Rattle.apply.specs.Applies.{apply_records}
use Rattle.apply.proofs.ApplyLaws.{applies_exactly}
use Rattle.join.proofs.CanonicalRecords.{expressed_sound}
use Rattle.table.specs.Tables.{Table, row_at}
use Rattle.shelf.specs.Entries.{refuse_if, slice, is_whole, entry}
use Rattle.shelf.specs.Outcomes.{put_plan, join_plan, settle_plan, list_plan}
use Rattle.shelf.specs.Calls.{put, join, settle, list}
use Rattle.shelf.specs.Series.{World, outcome_of}
use Rattle.shelf.proofs.AcceptedStreams.{expressible}
use Rattle.shelf.proofs.CallPlans.{fault_by_back, settle_planned}
use Rattle.shelf.specs.Refusals.{Unaltered, RefusalsAlterNothing}

-- an entry that was read means a difference that a stream can express
entry_expressible : (t : Table) (bytes : List ℕ) (i : ℕ) (d : Difference) → entry t bytes i ≡ Ok d → Expressible d
unfolding entry
entry_expressible t bytes i d h =
    let stream = slice bytes (row_at t i) in
    let a = then_back (meaning stream) (λ x. refuse_if (not (is_whole (row_at t i) stream x)) (fault Damaged 0) (Ok x)) d (fault_by_back (in_entry i) _ d h) in
    let b = passes (not (is_whole (row_at t i) stream a.0)) _ _ d a.2 in
    subst Expressible (ok_same a.0 d b.1) (expressible stream a.0 a.1)

-- what the store refused, it refused for want of room
no_room : (holds : Images) (image : List ℕ) (d : Difference) (g : Fault) → Expressible d → (apply_records holds image (canonical_records d)).0 ≡ Err g → g.cause ≡ NoRoom
no_room holds image d g x e =
    let left = (apply_records holds image (canonical_records d)).1 in
    let stopped = (applies_exactly holds image (canonical_records d) (expressed_sound d x)).stopped g left (ap (λ a. (a, left)) e) in
    ap (λ y. y.cause) stopped.fault_is

module _ (holds : Images) (w : World) (f : Fault) where
  put_refused : (k : ℕ) (stream : List ℕ) (p : Result Difference Fault) → put_plan w.table (take k w.bytes) stream ≡ p
      → (outcome_of holds w (put k stream)).answer ≡ Err f → Unaltered holds w (put k stream) f
  put_refused k stream (Ok d) e h = never 0 f (sym (rw e at h))
  put_refused k stream (Err g) e h = record { table = rw e refl; bytes = rw e (take-append-drop k w.bytes); buffer = rw e refl; image = refl }

  join_refused : (k i : ℕ) (work : List ℕ) (p : Result Difference Fault) → join_plan w.table (take k w.bytes) i work ≡ p
      → (outcome_of holds w (join k i work)).answer ≡ Err f → Unaltered holds w (join k i work) f
  join_refused k i work (Ok d) e h = never _ f (sym (rw e at h))
  join_refused k i work (Err g) e h = record { table = rw e refl; bytes = rw e (take-append-drop k w.bytes); buffer = rw e refl; image = refl }

  applied_refused : (k : ℕ) (d : Difference) → settle_plan w.table (take k w.bytes) ≡ Ok d
      → (a : Result (Unit {0}) Fault) → (apply_records holds w.image (canonical_records d)).0 ≡ a
      → (outcome_of holds w (settle k)).answer ≡ Err f → Unaltered holds w (settle k) f
  applied_refused k d p (Ok u) e h = never 0 f (sym (rw (p, e) at h))
  applied_refused k d p (Err g) e h =
      let x = entry_expressible w.table (take k w.bytes) 0 d (settle_planned w.table (take k w.bytes) d p).here in
      let same : in_entry 0 g ≡ f = cc (rw (p, e) at h) in
      let cause : f.cause ≡ NoRoom = ap (λ y. y.cause) (sym same) ∙ no_room holds w.image d g x e in
      record { table = rw (p, e) refl; bytes = rw (p, e) (take-append-drop k w.bytes); buffer = rw (p, e) refl; image = λ n. absurd (n cause) }

  settle_refused : (k : ℕ) (p : Result Difference Fault) → settle_plan w.table (take k w.bytes) ≡ p
      → (outcome_of holds w (settle k)).answer ≡ Err f → Unaltered holds w (settle k) f
  settle_refused k (Ok d) p h = applied_refused k d p _ refl h
  settle_refused k (Err g) p h = record { table = rw p refl; bytes = rw p (take-append-drop k w.bytes); buffer = rw p refl; image = λ n. rw p refl }

  list_refused : (k i : ℕ) (text : List ℕ) (p : Result (List ℕ) Fault) → list_plan w.table (take k w.bytes) i text ≡ p
      → (outcome_of holds w (list k i text)).answer ≡ Err f → Unaltered holds w (list k i text) f
  list_refused k i text (Ok x) e h = never _ f (sym (rw e at h))
  list_refused k i text (Err g) e h = record { table = rw e refl; bytes = rw e (take-append-drop k w.bytes); buffer = rw e refl; image = refl }

pub refusals_alter_nothing : RefusalsAlterNothing
refusals_alter_nothing holds w (put k stream) f h = put_refused holds w f k stream _ refl h
refusals_alter_nothing holds w (join k i work) f h = join_refused holds w f k i work _ refl h
refusals_alter_nothing holds w (settle k) f h = settle_refused holds w f k _ refl h
refusals_alter_nothing holds w (list k i text) f h = list_refused holds w f k i text _ refl h
