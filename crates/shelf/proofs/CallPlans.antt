-- What the checks of a call that was not refused say.
use Rattle.std.proofs.Common.{◌≡◌, ℕ, ◌+◌, ◌<◌, ◌≤◌, not, ltb, leb, List, length, Ok, Err, Result, sym, ap, ◌∙◌, subst, arith}
use Rattle.fault.specs.Fault.{fault_by, in_entry, and_then}
use Rattle.fault.specs.declared.fault.Fault.{Fault}
use Rattle.std.proofs.lemmas.Bool.{ltb-false, leb-false}
use Rattle.join.specs.Plans.{within_limit}
use Rattle.listing.specs.Text.{listing}
use Rattle.fault.specs.declared.layer.Layer.TheVariants.{Stream}
use Rattle.stream.specs.Buffers.{written_answer}
use Rattle.stream.specs.Verdict.{same}
use Rattle.stream.specs.Meaning.{ranges}
use Rattle.stream.specs.Difference.{Difference, meaning, join_difference, canonical_bytes}
use Rattle.stream.proofs.ReadRecords.{passes, then_back, ok_same}
use Rattle.stream.proofs.SoundLists.{never}
use Rattle.table.specs.Tables.{Table, next_name, is_taken}
use Rattle.shelf.specs.Entries.{are_there, entry}
use Rattle.shelf.specs.Outcomes.{put_fits, put_plan, finds_room, join_fits, join_plan, settle_plan, list_plan}
use Rattle.shelf.specs.Steps.{HasRoom}

pub fault_by_back : {A : Type 0} (g : Fault → Fault) (r : Result A Fault) (x : A) → fault_by g r ≡ Ok x → r ≡ Ok x
fault_by_back g (Ok y) x h = h
fault_by_back g (Err f) x h = never x (g f) h

-- a stream that put accepts
pub record PutPlanned (t : Table) (bytes stream : List ℕ) (d : Difference) : Type 0 where
  pub reaches : t.fill ≤ length bytes
  pub means : meaning stream ≡ Ok d
  pub room : HasRoom t bytes d

pub put_fitted : (t : Table) (bytes : List ℕ) (e d : Difference) → put_fits t bytes e ≡ Ok d → HasRoom t bytes e × (e ≡ d)
put_fitted t bytes e d h =
    let a = passes (not (same e.from (next_name t))) _ _ d h in
    let b = passes (leb 64 (length t.rows)) _ _ d a.1 in
    let c = passes (is_taken e.to t) _ _ d b.1 in
    let f = passes _ _ _ d c.1 in
    let few = leb-false 64 (length t.rows) b.0 in
    (record { few = few; room = ltb-false (length bytes) (t.fill + length (canonical_bytes e)) f.0 }, ok_same e d f.1)

pub put_planned : (t : Table) (bytes stream : List ℕ) (d : Difference) → put_plan t bytes stream ≡ Ok d → PutPlanned t bytes stream d
unfolding put_plan
put_planned t bytes stream d h =
    let a = passes _ _ _ d (fault_by_back (in_entry (length t.rows)) _ d h) in
    let b = then_back (meaning stream) (put_fits t bytes) d a.1 in
    let c = put_fitted t bytes b.0 d b.2 in
    record {
      reaches = ltb-false (length bytes) t.fill a.0;
      means = b.1 ∙ ap Ok c.1;
      room = subst (HasRoom t bytes) c.1 c.0;
    }

-- entries that are there, and what a call knows that found them and then succeeded
pub found : (t : Table) (bytes : List ℕ) (i more : ℕ) → are_there t bytes i more ≡ Ok tt → (i + more < length t.rows) × (t.fill ≤ length bytes)
found t bytes i more e =
    let a = passes (leb (length t.rows) (i + more)) _ _ tt e in
    let b = passes (ltb (length bytes) t.fill) _ _ tt a.1 in
    (leb-false (length t.rows) (i + more) a.0, ltb-false (length bytes) t.fill b.0)

found_there : {A : Type 0} (t : Table) (bytes : List ℕ) (i more : ℕ) (next : Result A Fault) (x : A) → and_then (are_there t bytes i more) (λ _. next) ≡ Ok x
    → (i + more < length t.rows) × (t.fill ≤ length bytes) × (next ≡ Ok x)
found_there t bytes i more next x h =
    let a = then_back (are_there t bytes i more) _ x h in
    let b = found t bytes i more a.1 in
    (b.0, b.1, a.2)

join_fitted : (t : Table) (bytes : List ℕ) (i : ℕ) (work : List ℕ) (d j : Difference) → join_fits t bytes i work d ≡ Ok j → (length (ranges d.cells) ≤ 512) × (j ≡ d)
join_fitted t bytes i work d j h =
    let a = then_back (within_limit d (length (canonical_bytes d))) _ j h in
    let b = then_back (finds_room t bytes i work a.0) _ j a.2 in
    (ltb-false 512 (length (ranges d.cells)) (passes _ _ _ a.0 a.1).0, sym (ok_same d j b.2))

-- entries that join accepts
pub record JoinPlanned (t : Table) (bytes : List ℕ) (i : ℕ) (j : Difference) : Type 0 where
  pub there : i + 1 < length t.rows
  pub reaches : t.fill ≤ length bytes
  pub earlier : Difference
  pub later : Difference
  pub here : entry t bytes i ≡ Ok earlier
  pub next : entry t bytes (i + 1) ≡ Ok later
  pub is : j ≡ join_difference earlier later
  pub few : length (ranges j.cells) ≤ 512

pub join_planned : (t : Table) (bytes : List ℕ) (i : ℕ) (work : List ℕ) (j : Difference) → join_plan t bytes i work ≡ Ok j → JoinPlanned t bytes i j
unfolding join_plan
join_planned t bytes i work j h =
    let a = found_there t bytes i 1 _ j h in
    let c = then_back (entry t bytes i) _ j a.2 in
    let d = then_back (entry t bytes (i + 1)) _ j c.2 in
    let e = join_fitted t bytes i work (join_difference c.0 d.0) j (fault_by_back (in_entry i) _ j d.2) in
    record {
      there = a.0;
      reaches = a.1;
      earlier = c.0;
      later = d.0;
      here = c.1;
      next = d.1;
      is = e.1;
      few = subst (λ x. length (ranges x.cells) ≤ 512) (sym e.1) e.0;
    }

-- an entry that settle applies
pub record SettlePlanned (t : Table) (bytes : List ℕ) (d : Difference) : Type 0 where
  pub there : 0 < length t.rows
  pub reaches : t.fill ≤ length bytes
  pub here : entry t bytes 0 ≡ Ok d

pub settle_planned : (t : Table) (bytes : List ℕ) (d : Difference) → settle_plan t bytes ≡ Ok d → SettlePlanned t bytes d
unfolding settle_plan
settle_planned t bytes d h =
    let a = found_there t bytes 0 0 _ d h in
    record { there = a.0; reaches = a.1; here = a.2 }

-- an entry that list shows
pub record ListPlanned (t : Table) (bytes : List ℕ) (i : ℕ) (written : List ℕ) : Type 0 where
  pub there : i < length t.rows
  pub reaches : t.fill ≤ length bytes
  pub shown : Difference
  pub here : entry t bytes i ≡ Ok shown
  pub is : written ≡ listing (ranges shown.cells)

pub list_planned : (t : Table) (bytes : List ℕ) (i : ℕ) (text written : List ℕ) → list_plan t bytes i text ≡ Ok written → ListPlanned t bytes i written
unfolding list_plan
list_planned t bytes i text written h =
    let b = found_there t bytes i 0 _ written h in
    let d = then_back (entry t bytes i) _ written b.2 in
    let x = listing (ranges d.0.cells) in
    let e = then_back (written_answer Stream text x) (λ _. Ok x) written (fault_by_back (in_entry i) _ written d.2) in
    record { there = omega arith; reaches = b.1; shown = d.0; here = d.1; is = sym (ok_same _ written e.2) }
