-- What the steps of a join, a settle and a list that were done say of the whole call.
use Rattle.std.proofs.Common.{◌≡◌, ℕ, ◌+◌, ◌≤◌, leb, ltb, List, ◌++◌, length, drop, IfOk, OnOk, Ok, Err, Result, sym, refl, ap, subst, inl, inr, arith}
use Rattle.fault.specs.Fault.{fault_by, in_entry, and_then}
use Rattle.fault.specs.declared.fault.Fault.{Fault}
use Rattle.fault.specs.declared.layer.Layer.TheVariants.{Stream}
use Rattle.std.proofs.lemmas.List.{take_at, length-append}
use Rattle.std.proofs.lemmas.Bool.{cases_Bool, ltb-false}
use Rattle.stream.specs.Buffers.{written_answer, written_buffer}
use Rattle.stream.specs.Difference.{Difference, join_difference, canonical_bytes}
use Rattle.stream.proofs.ReadRecords.{passes, then_back, ok_same}
use Rattle.stream.proofs.SoundLists.{never}
use Rattle.table.specs.Tables.{Table, unite_rows}
use Rattle.join.specs.Plans.{within_limit}
use Rattle.shelf.specs.Entries.{are_there, entry}
use Rattle.shelf.specs.Outcomes.{CallOutcome, outcome, outcome_by, united_fill, united_bytes, finds_room, join_fits, join_plan, joined_outcome, join_outcome}
use Rattle.shelf.specs.Steps.{MayUnite, united_outcome, neighbours_join, stream_answer, stream_buffer, MayLeave}
use Rattle.shelf.proofs.CallPlans.{found}

-- a join of the difference j
module _ (t : Table) (bytes : List ℕ) (i : ℕ) (work : List ℕ) (j : Difference) where
  fitted : (d : Difference) → join_fits t bytes i work j ≡ Ok d → (length (canonical_bytes d) ≤ length work) × (united_fill t i (length (canonical_bytes d)) ≤ length bytes)
  fitted d h =
      let a = then_back (within_limit j (length (canonical_bytes j))) _ d h in
      let n = length (canonical_bytes j) in
      let is : n ≡ a.0 = ok_same n a.0 (passes _ _ _ a.0 a.1).1 in
      let b = then_back (finds_room t bytes i work n) _ d (rw (← is) at a.2) in
      let c = passes (ltb (length work) n) _ _ b.0 b.1 in
      let e = passes _ _ _ b.0 c.1 in
      subst (λ x. (length (canonical_bytes x) ≤ length work) × (united_fill t i (length (canonical_bytes x)) ≤ length bytes)) (ok_same j d b.2)
      (ltb-false (length work) n c.0, ltb-false (length bytes) (united_fill t i n) e.0)

  united : (p : Result Difference Fault) → join_fits t bytes i work j ≡ p → Ok tt ≡ are_there t bytes i 1
      → IfOk (fault_by (in_entry i) (stream_answer p)) (MayUnite t bytes i (stream_buffer work p))
  united (Ok d) e there =
      let f = found t bytes i 1 (sym there) in
      let k = fitted d e in
      let c = canonical_bytes d in
      record { two = f.0; reaches = f.1; fits = omega (arith, length-append c (drop (length c) work)); room = k.1 }
  united (Err f) e there = tt

  pub may_unite : (r : Result ℕ Fault) (work' : List ℕ) → Ok tt ≡ are_there t bytes i 1 → r ≡ fault_by (in_entry i) (stream_answer (join_fits t bytes i work j))
      → work' ≡ stream_buffer work (join_fits t bytes i work j) → IfOk r (MayUnite t bytes i work')
  may_unite r work' there e b = rw (e, b) (united (join_fits t bytes i work j) refl there)

  written : (p : Result Difference Fault)
      → united_outcome t bytes i (stream_buffer work p) (fault_by (in_entry i) (stream_answer p))
      ≡ outcome_by (fault_by (in_entry i) p) (λ f. record (outcome (Err f) t bytes) { buffer = work }) (λ d. joined_outcome t bytes i work (canonical_bytes d))
  written (Ok d) =
      let c = canonical_bytes d in
      let n = length c in
      ap (λ s. record (outcome (Ok n) (unite_rows t i n) (united_bytes t bytes i s)) { buffer = c ++ drop n work }) (take_at c (drop n work) n refl)
  written (Err f) = refl

  after_both : (a b : Result Difference Fault) (k : Difference → Result Difference Fault)
      → Ok j ≡ and_then a (λ d. and_then b (λ e. Ok (join_difference d e))) → and_then a (λ d. and_then b (λ e. k (join_difference d e))) ≡ k j
  after_both (Ok d) (Ok e) k h = ap k (ok_same _ _ (sym h))
  after_both (Ok d) (Err f) k h = never j f (sym h)
  after_both (Err f) b k h = never j f (sym h)

  pub joined : (r : Result ℕ Fault) (work' : List ℕ) → Ok tt ≡ are_there t bytes i 1 → Ok j ≡ neighbours_join t bytes i
      → r ≡ fault_by (in_entry i) (stream_answer (join_fits t bytes i work j)) → work' ≡ stream_buffer work (join_fits t bytes i work j)
      → united_outcome t bytes i work' r ≡ join_outcome t bytes i work
  unfolding join_plan
  joined r work' there read e b =
      let x = passes (leb (length t.rows) (i + 1)) _ _ tt (sym there) in
      let y = passes (ltb (length bytes) t.fill) _ _ tt x.1 in
      let fits : Difference → Result Difference Fault = λ d. fault_by (in_entry i) (join_fits t bytes i work d) in
      let plan : join_plan t bytes i work ≡ fits j = rw (x.0, y.0) (after_both (entry t bytes i) (entry t bytes (i + 1)) fits read) in
      rw (e, b, plan) (written (join_fits t bytes i work j))

-- a settle that applied its entry
pub may_leave : (t : Table) (bytes : List ℕ) (r : Result (Unit {0}) Fault) → Ok tt ≡ are_there t bytes 0 0 → OnOk r (MayLeave t bytes)
may_leave t bytes (Ok u) there = let f = found t bytes 0 0 (sym there) in record { one = f.0; reaches = f.1 }
may_leave t bytes (Err f) there = tt

-- a list that wrote the text x, or found the buffer too short
pub listed : (t : Table) (bytes : List ℕ) (i : ℕ) (text x : List ℕ) (r : Result ℕ Fault) (text' : List ℕ)
    → r ≡ fault_by (in_entry i) (written_answer Stream text x) → text' ≡ written_buffer text x
    → ◌≡◌ {A = CallOutcome} (record (outcome r t bytes) { buffer = text' })
    (outcome_by (fault_by (in_entry i) (and_then (written_answer Stream text x) (λ _. Ok x))) (λ f. record (outcome (Err f) t bytes) { buffer = text }) (λ w. record (outcome (Ok (length w)) t bytes) { buffer = w ++ drop (length w) text }))
listed t bytes i text x r text' e b =
    elim (cases_Bool (ltb (length text) (length x))) [
      | inl c ↦ rw (e, b, c) refl
      | inr c ↦ rw (e, b, c) refl
    ]
