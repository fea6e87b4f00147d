-- The next record, from the step that read it, and the step of each tag, where it may come.
use Rattle.std.proofs.Common.{◌≡◌, ℕ, ◌<◌, false, ltb, List, length, slice_index, Some, Ok, Err, Option, Result, sym, refl, ap, ◌∙◌, ap₂}
use Rattle.std.proofs.lemmas.Bool.{lt-ltb, cond-true, cond-false}
use Rattle.stream.specs.Rule.{State, Data, late_rule, seen_from, seen_to}
use Rattle.stream.specs.Steps.{Pos, step_answer, pos_after, fault_at, from_step, to_step, data_step, zeros_step, record_of, step_of}
use Rattle.stream.specs.Stands.{Stepped, Turned, next_answer, next_of, pos_of, rest_of, state_of, size_of_state, end_of_state, count_of_state, pos_at, in_data, in_meta, seen_of, reached_of}
use Rattle.stream.specs.declared.reader.State as code
use Rattle.stream.specs.declared.reader.State.TheVariants as states
use Rattle.stream.specs.declared.reader.Metadata.{Metadata}
use Rattle.stream.specs.declared.reader.Reached.{Reached}
use Rattle.stream.specs.declared.records.Record.{Record}
use Rattle.stream.specs.declared.reader.Reader.{Reader}
use Rattle.stream.specs.declared.records.Record.TheVariants.{End}
use Rattle.fault.specs.Fault.{and_then, err_by}
use Rattle.fault.specs.declared.fault.Fault.{Fault}
use Rattle.fault.specs.declared.cause.Cause.{Cause}
use Rattle.stream.proofs.WrittenRecords.{then_ok}
use Rattle.stream.proofs.ReadRecords.{then_back, ok_same, late_data}

-- the next record, from the step that read it
next_is : (total place : ℕ) (o : Result (Record × Pos) Cause) (p q : Pos) (a : Result Record Fault) → a ≡ err_by (fault_at total place) (step_answer o) → q ≡ pos_after p o
    → next_of total place o ≡ and_then a (λ r. next_answer total r q)
next_is total place (Ok s) p q a e m = ap₂ (λ x y. and_then x (λ r. next_answer total r y)) (sym e) (sym m)
next_is total place (Err c) p q a e m = ap (λ x. and_then x (λ r. next_answer total r q)) (sym e)

pub turned : {old new : Reader} {a x : Result Record Fault} {b : Result (Option Record) Fault} → Stepped old new a → a ≡ x
    → and_then x (λ r. next_answer (length old.bytes.now) r (pos_of new)) ≡ b → Turned old new b
turned {old} {new} {a} s h e = record {
  result = sym (next_is (length old.bytes.now) old.place (step_of (pos_of old) (rest_of old)) (pos_of old) (pos_of new) _ (sym h ∙ s.result) s.stands ∙ e);
  stands = s.stands;
  bytes = s.bytes;
}

pub unended_is : (total : ℕ) (r : Record) (q : Pos) → (r ≡ End → ⊥) → next_answer total r q ≡ Ok (Some r)
unended_is total End q h = absurd (h refl)
unended_is total r q h = refl

-- data may come, and from where
late : (s : code.State) (d : Reached) → reached_of s ≡ Ok d
    → (late_rule (state_of s) ≡ Ok Data) × (d ≡ record { size = size_of_state s; end = end_of_state s; count = count_of_state s })
late s d h =
    let b = then_back _ _ d h in
    (late_data (state_of s) b.0 b.1, sym (ok_same _ d b.2))

-- the step of a tag whose rule lets it pass
step_now : (tag : ℕ) (p : Pos) (rest : List ℕ) (rule : Result State Cause) (t : State) (step : State → Result (Record × Pos) Cause)
    → record_of p rest tag ≡ and_then rule step → 0 < length rest → slice_index rest 0 ≡ tag → rule ≡ Ok t → step_of p rest ≡ step t
step_now tag p rest rule t step is n h r =
    cond-true (ltb 0 (length rest)) _ _ (lt-ltb 0 (length rest) n) ∙ ap (record_of p rest) h ∙ is ∙ then_ok rule t step r

module _ (place : ℕ) (s : code.State) (m : Metadata) (rest : List ℕ) (some : 0 < length rest) where
  pub from_now : slice_index rest 0 ≡ 102 → s ≡ states.Meta m → m.from ≡ false → step_of (pos_at place s) rest ≡ from_step (in_meta place m) rest (seen_from (seen_of m))
  from_now h e f = ap (λ v. step_of (pos_at place v) rest) e ∙ step_now 102 (in_meta place m) rest _ _ _ refl some h (cond-false m.from _ _ f)

  pub to_now : slice_index rest 0 ≡ 116 → s ≡ states.Meta m → m.to ≡ false → step_of (pos_at place s) rest ≡ to_step (in_meta place m) rest (seen_to (seen_of m))
  to_now h e f = ap (λ v. step_of (pos_at place v) rest) e ∙ step_now 116 (in_meta place m) rest _ _ _ refl some h (cond-false m.to _ _ f)

-- the step of w or z, which looks at no state but for its rule
module _ (place : ℕ) (s : code.State) (d : Reached) (rest : List ℕ) (some : 0 < length rest) where
  pub zeros_now : slice_index rest 0 ≡ 122 → reached_of s ≡ Ok d → step_of (pos_at place s) rest ≡ zeros_step (in_data place d) rest Data
  zeros_now t h =
      let l = late s d h in
      step_now 122 (pos_at place s) rest _ Data _ refl some t l.0 ∙ ap (λ x. zeros_step (in_data place x) rest Data) (sym l.1)

  pub data_now : slice_index rest 0 ≡ 119 → reached_of s ≡ Ok d → step_of (pos_at place s) rest ≡ data_step (in_data place d) rest Data
  data_now t h =
      let l = late s d h in
      step_now 119 (pos_at place s) rest _ Data _ refl some t l.0 ∙ ap (λ x. data_step (in_data place x) rest Data) (sym l.1)
