-- The records of an accepted stream are sound, and its difference can be expressed. Nothing is
-- asked of the stream, not even that its numbers are bytes.
use Rattle.std.proofs.Common.{◌≡◌, ℕ, zero, suc, ◌+◌, ◌-◌, ◌^◌, ◌≤◌, Bool, true, false, cond, eqb, ltb, List, [], length, get_or, take, drop, Ok, Err, Result, sym, refl, ap, ◌∙◌, subst, inl, inr, arith}
use Rattle.fault.specs.Fault.{and_then, fault}
use Rattle.fault.specs.declared.cause.Cause.{Cause}
use Rattle.fault.specs.declared.cause.Cause.TheVariants as causes
use Rattle.fault.specs.declared.fault.Fault.{Fault}
use Rattle.std.proofs.lemmas.Bool.{ltb-false, cases_Bool}
use Rattle.stream.specs.Bytes.{le, field}
use Rattle.stream.specs.Rule.{State, from_rule, to_rule, size_rule, late_rule}
use Rattle.stream.specs.Steps.{Pos, every_printable, name_length_of, size_of, data_range_of, payload_range_of, from_step, to_step, size_step, data_step, zeros_step, end_step, record_of, step_of, fault_at}
use Rattle.stream.specs.Records.{Content, from_name, to_name, image_size, data_at, zeros_at, header}
use Rattle.stream.specs.Verdict.{start, verdict, reads, reads_after, step_result, record_before, same}
use Rattle.stream.specs.Wellformed.{GoodName, GoodRange, Good, rule_of, pos_past, WellFormed}
use Rattle.stream.specs.Difference.{Difference, difference, meaning, Expressible}
use Rattle.stream.specs.declared.records.Record.{Record}
use Rattle.stream.specs.declared.records.Record.TheVariants.{End}
use Rattle.stream.proofs.ReadRecords.{passes, at_true, at_false, late_data, then_back, name_back, range_back, before_back, ok_same}
use Rattle.stream.proofs.SoundLists.{never, sound_exactly}
use Rattle.join.proofs.Expressible.{sound_expressible}
use Rattle.stream.proofs.RunGathering.{field_length}

name_good : (rest : List ℕ) (m : ℕ) → name_length_of rest ≡ Ok m → (length (field rest 5 m) ≡ m) × GoodName (field rest 5 m)
name_good rest m h =
    let a = name_back rest (le (field rest 1 4)) m h in
    let is = a.4 in
    let long = field_length rest 5 m (omega (arith, a.0)) in
    (long, (omega (arith, a.1), omega (arith, a.2), subst (λ k. every_printable (field rest 5 k) ≡ true) is a.3))

range_good : (p : Pos) (rest : List ℕ) (q : ℕ × ℕ) → data_range_of p rest ≡ Ok q → GoodRange p q.0 q.1
range_good p rest q h = let a = range_back p rest (le (field rest 1 8)) (le (field rest 9 8)) q h in subst (λ r. GoodRange p r.0 r.1) (sym a.2) a.1

data_good : (p : Pos) (rest : List ℕ) (q : ℕ × ℕ) → payload_range_of p rest ≡ Ok q → (length (field rest 17 q.1) ≡ q.1) × GoodRange p q.0 q.1
data_good p rest q h =
    let a = then_back (data_range_of p rest) _ q h in
    let b = passes _ _ _ q a.2 in
    let is : a.0 ≡ q = ok_same a.0 q b.1 in
    let there = ltb-false (length rest) (17 + a.0.1) b.0 in
    (field_length rest 17 q.1 (subst (λ r. 17 + r.1 ≤ length rest) is there), subst (λ r. GoodRange p r.0 r.1) is (range_good p rest a.0 a.1))

-- what a step that was taken read
data Read (p : Pos) (rest : List ℕ) (x : Record × Pos) : Type 0 where
  one : (c : Content) (s : State) → rule_of c p.state ≡ Ok s → Good p c → x.1 ≡ pos_past p c s
      → ((follow : Result (List Content) Fault) (total : ℕ) → step_result follow total rest x.0 x.1 ≡ record_before c follow) → Read p rest x
  ended : (s : State) → late_rule p.state ≡ Ok s → x.0 ≡ End → Read p rest x

at_place : (p : Pos) (a n m : ℕ) (s : State) → n ≡ m
    → ◌≡◌ {A = Pos} (record { place = p.place + a + n; state = s; size = p.size; end = p.end; count = p.count }) (record { place = p.place + a + m; state = s; size = p.size; end = p.end; count = p.count })
at_place p a n m s e = ap (λ k. record { place = p.place + a + k; state = s; size = p.size; end = p.end; count = p.count }) e

module _ (p : Pos) (rest : List ℕ) (x : Record × Pos) where
  from_read : (s : State) → from_rule p.state ≡ Ok s → from_step p rest s ≡ Ok x → Read p rest x
  from_read s u h =
      let a = then_back (name_length_of rest) _ x h in
      let g = name_good rest a.0 a.1 in
      subst (Read p rest) (ok_same _ x a.2) (one (from_name (field rest 5 a.0)) s u g.1 (at_place p 5 a.0 (length (field rest 5 a.0)) s (sym g.0)) (λ _ _. refl))

  to_read : (s : State) → to_rule p.state ≡ Ok s → to_step p rest s ≡ Ok x → Read p rest x
  to_read s u h =
      let a = then_back (name_length_of rest) _ x h in
      let g = name_good rest a.0 a.1 in
      subst (Read p rest) (ok_same _ x a.2) (one (to_name (field rest 5 a.0)) s u g.1 (at_place p 5 a.0 (length (field rest 5 a.0)) s (sym g.0)) (λ _ _. refl))

  size_read : (s : State) → size_rule p.state ≡ Ok s → size_step p rest s ≡ Ok x → Read p rest x
  size_read s u h =
      let a = then_back (size_of rest) _ x h in
      let n = le (field rest 1 8) in
      let b = passes (ltb (2 ^ 40) n) _ _ a.0 (passes (ltb (length rest) 9) _ _ a.0 a.1).1 in
      let is = ok_same n a.0 b.1 in
      subst (Read p rest) (ok_same _ x a.2) (one (image_size a.0) s u (omega (arith, ltb-false (2 ^ 40) n b.0)) refl (λ _ _. refl))

  data_read : (s : State) → late_rule p.state ≡ Ok s → data_step p rest s ≡ Ok x → Read p rest x
  data_read s u h =
      let a = then_back (payload_range_of p rest) _ x h in
      let q = a.0 in
      let g = data_good p rest q a.1 in
      let there : ◌≡◌ {A = Pos} (record { place = p.place + 17 + q.1; state = s; size = p.size; end = q.0 + q.1; count = p.count + 1 }) (pos_past p (data_at q.0 (field rest 17 q.1)) s) =
      ap (λ n. record { place = p.place + 17 + n; state = s; size = p.size; end = q.0 + n; count = p.count + 1 }) (sym g.0) in
      subst (Read p rest) (ok_same _ x a.2) (one (data_at q.0 (field rest 17 q.1)) s u (subst (GoodRange p q.0) (sym g.0) g.1) there (λ _ _. refl))

  zeros_read : (s : State) → late_rule p.state ≡ Ok s → zeros_step p rest s ≡ Ok x → Read p rest x
  zeros_read s u h =
      let a = then_back (data_range_of p rest) _ x h in
      subst (Read p rest) (ok_same _ x a.2) (one (zeros_at a.0.0 a.0.1) s u (range_good p rest a.0 a.1) refl (λ _ _. refl))

  end_read : (s : State) → late_rule p.state ≡ Ok s → end_step p s ≡ Ok x → Read p rest x
  end_read s u h = ended s u (ap (λ y. y.0) (sym (ok_same _ x h)))

  -- a tag's rule, and then its step
  by_rule : (r : Result State Cause) (g : State → Result (Record × Pos) Cause) → ((s : State) → r ≡ Ok s → g s ≡ Ok x → Read p rest x) → and_then r g ≡ Ok x → Read p rest x
  by_rule r g f h = let a = then_back r g x h in f a.0 a.1 a.2

  -- the step of a tag, or what follows
  by_tag : (t : Bool) (r other : Result (Record × Pos) Cause) → (r ≡ Ok x → Read p rest x) → (other ≡ Ok x → Read p rest x) → cond t r other ≡ Ok x → Read p rest x
  by_tag true r other f g h = f h
  by_tag false r other f g h = g h

  tag_read : (tag : ℕ) → record_of p rest tag ≡ Ok x → Read p rest x
  tag_read tag =
      by_tag (eqb tag 102) _ _ (by_rule (from_rule p.state) _ from_read)
      (by_tag (eqb tag 116) _ _ (by_rule (to_rule p.state) _ to_read)
      (by_tag (eqb tag 115) _ _ (by_rule (size_rule p.state) _ size_read)
      (by_tag (eqb tag 119) _ _ (by_rule (late_rule p.state) _ data_read)
      (by_tag (eqb tag 122) _ _ (by_rule (late_rule p.state) _ zeros_read)
      (by_tag (eqb tag 101) _ _ (by_rule (late_rule p.state) _ end_read) (λ h. never x causes.UnknownTag h))))))

  step_read : step_of p rest ≡ Ok x → Read p rest x
  step_read h =
      elim (cases_Bool (ltb 0 (length rest))) [
        | inl e ↦ tag_read (get_or rest 0 0) (at_true _ _ _ (Ok x) e h)
        | inr e ↦ never x causes.Cut (at_false _ _ _ (Ok x) e h)
      ]

step_was : (k total : ℕ) (p : Pos) (rest : List ℕ) (cs : List Content) (o : Result (Record × Pos) Cause) → reads_after (reads k total) total p.place rest o ≡ Ok cs
    → (x : Record × Pos) × (o ≡ Ok x) × (step_result (reads k total x.1 (drop (x.1.place - p.place) rest)) total rest x.0 x.1 ≡ Ok cs)
step_was k total p rest cs (Ok x) h = (x, refl, h)
step_was k total p rest cs (Err c) h = never cs (fault_at total p.place c) h

list_formed : (k total : ℕ) (p : Pos) (rest : List ℕ) (cs : List Content) → reads k total p rest ≡ Ok cs → WellFormed p cs
list_formed zero total p rest cs h = never cs (fault causes.Cut total) h
list_formed (suc k) total p rest cs h =
    let w = step_was k total p rest cs (step_of p rest) h in
    let x = w.0 in
    let follow = reads k total x.1 (drop (x.1.place - p.place) rest) in
    elim (step_read p rest x w.1) [
      | one c s u g e t ↦
          let b = before_back c follow cs (sym (t follow total) ∙ w.2) in
          let more = list_formed k total x.1 (drop (x.1.place - p.place) rest) b.0 b.1 in
          subst (WellFormed p) b.2 (s, u, g, subst (λ q. WellFormed q b.0) e more)
      | ended s u e ↦
          let a = passes (ltb x.1.place total) _ _ cs (sym (ap (λ y. step_result follow total rest y x.1) e) ∙ w.2) in
          subst (WellFormed p) (ok_same [] cs a.1) (late_data p.state s u)
    ]

formed : (xs : List ℕ) (cs : List Content) → verdict xs ≡ Ok cs → WellFormed start cs
formed xs cs h =
    elim (cases_Bool (same (take 12 xs) header)) [
      | inl e ↦ list_formed (suc (length xs)) (length xs) start (drop 12 xs) cs (at_true _ _ _ (Ok cs) e h)
      | inr e ↦ never cs (fault causes.Header 0) (at_false _ _ _ (Ok cs) e h)
    ]

pub expressible : (stream : List ℕ) (d : Difference) → meaning stream ≡ Ok d → Expressible d
unfolding meaning
expressible stream d h =
    let a = then_back (verdict stream) _ d h in
    subst Expressible (ok_same (difference a.0) d a.2) (sound_expressible a.0 ((sound_exactly a.0).0 (formed stream a.0 a.1)))
