-- What reading accepts was written, and a stream is refused with a fault exactly if good records
-- lead to what is wrong.
use Rattle.std.proofs.Common.{◌≢◌, ◌≡◌, ℕ, zero, suc, ◌+◌, ◌-◌, ◌^◌, ◌<◌, ◌≤◌, Bool, true, false, cond, eqb, ltb, ◌⊎◌, List, [], ◌∷◌, ◌++◌, length, take, drop, Ok, Err, Result, sym, refl, ap, ◌∙◌, subst, inl, inr, append_assoc, arith, length-append}
use Rattle.std.proofs.ByRecursion.{All-drop}
use Rattle.std.proofs.lemmas.List.{take_at, drop_at, nil_from_length}
use Rattle.std.proofs.lemmas.Bool.{ltb-true, ltb-false, lt-ltb, eq-eqb, and_from, cases_Bool, true≢false, cond-true, cond-false}
use Rattle.stream.specs.Rule.{State, Data, late_rule}
use Rattle.stream.specs.Steps.{Pos, step_of}
use Rattle.stream.specs.Records.{Content, record_bytes, records_bytes, header}
use Rattle.stream.specs.Verdict.{start, verdict, reads, reads_after, record_before, same}
use Rattle.stream.specs.Wellformed.{Good, rule_of, WellFormed, AcceptedIsStream, pos_past, Bytes, Leads, Wrong, Stops, Refusal, RefusedExactly}
use Rattle.stream.specs.declared.records.Record.{Record}
use Rattle.fault.specs.Fault.{fault}
use Rattle.fault.specs.declared.fault.Fault.{Fault}
use Rattle.fault.specs.declared.cause.Cause.{Cause}
use Rattle.fault.specs.declared.cause.Cause.TheVariants as causes
use Rattle.stream.proofs.WrittenRecords.{begins, then_ok, step_forth, place_moved, behind, read_forth, size_stays, length_positive}
use Rattle.stream.proofs.ReadRecords.{at_true, at_false, a_part, an_end, view, late_data, same_back, headed}
use Rattle.stream.proofs.RecordRefusals.{err_same, refuses_forth, refuses_back, late_complete, complete_late}

step_cases : (o : Result (Record × Pos) Cause) → ((x : Record × Pos) × (o ≡ Ok x)) ⊎ ((c : Cause) × (o ≡ Err c))
step_cases (Ok x) = inl (x, refl)
step_cases (Err c) = inr (c, refl)

-- reading at e
at_end : (k total : ℕ) (p : Pos) (s : State) (more : List ℕ) → late_rule p.state ≡ Ok s
    → reads (suc k) total p (101 ∷ more) ≡ cond (ltb (p.place + 1) total) (Err (fault causes.Trailing (p.place + 1))) (Ok [])
at_end k total p s more u = ap (reads_after (reads k total) total p.place (101 ∷ more)) (begins p 101 more ∙ then_ok _ s _ u)

-- what reading comes to: well-formed records and their bytes, or good ones and then what is wrong
abbrev Comes : ℕ → Pos → List ℕ → Result (List Content) Fault → Type 0
Comes total p rest (Ok cs) = (rest ≡ records_bytes cs ++ (101 ∷ [])) × WellFormed p cs
Comes total p rest (Err f) = Stops total p rest f

comes_before : (total : ℕ) (p : Pos) (c : Content) (s : State) (more : List ℕ) (o : Result (List Content) Fault) → rule_of c p.state ≡ Ok s → Good p c
    → Comes total (pos_past p c s) more o → Comes total p (record_bytes c ++ more) (record_before c o)
comes_before total p c s more (Ok cs) u g h =
    (ap (λ v. record_bytes c ++ v) h.0 ∙ sym (append_assoc (record_bytes c) (records_bytes cs) (101 ∷ [])), (s, u, g, h.1))
comes_before total p c s more (Err f) u g h =
    (c ∷ h.0, h.1, h.2, ap (λ v. record_bytes c ++ v) h.3 ∙ sym (append_assoc (record_bytes c) (records_bytes h.0) h.2), (s, u, g, h.4), h.5)

end_comes : (k total : ℕ) (p : Pos) (s : State) (more : List ℕ) → late_rule p.state ≡ Ok s → total ≡ p.place + (1 + length more)
    → Comes total p (101 ∷ more) (reads (suc k) total p (101 ∷ more))
end_comes k total p s more u t =
    let C = Comes total p (101 ∷ more) in
    elim (cases_Bool (ltb (p.place + 1) total)) [
      | inl y ↦
          let v = ltb-true (p.place + 1) total y in
          subst C (sym (at_end k total p s more u ∙ cond-true _ _ _ y)) ([], p, 101 ∷ more, refl, refl, inr (more, refl, omega arith, late_complete p.state s u, refl))
      | inr y ↦
          let v = ltb-false (p.place + 1) total y in
          subst C (sym (at_end k total p s more u ∙ cond-false _ _ _ y)) (ap (λ v. 101 ∷ v) (nil_from_length more (omega arith)), late_data p.state s u)
    ]

list_comes : (k total : ℕ) (p : Pos) (rest : List ℕ) → p.size ≤ 2 ^ 40 → Bytes rest → total ≡ p.place + length rest → length rest < k → Comes total p rest (reads k total p rest)
list_comes zero total p rest z b t j = absurd (omega arith)
list_comes (suc k) total p rest z b t j =
    let C : List ℕ → Type 0 = λ v. Comes total p v (reads (suc k) total p v) in
    elim (step_cases (step_of p rest)) [
      | inr x ↦ subst (Comes total p rest) (sym (ap (reads_after (reads k total) total p.place rest) x.1)) ([], p, rest, refl, refl, inl (x.0, refuses_back p rest x.0 x.1, refl))
      | inl x ↦ elim (view p rest x.0 b x.1) [
        | a_part c s more r u g ↦
            let e = read_forth k total p c s more (step_forth p c s more z u g) in
            let m = ap (drop ((pos_past p c s).place - p.place)) r ∙ behind p c s more in
            let bm = subst Bytes m (All-drop (λ v. v < 256) ((pos_past p c s).place - p.place) rest b) in
            let l = ap length r ∙ length-append (record_bytes c) more in
            let o = length_positive c in
            let pm = place_moved p c s in
            let ih = list_comes k total (pos_past p c s) more (size_stays p c s z g) bm (omega arith) (omega arith) in
            subst C (sym r) (subst (Comes total p (record_bytes c ++ more)) (sym e) (comes_before total p c s more _ u g ih))
        | an_end s more r u ↦ let l = ap length r in subst C (sym r) (end_comes k total p s more u (omega arith))
      ]
    ]

-- the same of a whole stream, with the header
stream_comes : (xs : List ℕ) (o : Result (List Content) Fault) → Bytes xs → same (take 12 xs) header ≡ true → verdict xs ≡ o → Comes (length xs) start (drop 12 xs) o
stream_comes xs o b e h =
    let d = headed xs e in
    subst (Comes (length xs) start (drop 12 xs)) (at_true (same (take 12 xs) header) _ _ o e h)
    (list_comes (suc (length xs)) (length xs) start (drop 12 xs) (omega (arith, d.1)) (All-drop (λ v. v < 256) 12 xs b) d.1 (omega (arith, d.1)))

pub accepted_is_stream : AcceptedIsStream
accepted_is_stream xs cs b h =
    elim (cases_Bool (same (take 12 xs) header)) [
      | inl e ↦ let r = stream_comes xs (Ok cs) b e h in ((headed xs e).0 ∙ ap (λ t. header ++ t) r.0, r.1)
      | inr e ↦ let g = at_false (same (take 12 xs) header) _ _ (Ok cs) e h in absurd (cc g)
    ]

wrong_read : (k total : ℕ) (p : Pos) (rest : List ℕ) (f : Fault) → total ≡ p.place + length rest → Wrong total p rest f → reads (suc k) total p rest ≡ Err f
wrong_read k total p rest f t w =
    elim w [
      | inl x ↦ ap (reads_after (reads k total) total p.place rest) (refuses_forth p rest x.0 x.1) ∙ ap Err (sym x.2)
      | inr x ↦
          let l = ap length x.1 in
          let n = x.2 in
          ap (reads (suc k) total p) x.1 ∙ at_end k total p Data x.0 (complete_late p.state x.3)
          ∙ cond-true (ltb (p.place + 1) total) _ _ (lt-ltb (p.place + 1) total (omega arith)) ∙ ap Err (sym x.4)
    ]

refused_read : (cs : List Content) (k total : ℕ) (p q : Pos) (more : List ℕ) (f : Fault) → p.size ≤ 2 ^ 40 → length (records_bytes cs) + length more < k
    → total ≡ p.place + (length (records_bytes cs) + length more) → Leads p cs q → Wrong total q more f
    → reads k total p (records_bytes cs ++ more) ≡ Err f
refused_read [] zero total p q more f z j t g w = absurd (omega arith)
refused_read (c ∷ cs) zero total p q more f z j t g w = absurd (omega arith)
refused_read [] (suc k) total p q more f z j t g w =
    let P : Pos → Type 0 = λ v. Wrong total v more f in
    wrong_read k total p more f (omega arith) (subst P (sym g) w)
refused_read (c ∷ cs) (suc k) total p q more f z j t g w =
    let s = g.0 in
    let l = length-append (record_bytes c) (records_bytes cs) in
    let o = length_positive c in
    let m = place_moved p c s in
    ap (reads (suc k) total p) (append_assoc (record_bytes c) (records_bytes cs) more)
    ∙ read_forth k total p c s (records_bytes cs ++ more) (step_forth p c s (records_bytes cs ++ more) z g.1 g.2)
    ∙ ap (record_before c) (refused_read cs k total (pos_past p c s) q more f (size_stays p c s z g.2) (omega arith) (omega arith) g.3 w)

pub same_refl : (xs : List ℕ) → same xs xs ≡ true
same_refl [] = refl
same_refl (x ∷ xs) = and_from (eqb x x) (same xs xs) (eq-eqb x x refl) (same_refl xs)

pub header_tells : (xs : List ℕ) → take 12 xs ≡ header → same (take 12 xs) header ≡ true
header_tells xs e = ap (λ t. same t header) e ∙ same_refl header

pub other_header : (xs : List ℕ) → take 12 xs ≢ header → same (take 12 xs) header ≡ false
other_header xs n = elim (cases_Bool (same (take 12 xs) header)) [ inl e ↦ absurd (n (same_back (take 12 xs) header e)) | inr e ↦ e ]

refused_fault : (xs : List ℕ) (f : Fault) → Bytes xs → verdict xs ≡ Err f → Refusal xs f
refused_fault xs f b h =
    elim (cases_Bool (same (take 12 xs) header)) [
      | inl e ↦ inr (drop 12 xs, (headed xs e).0, stream_comes xs (Err f) b e h)
      | inr e ↦
          let g = at_false (same (take 12 xs) header) _ _ (Err f) e h in
          inl (λ y. let z : ◌≡◌ {A = Bool} true false = sym (header_tells xs y) ∙ e in true≢false z, sym (err_same (fault causes.Header 0) f g))
    ]

fault_refused : (xs : List ℕ) (f : Fault) → Refusal xs f → verdict xs ≡ Err f
fault_refused xs f r =
    elim r [
      | inl x ↦ cond-false (same (take 12 xs) header) _ _ (other_header xs x.0) ∙ ap Err (sym x.1)
      | inr x ↦
          let rest = x.0 in
          let w = x.2 in
          let e = ap (take 12) x.1 ∙ take_at header rest 12 refl in
          let d = ap (drop 12) x.1 ∙ drop_at header rest 12 refl ∙ w.3 in
          let l = ap length x.1 in
          let m = ap length w.3 ∙ length-append (records_bytes w.0) w.2 in
          cond-true (same (take 12 xs) header) _ _ (header_tells xs e)
          ∙ ap (reads (suc (length xs)) (length xs) start) d
          ∙ refused_read w.0 (suc (length xs)) (length xs) start w.1 w.2 f (omega arith) (omega arith) (omega arith) w.4 w.5
    ]

pub refused_exactly : RefusedExactly
refused_exactly xs f b = (refused_fault xs f b, fault_refused xs f)
