-- What the next record of a reader says of reading on from there.
use Rattle.std.proofs.Common.{◌≡◌, ℕ, suc, ◌+◌, ◌-◌, ◌^◌, ◌<◌, ◌≤◌, Bool, true, false, cond, ltb, List, [], length, take, drop, Some, None, Ok, Err, IfOk, Option, Result, Fits, w8, slice_index_or, sym, refl, ap, ◌∙◌, subst, ap₂, arith}
use Rattle.std.proofs.ByRecursion.{All-drop, All-from_get_or}
use Rattle.std.proofs.lemmas.List.{drop-drop, drop_at}
use Rattle.std.proofs.lemmas.Bool.{cond-true}
use Rattle.stream.specs.Rule.{State}
use Rattle.stream.specs.Steps.{Pos, pos_after, step_of}
use Rattle.stream.specs.Records.{Content, record_bytes, header}
use Rattle.stream.specs.Verdict.{start, verdict, reads, reads_after, step_result, record_before, check_answer, same}
use Rattle.stream.specs.Wellformed.{Good, pos_past, Bytes}
use Rattle.stream.specs.Stands.{next_answer, next_of, pos_of, rest_of, Opened, Turned}
use Rattle.stream.specs.declared.reader.Reader.{Reader}
use Rattle.stream.specs.declared.records.Record.{Record}
use Rattle.stream.specs.declared.records.Record.TheVariants.{End}
use Rattle.fault.specs.Fault.{and_then}
use Rattle.fault.specs.declared.fault.Fault.{Fault}
use Rattle.fault.specs.declared.cause.Cause.{Cause}
use Rattle.stream.proofs.WrittenRecords.{begins, then_ok, lies, step_forth, place_moved, read_forth, size_stays, length_positive}
use Rattle.stream.proofs.ReadRecords.{passes_last, ok_same, a_part, an_end, view}

-- what reading comes to, by the answer of the next record, where that was the end or a fault
abbrev pub answer_or_end : Result (Option Record) Fault → Result (List Content) Fault → Result (List Content) Fault
answer_or_end (Ok (Some r)) o = o
answer_or_end (Ok None) o = Ok []
answer_or_end (Err f) o = Err f

end_is : (b : Bool) (f : Fault) (o : Result (List Content) Fault) → cond b (Err f) (Ok []) ≡ answer_or_end (and_then {A = Unit {0}} (cond b (Err f) (Ok tt)) (λ _. Ok None)) o
end_is true f o = refl
end_is false f o = refl

answer_ended : (total : ℕ) (x : Record) (q : Pos) (rest : List ℕ) (follow : Result (List Content) Fault)
    → step_result follow total rest x q ≡ answer_or_end (next_answer total x q) (step_result follow total rest x q)
answer_ended total End q rest follow = end_is (ltb q.place total) _ _
answer_ended total x q rest follow = refl

step_ended : (more : Pos → List ℕ → Result (List Content) Fault) (total place : ℕ) (rest : List ℕ) (o : Result (Record × Pos) Cause)
    → reads_after more total place rest o ≡ answer_or_end (next_of total place o) (reads_after more total place rest o)
step_ended more total place rest (Ok s) = answer_ended total s.0 s.1 rest _
step_ended more total place rest (Err c) = refl

-- a record that was read
not_ended : (b : Bool) (f : Fault) (r : Record) → Ok (Some r) ≡ and_then {A = Unit {0}} {B = Option Record} (cond b (Err f) (Ok tt)) (λ _. Ok None) → ⊥
not_ended true f r h = cc
not_ended false f r h = cc

record_was : (total : ℕ) (x r : Record) (q : Pos) → Ok (Some r) ≡ next_answer total x q → (x ≡ r) × (r ≡ End → ⊥)
record_was total End r q h = absurd (not_ended (ltb q.place total) _ r h)
record_was total x r q h = (cc, λ e. cc)

step_was : (total place : ℕ) (o : Result (Record × Pos) Cause) (p q : Pos) (r : Record) → Ok (Some r) ≡ next_of total place o → q ≡ pos_after p o → (o ≡ Ok (r, q)) × (r ≡ End → ⊥)
step_was total place (Ok s) p q r h m = let e = record_was total s.0 r s.1 h in (ap₂ (λ x y. Ok (x, y)) e.0 (sym m), e.1)
step_was total place (Err c) p q r h m = absurd cc

-- a reader underway in a stream: reading on from here comes to what the whole stream does, by what
-- is asked of it, F; `left` is how many records are still counted on
pub record Underway {A : Type 0} (stream : List ℕ) (reader : Reader) (F : Result (List Content) Fault → A) (a : A) : Type 0 where
  pub same : reader.bytes.now ≡ stream
  pub bytes : Bytes stream
  pub small : (pos_of reader).size ≤ 2 ^ 40
  pub left : ℕ
  pub enough : length stream ≤ reader.place + left
  pub comes : F (reads (suc left) (length reader.bytes.now) (pos_of reader) (rest_of reader)) ≡ a

-- at the end or a fault it comes to that
pub comes_end : {A : Type 0} {stream : List ℕ} {old new : Reader} {F : Result (List Content) Fault → A} {a : A} {x b : Result (Option Record) Fault}
    → (u : Underway stream old F a) → Turned old new x → x ≡ b → F (answer_or_end b (reads (suc u.left) (length old.bytes.now) (pos_of old) (rest_of old))) ≡ a
comes_end {old = old} {F = F} u t e =
    let o = step_of (pos_of old) (rest_of old) in
    let on = reads (suc u.left) (length old.bytes.now) (pos_of old) (rest_of old) in
    sym (ap F (step_ended (reads u.left (length old.bytes.now)) _ old.place (rest_of old) o ∙ ap (λ v. answer_or_end v on) (sym t.result ∙ e))) ∙ u.comes

-- the next record is read first, and then what follows it
pub record Next {A : Type 0} (stream : List ℕ) (old new : Reader) (F : Result (List Content) Fault → A) (a : A) (r : Record) : Type 0 where
  pub content : Content
  pub state : State
  pub good : Good (pos_of old) content
  pub lies_so : r ≡ lies (pos_of old) content
  pub stands : pos_of new ≡ pos_past (pos_of old) content state
  pub place : new.place ≡ old.place + length (record_bytes content)
  pub moved : old.place < new.place
  pub underway : {G : Result (List Content) Fault → A} → ((o : Result (List Content) Fault) → F (record_before content o) ≡ G o) → Underway stream new G a

pub next_reads : {A : Type 0} {stream : List ℕ} {old new : Reader} {F : Result (List Content) Fault → A} {a : A} {x : Result (Option Record) Fault} {r : Record}
    → Underway stream old F a → Turned old new x → x ≡ Ok (Some r) → Next stream old new F a r
next_reads {A} {stream} {old} {new} {F} {a} {x} {r} u t e =
    let xs = old.bytes.now in
    let n = length xs in
    let p = pos_of old in
    let q = pos_of new in
    let s = step_was n old.place (step_of p (rest_of old)) p q r (sym e ∙ t.result) t.stands in
    elim (view p (rest_of old) (r, q) (All-drop (λ v. v < 256) old.place xs (subst Bytes (sym u.same) u.bytes)) s.0) [
      | a_part c w more begin rule good ↦
          let f = step_forth p c w more u.small rule good in
          let i = ok_same (r, q) (lies p c, pos_past p c w) (sym s.0 ∙ ap (step_of p) begin ∙ f) in
          let stands : q ≡ pos_past p c w = ap (λ x. x.1) i in
          let place : new.place ≡ old.place + length (record_bytes c) = ap (λ v. v.place) stands ∙ place_moved p c w in
          let behind : drop new.place xs ≡ more =
          ap (λ i. drop i xs) (omega arith) ∙ sym (drop-drop (new.place - old.place) old.place xs)
          ∙ ap (drop (new.place - old.place)) begin ∙ drop_at (record_bytes c) more (new.place - old.place) (omega arith) in
          let on : reads (suc u.left) n p (rest_of old) ≡ record_before c (reads u.left (length new.bytes.now) q (rest_of new)) =
          ap (reads (suc u.left) n p) begin ∙ read_forth u.left n p c w more f
          ∙ ap (record_before c) (ap₂ (reads u.left n) (sym stands) (sym behind) ∙ ap (λ v. reads u.left (length v.now) q (drop new.place v.now)) (sym t.bytes)) in
          let same : new.bytes.now ≡ stream = ap (λ v. v.now) t.bytes ∙ u.same in
          let l = ap length same in
          let h = u.enough in
          let within = new.within in
          let m = length_positive c in
          let one : suc (u.left - 1) ≡ u.left = omega arith in
          record {
            content = c;
            state = w;
            good = good;
            lies_so = ap (λ x. x.0) i;
            stands = stands;
            place = place;
            moved = omega arith;
            underway = λ {G} f. record {
              same = same;
              bytes = u.bytes;
              small = subst (λ v. v.size ≤ 2 ^ 40) (sym stands) (size_stays p c w u.small good);
              left = u.left - 1;
              enough = omega arith;
              comes = ap (λ v. G (reads v (length new.bytes.now) q (rest_of new))) one ∙ sym (f _) ∙ sym (ap F on) ∙ u.comes;
            };
          }
      | an_end w more begin rule ↦
          absurd (s.1 (ap (λ x. x.0) (ok_same (r, q) (End, record p { place = p.place + 1; state = w }) (sym s.0 ∙ ap (step_of p) begin ∙ begins p 101 more ∙ then_ok _ w _ rule))))
    ]

pub checked_before : (c : Content) (o : Result (List Content) Fault) → check_answer (record_before c o) ≡ check_answer o
checked_before c (Ok cs) = refl
checked_before c (Err f) = refl

-- a reader after the header of a stream
pub begun : {A : Type 0} (F : Result (List Content) Fault → A) (xs : List ℕ) (r : Result Reader Fault) (x : Reader) → ((i : ℕ) → Fits w8 (slice_index_or xs i 0)) → Opened xs r → r ≡ Ok x
    → Underway xs x F (F (verdict xs)) × (start ≡ pos_of x)
begun F xs r x are o e =
    let b = subst (λ v. IfOk v (λ w. w.bytes.now ≡ xs)) e o.bytes in
    let t = passes_last (same (take 12 xs) header) _ start (pos_of x) (sym (sym (ap (λ v. and_then v (λ y. Ok (pos_of y))) e) ∙ o.result)) in
    let p = sym (ap (λ v. v.place) t.1) in
    let l = ap length b in
    let u : Underway xs x F (F (verdict xs)) = record {
      same = b;
      bytes = All-from_get_or (λ v. v < 256) xs 0 (λ i l. let f = are i in omega arith);
      small = subst (λ v. v.size ≤ 2 ^ 40) t.1 (omega arith);
      left = length x.bytes.now;
      enough = omega arith;
      comes = ap F (
          ap₂ (λ v w. reads (suc (length v)) (length v) w (drop x.place v)) b (sym t.1)
          ∙ ap (λ v. reads (suc (length xs)) (length xs) start (drop v xs)) p
          ∙ sym (cond-true (same (take 12 xs) header) _ _ t.0)
          );
    } in
    (u, t.1)
