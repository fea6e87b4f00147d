-- A step refuses a record exactly as the lines of the format say: from a line to the step, and
-- back.
use Rattle.std.proofs.Common.{◌≡◌, ℕ, zero, suc, ◌+◌, ◌<◌, Bool, true, false, cond, eqb, ltb, ◌⊎◌, List, [], ◌∷◌, length, Ok, Err, Result, sym, refl, ap, ◌∙◌, subst, inl, inr, ⊎_elim, arith}
use Rattle.std.specs.Prelude.{slice_index_or}
use Rattle.std.specs.List.{Any}
use Rattle.std.proofs.lemmas.Bool.{and_left, and_right, cases_Bool, cases_lt, ltb-true, ltb-false, lt-ltb, eqb-true, eqb-false, cond-true, cond-false, true≢false}
use Rattle.std.proofs.lemmas.Bool.Decides.{nat_tests}
use Rattle.stream.specs.Bytes.{field}
use Rattle.stream.specs.Rule.{Seen, State, Meta, Data, meta_rule, late_rule, seen_from, seen_to, seen_size}
use Rattle.stream.specs.Steps.{Pos, printable_byte, every_printable, name_length_of, size_of, data_range_of, payload_range_of, end_step, record_of, step_of}
use Rattle.stream.specs.Refusals.{IsNoTag, Begins, Awaits, IsPast, IsComplete, Lacks, NameDue, SizeDue, BeginsData, DataDue, stated_name_length, stated_size, stated_offset, stated_length, StatesName, StatesRange, IsUnprintable, Refuses, no_byte_left, no_tag, second_from, second_to, second_size, too_early, too_many, name_fields_cut, size_cut, range_fields_cut, empty_range, past_size, above_limit, empty_name, long_name, overlapping, name_cut, payload_cut, unprintable, RefusesExactly}
use Rattle.stream.specs.declared.records.Record.{Record}
use Rattle.fault.specs.Fault.{and_then}
use Rattle.fault.specs.declared.cause.Cause.{Cause}
use Rattle.fault.specs.declared.cause.Cause.TheVariants as causes
use Rattle.stream.proofs.WrittenRecords.{begins, then_ok}
use Rattle.stream.proofs.ReadRecords.{at_true, at_false, passes, range_back}

pub err_same : {A E : Type 0} (x y : E) → ◌≡◌ {A = Result A E} (Err x) (Err y) → x ≡ y
err_same x y h = cc

pub never : {A E : Type 0} {C : Type 0} (x : A) (y : E) → ◌≡◌ {A = Result A E} (Ok x) (Err y) → C
never x y h = absurd cc

then_err : {A B E : Type 0} (r : Result A E) (g : A → Result B E) (e : E) → r ≡ Err e → and_then r g ≡ Err e
then_err r g e h = ap (λ t. and_then t g) h

-- what the first byte begins
tag_step : (p : Pos) (tag : ℕ) (rest : List ℕ) → Begins tag rest → step_of p rest ≡ record_of p rest tag
tag_step p tag [] h = absurd cc
tag_step p tag (b ∷ bs) h =
    let e : b ≡ tag = cc in
    begins p b bs ∙ ap (record_of p (b ∷ bs)) e

-- the rules of the tags, from the state
module _ (kind : Seen → Bool) (after : Seen → State) where
  due : (s : State) → Awaits kind s → (t : State) × (meta_rule kind after s ≡ Ok t)
  due (Meta seen) h = (after seen, cond-false (kind seen) _ _ h)
  due Data h = absurd h

  past : (s : State) → IsPast kind s → meta_rule kind after s ≡ Err causes.Misplaced
  past (Meta seen) h = cond-true (kind seen) _ _ h
  past Data h = refl

pub complete_late : (s : State) → IsComplete s → late_rule s ≡ Ok Data
complete_late (Meta seen) h = cond-true seen.to _ _ h.0 ∙ cond-true seen.sized _ _ h.1
complete_late Data h = refl

lacks_late : (s : State) → Lacks s → late_rule s ≡ Err causes.Incomplete
lacks_late (Meta seen) h = grind (arith, nat_tests)
lacks_late Data h = absurd h

-- a byte of a name may be there, or may not
byte_good : (b : ℕ) → IsUnprintable b → printable_byte b ≡ false
byte_good b h = ⊎_elim (λ l. grind (arith, nat_tests)) (λ l. grind (arith, nat_tests)) h

byte_bad : (b : ℕ) → printable_byte b ≡ false → IsUnprintable b
byte_bad b h = ⊎_elim (λ l. inl l) (λ l. inr (grind (arith, nat_tests))) (cases_lt b 33)

some_bad : (bs : List ℕ) → every_printable bs ≡ false → Any IsUnprintable bs
some_bad [] h = absurd (true≢false h)
some_bad (b ∷ bs) h =
    ⊎_elim
    (λ y. let more = some_bad bs (rw y at h) in (suc more.0, more.1, let l = more.2 in omega arith, more.3, more.4))
    (λ n. (0, b, omega arith, refl, byte_bad b n))
    (cases_Bool (printable_byte b))

not_at : (bs : List ℕ) (k x : ℕ) → k < length bs → slice_index_or bs k x ≡ x → IsUnprintable x → every_printable bs ≡ false
not_at [] k x l e h = absurd (omega arith)
not_at (b ∷ bs) zero x l e h = and_left (printable_byte b) (every_printable bs) (byte_good b (subst IsUnprintable (sym e) h))
not_at (b ∷ bs) (suc k) x l e h = and_right (printable_byte b) (every_printable bs) (not_at bs k x (omega arith) e h)

not_all : (bs : List ℕ) → Any IsUnprintable bs → every_printable bs ≡ false
not_all bs h = not_at bs h.0 h.1 h.2 h.3 h.4

-- a record whose own checks fail
name_err : (p : Pos) (rest : List ℕ) (c : Cause) → NameDue p rest → name_length_of rest ≡ Err c → step_of p rest ≡ Err c
name_err p rest c h e =
    ⊎_elim
    (λ x. let s = due _ seen_from p.state x.1 in tag_step p 102 rest x.0 ∙ then_ok _ s.0 _ s.1 ∙ then_err _ _ c e)
    (λ x. let s = due _ seen_to p.state x.1 in tag_step p 116 rest x.0 ∙ then_ok _ s.0 _ s.1 ∙ then_err _ _ c e)
    h

size_err : (p : Pos) (rest : List ℕ) (c : Cause) → SizeDue p rest → size_of rest ≡ Err c → step_of p rest ≡ Err c
size_err p rest c h e = let s = due _ seen_size p.state h.1 in tag_step p 115 rest h.0 ∙ then_ok _ s.0 _ s.1 ∙ then_err _ _ c e

payload_err : (p : Pos) (rest : List ℕ) (c : Cause) → Begins 119 rest → IsComplete p.state → payload_range_of p rest ≡ Err c → step_of p rest ≡ Err c
payload_err p rest c b h e = tag_step p 119 rest b ∙ then_ok _ Data _ (complete_late p.state h) ∙ then_err _ _ c e

data_err : (p : Pos) (rest : List ℕ) (c : Cause) → BeginsData rest → IsComplete p.state → data_range_of p rest ≡ Err c → step_of p rest ≡ Err c
data_err p rest c b h e =
    ⊎_elim
    (λ x. payload_err p rest c x h (then_err _ _ c e))
    (λ x. tag_step p 122 rest x ∙ then_ok _ Data _ (complete_late p.state h) ∙ then_err _ _ c e)
    b

unknown : (p : Pos) (rest : List ℕ) (b : ℕ) → IsNoTag b → record_of p rest b ≡ Err causes.UnknownTag
unknown p rest b n = grind (arith, nat_tests)

pub refuses_forth : (p : Pos) (rest : List ℕ) (c : Cause) → Refuses p rest c → step_of p rest ≡ Err c
refuses_forth p rest c (no_byte_left e) = ap (step_of p) e
refuses_forth p rest c (no_tag b t n) = tag_step p b rest t ∙ unknown p rest b n
refuses_forth p rest c (second_from t h) = tag_step p 102 rest t ∙ then_err _ _ _ (past _ seen_from p.state h)
refuses_forth p rest c (second_to t h) = tag_step p 116 rest t ∙ then_err _ _ _ (past _ seen_to p.state h)
refuses_forth p rest c (second_size t h) = tag_step p 115 rest t ∙ then_err _ _ _ (past _ seen_size p.state h)
refuses_forth p rest c (too_early t h) =
    ⊎_elim
    (⊎_elim
    (λ x. tag_step p 119 rest x ∙ then_err _ _ _ (lacks_late p.state h))
    (λ x. tag_step p 122 rest x ∙ then_err _ _ _ (lacks_late p.state h)))
    (λ x. tag_step p 101 rest x ∙ then_err _ _ _ (lacks_late p.state h))
    t
refuses_forth p rest c (too_many t h m) = data_err p rest _ t h (grind (arith, nat_tests))
refuses_forth p rest c (name_fields_cut d l) = name_err p rest _ d (grind (arith, nat_tests))
refuses_forth p rest c (size_cut d l) = size_err p rest _ d (grind (arith, nat_tests))
refuses_forth p rest c (range_fields_cut d l) = data_err p rest _ d.0 d.1 (grind (arith, nat_tests))
refuses_forth p rest c (empty_range d l e) = data_err p rest _ d.0 d.1 (grind (arith, nat_tests))
refuses_forth p rest c (past_size d l m) = data_err p rest _ d.0 d.1 (grind (arith, nat_tests))
refuses_forth p rest c (above_limit d l m) = size_err p rest _ d (grind (arith, nat_tests))
refuses_forth p rest c (empty_name d l e) = name_err p rest _ d (grind (arith, nat_tests))
refuses_forth p rest c (long_name d l m) = name_err p rest _ d (grind (arith, nat_tests))
refuses_forth p rest c (overlapping d r m) = data_err p rest _ d.0 d.1 (grind (arith, nat_tests))
refuses_forth p rest c (name_cut d s l) = name_err p rest _ d (grind (arith, nat_tests))
refuses_forth p rest c (payload_cut t d r m l) =
    let n = stated_length rest in
    let e : data_range_of p rest ≡ Ok (stated_offset rest, n) = grind (arith, nat_tests) in
    payload_err p rest _ t d.1 (then_ok _ _ _ e ∙ cond-true (ltb (length rest) (17 + n)) _ _ (lt-ltb (length rest) (17 + n) l))
refuses_forth p rest c (unprintable d s l a) = let b = not_all _ a in name_err p rest _ d (grind (arith, nat_tests))

-- a test that fails, and one that leads on
refused : {A : Type 0} (R : Cause → Type 0) (b : Bool) (e c : Cause) (y : Result A Cause) → (b ≡ true → R e) → (b ≡ false → y ≡ Err c → R c) → cond b (Err e) y ≡ Err c → R c
refused R true e c y f g h = subst R (err_same e c h) (f refl)
refused R false e c y f g h = g refl h

refused_last : {A : Type 0} (R : Cause → Type 0) (b : Bool) (e c : Cause) (x : A) → (b ≡ false → R e) → cond b (Ok x) (Err e) ≡ Err c → R c
refused_last R true e c x f h = never x c h
refused_last R false e c x f h = subst R (err_same e c h) (f refl)

then_cases : {A B E : Type 0} (r : Result A E) (g : A → Result B E) (e : E) → and_then r g ≡ Err e → (r ≡ Err e) ⊎ ((x : A) × (r ≡ Ok x) × (g x ≡ Err e))
then_cases (Ok x) g e h = inr (x, refl, h)
then_cases (Err f) g e h = inl (ap Err (err_same f e h))

then_first : {A B E : Type 0} (r : Result A E) (f : A → B) (e : E) → and_then r (λ x. Ok (f x)) ≡ Err e → r ≡ Err e
then_first (Ok x) f e h = never (f x) e h
then_first (Err g) f e h = ap Err (err_same g e h)

-- the rules of the tags, from their answers
module _ (kind : Seen → Bool) (after : Seen → State) where
  waits : (s t : State) → meta_rule kind after s ≡ Ok t → Awaits kind s
  waits (Meta seen) t h = (passes _ _ _ t h).0
  waits Data t h = never t causes.Misplaced (sym h)

  done : (R : Cause → Type 0) (s : State) (c : Cause) → (IsPast kind s → R causes.Misplaced) → meta_rule kind after s ≡ Err c → R c
  done R (Meta seen) c f h = refused R (kind seen) causes.Misplaced c (Ok (after seen)) f (λ n k. never (after seen) c k) h
  done R Data c f h = subst R (err_same causes.Misplaced c h) (f tt)

pub late_complete : (s t : State) → late_rule s ≡ Ok t → IsComplete s
late_complete (Meta seen) t h = (grind (arith, nat_tests), grind (arith, nat_tests))
late_complete Data t h = tt

late_one : (R : Cause → Type 0) (to sized : Bool) (c : Cause) → ((to ≡ false) ⊎ (sized ≡ false) → R causes.Incomplete)
    → cond to (cond sized (Ok Data) (Err causes.Incomplete)) (Err causes.Incomplete) ≡ Err c → R c
late_one R true true c f h = never Data c h
late_one R true false c f h = subst R (err_same causes.Incomplete c h) (f (inr refl))
late_one R false sized c f h = subst R (err_same causes.Incomplete c h) (f (inl refl))

late_lacks : (R : Cause → Type 0) (s : State) (c : Cause) → (Lacks s → R causes.Incomplete) → late_rule s ≡ Err c → R c
late_lacks R (Meta seen) c f h = late_one R seen.to seen.sized c f h
late_lacks R Data c f h = never Data c h

module _ (p : Pos) (rest : List ℕ) (c : Cause) where
  name_refused : NameDue p rest → name_length_of rest ≡ Err c → Refuses p rest c
  name_refused due =
      let n = stated_name_length rest in
      refused (Refuses p rest) (ltb (length rest) 5) causes.Cut c _ (λ y. name_fields_cut due (ltb-true (length rest) 5 y)) (λ l.
      let fields = ltb-false (length rest) 5 l in
      refused (Refuses p rest) (eqb n 0) causes.BadName c _ (λ y. empty_name due fields (eqb-true n 0 y)) (λ z.
      let some = eqb-false n 0 z in
      refused (Refuses p rest) (ltb 64 n) causes.BadName c _ (λ y. long_name due fields (ltb-true 64 n y)) (λ b.
      let whole : StatesName rest = (fields, omega (arith, some), ltb-false 64 n b) in
      refused (Refuses p rest) (ltb (length rest) (5 + n)) causes.Cut c _ (λ y. name_cut due whole (ltb-true (length rest) (5 + n) y)) (λ m.
      refused_last (Refuses p rest) (every_printable (field rest 5 n)) causes.BadName c n
      (λ y. unprintable due whole (ltb-false (length rest) (5 + n) m) (some_bad (field rest 5 n) y))))))

  size_refused : SizeDue p rest → size_of rest ≡ Err c → Refuses p rest c
  size_refused due =
      let n = stated_size rest in
      refused (Refuses p rest) (ltb (length rest) 9) causes.Cut c _ (λ y. size_cut due (ltb-true (length rest) 9 y)) (λ l.
      refused (Refuses p rest) (ltb _ n) causes.TooLarge c (Ok n) (λ y. above_limit due (ltb-false (length rest) 9 l) (ltb-true _ n y)) (λ m k. never n c k))

  -- the checks of a range, and of a payload where they pass
  range_refused : BeginsData rest → IsComplete p.state → data_range_of p rest ≡ Err c → Refuses p rest c
  range_refused tag complete =
      let o = stated_offset rest in
      let n = stated_length rest in
      refused (Refuses p rest) (ltb 511 p.count) causes.TooManyRecords c _ (λ y. let m = ltb-true 511 p.count y in too_many tag complete (omega arith)) (λ a.
      let few = ltb-false 511 p.count a in
      let due : DataDue p rest = (tag, complete, omega arith) in
      refused (Refuses p rest) (ltb (length rest) 17) causes.Cut c _ (λ y. range_fields_cut due (ltb-true (length rest) 17 y)) (λ l.
      let fields = ltb-false (length rest) 17 l in
      refused (Refuses p rest) (eqb n 0) causes.BadRange c _ (λ y. empty_range due fields (eqb-true n 0 y)) (λ z.
      let some = eqb-false n 0 z in
      refused (Refuses p rest) (ltb p.size (o + n)) causes.BadRange c _ (λ y. past_size due fields (ltb-true p.size (o + n) y)) (λ m.
      let states : StatesRange p rest = (fields, omega (arith, some), ltb-false p.size (o + n) m) in
      refused (Refuses p rest) (ltb o p.end) causes.Overlap c (Ok (o, n)) (λ y. overlapping due states (ltb-true o p.end y)) (λ b k. never (o, n) c k)))))

  payload_refused : Begins 119 rest → IsComplete p.state → payload_range_of p rest ≡ Err c → Refuses p rest c
  payload_refused tag complete h =
      ⊎_elim
      (range_refused (inl tag) complete)
      (λ x.
      let good = range_back p rest (stated_offset rest) (stated_length rest) x.0 x.1 in
      let e : x.0.1 ≡ stated_length rest = ap (λ z. z.1) good.2 in
      let g = good.1 in
      refused (Refuses p rest) (ltb (length rest) (17 + x.0.1)) causes.Cut c (Ok x.0)
      (λ y. let l = ltb-true (length rest) (17 + x.0.1) y in payload_cut tag (inl tag, complete, g.0) (good.0, g.1, g.2) g.3 (omega arith))
      (λ y k. never x.0 c k) x.2)
      (then_cases _ _ c h)

  -- a record that the rule of its tag refuses, or its own checks
  by_rule : {A : Type 0} (u : Result State Cause) (r : Result A Cause) (f : State → A → Record × Pos) → (u ≡ Err c → Refuses p rest c) → ((s : State) → u ≡ Ok s → r ≡ Err c → Refuses p rest c)
      → and_then u (λ s. and_then r (λ x. Ok (f s x))) ≡ Err c → Refuses p rest c
  by_rule u r f g h e =
      ⊎_elim
      g
      (λ x. h x.0 x.1 (then_first r (f x.0) c x.2))
      (then_cases u (λ s. and_then r (λ x. Ok (f s x))) c e)

  -- the record of metadata of a kind, and one that comes after the metadata
  meta_refused : {A : Type 0} (kind : Seen → Bool) (after : Seen → State) (r : Result A Cause) (f : State → A → Record × Pos) → (IsPast kind p.state → Refuses p rest causes.Misplaced)
      → (Awaits kind p.state → r ≡ Err c → Refuses p rest c) → and_then (meta_rule kind after p.state) (λ s. and_then r (λ x. Ok (f s x))) ≡ Err c → Refuses p rest c
  meta_refused kind after r f g h = by_rule _ r f (done kind after (Refuses p rest) p.state c g) (λ s u. h (waits kind after p.state s u))

  late_refused : {A : Type 0} (r : Result A Cause) (f : State → A → Record × Pos) → (Lacks p.state → Refuses p rest causes.Incomplete)
      → (IsComplete p.state → r ≡ Err c → Refuses p rest c) → and_then (late_rule p.state) (λ s. and_then r (λ x. Ok (f s x))) ≡ Err c → Refuses p rest c
  late_refused r f g h = by_rule _ r f (late_lacks (Refuses p rest) p.state c g) (λ s u. h (late_complete p.state s u))

  end_refused : Begins 101 rest → and_then (late_rule p.state) (λ s. end_step p s) ≡ Err c → Refuses p rest c
  end_refused t h = ⊎_elim (late_lacks (Refuses p rest) p.state c (too_early (inr t))) (λ x. never _ c x.2) (then_cases _ _ c h)

  -- one test of a tag after the other
  tested : (tag t : ℕ) (x y : Result (Record × Pos) Cause) → Begins tag rest → (Begins t rest → x ≡ Err c → Refuses p rest c) → ((tag ≡ t → ⊥) → y ≡ Err c → Refuses p rest c)
      → cond (eqb tag t) x y ≡ Err c → Refuses p rest c
  tested tag t x y b f g h =
      ⊎_elim
      (λ e. f (subst (λ v. Begins v rest) (eqb-true tag t e) b) (at_true (eqb tag t) x y (Err c) e h))
      (λ e. g (eqb-false tag t e) (at_false (eqb tag t) x y (Err c) e h))
      (cases_Bool (eqb tag t))

  tag_refused : (tag : ℕ) → Begins tag rest → record_of p rest tag ≡ Err c → Refuses p rest c
  tag_refused tag b =
      tested tag 102 _ _ b (λ t. meta_refused _ seen_from (name_length_of rest) _ (second_from t) (λ w. name_refused (inl (t, w))))
      (λ f. tested tag 116 _ _ b (λ t. meta_refused _ seen_to (name_length_of rest) _ (second_to t) (λ w. name_refused (inr (t, w))))
      (λ t. tested tag 115 _ _ b (λ t. meta_refused _ seen_size (size_of rest) _ (second_size t) (λ w. size_refused (t, w)))
      (λ s. tested tag 119 _ _ b (λ t. late_refused (payload_range_of p rest) _ (too_early (inl (inl t))) (payload_refused t))
      (λ w. tested tag 122 _ _ b (λ t. late_refused (data_range_of p rest) _ (too_early (inl (inr t))) (range_refused (inr t)))
      (λ z. tested tag 101 _ _ b end_refused
      (λ e h. subst (Refuses p rest) (err_same causes.UnknownTag c h) (no_tag tag b (f, t, s, w, z, e))))))))

pub refuses_back : (p : Pos) (rest : List ℕ) (c : Cause) → step_of p rest ≡ Err c → Refuses p rest c
refuses_back p [] c h = subst (Refuses p []) (err_same causes.Cut c h) (no_byte_left refl)
refuses_back p (b ∷ bs) c h = tag_refused p (b ∷ bs) c b refl (sym (begins p b bs) ∙ h)

pub refuses_exactly : RefusesExactly
refuses_exactly p rest c = (refuses_forth p rest c, refuses_back p rest c)
