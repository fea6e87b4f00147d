-- What a step accepts was written: back from its answer to a good record and its bytes.
use Rattle.std.proofs.Common.{◌≡◌, ℕ, ◌+◌, ◌^◌, ◌<◌, ◌≤◌, Bool, true, false, cond, eqb, List, [], ◌∷◌, ◌++◌, length, take, drop, Ok, Err, Result, sym, refl, ap, ◌∙◌, subst, ap₂, inl, inr, append_assoc, arith, length-append}
use Rattle.std.proofs.ByRecursion.{All-take, All-drop}
use Rattle.std.proofs.lemmas.List.{take-append-drop, length-take-le, length-drop}
use Rattle.std.proofs.lemmas.Bool.{ltb-false, eqb-true, cases_Bool, and_parts, cond-true, cond-false}
use Rattle.std.proofs.lemmas.Bool.Decides.{nat_tests}
use Rattle.stream.specs.Bytes.{le, le_bytes, field}
use Rattle.stream.specs.Rule.{State, Meta, Data, from_rule, to_rule, size_rule, late_rule}
use Rattle.stream.specs.Steps.{Pos, every_printable, name_by, name_length_of, size_by, size_of, range_by, data_range_of, payload_range_of, record_of, step_of}
use Rattle.stream.specs.Records.{Content, from_name, to_name, image_size, data_at, zeros_at, record_bytes, header}
use Rattle.stream.specs.Verdict.{record_before, same}
use Rattle.stream.specs.Wellformed.{GoodName, GoodRange, Good, rule_of, Bytes}
use Rattle.stream.specs.declared.records.Record.{Record}
use Rattle.fault.specs.Fault.{and_then}
use Rattle.fault.specs.declared.fault.Fault.{Fault}
use Rattle.fault.specs.declared.cause.Cause.{Cause}
use Rattle.stream.proofs.WrittenRecords.{begins}

-- an accepted test, and an accepted first part
pub passes : {A E : Type 0} (b : Bool) (e : E) (y : Result A E) (x : A) → cond b (Err e) y ≡ Ok x → (b ≡ false) × (y ≡ Ok x)
passes true e y x h = absurd cc
passes false e y x h = (refl, h)

pub passes_last : {A E : Type 0} (b : Bool) (e : E) (y x : A) → cond b (Ok y) (Err e) ≡ Ok x → (b ≡ true) × (y ≡ x)
passes_last true e y x h = (refl, cc)
passes_last false e y x h = absurd cc

pub then_back : {A B E : Type 0} (r : Result A E) (g : A → Result B E) (y : B) → and_then r g ≡ Ok y → (x : A) × (r ≡ Ok x) × (g x ≡ Ok y)
then_back (Ok x) g y h = (x, refl, h)
then_back (Err e) g y h = absurd cc

pub at_true : {A : Type 0} (b : Bool) (x y z : A) → b ≡ true → cond b x y ≡ z → x ≡ z
at_true b x y z e h = sym (cond-true b x y e) ∙ h

pub at_false : {A : Type 0} (b : Bool) (x y z : A) → b ≡ false → cond b x y ≡ z → y ≡ z
at_false b x y z e h = sym (cond-false b x y e) ∙ h

pub ok_same : {A E : Type 0} (x y : A) → ◌≡◌ {A = Result A E} (Ok x) (Ok y) → x ≡ y
ok_same x y h = cc

pub name_back : (rest : List ℕ) (n m : ℕ) → name_by rest n ≡ Ok m
    → (5 + n ≤ length rest) × (1 ≤ n) × (n ≤ 64) × (every_printable (field rest 5 n) ≡ true) × (n ≡ m)
name_back rest n m h =
    (grind (arith, nat_tests), grind (arith, nat_tests), grind (arith, nat_tests), grind (arith, nat_tests), grind (arith, nat_tests))

size_back : (rest : List ℕ) (n m : ℕ) → size_by rest n ≡ Ok m → (9 ≤ length rest) × (n ≤ 2 ^ 40) × (n ≡ m)
size_back rest n m h = (grind (arith, nat_tests), grind (arith, nat_tests), grind (arith, nat_tests))

pub range_back : (p : Pos) (rest : List ℕ) (o n : ℕ) (q : ℕ × ℕ) → range_by p rest o n ≡ Ok q → (17 ≤ length rest) × GoodRange p o n × (q ≡ (o, n))
range_back p rest o n q h =
    let good : GoodRange p o n = (grind (arith, nat_tests), grind (arith, nat_tests), grind (arith, nat_tests), grind (arith, nat_tests)) in
    (grind (arith, nat_tests), good, grind (arith, nat_tests))

-- bytes are written as they were read
le_bytes_le : (bs : List ℕ) → Bytes bs → le_bytes (length bs) (le bs) ≡ bs
le_bytes_le [] h = refl
le_bytes_le (b ∷ bs) h =
    ap₂ ◌∷◌ (let l = h.0 in omega arith) (ap (le_bytes (length bs)) (let l = h.0 in omega arith) ∙ le_bytes_le bs h.1)

field_back : (n : ℕ) (bs : List ℕ) → Bytes bs → n ≤ length bs → bs ≡ le_bytes n (le (take n bs)) ++ drop n bs
field_back n bs h l =
    let e = le_bytes_le (take n bs) (All-take (λ b. b < 256) n bs h) in
    let f : le_bytes n (le (take n bs)) ≡ take n bs = ap (λ m. le_bytes m (le (take n bs))) (sym (length-take-le n bs l)) ∙ e in
    sym (take-append-drop n bs) ∙ ap (λ t. t ++ drop n bs) (sym f)

-- a length of w bytes, and that many bytes after it
payload_back : (w : ℕ) (bs : List ℕ) → Bytes bs → w + le (take w bs) ≤ length bs
    → (length (take (le (take w bs)) (drop w bs)) ≡ le (take w bs))
    × (bs ≡ le_bytes w (length (take (le (take w bs)) (drop w bs))) ++ (take (le (take w bs)) (drop w bs) ++ drop (le (take w bs)) (drop w bs)))
payload_back w bs h l =
    let n = le (take w bs) in
    let d = length-drop w bs in
    let e = length-take-le n (drop w bs) (omega arith) in
    (e, field_back w bs h (omega arith) ∙ ap₂ (λ a t. le_bytes w a ++ t) (sym e) (sym (take-append-drop n (drop w bs))))

-- what begins the list, where a record was read
pub data View (p : Pos) (rest : List ℕ) : Type 0 where
  a_part : (c : Content) (s : State) (more : List ℕ) → rest ≡ record_bytes c ++ more → rule_of c p.state ≡ Ok s → Good p c → View p rest
  an_end : (s : State) (more : List ℕ) → rest ≡ 101 ∷ more → late_rule p.state ≡ Ok s → View p rest

name_view : (t : ℕ) (bs : List ℕ) (m : ℕ) → Bytes bs → name_length_of (t ∷ bs) ≡ Ok m
    → (name : List ℕ) × (more : List ℕ) × (bs ≡ (le_bytes 4 (length name) ++ name) ++ more) × GoodName name
name_view t bs m h e =
    let a = name_back (t ∷ bs) (le (take 4 bs)) m e in
    let n = le (take 4 bs) in
    let l = a.0 in
    let b = payload_back 4 bs h (omega arith) in
    let f = b.0 in (
      take n (drop 4 bs),
      drop n (drop 4 bs),
      b.1 ∙ sym (append_assoc (le_bytes 4 (length (take n (drop 4 bs)))) (take n (drop 4 bs)) (drop n (drop 4 bs))),
      (let g = a.1 in omega arith, let g = a.2 in omega arith, a.3),
    )

range_view : (p : Pos) (t : ℕ) (bs : List ℕ) (q : ℕ × ℕ) → Bytes bs → data_range_of p (t ∷ bs) ≡ Ok q
    → (bs ≡ (le_bytes 8 (le (take 8 bs)) ++ le_bytes 8 (le (take 8 (drop 8 bs)))) ++ drop 8 (drop 8 bs)) × GoodRange p (le (take 8 bs)) (le (take 8 (drop 8 bs)))
range_view p t bs q h e =
    let o = le (take 8 bs) in
    let n = le (take 8 (drop 8 bs)) in
    let a = range_back p (t ∷ bs) o n q e in
    let l = a.0 in
    let d = length-drop 8 bs in (
      field_back 8 bs h (omega arith) ∙ ap (λ x. le_bytes 8 o ++ x) (field_back 8 (drop 8 bs) (All-drop (λ b. b < 256) 8 bs h) (omega arith))
          ∙ sym (append_assoc (le_bytes 8 o) (le_bytes 8 n) (drop 8 (drop 8 bs))),
      a.1,
    )

data_view : (p : Pos) (t : ℕ) (bs : List ℕ) (q : ℕ × ℕ) → Bytes bs → payload_range_of p (t ∷ bs) ≡ Ok q
    → (bytes : List ℕ) × (more : List ℕ) × (bs ≡ (le_bytes 8 (le (take 8 bs)) ++ (le_bytes 8 (length bytes) ++ bytes)) ++ more) × GoodRange p (le (take 8 bs)) (length bytes)
data_view p t bs q h e =
    let o = le (take 8 bs) in
    let cs = drop 8 bs in
    let n = le (take 8 cs) in
    let u = then_back _ _ q e in
    let a = range_back p (t ∷ bs) o n u.0 u.1 in
    let l = ltb-false (length (t ∷ bs)) (17 + u.0.1) (passes _ _ _ q u.2).0 in
    let y : u.0.1 ≡ n = ap (λ x. x.1) a.2 in
    let d = length-drop 8 bs in
    let b = payload_back 8 cs (All-drop (λ b. b < 256) 8 bs h) (omega arith) in
    let bytes = take n (drop 8 cs) in
    let more = drop n (drop 8 cs) in (
      bytes,
      more,
      field_back 8 bs h (let k = a.0 in omega arith) ∙ ap (λ x. le_bytes 8 o ++ x) (b.1 ∙ sym (append_assoc (le_bytes 8 (length bytes)) bytes more))
          ∙ sym (append_assoc (le_bytes 8 o) (le_bytes 8 (length bytes) ++ bytes) more),
      subst (GoodRange p o) (sym b.0) a.1,
    )

-- one test of a tag, and a record that the rule of its tag let pass
tag_view : {C : Type 0} (t u : ℕ) (a b o : Result (Record × Pos) Cause) → (t ≡ u → a ≡ o → C) → (b ≡ o → C) → cond (eqb t u) a b ≡ o → C
tag_view t u a b o f g h =
    elim (cases_Bool (eqb t u)) [
      | inl y ↦ f (eqb-true t u y) (at_true (eqb t u) a b o y h)
      | inr y ↦ g (at_false (eqb t u) a b o y h)
    ]

ruled : {A : Type 0} (u : Result State Cause) (r : Result A Cause) (f : State → A → Record × Pos) (x : Record × Pos) → and_then u (λ s. and_then r (λ y. Ok (f s y))) ≡ Ok x
    → (s : State) × (u ≡ Ok s) × (y : A) × (r ≡ Ok y)
ruled u r f x h =
    let a = then_back u _ x h in
    let b = then_back r _ x a.2 in
    (a.0, a.1, b.0, b.1)

view_tag : (p : Pos) (t : ℕ) (bs : List ℕ) (x : Record × Pos) → Bytes bs → record_of p (t ∷ bs) t ≡ Ok x → View p (t ∷ bs)
view_tag p t bs x h =
    tag_view t 102 _ _ (Ok x)
    (λ y e.
    let a = ruled (from_rule p.state) (name_length_of (t ∷ bs)) _ x e in
    let n = name_view t bs a.2 h a.3 in
    a_part (from_name n.0) a.0 n.1 (ap₂ ◌∷◌ y n.2) a.1 n.3)
    (tag_view t 116 _ _ (Ok x)
    (λ y e.
    let a = ruled (to_rule p.state) (name_length_of (t ∷ bs)) _ x e in
    let n = name_view t bs a.2 h a.3 in
    a_part (to_name n.0) a.0 n.1 (ap₂ ◌∷◌ y n.2) a.1 n.3)
    (tag_view t 115 _ _ (Ok x)
    (λ y e.
    let a = ruled (size_rule p.state) (size_of (t ∷ bs)) _ x e in
    let n = size_back (t ∷ bs) (le (take 8 bs)) a.2 a.3 in
    a_part (image_size (le (take 8 bs))) a.0 (drop 8 bs) (ap₂ ◌∷◌ y (field_back 8 bs h (let l = n.0 in omega arith))) a.1 n.1)
    (tag_view t 119 _ _ (Ok x)
    (λ y e.
    let a = ruled (late_rule p.state) (payload_range_of p (t ∷ bs)) _ x e in
    let n = data_view p t bs a.2 h a.3 in
    a_part (data_at (le (take 8 bs)) n.0) a.0 n.1 (ap₂ ◌∷◌ y n.2) a.1 n.3)
    (tag_view t 122 _ _ (Ok x)
    (λ y e.
    let a = ruled (late_rule p.state) (data_range_of p (t ∷ bs)) _ x e in
    let n = range_view p t bs a.2 h a.3 in
    a_part (zeros_at (le (take 8 bs)) (le (take 8 (drop 8 bs)))) a.0 (drop 8 (drop 8 bs)) (ap₂ ◌∷◌ y n.0) a.1 n.1)
    (tag_view t 101 _ _ (Ok x)
    (λ y e. let a = then_back _ _ x e in an_end a.0 bs (ap (λ u. u ∷ bs) y) a.1)
    (λ e. absurd cc))))))

pub view : (p : Pos) (rest : List ℕ) (x : Record × Pos) → Bytes rest → step_of p rest ≡ Ok x → View p rest
view p [] x h e = absurd cc
view p (t ∷ bs) x h e = view_tag p t bs x h.1 (sym (begins p t bs) ∙ e)

pub before_back : (c : Content) (o : Result (List Content) Fault) (cs : List Content) → record_before c o ≡ Ok cs → (ds : List Content) × (o ≡ Ok ds) × (c ∷ ds ≡ cs)
before_back c (Ok ds) cs h = (ds, refl, cc)
before_back c (Err f) cs h = absurd cc

-- data may come only once the to name and the size were read
pub late_data : (st s : State) → late_rule st ≡ Ok s → late_rule st ≡ Ok Data
late_data (Meta seen) s h = grind (arith, nat_tests)
late_data Data s h = refl

pub same_back : (xs ys : List ℕ) → same xs ys ≡ true → xs ≡ ys
same_back [] [] h = refl
same_back (x ∷ xs) (y ∷ ys) h =
    let a = and_parts (eqb x y) (same xs ys) h in
    ap₂ ◌∷◌ (eqb-true x y a.0) (same_back xs ys a.1)
same_back xs ys h = absurd cc

-- a stream with the header, by what follows it
pub headed : (xs : List ℕ) → same (take 12 xs) header ≡ true → (xs ≡ header ++ drop 12 xs) × (length xs ≡ 12 + length (drop 12 xs))
headed xs h =
    let e = sym (take-append-drop 12 xs) ∙ ap (λ t. t ++ drop 12 xs) (same_back (take 12 xs) header h) in
    (e, ap length e ∙ length-append header (drop 12 xs))
