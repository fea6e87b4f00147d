-- What was written is read: forth from well-formed records and their bytes to the answer of
-- reading.
use Rattle.std.proofs.Common.{◌≡◌, ℕ, zero, suc, ◌+◌, ◌-◌, ◌^◌, ◌<◌, ◌≤◌, true, ltb, List, [], ◌∷◌, ◌++◌, length, drop, Ok, Result, refl, ap, ◌∙◌, ap₂, append_assoc, arith, length-append}
use Rattle.std.proofs.lemmas.List.{take_at, drop_at}
use Rattle.std.proofs.lemmas.Bool.{lt-ltb, le-ltb, cond-true, cond-false}
use Rattle.std.proofs.lemmas.Bool.Decides.{nat_tests}
use Rattle.stream.specs.Bytes.{le, le_bytes, field}
use Rattle.stream.specs.Steps.{Pos, every_printable, name_by, name_length_of, size_by, range_by, payload_range_of, span, record_of, step_of}
use Rattle.stream.specs.Records.{Content, from_name, to_name, image_size, data_at, zeros_at, record_bytes, records_bytes, stream_bytes}
use Rattle.stream.specs.Verdict.{start, reads, reads_after, step_result, record_before}
use Rattle.stream.specs.Wellformed.{GoodName, GoodRange, Good, rule_of, pos_past, WellFormed, ReadsBack}
use Rattle.stream.specs.Rule.{State}
use Rattle.stream.specs.declared.records.Record.{Record}
use Rattle.stream.specs.declared.records.Record.TheVariants.{From, To, Size, Write, Zero}
use Rattle.fault.specs.Fault.{and_then}
use Rattle.fault.specs.declared.fault.Fault.{Fault}

-- a number of four bytes, and of eight, is read as it was written
le_four : (v : ℕ) → v < 2 ^ 32 → le (le_bytes 4 v) ≡ v
le_four v h = omega arith

le_eight : (v : ℕ) → v < 2 ^ 64 → le (le_bytes 8 v) ≡ v
le_eight v h = omega arith

pub then_ok : {A B E : Type 0} (r : Result A E) (x : A) (g : A → Result B E) → r ≡ Ok x → and_then r g ≡ g x
then_ok r x g e = ap (λ t. and_then t g) e

-- the checks pass
name_passes : (rest : List ℕ) (n : ℕ) → 5 + n ≤ length rest → 1 ≤ n → n ≤ 64 → every_printable (field rest 5 n) ≡ true → name_by rest n ≡ Ok n
name_passes rest n a b c d = grind (arith, nat_tests)

size_passes : (rest : List ℕ) (n : ℕ) → 9 ≤ length rest → n ≤ 2 ^ 40 → size_by rest n ≡ Ok n
size_passes rest n a b = grind (arith, nat_tests)

range_passes : (p : Pos) (rest : List ℕ) (o n : ℕ) → 17 ≤ length rest → GoodRange p o n → range_by p rest o n ≡ Ok (o, n)
range_passes p rest o n a g = grind (arith, nat_tests)

-- a record as it lies in the stream
abbrev pub lies : Pos → Content → Record
lies p (from_name name) = From (span (p.place + 5) (length name))
lies p (to_name name) = To (span (p.place + 5) (length name))
lies p (image_size n) = Size n
lies p (data_at offset bytes) = Write offset (length bytes) (p.place + 17)
lies p (zeros_at offset n) = Zero offset n

name_forth : (t : ℕ) (name more : List ℕ) → GoodName name → name_length_of (t ∷ ((le_bytes 4 (length name) ++ name) ++ more)) ≡ Ok (length name)
name_forth t name more g =
    let rest : List ℕ = t ∷ ((le_bytes 4 (length name) ++ name) ++ more) in
    let e : le (field rest 1 4) ≡ length name = le_four (length name) (omega arith) in
    let l : length rest ≡ 5 + (length name + length more) = omega (arith, length-append name more) in
    let f : field rest 5 (length name) ≡ name = take_at name more (length name) refl in
    ap (name_by rest) e ∙ name_passes rest (length name) (omega arith) g.0 g.1 (ap every_printable f ∙ g.2)

-- the first byte is the tag
pub begins : (p : Pos) (t : ℕ) (bs : List ℕ) → step_of p (t ∷ bs) ≡ record_of p (t ∷ bs) t
begins p t bs = cond-true (ltb 0 (length (t ∷ bs))) _ _ (lt-ltb 0 (length (t ∷ bs)) (omega arith))

-- a good record is read as it was written
pub step_forth : (p : Pos) (c : Content) (s : State) (more : List ℕ) → p.size ≤ 2 ^ 40 → rule_of c p.state ≡ Ok s → Good p c
    → step_of p (record_bytes c ++ more) ≡ Ok (lies p c, pos_past p c s)
step_forth p (from_name name) s more z r g = begins p 102 ((le_bytes 4 (length name) ++ name) ++ more) ∙ then_ok _ s _ r ∙ then_ok _ (length name) _ (name_forth 102 name more g)
step_forth p (to_name name) s more z r g = begins p 116 ((le_bytes 4 (length name) ++ name) ++ more) ∙ then_ok _ s _ r ∙ then_ok _ (length name) _ (name_forth 116 name more g)
step_forth p (image_size n) s more z r g =
    let rest : List ℕ = record_bytes (image_size n) ++ more in
    let e : le (field rest 1 8) ≡ n = le_eight n (omega arith) in
    let l : length rest ≡ 9 + length more = omega arith in
    begins p 115 (le_bytes 8 n ++ more) ∙ then_ok _ s _ r ∙ then_ok _ n _ (ap (size_by rest) e ∙ size_passes rest n (omega arith) g)
step_forth p (zeros_at o n) s more z r g =
    let rest : List ℕ = record_bytes (zeros_at o n) ++ more in
    let e : le (field rest 1 8) ≡ o = le_eight o (omega arith) in
    let f : le (field rest 9 8) ≡ n = le_eight n (omega arith) in
    let l : length rest ≡ 17 + length more = omega arith in
    begins p 122 ((le_bytes 8 o ++ le_bytes 8 n) ++ more) ∙ then_ok _ s _ r ∙ then_ok _ (o, n) _ (ap₂ (range_by p rest) e f ∙ range_passes p rest o n (omega arith) g)
step_forth p (data_at o bytes) s more z r g =
    let n = length bytes in
    let rest : List ℕ = record_bytes (data_at o bytes) ++ more in
    let e : le (field rest 1 8) ≡ o = le_eight o (omega arith) in
    let f : le (field rest 9 8) ≡ n = le_eight n (omega arith) in
    let l : length rest ≡ 17 + (n + length more) = omega (arith, length-append bytes more) in
    let h = ap₂ (range_by p rest) e f ∙ range_passes p rest o n (omega arith) g in
    let i : payload_range_of p rest ≡ Ok (o, n) = then_ok _ (o, n) _ h ∙ cond-false (ltb (length rest) (17 + n)) _ _ (le-ltb (length rest) (17 + n) (omega arith)) in
    begins p 119 ((le_bytes 8 o ++ (le_bytes 8 (length bytes) ++ bytes)) ++ more) ∙ then_ok _ s _ r ∙ then_ok _ (o, n) _ i

-- what was read is the record, and what follows begins after it
pub taken_is : (p : Pos) (c : Content) (more : List ℕ) (o : Result (List Content) Fault) (n : ℕ) (q : Pos)
    → step_result o n (record_bytes c ++ more) (lies p c) q ≡ record_before c o
taken_is p (from_name name) more o n q = ap (λ t. record_before (from_name t) o) (take_at name more (length name) refl)
taken_is p (to_name name) more o n q = ap (λ t. record_before (to_name t) o) (take_at name more (length name) refl)
taken_is p (data_at offset bytes) more o n q = ap (λ t. record_before (data_at offset t) o) (take_at bytes more (length bytes) refl)
taken_is p c more o n q = refl

pub place_moved : (p : Pos) (c : Content) (s : State) → (pos_past p c s).place ≡ p.place + length (record_bytes c)
place_moved p (from_name name) s = omega arith
place_moved p c s = omega arith

pub behind : (p : Pos) (c : Content) (s : State) (more : List ℕ) → drop ((pos_past p c s).place - p.place) (record_bytes c ++ more) ≡ more
behind p c s more = drop_at (record_bytes c) more ((pos_past p c s).place - p.place) (let e = place_moved p c s in omega arith)

-- one good record of a reading
pub read_forth : (k total : ℕ) (p : Pos) (c : Content) (s : State) (more : List ℕ) → step_of p (record_bytes c ++ more) ≡ Ok (lies p c, pos_past p c s)
    → reads (suc k) total p (record_bytes c ++ more) ≡ record_before c (reads k total (pos_past p c s) more)
read_forth k total p c s more e =
    ap (reads_after (reads k total) total p.place (record_bytes c ++ more)) e
    ∙ taken_is p c more _ total (pos_past p c s)
    ∙ ap (λ t. record_before c (reads k total (pos_past p c s) t)) (behind p c s more)

pub size_stays : (p : Pos) (c : Content) (s : State) → p.size ≤ 2 ^ 40 → Good p c → (pos_past p c s).size ≤ 2 ^ 40
size_stays p (image_size n) s z g = g
size_stays p c s z g = z

pub length_positive : (c : Content) → 1 ≤ length (record_bytes c)
length_positive (from_name name) = omega arith
length_positive c = omega arith

-- a well-formed list, written and read
pub list_forth : (cs : List Content) (k total : ℕ) (p : Pos) → p.size ≤ 2 ^ 40 → length (records_bytes cs) + 1 ≤ k
    → total ≡ p.place + (length (records_bytes cs) + 1) → WellFormed p cs
    → reads k total p (records_bytes cs ++ (101 ∷ [])) ≡ Ok cs
list_forth [] zero total p z h t w = absurd (omega arith)
list_forth [] (suc k) total p z h t w =
    ap (reads_after (reads k total) total p.place (101 ∷ [])) (begins p 101 [] ∙ then_ok _ _ _ w)
    ∙ cond-false (ltb (p.place + 1) total) _ _ (le-ltb (p.place + 1) total (omega arith))
list_forth (c ∷ cs) zero total p z h t w = absurd (omega arith)
list_forth (c ∷ cs) (suc k) total p z h t w =
    let more = records_bytes cs ++ (101 ∷ []) in
    let s = w.0 in
    let l = length-append (record_bytes c) (records_bytes cs) in
    let o = length_positive c in
    let m = place_moved p c s in
    ap (reads (suc k) total p) (append_assoc (record_bytes c) (records_bytes cs) (101 ∷ []))
    ∙ read_forth k total p c s more (step_forth p c s more z w.1 w.2)
    ∙ ap (record_before c) (list_forth cs k total (pos_past p c s) (size_stays p c s z w.2) (omega arith) (omega arith) w.3)

pub reads_back : ReadsBack
reads_back cs w =
    let l = length-append (records_bytes cs) (101 ∷ []) in
    list_forth cs (suc (length (stream_bytes cs))) (length (stream_bytes cs)) start (omega arith) (omega arith) (omega arith) w
