-- Which lists of records are well formed, record by record, and what ties them to reading, accepted
-- and refused. Rests on the records, on the states and their rules, on steps and what refuses them,
-- on reading and on faults.
use Rattle.std.specs.Prelude.{◌≡◌, ℕ, ◌+◌, ◌<◌, ◌≤◌, true, ◌⊎◌, List, [], ◌∷◌, ◌++◌, length, take, Ok, Err, Result, ◌≢◌}
use Rattle.std.specs.List.{AllByRecursion}
use Rattle.stream.specs.declared.limits.TheConstants.{LARGEST_SIZE, LONGEST_NAME, MOST_RECORDS, NAME_HEAD, RANGE_HEAD, SIZE_HEAD}
use Rattle.stream.specs.Rule.{State, Data, from_rule, to_rule, size_rule, late_rule}
use Rattle.stream.specs.Steps.{Pos, every_printable, fault_at}
use Rattle.stream.specs.Refusals.{IsComplete, Refuses}
use Rattle.stream.specs.Records.{Content, from_name, to_name, image_size, data_at, zeros_at, records_bytes, stream_bytes, header}
use Rattle.stream.specs.Verdict.{start, verdict}
use Rattle.fault.specs.Fault.{fault}
use Rattle.fault.specs.declared.cause.Cause.{Cause}
use Rattle.fault.specs.declared.cause.Cause.TheVariants as causes
use Rattle.fault.specs.declared.fault.Fault.{Fault}

-- a name has 1 to 64 bytes, each of them printable
abbrev pub GoodName : List ℕ → Type 0
GoodName name = (1 ≤ length name) × (length name ≤ LONGEST_NAME) × (every_printable name ≡ true)

-- a range of n bytes lies in the image, after the data records before it, and is one of at most 512
abbrev pub GoodRange : Pos → ℕ → ℕ → Type 0
GoodRange p offset n = (p.count < MOST_RECORDS) × (1 ≤ n) × (offset + n ≤ p.size) × (p.end ≤ offset)

abbrev pub Good : Pos → Content → Type 0
Good p (from_name name) = GoodName name
Good p (to_name name) = GoodName name
Good p (image_size n) = n ≤ LARGEST_SIZE
Good p (data_at offset bytes) = GoodRange p offset (length bytes)
Good p (zeros_at offset n) = GoodRange p offset n

-- what a record does to the state
abbrev pub rule_of : Content → State → Result State Cause
rule_of (from_name name) s = from_rule s
rule_of (to_name name) s = to_rule s
rule_of (image_size n) s = size_rule s
rule_of c s = late_rule s

-- where a reader stands after a record, in the state that follows
abbrev pub pos_past : Pos → Content → State → Pos
pos_past p (from_name name) s = record p { place = p.place + NAME_HEAD + length name; state = s }
pos_past p (to_name name) s = record p { place = p.place + NAME_HEAD + length name; state = s }
pos_past p (image_size n) s = record p { place = p.place + SIZE_HEAD; state = s; size = n }
pos_past p (data_at offset bytes) s = record p { place = p.place + RANGE_HEAD + length bytes; state = s; end = offset + length bytes; count = p.count + 1 }
pos_past p (zeros_at offset n) s = record p { place = p.place + RANGE_HEAD; state = s; end = offset + n; count = p.count + 1 }

-- each record is good after those before it, and the metadata is whole at the end
abbrev pub WellFormed : Pos → List Content → Type 0
WellFormed p [] = late_rule p.state ≡ Ok Data
WellFormed p (c ∷ cs) = (s : State) × (rule_of c p.state ≡ Ok s) × Good p c × WellFormed (pos_past p c s) cs

-- each is a byte
abbrev pub Bytes : List ℕ → Type 0
Bytes xs = AllByRecursion (λ b. b < 256) xs

-- reading the stream of a well-formed list gives the list
abbrev pub ReadsBack : Type 0
ReadsBack = (cs : List Content) → WellFormed start cs → verdict (stream_bytes cs) ≡ Ok cs

-- a stream that is accepted is the stream of its records, and they are well formed
abbrev pub AcceptedIsStream : Type 0
AcceptedIsStream = (xs : List ℕ) (cs : List Content) → Bytes xs → verdict xs ≡ Ok cs → (xs ≡ stream_bytes cs) × WellFormed start cs

-- good records lead from one position to another
abbrev pub Leads : Pos → List Content → Pos → Type 0
Leads p [] q = p ≡ q
Leads p (c ∷ cs) q = (s : State) × (rule_of c p.state ≡ Ok s) × Good p c × Leads (pos_past p c s) cs q

-- what is wrong after the good records: what refuses the next record, or bytes after e
abbrev pub Wrong : ℕ → Pos → List ℕ → Fault → Type 0
Wrong total q rest f =
    ((c : Cause) × Refuses q rest c × (f ≡ fault_at total q.place c))
    ⊎ ((more : List ℕ) × (rest ≡ 101 ∷ more) × (1 ≤ length more) × IsComplete q.state × (f ≡ fault causes.Trailing (q.place + 1)))

-- the encodings of good records, and then what is wrong
abbrev pub Stops : ℕ → Pos → List ℕ → Fault → Type 0
Stops total p rest f =
    (cs : List Content) × (q : Pos) × (more : List ℕ) × (rest ≡ records_bytes cs ++ more) × Leads p cs q × Wrong total q more f

-- no header, or a header, good records, and then what is wrong
abbrev pub Refusal : List ℕ → Fault → Type 0
Refusal xs f =
    ((take 12 xs ≢ header) × (f ≡ fault causes.Header 0))
    ⊎ ((rest : List ℕ) × (xs ≡ header ++ rest) × Stops (length xs) start rest f)

-- a stream is refused with a fault exactly if that is the first thing wrong with it
abbrev pub RefusedExactly : Type 0
RefusedExactly = (xs : List ℕ) (f : Fault) → Bytes xs → (verdict xs ≡ Err f → Refusal xs f) × (Refusal xs f → verdict xs ≡ Err f)
