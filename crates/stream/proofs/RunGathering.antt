-- What the code adds for a record is what the record says, and there is room for its run.
use Rattle.std.proofs.Common.{◌≡◌, ℕ, ◌+◌, ◌≤◌, List, [], ◌∷◌, ◌<◌, ◌++◌, length, take, drop, Ok, Err, Result, sym, refl, ap, ◌∙◌, ap₂, arith}
use Rattle.std.proofs.lemmas.List.{length-take-le, take_more_set, length-drop, length-append}
use Rattle.std.specs.Prelude.{slice_set}
use Rattle.overlay.specs.declared.runs.Run.{Run}
use Rattle.overlay.specs.declared.payloads.PayloadMark.{PayloadMark}
use Rattle.overlay.specs.declared.payloads.Side.{Side}
use Rattle.stream.specs.Bytes.{field}
use Rattle.stream.specs.Rule.{State}
use Rattle.stream.specs.Steps.{Pos}
use Rattle.stream.specs.Records.{Content, from_name, data_at, zeros_at, record_bytes}
use Rattle.stream.specs.Verdict.{record_before}
use Rattle.stream.specs.Wellformed.{Good, pos_past}
use Rattle.stream.specs.Gathered.{Gathered, zero_run, payload_run, with_record, with_found, gathered_from, RunFits}
use Rattle.stream.specs.declared.records.Record.{Record}
use Rattle.fault.specs.declared.fault.Fault.{Fault}
use Rattle.stream.proofs.WrittenRecords.{lies}

-- a record in front is added first
added_first : (side : Side) (g : Gathered) (place : ℕ) (c : Content) (o : Result (List Content) Fault)
    → gathered_from side g place (record_before c o) ≡ gathered_from side (with_record side g place c) (place + length (record_bytes c)) o
added_first side g place c (Ok cs) = refl
added_first side g place c (Err f) = refl

-- a field that is there has its length
pub field_length : (rest : List ℕ) (i n : ℕ) → i + n ≤ length rest → length (field rest i n) ≡ n
field_length rest i n h = let d = length-drop i rest in length-take-le n (drop i rest) (omega arith)

-- what the code adds for a record as it lies is what the record says
found_is : (side : Side) (g : Gathered) (p : Pos) (c : Content) → with_record side g p.place c ≡ with_found side g (lies p c)
found_is side g p (from_name name) = refl
found_is side g p c = refl

pub found_added : (side : Side) (p q : Pos) (c : Content) (r : Record) (g : Gathered) (o : Result (List Content) Fault)
    → r ≡ lies p c → q.place ≡ p.place + length (record_bytes c)
    → gathered_from side g p.place (record_before c o) ≡ gathered_from side (with_found side g r) q.place o
found_added side p q c r g o e m =
    added_first side g p.place c o
    ∙ ap₂ (λ x y. gathered_from side x y o) (found_is side g p c ∙ ap (with_found side g) (sym e)) (sym m)

-- there are as many runs as the reader counts data records, and there is room
pub counted : (side : Side) (p : Pos) (s : State) (c : Content) (g : Gathered) → length g.runs ≡ p.count
    → length (with_found side g (lies p c)).runs ≡ (pos_past p c s).count
counted side p s (data_at o bytes) g e = omega (arith, length-append g.runs (payload_run side o (length bytes) (p.place + 17) ∷ []))
counted side p s (zeros_at o n) g e = omega (arith, length-append g.runs (zero_run o n ∷ []))
counted side p s c g e = e

pub has_room : (p : Pos) (n : ℕ) (c : Content) → Good p c → n ≡ p.count → RunFits n (lies p c)
has_room p n (data_at o bytes) g e = omega arith
has_room p n (zeros_at o m) g e = omega arith
has_room p n c g e = tt

-- the runs of a buffer are as many as it counts, and one more stands after them
module _ (runs : List (Run PayloadMark)) (k : ℕ) (all : length runs ≡ 512) where
  pub length_runs : k ≤ 512 → length (take k runs) ≡ k
  length_runs few = length-take-le k runs (omega arith)

  pub runs_push : (run : Run PayloadMark) → k < 512 → take (k + 1) (slice_set runs k run) ≡ take k runs ++ run ∷ []
  runs_push run more = take_more_set runs k run (omega arith)
