-- What was gathered of a stream stands for its records.
use Rattle.std.proofs.Common.{◌≡◌, ℕ, ◌+◌, ◌^◌, ◌<◌, ◌≤◌, List, [], ◌∷◌, ◌++◌, length, Ok, Err, Option, Result, Fits, w8, slice_index_or, sym, refl, ap, ap₂, ◌∙◌, subst, arith, length-append}
use Rattle.std.proofs.ByRecursion.{All-from_get_or}
use Rattle.overlay.specs.declared.runs.Run.{Run}
use Rattle.overlay.specs.declared.payloads.PayloadMark.{PayloadMark}
use Rattle.overlay.specs.declared.payloads.Side.{Side}
use Rattle.overlay.specs.declared.payloads.Side.TheVariants.{Earlier, Later}
use Rattle.overlay.specs.Payloads.{stream_of}
use Rattle.fault.specs.Fault.{and_then}
use Rattle.fault.specs.declared.fault.Fault.{Fault}
use Rattle.stream.specs.Records.{Content, from_name, to_name, record_bytes, records_bytes, stream_bytes, header}
use Rattle.stream.specs.Steps.{Pos}
use Rattle.stream.specs.Verdict.{start, verdict}
use Rattle.stream.specs.Wellformed.{Bytes, WellFormed}
use Rattle.stream.specs.Gathered.{Gathered, with_records, gathered_from, nothing_gathered}
use Rattle.stream.specs.Places.{Tells, span_bytes, NameSpan}
use Rattle.stream.specs.Parts.{StandsFor, parts_cells}
use Rattle.stream.specs.Reads.{ReadOn}
use Rattle.stream.specs.Difference.{Difference, difference, meaning}
use Rattle.stream.specs.Meaning.{Cell}
use Rattle.stream.specs.declared.limits.TheConstants.{LONGEST_NAME}
use Rattle.stream.specs.declared.records.Span.{Span}
use Rattle.stream.proofs.RunGathering.{field_length}
use Rattle.stream.proofs.ReadRecords.{ok_same}
use Rattle.stream.proofs.StreamRefusals.{accepted_is_stream}
use Rattle.stream.proofs.StreamMeaning.{stands_for}
use Rattle.stream.proofs.SoundLists.{never, sound_exactly}
use Rattle.stream.proofs.PlacedRecords.{places_match, here, next, on}

module _ (side : Side) (xs tail : List ℕ) where
  -- a name lies in the stream
  name_in : (pre : List ℕ) (c : Content) (cs : List Content) (place n : ℕ) → xs ≡ pre ++ (records_bytes (c ∷ cs) ++ tail) → place ≡ length pre → 5 + n ≤ length (record_bytes c) → n ≤ 64
      → NameSpan xs (record { place = place + 5; length = n })
  name_in pre c cs place n e l h s =
      let g = ap length (here side xs tail pre c cs e) ∙ length-append pre (record_bytes c ++ (records_bytes cs ++ tail)) in
      let i = length-append (record_bytes c) (records_bytes cs ++ tail) in
      record { inside = omega arith; short = s }

  spans_in : (cs : List Content) (pre : List ℕ) (place : ℕ) (g : Gathered) (p : Pos) → xs ≡ pre ++ (records_bytes cs ++ tail) → place ≡ length pre → WellFormed p cs
      → NameSpan xs g.from → NameSpan xs g.to → NameSpan xs (with_records side g place cs).from × NameSpan xs (with_records side g place cs).to
  spans_in [] pre place g p e l w f t = (f, t)
  spans_in (from_name n ∷ cs) pre place g p e l w f t =
      let c = from_name n in
      spans_in cs (pre ++ record_bytes c) _ _ _ (next side xs tail pre c cs e) (on side xs tail pre c place l) w.3 (name_in pre c cs place (length n) e l (omega arith) w.2.1) t
  spans_in (to_name n ∷ cs) pre place g p e l w f t =
      let c = to_name n in
      spans_in cs (pre ++ record_bytes c) _ _ _ (next side xs tail pre c cs e) (on side xs tail pre c place l) w.3 f (name_in pre c cs place (length n) e l (omega arith) w.2.1)
  spans_in (c ∷ cs) pre place g p e l w f t = spans_in cs (pre ++ record_bytes c) _ _ _ (next side xs tail pre c cs e) (on side xs tail pre c place l) w.3 f t

gathered_ok : (side : Side) (o : Result (List Content) Fault) (g : Gathered) → gathered_from side nothing_gathered 12 o ≡ Ok g → (cs : List Content) × (o ≡ Ok cs) × (with_records side nothing_gathered 12 cs ≡ g)
gathered_ok side (Ok cs) g h = (cs, refl, ok_same (with_records side nothing_gathered 12 cs) g h)
gathered_ok side (Err f) g h = never g f h

-- the bytes of a name are as many as its part is long
name_short : (xs : List ℕ) (s : Span) → NameSpan xs s → length (span_bytes xs s) ≤ LONGEST_NAME
name_short xs s h = let l = field_length xs s.place s.length h.inside in let short = h.short in omega arith

-- what was gathered of a stream that is read is what reading promises, its names inside the bytes
pub record Standing (side : Side) (xs : List ℕ) (g : Gathered) : Type 0 where
  pub read : ReadOn side xs (span_bytes xs g.from) (span_bytes xs g.to) g.size g.runs
  pub from_in : NameSpan xs g.from
  pub to_in : NameSpan xs g.to

pub standing : (side : Side) (xs : List ℕ) (g : Gathered) → ((i : ℕ) → Fits w8 (slice_index_or xs i 0)) → length xs < 2 ^ 64 → Ok g ≡ gathered_from side nothing_gathered 12 (verdict xs) → Standing side xs g
standing side xs g are small e =
    let b : Bytes xs = All-from_get_or (λ v. v < 256) xs 0 (λ i l. let f = are i in omega arith) in
    let v = gathered_ok side (verdict xs) g (sym e) in
    let cs = v.0 in
    let a = accepted_is_stream xs cs b v.1 in
    let snd = (sound_exactly cs).0 a.1 in
    let P : List ℕ → Type 0 = λ ys. Tells cs ys g in
    let Q : Gathered → Type 0 = λ g. Tells cs (stream_bytes cs) g in
    let S : Gathered → Type 0 = λ g. StandsFor side xs cs g.runs g.size in
    let blank : NameSpan xs nothing_gathered.from = record { inside = omega arith; short = omega arith } in
    let sp = spans_in side xs (101 ∷ []) cs header 12 nothing_gathered start a.0 refl a.1 blank blank in
    let F : Gathered → Type 0 = λ g. NameSpan xs g.from × NameSpan xs g.to in
    let names = subst F v.2 sp in
    let tells = subst P (sym a.0) (subst Q v.2 (places_match side cs)) in
    record {
      read = record {
        records = cs;
        was_read = v.1;
        sound = snd;
        whole = a.0;
        from_is = tells.from;
        to_is = tells.to;
        size_is = tells.size;
        runs_are = tells.runs;
        stands = subst S v.2 (stands_for side cs xs snd a.0 small);
        from_short = name_short xs g.from names.0;
        to_short = name_short xs g.to names.1;
      };
      from_in = names.0;
      to_in = names.1;
    }

-- the same, with the names as bytes
pub standing_on : (side : Side) (xs : List ℕ) (g : Gathered) → Standing side xs g → (from to : List ℕ) → from ≡ span_bytes xs g.from → to ≡ span_bytes xs g.to
    → ReadOn side xs from to g.size g.runs
standing_on side xs g t from to f e =
    subst (λ x. ReadOn side xs x to g.size g.runs) (sym f) (subst (λ y. ReadOn side xs (span_bytes xs g.from) y g.size g.runs) (sym e) t.read)

pub stream_both : {X : Type 0} (x : X) (side : Side) → stream_of x x side ≡ x
stream_both x Earlier = refl
stream_both x Later = refl

pub meaning_ok : (xs : List ℕ) (cs : List Content) → verdict xs ≡ Ok cs → meaning xs ≡ Ok (difference cs)
unfolding meaning
meaning_ok xs cs h = ap (λ o. and_then o (λ ds. Ok (difference ds))) h

pub meaning_err : (xs : List ℕ) (f : Fault) → verdict xs ≡ Err f → meaning xs ≡ Err f
unfolding meaning
meaning_err xs f h = ap (λ o. and_then o (λ ds. Ok (difference ds))) h

pub difference_same : (d e : Difference) → d.from ≡ e.from → d.to ≡ e.to → d.cells ≡ e.cells → d ≡ e
difference_same d e f t c =
    let build : List ℕ → List ℕ → List (Option Cell) → Difference = λ x y z. record { from = x; to = y; cells = z } in
    ap₂ (λ x y. build x y d.cells) f t ∙ ap (build e.from e.to) c

-- bytes that were read mean the difference of the names and runs
pub read_meaning : (side : Side) (xs from to : List ℕ) (size : ℕ) (runs : List (Run PayloadMark)) → ReadOn side xs from to size runs
    → meaning xs ≡ Ok (record { from = from; to = to; cells = parts_cells xs xs runs size })
read_meaning side xs from to size runs r =
    let d : Difference = record { from = from; to = to; cells = parts_cells xs xs runs size } in
    meaning_ok xs r.records r.was_read ∙ ap Ok (sym (difference_same d (difference r.records) r.from_is r.to_is (r.stands.means xs xs (stream_both xs side))))
