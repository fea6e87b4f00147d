-- What was gathered of a stream, with the bytes at their places, tells what its records say.
use Rattle.std.proofs.Common.{◌≡◌, ℕ, ◌+◌, List, [], ◌∷◌, ◌++◌, map, length, take, drop, sym, refl, ap, ap₂, ◌∙◌, append_assoc, arith, length-append}
use Rattle.std.proofs.lemmas.List.{drop-drop, drop_at, take_at, append-nil}
use Rattle.stream.specs.Bytes.{le_bytes, field}
use Rattle.overlay.specs.declared.runs.Run.{Run}
use Rattle.overlay.specs.declared.payloads.PayloadMark.{PayloadMark}
use Rattle.overlay.specs.declared.payloads.Side.{Side}
use Rattle.stream.specs.Records.{Content, from_name, to_name, image_size, data_at, zeros_at, record_bytes, records_bytes, stream_bytes, header, data_of, from_of, to_of, size_in}
use Rattle.stream.specs.Gathered.{Gathered, with_records, nothing_gathered, zero_run, payload_run}
use Rattle.stream.specs.Places.{run_record, span_bytes, PlacesMatch}

-- a field behind a first part
pub field_behind : (xs pre rest : List ℕ) (place i n : ℕ) → xs ≡ pre ++ rest → place ≡ length pre → field xs (place + i) n ≡ field rest i n
field_behind xs pre rest place i n e l =
    ap (take n) (sym (drop-drop i place xs) ∙ ap (drop i) (ap (drop place) e ∙ drop_at pre rest place (sym l)))

-- the runs of records from a place on
abbrev pub runs_of : Side → ℕ → List Content → List (Run PayloadMark)
runs_of side place [] = []
runs_of side place (data_at o bytes ∷ cs) = payload_run side o (length bytes) (place + 17) ∷ runs_of side (place + length (record_bytes (data_at o bytes))) cs
runs_of side place (zeros_at o n ∷ cs) = zero_run o n ∷ runs_of side (place + length (record_bytes (zeros_at o n))) cs
runs_of side place (c ∷ cs) = runs_of side (place + length (record_bytes c)) cs

-- these are what is gathered
pub gathered_runs : (side : Side) (cs : List Content) (g : Gathered) (place : ℕ) → (with_records side g place cs).runs ≡ g.runs ++ runs_of side place cs
gathered_runs side [] g place = sym (append-nil g.runs)
gathered_runs side (data_at o bytes ∷ cs) g place = gathered_runs side cs _ _ ∙ append_assoc g.runs (payload_run side o (length bytes) (place + 17) ∷ []) _
gathered_runs side (zeros_at o n ∷ cs) g place = gathered_runs side cs _ _ ∙ append_assoc g.runs (zero_run o n ∷ []) _
gathered_runs side (c ∷ cs) g place = gathered_runs side cs _ _

-- the records from a place on, with what was gathered before
module _ (side : Side) (xs tail : List ℕ) where
  pub here : (pre : List ℕ) (c : Content) (cs : List Content) → xs ≡ pre ++ (records_bytes (c ∷ cs) ++ tail) → xs ≡ pre ++ (record_bytes c ++ (records_bytes cs ++ tail))
  here pre c cs e = e ∙ ap (λ t. pre ++ t) (append_assoc (record_bytes c) (records_bytes cs) tail)

  pub next : (pre : List ℕ) (c : Content) (cs : List Content) → xs ≡ pre ++ (records_bytes (c ∷ cs) ++ tail) → xs ≡ (pre ++ record_bytes c) ++ (records_bytes cs ++ tail)
  next pre c cs e = here pre c cs e ∙ sym (append_assoc pre (record_bytes c) (records_bytes cs ++ tail))

  pub on : (pre : List ℕ) (c : Content) (place : ℕ) → place ≡ length pre → place + length (record_bytes c) ≡ length (pre ++ record_bytes c)
  on pre c place l = omega (arith, length-append pre (record_bytes c))

  name_here : (pre : List ℕ) (t : ℕ) (name more : List ℕ) (place : ℕ) → xs ≡ pre ++ (t ∷ ((le_bytes 4 (length name) ++ name) ++ more)) → place ≡ length pre
      → field xs (place + 5) (length name) ≡ name
  name_here pre t name more place e l = field_behind xs pre _ place 5 (length name) e l ∙ take_at name more (length name) refl

  runs_told : (cs : List Content) (pre : List ℕ) (place : ℕ) → xs ≡ pre ++ (records_bytes cs ++ tail) → place ≡ length pre → map (run_record xs) (runs_of side place cs) ≡ data_of cs
  runs_told [] pre place e l = refl
  runs_told (data_at o bytes ∷ cs) pre place e l =
      let c = data_at o bytes in
      let f = field_behind xs pre _ place 17 (length bytes) (here pre c cs e) l ∙ take_at bytes (records_bytes cs ++ tail) (length bytes) refl in
      ap₂ (λ t ds. data_at o t ∷ ds) f (runs_told cs (pre ++ record_bytes c) _ (next pre c cs e) (on pre c place l))
  runs_told (zeros_at o n ∷ cs) pre place e l =
      let c = zeros_at o n in ap (λ ds. c ∷ ds) (runs_told cs (pre ++ record_bytes c) _ (next pre c cs e) (on pre c place l))
  runs_told (c ∷ cs) pre place e l = runs_told cs (pre ++ record_bytes c) _ (next pre c cs e) (on pre c place l)

  names_told : (cs : List Content) (pre : List ℕ) (place : ℕ) (g : Gathered) (from to : List ℕ) → xs ≡ pre ++ (records_bytes cs ++ tail) → place ≡ length pre
      → span_bytes xs g.from ≡ from → span_bytes xs g.to ≡ to
      → (span_bytes xs (with_records side g place cs).from ≡ from_of from cs) × (span_bytes xs (with_records side g place cs).to ≡ to_of to cs)
  names_told [] pre place g from to e l f t = (f, t)
  names_told (from_name n ∷ cs) pre place g from to e l f t =
      let c = from_name n in
      names_told cs (pre ++ record_bytes c) _ _ n to (next pre c cs e) (on pre c place l) (name_here pre 102 n (records_bytes cs ++ tail) place (here pre c cs e) l) t
  names_told (to_name n ∷ cs) pre place g from to e l f t =
      let c = to_name n in
      names_told cs (pre ++ record_bytes c) _ _ from n (next pre c cs e) (on pre c place l) f (name_here pre 116 n (records_bytes cs ++ tail) place (here pre c cs e) l)
  names_told (c ∷ cs) pre place g from to e l f t = names_told cs (pre ++ record_bytes c) _ _ from to (next pre c cs e) (on pre c place l) f t

pub size_told : (side : Side) (cs : List Content) (place : ℕ) (g : Gathered) → (with_records side g place cs).size ≡ size_in g.size cs
size_told side [] place g = refl
size_told side (image_size n ∷ cs) place g = size_told side cs _ _
size_told side (c ∷ cs) place g = size_told side cs _ _

pub places_match : PlacesMatch
places_match side cs =
    let xs = stream_bytes cs in
    let tail : List ℕ = 101 ∷ [] in
    let names = names_told side xs tail cs header 12 nothing_gathered [] [] refl refl refl refl in
    record {
      runs = ap (map (run_record xs)) (gathered_runs side cs nothing_gathered 12) ∙ runs_told side xs tail cs header 12 refl refl;
      from = names.0;
      to = names.1;
      size = size_told side cs 12 nothing_gathered;
    }
