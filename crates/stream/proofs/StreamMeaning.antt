-- The runs that are gathered of a stream mean the difference of its records.
use Rattle.std.proofs.Common.{◌≡◌, ℕ, ◌+◌, ◌-◌, ◌%◌, ◌^◌, ◌<◌, ◌≤◌, ◌&&◌, ltb, leb, List, [], ◌∷◌, ◌++◌, map, length, get_or, take, drop, Some, None, Option, sym, refl, ap, ◌∙◌, subst, ap₂, inl, inr, append_assoc, mod-eq_of_lt, arith, length-append, get_or-drop, get_or-take}
use mathlib.Core.List.{map-map}
use Rattle.std.specs.List.{range_with_len, AllByRecursion}
use Rattle.std.specs.Option.{option_map}
use Rattle.std.proofs.lemmas.List.{take_at}
use Rattle.std.proofs.lemmas.Bool.{cases_lt, lt-ltb, le-leb, cond-true, and_from}
use Rattle.overlay.specs.declared.runs.Run.{Run}
use Rattle.overlay.specs.declared.payloads.PayloadMark.{PayloadMark}
use Rattle.overlay.specs.declared.payloads.Side.{Side}
use Rattle.overlay.specs.Marks.{payload_moves, place_moves}
use Rattle.overlay.specs.Payloads.{stream_of}
use Rattle.overlay.specs.States.{state_over}
use Rattle.overlay.specs.Runs.{state_at}
use Rattle.overlay.specs.Runs as runs
use Rattle.overlay.proofs.RunPositions.{over_none, run_inside, run_before, run_after}
use Rattle.overlay.proofs.StateLists.{counted_same}
use Rattle.stream.specs.Bytes.{field}
use Rattle.stream.specs.Records.{Content, from_name, image_size, data_at, zeros_at, record_bytes, records_bytes, stream_bytes, header, size_in}
use Rattle.stream.specs.Gathered.{with_records, nothing_gathered, zero_run, payload_run}
use Rattle.stream.specs.Meaning.{Cell, zeroed, written, state_within, records_state, cells}
use Rattle.stream.specs.Parts.{cell_of, parts_cells, PayloadsIn, StandsFor}
use Rattle.stream.specs.Sound.{GoodMeta, RisingRecords, Sound}
use Rattle.stream.proofs.PlacedRecords.{field_behind, here, next, on, runs_of, gathered_runs, size_told}

-- a state inside its range, and outside of it
pub within_in : (o n p : ℕ) (s : Cell) → o ≤ p → p < o + n → state_within o n p s ≡ Some s
within_in o n p s h l = cond-true (leb o p && ltb p (o + n)) (Some s) None (and_from (leb o p) (ltb p (o + n)) (le-leb o p h) (lt-ltb p (o + n) l))

pub within_before : (o n p : ℕ) (s : Cell) → p < o → state_within o n p s ≡ None
within_before o n p s h = grind arith

pub within_after : (o n p : ℕ) (s : Cell) → o + n ≤ p → state_within o n p s ≡ None
within_after o n p s h = grind arith

-- they rise as the records do
runs_rise : (side : Side) (cs : List Content) (size end place : ℕ) → end ≤ size → RisingRecords size end cs → runs.Rising end (runs_of side place cs) size
runs_rise side [] size end place h r = h
runs_rise side (data_at o bytes ∷ cs) size end place h r = (r.0, r.1, runs_rise side cs size (o + length bytes) _ r.2 r.3)
runs_rise side (zeros_at o n ∷ cs) size end place h r = (r.0, r.1, runs_rise side cs size (o + n) _ r.2 r.3)
runs_rise side (c ∷ cs) size end place h r = absurd r

runs_few : (side : Side) (cs : List Content) (place : ℕ) → length (runs_of side place cs) ≤ length cs
runs_few side [] place = omega arith
runs_few side (from_name name ∷ cs) place = let i = runs_few side cs (place + length (record_bytes (from_name name))) in omega arith
runs_few side (c ∷ cs) place = let i = runs_few side cs (place + length (record_bytes c)) in omega arith

-- before the runs no record gives a position anything
laid_before : (cs : List Content) (size end p : ℕ) → RisingRecords size end cs → p < end → records_state cs p ≡ None
laid_before [] size end p r h = refl
laid_before (data_at o bytes ∷ cs) size end p r h =
    ap₂ state_over (laid_before cs size (o + length bytes) p r.3 (let a = r.0 in omega arith)) (within_before o (length bytes) p _ (let a = r.0 in omega arith))
laid_before (zeros_at o n ∷ cs) size end p r h =
    ap₂ state_over (laid_before cs size (o + n) p r.3 (let a = r.0 in omega arith)) (within_before o n p zeroed (let a = r.0 in omega arith))
laid_before (c ∷ cs) size end p r h = absurd r

-- the byte of a payload by its place in the stream
byte_there : (xs : List ℕ) (place n k : ℕ) → length xs < 2 ^ 64 → place + n ≤ length xs → k < n → get_or (take n (drop place xs)) k 0 ≡ get_or xs (place_moves place k) 0
byte_there xs place n k small fits h =
    let e : place_moves place k ≡ place + k =
    cond-true (ltb place (2 ^ 64)) ((place + k) % 2 ^ 64) place (lt-ltb place (2 ^ 64) (omega arith)) ∙ mod-eq_of_lt (omega arith) in
    get_or-take n (drop place xs) k 0 h ∙ get_or-drop place xs k 0 ∙ ap (λ i. get_or xs i 0) (sym e)

-- a run and its record give a position the same, where those after them give no position of theirs
run_as_record : (cell : PayloadMark → Cell) (run : Run PayloadMark) (p : ℕ) (s : Cell) (all : Option PayloadMark) (rest : Option Cell) → option_map cell all ≡ rest
    → (p < run.offset + run.length → rest ≡ None) → (run.offset ≤ p → p < run.offset + run.length → s ≡ cell (payload_moves run.mark (p - run.offset)))
    → option_map cell (state_over (runs.run_at payload_moves run p) all) ≡ state_over rest (state_within run.offset run.length p s)
run_as_record cell run p s all rest e none is =
    let outside : runs.run_at payload_moves run p ≡ None → state_within run.offset run.length p s ≡ None
    → option_map cell (state_over (runs.run_at payload_moves run p) all) ≡ state_over rest (state_within run.offset run.length p s) =
    λ a b. ap (λ t. option_map cell (state_over t all)) a ∙ e ∙ sym (over_none rest) ∙ ap (state_over rest) (sym b) in
    elim (cases_lt p run.offset) [
      | inl a ↦ outside (run_before payload_moves run p a) (within_before run.offset run.length p s a)
      | inr a ↦ elim (cases_lt p (run.offset + run.length)) [
        | inl b ↦
            ap (λ t. option_map cell (state_over t all)) (run_inside payload_moves run p a b)
            ∙ ap₂ state_over (sym (none b)) (ap Some (sym (is a b)) ∙ sym (within_in run.offset run.length p s a b))
        | inr b ↦ outside (run_after payload_moves run p b) (within_after run.offset run.length p s b)
      ]
    ]

module _ (side : Side) (xs tail earlier later : List ℕ) (hand : stream_of earlier later side ≡ xs) (small : length xs < 2 ^ 64) where
  -- the byte of a written record, by the mark of its run
  payload_byte : (pre : List ℕ) (o : ℕ) (bytes : List ℕ) (cs : List Content) (place k : ℕ) → xs ≡ pre ++ (records_bytes (data_at o bytes ∷ cs) ++ tail) → place ≡ length pre
      → k < length bytes → get_or bytes k 0 ≡ get_or (stream_of earlier later side) (place_moves (place + 17) k) 0
  payload_byte pre o bytes cs place k e l h =
      let c = data_at o bytes in
      let n = length bytes in
      let f : field xs (place + 17) n ≡ bytes = field_behind xs pre _ place 17 n (here side xs tail pre c cs e) l ∙ take_at bytes (records_bytes cs ++ tail) n refl in
      let g = ap length (here side xs tail pre c cs e) ∙ length-append pre (record_bytes c ++ (records_bytes cs ++ tail)) in
      let i = length-append (record_bytes c) (records_bytes cs ++ tail) in
      ap (λ t. get_or t k 0) (sym f) ∙ byte_there xs (place + 17) n k small (omega arith) h ∙ ap (λ t. get_or t (place_moves (place + 17) k) 0) (sym hand)

  runs_laid : (cs : List Content) (pre : List ℕ) (place size end : ℕ) → xs ≡ pre ++ (records_bytes cs ++ tail) → place ≡ length pre → RisingRecords size end cs → (p : ℕ)
      → option_map (cell_of earlier later) (state_at payload_moves (runs_of side place cs) p) ≡ records_state cs p
  runs_laid [] pre place size end e l r p = refl
  runs_laid (data_at o bytes ∷ cs) pre place size end e l r p =
      let c = data_at o bytes in
      let n = length bytes in
      run_as_record (cell_of earlier later) (payload_run side o n (place + 17)) p _ _ _ (runs_laid cs (pre ++ record_bytes c) _ size (o + n) (next side xs tail pre c cs e) (on side xs tail pre c place l) r.3 p)
      (laid_before cs size (o + n) p r.3) (λ a b. ap written (payload_byte pre o bytes cs place (p - o) e l (omega arith)))
  runs_laid (zeros_at o n ∷ cs) pre place size end e l r p =
      let c = zeros_at o n in
      run_as_record (cell_of earlier later) (zero_run o n) p _ _ _ (runs_laid cs (pre ++ record_bytes c) _ size (o + n) (next side xs tail pre c cs e) (on side xs tail pre c place l) r.3 p)
      (laid_before cs size (o + n) p r.3) (λ a b. refl)
  runs_laid (c ∷ cs) pre place size end e l r p = absurd r

-- the payload of each run lies in the stream
runs_inside : (side : Side) (xs tail : List ℕ) (cs : List Content) (pre : List ℕ) (place size end : ℕ) → xs ≡ pre ++ (records_bytes cs ++ tail) → place ≡ length pre
    → RisingRecords size end cs → PayloadsIn side xs (runs_of side place cs)
runs_inside side xs tail [] pre place size end e l r = tt
runs_inside side xs tail (data_at o bytes ∷ cs) pre place size end e l r =
    let c = data_at o bytes in
    let g = ap length (here side xs tail pre c cs e) ∙ length-append pre (record_bytes c ++ (records_bytes cs ++ tail)) in
    let i = length-append (record_bytes c) (records_bytes cs ++ tail) in
    ((refl, omega arith), runs_inside side xs tail cs (pre ++ record_bytes c) _ size (o + length bytes) (next side xs tail pre c cs e) (on side xs tail pre c place l) r.3)
runs_inside side xs tail (zeros_at o n ∷ cs) pre place size end e l r =
    let c = zeros_at o n in
    (tt, runs_inside side xs tail cs (pre ++ record_bytes c) _ size (o + n) (next side xs tail pre c cs e) (on side xs tail pre c place l) r.3)
runs_inside side xs tail (c ∷ cs) pre place size end e l r = absurd r

pub encodings_append : (ms ds : List Content) → records_bytes (ms ++ ds) ≡ records_bytes ms ++ records_bytes ds
encodings_append [] ds = refl
encodings_append (c ∷ ms) ds = ap (λ t. record_bytes c ++ t) (encodings_append ms ds) ∙ sym (append_assoc (record_bytes c) (records_bytes ms) (records_bytes ds))

-- metadata has no runs, gives no position a state, and has the size
place_on : (place : ℕ) (c : Content) (ms : List Content) → (place + length (record_bytes c)) + length (records_bytes ms) ≡ place + length (records_bytes (c ∷ ms))
place_on place c ms = omega (arith, length-append (record_bytes c) (records_bytes ms))

runs_skip : (side : Side) (ms ds : List Content) (place : ℕ) → AllByRecursion GoodMeta ms → runs_of side place (ms ++ ds) ≡ runs_of side (place + length (records_bytes ms)) ds
runs_skip side [] ds place g = ap (λ v. runs_of side v ds) (omega arith)
runs_skip side (data_at o bytes ∷ ms) ds place g = absurd g.0
runs_skip side (zeros_at o n ∷ ms) ds place g = absurd g.0
runs_skip side (c ∷ ms) ds place g = runs_skip side ms ds _ g.1 ∙ ap (λ v. runs_of side v ds) (place_on place c ms)

laid_skip : (ms ds : List Content) (p : ℕ) → AllByRecursion GoodMeta ms → records_state (ms ++ ds) p ≡ records_state ds p
laid_skip [] ds p g = refl
laid_skip (data_at o bytes ∷ ms) ds p g = absurd g.0
laid_skip (zeros_at o n ∷ ms) ds p g = absurd g.0
laid_skip (c ∷ ms) ds p g = over_none (records_state (ms ++ ds) p) ∙ laid_skip ms ds p g.1

pub size_kept : (ds : List Content) (n size end : ℕ) → RisingRecords size end ds → size_in n ds ≡ n
size_kept [] n size end r = refl
size_kept (data_at o bytes ∷ ds) n size end r = size_kept ds n size (o + length bytes) r.3
size_kept (zeros_at o m ∷ ds) n size end r = size_kept ds n size (o + m) r.3
size_kept (c ∷ ds) n size end r = absurd r

pub size_first : (ms ds : List Content) (n size end : ℕ) → AllByRecursion GoodMeta ms → RisingRecords size end ds → size_in n (ms ++ ds) ≡ size_in n ms
size_first [] ds n size end g r = size_kept ds n size end r
size_first (image_size m ∷ ms) ds n size end g r = size_first ms ds m size end g.1 r
size_first (c ∷ ms) ds n size end g r = size_first ms ds n size end g.1 r

pub size_small : (ms : List Content) (n : ℕ) → n ≤ 2 ^ 40 → AllByRecursion GoodMeta ms → size_in n ms ≤ 2 ^ 40
size_small [] n h g = h
size_small (image_size m ∷ ms) n h g = size_small ms m g.0 g.1
size_small (c ∷ ms) n h g = size_small ms n h g.1

-- the runs of data records behind metadata
data_stands : (side : Side) (ms ds : List Content) (xs : List ℕ) → AllByRecursion GoodMeta ms → RisingRecords (size_in 0 ms) 0 ds → length ds ≤ 512
    → xs ≡ stream_bytes (ms ++ ds) → length xs < 2 ^ 64
    → StandsFor side xs (ms ++ ds) (with_records side nothing_gathered 12 (ms ++ ds)).runs (with_records side nothing_gathered 12 (ms ++ ds)).size
unfolding cells
data_stands side ms ds xs g r few e small =
    let place = 12 + length (records_bytes ms) in
    let size = size_in 0 ms in
    let pre = header ++ records_bytes ms in
    let lp : place ≡ length pre = omega (arith, length-append header (records_bytes ms)) in
    let rs = runs_of side place ds in
    let er : (with_records side nothing_gathered 12 (ms ++ ds)).runs ≡ rs = gathered_runs side (ms ++ ds) nothing_gathered 12 ∙ runs_skip side ms ds 12 g in
    let es : (with_records side nothing_gathered 12 (ms ++ ds)).size ≡ size = size_told side (ms ++ ds) 12 nothing_gathered ∙ size_first ms ds 0 size 0 g r in
    let sz : size_in 0 (ms ++ ds) ≡ size = size_first ms ds 0 size 0 g r in
    let tail : List ℕ = 101 ∷ [] in
    let ex : xs ≡ pre ++ (records_bytes ds ++ tail) = e ∙ ap (λ t. header ++ (t ++ tail)) (encodings_append ms ds) ∙ ap (λ t. header ++ t) (append_assoc (records_bytes ms) (records_bytes ds) tail)
    ∙ sym (append_assoc header (records_bytes ms) (records_bytes ds ++ tail)) in
    let rise = runs_rise side ds size 0 place (omega arith) r in
    let means : (earlier later : List ℕ) → stream_of earlier later side ≡ xs → parts_cells earlier later rs size ≡ cells (ms ++ ds) =
    λ earlier later hand. map-map (option_map (cell_of earlier later)) (state_at payload_moves rs) (range_with_len 0 size)
    ∙ counted_same (λ p. option_map (cell_of earlier later) (state_at payload_moves rs p)) (records_state (ms ++ ds)) size
    (λ p l. runs_laid side xs tail earlier later hand small ds pre place size 0 ex lp r p ∙ sym (laid_skip ms ds p g))
    ∙ ap (λ n. map (records_state (ms ++ ds)) (range_with_len 0 n)) (sym sz) in
    let all : StandsFor side xs (ms ++ ds) rs size = record {
      rising = rise;
      inside = runs_inside side xs tail ds pre place size 0 ex lp r;
      few = let f = runs_few side ds place in omega arith;
      small = size_small ms 0 (omega arith) g;
      means = means;
    } in
    let P : List (Run PayloadMark) → Type 0 = λ v. StandsFor side xs (ms ++ ds) v size in
    let Q : ℕ → Type 0 = λ v. StandsFor side xs (ms ++ ds) (with_records side nothing_gathered 12 (ms ++ ds)).runs v in
    subst Q (sym es) (subst P (sym er) all)

pub stands_for : (side : Side) (cs : List Content) (xs : List ℕ) → Sound cs → xs ≡ stream_bytes cs → length xs < 2 ^ 64
    → StandsFor side xs cs (with_records side nothing_gathered 12 cs).runs (with_records side nothing_gathered 12 cs).size
stands_for side cs xs s e small =
    let P : List Content → Type 0 = λ v. StandsFor side xs v (with_records side nothing_gathered 12 v).runs (with_records side nothing_gathered 12 v).size in
    subst P (sym s.whole) (data_stands side s.metas s.datas xs s.good s.rising s.few (e ∙ ap stream_bytes s.whole) small)
