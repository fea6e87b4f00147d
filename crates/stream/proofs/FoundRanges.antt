-- The ranges that the code finds are those of the difference.
use Rattle.std.proofs.Common.{◌≡◌, ℕ, Bool, true, false, cond, ◌^◌, ◌<◌, ◌≤◌, List, [], ◌∷◌, map, length, take, drop, Some, None, Ok, Err, Option, Result, sym, refl, ap, ◌∙◌, subst, ap₂, arith}
use Rattle.std.proofs.lemmas.List.{length-map}
use Rattle.std.proofs.lemmas.List.FromFn.{length-map-range_with_len}
use mathlib.Core.List.{map-map}
use Rattle.std.specs.Option.{option_map}
use Rattle.overlay.specs.declared.runs.Run.{Run}
use Rattle.overlay.specs.declared.ranges.RangeMark.{RangeMark}
use Rattle.overlay.specs.declared.payloads.PayloadMark.{PayloadMark}
use Rattle.overlay.specs.declared.payloads.PayloadMark.TheVariants.{Zeroed, Written}
use Rattle.overlay.specs.declared.payloads.Side.{Side}
use Rattle.overlay.specs.Marks.{payload_moves, range_moves, range_alike, range_filler, range_of}
use Rattle.overlay.specs.Runs.{state_at, run_states, Rising, with_mark, runs_from, overlay_runs, Runs}
use Rattle.overlay.specs.Buffers.{first_places}
use Rattle.overlay.specs.States.{overlay_states}
use Rattle.overlay.proofs.StateLists.{painted_length, painted_nothing}
use Rattle.overlay.proofs.OverlayLaws.{over_nothing}
use Rattle.overlay.proofs.BufferRuns.{taken, places_room}
use Rattle.overlay.proofs.RangeRuns.{ranges_exist}
use Rattle.overlay.proofs.MarkMaps.{painted_remarked, rising_remarked}
use Rattle.fault.specs.declared.fault.Fault.{Fault}
use Rattle.stream.specs.Records.{Content}
use Rattle.stream.specs.Gathered.{Gathered, gathered_from}
use Rattle.stream.specs.Meaning.{Cell, mark_of, ranges}
use Rattle.stream.specs.Parts.{cell_of, parts_cells, range_runs, part_ranges}
use Rattle.stream.proofs.SoundLists.{never}

pub map_same : {A B : Type 0} (f g : A → B) → ((x : A) → f x ≡ g x) → (xs : List A) → map f xs ≡ map g xs
map_same f g h [] = refl
map_same f g h (x ∷ xs) = ap₂ ◌∷◌ (h x) (map_same f g h xs)

-- the kind of a state that is there only on a condition
pub kind_cond : (t : Bool) (s : Cell) → option_map mark_of (cond t (Some s) None) ≡ cond t (Some (mark_of s)) None
kind_cond true s = refl
kind_cond false s = refl

-- the kind of a mark is the kind of the state that it stands for, and moves on with it
pub kinds_agree : (earlier later : List ℕ) (s : Option PayloadMark) → option_map mark_of (option_map (cell_of earlier later) s) ≡ option_map range_of s
kinds_agree earlier later None = refl
kinds_agree earlier later (Some Zeroed) = refl
kinds_agree earlier later (Some (Written side place)) = refl

pub kind_moves : (m : PayloadMark) (k : ℕ) → range_of (payload_moves m k) ≡ range_moves (range_of m) k
kind_moves Zeroed k = refl
kind_moves (Written side place) k = refl

-- the difference that parts mean, by kinds alone
pub kinds_painted : (earlier later : List ℕ) (parts : List (Run PayloadMark)) (size : ℕ)
    → map (option_map mark_of) (parts_cells earlier later parts size) ≡ run_states range_moves (map (with_mark range_of) parts) size
kinds_painted earlier later parts size =
    map-map (option_map mark_of) (option_map (cell_of earlier later)) (run_states payload_moves parts size)
    ∙ map_same (λ s. option_map mark_of (option_map (cell_of earlier later) s)) (option_map range_of) (kinds_agree earlier later) (run_states payload_moves parts size)
    ∙ sym (painted_remarked payload_moves range_moves range_of kind_moves parts size)

pub part_ranges_are : (earlier later : List ℕ) (parts : List (Run PayloadMark)) (size : ℕ) → ranges (parts_cells earlier later parts size) ≡ part_ranges parts size
unfolding ranges part_ranges
part_ranges_are earlier later parts size = ap (runs_from range_moves range_alike 0) (kinds_painted earlier later parts size)

-- the kinds of runs, in the first places of a buffer
module _ (runs : List (Run PayloadMark)) (before after : List (Run RangeMark)) (room : length runs ≤ length before) (is : after ≡ first_places (map (with_mark range_of) runs) before) where
  pub kinds_found : take (length runs) after ≡ map (with_mark range_of) runs
  kinds_found =
      let ks = map (with_mark range_of) runs in
      let n = length-map runs (with_mark range_of) in
      ap (take (length runs)) (is ∙ places_room ks before (omega arith)) ∙ taken (length runs) ks (drop (length ks) before) n

  pub kinds_rise : (size : ℕ) → Rising 0 runs size → Rising 0 (take (length runs) after) size
  kinds_rise size h = subst (λ rs. Rising 0 rs size) (sym kinds_found) (rising_remarked range_of 0 size runs h)

-- the overlay over nothing of range runs
pub over_none_runs : (rs : List (Run RangeMark)) (size : ℕ) → overlay_runs range_moves range_alike range_filler [] size rs size ≡ range_runs rs size
over_none_runs rs size =
    ap (runs_from range_moves range_alike 0)
    (ap (λ t. overlay_states range_filler t (run_states range_moves rs size)) (painted_nothing range_moves size)
    ∙ over_nothing range_filler size (run_states range_moves rs size) (painted_length range_moves rs size))

-- as many states as positions
pub length_cells : (earlier later : List ℕ) (parts : List (Run PayloadMark)) (size : ℕ) → length (parts_cells earlier later parts size) ≡ size
length_cells earlier later parts size =
    length-map (run_states payload_moves parts size) (option_map (cell_of earlier later)) ∙ length-map-range_with_len (state_at payload_moves parts) 0 size

-- the ranges of a difference are its canonical runs, by kinds
pub ranges_runs : (ds : List (Option Cell)) → length ds < 2 ^ 64 → Runs range_moves (map (option_map mark_of) ds) (ranges ds)
unfolding ranges
ranges_runs ds fits =
    let l = length-map ds (option_map mark_of) in
    ranges_exist (map (option_map mark_of) ds) (omega arith)

pub gathered_err : (side : Side) (g : Gathered) (place : ℕ) (o : Result (List Content) Fault) (f : Fault) → Err f ≡ gathered_from side g place o → o ≡ Err f
gathered_err side g place (Ok cs) f h = never _ f h
gathered_err side g place (Err e) f h = let k : e ≡ f = cc in ap Err k
