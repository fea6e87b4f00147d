use Rattle.std.proofs.Common.{◌≡◌, ℕ, ◌+◌, ◌<◌, List, [], ◌∷◌, ◌++◌, map, length, get_or, take, drop, set, sym, ap, ◌∙◌, ap₂, arith}
use Rattle.std.proofs.lemmas.List.{take_more, take_more_set, take_all, take-append-drop, length-map, map_push, drop-set-lt}
use Rattle.overlay.specs.declared.runs.Run.{Run}
use Rattle.overlay.specs.declared.ranges.RangeMark.{RangeMark}
use Rattle.overlay.specs.declared.payloads.PayloadMark.{PayloadMark}
use Rattle.overlay.specs.declared.payloads.PayloadMark.TheVariants.{Zeroed}
use Rattle.overlay.specs.Runs.{with_mark}
use Rattle.overlay.proofs.BufferRuns.{drop_further, places_room}
use Rattle.overlay.specs.Marks.{range_of}
use Rattle.stream.proofs.ranges.put_kinds.Goals as goal

-- the run that a read past the end would give
abbrev none : Run PayloadMark
none = record { offset = 0; length = 0; mark = Zeroed }

one_more : (parts : List (Run PayloadMark)) (out : List (Run RangeMark)) (i : ℕ) (m : RangeMark) → i < length parts → i < length out
    → m ≡ range_of (get_or parts i none).mark → take i out ≡ map (with_mark range_of) (take i parts)
    → take (i + 1) (set out i (record { offset = (get_or parts i none).offset; length = (get_or parts i none).length; mark = m })) ≡ map (with_mark range_of) (take (i + 1) parts)
one_more parts out i m h k e inv =
    let r = get_or parts i none in
    let remark : RangeMark → Run RangeMark = λ m. record { offset = r.offset; length = r.length; mark = m } in
    let g : remark m ≡ with_mark range_of r = ap remark e in
    take_more_set out i (remark m) k ∙ ap₂ (λ a b. a ++ (b ∷ [])) inv g ∙ sym (map_push (with_mark range_of) (take i parts) r) ∙ ap (map (with_mark range_of)) (sym (take_more parts i none h))

pub loop-i-preserved : goal.loop-i-preserved
loop-i-preserved c =
    let i = c.loop-i.i in
    let out = c.loop-i.out in (
      one_more c.args.runs.now out i c.into.result c.loop-i-test.true (omega arith) c.into.ensures c.loop-i.invariant.0,
      drop-set-lt (i + 1) out i _ (omega arith) ∙ drop_further i (i + 1) out c.args.out.now (omega arith) c.loop-i.invariant.1,
    )

pub returns : goal.returns
returns c =
    let xs = c.args.runs.now in
    let ks = map (with_mark range_of) xs in
    let out = c.loop-i.out in
    let old = c.args.out.now in
    let n = length-map xs (with_mark range_of) in
    let e : c.loop-i.i ≡ length ks = omega arith in
    let k : c.loop-i.i ≡ length xs = omega arith in
    let front : take c.loop-i.i out ≡ ks = c.loop-i.invariant.0 ∙ ap (λ k. map (with_mark range_of) (take k xs)) k ∙ ap (map (with_mark range_of)) (take_all (length xs) xs (omega arith)) in
    sym (take-append-drop c.loop-i.i out) ∙ ap₂ ◌++◌ front (c.loop-i.invariant.1 ∙ ap (λ k. drop k old) e) ∙ sym (places_room ks old (omega arith))
