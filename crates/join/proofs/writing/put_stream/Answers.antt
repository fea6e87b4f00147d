use Rattle.std.proofs.Common.{◌≡◌, ℕ, ◌+◌, List, [], ◌∷◌, ◌++◌, map, length, sym, ap, ◌∙◌, subst, arith}
use Rattle.std.proofs.lemmas.List.{length-append}
use Rattle.overlay.specs.Runs.{Rising}
use Rattle.stream.specs.Bytes.{buffer_with}
use Rattle.stream.specs.Records.{records_bytes}
use Rattle.stream.specs.Difference.{content_of}
use Rattle.writer.specs.Fields.{opening}
use Rattle.writer.proofs.StreamHead.{length_opening}
use Rattle.writer.proofs.BufferTail.{lent_on, patched_on}
use Rattle.join.specs.Lengths.{records_length}
use Rattle.join.specs.Parts.{joined_cells, joined_difference, AllRanged}
use Rattle.stream.proofs.FoundRanges.{length_cells}
use Rattle.join.proofs.Records.{parts_rise, parts_ranged, length_records, canonical_is}
use Rattle.join.proofs.writing.put_stream.Goals as goal

pub put_records-end-requires-clause-rising : goal.put_records-end-requires-clause-rising
put_records-end-requires-clause-rising c =
    let j = c.args.joined in
    subst (λ rs. Rising 0 rs j.sheet.size) (sym c.requires.ranged) (parts_rise j.earlier.now j.later.now j.sheet.runs.now j.sheet.size (omega (arith, j.small)))

pub put_records-end-requires-clause-alike : goal.put_records-end-requires-clause-alike
put_records-end-requires-clause-alike c =
    let j = c.args.joined in
    subst (AllRanged j.sheet.runs.now j.sheet.size) (sym c.requires.ranged) (parts_ranged j.earlier.now j.later.now j.sheet.runs.now j.sheet.size (omega (arith, j.small)))

pub returns : goal.returns
returns c =
    let xs = c.args.out.now in
    let j = c.args.joined in
    let rs = c.args.records.now in
    let from = j.from.now in
    let to = j.to.now in
    let cells = joined_cells j in
    let op = opening from to j.sheet.size in
    let recs = records_bytes (map (content_of cells) rs) in
    let start = c.length.result in
    let lc : length cells ≡ j.sheet.size = length_cells j.earlier.now j.later.now j.sheet.runs.now j.sheet.size in
    let lo : length op ≡ start = sym c.length.ensures.exact in
    let long = length_opening from to j.sheet.size in
    let rise = subst (λ q. Rising 0 q j.sheet.size) (sym c.requires.ranged) (parts_rise j.earlier.now j.later.now j.sheet.runs.now j.sheet.size (omega (arith, j.small))) in
    let lr : length recs ≡ records_length rs = length_records cells 0 j.sheet.size rs rise (omega arith) in
    let lb : length (op ++ recs) ≡ start + records_length rs = length-append op recs ∙ omega arith in
    let is = ap (λ n. (opening from to n ++ recs) ++ 101 ∷ []) (sym lc) ∙ ap (λ q. (opening from to (length cells) ++ records_bytes (map (content_of cells) q)) ++ 101 ∷ []) c.requires.ranged
    ∙ sym (canonical_is (joined_difference j)) in
    let w : c.put_records-end.new.out ≡ buffer_with xs 0 (op ++ recs) =
    c.put_records-end.ensures.buffer ∙ ap (λ q. buffer_with q start recs) c.put.ensures ∙ ap (λ k. buffer_with (buffer_with xs 0 op) k recs) (sym lo ∙ omega arith) ∙ patched_on xs op recs 0 (omega (arith, c.requires.room)) in
    let end : List ℕ = 101 ∷ [] in
    lent_on xs c.put_records-end.new.out c.put_u8.new.tail (op ++ recs) end 0 c.put_records-end.result w (omega (arith, c.put_records-end.ensures.end)) (omega (arith, c.put_records-end.ensures.end, c.requires.room, long)) c.put_u8.ensures
    ∙ ap (λ q. buffer_with xs 0 q) is
