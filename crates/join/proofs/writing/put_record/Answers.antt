use Rattle.std.proofs.Common.{◌≡◌, ◌+◌, ◌∷◌, ◌++◌, sym, refl, ap, ◌∙◌, arith}
use Rattle.overlay.specs.declared.ranges.RangeMark.{RangeMark}
use Rattle.stream.specs.Bytes.{le_bytes, buffer_with}
use Rattle.stream.specs.Records.{record_bytes}
use Rattle.stream.specs.Difference.{payload_at, range_content}
use Rattle.writer.specs.Fields.{range_head}
use Rattle.writer.proofs.BufferTail.{lent_on}
use Rattle.join.specs.Lengths.{marked_length}
use Rattle.join.specs.Parts.{joined_cells}
use Rattle.join.proofs.Payloads.{length_payload}
use Rattle.stream.proofs.FoundRanges.{length_cells}
use Rattle.join.proofs.writing.put_record.Goals as goal

pub returns-in-Written-clause-buffer : goal.returns-in-Written-clause-buffer
returns-in-Written-clause-buffer c =
    let r = c.args.run in
    let j = c.args.joined in
    let xs = c.args.tail.now in
    let bytes = payload_at (joined_cells j) r.offset r.length in
    let n : marked_length c.args.run.mark c.args.run.length ≡ 17 + c.args.run.length = ap (λ (m : RangeMark). marked_length m c.args.run.length) c.in-Written.is in
    let lc = length_cells j.earlier.now j.later.now j.sheet.runs.now j.sheet.size in
    let lb = length_payload (joined_cells j) r.offset r.length (omega (arith, c.requires.alike.within)) in
    lent_on xs c.put_range-in-Written.new.tail c.put_payload.new.tail (range_head 119 r.offset r.length) bytes 0 17 c.put_range-in-Written.ensures refl (omega arith) c.put_payload.ensures.buffer
    ∙ ap (λ k. buffer_with xs 0 (119 ∷ (le_bytes 8 r.offset ++ (le_bytes 8 k ++ bytes)))) (sym lb)
    ∙ sym (ap (λ (m : RangeMark). buffer_with xs 0 (record_bytes (range_content m r.offset r.length bytes))) c.in-Written.is)
