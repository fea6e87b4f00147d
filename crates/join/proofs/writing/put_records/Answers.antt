use Rattle.std.proofs.Common.{◌≡◌, ◌<◌, map, length, take, sym, ap, ◌∙◌, arith}
use Rattle.std.proofs.lemmas.List.{length-append}
use Rattle.overlay.specs.Runs.{run_end}
use Rattle.stream.specs.Bytes.{buffer_with}
use Rattle.stream.specs.Records.{record_bytes, records_bytes}
use Rattle.stream.specs.Difference.{content_of}
use Rattle.writer.proofs.BufferTail.{lent_on}
use Rattle.join.specs.Parts.{joined_cells}
use Rattle.stream.proofs.FoundRanges.{length_cells}
use Rattle.join.proofs.Records.{run_of, next_rising, next_ranged, next_length, next_bytes, length_record}
use Rattle.join.proofs.writing.put_records.Goals as goal

pub loop-run-preserved : goal.loop-run-preserved
loop-run-preserved c =
    let j = c.args.joined in
    let rs = c.args.records.now in
    let i = c.loop-run.run-index in
    let cells = joined_cells j in
    let done = records_bytes (map (content_of cells) (take i rs)) in
    let one = record_bytes (content_of cells (run_of rs i)) in
    let lt : c.loop-run.run-index < length c.args.records.now = omega arith in
    let h = next_rising rs i lt c.loop-run.invariant.0 j.sheet.size c.loop-run.invariant.2 in
    let a = next_ranged rs i lt j.sheet.runs.now j.sheet.size c.loop-run.invariant.3 in
    let lc : length cells ≡ j.sheet.size = length_cells j.earlier.now j.later.now j.sheet.runs.now j.sheet.size in
    let n = length_record cells (run_of rs i) (omega (arith, a.0.within)) in
    let l = next_length rs i lt in
    let more = length-append done one in
    let b = next_bytes rs i lt cells in
    let w = lent_on c.args.out.now c.loop-run.out c.put_record-left.new.tail done one c.args.start c.loop-run.at c.loop-run.invariant.6 c.loop-run.invariant.5 (omega (arith, c.loop-run.invariant.4)) c.put_record-left.ensures.buffer in (
      run_end (run_of rs i),
      c.put_record-left.ensures.left,
      h.2,
      a.1,
      omega (arith, c.loop-run.invariant.4, c.record_length.ensures),
      omega (arith, c.loop-run.invariant.5, c.record_length.ensures, ap length b),
      w ∙ ap (λ q. buffer_with c.args.out.now c.args.start q) (sym b),
    )
