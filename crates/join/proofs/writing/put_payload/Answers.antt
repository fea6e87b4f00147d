use Rattle.std.proofs.Common.{◌≡◌, ◌-◌, ◌^◌, ◌<◌, ◌≤◌, ◌++◌, length, sym, ap, ◌∙◌, arith, length-drop, length-take, rules}
use Rattle.overlay.specs.Marks.{payload_moves}
use Rattle.overlay.proofs.WalkPieces.{left_on, left_further}
use Rattle.stream.specs.Bytes.{buffer_with}
use Rattle.stream.specs.Difference.{payload_at}
use Rattle.writer.proofs.BufferTail.{lent_on}
use Rattle.join.specs.Parts.{joined_cells, named_bytes}
use Rattle.join.proofs.Payloads.{piece_found, even_left, payload_to, length_payload}
use Rattle.stream.proofs.FoundRanges.{length_cells}
use Rattle.join.proofs.writing.put_payload.Goals as goal

pub put_part-requires : goal.put_part-requires
put_part-requires c =
    let j = c.args.joined in
    let i = c.loop-pos.invariant in
    let pos = c.loop-pos.pos in
    let short : length c.args.joined.earlier.now < 2 ^ 64 = search rules in
    let brief : length c.args.joined.later.now < 2 ^ 64 = search rules in
    let left = left_further payload_moves j.sheet.runs.now c.loop-pos.rest.runs.now c.skip-rest.result.runs.now pos i.left.runs c.skip-rest.ensures.left in
    let even = even_left j.sheet.runs.now c.skip-rest.result.runs.now j.sheet.size c.skip-rest.result.size pos c.look-piece.result left (c.skip-rest.ensures.size ∙ i.left.size) c.look-piece.ensures.even in
    let f = piece_found j.earlier.now j.later.now j.sheet.runs.now j.sheet.size j.placed short brief c.args.run pos c.min-stop.result c.look-piece.result even c.requires.alike c.requires.kind
    i.from (omega (arith, even.more)) (omega arith) (omega arith) in
    record { held = f.held; room = simp (length-take, length-drop) (omega arith) }

pub loop-pos-preserved : goal.loop-pos-preserved
loop-pos-preserved c =
    let j = c.args.joined in
    let e = j.earlier.now in
    let l = j.later.now in
    let runs = j.sheet.runs.now in
    let i = c.loop-pos.invariant in
    let o = c.args.run.offset in
    let pos = c.loop-pos.pos in
    let stop = c.min-stop.result in
    let cells = joined_cells j in
    let state = c.look-piece.result.state in
    let short : length c.args.joined.earlier.now < 2 ^ 64 = search rules in
    let brief : length c.args.joined.later.now < 2 ^ 64 = search rules in
    let size = c.skip-rest.ensures.size ∙ i.left.size in
    let left = left_further payload_moves runs c.loop-pos.rest.runs.now c.skip-rest.result.runs.now pos i.left.runs c.skip-rest.ensures.left in
    let even = even_left runs c.skip-rest.result.runs.now j.sheet.size c.skip-rest.result.size pos c.look-piece.result left size c.look-piece.ensures.even in
    let on : c.loop-pos.pos < c.min-stop.result = omega (arith, even.more) in
    let f = piece_found e l runs j.sheet.size j.placed short brief c.args.run pos stop c.look-piece.result even c.requires.alike c.requires.kind i.from on (omega arith) (omega arith) in
    let lc : length cells ≡ j.sheet.size = length_cells e l runs j.sheet.size in
    let a : length (payload_at cells o (pos - o)) ≡ pos - o = length_payload cells o (pos - o) (omega (arith, c.requires.alike.within)) in
    let b : length (named_bytes e l state (stop - pos)) ≡ stop - pos = sym (ap length f.is) ∙ length_payload cells pos (stop - pos) (omega (arith, c.requires.alike.within)) in
    let w = lent_on c.args.tail.now c.loop-pos.tail c.put_part.new.tail (payload_at cells o (pos - o)) (named_bytes e l state (stop - pos)) 0 (pos - o) i.put (omega arith) (omega arith) c.put_part.ensures in
    let next : c.loop-pos.pos ≤ c.min-stop.result = omega arith in
    record {
      from = omega arith;
      to = omega arith;
      left = record { size = size; runs = left_on payload_moves runs pos stop c.skip-rest.result.runs.now next left };
      put = w ∙ ap (λ q. buffer_with c.args.tail.now 0 q) (ap (λ q. payload_at cells o (pos - o) ++ q) (sym f.is) ∙ payload_to cells o pos stop i.from (omega arith));
    }
