use Rattle.std.proofs.Common.{length, get_or, take, sym, refl, ap, ◌∙◌, arith}
use Rattle.std.specs.List.{flat_map}
use Rattle.std.proofs.lemmas.List.Folds.{length-flat_map-take}
use Rattle.std.proofs.lemmas.List.{take_all, length-append, length-take, length-drop}
use Rattle.stream.specs.Bytes.{buffer_with}
use Rattle.writer.proofs.BufferTail.{lent_on, patched_none, patched_on, length_patched}
use Rattle.listing.specs.Text.{heading, line}
use Rattle.listing.proofs.Lines.{none, lines_more, length_listing, listing_is}
use Rattle.listing.proofs.text.put_text.Goals as goal

pub put_bytes-requires : goal.put_bytes-requires
put_bytes-requires c = omega (arith, length_listing c.args.ranges.now)

pub loop-run-init : goal.loop-run-init
loop-run-init c =
    let l = length_listing c.args.ranges.now in
    let k = ap length c.put_bytes.ensures ∙ length_patched c.args.out.now heading 0 (omega arith) in
    (refl, sym (patched_none c.put_bytes.new.tail 19), omega arith, omega arith)

pub put_line-at-requires : goal.put_line-at-requires
put_line-at-requires c =
    let v = c.loop-run.invariant in
    let rs = c.args.ranges.now in
    let i = c.loop-run.run-index in
    let r = length-flat_map-take line rs i none c.loop-run-test.true in
    let l = ap length v.1 ∙ length_patched c.put_bytes.new.tail (flat_map line (take i rs)) 19 (omega (arith, v.2, r)) in
    simp (length-take, length-drop) (omega (arith, l, v.0, v.2, v.3, r))

pub loop-run-preserved : goal.loop-run-preserved
loop-run-preserved c =
    let v = c.loop-run.invariant in
    let rs = c.args.ranges.now in
    let i = c.loop-run.run-index in
    let r = length-flat_map-take line rs i none c.loop-run-test.true in
    let m = lines_more rs i c.loop-run-test.true in
    let k = ap length m ∙ length-append (flat_map line (take i rs)) (line (get_or rs i none)) in
    let a = v.0 in
    let b = v.2 in
    let most = v.3 in
    let s = c.put_line-at.ensures.short in
    let t = c.put_line-at.ensures.taken in (
      omega arith,
      lent_on c.put_bytes.new.tail c.loop-run.out _ (flat_map line (take i rs)) (line (get_or rs i none)) 19 c.loop-run.at v.1 a (omega arith) c.put_line-at.ensures.buffer
          ∙ ap (buffer_with c.put_bytes.new.tail 19) (sym m),
      b,
      omega arith,
    )

pub returns-clause-taken : goal.returns-clause-taken
returns-clause-taken c =
    let v = c.loop-run.invariant in
    let rs = c.args.ranges.now in
    let e = ap length (ap (flat_map line) (take_all c.loop-run.run-index rs c.loop-run-test.false)) in
    let l = length_listing rs in
    omega (arith, v.0, e, l)

pub returns-clause-buffer : goal.returns-clause-buffer
returns-clause-buffer c =
    let v = c.loop-run.invariant in
    let rs = c.args.ranges.now in
    let l = length_listing rs in
    v.1 ∙ ap (buffer_with c.put_bytes.new.tail 19) (ap (flat_map line) (take_all c.loop-run.run-index rs c.loop-run-test.false))
    ∙ ap (λ t. buffer_with t 19 (flat_map line rs)) c.put_bytes.ensures
    ∙ patched_on c.args.out.now heading (flat_map line rs) 0 (omega arith)
    ∙ ap (buffer_with c.args.out.now 0) (listing_is rs)
