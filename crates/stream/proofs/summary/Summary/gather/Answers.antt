use Rattle.std.proofs.Common.{length, Ok, sym, ap, ◌∙◌, subst, ap₂, arith}
use Rattle.std.proofs.lemmas.Result.{err_from_is_err_and}
use Rattle.stream.specs.Verdict.{verdict}
use Rattle.stream.specs.Gathered.{Gathered, RunFits, with_found, gathered_from, gathered_of, nothing_gathered}
use Rattle.stream.specs.Stands.{pos_of}
use Rattle.stream.proofs.NextRecords.{Underway, begun, next_reads, comes_end}
use Rattle.stream.proofs.RunGathering.{found_added, counted, has_room}
use Rattle.stream.proofs.summary.Summary.gather.Goals as goal

pub loop-record-init : goal.loop-record-init
loop-record-init c =
    let r = c.in_ok-reader.reader in
    let F = gathered_from c.args.side in
    let b = begun (F nothing_gathered 12) c.args.stream.now _ r c.type_inv.stream c.open.ensures c.in_ok-reader.was in
    let from = ap₂ F (sym (ap (λ rs. record nothing_gathered { runs = rs }) c.clear.ensures)) (ap (λ p. p.place) b.1) in (
      subst (λ G. Underway c.args.stream.now r G (F nothing_gathered 12 (verdict c.args.stream.now))) from b.0,
      ap length c.clear.ensures ∙ ap (λ p. p.count) b.1,
    )

pub add-requires : goal.add-requires
add-requires c =
    let i = c.loop-record.invariant in
    let t = next_reads i.0 c.next.ensures (c.in_ok-record.was ∙ ap Ok c.in-Some.is) in
    subst (RunFits _) (sym t.lies_so) (has_room (pos_of c.loop-record.reader) _ t.content t.good i.1)

pub returns-in_err-record : goal.returns-in_err-record
returns-in_err-record c =
    let y = err_from_is_err_and c.from_residual-in_err-record.result c.from_residual-in_err-record.ensures.1 in
    rw (y.1, y.2) (comes_end c.loop-record.invariant.0 c.next.ensures c.in_err-record.was)

pub loop-record-preserved : goal.loop-record-preserved
loop-record-preserved c =
    let i = c.loop-record.invariant in
    let side = c.args.side in
    let p = pos_of c.loop-record.reader in
    let q = pos_of c.next.new.self in
    let g = gathered_of c.loop-record.summary c.loop-record.buffer in
    let t = next_reads i.0 c.next.ensures (c.in_ok-record.was ∙ ap Ok c.in-Some.is) in (
      t.underway (λ o. found_added side p q t.content _ g o t.lies_so t.place ∙ ap (λ v. gathered_from side v q.place o) (sym c.add.ensures)),
      ap (λ (v : Gathered). length v.runs) (c.add.ensures ∙ ap (with_found side g) t.lies_so) ∙ counted side p t.state t.content g i.1 ∙ sym (ap (λ v. v.count) t.stands),
    )

pub returns : goal.returns
returns c = comes_end c.loop-record.invariant.0 c.next.ensures (c.in_ok-record.was ∙ ap Ok c.in_default.is)

pub loop-record-smaller : goal.loop-record-smaller
loop-record-smaller c =
    let t = next_reads c.loop-record.invariant.0 c.next.ensures (c.in_ok-record.was ∙ ap Ok c.in-Some.is) in
    let l = ap length (ap (λ x. x.now) c.next.ensures.bytes) in
    let m = t.moved in
    let w = c.next.new.self.within in
    omega arith
