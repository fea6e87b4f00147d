use Rattle.std.proofs.Common.{◌≡◌, false, ◌&&◌, eqb, length, sym, ap, ◌∙◌}
use Rattle.std.proofs.lemmas.Bool.{eq-eqb, ne_eqb}
use Rattle.stream.specs.Difference.{canonical_bytes}
use Rattle.stream.specs.Streams.{stream_difference}
use Rattle.join.specs.Orders.{in_order}
use Rattle.join.proofs.Canonicity.{canonical_test}
use Rattle.join.proofs.canonical.is_own.Goals as goal

pub returns-then-canonical_length-stream : goal.returns-then-canonical_length-stream
returns-then-canonical_length-stream c =
    let s = c.args.stream in
    let xs = s.bytes.now in
    let d = stream_difference s in
    let e = eq-eqb (length (canonical_bytes d)) (length xs) (sym c.requires ∙ c.if-canonical_length-stream.true) in
    c.in_order.ensures ∙ sym (ap (λ t. t && in_order xs d.from) e) ∙ canonical_test s

pub returns-else-canonical_length-stream : goal.returns-else-canonical_length-stream
returns-else-canonical_length-stream c =
    let s = c.args.stream in
    let xs = s.bytes.now in
    let d = stream_difference s in
    let n = ne_eqb c.args.canonical_length (length xs) c.if-canonical_length-stream.false in
    let e : eqb (length (canonical_bytes d)) (length xs) ≡ false = sym (ap (λ k. eqb k (length xs)) c.requires) ∙ n in
    n ∙ sym (ap (λ t. t && in_order xs d.from) e) ∙ canonical_test s
