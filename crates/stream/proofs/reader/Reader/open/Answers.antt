use Rattle.std.proofs.Common.{Err, sym, refl, ap, ◌∙◌}
use Rattle.std.specs.Cmp.Lexicographic.{same_text, other_text}
use Rattle.std.proofs.lemmas.Bool.{cond-true, cond-false}
use Rattle.stream.specs.Records.{header}
use Rattle.stream.proofs.StreamRefusals.{header_tells, other_header}
use Rattle.stream.proofs.reader.Reader.open.Goals as goal

pub returns-then-not-starts_with : goal.returns-then-not-starts_with
returns-then-not-starts_with c =
    let e = other_header c.args.bytes.now (λ y. other_text header _ (sym (sym c.starts_with.ensures.value ∙ c.if-not-starts_with.true)) (sym y)) in
    record {
      result = ap Err c.new.ensures
          ∙ sym (cond-false _ _ _ e);
      bytes = tt;
    }

pub returns : goal.returns
returns c =
    let e = header_tells c.args.bytes.now (sym (same_text header _ (sym (sym c.starts_with.ensures.value ∙ c.if-not-starts_with.false)))) in
    record { result = sym (cond-true _ _ _ e); bytes = refl }
