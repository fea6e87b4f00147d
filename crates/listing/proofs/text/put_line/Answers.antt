use Rattle.std.proofs.Common.{◌+◌, [], ◌∷◌, ◌++◌, decimal, ap, ◌∙◌, append_assoc, arith}
use Rattle.std.proofs.lemmas.List.{length-append}
use Rattle.stream.specs.Bytes.{buffer_with}
use Rattle.writer.proofs.BufferTail.{lent_on}
use Rattle.listing.specs.Text.{line_end}
use Rattle.listing.proofs.Lines.{length_line, length_line_end}
use Rattle.listing.proofs.text.put_line.Goals as goal

-- the buffer after the first number is known; so it is after the space, and after the second number
pub returns : goal.returns
returns c =
    let xs = c.args.tail.now in
    let run = c.args.run in
    let n = c.put_number-space in
    let one = decimal run.offset in
    let two = decimal run.length in
    let front = one ++ (32 ∷ []) in
    let whole = length_line run in
    let end = length_line_end run.mark in
    let a = length-append one (32 ∷ []) in
    let b = length-append front two in
    let taken = n.ensures.taken in
    let more = c.put_number.ensures.taken in
    let spaced = lent_on xs _ _ one (32 ∷ []) 0 n.result n.ensures.buffer (omega arith) (omega arith) c.put_u8.ensures in
    let both = lent_on xs _ _ front two 0 (n.result + 1) spaced (omega arith) (omega arith) c.put_number.ensures.buffer in
    record {
      taken = omega arith;
      short = omega arith;
      buffer = lent_on xs _ _ (front ++ two) (line_end run.mark) 0 (n.result + 1 + c.put_number.result) both (omega arith) (omega arith) c.put_kind.ensures
          ∙ ap (buffer_with xs 0) (append_assoc front two (line_end run.mark) ∙ append_assoc one (32 ∷ []) (two ++ line_end run.mark));
    }
