use Rattle.std.proofs.Common.{◌≡◌, take}
use Rattle.std.specs.List.{flat_map}
use Rattle.case_words.specs.Spelling.{digits_of}
use Rattle.case_words.proofs.decoded.Given as goal

abbrev pub invariant-loop-high : goal.invariant-loop-high
invariant-loop-high l = digits_of l.bytes.items ≡ flat_map (λ p. p) (take l.high-index l.pairs)
