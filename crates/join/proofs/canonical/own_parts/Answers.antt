use Rattle.std.proofs.Common.{◌^◌, ◌<◌, length, refl, sym, rules}
use Rattle.stream.specs.Streams.{stream_cells}
use Rattle.stream.proofs.StreamFacts.{small_size, short_from, short_to, cells_ranges}
use Rattle.join.proofs.StreamLengths.{own_placed, own_length}
use Rattle.join.proofs.canonical.own_parts.Goals as goal

pub invariant_of-result : goal.invariant_of-result
invariant_of-result c =
    let s = c.args.stream in
    let short : length c.args.stream.bytes.now < 2 ^ 64 = search rules in
    record { short_from = short_from s; short_to = short_to s; placed = own_placed s short; small = small_size s }

pub returns-clause-difference : goal.returns-clause-difference
unfolding stream_cells
returns-clause-difference c = refl

pub returns-clause-bytes : goal.returns-clause-bytes
returns-clause-bytes c = sym (own_length c.args.stream _ (cells_ranges c.args.stream))
