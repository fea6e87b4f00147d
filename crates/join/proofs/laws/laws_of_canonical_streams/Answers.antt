use Rattle.join.proofs.Expressible.{sound_expressible}
use Rattle.join.proofs.CanonicalRecords.{canonical_law}
use Rattle.join.proofs.Associativity.{canonical_means}
use Rattle.stream.proofs.FoundRanges.{ranges_runs}
use Rattle.join.proofs.Records.{length_canonical}
use Rattle.join.proofs.laws.laws_of_canonical_streams.Goals as goal

pub returns : goal.returns
returns c = record {
  ranges_are_runs = ranges_runs;
  length_by_ranges = length_canonical;
  read_back = canonical_law;
  expressible = sound_expressible;
  means = canonical_means;
}
