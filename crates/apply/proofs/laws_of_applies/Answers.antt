use Rattle.apply.proofs.KeptPositions.{only_kept}
use Rattle.apply.proofs.ApplyLaws.{applies_exactly, stops_harmless}
use Rattle.apply.proofs.laws_of_applies.Goals as goal

pub returns : goal.returns
returns c = record { exactly = applies_exactly; only_kept = only_kept; harmless = stops_harmless }
