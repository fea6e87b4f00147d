use Rattle.listing.proofs.PayloadBlindness.{blind_to_payload}
use Rattle.listing.proofs.LongestRuns.{ranges_are_longest}
use Rattle.listing.proofs.laws_of_lists.Goals as goal

pub returns : goal.returns
returns c = record { longest = ranges_are_longest c.laws_of_runs.ensures.runs_exist; blind = blind_to_payload }
