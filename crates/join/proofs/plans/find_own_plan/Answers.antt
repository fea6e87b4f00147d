use Rattle.join.proofs.StreamLengths.{found_rise, plan_found}
use Rattle.join.proofs.plans.find_own_plan.Goals as goal

pub stream_length-requires-clause-rising : goal.stream_length-requires-clause-rising
stream_length-requires-clause-rising c = found_rise c.args.stream _ _ _ c.find_ranges-count.ensures

pub returns : goal.returns
returns c = plan_found c.args.stream _ _ _ c.find_ranges-count.ensures _ c.stream_length.ensures
