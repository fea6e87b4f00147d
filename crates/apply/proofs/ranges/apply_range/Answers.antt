use Rattle.store.proofs.StoreOutcomes.{zero_bounds}
use Rattle.apply.proofs.ImageChanges.{inside_only}
use Rattle.apply.proofs.ranges.apply_range.Goals as goal

pub returns-in-Zeroed-clause-inside : goal.returns-in-Zeroed-clause-inside
returns-in-Zeroed-clause-inside g c =
    let m = g.S.Store in
    let z = c.zero in
    inside_only m.image m.past c.args.store.now z.new.self _ (zero_bounds (m.holds c.args.store.now) _ c.args.range.offset c.args.range.length z.result (m.image z.new.self) z.ensures.outcome) z.ensures.past
