use Rattle.store.proofs.StoreOutcomes.{write_bounds}
use Rattle.apply.proofs.ImageChanges.{inside_only}
use Rattle.apply.proofs.ranges.write_part.Goals as goal

pub returns-clause-inside : goal.returns-clause-inside
returns-clause-inside g c =
    let m = g.S.Store in
    let w = c.write in
    inside_only m.image m.past c.args.store.now w.new.self _ (write_bounds (m.holds c.args.store.now) _ _ _ w.result (m.image w.new.self) w.ensures.outcome) w.ensures.past
