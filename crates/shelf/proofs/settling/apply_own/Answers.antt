use Rattle.std.proofs.Common.{ap, ◌∙◌}
use Rattle.fault.specs.Fault.{fault_by, in_entry}
use Rattle.overlay.specs.declared.payloads.Side.TheVariants.{Later}
use Rattle.store.specs.Stores.{Outcome}
use Rattle.shelf.proofs.EntryRecords.{own_outcome}
use Rattle.shelf.proofs.settling.apply_own.Goals as goal

pub returns-clause-outcome : goal.returns-clause-outcome
returns-clause-outcome g c =
    let m = g.S.Store in
    let old = c.args.store.now in
    let left = m.image c.apply_stream.new.store in
    ap (λ r. (r, left)) c.in_entry.ensures
    ∙ ap (λ (o : Outcome). (fault_by (in_entry 0) o.0, o.1)) (c.apply_stream.ensures.outcome ∙ own_outcome Later c.args.planned c.requires (m.holds old) (m.image old))
