use Rattle.std.proofs.Common.{◌∙◌, set, sym, ap, arith}
use Rattle.std.proofs.lemmas.List.Edits.{map_over_more}
use Rattle.table.specs.Entries.{moved_entry}
use Rattle.table.proofs.rows.shift_all.Goals as goal

pub loop-entry-preserved : goal.loop-entry-preserved
loop-entry-preserved c =
    let k = c.loop-entry.entry-index in
    let f = moved_entry c.args.old c.args.new in
    ap (set c.loop-entry.entries k) (c.shift.ensures ∙ ap f (sym c.entry-item.is))
    ∙ map_over_more f c.args.entries.now c.loop-entry.entries k c.entry-item.result (omega arith) c.loop-entry.invariant c.entry-item.is
