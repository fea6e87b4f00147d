use Rattle.std.proofs.Common.{◌^◌, ◌<◌, sym, subst, rules, arith}
use Rattle.table.specs.Names.{name_of}
use Rattle.table.specs.Tables.{LaidOut}
use Rattle.table.proofs.TableSteps.{dropped, behind_moves, dropped_is}
use Rattle.table.proofs.table.EntryTable.drop_for.Goals as goal

pub remove_entry-requires-clause-movable : goal.remove_entry-requires-clause-movable
remove_entry-requires-clause-movable c =
    let fits : c.self.inside.fill < 2 ^ 64 = search rules in
    behind_moves c.self.inside c.args.self.now c.self.view_is c.self.invariant 0 c.entry-first.result c.requires c.entry-first.ensures.row 0 (omega arith)

pub returns : goal.returns
returns c = dropped_is c.self.inside c.args.self.now c.self.view_is c.self.invariant c.entry-first.result c.requires c.entry-first.ensures.row _ (name_of c.args.base) c.remove_entry.ensures

pub invariant_of-self : goal.invariant_of-self
invariant_of-self c = subst LaidOut (sym (returns c)) (dropped c.args.self.now (subst LaidOut c.self.view_is c.self.invariant) (name_of c.args.base) c.requires)
