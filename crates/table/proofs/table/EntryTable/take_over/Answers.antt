use Rattle.std.proofs.Common.{sym, subst}
use Rattle.table.specs.Names.{name_of}
use Rattle.table.specs.Tables.{LaidOut}
use Rattle.table.proofs.TableSteps.{united, later_moves, united_is}
use Rattle.table.proofs.table.EntryTable.take_over.Goals as goal

pub remove_entry-requires-clause-movable : goal.remove_entry-requires-clause-movable
remove_entry-requires-clause-movable c =
    later_moves c.self.inside c.args.self.now c.self.view_is c.self.invariant c.args.i c.entry-later.result c.requires.two c.entry-later.ensures.row c.args.byte_count c.args.to
    c.as_mut_slice-entries.result.now c.index-entries-i.result c.unite.new.self c.as_mut_slice-entries.ensures.value c.unite.ensures c.requires.fits

pub returns : goal.returns
returns c =
    united_is c.self.inside c.args.self.now c.self.view_is c.self.invariant c.args.i c.entry-later.result c.requires.two c.entry-later.ensures.row c.args.byte_count c.args.to
    c.as_mut_slice-entries.result.now c.index-entries-i.result c.unite.new.self c.as_mut_slice-entries.ensures.value c.unite.ensures _ c.remove_entry.ensures

pub invariant_of-self : goal.invariant_of-self
invariant_of-self c =
    subst LaidOut (sym (returns c)) (united c.args.self.now (subst LaidOut c.self.view_is c.self.invariant) c.args.i c.args.byte_count (name_of c.args.to) c.requires.two)
