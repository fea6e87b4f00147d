use Rattle.std.proofs.Common.{◌+◌, List, map, sym, ap, ◌∙◌, subst}
use Rattle.std.proofs.lemmas.List.{map_push}
use Rattle.table.specs.Entries.{row_of}
use Rattle.table.specs.Tables.{append_row}
use Rattle.table.specs.Names.{name_of}
use Rattle.table.specs.Tables.{Row, Table, LaidOut}
use Rattle.table.proofs.TableSteps.{appended}
use Rattle.table.proofs.table.EntryTable.append.Goals as goal

pub invariant_of-self : goal.invariant_of-self
invariant_of-self c =
    let t = c.self.inside in
    let row = row_of c.args.entry in
    let made : List Row → Table = λ q. record { base = name_of t.base; rows = q; fill = t.fill + row.length } in
    let same = ap made (ap (map row_of) c.push.ensures.items ∙ map_push row_of t.entries.items c.args.entry) ∙ ap (λ s. append_row s row) c.self.view_is in
    subst LaidOut (sym same) (appended c.args.self.now (subst LaidOut c.self.view_is c.self.invariant) row c.requires.room c.requires.place)
