use Rattle.std.proofs.Common.{◌∙◌, rules}
use Rattle.std.proofs.lemmas.Iterator.{YieldsList-from_slice}
use Rattle.std.proofs.lemmas.Iterator.Search.{any_from_yields_List}
use Rattle.stream.specs.Verdict.{same}
use Rattle.table.specs.Names.{name_of}
use Rattle.table.specs.declared.entry.Entry.{Entry}
use Rattle.table.proofs.EntryRows.{leads_to_any}
use Rattle.table.proofs.rows.leads_to.Goals as goal
use borrow.Author.Tests.{tests}

pub returns : goal.returns
returns c =
    any_from_yields_List (λ (e : Entry). same c.args.name.now (name_of e.to)) _ _ _ c.any.ensures.ran (YieldsList-from_slice c.args.entries.now cc) (λ x b q k. search (rules, tests))
    ∙ leads_to_any c.args.name.now c.args.entries.now
