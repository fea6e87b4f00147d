use Rattle.std.proofs.Common.{rules}
use Rattle.table.proofs.EntryRows.{last_or}
use Rattle.table.proofs.rows.last_name.Goals as goal
use borrow.Author.Tests.{tests}

pub returns : goal.returns
returns c = last_or c.last.result c.args.base c.args.entries.now c.map_or.result _ c.last.ensures.item c.map_or.ensures (λ e h. search (rules, tests))
