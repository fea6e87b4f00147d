use Rattle.std.proofs.Common.{rules, tests}
use Rattle.paged.proofs.pages.paging.all_spare.Goals as goal

pub returns : goal.returns
returns c = λ k l. let made = (c.from_fn.ensures.items.at k 0 l).2 in search (rules, tests)
