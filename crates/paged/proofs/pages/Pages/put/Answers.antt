use Rattle.std.proofs.Common.{sym}
use Rattle.paged.proofs.PagePuts.{cleared_put}
use Rattle.paged.proofs.pages.Pages.put.Goals as goal

pub returns-then-blank_with : goal.returns-then-blank_with
returns-then-blank_with c =
    cleared_put c.args.self.now.paging c.clear.new.self.paging c.args.i c.args.from c.args.bytes.now c.args.self.now.sound c.requires.here (sym c.if-blank_with.ensures) c.clear.ensures
