use Rattle.std.proofs.Common.{◌∙◌, arith, length-take}
use Rattle.std.proofs.lemmas.Slice.{drop-append-drop}
use Rattle.paged.proofs.pages.paging.clear_map.Goals as goal

pub returns-clause-rest : goal.returns-clause-rest
returns-clause-rest c =
    let n = c.min-places.result in
    drop-append-drop n c.args.map.now c.fill.new.self 65536 (omega arith) (c.fill.ensures.len ∙ length-take n c.args.map.now ∙ omega arith)
