use Rattle.std.proofs.Common.{take, sym, refl, arith, length-take}
use Rattle.std.proofs.lemmas.List.{take-append-drop}
use Rattle.overlay.specs.Walks.{Grown}
use Rattle.overlay.proofs.RunEnds.{grown_kept, grown_run}
use Rattle.overlay.proofs.BufferRuns.{filled, fills_as}
use Rattle.overlay.proofs.overlays.add.Goals as goal

pub returns-in_default : goal.returns-in_default
returns-in_default g c =
    let k = c.args.k in
    let out = c.args.out.now in
    filled (Grown g.M.Mark.moves (take k out) c.args.pos c.args.piece) (take k out) out out k (simp length-take (omega (arith, c.requires.within))) c.requires.within (sym (take-append-drop k out))
    (grown_kept g.M.Mark.moves _ c.args.pos c.args.piece c.requires.canonical c.requires.more c.in_default.is)

pub returns : goal.returns
returns g c =
    fills_as _ _ _ _ _
    (grown_run g.M.Mark.moves (take c.args.k c.args.out.now) c.args.pos c.args.piece c.requires.canonical c.requires.more c.in-Some.mark c.in-Some.is _ refl refl refl)
    c.push.ensures
