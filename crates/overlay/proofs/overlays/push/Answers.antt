use Rattle.std.proofs.Common.{◌≡◌, ◌+◌, ◌-◌, ◌<◌, [], ◌∷◌, ◌++◌, length, take, drop, set, sym, refl, ap, ap₂, ◌∙◌, subst, arith, length-take}
use Rattle.std.proofs.lemmas.List.{take_all, take_more_set, take-append-drop, drop-set-lt, set-get_or, length-set, length_push}
use Rattle.std.proofs.lemmas.Bool.Decides.{not_from_Decides}
use Rattle.overlay.specs.declared.runs.Run.{Run}
use Rattle.overlay.specs.Walks.{Pushed}
use Rattle.overlay.proofs.RunEnds.{last_under, merged, added_first, added_next}
use Rattle.overlay.proofs.BufferRuns.{filled, filled_up}
use Rattle.overlay.proofs.overlays.push.Given.{Over}
use Rattle.overlay.proofs.overlays.push.Goals as goal
use Rattle.overlay.proofs.overlays.push.Goals.{Joined-out-k-lt1, in_default, in-len1-up+else-continues}

pub continues-requires : goal.continues-requires
continues-requires g c =
    let l = c.index-out-out.result in
    let under = last_under g.M.Mark.moves g.met.M.Mark.laws.further (take c.args.k c.args.out.now) c.args.run c.requires.rising c.requires.apart c.requires.some l c.in-len1-up.len_at_least c.index-out-out.is in
    rw (← c.index-out-out.is) (omega (arith, under, c.requires.fits))

pub returns-then-continues : goal.returns-then-continues
returns-then-continues g c =
    let k = c.args.k in
    let out = c.args.out.now in
    let xs = take c.args.k c.args.out.now in
    let l = c.index-out-out.result in
    let on = c.if-continues.ensures.0 refl in
    let long : length xs ≡ c.args.k = simp length-take (omega arith) in
    let one = merged g.M.Mark.moves g.met.M.Mark.laws.further xs c.args.run c.requires.rising c.requires.apart c.requires.some l c.in-len1-up.len_at_least c.index-out-out.is c.requires.fits
    (rw (← c.index-out-out.is) at on) in
    let m : Run g.row.M.Denot = record { offset = l.offset; length = l.length + c.args.run.length; mark = l.mark } in
    let same : length (set xs (length xs - 1) m) ≡ c.args.k = simp length-set long in
    rw (← c.index-out-out.is)
    (filled (Pushed g.M.Mark.moves xs c.args.run) (set xs (length xs - 1) m) out (set xs (length xs - 1) m ++ drop k out) k same c.requires.within refl one)

-- the buffer is as it was, and the run is added
record Added (g : Over) (c : Joined-out-k-lt1 g) : Type 0 where
  same : c.if-out-k-lt1.out ≡ c.args.out.now
  pushed : Pushed g.M.Mark.moves (take c.args.k c.args.out.now) c.args.run (take c.args.k c.args.out.now ++ c.args.run ∷ [])

added : (g : Over) (c : Joined-out-k-lt1 g) → Added g c
added g c =
    let out = c.args.out.now in
    let xs = take c.args.k c.args.out.now in
    elim c.if-out-k-lt1.branch [
      | in_default w ↦
          record {
            same = w.out-is ∙ take-append-drop c.args.k out;
            pushed = added_first g.M.Mark.moves g.met.M.Mark.laws.further xs c.args.run c.requires.rising c.requires.apart c.requires.some w.in_default.len_below;
          }
      | in-len1-up+else-continues w ↦
          let l = w.index-out-out.result in
          record {
            same = w.out-is ∙ ap (λ ys. ys ++ drop c.args.k out) (set-get_or xs (length xs - 1) l) ∙ take-append-drop c.args.k out;
            pushed =
                added_next g.M.Mark.moves g.met.M.Mark.laws.further xs c.args.run c.requires.rising c.requires.apart c.requires.some l w.in-len1-up.len_at_least w.index-out-out.is
                (rw (← w.index-out-out.is) at (not_from_Decides _ w.continues.ensures w.if-continues.false));
          }
    ]

pub returns-then-k-out : goal.returns-then-k-out
returns-then-k-out g c =
    let out = c.args.out.now in
    let it = added g (goal.at.returns-then-k-out g c).Joined-out-k-lt1 in
    let all : take c.args.k out ≡ out = take_all c.args.k out (omega (arith, c.if-out-k-lt1.auto.out)) in
    filled_up (Pushed g.M.Mark.moves (take c.args.k out) c.args.run) out c.if-out-k-lt1.out c.args.run it.same
    (subst (λ ys. Pushed g.M.Mark.moves (take c.args.k out) c.args.run (ys ++ c.args.run ∷ [])) all it.pushed)

pub returns : goal.returns
returns g c =
    let k = c.args.k in
    let out = c.args.out.now in
    let it = added g (goal.at.returns g c).Joined-out-k-lt1 in
    let long : length c.if-out-k-lt1.out ≡ length c.args.out.now = c.if-out-k-lt1.auto.out in
    let room : c.args.k < length c.args.out.now = omega (arith, c.requires.within, c.if-k-out.false) in
    let next : length (take k out ++ c.args.run ∷ []) ≡ k + 1 = omega (arith, length_push (take k out) c.args.run, length-take k out) in
    let more : set out k c.args.run ≡ (take k out ++ c.args.run ∷ []) ++ drop (k + 1) out =
    sym (take-append-drop (k + 1) (set out k c.args.run)) ∙ ap₂ (λ xs ys. xs ++ ys) (take_more_set out k c.args.run room) (drop-set-lt (k + 1) out k c.args.run (omega arith)) in
    rw it.same (filled (Pushed g.M.Mark.moves (take k out) c.args.run) (take k out ++ c.args.run ∷ []) out (set out k c.args.run) (k + 1) next (omega arith) more it.pushed)
