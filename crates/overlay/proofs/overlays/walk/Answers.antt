use Rattle.std.proofs.Common.{◌≡◌, ◌+◌, ◌^◌, ◌<◌, ◌≤◌, ◌++◌, length, take, drop, Some, sym, refl, ap, ap₂, ◌∙◌, subst, arith, length-take, rules}
use Rattle.std.proofs.lemmas.List.{take-append-drop}
use Rattle.overlay.specs.Runs.{overlay_state_at, overlay_runs, RunsOf}
use Rattle.overlay.specs.Walks.{Even, Grown, edges}
use Rattle.overlay.proofs.CanonicalRuns.{overlay_exists}
use Rattle.overlay.proofs.WalkPieces.{left_on, left_further, even_as, overlaid_left, runs_more, edges_left}
use Rattle.overlay.proofs.Uniqueness.{no_fewer, same_firsts, unique}
use Rattle.overlay.proofs.BufferRuns.{count_room, count_full, places_room, places_same, placed, full, drop_further}
use Rattle.overlay.proofs.overlays.walk.Given.{Over}
use Rattle.overlay.proofs.overlays.walk.Goals as goal
use Rattle.overlay.proofs.overlays.walk.Goals.{After-covered-piece}

-- what the overlay of all the runs says from the position on; and a turn passes an edge
record Turn (g : Over) (c : After-covered-piece g) : Type 0 where
  even : Even g.M.Mark.moves (overlay_state_at g.M.Mark.moves g.M.Mark.FILLER c.args.earlier.runs.now c.args.earlier.size c.args.later.runs.now) c.loop-pos.pos c.args.later.size c.covered-piece.result
  fewer : edges c.covered-piece.result.stop c.skip-under.result.runs.now c.skip-under.result.size + edges c.covered-piece.result.stop c.skip-over.result.runs.now c.skip-over.result.size
      < edges c.loop-pos.pos c.loop-pos.under.runs.now c.loop-pos.under.size + edges c.loop-pos.pos c.loop-pos.over.runs.now c.loop-pos.over.size

turn : (g : Over) (c : After-covered-piece g) → Turn g c
turn g c =
    let m = g.M.Mark in
    let i = c.loop-pos.invariant in
    let pos = c.loop-pos.pos in
    let e = c.args.earlier in
    let l = c.args.later in
    let u = c.skip-under in
    let o = c.skip-over in
    let under = left_further m.moves e.runs.now c.loop-pos.under.runs.now u.result.runs.now pos i.under_left u.ensures.left in
    let over = left_further m.moves l.runs.now c.loop-pos.over.runs.now o.result.runs.now pos i.over_left o.ensures.left in
    record {
      even =
          even_as m.moves _ _ pos l.size c.covered-piece.result (overlaid_left m.moves m.FILLER e.runs.now u.result.runs.now l.runs.now o.result.runs.now e.size pos under over)
          (subst (λ n. Even m.moves (overlay_state_at m.moves m.FILLER u.result.runs.now n o.result.runs.now) pos l.size c.covered-piece.result) (u.ensures.size ∙ i.under_size)
          (subst (λ n. Even m.moves (overlay_state_at m.moves m.FILLER u.result.runs.now u.result.size o.result.runs.now) pos n c.covered-piece.result) (o.ensures.size ∙ i.over_size)
          c.covered-piece.ensures.even));
      fewer =
          omega (
            arith,
            c.covered-piece.ensures.nears,
            edges_left m.moves c.loop-pos.under.runs.now u.result.runs.now c.loop-pos.under.size u.result.size pos u.ensures.left u.ensures.size,
            edges_left m.moves c.loop-pos.over.runs.now o.result.runs.now c.loop-pos.over.size o.result.size pos o.ensures.left o.ensures.size,
          );
    }

pub returns-in_err-k : goal.returns-in_err-k
returns-in_err-k g c =
    let m = g.M.Mark in
    let e = c.args.earlier in
    let l = c.args.later in
    let i = c.loop-pos.invariant in
    let it = turn g (goal.at.returns-in_err-k g c).After-covered-piece in
    let piece = it.even in
    let states = overlay_state_at m.moves m.FILLER e.runs.now e.size l.runs.now in
    let fits : c.args.later.size < 2 ^ 64 = search rules in
    let there = overlay_exists m.moves m.alike g.met.M.Mark.laws.decides g.met.M.Mark.laws.still g.met.M.Mark.laws.further m.FILLER e.runs.now e.size l.runs.now l.size fits in
    let rs = overlay_runs m.moves m.alike m.FILLER e.runs.now e.size l.runs.now l.size in
    let got = full (Grown m.moves (take c.loop-pos.k c.loop-pos.out) c.loop-pos.pos c.covered-piece.result) c.loop-pos.out c.add.new.out c.in_err-k.ensures in
    let part = runs_more m.moves states c.loop-pos.pos l.size c.covered-piece.result _ got.runs i.runs piece got.holds in
    let long : length c.loop-pos.out ≡ length c.args.out.now = c.loop-pos.auto.out in
    let more : length c.args.out.now < length rs = omega (arith, got.more, no_fewer m.moves g.met.M.Mark.laws.still states c.covered-piece.result.stop l.size got.runs rs piece.under part there) in
    rw c.from_residual.ensures (record {
      count = sym (count_full rs c.args.out.now more);
      places =
          places_same rs c.args.out.now got.runs c.add.new.out (length c.loop-pos.out) long got.places
          (same_firsts m.moves g.met.M.Mark.laws.still states c.covered-piece.result.stop l.size got.runs rs piece.under part there (length c.args.out.now) (omega (arith, got.more)))
          more;
      runs = there;
      room = λ h. absurd (omega (arith, got.more, got.holds.grows, length-take c.loop-pos.k c.loop-pos.out, i.room, it.fewer));
    })

pub loop-pos-preserved : goal.loop-pos-preserved
loop-pos-preserved g c =
    let m = g.M.Mark in
    let e = c.args.earlier in
    let l = c.args.later in
    let i = c.loop-pos.invariant in
    let pos = c.loop-pos.pos in
    let stop = c.covered-piece.result.stop in
    let it = turn g (goal.at.loop-pos-preserved g c).After-covered-piece in
    let piece = it.even in
    let on : c.loop-pos.pos ≤ c.covered-piece.result.stop = omega (arith, piece.more) in
    let fills = c.in_ok-k.ensures in
    let got = placed fills.runs c.loop-pos.out c.in_ok-k.k (Some c.in_ok-k.k) c.add.new.out refl fills.count fills.places in
    let kept : c.loop-pos.k ≤ c.in_ok-k.k = omega (arith, got.count, fills.holds.keeps, length-take c.loop-pos.k c.loop-pos.out) in
    record {
      within = piece.under;
      counted = omega (arith, got.room, c.add.auto.out);
      runs = runs_more m.moves (overlay_state_at m.moves m.FILLER e.runs.now e.size l.runs.now) pos l.size c.covered-piece.result (take c.loop-pos.k c.loop-pos.out) (take c.in_ok-k.k c.add.new.out) i.runs piece
          (subst (λ xs. Grown m.moves (take c.loop-pos.k c.loop-pos.out) pos c.covered-piece.result xs) (sym got.firsts) fills.holds);
      under_size = c.skip-under.ensures.size ∙ i.under_size;
      under_left = left_on m.moves e.runs.now pos stop _ on (left_further m.moves e.runs.now c.loop-pos.under.runs.now _ pos i.under_left c.skip-under.ensures.left);
      over_size = c.skip-over.ensures.size ∙ i.over_size;
      over_left = left_on m.moves l.runs.now pos stop _ on (left_further m.moves l.runs.now c.loop-pos.over.runs.now _ pos i.over_left c.skip-over.ensures.left);
      room = omega (arith, got.count, fills.holds.grows, length-take c.loop-pos.k c.loop-pos.out, i.room, it.fewer);
      behind = got.others ∙ drop_further c.loop-pos.k c.in_ok-k.k c.loop-pos.out c.args.out.now kept i.behind;
    }

pub returns : goal.returns
returns g c =
    let m = g.M.Mark in
    let e = c.args.earlier in
    let l = c.args.later in
    let i = c.loop-pos.invariant in
    let out = c.args.out.now in
    let k = c.loop-pos.k in
    let fits : c.args.later.size < 2 ^ 64 = search rules in
    let end : c.loop-pos.pos ≡ c.args.later.size = omega arith in
    let states = overlay_state_at m.moves m.FILLER e.runs.now e.size l.runs.now in
    let there = overlay_exists m.moves m.alike g.met.M.Mark.laws.decides g.met.M.Mark.laws.still g.met.M.Mark.laws.further m.FILLER e.runs.now e.size l.runs.now l.size fits in
    let rs = overlay_runs m.moves m.alike m.FILLER e.runs.now e.size l.runs.now l.size in
    let one : take k c.loop-pos.out ≡ rs = unique m.moves g.met.M.Mark.laws.still states l.size (take k c.loop-pos.out) rs (subst (λ n. RunsOf m.moves states n (take k c.loop-pos.out)) end i.runs) there in
    let size : length rs ≡ k = ap length (sym one) ∙ omega (arith, i.counted, length-take k c.loop-pos.out) in
    let room : length rs ≤ length out = omega (arith, size, i.counted, c.loop-pos.auto.out) in
    record {
      count = ap Some (sym size) ∙ sym (count_room rs out room);
      places =
          sym (take-append-drop k c.loop-pos.out)
          ∙ ap₂ (λ xs ys. xs ++ ys) one (i.behind ∙ ap (λ n. drop n out) (sym size))
          ∙ sym (places_room rs out room);
      runs = there;
      room = λ h. refl;
    }
