use Rattle.std.proofs.Common.{◌≡◌, ◌+◌, ◌-◌, ◌*◌, ◌≤◌, length, take, drop}
use Rattle.overlay.specs.Runs.{RunsOf, overlay_state_at}
use Rattle.overlay.specs.Walks.{Left, edges}
use Rattle.overlay.proofs.overlays.walk.Given as goal

abbrev pub invariant-loop-pos : goal.invariant-loop-pos
invariant-loop-pos g l =
    let m = g.M.Mark in
    record {
      within : l.pos ≤ l.later.size;
      counted : l.k ≤ length l.out;
      runs : RunsOf m.moves (overlay_state_at m.moves m.FILLER l.earlier.runs.now l.earlier.size l.later.runs.now) l.pos (take l.k l.out);
      under_size : l.under.size ≡ l.earlier.size;
      under_left : Left m.moves l.earlier.runs.now l.pos l.under.runs.now;
      over_size : l.over.size ≡ l.later.size;
      over_left : Left m.moves l.later.runs.now l.pos l.over.runs.now;
      room : l.k + (edges l.pos l.under.runs.now l.under.size + edges l.pos l.over.runs.now l.over.size) ≤ 2 * (length l.earlier.runs.now + length l.later.runs.now) + 2;
      behind : drop l.k l.out ≡ drop l.k l.initial.out;
    }

abbrev pub decreases-loop-pos : goal.decreases-loop-pos
decreases-loop-pos g l = l.later.size - l.pos
