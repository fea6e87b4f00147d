use Rattle.std.proofs.Common.{◌≡◌, length, take}
use Rattle.replay.specs.Replays.{scene, calls_made}
use Rattle.shelf.specs.Series.{largest_size}
use Rattle.store.specs.Stores.{KeepsPast}
use Rattle.replay.proofs.RequestSeries.{Going}
use Rattle.replay.proofs.replays.play.Given as goal

abbrev pub invariant-loop-i : goal.invariant-loop-i
invariant-loop-i g l =
    let m = g.S.Store in
    let holds = m.holds l.initial.base in
    let start = scene l.initial.shelf l.initial.bytes (m.image l.initial.base) l.initial.buffer in
    let rs = take (length l.initial.answers) l.requests in
    (m.holds l.base ≡ holds)
    × Going holds start rs l.initial.answers l.i (scene l.shelf l.bytes (m.image l.base) l.buffer) l.answers
    × KeepsPast m.past l.initial.base l.base (largest_size holds start.world (calls_made holds start rs))
