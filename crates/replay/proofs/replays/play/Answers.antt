use Rattle.std.proofs.Common.{◌<◌, ◌≤◌, length, take, sym, refl, ◌∙◌, subst, arith, length-take}
use Rattle.std.proofs.lemmas.List.{get_or-take}
use Rattle.replay.specs.Replays.{scene}
use Rattle.replay.proofs.RequestSeries.{begins, one_more, ended, kept_on}
use Rattle.replay.proofs.ReplayPromise.{replays, empty_size}
use Rattle.replay.proofs.replays.play.Goals as goal

pub loop-i-init : goal.loop-i-init
loop-i-init g c = (refl, begins _ _ _ _, λ n l. refl)

pub loop-i-preserved : goal.loop-i-preserved
loop-i-preserved g c =
    let m = g.S.Store in
    let i = c.loop-i.i in
    let n = length c.args.answers.now in
    let made = c.make_call.ensures in
    let k = c.min-count.result in
    let xs = c.args.requests.now in
    let now = scene c.loop-i.shelf c.loop-i.bytes (m.image c.loop-i.base) c.loop-i.buffer in
    let under : i < k = omega (arith, length-take k xs) in
    let here : i < n = omega (arith, length-take k xs) in
    let within : i < length (take n xs) = omega (arith, length-take n xs, length-take k xs) in
    let asked = get_or-take k xs i _ under ∙ sym (get_or-take n xs i _ here) in
    let going = c.loop-i.invariant.1 in
    let more = one_more _ _ _ _ i now c.loop-i.answers going (m.holds c.loop-i.base) c.loop-i.invariant.0 _ _ _ within (omega (arith, c.loop-i.auto.answers, length-take k xs)) asked made.outcome in
    (made.same ∙ c.loop-i.invariant.0, more.0, kept_on m.past c.args.base.now c.loop-i.base c.make_call.new.base _ _ c.loop-i.invariant.2 made.past more.1)

pub returns : goal.returns
returns g c =
    let m = g.S.Store in
    let n = length c.args.answers.now in
    let now = scene c.loop-i.shelf c.loop-i.bytes (m.image c.loop-i.base) c.loop-i.buffer in
    let a = c.args in
    let holds = m.holds a.base.now in
    let image = m.image a.base.now in
    let played = ended _ _ _ _ c.loop-i.i now c.loop-i.answers c.loop-i.invariant.1 (omega (arith, length-take n c.args.requests.now, length-take c.min-count.result c.args.requests.now)) in
    record {
      same = c.loop-i.invariant.0;
      past = λ name made n l. c.loop-i.invariant.2 n (subst (λ k. k ≤ n) (empty_size holds name a.bytes.now image a.buffer.now a.requests.now a.answers.now a.shelf.now made) l);
      replays = λ name made. replays holds name a.bytes.now image a.buffer.now a.requests.now a.answers.now a.shelf.now c.loop-i.shelf c.loop-i.bytes (m.image c.loop-i.base) c.loop-i.buffer c.loop-i.answers made played;
    }
