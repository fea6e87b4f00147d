use Rattle.std.proofs.Common.{◌≡◌, ℕ, ◌-◌, List, length, take, drop, replicate, ap, ◌∙◌, arith, length-drop, length-take}
use lib.ListN.{length-replicate}
use Rattle.store.proofs.ImageLaws.{put_between}
use Rattle.store.proofs.flat.clear.Goals as goal

pub returns : goal.returns
returns c =
    let memory = c.args.memory.now in
    let start = c.args.places.start in
    let count : ℕ = c.args.places.end - start in
    let zeros : List ℕ = replicate count 0 in
    let long : length (take count (drop start memory)) ≡ count = simp (length-take, length-drop) (omega arith) in
    let filled = ◌∙◌ {c = zeros} (c.fill.ensures.after (λ y e. e)) (ap (λ n. replicate n 0) long) in
    put_between start count memory c.fill.new.self zeros filled (omega (arith, length-replicate {A = ℕ} count 0))
