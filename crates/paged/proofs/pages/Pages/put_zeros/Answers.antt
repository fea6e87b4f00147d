use Rattle.std.proofs.Common.{◌≡◌, ℕ, ◌+◌, ◌*◌, List, length, take, replicate, sym, ap, ◌∙◌, arith, length-take}
use lib.ListN.{length-replicate}
use Rattle.store.specs.Images.{image_with}
use Rattle.paged.specs.Pages.{all_pages, places}
use Rattle.paged.proofs.Ranges.{zeros_part, zeros_blank, zeros_fill_less}
use Rattle.paged.proofs.pages.Pages.put_zeros.Goals as goal

pub returns-then-count-eq-PAGE : goal.returns-then-count-eq-PAGE
returns-then-count-eq-PAGE c =
    let s = c.args.self.now.paging in
    let told = c.clear.ensures in
    let i : ℕ = c.args.i in
    let all : List ℕ = all_pages s.map.now s.pool.now in
    let start : 256 * i ≡ 256 * i + c.args.from = omega (arith, c.requires.here.1, c.if-count-eq-PAGE.true) in
    record {
      kept = told.kept;
      pages = told.pages ∙ ap (λ o. image_with all o (replicate 256 0)) start ∙ ap (λ n. image_with all (256 * i + c.args.from) (replicate n 0)) (sym c.if-count-eq-PAGE.true);
    }

pub put-requires : goal.put-requires
put-requires c =
    let s = c.args.self.now.paging in
    let i : ℕ = c.args.i in
    let from : ℕ = c.args.from in
    let count : ℕ = c.args.count in
    let zs : List ℕ = take count (replicate {A = ℕ} 256 0) in
    let lz : length zs ≡ count = omega (arith, length-take count (replicate {A = ℕ} 256 0), length-replicate {A = ℕ} 256 0, c.requires.here.1) in
    let long = c.args.self.now.sound.long in
    let less = zeros_fill_less (places s.map.now) (all_pages s.map.now s.pool.now) (256 * i + from) zs (zeros_blank count (omega (arith, c.requires.here.1))) (omega (arith, c.requires.here)) long in
    record {
      here = (c.requires.here.0, omega (arith, c.requires.here.1));
      room = omega (arith, c.args.self.now.sound.counted, c.args.self.now.sound.room);
    }

pub returns : goal.returns
returns c =
    let s = c.args.self.now.paging in
    let told = c.put.ensures in
    record {
      kept = told.kept;
      pages = told.pages ∙ ap (image_with (all_pages s.map.now s.pool.now) (256 * c.args.i + c.args.from)) (zeros_part c.args.count (omega (arith, c.requires.here.1)));
    }
