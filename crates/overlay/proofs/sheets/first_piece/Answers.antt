use Rattle.std.proofs.Common.{◌≡◌, ◌^◌, ◌<◌, ◌≤◌, [], arith, rules}
use Rattle.std.proofs.lemmas.List.{nil_from_length}
use Rattle.overlay.specs.Runs.{run_end}
use Rattle.overlay.proofs.RunPositions.{rising_le}
use Rattle.overlay.proofs.WalkPieces.{first_of, even_gap, even_run, edges_size, edges_offset, edges_ends}
use Rattle.overlay.proofs.sheets.first_piece.Goals as goal

pub end-requires : goal.end-requires
end-requires g c =
    let runs = c.args.runs.now in
    let size = c.args.size in
    let run = c.run-item-2.result in
    let is = first_of runs run (omega arith) c.run-item-2.is in
    let under = rising_le (run_end run) size _ (rw is at c.requires.rising).2 in
    let fits : c.args.size < 2 ^ 64 = search rules in
    omega arith

pub returns-in-empty : goal.returns-in-empty
returns-in-empty g c =
    let runs = c.args.runs.now in
    let size = c.args.size in
    let none : runs ≡ [] = nil_from_length runs (omega arith) in
    record {
      even = record { more = c.requires.below; under = omega arith; same = λ p a b. rw none };
      nears = edges_size runs c.args.pos size c.requires.below;
    }

pub returns-in-len1-up : goal.returns-in-len1-up
returns-in-len1-up g c =
    let runs = c.args.runs.now in
    let size = c.args.size in
    let run = c.run-item.result in
    let is = first_of runs run (omega arith) c.run-item.is in
    rw is (record {
      even = even_gap g.M.Mark.moves c.args.pos size run _ (rw is at c.requires.rising) c.if-pos-run.true;
      nears = edges_offset c.args.pos size run _ c.if-pos-run.true;
    })

pub returns-in-len1-up-2 : goal.returns-in-len1-up-2
returns-in-len1-up-2 g c =
    let runs = c.args.runs.now in
    let size = c.args.size in
    let run = c.run-item-2.result in
    let is = first_of runs run (omega arith) c.run-item-2.is in
    let also = first_of runs c.run-item.result (omega arith) c.run-item.is in
    let one : c.run-item.result ≡ run = cc in
    let fits : c.args.size < 2 ^ 64 = search rules in
    let from : run.offset ≤ c.args.pos = rw one at c.if-pos-run.false in
    let ahead = rw is at c.requires.ahead in
    rw (c.end.ensures, is) (record {
      even = even_run g.M.Mark.moves c.args.pos size run _ (rw is at c.requires.rising) g.met.M.Mark.laws.further fits from ahead c.moved.result c.moved.ensures;
      nears = edges_ends c.args.pos size run _ ahead;
    })
