use Rattle.std.proofs.Common.{List, sym, subst, arith}
use Rattle.overlay.specs.declared.runs.Run.{Run}
use Rattle.overlay.specs.declared.ranges.RangeMark.{RangeMark}
use Rattle.overlay.specs.Runs.{Rising}
use Rattle.apply.proofs.PartFacts.{parts_few}
use Rattle.apply.proofs.RangeKinds.{part_ranges_rise}
use Rattle.apply.proofs.reading.rising_ranges.Goals as goal

pub find_ranges-requires : goal.find_ranges-requires
find_ranges-requires c =
    let s = c.args.stream in
    parts_few s.bytes.now s.sheet.runs.now s.sheet.size s.parted

pub returns : goal.returns
returns c =
    let s = c.args.stream in
    let e = c.find_ranges.ensures in
    let P : List (Run RangeMark) → Type 0 = λ rs. Rising 0 rs s.sheet.size in
    record { within = e.few; rising = subst P (sym e.found) (part_ranges_rise s.sheet.runs.now s.sheet.size (omega arith)); ranges = e.found }
