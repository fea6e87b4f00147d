use Rattle.std.proofs.Common.{◌≡◌, true, sym, ap, ◌∙◌}
use Rattle.std.proofs.lemmas.Bool.{and_parts}
use Rattle.stream.specs.Difference.{meaning, canonical_bytes}
use Rattle.stream.proofs.ReadRecords.{same_back}
use Rattle.table.specs.Entries.{row_of}
use Rattle.shelf.specs.Planned.{planned_difference}
use Rattle.shelf.specs.Entries.{is_whole}
use Rattle.shelf.proofs.planned.Planned.of_row.Goals as goal

pub returns-clause-own : goal.returns-clause-own
returns-clause-own c =
    let p = c.in_ok-planned.planned in
    let e = c.in_ok-planned.ensures in
    let whole : is_whole (row_of c.args.row) p.stream.bytes.now (planned_difference p) ≡ true = sym c.if-not-is_whole.ensures in
    record {
      means = ap meaning e.bytes ∙ sym e.means;
      own = same_back (canonical_bytes (planned_difference p)) p.stream.bytes.now (and_parts _ _ whole).0;
      on_side = e.on_side;
    }
