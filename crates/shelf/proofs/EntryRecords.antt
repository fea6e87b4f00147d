-- An entry's stream is the canonical one of its difference: applying it applies the canonical
-- records.
use Rattle.std.proofs.Common.{◌≡◌, ℕ, List, Ok, sym, ap, ◌∙◌}
use Rattle.apply.specs.Applies.{apply_read, apply_records}
use Rattle.join.proofs.CanonicalRecords.{expressed_read}
use Rattle.overlay.specs.declared.payloads.Side.{Side}
use Rattle.store.specs.Stores.{Images}
use Rattle.stream.specs.Difference.{canonical_records}
use Rattle.stream.specs.Verdict.{verdict}
use Rattle.shelf.specs.declared.planned.Planned.{Planned}
use Rattle.shelf.specs.Planned.{planned_difference, IsOwn}
use Rattle.shelf.proofs.AcceptedStreams.{expressible}

module _ (side : Side) (p : Planned) (h : IsOwn side p) where
  own_verdict : verdict p.stream.bytes.now ≡ Ok (canonical_records (planned_difference p))
  own_verdict = ap verdict (sym h.own) ∙ expressed_read (planned_difference p) (expressible p.stream.bytes.now (planned_difference p) h.means)

  pub own_outcome : (holds : Images) (image : List ℕ) → apply_read holds image (verdict p.stream.bytes.now) ≡ apply_records holds image (canonical_records (planned_difference p))
  own_outcome holds image = ap (apply_read holds image) own_verdict
