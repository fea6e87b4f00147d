use Rattle.overlay.proofs.OverlayLaws.{bracketing, over_nothing, stretches_unite}
use Rattle.overlay.proofs.laws.laws_of_overlays.Goals as goal

pub returns : goal.returns
returns g c = record { bracketing = bracketing; over_nothing = over_nothing; stretches = stretches_unite }
