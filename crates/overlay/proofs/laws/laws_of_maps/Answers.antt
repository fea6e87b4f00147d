use Rattle.overlay.proofs.OverlayLaws.{maps_through, maps_through_all}
use Rattle.overlay.proofs.laws.laws_of_maps.Goals as goal

pub returns : goal.returns
returns g c = record { one = maps_through; stretch = maps_through_all }
