use Rattle.std.proofs.Common.{refl}
use Rattle.overlay.specs.Runs.{glue}
use Rattle.overlay.specs.States.{overlay_states}
use Rattle.stream.specs.Meaning.{cells, ranges}
use Rattle.stream.specs.Parts.{stream_ranges}
use Rattle.stream.specs.Difference.{meaning, canonical_bytes}
use Rattle.std.specs.Fmt.{digits}
use Rattle.listing.specs.Text.{listing}
use Rattle.store.specs.Memory.{flat_set}
use Rattle.paged.specs.Pages.{paged_set}
use Rattle.apply.specs.Steps.{steps}
use Rattle.apply.specs.Applies.{led_from}
use Rattle.shelf.specs.Entries.{entry}
use Rattle.shelf.specs.Outcomes.{settle_plan}
use Rattle.worked_examples.proofs.worked_examples.Goals as goal

pub returns : goal.returns
unfolding digits glue overlay_states cells ranges stream_ranges meaning canonical_bytes listing flat_set paged_set steps led_from entry settle_plan
returns c = (refl, (refl, (refl, (refl, (refl, (refl, (refl, (refl, (refl, (refl, (refl, (refl, (refl, (refl, (refl, (refl, (refl, (refl, (refl, tt)))))))))))))))))))
