-- Where two proofs of an equation are one, so that a truncated fact may be used for it.
use Rattle.std.proofs.Common.{List, Option}
use Rattle.std.proofs.Props.{props}
use mathlib.Core.Sum.{⊎_set}
use Rattle.stream.specs.Meaning.{Cell}

pub cells_set : IsSet (List (Option Cell))
cells_set = hlevel (⊎_set, props)
