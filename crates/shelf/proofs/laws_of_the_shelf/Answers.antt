use Rattle.shelf.proofs.SeriesPromise.{promise}
use Rattle.shelf.proofs.CallRefusals.{refusals_alter_nothing}
use Rattle.shelf.proofs.TableOperations.{laws_of_tables}
use Rattle.shelf.proofs.laws_of_the_shelf.Goals as goal

pub returns : goal.returns
returns c = record { tables = laws_of_tables; refusals = refusals_alter_nothing; comes_back = promise }
