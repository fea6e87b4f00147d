use Rattle.writer.proofs.CallSeries.{ended_is_stream}
use Rattle.writer.proofs.whole_runs.Goals as goal

pub returns : goal.returns
returns c = ended_is_stream c.laws_of_reading.ensures.reads_back
