use Rattle.std.proofs.Common.{refl}
use Rattle.stream.proofs.WrittenRecords.{reads_back}
use Rattle.stream.proofs.StreamRefusals.{accepted_is_stream, refused_exactly}
use Rattle.stream.proofs.RecordRefusals.{refuses_exactly}
use Rattle.stream.proofs.SoundLists.{accepted_exactly, sound_exactly}
use Rattle.stream.proofs.PlacedRecords.{places_match}
use Rattle.stream.proofs.laws_of_reading.Goals as goal

pub returns : goal.returns
returns c =
    record {
      reads_back = reads_back;
      is_stream = accepted_is_stream;
      accepted = accepted_exactly;
      refused = refused_exactly;
      refusals = refuses_exactly;
      sound = sound_exactly;
      places_match = places_match;
      limits = record { records = refl; name = refl; size = refl; name_head = refl; size_head = refl; range_head = refl };
    }
