-- Whole runs of a writer, and what the buffer holds after them. Rests on what each call promises,
-- and on reading.
use Rattle.std.specs.Prelude.{◌≡◌, ℕ, List, [], ◌∷◌, ◌++◌, length, take, drop, Ok, Err}
use Rattle.stream.specs.Records.{Content, data_at, zeros_at, stream_bytes, metas}
use Rattle.stream.specs.Verdict.{verdict}
use Rattle.writer.specs.Calls.{Named, Recorded, Finished}
use Rattle.writer.specs.declared.recording.Recording.{Recording}
use Rattle.writer.specs.declared.ended.Ended.{Ended}
use Rattle.writer.specs.declared.refused.Refused.{Refused}

-- calls on one buffer, each with what its contract promises. They lead from a writer and what the
-- buffer holds to another. The list has the data records that were accepted, in their order. Calls
-- that were refused may stand between them
pub data Writes : Recording → List ℕ → List Content → Recording → List ℕ → Type 0 where
  no_more : {w : Recording} {xs : List ℕ} → Writes w xs [] w xs
  write : {u v w : Recording} {xs ys zs : List ℕ} {offset : ℕ} {bytes : List ℕ} {cs : List Content}
      → Recorded u xs (data_at offset bytes) (Ok v) ys → Writes v ys cs w zs → Writes u xs (data_at offset bytes ∷ cs) w zs
  zero : {u v w : Recording} {xs ys zs : List ℕ} {offset n : ℕ} {cs : List Content}
      → Recorded u xs (zeros_at offset n) (Ok v) ys → Writes v ys cs w zs → Writes u xs (zeros_at offset n ∷ cs) w zs
  refused : {u w : Recording} {xs ys zs : List ℕ} {c : Content} {e : Refused Recording} {cs : List Content}
      → Recorded u xs c (Err e) ys → Writes e.writer ys cs w zs → Writes u xs cs w zs
  not_ended : {u w : Recording} {xs ys zs : List ℕ} {e : Refused Recording} {cs : List Content}
      → Finished u xs (Err e) ys → Writes e.writer ys cs w zs → Writes u xs cs w zs

-- a buffer that held xs now holds the stream of a list of records in its first n bytes. These are
-- accepted and read as that list, and the bytes after them are as they were
pub record HoldsStream (xs ys : List ℕ) (n : ℕ) (cs : List Content) : Type 0 where
  pub whole : n ≡ length (stream_bytes cs)
  pub bytes : take n ys ≡ stream_bytes cs
  pub reads : verdict (take n ys) ≡ Ok cs
  pub beyond : drop n ys ≡ drop n xs

-- what a writer has ended is the stream of the names, the size and the records that were accepted,
-- in their order
abbrev pub EndedIsStream : Type 0
EndedIsStream =
    (from to : List ℕ) (size : ℕ) (cs : List Content) (first last : Recording) (done : Ended) (xs₀ xs ys zs : List ℕ)
    → Named xs₀ from to size (Ok first) xs → Writes first xs cs last ys → Finished last ys (Ok done) zs
    → HoldsStream xs₀ zs done.length (metas from to size ++ cs)
