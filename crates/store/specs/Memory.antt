-- A piece of memory whose first bytes are an image. Rests on the contract of a store.
use Rattle.std.specs.Prelude.{ℕ, min, List, length, nat_le}
use Rattle.store.specs.declared.contract.TheConstants.{LIMIT}
use Rattle.store.specs.Stores.{Images}

-- the largest size of an image in the memory
abbrev pub flat_room : List ℕ → ℕ
flat_room memory = min (length memory) LIMIT

-- the images that the memory can hold
unfoldable pub flat_set : List ℕ → Images
flat_set memory image = nat_le (length image) (flat_room memory)

-- a piece of memory from a position on: its ghost name, and the bytes that it holds there
pub record MemoryRest : Type 0 where
  pub lender : ℕ
  pub bytes : List ℕ
