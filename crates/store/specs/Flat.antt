-- What a flat image means. Rests on the contract of a store, and on the memory that has the image.
use Rattle.std.specs.Prelude.{ℕ, List, length, take, drop}
use Rattle.std.proofs.Math.Nat.{le_trans, le_of_eq, min-le_left, min-le_right}
use Rattle.std.proofs.lemmas.Bool.{le-leb, leb-true}
use Rattle.std.proofs.lemmas.List.{length-take}
use Rattle.store.specs.declared.contract.TheConstants.{LIMIT}
use Rattle.store.specs.Stores.{Images, Laws}
use Rattle.store.specs.Memory.{MemoryRest, flat_room, flat_set}
use Rattle.store.specs.declared.flat.FlatImage.{FlatImage}

-- what the lent memory holds
abbrev pub flat_memory : FlatImage → List ℕ
flat_memory s = s.bytes.now

-- its bytes now
abbrev pub flat_image : FlatImage → List ℕ
flat_image s = take s.size (flat_memory s)

-- the images that it can hold: every image up to the memory's length and the limit
abbrev pub flat_holds : FlatImage → Images
flat_holds s = flat_set (flat_memory s)

-- the lent memory from a position on
abbrev pub flat_past : FlatImage → ℕ → MemoryRest
flat_past s n = record { lender = s.bytes.ghost_name; bytes = drop n (flat_memory s) }

pub flat_laws : Laws flat_image flat_holds
unfolding flat_set
flat_laws = record {
  present = λ s.
      let short = le_of_eq (length-take s.size (flat_memory s)) in
      let inside = le_trans (min-le_left s.size (length (flat_memory s))) s.fits in
      le-leb (length (flat_image s)) (flat_room (flat_memory s)) (le_trans short inside);
  limited = λ s b held.
      let long = length (flat_memory s) in
      le_trans (leb-true (length b) (flat_room (flat_memory s)) held) (min-le_right long LIMIT);
}
