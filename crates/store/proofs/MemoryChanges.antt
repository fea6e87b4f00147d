-- What a change of a piece of memory makes of the image in it. Rests on the laws of images.
use Rattle.std.proofs.Common.{◌≡◌, ℕ, ◌+◌, ◌<◌, ◌≤◌, min, true, false, leb, List, length, take, refl, ap, ◌∙◌, arith, length-take, le-leb}
use Rattle.std.proofs.lemmas.Bool.{lt-leb}
use Rattle.std.proofs.lemmas.List.{length-replicate}
use borrow.Rule.Slice.PartMut.{put_mid}
use Rattle.store.specs.declared.contract.TheConstants.{LIMIT}
use Rattle.store.specs.Images.{image_with, image_of_size}
use Rattle.store.specs.Memory.{flat_room, flat_set}
use Rattle.store.proofs.ImageLaws.{length_overwritten, take_overwritten, drop_overwritten, length_resized, part_take, take_cleared, put_between}

-- a write through `&mut s[a..a + k]`
pub put_at : (a k : ℕ) (image new : List ℕ) → k ≡ length new → put_mid a k image new ≡ image_with image a new
put_at a k image new e = put_between a k image new new refl e

-- the set hangs on the memory's length alone
pub same_set : (memory : List ℕ) (offset : ℕ) (bytes : List ℕ) → offset + length bytes ≤ length memory → flat_set (image_with memory offset bytes) ≡ flat_set memory
unfolding flat_set
same_set memory offset bytes fits = ap (λ k. λ (b : List ℕ). leb (length b) (min k LIMIT)) (length_overwritten memory offset bytes fits)

-- a range that ends inside the image in a piece of memory
pub inside : (size end : ℕ) (memory : List ℕ) → end ≤ size → size ≤ length memory → leb end (length (take size memory)) ≡ true
inside size end memory h k = le-leb end (length (take size memory)) (omega (arith, length-take size memory))

-- the set has an image with other bytes in it
pub held_over : (size : ℕ) (memory : List ℕ) (offset : ℕ) (bytes : List ℕ) → offset + length bytes ≤ size → size ≤ flat_room memory → flat_set memory (image_with (take size memory) offset bytes) ≡ true
unfolding flat_set
held_over size memory offset bytes h k =
    let front : length (take size memory) ≡ size = length-take size memory ∙ omega arith in
    le-leb _ (flat_room memory) (omega (arith, length_overwritten (take size memory) offset bytes (omega arith)))

-- the set has an image at another size exactly if there is room
pub held_small : (memory image : List ℕ) (size : ℕ) → size ≤ flat_room memory → flat_set memory (image_of_size image size) ≡ true
unfolding flat_set
held_small memory image size h = ap (λ n. leb n (flat_room memory)) (length_resized image size) ∙ le-leb size (flat_room memory) h

pub held_large : (memory image : List ℕ) (size : ℕ) → flat_room memory < size → flat_set memory (image_of_size image size) ≡ false
unfolding flat_set
held_large memory image size h = ap (λ n. leb n (flat_room memory)) (length_resized image size) ∙ lt-leb size (flat_room memory) h

pub ruleset changes = (put_at, same_set, inside, held_over, held_small, held_large, take_overwritten, drop_overwritten, length_overwritten, length-replicate, part_take, take_cleared)
