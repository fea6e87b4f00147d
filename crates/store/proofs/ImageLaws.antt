-- Laws of what the calls of a store make of an image. Rests on the definitions of images.
use Rattle.std.proofs.Common.{◌≡◌, ℕ, ◌+◌, ◌-◌, ◌<◌, ◌≤◌, min, List, [], ◌++◌, length, get_or, take, drop, replicate, sym, refl, ap, ◌∙◌, add-zero, arith, length-append, length-drop, length-take, rules}
use lib.ListN.{length-replicate}
use borrow.Rule.Slice.PartMut.{put_mid}
use Rattle.std.proofs.lemmas.List.{same_lists, places, take-append-drop}
use Rattle.std.proofs.lemmas.Slice.{put_mid-paste}
use Rattle.std.proofs.lemmas.List.Edits.{paste_all}
use Rattle.store.specs.Images.{part, image_with, image_of_size}

-- where each byte of an overwritten image comes from
module _ (image : List ℕ) (offset : ℕ) (bytes : List ℕ) (fits : offset + length bytes ≤ length image) where
  pub length_overwritten : length (image_with image offset bytes) ≡ length image
  length_overwritten = simp (length-append, length-take, length-drop) (omega arith)

  pub overwritten_in : (p : ℕ) → offset ≤ p → p < offset + length bytes → get_or (image_with image offset bytes) p 0 ≡ get_or bytes (p - offset) 0
  overwritten_in p h k = grind (arith, places)

  pub overwritten_before : (p : ℕ) → p < offset → get_or (image_with image offset bytes) p 0 ≡ get_or image p 0
  overwritten_before p h = grind (arith, places)

  pub overwritten_after : (p : ℕ) → offset + length bytes ≤ p → get_or (image_with image offset bytes) p 0 ≡ get_or image p 0
  overwritten_after p h = grind (arith, places)

-- a front of the image that has the whole range
pub take_overwritten : (n : ℕ) (image : List ℕ) (offset : ℕ) (bytes : List ℕ) → offset + length bytes ≤ n → n ≤ length image → take n (image_with image offset bytes) ≡ image_with (take n image) offset bytes
take_overwritten n image offset bytes inside fits = same_lists _ _ (search (rules, places)) (λ i d l. grind (arith, places))

-- what lies past the range
pub drop_overwritten : (n : ℕ) (image : List ℕ) (offset : ℕ) (bytes : List ℕ) → offset + length bytes ≤ n → offset + length bytes ≤ length image → drop n (image_with image offset bytes) ≡ drop n image
drop_overwritten n image offset bytes inside fits = same_lists _ _ (omega (arith, length_overwritten image offset bytes fits, length-drop n (image_with image offset bytes), length-drop n image)) (λ i d l. grind (arith, places))

pub part_take : (n : ℕ) (image : List ℕ) (offset count : ℕ) → offset + count ≤ n → n ≤ length image → part (take n image) offset count ≡ part image offset count
part_take n image offset count inside fits = same_lists _ _ (search (rules, places)) (λ i d l. grind (arith, places))

-- no bytes change nothing
pub overwritten_none : (image : List ℕ) (offset : ℕ) → image ≡ image_with image offset []
overwritten_none image offset = sym (take-append-drop offset image) ∙ ap (λ n. take offset image ++ drop n image) (sym (add-zero offset))

pub length_resized : (image : List ℕ) (size : ℕ) → length (image_of_size image size) ≡ size
length_resized image size = simp (length-append, length-take, length-replicate) (omega arith)

-- the bytes of an image at another size: zeros past its end
pub getD_resized : (image : List ℕ) (size p : ℕ) → p < size → get_or (image_of_size image size) p 0 ≡ get_or image p 0
getD_resized image size p l = grind (arith, places)

-- growth writes zeros from the old size on
pub take_cleared : (old new : ℕ) (memory : List ℕ) → old ≤ length memory → new ≤ length memory → take new (image_with memory (min new old) (replicate (new - min new old) 0)) ≡ image_of_size (take old memory) new
take_cleared old new memory h k = same_lists _ _ (search (rules, places)) (λ i d l. grind (arith, places))

-- a write through `&mut s[a..a + k]`
pub put_between : (a k : ℕ) (image new bytes : List ℕ) → new ≡ bytes → k ≡ length bytes → put_mid a k image new ≡ image_with image a bytes
put_between a k image new bytes e h = put_mid-paste a k image new bytes k e refl h ∙ paste_all image a bytes k h ∙ ap (λ n. take a image ++ (bytes ++ drop (a + n) image)) h
