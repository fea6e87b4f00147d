-- What the calls of a store make of an image, the list of its bytes. Rests on nothing: the layers
-- of streams and of stores know nothing of each other, so streams have definitions like these of
-- their own (stream/specs/Bytes).
use Rattle.std.specs.Prelude.{ℕ, ◌+◌, ◌-◌, List, ◌++◌, length, take, drop, replicate}

-- the bytes of an image from an offset on, as many as count says
abbrev pub part : List ℕ → ℕ → ℕ → List ℕ
part image offset count = take count (drop offset image)

-- the image with these bytes in the place of those from offset on
abbrev pub image_with : List ℕ → ℕ → List ℕ → List ℕ
image_with image offset bytes = take offset image ++ (bytes ++ drop (offset + length bytes) image)

-- the image cut at its end, or made longer by zeros
abbrev pub image_of_size : List ℕ → ℕ → List ℕ
image_of_size image size = take size image ++ replicate (size - length image) 0
