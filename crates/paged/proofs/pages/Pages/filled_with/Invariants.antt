use Rattle.std.proofs.Common.{◌≡◌, length, take}
use Rattle.store.specs.Images.{image_with}
use Rattle.paged.specs.Pages.{bytes_before, filled_from}
use Rattle.paged.specs.State.{places_of, all_of}
use Rattle.paged.proofs.pages.Pages.filled_with.Given as goal

-- the count for the bytes before page i
abbrev pub invariant-loop-i : goal.invariant-loop-i
invariant-loop-i l = l.count ≡ filled_from (places_of l.self.paging) (image_with (all_of l.self.paging) l.offset (take (bytes_before l.offset (length l.bytes) l.i) l.bytes))
