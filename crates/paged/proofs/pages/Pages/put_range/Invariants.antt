use Rattle.std.proofs.Common.{length, take}
use Rattle.store.specs.Images.{image_with}
use Rattle.paged.specs.Pages.{bytes_before}
use Rattle.paged.specs.State.{all_of, Becomes}
use Rattle.paged.proofs.pages.Pages.put_range.Given as goal

abbrev pub invariant-loop-i : goal.invariant-loop-i
invariant-loop-i l = Becomes l.initial.self.paging l.self.paging (image_with (all_of l.initial.self.paging) l.offset (take (bytes_before l.offset (length l.bytes) l.i) l.bytes))
