use Rattle.std.proofs.Common.{replicate, take}
use Rattle.store.specs.Images.{image_with}
use Rattle.paged.specs.Pages.{bytes_before}
use Rattle.paged.specs.State.{all_of, Becomes}
use Rattle.paged.proofs.pages.Pages.zero_range.Given as goal

abbrev pub invariant-loop-i : goal.invariant-loop-i
invariant-loop-i l = Becomes l.initial.self.paging l.self.paging (image_with (all_of l.initial.self.paging) l.offset (take (bytes_before l.offset l.count l.i) (replicate l.count 0)))
