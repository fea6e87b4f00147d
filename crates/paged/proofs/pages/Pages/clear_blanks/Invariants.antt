use Rattle.std.proofs.Common.{◌≡◌, length}
use Rattle.store.specs.Images.{image_with}
use Rattle.paged.specs.Pages.{bytes_before}
use Rattle.paged.specs.State.{all_of, KeptBy}
use Rattle.paged.proofs.Ranges.{ReadyUpTo}
use Rattle.paged.proofs.pages.Pages.clear_blanks.Given as goal

abbrev pub invariant-loop-i : goal.invariant-loop-i
invariant-loop-i l = record {
  kept : KeptBy l.initial.self.paging l.self.paging;
  same : image_with (all_of l.self.paging) l.offset l.bytes ≡ image_with (all_of l.initial.self.paging) l.offset l.bytes;
  ready : ReadyUpTo l.offset l.bytes (bytes_before l.offset (length l.bytes) l.i) (all_of l.self.paging);
}
