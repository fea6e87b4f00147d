use Rattle.std.proofs.Common.{◌≡◌, ℕ, ◌+◌, ◌<◌, length, get_or}
use Rattle.paged.specs.Pages.{bytes_before}
use Rattle.paged.specs.State.{all_of}
use Rattle.paged.proofs.pages.Pages.read_range.Given as goal

abbrev pub invariant-loop-i : goal.invariant-loop-i
invariant-loop-i l = record {
  long : length l.buf ≡ length l.initial.buf;
  read : (k : ℕ) → k < bytes_before l.offset (length l.initial.buf) l.i → get_or l.buf k 0 ≡ get_or (all_of l.self.paging) (l.offset + k) 0;
}
