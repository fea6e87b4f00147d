-- Range marks: their comparison decides, so that every list of kinds has canonical runs. Assumes
-- nothing.
use Rattle.std.proofs.Common.{◌≡◌, Decides, refl}
use Rattle.overlay.specs.declared.ranges.RangeMark.{RangeMark}
use Rattle.overlay.specs.declared.ranges.RangeMark.TheVariants.{Zeroed, Written}
use Rattle.overlay.specs.Laws.{RunsExist}
use Rattle.overlay.specs.Marks.{range_moves, range_alike}
use Rattle.overlay.proofs.CanonicalRuns.{exists}

pub range_tells : (m n : RangeMark) → Decides (range_alike m n) (m ≡ n)
range_tells Zeroed Zeroed = (λ e. refl, λ e. refl)
range_tells Zeroed Written = (λ e. cc, λ e. cc)
range_tells Written Zeroed = (λ e. cc, λ e. cc)
range_tells Written Written = (λ e. refl, λ e. refl)

pub ranges_exist : RunsExist range_moves range_alike
ranges_exist = exists range_moves range_alike range_tells (λ m. refl) (λ m a b. refl)
