use Rattle.std.proofs.Common.{sym, subst}
use Rattle.overlay.specs.Runs.{Rising}
use Rattle.overlay.proofs.RunPositions.{rising_drop}
use Rattle.apply.specs.Read.{WellParted}
use Rattle.apply.proofs.PartFacts.{rising_take, front_parted, back_parted}
use Rattle.apply.proofs.parts.StreamParts.split_before.Goals as goal

pub invariant_of-before : goal.invariant_of-before
invariant_of-before c =
    let s = c.args.self.sheet in
    record { rising = subst (λ ps. Rising 0 ps s.size) (sym c.split_at.ensures.front) (rising_take 0 s.size c.count_before.result s.runs.now s.rising) }

pub invariant_of-after : goal.invariant_of-after
invariant_of-after c =
    let s = c.args.self.sheet in
    record { rising = subst (λ ps. Rising 0 ps s.size) (sym c.split_at.ensures.back) (rising_drop s.size c.count_before.result s.runs.now s.rising) }

pub invariant_of-result : goal.invariant_of-result
invariant_of-result c =
    let s = c.args.self in
    record { parted = subst (λ ps. ∥ WellParted s.bytes.now ps s.sheet.size ∥₁) (sym c.split_at.ensures.front) (front_parted s.bytes.now s.sheet.runs.now s.sheet.size s.parted c.count_before.result) }

pub invariant_of-result-2 : goal.invariant_of-result-2
invariant_of-result-2 c =
    let s = c.args.self in
    record { parted = subst (λ ps. ∥ WellParted s.bytes.now ps s.sheet.size ∥₁) (sym c.split_at.ensures.back) (back_parted s.bytes.now s.sheet.runs.now s.sheet.size s.parted c.count_before.result) }
