-- What a stream's parts keep: they rise, their payload lies in its bytes, and some of them do the
-- same. Rests on what parts say.
use Rattle.std.proofs.Common.{ℕ, zero, suc, ◌<◌, ◌≤◌, List, [], ◌∷◌, length, get_or, take, drop, refl, arith, length-drop, length-take}
use Rattle.std.proofs.Math.Logic.{∥∥₁_elim, ∥∥₁_map}
use Rattle.std.specs.Coded.{le_prop}
use Rattle.overlay.specs.declared.runs.Run.{Run}
use Rattle.overlay.specs.declared.payloads.PayloadMark.{PayloadMark}
use Rattle.overlay.specs.declared.payloads.PayloadMark.TheVariants.{Zeroed, Written}
use Rattle.overlay.specs.declared.payloads.Side.{Side}
use Rattle.overlay.specs.declared.payloads.Side.TheVariants.{Later}
use Rattle.overlay.specs.Runs.{run_end, Rising}
use Rattle.overlay.proofs.RunPositions.{rising_le, rising_drop}
use Rattle.stream.specs.Parts.{PayloadIn}
use Rattle.apply.specs.Read.{PayloadLies, WellParted}
use Rattle.apply.proofs.RangeParts.{payload_getD, payloads_drop, payloads_take}

-- the first runs rise too
pub rising_take : {M : Type 0} (a b n : ℕ) (rs : List (Run M)) → Rising a rs b → Rising a (take n rs) b
rising_take a b zero rs h = rising_le a b rs h
rising_take a b (suc n) [] h = h
rising_take a b (suc n) (r ∷ rs) h = (h.0, h.1, rising_take (run_end r) b n rs h.2)

-- a mark says on which side its payload lies
side_of_mark : (bytes : List ℕ) (m : PayloadMark) (n : ℕ) → ∥ ((side : Side) × PayloadIn side bytes m n) ∥₁ → (side : Side) × PayloadIn side bytes m n
side_of_mark bytes Zeroed n h = (Later, tt)
side_of_mark bytes (Written side place) n h = (side, (refl, ∥∥₁_elim h le_prop (λ a. a.1.1)))

module _ (bytes : List ℕ) (parts : List (Run PayloadMark)) (size : ℕ) (h : ∥ WellParted bytes parts size ∥₁) where
  pub parts_few : length parts ≤ 512
  parts_few = ∥∥₁_elim h le_prop (λ w. w.few)

  pub part_lies : (i : ℕ) (d : Run PayloadMark) → i < length parts → PayloadLies bytes (get_or parts i d)
  part_lies i d l = side_of_mark bytes (get_or parts i d).mark (get_or parts i d).length (∥∥₁_map h (λ w. (w.lie.0, payload_getD w.lie.0 bytes parts i d w.lie.1 l)))

  pub front_parted : (n : ℕ) → ∥ WellParted bytes (take n parts) size ∥₁
  front_parted n =
      ∥∥₁_map h (λ w. record { rising = rising_take 0 size n parts w.rising; lie = (w.lie.0, payloads_take w.lie.0 bytes n parts w.lie.1); few = simp (length-take) (let l = w.few in omega arith) })

  pub back_parted : (n : ℕ) → ∥ WellParted bytes (drop n parts) size ∥₁
  back_parted n =
      ∥∥₁_map h (λ w. record { rising = rising_drop size n parts w.rising; lie = (w.lie.0, payloads_drop w.lie.0 bytes n parts w.lie.1); few = simp (length-drop) (let l = w.few in omega arith) })
