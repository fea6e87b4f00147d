-- How many digits a number has in decimal.
use Rattle.std.proofs.Common.{◌≡◌, ℕ, zero, suc, ◌+◌, ◌*◌, ◌/◌, ◌^◌, ◌<◌, ◌≤◌, length, decimal, arith}
use Rattle.std.proofs.Math.Nat.{pow-suc}
use Rattle.itoa.proofs.Decimal.{length_one, length_step_wide}

-- a number from a power of ten up to the next has one digit more than the power has zeros
pub length_decimal : (k n : ℕ) → n < 2 ^ 64 → 10 ^ k ≤ n → n < 10 * 10 ^ k → length (decimal n) ≡ k + 1
length_decimal zero n small low high = length_one n (omega arith)
length_decimal (suc k) n small low high =
    let p = pow-suc 10 k in
    let s = length_step_wide n (omega arith) (omega arith) in
    let h = length_decimal k (n / 10) (omega arith) (omega arith) (omega arith) in
    omega arith
