-- Bytes in hexadecimal are spelled by their digits, and pairs of characters are the text. Assumes
-- nothing.
use Rattle.std.proofs.Common.{◌≡◌, ℕ, zero, suc, ◌+◌, ◌*◌, ◌/◌, ◌%◌, ◌<◌, ◌==◌, ◌&&◌, inl, inr, List, [], ◌∷◌, ◌++◌, length, slice_index, take, drop, Bool, true, false, eqb, sym, refl, ap, ◌∙◌, ap₂, arith}
use Rattle.hex.specs.Hex.{encode_with, encode_lower, lower_digits}
use Rattle.std.proofs.lemmas.Bool.{and_parts, cases_lt, eqb-true}
use Rattle.std.proofs.lemmas.List.{take_all}
use Rattle.std.proofs.Math.Seq.{take-add}
use Rattle.std.specs.List.{flat_map}
use Rattle.std.specs.Simd.{first_chunks}
use Rattle.case_words.specs.Digits.{digit_of}
use Rattle.case_words.specs.Spelling.{digits_of, word_of}

-- the test that the first n digits of the table are the digits
abbrev same_digits : ℕ → Bool
same_digits zero = true
same_digits (suc n) = (slice_index lower_digits n == digit_of n) && same_digits n

digit_at : (n k : ℕ) → same_digits n ≡ true → k < n → slice_index lower_digits k ≡ digit_of k
digit_at zero k h less = absurd (omega arith)
digit_at (suc n) k h less =
    let parts = and_parts (slice_index lower_digits n == digit_of n) (same_digits n) h in
    elim (cases_lt k n) [
      | inl below ↦ digit_at n k parts.1 below
      | inr top ↦
          let e : k ≡ n = omega arith in
          rw e (eqb-true (slice_index lower_digits n) (digit_of n) parts.0)
    ]

-- bytes in hexadecimal are spelled by their digits
pub spelled : (bytes : List ℕ) → ((i : ℕ) → slice_index bytes i < 256) → encode_lower bytes ≡ digits_of bytes
unfolding encode_with
spelled [] h = refl
spelled (b ∷ bs) h =
    let fits : b < 256 = h 0 in
    let high = digit_at 16 (b / 16) refl (omega arith) in
    let low = digit_at 16 (b % 16) refl (omega arith) in
    ap₂ (λ x y. x ∷ y ∷ encode_lower bs) high low ∙ ap (λ ds. digit_of (b / 16) ∷ (digit_of (b % 16) ∷ ds)) (spelled bs (λ i. h (suc i)))

-- bytes that are some are spelled by their digits
pub word_some : (bytes : List ℕ) → eqb (length bytes) 0 ≡ false → digits_of bytes ≡ word_of bytes
word_some [] e = cc
word_some (b ∷ bs) e = refl

-- the first pairs of a text, one after another
pub pairs_joined : (k : ℕ) (text : List ℕ) → flat_map (λ p. p) (first_chunks 2 k text) ≡ take (2 * k) text
pairs_joined zero text = refl
pairs_joined (suc k) text =
    let e : 2 + 2 * k ≡ 2 * suc k = omega arith in
    ap (λ rest. take 2 text ++ rest) (pairs_joined k (drop 2 text)) ∙ sym (take-add 2 (2 * k) text) ∙ ap (λ n. take n text) e

pub ruleset pairs = (pairs_joined, take_all)
