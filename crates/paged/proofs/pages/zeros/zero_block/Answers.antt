use Rattle.std.proofs.Common.{rules, tests, ◌≡◌, ℕ, Bool, ◌&&◌, nat_eq, List, [], ◌∷◌, sym, ap, ◌∙◌, ⊎_elim, arith}
use Rattle.std.proofs.Math.Bool.{and-true}
use lib.Bits.{bit_or, or_add_and, and_le_r}
use Rattle.std.specs.List.{fold}
use Rattle.std.proofs.lemmas.Bool.{cases_eq, ne_eqb, and_left}
use Rattle.std.proofs.lemmas.Iterator.{YieldsList-from_slice}
use Rattle.std.proofs.lemmas.Iterator.Consumers.{fold_from_yields_List}
use Rattle.paged.specs.Pages.{blank}
use Rattle.paged.proofs.pages.zeros.zero_block.Goals as goal

-- no bit is set in either exactly if none is set in both together
or_none : (a b : ℕ) (t : Bool) → (nat_eq (bit_or a b) 0 && t) ≡ (nat_eq a 0 && (nat_eq b 0 && t))
or_none a b t =
    ⊎_elim
    (λ (is : a ≡ 0). ap (λ x. nat_eq (bit_or x b) 0 && t) is ∙ sym (ap (λ x. nat_eq x 0 && (nat_eq b 0 && t)) is))
    (λ (ne : a ≡ 0 → ⊥).
    and_left (nat_eq (bit_or a b) 0) t (ne_eqb (bit_or a b) 0 (λ e. ne (omega (arith, or_add_and a b, and_le_r a b))))
    ∙ sym (and_left (nat_eq a 0) (nat_eq b 0 && t) (ne_eqb a 0 ne)))
    (cases_eq a 0)

-- the bits of all bytes together
any_bit : (bits : ℕ) (xs : List ℕ) → nat_eq (fold bit_or bits xs) 0 ≡ (nat_eq bits 0 && blank xs)
any_bit bits [] = sym (and-true (nat_eq bits 0))
any_bit bits (x ∷ xs) = any_bit (bit_or bits x) xs ∙ or_none bits x (blank xs)

pub returns : goal.returns
returns c =
    ap (λ bits. nat_eq bits 0) (fold_from_yields_List _ bit_or 0 c.fold.result c.fold.ensures.ran (YieldsList-from_slice c.args.block.now cc) (λ a x b q k. search (rules, tests)))
    ∙ any_bit 0 c.args.block.now
