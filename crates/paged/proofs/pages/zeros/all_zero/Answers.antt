use Rattle.std.proofs.Common.{rules, tests, eqb, ◌≡◌, ℕ, zero, suc, ◌*◌, ◌/◌, ◌&&◌, List, length, take, drop, sym, refl, ap, ◌∙◌, arith}
use Rattle.std.proofs.Math.Bool.{and_assoc}
use Rattle.std.specs.List.{list_all}
use Rattle.std.specs.Simd.{first_chunks}
use Rattle.std.proofs.lemmas.List.{take-append-drop, drop-drop}
use Rattle.std.proofs.lemmas.List.Folds.{list_all-append}
use Rattle.std.proofs.lemmas.Iterator.{YieldsList-from_slice}
use Rattle.std.proofs.lemmas.Iterator.Search.{all_from_yields_List}
use Rattle.paged.specs.Pages.{blank}
use Rattle.paged.proofs.pages.zeros.all_zero.Goals as goal

-- the first k blocks, and what comes after them
in_blocks : (k : ℕ) (xs : List ℕ) → (list_all blank (first_chunks 32 k xs) && blank (drop (k * 32) xs)) ≡ blank xs
in_blocks zero xs = refl
in_blocks (suc k) xs =
    let on : drop (suc k * 32) xs ≡ drop (k * 32) (drop 32 xs) = sym (drop-drop (k * 32) 32 xs ∙ ap (λ n. drop n xs) (omega arith)) in
    ap (λ ys. list_all blank (first_chunks 32 (suc k) xs) && blank ys) on
    ∙ and_assoc (blank (take 32 xs)) (list_all blank (first_chunks 32 k (drop 32 xs))) (blank (drop (k * 32) (drop 32 xs))) ∙ ap (λ t. blank (take 32 xs) && t) (in_blocks k (drop 32 xs))
    ∙ sym (list_all-append (λ b. eqb b 0) (take 32 xs) (drop 32 xs)) ∙ ap blank (take-append-drop 32 xs)

-- the answer of the first blocks
pub returns-then-all : goal.returns-then-all
returns-then-all c =
    let xs : List ℕ = c.args.bytes.now in
    let k : ℕ = length xs / 32 in
    let firsts : c.all.result ≡ list_all blank (first_chunks 32 k xs) = all_from_yields_List blank _ _ c.all.result c.all.ensures.ran (YieldsList-from_slice (first_chunks 32 k xs) cc) (λ x b q k. search (rules, tests)) in
    c.zero_block.ensures ∙ ap blank c.as_chunks.ensures.back
    ∙ ap (λ t. t && blank (drop (k * 32) xs)) (sym c.if-all.true ∙ firsts) ∙ in_blocks k xs

pub returns-else-all : goal.returns-else-all
returns-else-all c =
    let xs : List ℕ = c.args.bytes.now in
    let k : ℕ = length xs / 32 in
    let firsts : c.all.result ≡ list_all blank (first_chunks 32 k xs) = all_from_yields_List blank _ _ c.all.result c.all.ensures.ran (YieldsList-from_slice (first_chunks 32 k xs) cc) (λ x b q k. search (rules, tests)) in
    c.if-all.false ∙ ap (λ t. t && blank (drop (k * 32) xs)) (sym c.if-all.false ∙ firsts) ∙ in_blocks k xs
