-- The rest of a buffer from a place on: what is written at its front is written at that place.
use Rattle.std.proofs.Common.{◌≡◌, ℕ, ◌+◌, ◌-◌, ◌≤◌, List, [], ◌++◌, length, take, drop, sym, refl, ap, ◌∙◌, add-zero, zero-add, arith}
use borrow.Rule.Slice.PartMut.{put_mid}
use lib.Seq.{paste}
use Rattle.std.proofs.lemmas.List.{append-nil, drop-drop, drop_all, take_rest, take-append-drop, length-append, length-take, length-drop}
use Rattle.std.proofs.lemmas.List.Edits.{paste_all, paste-paste}
use Rattle.stream.specs.Bytes.{buffer_with}

-- a write at the front of the rest from a on is a write at a
pub lent : (xs ys bs : List ℕ) (a : ℕ) → a + length bs ≤ length xs
    → ys ≡ buffer_with (take (length xs - a) (drop a xs)) 0 bs → put_mid a (length xs - a) xs ys ≡ buffer_with xs a bs
lent xs ys bs a h e =
    let z : drop (length xs - a) (drop a xs) ≡ [] = drop-drop (length xs - a) a xs ∙ drop_all (a + (length xs - a)) xs (omega arith) in
    let d : drop (0 + length bs) (take (length xs - a) (drop a xs)) ≡ drop (a + length bs) xs =
    ap (drop (0 + length bs)) (take_rest xs a) ∙ ap (λ n. drop n (drop a xs)) (zero-add (length bs)) ∙ drop-drop (length bs) a xs in
    let f : ys ++ drop (length xs - a) (drop a xs) ≡ bs ++ drop (a + length bs) xs =
    ap (λ q. ys ++ q) z ∙ append-nil ys ∙ e ∙ ap (λ q. bs ++ q) d in
    ap (λ q. take a xs ++ q) f

-- two writes, the second where the first ends, are one
pub patched_on : (xs bs cs : List ℕ) (a : ℕ) → a + length bs ≤ length xs
    → buffer_with (buffer_with xs a bs) (a + length bs) cs ≡ buffer_with xs a (bs ++ cs)
patched_on xs bs cs a h =
    let le : a ≤ length xs = omega arith in
    sym (paste_all (buffer_with xs a bs) (a + length bs) cs (length cs) refl)
    ∙ ap (λ q. paste q (a + length bs) cs (length cs)) (sym (paste_all xs a bs (length bs) refl))
    ∙ paste-paste xs a bs cs (length bs) (length cs) refl refl le
    ∙ paste_all xs a (bs ++ cs) (length bs + length cs) (sym (length-append bs cs))
    ∙ ap (λ n. take a xs ++ ((bs ++ cs) ++ drop (a + n) xs)) (sym (length-append bs cs))

pub length_patched : (xs bs : List ℕ) (a : ℕ) → a + length bs ≤ length xs → length (buffer_with xs a bs) ≡ length xs
length_patched xs bs a h = simp (length-append, length-take, length-drop) (omega arith)

-- a write at the front of the rest that begins where the bytes written so far end
pub lent_on : (xs₀ xs ys bs cs : List ℕ) (a n : ℕ) → xs ≡ buffer_with xs₀ a bs → n ≡ a + length bs → n + length cs ≤ length xs₀
    → ys ≡ buffer_with (take (length xs - n) (drop n xs)) 0 cs → put_mid n (length xs - n) xs ys ≡ buffer_with xs₀ a (bs ++ cs)
lent_on xs₀ xs ys bs cs a n e m h f =
    let l : length xs ≡ length xs₀ = ap length e ∙ length_patched xs₀ bs a (omega arith) in
    lent xs ys cs n (omega arith) f
    ∙ ap (λ q. buffer_with q n cs) e
    ∙ ap (λ k. buffer_with (buffer_with xs₀ a bs) k cs) m
    ∙ patched_on xs₀ bs cs a (omega arith)

pub patched_none : (xs : List ℕ) (a : ℕ) → buffer_with xs a [] ≡ xs
patched_none xs a = rw add-zero (take-append-drop a xs)
