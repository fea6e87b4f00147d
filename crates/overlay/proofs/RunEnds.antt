-- A run or a piece added after canonical runs. Assumes nothing.
use Rattle.std.proofs.Common.{◌≡◌, ℕ, ◌+◌, ◌-◌, ◌%◌, ◌^◌, ◌<◌, ◌≤◌, List, [], ◌∷◌, ◌++◌, length, get_or, take, set, Some, None, sym, refl, ap, ◌∙◌, subst, arith}
use Rattle.std.proofs.lemmas.List.{take_more, take_more_set, take_all, length-set, length_push, nil_from_length}
use Rattle.overlay.specs.declared.runs.Run.{Run}
use Rattle.overlay.specs.declared.runs.Piece.{Piece}
use Rattle.overlay.specs.States.{state_over}
use Rattle.overlay.specs.Runs.{run_end, run_at, state_at, Rising, Apart, Canonical}
use Rattle.overlay.specs.Walks.{moved_state, Pushed, Grown}
use Rattle.overlay.proofs.RunPositions.{over_assoc, over_none, at_append, run_inside, run_before, rising_wider, rising_push, rising_last, merged_at, at_after}

module _ {M : Type 0} (moves : M → ℕ → M) (further : (m : M) (a b : ℕ) → moves (moves m a) b ≡ moves m ((a + b) % 2 ^ 64)) where
  apart_push : (xs : List (Run M)) (l r : Run M) → Apart moves (xs ++ l ∷ []) → (run_end l ≡ r.offset → moves l.mark l.length ≡ r.mark → ⊥) → Apart moves ((xs ++ l ∷ []) ++ r ∷ [])
  apart_push [] l r h n = (n, (tt, tt))
  apart_push (x ∷ []) l r h n = (h.0, apart_push [] l r h.1 n)
  apart_push (x ∷ (y ∷ xs)) l r h n = (h.0, apart_push (y ∷ xs) l r h.1 n)

  apart_last : (xs : List (Run M)) (l m : Run M) → m.offset ≡ l.offset → m.mark ≡ l.mark → Apart moves (xs ++ l ∷ []) → Apart moves (xs ++ m ∷ [])
  apart_last [] l m o k h = (tt, tt)
  apart_last (x ∷ []) l m o k h = ((λ e f. h.0 (e ∙ o) (f ∙ k)), apart_last [] l m o k h.1)
  apart_last (x ∷ (y ∷ xs)) l m o k h = (h.0, apart_last (y ∷ xs) l m o k h.1)

  push_first : (r : Run M) → 1 ≤ r.length → Pushed moves [] r (r ∷ [])
  push_first r s = record { rising = (omega arith, s, omega arith); apart = (tt, tt); paints = λ p. over_none _; keeps = omega arith; grows = omega arith }

  push_next : (xs : List (Run M)) (l r : Run M) → Rising 0 (xs ++ l ∷ []) r.offset → Apart moves (xs ++ l ∷ []) → 1 ≤ r.length
      → (run_end l ≡ r.offset → moves l.mark l.length ≡ r.mark → ⊥) → Pushed moves (xs ++ l ∷ []) r ((xs ++ l ∷ []) ++ r ∷ [])
  push_next xs l r h a s n = record {
    rising = rising_push 0 r.offset (run_end r) (xs ++ l ∷ []) r h (omega arith) s (omega arith);
    apart = apart_push xs l r a n;
    paints = λ p. at_append moves (xs ++ l ∷ []) (r ∷ []) p ∙ ap (state_over (state_at moves (xs ++ l ∷ []) p)) (over_none _);
    keeps = omega (arith, length_push (xs ++ l ∷ []) r);
    grows = omega (arith, length_push (xs ++ l ∷ []) r);
  }

  push_merged : (xs : List (Run M)) (l r m : Run M) → Rising 0 (xs ++ l ∷ []) r.offset → Apart moves (xs ++ l ∷ []) → 1 ≤ r.length → run_end r < 2 ^ 64
      → run_end l ≡ r.offset → moves l.mark l.length ≡ r.mark
      → m.offset ≡ l.offset → m.length ≡ l.length + r.length → m.mark ≡ l.mark
      → Pushed moves (xs ++ l ∷ []) r (xs ++ m ∷ [])
  push_merged xs l r m h a s b e f o n k =
      let t = rising_last 0 r.offset xs l h in
      record {
        rising = rising_push 0 l.offset (run_end r) xs m t.front (omega arith) (omega arith) (omega arith);
        apart = apart_last xs l m o k a;
        keeps = omega (arith, length_push xs l, length_push xs m);
        grows = omega (arith, length_push xs l, length_push xs m);
        paints = λ p.
            let whole = merged_at moves further l r m e f o n k (omega arith) p in
            at_append moves xs (m ∷ []) p ∙ ap (λ z. state_over (state_at moves xs p) z) (over_none _ ∙ whole)
            ∙ sym (over_assoc (state_at moves xs p) (run_at moves l p) (run_at moves r p))
            ∙ ap (λ z. state_over z (run_at moves r p)) (ap (state_over (state_at moves xs p)) (sym (over_none _)) ∙ sym (at_append moves xs (l ∷ []) p));
      }

-- a list with its last apart
pub last_of : {X : Type 0} (xs : List X) (l : X) → 1 ≤ length xs → l ≡ get_or xs (length xs - 1) l → xs ≡ take (length xs - 1) xs ++ l ∷ []
last_of xs l h e =
    let n : length xs - 1 + 1 ≡ length xs = omega arith in
    sym (take_all (length xs) xs (omega arith)) ∙ rw (n) at (take_more xs (length xs - 1) l (omega arith)) ∙ ap (λ x. take (length xs - 1) xs ++ x ∷ []) (sym e)

-- and with another last
pub last_set : {X : Type 0} (xs : List X) (m : X) → 1 ≤ length xs → set xs (length xs - 1) m ≡ take (length xs - 1) xs ++ m ∷ []
last_set xs m h =
    let n : length xs - 1 + 1 ≡ length xs = omega arith in
    sym (take_all (length xs) (set xs (length xs - 1) m) (simp length-set (omega arith))) ∙ rw (n) at (take_more_set xs (length xs - 1) m (omega arith))

-- a run after others of which it may go on as the last
module _ {M : Type 0} (moves : M → ℕ → M) (further : (m : M) (a b : ℕ) → moves (moves m a) b ≡ moves m ((a + b) % 2 ^ 64)) (xs : List (Run M)) (r : Run M)
    (rising : Rising 0 xs r.offset) (apart : Apart moves xs) (some : 1 ≤ r.length) where
  pub added_first : length xs < 1 → Pushed moves xs r (xs ++ r ∷ [])
  added_first h = subst (λ ys. Pushed moves ys r (ys ++ r ∷ [])) (sym (nil_from_length xs (omega arith))) (push_first moves further r some)

  module _ (l : Run M) (h : 1 ≤ length xs) (e : l ≡ get_or xs (length xs - 1) l) where
    pub last_under : run_end l ≤ r.offset
    last_under = (rising_last 0 r.offset (take (length xs - 1) xs) l (subst (λ ys. Rising 0 ys r.offset) (last_of xs l h e) rising)).under

    pub added_next : ((run_end l ≡ r.offset) × (moves l.mark l.length ≡ r.mark) → ⊥) → Pushed moves xs r (xs ++ r ∷ [])
    added_next n =
        let split = last_of xs l h e in
        subst (λ ys. Pushed moves ys r (ys ++ r ∷ [])) (sym split)
        (push_next moves further (take (length xs - 1) xs) l r (subst (λ ys. Rising 0 ys r.offset) split rising) (subst (Apart moves) split apart) some (λ a b. n (a, b)))

    pub merged : run_end r < 2 ^ 64 → (run_end l ≡ r.offset) × (moves l.mark l.length ≡ r.mark) → Pushed moves xs r (set xs (length xs - 1) (record { offset = l.offset; length = l.length + r.length; mark = l.mark }))
    merged b on =
        let split = last_of xs l h e in
        let m : Run M = record { offset = l.offset; length = l.length + r.length; mark = l.mark } in
        subst (λ ys. Pushed moves xs r ys) (sym (last_set xs m h))
        (subst (λ ys. Pushed moves ys r (take (length xs - 1) xs ++ m ∷ [])) (sym split)
        (push_merged moves further (take (length xs - 1) xs) l r m (subst (λ ys. Rising 0 ys r.offset) split rising) (subst (Apart moves) split apart) some b on.0 on.1 refl refl refl))

module _ {M : Type 0} (moves : M → ℕ → M) (before : List (Run M)) (pos : ℕ) (piece : Piece M) (canonical : Canonical moves before pos) (more : pos < piece.stop) where
  pub grown_kept : piece.state ≡ None → Grown moves before pos piece before
  grown_kept e = record {
    canonical = record { rising = rising_wider 0 pos piece.stop before canonical.rising (omega arith); apart = canonical.apart };
    keeps = omega arith;
    grows = omega arith;
    old = λ p l. refl;
    new = λ p a b. at_after moves 0 pos before p canonical.rising a ∙ ap (λ s. moved_state moves s (p - pos)) (sym e);
  }

  pub grown_run : (mark : M) → piece.state ≡ Some mark → (r : Run M) → r.offset ≡ pos → r.length ≡ piece.stop - pos → r.mark ≡ mark → (after : List (Run M)) → Pushed moves before r after → Grown moves before pos piece after
  grown_run mark e r o n k after h = record {
    canonical = record { rising = rising_wider 0 (run_end r) piece.stop after h.rising (omega arith); apart = h.apart };
    keeps = h.keeps;
    grows = h.grows;
    old = λ p l. h.paints p ∙ ap (state_over (state_at moves before p)) (run_before moves r p (omega arith)) ∙ over_none _;
    new = λ p a b.
        let q : Some (moves r.mark (p - r.offset)) ≡ Some (moves mark (p - pos)) = rw (k, o) in
        h.paints p
        ∙ ap (λ s. state_over s (run_at moves r p)) (at_after moves 0 pos before p canonical.rising a)
        ∙ run_inside moves r p (omega arith) (omega arith)
        ∙ q
        ∙ ap (λ s. moved_state moves s (p - pos)) (sym e);
  }
