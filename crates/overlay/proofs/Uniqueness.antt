-- Canonical runs of the same states are the same, and those of a front of the states are no more,
-- and but for the last the same. Assumes nothing.
use Rattle.std.proofs.Common.{◌≡◌, ℕ, zero, suc, ◌-◌, ◌<◌, ◌≤◌, List, [], ◌∷◌, length, take, Some, Option, sym, refl, ap, ◌∙◌, subst, ⊎_elim, arith}
use Rattle.std.proofs.lemmas.Bool.{cases_lt, cases_order}
use Rattle.overlay.specs.declared.runs.Run.{Run}
use Rattle.overlay.specs.Runs.{run_end, state_at, Rising, Parted, Apart, RunsOf}
use Rattle.overlay.proofs.RunPositions.{at_inside, at_past, rising_le, at_before, none_some, some_same}

run_same : {M : Type 0} (x y : Run M) → x.offset ≡ y.offset → x.length ≡ y.length → x.mark ≡ y.mark → x ≡ y
run_same x y o l m i = record { offset = o i; length = l i; mark = m i }

module _ {M : Type 0} (moves : M → ℕ → M) (still : (m : M) → moves m 0 ≡ m) where
  pub at_first : (r : Run M) (rs : List (Run M)) (p : ℕ) → 1 ≤ r.length → r.offset ≡ p → state_at moves (r ∷ rs) p ≡ Some r.mark
  at_first r rs p s e =
      let z : p - r.offset ≡ 0 = omega arith in
      at_inside moves r rs p (omega arith) (omega arith) ∙ ap Some (ap (moves r.mark) z ∙ still r.mark)

  -- a run does not go on past its end
  pub stops : (r : Run M) (rs : List (Run M)) (b : ℕ) → Rising (run_end r) rs b → Parted moves r rs → state_at moves rs (run_end r) ≡ Some (moves r.mark r.length) → ⊥
  stops r [] b h n e = none_some _ refl e
  stops r (s ∷ rs) b h n e =
      ⊎_elim
      (λ l. none_some _ (at_before moves s.offset b (s ∷ rs) (run_end r) ((omega arith), h.1, h.2) l) e)
      (λ l.
      let o : run_end r ≡ s.offset = omega arith in
      n o (some_same _ _ _ e (at_first s rs (run_end r) h.1 (sym o))))
      (cases_lt (run_end r) s.offset)

  none_left : (c a : ℕ) (xs : List (Run M)) → Rising c xs a → a ≤ c → length xs ≡ 0
  none_left c a [] h l = refl
  none_left c a (x ∷ xs) h l = absurd (omega (arith, rising_le (run_end x) a xs h.2))

  -- all but the last of runs up to a are the first of runs up to b
  record Fronts (a b : ℕ) (xs ys : List (Run M)) : Type 0 where
    fewer : length xs ≤ length ys
    firsts : (k : ℕ) → k < length xs → take k xs ≡ take k ys
    same : a ≡ b → xs ≡ ys

  first_more : (x y : Run M) (xs ys : List (Run M)) → x ≡ y → ((k : ℕ) → k < length xs → take k xs ≡ take k ys) → (k : ℕ) → k < length (x ∷ xs) → take k (x ∷ xs) ≡ take k (y ∷ ys)
  first_more x y xs ys e h zero l = refl
  first_more x y xs ys e h (suc k) l = ap (λ z. z ∷ take k xs) e ∙ ap (λ zs. y ∷ zs) (h k (omega arith))

  fronts : (from a b : ℕ) (xs ys : List (Run M)) → a ≤ b → Rising from xs a → Apart moves xs → Rising from ys b → Apart moves ys
      → ((p : ℕ) → from ≤ p → p < a → state_at moves xs p ≡ state_at moves ys p) → Fronts a b xs ys
  fronts from a b [] [] l rx ax ry ay e = record { fewer = omega arith; firsts = λ k h. absurd (omega arith); same = λ _. refl }
  fronts from a b [] (y ∷ ys) l rx ax ry ay e = record {
    fewer = omega arith;
    firsts = λ k h. absurd (omega arith);
    same = λ q.
        let u = rising_le (run_end y) b ys ry.2 in
        none_some _ (sym (e y.offset ry.0 (omega arith))) (at_first y ys y.offset ry.1 refl);
  }
  fronts from a b (x ∷ xs) [] l rx ax ry ay e =
      let u = rising_le (run_end x) a xs rx.2 in
      none_some _ (e x.offset rx.0 (omega arith)) (at_first x xs x.offset rx.1 refl)
  fronts from a b (x ∷ xs) (y ∷ ys) l rx ax ry ay e =
      let u : run_end x ≤ a = rising_le (run_end x) a xs rx.2 in
      let v : run_end y ≤ b = rising_le (run_end y) b ys ry.2 in
      let not-before : x.offset < y.offset → ⊥ = λ h.
      none_some _ (e x.offset rx.0 (omega arith) ∙ at_before moves y.offset b (y ∷ ys) x.offset ((omega arith), ry.1, ry.2) h) (at_first x xs x.offset rx.1 refl) in
      let not_after : y.offset < x.offset → ⊥ = λ h.
      none_some _ (sym (e y.offset ry.0 (omega arith)) ∙ at_before moves x.offset a (x ∷ xs) y.offset ((omega arith), rx.1, rx.2) h) (at_first y ys y.offset ry.1 refl) in
      let o : x.offset ≡ y.offset = omega arith in
      let m : x.mark ≡ y.mark = some_same _ _ _ (at_first x xs x.offset rx.1 refl) (e x.offset rx.0 (omega arith) ∙ at_first y ys x.offset ry.1 (sym o)) in
      ⊎_elim
      (λ n.
      let t : run_end x ≡ run_end y = omega arith in
      let rest = fronts (run_end x) a b xs ys l rx.2 ax.1 (subst (λ z. Rising z ys b) (sym t) ry.2) ay.1
      (λ p h k. sym (at_past moves x xs p h) ∙ e p (omega arith) k ∙ at_past moves y ys p (omega arith)) in
      record { fewer = omega (arith, rest.fewer); firsts = first_more x y xs ys (run_same x y o n m) rest.firsts; same = λ q. ap (λ z. z ∷ xs) (run_same x y o n m) ∙ ap (λ zs. y ∷ zs) (rest.same q) })
      (⊎_elim
      (λ n.
      let on : run_end x < a → ⊥ = λ h.
      let d : run_end x - y.offset ≡ x.length = omega arith in
      let k : moves y.mark (run_end x - y.offset) ≡ moves x.mark x.length = rw (d, m) in
      stops x xs a rx.2 ax.0 (sym (at_past moves x xs (run_end x) (omega arith)) ∙ e (run_end x) (omega arith) h ∙ at_inside moves y ys (run_end x) (omega arith) (omega arith) ∙ ap Some k) in
      let last : a ≤ run_end x = omega arith in
      let none = none_left (run_end x) a xs rx.2 last in
      record {
        fewer = omega (arith, none);
        firsts = λ k h.
            let z : k ≡ 0 = omega (arith, none) in
            rw z refl;
        same = λ q. absurd (omega arith);
      })
      (λ n.
      let d : run_end y - x.offset ≡ y.length = omega arith in
      let k : moves x.mark (run_end y - x.offset) ≡ moves y.mark y.length = rw (d, m) in
      absurd (stops y ys b ry.2 ay.0 (sym (at_past moves y ys (run_end y) (omega arith)) ∙ sym (e (run_end y) (omega arith) (omega arith)) ∙ at_inside moves x xs (run_end y) (omega arith) (omega arith) ∙ ap Some k))))
      (cases_order x.length y.length)

  -- of canonical runs up to a, all but the last are the first of those up to b
  pub same_firsts : (states : ℕ → Option M) (a b : ℕ) (xs ys : List (Run M)) → a ≤ b → RunsOf moves states a xs → RunsOf moves states b ys → (k : ℕ) → k < length xs → take k xs ≡ take k ys
  same_firsts states a b xs ys l h k =
      (fronts 0 a b xs ys l h.canonical.rising h.canonical.apart k.canonical.rising k.canonical.apart (λ p _ q. h.paints p q ∙ sym (k.paints p (omega arith)))).firsts

  -- canonical runs of a front of the states are no more than those of all
  pub no_fewer : (states : ℕ → Option M) (a b : ℕ) (xs ys : List (Run M)) → a ≤ b → RunsOf moves states a xs → RunsOf moves states b ys → length xs ≤ length ys
  no_fewer states a b xs ys l h k =
      (fronts 0 a b xs ys l h.canonical.rising h.canonical.apart k.canonical.rising k.canonical.apart (λ p _ q. h.paints p q ∙ sym (k.paints p (omega arith)))).fewer

  -- states have at most one list of canonical runs
  pub unique : (states : ℕ → Option M) (n : ℕ) (xs ys : List (Run M)) → RunsOf moves states n xs → RunsOf moves states n ys → xs ≡ ys
  unique states n xs ys h k =
      (fronts 0 n n xs ys (omega arith) h.canonical.rising h.canonical.apart k.canonical.rising k.canonical.apart (λ p _ q. h.paints p q ∙ sym (k.paints p q))).same refl
