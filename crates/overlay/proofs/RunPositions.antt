-- What runs mean at a position: before, inside and after them. Assumes nothing.
use Rattle.std.proofs.Common.{◌≡◌, ℕ, zero, suc, ◌+◌, ◌-◌, ◌%◌, ◌^◌, ◌<◌, ◌≤◌, List, [], ◌∷◌, ◌++◌, drop, Some, None, Option, sym, refl, ap, ◌∙◌, ⊎_elim, mod-eq_of_lt, arith}
use Rattle.std.proofs.lemmas.Bool.{cases_lt}
use Rattle.overlay.specs.declared.runs.Run.{Run}
use Rattle.overlay.specs.States.{state_over}
use Rattle.overlay.specs.Runs.{run_end, run_at, state_at, Rising}

pub over_assoc : {M : Type 0} (a b c : Option M) → state_over (state_over a b) c ≡ state_over a (state_over b c)
over_assoc None b c = refl
over_assoc (Some m) b c = refl

-- a state is not both, and has one mark
pub none_some : {C M : Type 0} {m : M} (s : Option M) → s ≡ None → s ≡ Some m → C
none_some s e f = let z : ◌≡◌ {A = ℕ} 0 1 = cc in absurd (omega arith)

pub some_same : {M : Type 0} (m n : M) (s : Option M) → s ≡ Some m → s ≡ Some n → m ≡ n
some_same m n s e f = cc

pub over_none : {M : Type 0} (a : Option M) → state_over a None ≡ a
over_none None = refl
over_none (Some m) = refl

module _ {M : Type 0} (moves : M → ℕ → M) where
  pub at_append : (xs ys : List (Run M)) (p : ℕ) → state_at moves (xs ++ ys) p ≡ state_over (state_at moves xs p) (state_at moves ys p)
  at_append [] ys p = refl
  at_append (x ∷ xs) ys p = ap (state_over (run_at moves x p)) (at_append xs ys p) ∙ sym (over_assoc (run_at moves x p) (state_at moves xs p) (state_at moves ys p))

  pub run_inside : (r : Run M) (p : ℕ) → r.offset ≤ p → p < run_end r → run_at moves r p ≡ Some (moves r.mark (p - r.offset))
  unfolding run_at
  run_inside r p h l = grind arith

  pub run_before : (r : Run M) (p : ℕ) → p < r.offset → run_at moves r p ≡ None
  unfolding run_at
  run_before r p h = grind arith

  pub run_after : (r : Run M) (p : ℕ) → run_end r ≤ p → run_at moves r p ≡ None
  unfolding run_at
  run_after r p h = grind arith

  -- what runs give inside the first of them, and past it
  pub at_inside : (r : Run M) (rs : List (Run M)) (p : ℕ) → r.offset ≤ p → p < run_end r → state_at moves (r ∷ rs) p ≡ Some (moves r.mark (p - r.offset))
  at_inside r rs p a b = rw (run_inside r p a b)

  pub at_past : (r : Run M) (rs : List (Run M)) (p : ℕ) → run_end r ≤ p → state_at moves (r ∷ rs) p ≡ state_at moves rs p
  at_past r rs p a = rw (run_after r p a)

pub rising_wider : {M : Type 0} (a b c : ℕ) (rs : List (Run M)) → Rising a rs b → b ≤ c → Rising a rs c
rising_wider a b c [] h l = omega arith
rising_wider a b c (r ∷ rs) h l = (h.0, h.1, rising_wider (run_end r) b c rs h.2 l)

pub rising_push : {M : Type 0} (a b c : ℕ) (rs : List (Run M)) (r : Run M) → Rising a rs b → b ≤ r.offset → 1 ≤ r.length → run_end r ≤ c → Rising a (rs ++ r ∷ []) c
rising_push a b c [] r h l s e = (omega arith, s, e)
rising_push a b c (x ∷ rs) r h l s e = (h.0, h.1, rising_push (run_end x) b c rs r h.2 l s e)

pub record Last {M : Type 0} (a b : ℕ) (rs : List (Run M)) (r : Run M) : Type 0 where
  pub front : Rising a rs r.offset
  pub some : 1 ≤ r.length
  pub under : run_end r ≤ b

pub rising_last : {M : Type 0} (a b : ℕ) (rs : List (Run M)) (r : Run M) → Rising a (rs ++ r ∷ []) b → Last a b rs r
rising_last a b [] r h = record { front = h.0; some = h.1; under = h.2 }
rising_last a b (x ∷ rs) r h =
    let t = rising_last (run_end x) b rs r h.2 in
    record { front = (h.0, h.1, t.front); some = t.some; under = t.under }

module _ {M : Type 0} (moves : M → ℕ → M) (further : (m : M) (a b : ℕ) → moves (moves m a) b ≡ moves m ((a + b) % 2 ^ 64)) where
  -- moved on by a and then b, where the sum is a number of 64 bits
  pub moves_on : (m : M) (a b c : ℕ) → a + b ≡ c → c < 2 ^ 64 → moves (moves m a) b ≡ moves m c
  moves_on m a b c e l =
      let f : (a + b) % 2 ^ 64 ≡ c = ap (λ n. n % 2 ^ 64) e ∙ mod-eq_of_lt l in
      further m a b ∙ ap (moves m) f

  -- a run that goes on as another is one run with it
  pub merged_at : (r s m : Run M) → run_end r ≡ s.offset → moves r.mark r.length ≡ s.mark → m.offset ≡ r.offset → m.length ≡ r.length + s.length → m.mark ≡ r.mark → m.length < 2 ^ 64
      → (p : ℕ) → run_at moves m p ≡ state_over (run_at moves r p) (run_at moves s p)
  merged_at r s m e f o n k l p =
      ⊎_elim
      (λ h. rw (run_before moves m p (omega arith), run_before moves r p (omega arith), run_before moves s p (omega arith)))
      (λ h.
      ⊎_elim
      (λ i. rw (run_inside moves m p (omega arith) (omega arith), run_inside moves r p (omega arith) i, k, o))
      (λ i.
      ⊎_elim
      (λ j.
      let q : moves s.mark (p - s.offset) ≡ moves m.mark (p - m.offset) =
      ap (λ x. moves x (p - s.offset)) (sym f) ∙ moves_on r.mark r.length (p - s.offset) (p - m.offset) (omega arith) (omega arith) ∙ ap (λ x. moves x (p - m.offset)) (sym k) in
      rw (run_inside moves m p (omega arith) (omega arith), run_after moves r p i, run_inside moves s p (omega arith) (omega arith), q))
      (λ j. rw (run_after moves m p (omega arith), run_after moves r p i, run_after moves s p (omega arith)))
      (cases_lt p (run_end s)))
      (cases_lt p (run_end r)))
      (cases_lt p r.offset)

pub rising_lower : {M : Type 0} (a c b : ℕ) (rs : List (Run M)) → Rising a rs b → c ≤ a → Rising c rs b
rising_lower a c b [] h l = omega arith
rising_lower a c b (r ∷ rs) h l = (omega arith, h.1, h.2)

pub rising_le : {M : Type 0} (a b : ℕ) (rs : List (Run M)) → Rising a rs b → a ≤ b
rising_le a b [] h = h
rising_le a b (r ∷ rs) h = omega (arith, rising_le (run_end r) b rs h.2)

pub rising_drop : {M : Type 0} (b i : ℕ) (rs : List (Run M)) → Rising 0 rs b → Rising 0 (drop i rs) b
rising_drop b zero rs h = h
rising_drop b (suc i) [] h = h
rising_drop b (suc i) (r ∷ rs) h = rising_drop b i rs (rising_lower (run_end r) 0 b rs h.2 (omega arith))

module _ {M : Type 0} (moves : M → ℕ → M) where
  pub at_before : (a b : ℕ) (rs : List (Run M)) (p : ℕ) → Rising a rs b → p < a → state_at moves rs p ≡ None
  at_before a b [] p h l = refl
  at_before a b (r ∷ rs) p h l = rw (run_before moves r p (omega arith)) (at_before (run_end r) b rs p h.2 (omega arith))

  pub at_after : (a b : ℕ) (rs : List (Run M)) (p : ℕ) → Rising a rs b → b ≤ p → state_at moves rs p ≡ None
  at_after a b [] p h l = refl
  at_after a b (r ∷ rs) p h l = rw (run_after moves r p (omega (arith, rising_le (run_end r) b rs h.2))) (at_after (run_end r) b rs p h.2 l)
