-- Runs in the first places of a buffer. Assumes nothing.
use Rattle.std.proofs.Common.{◌≡◌, ℕ, ◌+◌, ◌-◌, ◌<◌, ◌≤◌, List, [], ◌∷◌, ◌++◌, length, take, drop, Some, None, Option, sym, refl, ap, ◌∙◌, ⊎_elim, arith}
use Rattle.std.proofs.lemmas.List.{take_all, take-append-le, drop_all, drop_at, drop-drop, length_push, append-nil}
use Rattle.std.proofs.lemmas.Bool.{cases_lt, le-leb, lt-leb}
use Rattle.overlay.specs.declared.runs.Run.{Run}
use Rattle.overlay.specs.Buffers.{run_count, first_places, Fills}
use Rattle.overlay.proofs.RunPositions.{some_same, none_some}

-- a front that is written back
pub taken : {X : Type 0} (k : ℕ) (xs ys : List X) → length xs ≡ k → take k (xs ++ ys) ≡ xs
taken k xs ys e = take-append-le k xs ys (omega arith) ∙ take_all k xs (omega arith)

-- what k counted runs are, and what the buffer then holds
pub record Placed {X : Type 0} (runs before after : List X) (k : ℕ) : Type 0 where
  pub count : k ≡ length runs
  pub room : k ≤ length before
  pub firsts : take k after ≡ runs
  pub others : drop k after ≡ drop k before

module _ {X : Type 0} (runs buffer : List X) where
  pub count_room : length runs ≤ length buffer → run_count runs buffer ≡ Some (length runs)
  count_room l = rw (le-leb (length runs) (length buffer) l)

  pub count_full : length buffer < length runs → run_count runs buffer ≡ None
  count_full l = rw (lt-leb (length runs) (length buffer) l)

  -- runs for which there is room stand before what was there
  pub places_room : length runs ≤ length buffer → first_places runs buffer ≡ runs ++ drop (length runs) buffer
  places_room l = ap (λ xs. xs ++ drop (length runs) buffer) (take_all (length buffer) runs l)

  -- of more runs than that, the first fill the buffer
  pub places_full : length buffer < length runs → first_places runs buffer ≡ take (length buffer) runs
  places_full l = ap (λ xs. take (length buffer) runs ++ xs) (drop_all (length runs) buffer (omega arith)) ∙ append-nil _

  -- other runs whose first fill it are these
  pub places_same : (others after : List X) (n : ℕ) → n ≡ length buffer → after ≡ take n others → take (length buffer) others ≡ take (length buffer) runs → length buffer < length runs → after ≡ first_places runs buffer
  places_same others after n e a t l = a ∙ ap (λ m. take m others) e ∙ t ∙ sym (places_full l)

  pub placed : (k : ℕ) (result : Option ℕ) (after : List X) → result ≡ Some k → result ≡ run_count runs buffer → after ≡ first_places runs buffer → Placed runs buffer after k
  placed k result after s c p =
      ⊎_elim
      (λ l. none_some result (c ∙ count_full l) s)
      (λ l.
      let e : k ≡ length runs = some_same k (length runs) result s (c ∙ count_room l) in
      let split : after ≡ runs ++ drop (length runs) buffer = p ∙ places_room l in
      record {
        count = e;
        room = omega arith;
        firsts = ap (take k) split ∙ taken k runs _ (sym e);
        others = ap (drop k) split ∙ drop_at runs (drop (length runs) buffer) k (sym e) ∙ ap (λ n. drop n buffer) (sym e);
      })
      (cases_lt (length buffer) (length runs))

module _ {M : Type 0} (P : List (Run M) → Type 0) where
  -- k runs and what was after them
  pub filled : (runs buffer after : List (Run M)) (k : ℕ) → length runs ≡ k → k ≤ length buffer → after ≡ runs ++ drop k buffer → P runs → Fills P (Some k) buffer after
  filled runs buffer after k e l a h = record {
    runs = runs;
    count = ap Some (sym e) ∙ sym (count_room runs buffer (omega arith));
    places = a ∙ ap (λ n. runs ++ drop n buffer) (sym e) ∙ sym (places_room runs buffer (omega arith));
    holds = h;
  }

  -- one run more than there are places
  pub filled_up : (buffer after : List (Run M)) (x : Run M) → after ≡ buffer → P (buffer ++ x ∷ []) → Fills P None buffer after
  filled_up buffer after x a h =
      let more : length buffer < length (buffer ++ x ∷ []) = omega (arith, length_push buffer x) in
      record {
        runs = buffer ++ x ∷ [];
        count = sym (count_full (buffer ++ x ∷ []) buffer more);
        places = a ∙ sym (places_full (buffer ++ x ∷ []) buffer more ∙ taken (length buffer) buffer (x ∷ []) refl);
        holds = h;
      }

  pub fills_as : (Q : List (Run M) → Type 0) (result : Option ℕ) (before after : List (Run M)) → ((xs : List (Run M)) → P xs → Q xs) → Fills P result before after → Fills Q result before after
  fills_as Q result before after f h = record { runs = h.runs; count = h.count; places = h.places; holds = f h.runs h.holds }

  -- more runs than places
  pub record Full (before after : List (Run M)) : Type 0 where
    pub runs : List (Run M)
    pub more : length before < length runs
    pub places : after ≡ take (length before) runs
    pub holds : P runs

  pub full : (before after : List (Run M)) → Fills P None before after → Full before after
  full before after h =
      ⊎_elim
      (λ l. record { runs = h.runs; more = l; places = h.places ∙ places_full h.runs before l; holds = h.holds })
      (λ l. none_some None refl (h.count ∙ count_room h.runs before l))
      (cases_lt (length before) (length h.runs))

-- what is the same after k places is the same after more
pub drop_further : {X : Type 0} (k n : ℕ) (xs ys : List X) → k ≤ n → drop k xs ≡ drop k ys → drop n xs ≡ drop n ys
drop_further k n xs ys l e =
    let more : n ≡ k + (n - k) = omega arith in
    ap (λ m. drop m xs) more ∙ sym (drop-drop (n - k) k xs) ∙ ap (drop (n - k)) e ∙ drop-drop (n - k) k ys ∙ ap (λ m. drop m ys) (sym more)
