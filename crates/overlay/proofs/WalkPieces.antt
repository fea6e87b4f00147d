-- The runs that are left, pieces of even states, and the edges that are left. Assumes nothing.
use Rattle.std.proofs.Common.{◌≡◌, ℕ, ◌+◌, ◌-◌, ◌*◌, ◌%◌, ◌^◌, ◌<◌, ◌≤◌, leb, List, [], ◌∷◌, length, get_or, drop, Some, None, Option, sym, refl, ap, ◌∙◌, ⊎_elim, arith}
use Rattle.std.proofs.lemmas.List.{drop_more}
use Rattle.std.proofs.lemmas.Bool.{cases_Bool, cases_lt, leb-true, leb-false, cond-true, cond-false}
use Rattle.overlay.specs.declared.runs.Run.{Run}
use Rattle.overlay.specs.declared.runs.Piece.{Piece}
use Rattle.overlay.specs.Runs.{run_end, state_at, overlay_state_at, Rising, RunsOf}
use Rattle.overlay.specs.Walks.{runs_left, Left, Ahead, Even, Grown, tick, edges_after, edges}
use Rattle.overlay.proofs.RunPositions.{run_inside, run_before, run_after, moves_on, rising_lower, rising_le, at_before}

-- a list that has a first
pub first_of : {X : Type 0} (xs : List X) (x : X) → 1 ≤ length xs → x ≡ get_or xs 0 x → xs ≡ x ∷ drop 1 xs
first_of xs x l e = drop_more xs 0 x l ∙ ap (λ z. z ∷ drop 1 xs) (sym e)

-- of runs that rise, the first ends by the size, and the others rise
pub first_ends : {M : Type 0} (x : Run M) (runs rest : List (Run M)) (b : ℕ) → runs ≡ x ∷ rest → Rising 0 runs b → run_end x ≤ b
first_ends x runs rest b e h = rising_le (run_end x) b rest (rw e at h).2

pub rising_rest : {M : Type 0} (rest : List (Run M)) (b : ℕ) (x : Run M) (runs : List (Run M)) → runs ≡ x ∷ rest → Rising 0 runs b → Rising 0 rest b
rising_rest rest b x runs e h = rising_lower (run_end x) 0 b rest (rw e at h).2 (omega arith)

-- a position past q has no edge there
tick_past : (p q : ℕ) → q ≤ p → tick p q ≡ 0
tick_past p q l = grind arith

-- what is left of runs from a position on
module _ {M : Type 0} (moves : M → ℕ → M) where
  pub left_all : (runs : List (Run M)) (pos : ℕ) → Left moves runs pos runs
  left_all runs pos = record { same = λ p l. refl; edges = λ p l. refl }

  pub left_on : (runs : List (Run M)) (a b : ℕ) (left : List (Run M)) → a ≤ b → Left moves runs a left → Left moves runs b left
  left_on runs a b left l h = record { same = λ p m. h.same p (omega arith); edges = λ p m. h.edges p (omega arith) }

  pub left_further : (runs left more : List (Run M)) (pos : ℕ) → Left moves runs pos left → Left moves left pos more → Left moves runs pos more
  left_further runs left more pos h k = record { same = λ p l. k.same p l ∙ h.same p l; edges = λ p l. k.edges p l ∙ h.edges p l }

  left_passed : (r : Run M) (rs : List (Run M)) (pos : ℕ) → run_end r ≤ pos → Left moves (r ∷ rs) pos rs
  left_passed r rs pos e = record {
    same = λ p l. rw (run_after moves r p (omega arith));
    edges = λ p l. omega (arith, tick_past p r.offset (omega arith), tick_past p (run_end r) (omega arith));
  }

  pub left_runs : (pos : ℕ) (runs : List (Run M)) → Left moves runs pos (runs_left pos runs)
  left_runs pos [] = left_all [] pos
  left_runs pos (r ∷ rs) =
      ⊎_elim
      (λ y. rw (cond-true (leb (run_end r) pos) _ _ y) (left_further (r ∷ rs) rs (runs_left pos rs) pos (left_passed r rs pos (leb-true (run_end r) pos y)) (left_runs pos rs)))
      (λ n. rw (cond-false (leb (run_end r) pos) _ _ n) (left_all (r ∷ rs) pos))
      (cases_Bool (leb (run_end r) pos))

module _ {M : Type 0} (pos : ℕ) where
  pub ahead_left : (runs : List (Run M)) → Ahead pos (runs_left pos runs)
  ahead_left [] = tt
  ahead_left (r ∷ rs) =
      ⊎_elim
      (λ y. rw (cond-true (leb (run_end r) pos) _ _ y) (ahead_left rs))
      (λ n. rw (cond-false (leb (run_end r) pos) _ _ n) (leb-false (run_end r) pos n))
      (cases_Bool (leb (run_end r) pos))

-- the piece of runs that are left
module _ {M : Type 0} (moves : M → ℕ → M) (pos size : ℕ) (x : Run M) (rs : List (Run M)) (rising : Rising 0 (x ∷ rs) size) where
  pub even_gap : pos < x.offset → Even moves (state_at moves (x ∷ rs)) pos size (record { state = None; stop = x.offset })
  even_gap l = record {
    more = l;
    under = omega (arith, rising_le (run_end x) size rs rising.2);
    same = λ p a b. rw (run_before moves x p b) (at_before moves (run_end x) size rs p rising.2 (omega arith));
  }

  pub even_run : ((m : M) (a b : ℕ) → moves (moves m a) b ≡ moves m ((a + b) % 2 ^ 64)) → size < 2 ^ 64 → x.offset ≤ pos → pos < run_end x → (m : M) → m ≡ moves x.mark (pos - x.offset)
      → Even moves (state_at moves (x ∷ rs)) pos size (record { state = Some m; stop = run_end x })
  even_run further fits l ahead m e =
      let under : run_end x ≤ size = rising_le (run_end x) size rs rising.2 in
      record {
        more = ahead;
        under = under;
        same = λ p a b.
            let on : moves m (p - pos) ≡ moves x.mark (p - x.offset) =
            ap (λ y. moves y (p - pos)) e ∙ moves_on moves further x.mark (pos - x.offset) (p - pos) (p - x.offset) (omega arith) (omega arith) in
            rw (run_inside moves x p (omega arith) b, on);
      }

-- a piece of states is one of what are the same from the position on
pub even_as : {M : Type 0} (moves : M → ℕ → M) (states others : ℕ → Option M) (pos size : ℕ) (piece : Piece M) → ((p : ℕ) → pos ≤ p → states p ≡ others p) → Even moves states pos size piece
    → Even moves others pos size piece
even_as moves states others pos size piece e even = record { more = even.more; under = even.under; same = λ p l m. sym (e p l) ∙ even.same p l m }

-- the overlay of what is left is the overlay of all
pub overlaid_left : {M : Type 0} (moves : M → ℕ → M) (filler : M) (earlier under later over : List (Run M)) (size pos : ℕ) → Left moves earlier pos under → Left moves later pos over
    → (p : ℕ) → pos ≤ p → overlay_state_at moves filler under size over p ≡ overlay_state_at moves filler earlier size later p
overlaid_left moves filler earlier under later over size pos h k p l = rw (h.same p l, k.same p l)

pub runs_none : {M : Type 0} (moves : M → ℕ → M) (states : ℕ → Option M) → RunsOf moves states 0 []
runs_none moves states = record { canonical = record { rising = omega arith; apart = tt }; paints = λ p l. absurd (omega arith) }

pub runs_more : {M : Type 0} (moves : M → ℕ → M) (states : ℕ → Option M) (pos size : ℕ) (piece : Piece M) (before after : List (Run M)) → RunsOf moves states pos before → Even moves states pos size piece → Grown moves before pos piece after
    → RunsOf moves states piece.stop after
runs_more moves states pos size piece before after h even grown = record {
  canonical = grown.canonical;
  paints = λ p l.
      ⊎_elim
      (λ b. grown.old p b ∙ h.paints p b)
      (λ b. grown.new p b l ∙ sym (even.same p b l))
      (cases_lt p pos);
}

-- edges: as a position goes on, fewer lie after it
tick_le : (a b q : ℕ) → a ≤ b → tick b q ≤ tick a q
tick_le a b q l = grind arith

tick_one : (a q : ℕ) → tick a q ≤ 1
tick_one a q = grind arith

tick_passed : (a q : ℕ) → a < q → tick q q + 1 ≤ tick a q
tick_passed a q l = grind arith

edges_le : {M : Type 0} (a b : ℕ) (rs : List (Run M)) → a ≤ b → edges_after b rs ≤ edges_after a rs
edges_le a b [] l = omega arith
edges_le a b (r ∷ rs) l = omega (arith, tick_le a b r.offset l, tick_le a b (run_end r) l, edges_le a b rs l)

edges_most : {M : Type 0} (a : ℕ) (rs : List (Run M)) → edges_after a rs ≤ 2 * length rs
edges_most a [] = omega arith
edges_most a (r ∷ rs) = omega (arith, tick_one a r.offset, tick_one a (run_end r), edges_most a rs)

module _ {M : Type 0} (runs : List (Run M)) (pos size : ℕ) where
  pub edges_all : edges pos runs size ≤ 2 * length runs + 1
  unfolding edges
  edges_all = omega (arith, edges_most pos runs, tick_one pos size)

  pub edges_on : (stop : ℕ) → pos ≤ stop → edges stop runs size ≤ edges pos runs size
  unfolding edges
  edges_on stop l = omega (arith, edges_le pos stop runs l, tick_le pos stop size l)

  pub edges_size : pos < size → edges size runs size < edges pos runs size
  unfolding edges
  edges_size l = omega (arith, edges_le pos size runs (omega arith), tick_passed pos size l)

-- the first of the runs that are left has an edge after the position
module _ {M : Type 0} (pos size : ℕ) (x : Run M) (rs : List (Run M)) where
  pub edges_offset : pos < x.offset → edges x.offset (x ∷ rs) size < edges pos (x ∷ rs) size
  unfolding edges
  edges_offset l =
      let o = x.offset in
      omega (arith, edges_le pos o rs (omega arith), tick_passed pos o l, tick_le pos o (run_end x) (omega arith), tick_le pos o size (omega arith))

  pub edges_ends : pos < run_end x → edges (run_end x) (x ∷ rs) size < edges pos (x ∷ rs) size
  unfolding edges
  edges_ends l =
      let o = run_end x in
      omega (arith, edges_le pos o rs (omega arith), tick_passed pos o l, tick_le pos o x.offset (omega arith), tick_le pos o size (omega arith))

-- from the position on, what is left has the same edges
pub edges_left : {M : Type 0} (moves : M → ℕ → M) (runs left : List (Run M)) (a b pos : ℕ) → Left moves runs pos left → b ≡ a → edges pos left b ≡ edges pos runs a
unfolding edges
edges_left moves runs left a b pos h e = rw (h.edges pos (omega arith), e)
