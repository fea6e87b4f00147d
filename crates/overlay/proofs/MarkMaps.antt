-- Runs with their marks changed: what they mean is changed the same way. Assumes nothing.
use Rattle.std.proofs.Common.{◌≡◌, ℕ, List, [], ◌∷◌, map, sym, refl, ◌∙◌, arith}
use mathlib.Core.List.{map-map}
use Rattle.std.specs.List.{range_with_len}
use Rattle.std.specs.Option.{option_map}
use Rattle.overlay.specs.declared.runs.Run.{Run}
use Rattle.overlay.specs.Runs.{run_end, run_at, state_at, run_states, Rising, with_mark}
use Rattle.overlay.proofs.OverlayLaws.{mapped_over}
use Rattle.overlay.proofs.StateLists.{counted_same}

pub rising_remarked : {M N : Type 0} (kind : M → N) (a b : ℕ) (rs : List (Run M)) → Rising a rs b → Rising a (map (with_mark kind) rs) b
rising_remarked kind a b [] h = h
rising_remarked kind a b (r ∷ rs) h = (h.0, h.1, rising_remarked kind (run_end r) b rs h.2)

-- where the change goes with moving on
module _ {M N : Type 0} (moves : M → ℕ → M) (goes : N → ℕ → N) (kind : M → N) (keeps : (m : M) (k : ℕ) → kind (moves m k) ≡ goes (kind m) k) where
  run_remarked : (r : Run M) (p : ℕ) → run_at goes (with_mark kind r) p ≡ option_map kind (run_at moves r p)
  unfolding run_at
  run_remarked r p = grind (arith, keeps)

  pub at_remarked : (rs : List (Run M)) (p : ℕ) → state_at goes (map (with_mark kind) rs) p ≡ option_map kind (state_at moves rs p)
  at_remarked [] p = refl
  at_remarked (r ∷ rs) p = rw (run_remarked r p, at_remarked rs p) (sym (mapped_over kind (run_at moves r p) (state_at moves rs p)))

  pub painted_remarked : (rs : List (Run M)) (n : ℕ) → run_states goes (map (with_mark kind) rs) n ≡ map (option_map kind) (run_states moves rs n)
  painted_remarked rs n =
      counted_same (state_at goes (map (with_mark kind) rs)) (λ p. option_map kind (state_at moves rs p)) n (λ p l. at_remarked rs p)
      ∙ sym (map-map (option_map kind) (state_at moves rs) (range_with_len 0 n))
