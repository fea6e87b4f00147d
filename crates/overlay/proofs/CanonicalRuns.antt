-- Each list of states has canonical runs. Assumes nothing.
use Rattle.std.proofs.Common.{◌≡◌, ℕ, suc, ◌+◌, ◌-◌, ◌%◌, ◌^◌, ◌<◌, ◌≤◌, Bool, ◌&&◌, eqb, List, [], ◌∷◌, length, get_or, Some, None, Decides, Option, sym, refl, ap, ◌∙◌, subst, ⊎_elim, arith}
use Rattle.std.proofs.lemmas.List.{ext_get_or}
use Rattle.std.proofs.lemmas.Bool.{cases_lt, cases_Bool, and_parts, and_from, eqb-true, eq-eqb, cond-true, cond-false, both_ways}
use Rattle.overlay.specs.declared.runs.Run.{Run}
use Rattle.overlay.specs.States.{state_over, overlay_states}
use Rattle.overlay.specs.Runs.{run_end, run_at, state_at, run_states, overlay_state_at, overlay_runs, RunsOf, Rising, Parted, Apart, glue, runs_from}
use Rattle.overlay.specs.Laws.{RunsExist}
use Rattle.overlay.proofs.RunPositions.{over_assoc, run_inside, run_after, merged_at, moves_on, rising_lower, rising_le, at_before}
use Rattle.overlay.proofs.StateLists.{painted_length, painted_getD, overlay_length, from_lists}

module _ {M : Type 0} (moves : M → ℕ → M) (alike : M → M → Bool)
    (decides : (m n : M) → Decides (alike m n) (m ≡ n)) (still : (m : M) → moves m 0 ≡ m)
    (further : (m : M) (a b : ℕ) → moves (moves m a) b ≡ moves m ((a + b) % 2 ^ 64)) where
  abbrev single : ℕ → M → Run M
  single p m = record { offset = p; length = 1; mark = m }

  record Glued (p b : ℕ) (m : M) (rs xs : List (Run M)) : Type 0 where
    rising : Rising p xs b
    apart : Apart moves xs
    paints : (q : ℕ) → state_at moves xs q ≡ state_over (run_at moves (single p m) q) (state_at moves rs q)

  parted_like : (a b : Run M) (rs : List (Run M)) → run_end a ≡ run_end b → moves a.mark a.length ≡ moves b.mark b.length → Parted moves b rs → Parted moves a rs
  parted_like a b [] e f h = tt
  parted_like a b (s ∷ rs) e f h = λ x y. h (sym e ∙ x) (sym f ∙ y)

  glued_apart : (p b : ℕ) (m : M) (r : Run M) (rs : List (Run M)) → Rising (p + 1) (r ∷ rs) b → Apart moves (r ∷ rs) → (run_end (single p m) ≡ r.offset → moves m 1 ≡ r.mark → ⊥) → Glued p b m (r ∷ rs) (single p m ∷ (r ∷ rs))
  glued_apart p b m r rs h a n = record { rising = (omega arith, omega arith, h); apart = (n, a); paints = λ q. refl }

  glued_joined : (p b : ℕ) (m : M) (r : Run M) (rs : List (Run M)) → Rising (p + 1) (r ∷ rs) b → Apart moves (r ∷ rs) → b < 2 ^ 64 → p + 1 ≡ r.offset → moves m 1 ≡ r.mark
      → Glued p b m (r ∷ rs) (record { offset = p; length = 1 + r.length; mark = m } ∷ rs)
  glued_joined p b m r rs h a l e f =
      let w : Run M = record { offset = p; length = 1 + r.length; mark = m } in
      let u = rising_le (run_end r) b rs h.2 in
      let t : run_end w ≡ run_end r = omega arith in
      let on : moves m (1 + r.length) ≡ moves r.mark r.length = sym (moves_on moves further m 1 r.length (1 + r.length) refl (omega arith)) ∙ ap (λ x. moves x r.length) f in
      record {
        rising = (omega arith, omega arith, subst (λ z. Rising z rs b) (sym t) h.2);
        apart = (parted_like w r rs t on a.0, a.1);
        paints = λ q.
            ap (λ z. state_over z (state_at moves rs q)) (merged_at moves further (single p m) r w e f refl refl refl (omega arith) q)
            ∙ over_assoc (run_at moves (single p m) q) (run_at moves r q) (state_at moves rs q);
      }

  glued : (p b : ℕ) (m : M) (rs : List (Run M)) → Rising (p + 1) rs b → Apart moves rs → b < 2 ^ 64 → Glued p b m rs (glue moves alike p m rs)
  unfolding glue
  glued p b m [] h a l = record { rising = (omega arith, omega arith, h); apart = (tt, tt); paints = λ q. refl }
  glued p b m (r ∷ rs) h a l =
      let test = eqb (p + 1) r.offset && alike (moves m 1) r.mark in
      ⊎_elim
      (λ y.
      let parts = and_parts (eqb (p + 1) r.offset) (alike (moves m 1) r.mark) y in
      rw (cond-true test _ _ y) (glued_joined p b m r rs h a l (eqb-true _ _ parts.0) ((decides (moves m 1) r.mark).0 parts.1)))
      (λ n.
      rw (cond-false test _ _ n)
      (glued_apart p b m r rs h a (λ x y. both_ways test n (and_from (eqb (p + 1) r.offset) (alike (moves m 1) r.mark) (eq-eqb _ _ x) ((decides (moves m 1) r.mark).1 y)))))
      (cases_Bool test)

  record From (p : ℕ) (ds : List (Option M)) (rs : List (Run M)) : Type 0 where
    rising : Rising p rs (p + length ds)
    apart : Apart moves rs
    paints : (q : ℕ) → p ≤ q → q < p + length ds → state_at moves rs q ≡ get_or ds (q - p) None

  from : (p : ℕ) (ds : List (Option M)) → p + length ds < 2 ^ 64 → From p ds (runs_from moves alike p ds)
  from p [] l = record { rising = omega arith; apart = tt; paints = λ q a b. absurd (omega arith) }
  from p (None ∷ ss) l =
      let t = from (p + 1) ss (omega arith) in
      let e : p + 1 + length ss ≡ p + suc (length ss) = omega arith in
      let rs = runs_from moves alike (p + 1) ss in
      record {
        rising = rising_lower (p + 1) p _ rs (subst (λ z. Rising (p + 1) rs z) e t.rising) (omega arith);
        apart = t.apart;
        paints = λ q a b.
            ⊎_elim
            (λ i.
            let z : q - p ≡ 0 = omega arith in
            rw z (at_before moves (p + 1) _ rs q t.rising (omega arith)))
            (λ i.
            let z : q - p ≡ suc (q - (p + 1)) = omega arith in
            let u : q < p + 1 + length ss = omega arith in
            rw z (t.paints q i u))
            (cases_lt q (p + 1));
      }
  from p (Some m ∷ ss) l =
      let t = from (p + 1) ss (omega arith) in
      let e : p + 1 + length ss ≡ p + suc (length ss) = omega arith in
      let rs = runs_from moves alike (p + 1) ss in
      let g = glued p (p + suc (length ss)) m rs (subst (λ z. Rising (p + 1) rs z) e t.rising) t.apart l in
      record {
        rising = g.rising;
        apart = g.apart;
        paints = λ q a b.
            g.paints q
            ∙ ⊎_elim
            (λ i.
            let z : q - p ≡ 0 = omega arith in
            let f : run_at moves (single p m) q ≡ Some m = run_inside moves (single p m) q a i ∙ ap Some (ap (moves m) z ∙ still m) in
            rw (f, z))
            (λ i.
            let z : q - p ≡ suc (q - (p + 1)) = omega arith in
            let u : q < p + 1 + length ss = omega arith in
            rw (run_after moves (single p m) q i, z) (t.paints q i u))
            (cases_lt q (p + 1));
      }

  pub exists : RunsExist moves alike
  exists ds l =
      let z : 0 + length ds ≡ length ds = omega arith in
      let t = from 0 ds (omega arith) in
      let rs = runs_from moves alike 0 ds in
      record {
        canonical = record { rising = subst (λ n. Rising 0 rs n) z t.rising; apart = t.apart };
        paints = ext_get_or None (run_states moves rs (length ds)) ds (painted_length moves rs (length ds))
            (λ i h.
            let s : i - 0 ≡ i = omega arith in
            let k : i < length ds = omega (arith, painted_length moves rs (length ds)) in
            painted_getD moves rs (length ds) i k ∙ t.paints i (omega arith) (omega arith) ∙ ap (λ j. get_or ds j None) s);
      }

  -- the canonical runs of an overlay, by positions
  pub overlay_exists : (filler : M) (ds : List (Run M)) (m : ℕ) (es : List (Run M)) (n : ℕ) → n < 2 ^ 64 → RunsOf moves (overlay_state_at moves filler ds m es) n (overlay_runs moves alike filler ds m es n)
  overlay_exists filler ds m es n l =
      let whole = overlay_states filler (run_states moves ds m) (run_states moves es n) in
      from_lists moves filler ds m es n (runs_from moves alike 0 whole) (exists whole (omega (arith, overlay_length moves filler ds m es n)))
