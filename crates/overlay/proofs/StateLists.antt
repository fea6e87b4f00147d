-- From positions to lists: what runs mean as the list of states, and the join rule in both forms.
-- Assumes nothing.
use Rattle.std.proofs.Common.{◌≡◌, ℕ, ◌<◌, List, [], map, length, get_or, replicate, None, Option, sym, ap, ◌∙◌, subst, ⊎_elim, arith}
use Rattle.std.specs.List.{range_with_len}
use Rattle.std.proofs.lemmas.List.{same_lists, ext_get_or, length-replicate, get_or-replicate}
use Rattle.std.proofs.lemmas.List.FromFn.{length-map-range_with_len, get_or-map-range_with_len}
use Rattle.std.proofs.lemmas.Bool.{cases_lt, lt-ltb, le-ltb}
use Rattle.overlay.specs.declared.runs.Run.{Run}
use Rattle.overlay.specs.States.{state_over, overlay_states}
use Rattle.overlay.specs.Runs.{state_at, run_states, overlay_state_at, Canonical, RunsOf, Runs}
use Rattle.overlay.specs.Laws.{OneRuns}
use Rattle.overlay.proofs.OverlayLaws.{overlaid_length, overlaid_getD, under_cond}
use Rattle.overlay.proofs.Uniqueness.{unique}

-- pointwise equal below n: one list
pub counted_same : {X : Type 0} (f h : ℕ → X) (n : ℕ) → ((p : ℕ) → p < n → f p ≡ h p) → map f (range_with_len 0 n) ≡ map h (range_with_len 0 n)
counted_same f h n e =
    same_lists (map f (range_with_len 0 n)) (map h (range_with_len 0 n)) (length-map-range_with_len f 0 n ∙ sym (length-map-range_with_len h 0 n))
    (λ k d l.
    let m : k < n = omega (arith, length-map-range_with_len f 0 n) in
    get_or-map-range_with_len f 0 n k k d m (omega arith) ∙ e k m ∙ sym (get_or-map-range_with_len h 0 n k k d m (omega arith)))

module _ {M : Type 0} (moves : M → ℕ → M) where
  pub painted_length : (rs : List (Run M)) (n : ℕ) → length (run_states moves rs n) ≡ n
  painted_length rs n = length-map-range_with_len (state_at moves rs) 0 n

  pub painted_getD : (rs : List (Run M)) (n p : ℕ) → p < n → get_or (run_states moves rs n) p None ≡ state_at moves rs p
  painted_getD rs n p l = get_or-map-range_with_len (state_at moves rs) 0 n p p None l (omega arith)

  -- no runs keep every position
  pub painted_nothing : (n : ℕ) → run_states moves [] n ≡ replicate n None
  painted_nothing n =
      ext_get_or None (run_states moves [] n) (replicate n None) (painted_length [] n ∙ sym (length-replicate n None))
      (λ p h.
      let l : p < n = omega (arith, painted_length [] n) in
      painted_getD [] n p l ∙ sym (get_or-replicate n p None None l))

  -- a difference's runs give its states
  pub runs_states : (ds : List (Option M)) (rs : List (Run M)) → Runs moves ds rs → RunsOf moves (λ p. get_or ds p None) (length ds) rs
  runs_states ds rs h = record {
    canonical = h.canonical;
    paints = λ p l. sym (painted_getD rs (length ds) p l) ∙ ap (λ xs. get_or xs p None) h.paints;
  }

  pub one_runs : ((m : M) → moves m 0 ≡ m) → OneRuns moves
  one_runs still ds xs ys h k = unique moves still (λ p. get_or ds p None) (length ds) xs ys (runs_states ds xs h) (runs_states ds ys k)

  -- the overlay of what earlier runs mean by what later ones mean
  module _ (filler : M) (ds : List (Run M)) (m : ℕ) (es : List (Run M)) (n : ℕ) where
    pub overlay_length : length (overlay_states filler (run_states moves ds m) (run_states moves es n)) ≡ n
    overlay_length = overlaid_length filler (run_states moves ds m) (run_states moves es n) ∙ painted_length es n

    pub overlay_getD : (p : ℕ) → p < n → get_or (overlay_states filler (run_states moves ds m) (run_states moves es n)) p None ≡ overlay_state_at moves filler ds m es p
    overlay_getD p l =
        let long : p < length (run_states moves es n) = omega (arith, painted_length es n) in
        let low = painted_length ds m in
        overlaid_getD filler (run_states moves ds m) (run_states moves es n) p long
        ∙ rw (painted_getD es n p l, under_cond filler (run_states moves ds m) p, low)
        (ap (state_over (state_at moves es p))
        (⊎_elim
        (λ b. rw (lt-ltb p m b, painted_getD ds m p b))
        (λ b. rw (le-ltb p m b))
        (cases_lt p m)))

    -- runs that give each position what the overlay gives it mean the overlay
    pub overlay_painted : (rs : List (Run M)) → ((p : ℕ) → p < n → state_at moves rs p ≡ overlay_state_at moves filler ds m es p) → run_states moves rs n ≡ overlay_states filler (run_states moves ds m) (run_states moves es n)
    overlay_painted rs h =
        ext_get_or None (run_states moves rs n) (overlay_states filler (run_states moves ds m) (run_states moves es n)) (painted_length rs n ∙ sym overlay_length)
        (λ p a.
        let l : p < n = omega (arith, painted_length rs n) in
        painted_getD rs n p l ∙ h p l ∙ sym (overlay_getD p l))

    -- the runs of the overlay, by positions
    pub from_lists : (rs : List (Run M)) → Runs moves (overlay_states filler (run_states moves ds m) (run_states moves es n)) rs → RunsOf moves (overlay_state_at moves filler ds m es) n rs
    from_lists rs h =
        let g = runs_states (overlay_states filler (run_states moves ds m) (run_states moves es n)) rs h in
        record {
          canonical = subst (λ z. Canonical moves rs z) overlay_length h.canonical;
          paints = λ p l. g.paints p (omega (arith, overlay_length)) ∙ overlay_getD p l;
        }
