-- Steps whose ranges lie in the image are refused exactly where the set does not have the result.
-- Rests on the outcomes of a store's calls.
use Rattle.std.proofs.Common.{◌≡◌, ℕ, true, false, List, [], ◌∷◌, ◌++◌, Err, sym, refl, ap, ◌∙◌, subst, inl, inr}
use Rattle.std.proofs.lemmas.Bool.{cases_Bool}
use Rattle.fault.specs.Fault.{fault, in_record}
use Rattle.fault.specs.declared.fault.Fault.{Fault}
use Rattle.fault.specs.declared.cause.Cause.TheVariants.{NoRoom}
use Rattle.store.specs.Stores.{Images, Outcome, done, outcome_and_then, if_held}
use Rattle.store.proofs.StoreOutcomes.{held, unheld}
use Rattle.stream.specs.Records.{Content}
use Rattle.apply.specs.Steps.{Step}
use Rattle.apply.specs.Applies.{call_outcome, outcome_in_record, apply_steps}
use Rattle.apply.specs.Laws.{made_by, made_by_all, AllHeld, fault_place, Stopped}

-- a call that is refused only where the set does not have its result
abbrev pub Called : List ℕ → Content → Type 0
Called image c = (holds : Images) → call_outcome holds image c ≡ if_held holds (fault_place c) image (made_by c image)

-- such calls, step after step
abbrev pub AllCalled : List ℕ → List Step → Type 0
AllCalled image [] = Unit {0}
AllCalled image (s ∷ ss) = Called image s.1 × AllCalled (made_by s.1 image) ss

-- a step that is taken, and one that is refused
module _ (holds : Images) (image : List ℕ) (s : Step) (ss : List Step) (called : Called image s.1) where
  abbrev next : Outcome → Outcome
  next o = outcome_and_then (outcome_in_record s.0 o) (λ b. apply_steps holds b ss)

  pub step_taken : holds (made_by s.1 image) ≡ true → apply_steps holds image (s ∷ ss) ≡ apply_steps holds (made_by s.1 image) ss
  step_taken h = ap next (called holds ∙ held holds (fault_place s.1) image (made_by s.1 image) h)

  pub step_refused : holds (made_by s.1 image) ≡ false → apply_steps holds image (s ∷ ss) ≡ (Err (in_record s.0 (fault NoRoom (fault_place s.1))), image)
  step_refused h = ap next (called holds ∙ unheld holds (fault_place s.1) image (made_by s.1 image) h)

no_done : {C : Type 0} (f : Fault) (b after : List ℕ) → ◌≡◌ {A = Outcome} (Err f, b) (done after) → C
no_done f b after e = let g = ap (λ o. o.0) e in cc

err_same : (f h : Fault) (b c : List ℕ) → ◌≡◌ {A = Outcome} (Err f, b) (Err h, c) → f ≡ h
err_same f h b c e = let g = ap (λ o. o.0) e in cc

module _ (holds : Images) where
  -- all are taken where the set has each result
  pub all_taken : (image : List ℕ) (ss : List Step) → AllCalled image ss → AllHeld holds image ss → apply_steps holds image ss ≡ done (made_by_all ss image)
  all_taken image [] c h = refl
  all_taken image (s ∷ ss) c h = step_taken holds image s ss c.0 h.0 ∙ all_taken (made_by s.1 image) ss c.1 h.1

  -- and only there
  pub taken_held : (image : List ℕ) (ss : List Step) (after : List ℕ) → AllCalled image ss → apply_steps holds image ss ≡ done after → AllHeld holds image ss
  taken_held image [] after c e = tt
  taken_held image (s ∷ ss) after c e =
      elim (cases_Bool (holds (made_by s.1 image))) [
        | inl h ↦ (h, taken_held (made_by s.1 image) ss after c.1 (sym (step_taken holds image s ss c.0 h) ∙ e))
        | inr h ↦ no_done _ image after (sym (step_refused holds image s ss c.0 h) ∙ e)
      ]

  -- a refusal is at the first step whose result the set does not have
  pub stopped_at : (image : List ℕ) (ss : List Step) (f : Fault) (after : List ℕ) → AllCalled image ss → apply_steps holds image ss ≡ (Err f, after) → Stopped holds image ss f after
  stopped_at image [] f after c e = no_done f after image (sym e)
  stopped_at image (s ∷ ss) f after c e =
      elim (cases_Bool (holds (made_by s.1 image))) [
        | inl h ↦
            let t = stopped_at (made_by s.1 image) ss f after c.1 (sym (step_taken holds image s ss c.0 h) ∙ e) in
            record {
              before = s ∷ t.before;
              step = t.step;
              rest = t.rest;
              split = ap (λ xs. s ∷ xs) t.split;
              held = (h, t.held);
              stands = t.stands;
              unheld = t.unheld;
              fault_is = t.fault_is;
            }
        | inr h ↦
            let g = sym (step_refused holds image s ss c.0 h) ∙ e in
            let same : after ≡ image = sym (ap (λ o. o.1) g) in
            record {
              before = [];
              step = s;
              rest = ss;
              split = refl;
              held = tt;
              stands = same;
              unheld = ap (λ b. holds (made_by s.1 b)) same ∙ h;
              fault_is = sym (err_same _ f image after g);
            }
      ]

  stops_behind : (image : List ℕ) (before : List Step) (s : Step) (rest : List Step) → AllCalled image (before ++ (s ∷ rest)) → AllHeld holds image before
      → holds (made_by s.1 (made_by_all before image)) ≡ false
      → apply_steps holds image (before ++ (s ∷ rest)) ≡ (Err (in_record s.0 (fault NoRoom (fault_place s.1))), made_by_all before image)
  stops_behind image [] s rest c h u = step_refused holds image s rest c.0 u
  stops_behind image (x ∷ before) s rest c h u =
      step_taken holds image x (before ++ (s ∷ rest)) c.0 h.0 ∙ stops_behind (made_by x.1 image) before s rest c.1 h.1 u

  -- and there it is
  pub stops_at : (image : List ℕ) (ss : List Step) (f : Fault) (after : List ℕ) → AllCalled image ss → Stopped holds image ss f after → apply_steps holds image ss ≡ (Err f, after)
  stops_at image ss f after c t =
      let P : List Step → Type 0 = λ xs. AllCalled image xs in
      let u : holds (made_by t.step.1 (made_by_all t.before image)) ≡ false = sym (ap (λ b. holds (made_by t.step.1 b)) t.stands) ∙ t.unheld in
      ap (apply_steps holds image) t.split
      ∙ stops_behind image t.before t.step t.rest (subst P t.split c) t.held u
      ∙ ap (λ g. (Err g, made_by_all t.before image)) (sym t.fault_is)
      ∙ ap (λ b. (Err f, b)) (sym t.stands)
