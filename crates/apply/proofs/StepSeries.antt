-- Steps in two parts, one after the other, as a loop takes them. Rests on the outcomes of apply.
use Rattle.std.proofs.Common.{◌≡◌, ℕ, ◌+◌, ◌<◌, ◌≤◌, List, [], ◌∷◌, ◌++◌, map, length, get_or, drop, Ok, Err, Result, sym, refl, ap, ◌∙◌}
use Rattle.std.proofs.lemmas.List.{map-append, drop_more, at_drop_all}
use Rattle.std.proofs.lemmas.List.Elements.{filter-append}
use Rattle.fault.specs.declared.fault.Fault.{Fault}
use Rattle.overlay.specs.declared.runs.Run.{Run}
use Rattle.overlay.specs.declared.payloads.PayloadMark.{PayloadMark}
use Rattle.store.specs.Stores.{Images, Outcome, outcome_and_then}
use Rattle.stream.specs.Places.{run_record}
use Rattle.apply.specs.Steps.{Step, with_number, is_write, writes}
use Rattle.apply.specs.Applies.{call_outcome, outcome_in_record, apply_steps}

-- what follows an outcome in two parts
then_both : (r : Result (Unit {0}) Fault) (b : List ℕ) (one two both : List ℕ → Outcome) → ((n : List ℕ) → both n ≡ outcome_and_then (one n) two)
    → outcome_and_then (r, b) both ≡ outcome_and_then (outcome_and_then (r, b) one) two
then_both (Ok u) b one two both h = h b
then_both (Err f) b one two both h = refl

pub apply_append : (holds : Images) (image : List ℕ) (xs ys : List Step)
    → apply_steps holds image (xs ++ ys) ≡ outcome_and_then (apply_steps holds image xs) (λ next. apply_steps holds next ys)
apply_append holds image [] ys = refl
apply_append holds image (x ∷ xs) ys =
    let o = outcome_in_record x.0 (call_outcome holds image x.1) in
    then_both o.0 o.1 (λ next. apply_steps holds next xs) (λ next. apply_steps holds next ys) (λ next. apply_steps holds next (xs ++ ys)) (λ next. apply_append holds next xs ys)

-- one turn of a loop over the steps ss: the first of them, xs, were asked of a store whose set is
-- the same, and ys are left
module _ (holds now : Images) (image after : List ℕ) (r : Result (Unit {0}) Fault) (ss xs ys : List Step) (whole : Outcome)
    (same : now ≡ holds) (e : (r, after) ≡ apply_steps now image xs) (split : ss ≡ xs ++ ys) (inv : apply_steps holds image ss ≡ whole) where
  turned : outcome_and_then (r, after) (λ next. apply_steps holds next ys) ≡ whole
  turned =
      ap (λ o. outcome_and_then o (λ next. apply_steps holds next ys)) (e ∙ ap (λ h. apply_steps h image xs) same)
      ∙ sym (apply_append holds image xs ys) ∙ sym (ap (apply_steps holds image) split) ∙ inv

  -- they were taken: those that are left give what the whole gives
  pub goes_on : (u : Unit {0}) → r ≡ Ok u → apply_steps holds after ys ≡ whole
  goes_on u w = sym (ap (λ a. outcome_and_then (a, after) (λ next. apply_steps holds next ys)) w) ∙ turned

  -- one was refused: that is the answer
  pub ends_here : (f : Fault) (a : Result (Unit {0}) Fault) → r ≡ Err f → a ≡ Err f → (a, after) ≡ whole
  ends_here f a w v = ap (λ x. (x, after)) v ∙ sym (ap (λ x. outcome_and_then (x, after) (λ next. apply_steps holds next ys)) w) ∙ turned

-- the loop over a list is at its end: nothing is left of it
pub all_done : {X : Type 0} (answer : List X → Outcome) (xs : List X) (i : ℕ) (whole : Outcome) → length xs ≤ i → answer (drop i xs) ≡ whole → answer [] ≡ whole
all_done answer xs i whole end inv = sym (at_drop_all answer xs i end) ∙ inv

-- the writes of the part at i, and of those after it
pub writes_more : (bytes : List ℕ) (n : ℕ) (parts : List (Run PayloadMark)) (i : ℕ) (d : Run PayloadMark) → i < length parts
    → with_number n (writes (map (run_record bytes) (drop i parts))) ≡ with_number n (writes (run_record bytes (get_or parts i d) ∷ [])) ++ with_number n (writes (map (run_record bytes) (drop (i + 1) parts)))
writes_more bytes n parts i d l =
    let c = run_record bytes (get_or parts i d) in
    let cs = map (run_record bytes) (drop (i + 1) parts) in
    ap (λ ps. with_number n (writes (map (run_record bytes) ps))) (drop_more parts i d l)
    ∙ ap (with_number n) (filter-append is_write (c ∷ []) cs) ∙ map-append (λ x. (n, x)) (writes (c ∷ [])) (writes cs)
