-- A series of requests that is made turn by turn: what is left of it leads to where the whole
-- leads.
use Rattle.std.proofs.Common.{◌≡◌, ℕ, ◌+◌, ◌<◌, ◌≤◌, max, List, [], ◌∷◌, ◌++◌, map, length, get_or, take, drop, set, Result, sym, refl, ap, ◌∙◌, subst, ap₂, arith}
use Rattle.fault.specs.declared.fault.Fault.{Fault}
use Rattle.std.proofs.lemmas.List.{append_assoc, append-nil, take-append-drop, take_more_set, drop_more, drop_all, drop-drop, drop-set-lt}
use Rattle.store.specs.Stores.{Images, KeepsPast}
use Rattle.replay.specs.declared.requests.Request.{Request}
use Rattle.shelf.specs.Series.{events, last_world, largest_size}
use Rattle.replay.specs.Replays.{Scene, scene, event_answer, request_outcome, calls_made, last_scene, Played}
use Rattle.shelf.specs.Outcomes.{CallOutcome}

-- memory past an end is kept by one call after another
pub kept_on : {S R : Type 0} (past : S → ℕ → R) (first old new : S) (size end : ℕ) → KeepsPast past first old end → KeepsPast past old new size → size ≤ end → KeepsPast past first new end
kept_on past first old new size end h k l n m = k n (omega arith) ∙ h n m

module _ (holds : Images) where
  abbrev all_answers : Scene → List Request → List (Result ℕ Fault)
  all_answers s rs = map event_answer (events holds s.world (calls_made holds s rs))

  module _ (start : Scene) (rs : List Request) (blank : List (Result ℕ Fault)) where
    -- after i requests
    pub record Going (i : ℕ) (s : Scene) (answers : List (Result ℕ Fault)) : Type 0 where
      pub worlds : last_world holds s.world (calls_made holds s (drop i rs)) ≡ last_world holds start.world (calls_made holds start rs)
      pub buffers : (last_scene holds s (drop i rs)).buffer ≡ (last_scene holds start rs).buffer
      pub before : take i answers ++ all_answers s (drop i rs) ≡ all_answers start rs
      pub after : drop i answers ≡ drop i blank
      pub sizes : largest_size holds s.world (calls_made holds s (drop i rs)) ≤ largest_size holds start.world (calls_made holds start rs)

    pub begins : Going 0 start blank
    begins = record { worlds = refl; buffers = refl; before = refl; after = refl; sizes = omega arith }

    module _ (i : ℕ) (s : Scene) (answers : List (Result ℕ Fault)) (h : Going i s answers) where
      -- a request more, made on a store whose set is the same; and its image is no larger than the
      -- largest of the series
      pub one_more : (same : Images) → same ≡ holds → (r d : Request) (o : CallOutcome) → i < length rs → i < length answers → r ≡ get_or rs i d → o ≡ request_outcome same s r
          → Going (i + 1) (scene o.table o.bytes o.image o.buffer) (set answers i o.answer) × (length o.image ≤ largest_size holds start.world (calls_made holds start rs))
      one_more same is r d o l m e b =
          let made : o ≡ request_outcome holds s r = b ∙ ap (λ h. request_outcome h s r) is in
          let next = request_outcome holds s r in
          let after : Scene = scene next.table next.bytes next.image next.buffer in
          let rest : drop i rs ≡ r ∷ drop (i + 1) rs = drop_more rs i d l ∙ ap (λ x. x ∷ drop (i + 1) rs) (sym e) in
          let left = drop (i + 1) rs in
          let sizes : max (length next.image) (largest_size holds after.world (calls_made holds after left)) ≤ largest_size holds start.world (calls_made holds start rs) =
          subst (λ qs. largest_size holds s.world (calls_made holds s qs) ≤ largest_size holds start.world (calls_made holds start rs)) rest h.sizes in
          let go : Going (i + 1) after (set answers i next.answer) = record {
            worlds = ap (λ qs. last_world holds s.world (calls_made holds s qs)) (sym rest) ∙ h.worlds;
            buffers = ap (λ qs. (last_scene holds s qs).buffer) (sym rest) ∙ h.buffers;
            before = ap (λ xs. xs ++ all_answers after left) (take_more_set answers i next.answer m)
                ∙ append_assoc (take i answers) (next.answer ∷ []) (all_answers after left)
                ∙ ap (λ qs. take i answers ++ all_answers s qs) (sym rest) ∙ h.before;
            after = drop-set-lt (i + 1) answers i next.answer (omega arith) ∙ sym (drop-drop 1 i answers) ∙ ap (drop 1) h.after ∙ drop-drop 1 i blank;
            sizes = omega arith;
          } in
          subst (λ (x : CallOutcome). Going (i + 1) (scene x.table x.bytes x.image x.buffer) (set answers i x.answer) × (length x.image ≤ largest_size holds start.world (calls_made holds start rs)))
          (sym made) (go, omega arith)

      pub ended : length rs ≡ i → Played holds start rs s blank answers
      ended l =
          let none : drop i rs ≡ [] = drop_all i rs (omega arith) in
          let told : take i answers ≡ all_answers start rs =
          sym (append-nil (take i answers)) ∙ ap (λ qs. take i answers ++ all_answers s qs) (sym none) ∙ h.before in
          record {
            series = ap (λ qs. last_world holds s.world (calls_made holds s qs)) (sym none) ∙ h.worlds;
            buffer = ap (λ qs. (last_scene holds s qs).buffer) (sym none) ∙ h.buffers;
            answered = sym (take-append-drop i answers) ∙ ap₂ ◌++◌ told (h.after ∙ ap (λ k. drop k blank) (sym l));
          }
