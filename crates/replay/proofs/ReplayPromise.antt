-- A series of calls that was played on a new shelf keeps the promise.
use Rattle.std.proofs.Common.{◌≡◌, ℕ, List, length, take, Ok, Result, sym, ap, ◌∙◌, subst}
use Rattle.fault.specs.declared.fault.Fault.{Fault}
use Rattle.store.specs.Stores.{Images}
use Rattle.stream.proofs.ReadRecords.{passes, ok_same}
use Rattle.table.specs.Tables.{Table, empty_table}
use Rattle.replay.specs.declared.requests.Request.{Request}
use Rattle.shelf.specs.Outcomes.{make_answer}
use Rattle.shelf.specs.Series.{events, largest_size}
use Rattle.shelf.specs.Promise.{ComesBack}
use Rattle.replay.specs.Replays.{scene, setting, largest_replay_size, first_scene, calls_made, Played, Replays}
use Rattle.shelf.proofs.SeriesPromise.{promise}

-- what is made is empty
made_empty : (name : List ℕ) (t : Table) → Ok t ≡ make_answer name → t ≡ empty_table name
made_empty name t e = sym (ok_same (empty_table name) t (passes _ _ _ t (sym e)).1)

-- and so are the sizes of its images
pub empty_size : (holds : Images) (name bytes image buffer : List ℕ) (rs : List Request) (answers : List (Result ℕ Fault)) (t : Table) → Ok t ≡ make_answer name
    → largest_replay_size holds name rs (setting bytes image buffer answers)
    ≡ largest_size holds (scene t bytes image buffer).world (calls_made holds (scene t bytes image buffer) (take (length answers) rs))
empty_size holds name bytes image buffer rs answers t e =
    ap (λ x. largest_size holds (scene x bytes image buffer).world (calls_made holds (scene x bytes image buffer) (take (length answers) rs))) (sym (made_empty name t e))

module _ (holds : Images) (name bytes image buffer : List ℕ) (rs : List Request) (answers : List (Result ℕ Fault)) (t t' : Table) (bytes' image' buffer' : List ℕ) (answers' : List (Result ℕ Fault)) where
  pub replays : Ok t ≡ make_answer name
      → Played holds (scene t bytes image buffer) (take (length answers) rs) (scene t' bytes' image' buffer') answers answers'
      → Replays holds name rs t' (setting bytes image buffer answers) (setting bytes' image' buffer' answers')
  replays e h =
      let s = setting bytes image buffer answers in
      let empty = made_empty name t e in
      let all = take (length answers) rs in
      let played = subst (λ x. Played holds (scene x bytes image buffer) all (scene t' bytes' image' buffer') answers answers') empty h in
      let first = first_scene name s in
      let calls = calls_made holds first all in
      record {
        good = sym e ∙ ap Ok empty;
        played = played;
        promised = subst (λ w. ComesBack image (events holds first.world calls) w) (sym played.series) (promise holds name bytes image calls);
      }
