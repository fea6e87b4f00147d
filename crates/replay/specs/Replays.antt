-- A series of calls that is really made: each call as it is asked for, with the window of a buffer
-- that it gets, and what is left in the end. Rests on series of calls and their outcomes, on the
-- promise about them, on tables, on requests and on the images of a store.
use Rattle.std.specs.Prelude.{◌≡◌, ℕ, ◌+◌, List, [], ◌∷◌, ◌++◌, map, length, take, drop, Ok, Err, Result}
use Rattle.fault.specs.declared.fault.Fault.{Fault}
use Rattle.store.specs.Stores.{Images}
use Rattle.table.specs.Tables.{Table, empty_table}
use Rattle.replay.specs.declared.requests.Request.{Request}
use Rattle.replay.specs.declared.requests.Request.TheVariants.{Put, Join, Settle, List as Show}
use Rattle.replay.specs.declared.requests.Window.{Window}
use Rattle.shelf.specs.Outcomes.{CallOutcome, make_answer}
use Rattle.shelf.specs.Calls.{Call, put, join, settle, list}
use Rattle.shelf.specs.Series.{World, first_world, Event, outcome_of, events, last_world, largest_size}
use Rattle.shelf.specs.Promise.{ComesBack}

-- the bytes in a window of a buffer, and the buffer with other bytes in the window
abbrev pub window : Window → List ℕ → List ℕ
window v buffer = take v.length (drop v.start buffer)

abbrev pub with_window : Window → List ℕ → List ℕ → List ℕ
with_window v part buffer = take v.start buffer ++ (part ++ drop (v.start + v.length) buffer)

-- the call that is asked for
abbrev pub call_asked : List ℕ → Request → Call
call_asked buffer (Put handed stream) = put handed stream.now
call_asked buffer (Join handed i work) = join handed i (window work buffer)
call_asked buffer (Settle handed) = settle handed
call_asked buffer (Show handed i text) = list handed i (window text buffer)

-- the whole buffer, where the call left its window so
abbrev pub whole_buffer : List ℕ → Request → List ℕ → List ℕ
whole_buffer buffer (Join handed i work) part = with_window work part buffer
whole_buffer buffer (Show handed i text) part = with_window text part buffer
whole_buffer buffer r part = buffer

-- a shelf, its bytes, the image and the buffer
pub record Scene : Type 0 where
  pub world : World
  pub buffer : List ℕ

abbrev pub scene : Table → List ℕ → List ℕ → List ℕ → Scene
scene t bytes image buffer = record { world = record { table = t; bytes = bytes; image = image }; buffer = buffer }

-- what a series is made on besides its shelf: the shelf's bytes, the base image, the buffer, and
-- the places for answers
pub record Setting : Type 0 where
  pub bytes : List ℕ
  pub image : List ℕ
  pub buffer : List ℕ
  pub answers : List (Result ℕ Fault)

abbrev pub setting : List ℕ → List ℕ → List ℕ → List (Result ℕ Fault) → Setting
setting bytes image buffer answers = record { bytes = bytes; image = image; buffer = buffer; answers = answers }

-- a shelf there, and an empty one
abbrev pub scene_in : Setting → Table → Scene
scene_in s t = scene t s.bytes s.image s.buffer

abbrev pub first_scene : List ℕ → Setting → Scene
first_scene name s = record { world = first_world name s.bytes s.image; buffer = s.buffer }

abbrev pub event_answer : Event → Result ℕ Fault
event_answer e = e.answer

-- `holds` is the set of images that the store can hold
module _ (holds : Images) where
  -- one request: its outcome, and what is there afterwards
  abbrev pub request_outcome : Scene → Request → CallOutcome
  request_outcome s r = record (outcome_of holds s.world (call_asked s.buffer r)) {
    buffer = whole_buffer s.buffer r (outcome_of holds s.world (call_asked s.buffer r)).buffer;
  }

  abbrev pub scene_after : Scene → Request → Scene
  scene_after s r = scene (request_outcome s r).table (request_outcome s r).bytes (request_outcome s r).image (request_outcome s r).buffer

  -- the calls that a series of requests makes, and what is there after the last
  abbrev pub calls_made : Scene → List Request → List Call
  calls_made s [] = []
  calls_made s (r ∷ rs) = call_asked s.buffer r ∷ calls_made (scene_after s r) rs

  abbrev pub last_scene : Scene → List Request → Scene
  last_scene s [] = s
  last_scene s (r ∷ rs) = last_scene (scene_after s r) rs

  -- every call of the series was made in its turn: `s'` is what is there afterwards, and the
  -- answers are the first of `answers'`, whose others are as they were
  pub record Played (s : Scene) (rs : List Request) (s' : Scene) (answers answers' : List (Result ℕ Fault)) : Type 0 where
    pub series : s'.world ≡ last_world holds s.world (calls_made s rs)
    pub buffer : s'.buffer ≡ (last_scene s rs).buffer
    pub answered : answers' ≡ map event_answer (events holds s.world (calls_made s rs)) ++ drop (length rs) answers

  -- the largest image that there is after any call of a series on an empty shelf
  abbrev pub largest_replay_size : List ℕ → List Request → Setting → ℕ
  largest_replay_size name rs s = largest_size holds (first_scene name s).world (calls_made (first_scene name s) (take (length s.answers) rs))

  -- a replay from an empty shelf, of as many requests as there are places for answers
  pub record Replays (name : List ℕ) (rs : List Request) (t : Table) (before after : Setting) : Type 0 where
    pub good : make_answer name ≡ Ok (empty_table name)
    pub played : Played (first_scene name before) (take (length before.answers) rs) (scene_in after t) before.answers after.answers
    -- the base image comes back, and so on: the promise, of this run
    pub promised : ComesBack before.image
        (events holds (first_scene name before).world (calls_made (first_scene name before) (take (length before.answers) rs)))
        (scene_in after t).world

  -- or a name that is refused, and then nothing is changed
  pub record Unmade (name : List ℕ) (f : Fault) (before after : Setting) : Type 0 where
    pub bad : make_answer name ≡ Err f
    pub unchanged : after ≡ before

  abbrev pub Replayed : List ℕ → List Request → Result Table Fault → Setting → Setting → Type 0
  Replayed name rs (Ok t) before after = Replays name rs t before after
  Replayed name rs (Err f) before after = Unmade name f before after
