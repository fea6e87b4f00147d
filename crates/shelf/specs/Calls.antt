-- A call on a shelf with its arguments. Rests on nothing.
use Rattle.std.specs.Prelude.{ℕ, List, []}

-- each call gets the first `handed` of the shelf's bytes, all of them where there are no more; join
-- a work buffer and list a text buffer besides
pub data Call : Type 0 where
  put : (handed : ℕ) (stream : List ℕ) → Call
  join : (handed entry : ℕ) (work : List ℕ) → Call
  settle : (handed : ℕ) → Call
  list : (handed entry : ℕ) (text : List ℕ) → Call

-- the buffer that a call gets
abbrev pub buffer_in : Call → List ℕ
buffer_in (join k i work) = work
buffer_in (list k i text) = text
buffer_in c = []
