-- How a program writes a snapshot's name, and which name a word stands for. Rests on the
-- comparison of bytes.
use Rattle.std.specs.Prelude.{ℕ, if◌then◌else◌, List, [], ◌∷◌, codes}
use Rattle.stream.specs.Verdict.{same}

-- a name as it is printed: its bytes, and `-` for the empty one
abbrev pub name_text : List ℕ → List ℕ
name_text [] = codes "-"
name_text (b ∷ bs) = b ∷ bs

-- the name that a word of the command line stands for: none for `-` and for the empty word, any
-- other for itself
abbrev pub name_of_word : List ℕ → List ℕ
name_of_word word = if same word (codes "-") then [] else word
