-- The table of a shelf and its operations. A shelf keeps difference streams, its entries, end to
-- end in the first bytes of a piece of memory that each call gets. Its table says where each entry
-- lies, and between which snapshots it leads. Rests on how names are compared.
use Rattle.std.specs.Prelude.{◌≡◌, ℕ, ◌+◌, ◌-◌, ◌≤◌, Bool, false, ◌||◌, List, [], ◌∷◌, ◌++◌, map, length, take, drop, slice_index_or}
use Rattle.stream.specs.Verdict.{same}
use Rattle.table.specs.declared.table.TheConstants.{MOST_ENTRIES}

-- one entry: the place of its first byte, its length, and the names of the snapshots that it leads
-- from and to.
pub record Row : Type 0 where
  pub place : ℕ
  pub length : ℕ
  pub from : List ℕ
  pub to : List ℕ

-- the name of the snapshot that the base image holds, the entries in order, and the fill, the place
-- where their bytes end
pub record Table : Type 0 where
  pub base : List ℕ
  pub rows : List Row
  pub fill : ℕ

abbrev pub empty_table : List ℕ → Table
empty_table name = record { base = name; rows = []; fill = 0 }

-- the place after an entry's last byte
abbrev pub end_of : Row → ℕ
end_of r = r.place + r.length

-- entry i; past the last one a row without bytes
abbrev pub no_row : Row
no_row = record { place = 0; length = 0; from = []; to = [] }

abbrev pub row_at : Table → ℕ → Row
row_at t i = slice_index_or t.rows i no_row

-- the name that the next stream has to lead from: the last entry's to name, or the base name
abbrev pub last_name : List ℕ → List Row → List ℕ
last_name name [] = name
last_name name (r ∷ rs) = last_name r.to rs

abbrev pub next_name : Table → List ℕ
next_name t = last_name t.base t.rows

-- whether an entry leads to a name, and whether a name is taken: by the base or by an entry's to
-- name
abbrev pub leads_to : List ℕ → List Row → Bool
leads_to name [] = false
leads_to name (r ∷ rs) = same name r.to || leads_to name rs

abbrev pub is_taken : List ℕ → Table → Bool
is_taken name t = same name t.base || leads_to name t.rows

-- the fill after n bytes took the place of those from start up to end
abbrev pub fill_after : ℕ → ℕ → ℕ → ℕ → ℕ
fill_after fill start end n = start + n + (fill - end)

-- a row moved together with the bytes after an old place, which now begin at a new one
abbrev pub moved_row : ℕ → ℕ → Row → Row
moved_row old new r = record r { place = new + (r.place - old) }

-- a row with n bytes and another to name
abbrev pub united_row : ℕ → List ℕ → Row → Row
united_row n to r = record r { length = n; to = to }

-- a new last row
abbrev pub append_row : Table → Row → Table
append_row t r = record t { rows = t.rows ++ (r ∷ []); fill = t.fill + r.length }

-- row i with n bytes and another to name, in the place of rows i and i + 1: the earlier rows stay,
-- the later ones move
abbrev pub take_over : Table → ℕ → ℕ → List ℕ → Table
take_over t i n to = record t {
  rows = take i t.rows
      ++ (united_row n to (row_at t i)
      ∷ map (moved_row (end_of (row_at t (i + 1))) ((row_at t i).place + n)) (drop (i + 2) t.rows));
  fill = fill_after t.fill (row_at t i).place (end_of (row_at t (i + 1))) n;
}

-- the table without row 0, over a base of another name: the others move to the front
abbrev pub drop_for : Table → List ℕ → Table
drop_for t name = record t {
  base = name;
  rows = map (moved_row (end_of (row_at t 0)) 0) (drop 1 t.rows);
  fill = fill_after t.fill 0 (end_of (row_at t 0)) 0;
}

-- the row of a new last entry of n bytes, which begins at the fill; and the table with it
abbrev pub new_row : Table → ℕ → List ℕ → List ℕ → Row
new_row t n from to = record { place = t.fill; length = n; from = from; to = to }

abbrev pub add_row : Table → ℕ → List ℕ → List ℕ → Table
add_row t n from to = append_row t (new_row t n from to)

-- entries i and i + 1 as one of n bytes, which leads to where the later one leads
abbrev pub unite_rows : Table → ℕ → ℕ → Table
unite_rows t i n = take_over t i n (row_at t (i + 1)).to

-- entry 0 leaves, and its to name is the base name
abbrev pub drop_row : Table → Table
drop_row t = drop_for t (row_at t 0).to

-- rows that lie end to end from a place up to an end
abbrev pub EndToEnd : ℕ → List Row → ℕ → Type 0
EndToEnd place [] end = place ≡ end
EndToEnd place (r ∷ rs) end = (r.place ≡ place) × EndToEnd (end_of r) rs end

-- at most 64 entries, end to end from 0 up to the fill
pub record LaidOut (t : Table) : Type 0 where
  pub end_to_end : EndToEnd 0 t.rows t.fill
  pub few : length t.rows ≤ MOST_ENTRIES

-- each row leads from where the one before it leads to
abbrev pub Chained : List ℕ → List Row → Type 0
Chained name [] = Unit {0}
Chained name (r ∷ rs) = (r.from ≡ name) × Chained r.to rs

-- the entries lead from the base name on
abbrev pub LeadsOn : Table → Type 0
LeadsOn t = Chained t.base t.rows
