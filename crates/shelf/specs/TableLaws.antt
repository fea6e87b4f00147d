-- What the operations on a table keep: the entries lie end to end and their names meet, and rows
-- that are not touched stay, or move and nothing else. Rests on Tables.
use Rattle.std.specs.Prelude.{◌≡◌, ℕ, suc, ◌+◌, ◌<◌, ◌≤◌, List, length}
use Rattle.table.specs.declared.table.TheConstants.{MOST_ENTRIES}
use Rattle.table.specs.Tables.{Table, empty_table, end_of, row_at, next_name, moved_row, united_row, add_row, unite_rows, drop_row, LaidOut, LeadsOn}

pub record LawsOfTables : Type 0 where
  -- the number of the rules that a constant has
  pub limit : MOST_ENTRIES ≡ 64
  -- an empty table, and a table after each operation, is laid out
  pub empty : (name : List ℕ) → LaidOut (empty_table name)
  pub added : (t : Table) (n : ℕ) (from to : List ℕ) → LaidOut t → length t.rows < MOST_ENTRIES → LaidOut (add_row t n from to)
  pub united : (t : Table) (i n : ℕ) → LaidOut t → i + 1 < length t.rows → LaidOut (unite_rows t i n)
  pub dropped : (t : Table) → LaidOut t → 0 < length t.rows → LaidOut (drop_row t)
  -- an entry lies within the fill, and its neighbour begins where it ends
  pub inside : (t : Table) (i : ℕ) → LaidOut t → i < length t.rows → end_of (row_at t i) ≤ t.fill
  pub next : (t : Table) (i : ℕ) → LaidOut t → i + 1 < length t.rows → (row_at t (i + 1)).place ≡ end_of (row_at t i)
  -- the names still meet
  pub added_leads : (t : Table) (n : ℕ) (from to : List ℕ) → LeadsOn t → from ≡ next_name t → LeadsOn (add_row t n from to)
  pub united_leads : (t : Table) (i n : ℕ) → LeadsOn t → i + 1 < length t.rows → LeadsOn (unite_rows t i n)
  pub dropped_leads : (t : Table) → LeadsOn t → 0 < length t.rows → LeadsOn (drop_row t)
  pub names_meet : (t : Table) (i : ℕ) → LeadsOn t → i + 1 < length t.rows → (row_at t (i + 1)).from ≡ (row_at t i).to
  -- how many entries there are then
  pub united_count : (t : Table) (i n : ℕ) → i + 1 < length t.rows → suc (length (unite_rows t i n).rows) ≡ length t.rows
  pub dropped_count : (t : Table) → 0 < length t.rows → suc (length (drop_row t).rows) ≡ length t.rows
  -- what each entry is then
  pub united_before : (t : Table) (i n k : ℕ) → i + 1 < length t.rows → k < i → row_at (unite_rows t i n) k ≡ row_at t k
  pub united_here : (t : Table) (i n : ℕ) → i + 1 < length t.rows → row_at (unite_rows t i n) i ≡ united_row n (row_at t (i + 1)).to (row_at t i)
  pub united_after : (t : Table) (i n k : ℕ) → i < k → k + 1 < length t.rows
      → row_at (unite_rows t i n) k ≡ moved_row (end_of (row_at t (i + 1))) ((row_at t i).place + n) (row_at t (k + 1))
  pub dropped_after : (t : Table) (k : ℕ) → k + 1 < length t.rows → row_at (drop_row t) k ≡ moved_row (end_of (row_at t 0)) 0 (row_at t (k + 1))
