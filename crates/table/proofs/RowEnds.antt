-- Rows that lie end to end: the bounds of each row, and the rows after each operation.
use Rattle.std.proofs.Common.{◌≡◌, ℕ, zero, suc, ◌+◌, ◌-◌, ◌<◌, ◌≤◌, List, [], ◌∷◌, ◌++◌, map, length, get_or, take, drop, sym, ap, subst, arith}
use Rattle.table.specs.Tables.{Row, end_of, no_row, fill_after, moved_row, united_row, EndToEnd}

-- where rows end to end lie
pub ends_le : (a b : ℕ) (rs : List Row) → EndToEnd a rs b → a ≤ b
ends_le a b [] h = omega arith
ends_le a b (r ∷ rs) h = omega (arith, h.0, ends_le (end_of r) b rs h.1)

pub ends_inside : (a b : ℕ) (rs : List Row) (i : ℕ) → i < length rs → EndToEnd a rs b → end_of (get_or rs i no_row) ≤ b
ends_inside a b [] i l h = absurd (omega arith)
ends_inside a b (r ∷ rs) zero l h = ends_le (end_of r) b rs h.1
ends_inside a b (r ∷ rs) (suc i) l h = ends_inside (end_of r) b rs i (omega arith) h.1

pub ends_above : (a b : ℕ) (rs : List Row) (i : ℕ) → i < length rs → EndToEnd a rs b → a ≤ (get_or rs i no_row).place
ends_above a b [] i l h = absurd (omega arith)
ends_above a b (r ∷ rs) zero l h = omega (arith, h.0)
ends_above a b (r ∷ rs) (suc i) l h = omega (arith, h.0, ends_above (end_of r) b rs i (omega arith) h.1)

pub ends_next : (a b : ℕ) (rs : List Row) (i : ℕ) → suc i < length rs → EndToEnd a rs b → (get_or rs (suc i) no_row).place ≡ end_of (get_or rs i no_row)
ends_next a b [] i l h = absurd (omega arith)
ends_next a b (r ∷ []) i l h = absurd (omega arith)
ends_next a b (r ∷ s ∷ rs) zero l h = h.1.0
ends_next a b (r ∷ s ∷ rs) (suc i) l h = ends_next (end_of r) b (s ∷ rs) i (omega arith) h.1

-- the rows from row i on
pub ends_drop : (a b : ℕ) (rs : List Row) (i : ℕ) → i < length rs → EndToEnd a rs b → EndToEnd (end_of (get_or rs i no_row)) (drop (suc i) rs) b
ends_drop a b [] i l h = absurd (omega arith)
ends_drop a b (r ∷ rs) zero l h = h.1
ends_drop a b (r ∷ rs) (suc i) l h = ends_drop (end_of r) b rs i (omega arith) h.1

-- two parts, and the same rows moved
pub ends_append : (a b c : ℕ) (rs ss : List Row) → EndToEnd a rs b → EndToEnd b ss c → EndToEnd a (rs ++ ss) c
ends_append a b c [] ss h k = subst (λ x. EndToEnd x ss c) (sym h) k
ends_append a b c (r ∷ rs) ss h k = (h.0, ends_append (end_of r) b c rs ss h.1 k)

pub ends_moved : (old new a b : ℕ) (rs : List Row) → old ≤ a → EndToEnd a rs b → EndToEnd (new + (a - old)) (map (moved_row old new) rs) (new + (b - old))
ends_moved old new a b [] l h = ap (λ x. new + (x - old)) h
ends_moved old new a b (r ∷ rs) l h =
    let at = h.0 in
    let e : new + (end_of r - old) ≡ end_of (moved_row old new r) = omega arith in
    (ap (λ x. new + (x - old)) at, subst (λ x. EndToEnd x (map (moved_row old new) rs) (new + (b - old))) e (ends_moved old new (end_of r) b rs (omega arith) h.1))

-- rows that began at an old place, at a new one
pub ends_moved_to : (old new b : ℕ) (rs : List Row) → EndToEnd old rs b → EndToEnd new (map (moved_row old new) rs) (new + (b - old))
ends_moved_to old new b rs h =
    let e : new + (old - old) ≡ new = omega arith in
    subst (λ x. EndToEnd x (map (moved_row old new) rs) (new + (b - old))) e (ends_moved old new old b rs (omega arith) h)

-- rows i and i + 1 as one of n bytes, with any to name
pub ends_united : (a b : ℕ) (rs : List Row) (i n : ℕ) (to : List ℕ) → suc i < length rs → EndToEnd a rs b
    → EndToEnd a
    (take i rs
    ++ (united_row n to (get_or rs i no_row)
    ∷ map (moved_row (end_of (get_or rs (suc i) no_row)) ((get_or rs i no_row).place + n)) (drop (suc (suc i)) rs)))
    (fill_after b (get_or rs i no_row).place (end_of (get_or rs (suc i) no_row)) n)
ends_united a b [] i n to l h = absurd (omega arith)
ends_united a b (r ∷ []) i n to l h = absurd (omega arith)
ends_united a b (r ∷ s ∷ rs) zero n to l h = (h.0, ends_moved_to (end_of s) (r.place + n) b rs h.1.1)
ends_united a b (r ∷ s ∷ rs) (suc i) n to l h = (h.0, ends_united (end_of r) b (s ∷ rs) i n to (omega arith) h.1)
