-- What is known of the entries of a laid out table, and tests of them.
use Rattle.std.proofs.Common.{◌≡◌, Option, Some, None, ℕ, suc, ◌+◌, ◌-◌, ◌<◌, ◌≤◌, ◌||◌, List, [], ◌∷◌, map, length, get_or, sym, refl, ap, ◌∙◌, subst, add-one, arith}
use Rattle.std.proofs.lemmas.List.{get_or-map, length-map, nil_from_length}
use Rattle.std.specs.List.{list_any}
use Rattle.std.specs.Option.{MatchOption}
use Rattle.std.specs.Slice.{IsGetResult}
use Rattle.stream.specs.Verdict.{same}
use Rattle.table.specs.Entries.{row_of}
use Rattle.table.specs.EntryTables.{table_of}
use Rattle.table.specs.Names.{name_of}
use Rattle.table.specs.Tables.{Row, end_of, no_row, row_at, leads_to, last_name, LaidOut}
use Rattle.table.specs.declared.entry.Entry.{Entry}
use Rattle.table.specs.declared.name.Name.{Name}
use denote.Bor.{Bor}
use Rattle.table.specs.declared.table.EntryTable.TheInside.{Inside}
use Rattle.table.proofs.RowEnds.{ends_inside, ends_next}

-- an entry lies within the fill, and the next one begins where it ends
row_is : (t : Inside) (i : ℕ) (d : Entry) → i < length t.entries.items → row_at (table_of t) i ≡ row_of (get_or t.entries.items i d)
row_is t i d l = get_or-map row_of t.entries.items i d no_row l

pub inside : (t : Inside) (i : ℕ) (d : Entry) → LaidOut (table_of t) → i < length t.entries.items
    → (get_or t.entries.items i d).place + (get_or t.entries.items i d).length ≤ t.fill
inside t i d h l =
    let k = ends_inside 0 t.fill (table_of t).rows i (omega (arith, length-map t.entries.items row_of)) h.end_to_end in
    subst (λ (r : Row). end_of r ≤ t.fill) (row_is t i d l) k

pub next : (t : Inside) (i : ℕ) (d : Entry) → LaidOut (table_of t) → i + 1 < length t.entries.items
    → (row_at (table_of t) (i + 1)).place ≡ (get_or t.entries.items i d).place + (get_or t.entries.items i d).length
next t i d h l =
    let k = ends_next 0 t.fill (table_of t).rows i (omega (arith, length-map t.entries.items row_of)) h.end_to_end in
    rw add-one (k ∙ ap end_of (row_is t i d (omega arith)))

-- a test of each entry
pub leads_to_any : (name : List ℕ) (es : List Entry) → list_any (λ e. same name (name_of e.to)) es ≡ leads_to name (map row_of es)
leads_to_any name [] = refl
leads_to_any name (e ∷ es) = ap (λ b. same name (name_of e.to) || b) (leads_to_any name es)

-- the last name of rows that there are
pub last_is : (name : List ℕ) (es : List Entry) (d : Entry) → 0 < length es → last_name name (map row_of es) ≡ name_of (get_or es (length es - 1) d).to
last_is name [] d l = absurd (omega arith)
last_is name (e ∷ []) d l = refl
last_is name (e ∷ f ∷ es) d l =
    let k : suc (length (f ∷ es) - 1) ≡ length (e ∷ f ∷ es) - 1 = omega arith in
    last_is (name_of e.to) (f ∷ es) d (omega arith) ∙ ap (λ n. name_of (get_or (e ∷ f ∷ es) n d).to) k

-- the last of them, or the name where there is none
pub last_or : (o : Option (Bor Entry)) (name : Name) (es : List Entry) (r : Name) (Q : Bor Entry → Type 0) → IsGetResult es 0 (length es - 1) o → MatchOption o (r ≡ name) Q
    → ((e : Bor Entry) → Q e → r ≡ e.now.to) → name_of r ≡ last_name (name_of name) (map row_of es)
last_or None name es r Q k h q = ap name_of h ∙ sym (ap (λ q. last_name (name_of name) (map row_of q)) (nil_from_length es (omega (arith, k.3))))
last_or (Some e) name es r Q k h q = ap name_of (q e h) ∙ ap (λ (x : Entry). name_of x.to) k.1 ∙ sym (last_is (name_of name) es e.now k.3.0)
