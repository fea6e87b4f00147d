-- The tags of a sound stream tell whether its metadata lie in the canonical order. Assumes nothing.
use Rattle.std.proofs.Common.{◌≡◌, ℕ, ◌+◌, ◌-◌, ◌≤◌, true, List, [], ◌∷◌, ◌++◌, length, get_or, sym, refl, ap, ◌∙◌, subst, arith}
use Rattle.std.specs.List.{AllByRecursion}
use Rattle.std.proofs.lemmas.List.{append_assoc, get_or-append_right, get_or-append-add}
use Rattle.std.proofs.lemmas.Bool.{and_parts, and_from, eqb-true, eq-eqb}
use Rattle.stream.specs.Bytes.{le_bytes}
use Rattle.stream.specs.Records.{Content, from_name, to_name, image_size, data_at, zeros_at, header, records_bytes, stream_bytes, metas, from_of, to_of, size_in}
use Rattle.stream.specs.Sound.{GoodMeta, froms, tos, sizes, RisingRecords, Sound}
use Rattle.stream.proofs.StreamMeaning.{encodings_append}
use Rattle.join.specs.Orders.{has_tag, in_order}
use Rattle.join.proofs.Expressible.{data_from}
use Rattle.join.proofs.CanonicalRecords.{said}

-- the tag of the first record, with bytes after the records
abbrev first : List Content → List ℕ → ℕ
first cs tail = get_or (records_bytes cs ++ tail) 0 0

none_left : (ms : List Content) → AllByRecursion GoodMeta ms → froms ms + tos ms + sizes ms ≡ 0 → ms ≡ []
none_left [] g h = refl
none_left (data_at o bs ∷ ms) g h = absurd g.0
none_left (zeros_at o n ∷ ms) g h = absurd g.0
none_left (m ∷ ms) g h = absurd (omega arith)

size_left : (ms : List Content) → AllByRecursion GoodMeta ms → froms ms + tos ms ≡ 0 → sizes ms ≡ 1 → (n : ℕ) × (ms ≡ image_size n ∷ [])
size_left [] g h s = absurd (omega arith)
size_left (image_size n ∷ ms) g h s = (n, ap (λ v. image_size n ∷ v) (none_left ms g.1 (omega arith)))
size_left (data_at o bs ∷ ms) g h s = absurd g.0
size_left (zeros_at o n ∷ ms) g h s = absurd g.0
size_left (m ∷ ms) g h s = absurd (omega arith)

-- without f, and with a t first: t and s
to_first : (ms : List Content) (tail : List ℕ) → AllByRecursion GoodMeta ms → froms ms ≡ 0 → tos ms ≡ 1 → sizes ms ≡ 1 → first ms tail ≡ 116
    → (to : List ℕ) × (n : ℕ) × (ms ≡ to_name to ∷ (image_size n ∷ []))
to_first [] tail g f t s e = absurd (omega arith)
to_first (to_name n ∷ ms) tail g f t s e =
    let l = size_left ms g.1 (omega arith) s in
    (n, l.0, ap (λ v. to_name n ∷ v) l.1)
to_first (data_at o bs ∷ ms) tail g f t s e = absurd g.0
to_first (zeros_at o n ∷ ms) tail g f t s e = absurd g.0
to_first (m ∷ ms) tail g f t s e = absurd (omega arith)

from_first : (ms : List Content) (tail : List ℕ) → AllByRecursion GoodMeta ms → tos ms ≡ 1 → first ms tail ≡ 102
    → (name : List ℕ) × (more : List Content) × (ms ≡ from_name name ∷ more)
from_first [] tail g t e = absurd (omega arith)
from_first (from_name n ∷ ms) tail g t e = (n, ms, refl)
from_first (data_at o bs ∷ ms) tail g t e = absurd g.0
from_first (zeros_at o n ∷ ms) tail g t e = absurd g.0
from_first (m ∷ ms) tail g t e = absurd (omega arith)

-- the from name after metadata
module _ (ds : List Content) (size end : ℕ) (r : RisingRecords size end ds) where
  from_stays : (ms : List Content) (name : List ℕ) → AllByRecursion GoodMeta ms → 1 ≤ length name → 1 ≤ length (from_of name (ms ++ ds))
  from_stays [] name g h = subst (λ v. 1 ≤ length v) (sym (data_from ds size end name r)) h
  from_stays (from_name n ∷ ms) name g h = from_stays ms n g.1 g.0.0
  from_stays (m ∷ ms) name g h = from_stays ms name g.1 h

  no_from : (ms : List Content) (name : List ℕ) → AllByRecursion GoodMeta ms → length (from_of name (ms ++ ds)) ≡ 0 → froms ms ≡ 0
  no_from [] name g h = refl
  no_from (from_name n ∷ ms) name g h = absurd (omega (arith, from_stays ms n g.1 g.0.0))
  no_from (m ∷ ms) name g h = no_from ms name g.1 h

  from_kept : (ms : List Content) (name : List ℕ) → AllByRecursion GoodMeta ms → froms ms ≡ 0 → from_of name (ms ++ ds) ≡ name
  from_kept [] name g h = data_from ds size end name r
  from_kept (from_name n ∷ ms) name g h = absurd (omega arith)
  from_kept (m ∷ ms) name g h = from_kept ms name g.1 h

-- the byte after the first name of a stream
behind_name : (tag : ℕ) (name rest : List ℕ) → get_or (header ++ (tag ∷ (le_bytes 4 (length name) ++ (name ++ rest)))) (17 + length name) 0 ≡ get_or rest 0 0
behind_name tag name rest =
    let z : length name - length name ≡ 0 = omega arith in
    get_or-append-add (header ++ (tag ∷ le_bytes 4 (length name))) (name ++ rest) (length name) 0
    ∙ get_or-append_right name rest (length name) (length name) 0 refl (omega arith)
    ∙ ap (λ i. get_or rest i 0) z

abbrev tail : List ℕ
tail = 101 ∷ []

-- metadata in the canonical order with the names and the size that they say
record Metas (ms : List Content) : Type 0 where
  from : List ℕ
  to : List ℕ
  size : ℕ
  whole : ms ≡ metas from to size

module _ (ms ds : List Content) (xs : List ℕ) (size end : ℕ) (r : RisingRecords size end ds) (g : AllByRecursion GoodMeta ms) (f : froms ms ≤ 1) (t : tos ms ≡ 1) (s : sizes ms ≡ 1)
    (e : xs ≡ stream_bytes (ms ++ ds)) where
  parted : (cs : List Content) → records_bytes (cs ++ ds) ++ tail ≡ records_bytes cs ++ (records_bytes ds ++ tail)
  parted cs = ap (λ v. v ++ tail) (encodings_append cs ds) ∙ append_assoc (records_bytes cs) (records_bytes ds) tail

  first_tag : first ms (records_bytes ds ++ tail) ≡ get_or xs 12 0
  first_tag = sym (ap (λ v. get_or v 12 0) e ∙ get_or-append-add header (records_bytes (ms ++ ds) ++ tail) 0 0 ∙ ap (λ v. get_or v 0 0) (parted ms))

  -- the tag after a from name
  next_tag : (name : List ℕ) (more : List Content) → ms ≡ from_name name ∷ more → first more (records_bytes ds ++ tail) ≡ get_or xs (17 + length name) 0
  next_tag name more m =
      sym (ap (λ v. get_or v (17 + length name) 0)
      (e ∙ ap (λ v. stream_bytes (v ++ ds)) m ∙ ap (λ v. header ++ (102 ∷ (le_bytes 4 (length name) ++ v))) (append_assoc name (records_bytes (more ++ ds)) tail ∙ ap (λ v. name ++ v) (parted more)))
      ∙ behind_name 102 name (records_bytes more ++ (records_bytes ds ++ tail)))

  metas_found : (name : List ℕ) → from_of [] (ms ++ ds) ≡ name → in_order xs name ≡ true → Metas ms
  metas_found [] h o =
      let l = to_first ms (records_bytes ds ++ tail) g (no_from ds size end r ms [] g (ap length h)) t s (first_tag ∙ eqb-true _ _ o) in
      record { from = []; to = l.0; size = l.1; whole = l.2 }
  metas_found (b ∷ bs) h o =
      let both = and_parts (has_tag xs 12 102) (has_tag xs (17 + length (b ∷ bs)) 116) o in
      let l = from_first ms (records_bytes ds ++ tail) g t (first_tag ∙ eqb-true _ _ both.0) in
      let name = l.0 in
      let more = l.1 in
      let m : ms ≡ from_name name ∷ more = l.2 in
      let good : AllByRecursion GoodMeta (from_name name ∷ more) = subst (AllByRecursion GoodMeta) m g in
      let none : froms more ≡ 0 = omega (arith, ap froms m) in
      let is : name ≡ b ∷ bs = sym (from_kept ds size end r more name good.1 none) ∙ sym (ap (λ v. from_of [] (v ++ ds)) m) ∙ h in
      let k = to_first more (records_bytes ds ++ tail) good.1 none (sym (ap tos m) ∙ t) (sym (ap sizes m) ∙ s)
      (next_tag name more m ∙ ap (λ v. get_or xs (17 + length v) 0) is ∙ eqb-true _ _ both.1) in
      record {
        from = b ∷ bs;
        to = k.0;
        size = k.1;
        whole = m ∙ ap (λ v. from_name name ∷ v) k.2 ∙ ap (λ v. from_name v ∷ (to_name k.0 ∷ (image_size k.1 ∷ []))) is;
      }

-- the metadata of sound records are in the canonical order if the tags say so
pub ordered : (cs : List Content) (xs : List ℕ) (s : Sound cs) → xs ≡ stream_bytes cs → in_order xs (from_of [] cs) ≡ true
    → s.metas ≡ metas (from_of [] cs) (to_of [] cs) (size_in 0 cs)
ordered cs xs s e o =
    let ms = s.metas in
    let ds = s.datas in
    let r = s.rising in
    let z = size_in 0 ms in
    let m = metas_found ms ds xs z 0 r s.good s.one_from s.one_to s.one_size (e ∙ ap stream_bytes s.whole) (from_of [] cs) (ap (from_of []) (sym s.whole)) o in
    let from = m.from in
    let to = m.to in
    let n = m.size in
    let it = said from to n ds z 0 r in
    let w : cs ≡ metas from to n ++ ds = s.whole ∙ ap (λ v. v ++ ds) m.whole in
    m.whole
    ∙ ap (λ v. metas v to n) (sym (ap (from_of []) w ∙ it.0))
    ∙ ap (λ v. metas (from_of [] cs) v n) (sym (ap (to_of []) w ∙ it.1))
    ∙ ap (metas (from_of [] cs) (to_of [] cs)) (sym (ap (size_in 0) w ∙ it.2))

-- and the tags of a canonical stream do
pub canonical_order : (from to : List ℕ) (n : ℕ) (rest : List Content) → in_order (stream_bytes (metas from to n ++ rest)) from ≡ true
canonical_order [] to n rest = refl
canonical_order (b ∷ bs) to n rest =
    let more = to_name to ∷ (image_size n ∷ rest) in
    and_from _ _ refl
    (eq-eqb _ _
    (ap (λ v. get_or (header ++ (102 ∷ (le_bytes 4 (length (b ∷ bs)) ++ v))) (17 + length (b ∷ bs)) 0) (append_assoc (b ∷ bs) (records_bytes more) tail)
    ∙ behind_name 102 (b ∷ bs) (records_bytes more ++ tail)))
