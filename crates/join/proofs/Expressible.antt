-- What a sound list of records means can be expressed. Assumes nothing.
use Rattle.std.proofs.Common.{◌≡◌, ℕ, ◌+◌, ◌*◌, ◌^◌, ◌<◌, ◌≤◌, List, [], ◌∷◌, ◌++◌, length, sym, refl, ap, ◌∙◌, subst, arith, length-append}
use Rattle.std.specs.List.{AllByRecursion}
use Rattle.overlay.specs.declared.payloads.Side.TheVariants.{Later}
use Rattle.stream.specs.Records.{Content, from_name, to_name, image_size, data_at, zeros_at, header, record_bytes, records_bytes, stream_bytes, from_of, to_of, size_in}
use Rattle.stream.specs.Wellformed.{GoodName}
use Rattle.stream.specs.Gathered.{with_records, nothing_gathered}
use Rattle.stream.specs.Sound.{GoodMeta, froms, tos, sizes, RisingRecords, Sound}
use Rattle.stream.specs.Meaning.{ranges}
use Rattle.stream.specs.Difference.{GoodFrom}
use Rattle.stream.proofs.StreamMeaning.{stands_for, encodings_append, size_small}
use Rattle.join.specs.Laws.{SoundExpressible}
use Rattle.stream.proofs.FoundRanges.{length_cells}
use Rattle.stream.proofs.RangeCounts.{parts_few}

-- metadata is short
meta_length : (ms : List Content) → AllByRecursion GoodMeta ms → length (records_bytes ms) ≤ 69 * froms ms + 69 * tos ms + 9 * sizes ms
meta_length [] g = omega arith
meta_length (from_name n ∷ ms) g = omega (arith, length-append (record_bytes (from_name n)) (records_bytes ms), meta_length ms g.1, g.0.1)
meta_length (to_name n ∷ ms) g = omega (arith, length-append (record_bytes (to_name n)) (records_bytes ms), meta_length ms g.1, g.0.1)
meta_length (image_size n ∷ ms) g = omega (arith, length-append (record_bytes (image_size n)) (records_bytes ms), meta_length ms g.1)
meta_length (m ∷ ms) g = absurd g.0

-- payloads take no more bytes than the size
data_length : (ds : List Content) (size end : ℕ) → end ≤ size → RisingRecords size end ds → length (records_bytes ds) + end ≤ 17 * length ds + size
data_length [] size end l r = omega arith
data_length (data_at o bs ∷ ds) size end l r =
    omega (arith, length-append (record_bytes (data_at o bs)) (records_bytes ds), data_length ds size (o + length bs) r.2 r.3, r.0)
data_length (zeros_at o n ∷ ds) size end l r =
    omega (arith, length-append (record_bytes (zeros_at o n)) (records_bytes ds), data_length ds size (o + n) r.2 r.3, r.0)
data_length (d ∷ ds) size end l r = absurd r

pub sound_short : (cs : List Content) → Sound cs → length (stream_bytes cs) < 2 ^ 64
sound_short cs s =
    let ms = s.metas in
    let ds = s.datas in
    let e : length (records_bytes cs) ≡ length (records_bytes ms) + length (records_bytes ds) = ap (λ v. length (records_bytes v)) s.whole ∙ ap length (encodings_append ms ds) ∙ length-append (records_bytes ms) (records_bytes ds) in
    let a = length-append header (records_bytes cs ++ (101 ∷ [])) in
    let b = length-append (records_bytes cs) (101 ∷ []) in
    let m = meta_length ms s.good in
    let z = size_small ms 0 (omega arith) s.good in
    let d = data_length ds (size_in 0 ms) 0 (omega arith) s.rising in
    omega (arith, e, a, b, m, z, d, s.one_from, s.one_to, s.one_size, s.few)

good_from : (name : List ℕ) → GoodName name → GoodFrom name
good_from [] h = tt
good_from (b ∷ bs) h = h

-- data records say no names: those said before stand
data_names : (ds : List Content) (size end : ℕ) (from to : List ℕ) → RisingRecords size end ds → (from_of from ds ≡ from) × (to_of to ds ≡ to)
data_names [] size end from to r = (refl, refl)
data_names (data_at o bs ∷ ds) size end from to r = data_names ds size (o + length bs) from to r.3
data_names (zeros_at o n ∷ ds) size end from to r = data_names ds size (o + n) from to r.3
data_names (d ∷ ds) size end from to r = absurd r

pub data_from : (ds : List Content) (size end : ℕ) (before : List ℕ) → RisingRecords size end ds → from_of before ds ≡ before
data_from ds size end before r = (data_names ds size end before [] r).0

pub data_to : (ds : List Content) (size end : ℕ) (before : List ℕ) → RisingRecords size end ds → to_of before ds ≡ before
data_to ds size end before r = (data_names ds size end [] before r).1

module _ (ds : List Content) (size end : ℕ) (r : RisingRecords size end ds) where
  from_good : (ms : List Content) (before : List ℕ) → AllByRecursion GoodMeta ms → GoodFrom before → GoodFrom (from_of before (ms ++ ds))
  from_good [] before g h = subst GoodFrom (sym (data_from ds size end before r)) h
  from_good (from_name n ∷ ms) before g h = from_good ms n g.1 (good_from n g.0)
  from_good (m ∷ ms) before g h = from_good ms before g.1 h

  to_stays : (ms : List Content) (before : List ℕ) → AllByRecursion GoodMeta ms → GoodName before → GoodName (to_of before (ms ++ ds))
  to_stays [] before g h = subst GoodName (sym (data_to ds size end before r)) h
  to_stays (to_name n ∷ ms) before g h = to_stays ms n g.1 g.0
  to_stays (m ∷ ms) before g h = to_stays ms before g.1 h

  to_good : (ms : List Content) (before : List ℕ) → AllByRecursion GoodMeta ms → tos ms ≡ 1 → GoodName (to_of before (ms ++ ds))
  to_good [] before g h = absurd (omega arith)
  to_good (to_name n ∷ ms) before g h = to_stays ms n g.1 g.0
  to_good (m ∷ ms) before g h = to_good ms before g.1 h

pub sound_expressible : SoundExpressible
sound_expressible cs s =
    let ms = s.metas in
    let ds = s.datas in
    let size = size_in 0 ms in
    let xs = stream_bytes cs in
    let g = with_records Later nothing_gathered 12 cs in
    let st = stands_for Later cs xs s refl (sound_short cs s) in
    let means = st.means [] xs refl in
    let lc = ap length means in
    let few = parts_few [] xs g.runs g.size (omega (arith, st.small)) st.rising in
    record {
      from_good = subst (λ v. GoodFrom (from_of [] v)) (sym s.whole) (from_good ds size 0 s.rising ms [] s.good tt);
      to_good = subst (λ v. GoodName (to_of [] v)) (sym s.whole) (to_good ds size 0 s.rising ms [] s.good s.one_to);
      small = omega (arith, lc, length_cells [] xs g.runs g.size, st.small);
      few = subst (λ v. length (ranges v) ≤ 512) means (omega (arith, few, st.few));
    }
