-- A list of records is well formed, record by record, exactly if it is sound in one look; so a
-- stream is accepted exactly if it is the stream of a sound list.
use Rattle.std.proofs.Common.{◌≡◌, ℕ, ◌+◌, ◌<◌, ◌≤◌, Bool, true, false, List, [], ◌∷◌, ◌++◌, length, Ok, Err, Result, Fits, w8, slice_index_or, sym, refl, ap, ◌∙◌, subst, arith}
use Rattle.std.proofs.ByRecursion.{All-from_get_or}
use Rattle.std.specs.List.{AllByRecursion}
use Rattle.stream.specs.Rule.{State, Data, meta, from_rule, to_rule, size_rule, late_rule}
use Rattle.stream.specs.Steps.{Pos}
use Rattle.stream.specs.Records.{Content, from_name, to_name, image_size, data_at, zeros_at, size_in, data_of}
use Rattle.stream.specs.Verdict.{start, verdict, check_answer}
use Rattle.stream.specs.Wellformed.{WellFormed, pos_past, Bytes}
use Rattle.stream.specs.Sound.{GoodMeta, froms, tos, sizes, RisingRecords, SoundExactly, AcceptedExactly, Exact}
use Rattle.fault.specs.declared.fault.Fault.{Fault}
use Rattle.stream.proofs.WrittenRecords.{reads_back}
use Rattle.stream.proofs.ReadRecords.{passes, ok_same}
use Rattle.stream.proofs.StreamRefusals.{accepted_is_stream, refused_exactly}

pub never : {A E C : Type 0} (x : A) (y : E) → ◌≡◌ {A = Result A E} (Err y) (Ok x) → C
never x y h = absurd cc

abbrev num : Bool → ℕ
num true = 1
num false = 0

num_small : (b : Bool) → num b ≤ 1
num_small true = omega arith
num_small false = omega arith

-- what the rule of data asks of the state
late_asks : (f t z : Bool) (s : State) → late_rule (meta f t z) ≡ Ok s → (num t ≡ 1) × (num z ≡ 1) × (s ≡ Data)
late_asks f true true s h = (refl, refl, sym (ok_same Data s h))
late_asks f t z s h = never s _ h

-- after a data record
data_sound : (cs : List Content) (p : Pos) → p.state ≡ Data → p.count ≤ 512 → WellFormed p cs → RisingRecords p.size p.end cs × (p.count + length cs ≤ 512)
data_sound [] p e l w = (tt, omega arith)
data_sound (from_name n ∷ cs) p e l w = never w.0 _ (sym (ap from_rule e) ∙ w.1)
data_sound (to_name n ∷ cs) p e l w = never w.0 _ (sym (ap to_rule e) ∙ w.1)
data_sound (image_size n ∷ cs) p e l w = never w.0 _ (sym (ap size_rule e) ∙ w.1)
data_sound (c ∷ cs) p e l w =
    let d = sym (ok_same Data w.0 (sym (ap late_rule e) ∙ w.1)) in
    let i = data_sound cs (pos_past p c w.0) d (omega (arith, w.2.0)) w.3 in
    ((w.2.3, w.2.1, w.2.2, i.0), omega (arith, i.1))

-- before the first data record, with what was seen of the metadata
record Found (cs : List Content) (f t z : Bool) (size : ℕ) : Type 0 where
  metas : List Content
  datas : List Content
  whole : cs ≡ metas ++ datas
  good : AllByRecursion GoodMeta metas
  one_from : num f + froms metas ≤ 1
  one_to : num t + tos metas ≡ 1
  one_size : num z + sizes metas ≡ 1
  rising : RisingRecords (size_in size metas) 0 datas
  few : length datas ≤ 512

-- metadata in front of what was found, and data alone
meta_found : (c : Content) (cs : List Content) (f t z g u y : Bool) (size after : ℕ) (i : Found cs g u y after) → GoodMeta c
    → num f + froms (c ∷ i.metas) ≤ 1 → num t + tos (c ∷ i.metas) ≡ 1 → num z + sizes (c ∷ i.metas) ≡ 1 → RisingRecords (size_in size (c ∷ i.metas)) 0 i.datas
    → Found (c ∷ cs) f t z size
meta_found c cs f t z g u y size after i good a b d r = record {
  metas = c ∷ i.metas;
  datas = i.datas;
  whole = ap (λ v. c ∷ v) i.whole;
  good = (good, i.good);
  one_from = a;
  one_to = b;
  one_size = d;
  rising = r;
  few = i.few;
}

data_found : (cs : List Content) (f t z : Bool) (size : ℕ) → num t ≡ 1 → num z ≡ 1 → RisingRecords size 0 cs → length cs ≤ 512 → Found cs f t z size
data_found cs f t z size a b r l = let c = num_small f in record {
  metas = [];
  datas = cs;
  whole = refl;
  good = tt;
  one_from = omega arith;
  one_to = omega arith;
  one_size = omega arith;
  rising = r;
  few = l;
}

meta_sound : (cs : List Content) (p : Pos) (f t z : Bool) → p.state ≡ meta f t z → p.count ≡ 0 → p.end ≡ 0 → WellFormed p cs → Found cs f t z p.size
meta_sound [] p f t z e n l w =
    let a = late_asks f t z Data (sym (ap late_rule e) ∙ w) in
    data_found [] f t z p.size a.0 a.1 tt (omega arith)
meta_sound (from_name m ∷ cs) p f t z e n l w =
    let a = passes f _ _ _ (sym (ap from_rule e) ∙ w.1) in
    let i = meta_sound cs (pos_past p (from_name m) w.0) true t z (sym (ok_same _ _ a.1)) n l w.3 in
    let x = ap num a.0 in let y = i.one_from in
    meta_found (from_name m) cs f t z true t z p.size p.size i w.2 (omega arith) i.one_to i.one_size i.rising
meta_sound (to_name m ∷ cs) p f t z e n l w =
    let a = passes t _ _ _ (sym (ap to_rule e) ∙ w.1) in
    let i = meta_sound cs (pos_past p (to_name m) w.0) f true z (sym (ok_same _ _ a.1)) n l w.3 in
    let x = ap num a.0 in let y = i.one_to in
    meta_found (to_name m) cs f t z f true z p.size p.size i w.2 i.one_from (omega arith) i.one_size i.rising
meta_sound (image_size m ∷ cs) p f t z e n l w =
    let a = passes z _ _ _ (sym (ap size_rule e) ∙ w.1) in
    let i = meta_sound cs (pos_past p (image_size m) w.0) f t true (sym (ok_same _ _ a.1)) n l w.3 in
    let x = ap num a.0 in let y = i.one_size in
    meta_found (image_size m) cs f t z f t true p.size m i w.2 i.one_from i.one_to (omega arith) i.rising
meta_sound (c ∷ cs) p f t z e n l w =
    let a = late_asks f t z w.0 (sym (ap late_rule e) ∙ w.1) in
    let i = data_sound cs (pos_past p c w.0) a.2 (omega (arith, w.2.0)) w.3 in
    data_found (c ∷ cs) f t z p.size a.0 a.1 (omega arith, w.2.1, w.2.2, i.0) (omega (arith, i.1))

-- and back
data_well : (cs : List Content) (p : Pos) → late_rule p.state ≡ Ok Data → RisingRecords p.size p.end cs → p.count + length cs ≤ 512 → WellFormed p cs
data_well [] p e r l = e
data_well (data_at o bs ∷ cs) p e r l =
    (Data, e, (omega arith, r.1, r.2, r.0), data_well cs (pos_past p (data_at o bs) Data) refl r.3 (omega arith))
data_well (zeros_at o n ∷ cs) p e r l =
    (Data, e, (omega arith, r.1, r.2, r.0), data_well cs (pos_past p (zeros_at o n) Data) refl r.3 (omega arith))
data_well (c ∷ cs) p e r l = absurd r

meta_well : (ms ds : List Content) (p : Pos) (f t z : Bool) → p.state ≡ meta f t z → p.count ≡ 0 → p.end ≡ 0 → AllByRecursion GoodMeta ms → num f + froms ms ≤ 1
    → num t + tos ms ≡ 1 → num z + sizes ms ≡ 1 → RisingRecords (size_in p.size ms) 0 ds → length ds ≤ 512 → WellFormed p (ms ++ ds)
meta_well [] ds p f true true e n l g a b c r k =
    let P : ℕ → Type 0 = λ v. RisingRecords p.size v ds in
    data_well ds p (ap late_rule e) (subst P (sym l) r) (omega arith)
meta_well [] ds p f true false e n l g a b c r k = absurd (omega arith)
meta_well [] ds p f false z e n l g a b c r k = absurd (omega arith)
meta_well (from_name m ∷ ms) ds p true t z e n l g a b c r k = absurd (omega arith)
meta_well (from_name m ∷ ms) ds p false t z e n l g a b c r k =
    (meta true t z, ap from_rule e, g.0, meta_well ms ds (pos_past p (from_name m) (meta true t z)) true t z refl n l g.1 (omega arith) b c r k)
meta_well (to_name m ∷ ms) ds p f true z e n l g a b c r k = absurd (omega arith)
meta_well (to_name m ∷ ms) ds p f false z e n l g a b c r k =
    (meta f true z, ap to_rule e, g.0, meta_well ms ds (pos_past p (to_name m) (meta f true z)) f true z refl n l g.1 a (omega arith) c r k)
meta_well (image_size m ∷ ms) ds p f t true e n l g a b c r k = absurd (omega arith)
meta_well (image_size m ∷ ms) ds p f t false e n l g a b c r k =
    (meta f t true, ap size_rule e, g.0, meta_well ms ds (pos_past p (image_size m) (meta f t true)) f t true refl n l g.1 a b (omega arith) r k)
meta_well (d ∷ ms) ds p f t z e n l g a b c r k = absurd g.0

-- the data records of a sound list: after the metadata, which are none, each record is one
pub data_only : (ds : List Content) (size end : ℕ) → RisingRecords size end ds → data_of ds ≡ ds
data_only [] size end r = refl
data_only (data_at o bs ∷ ds) size end r = ap (λ v. data_at o bs ∷ v) (data_only ds size (o + length bs) r.3)
data_only (zeros_at o n ∷ ds) size end r = ap (λ v. zeros_at o n ∷ v) (data_only ds size (o + n) r.3)
data_only (c ∷ ds) size end r = absurd r

pub data_behind : (ms ds : List Content) → AllByRecursion GoodMeta ms → data_of (ms ++ ds) ≡ data_of ds
data_behind [] ds g = refl
data_behind (data_at o bs ∷ ms) ds g = absurd g.0
data_behind (zeros_at o n ∷ ms) ds g = absurd g.0
data_behind (c ∷ ms) ds g = data_behind ms ds g.1

pub sound_exactly : SoundExactly
sound_exactly cs = (
  λ w. let i = meta_sound cs start false false false refl refl refl w in
      let x = i.one_from in let y = i.one_to in let v = i.one_size in
      record {
        metas = i.metas;
        datas = i.datas;
        whole = i.whole;
        good = i.good;
        one_from = omega arith;
        one_to = omega arith;
        one_size = omega arith;
        rising = i.rising;
        few = i.few;
      },
  λ s. let x = s.one_from in let y = s.one_to in let v = s.one_size in
      subst (WellFormed start) (sym s.whole)
      (meta_well s.metas s.datas start false false false refl refl refl s.good (omega arith) (omega arith) (omega arith) s.rising s.few),
)

checked_ok : (o : Result (List Content) Fault) → check_answer o ≡ Ok tt → (cs : List Content) × (o ≡ Ok cs)
checked_ok (Ok cs) h = (cs, refl)
checked_ok (Err f) h = never tt f h

pub accepted_exactly : AcceptedExactly
accepted_exactly xs b = (
  λ h. let c = checked_ok (verdict xs) h in let a = accepted_is_stream xs c.0 b c.1 in (c.0, (sound_exactly c.0).0 a.1, a.0),
  λ w. ap check_answer (ap verdict w.2 ∙ reads_back w.0 ((sound_exactly w.0).1 w.1)),
)

checked_err : (o : Result (List Content) Fault) (f : Fault) → check_answer o ≡ Err f → o ≡ Err f
checked_err (Ok cs) f h = never tt f (sym h)
checked_err (Err g) f h = let e : g ≡ f = cc in ap Err e

-- what a check answers, of bytes by their places
pub exact_bytes : (xs : List ℕ) (r : Result (Unit {0}) Fault) → r ≡ check_answer (verdict xs) → ((i : ℕ) → Fits w8 (slice_index_or xs i 0)) → Exact xs r
exact_bytes xs r e are =
    let b : Bytes xs = All-from_get_or (λ v. v < 256) xs 0 (λ i l. let t = are i in omega arith) in
    record {
      accepted = λ h. (accepted_exactly xs b).0 (sym e ∙ h);
      stream = λ w. e ∙ (accepted_exactly xs b).1 w;
      refused = λ f h. (refused_exactly xs f b).0 (checked_err (verdict xs) f (sym e ∙ h));
      refusal = λ f w. e ∙ ap check_answer ((refused_exactly xs f b).1 w);
    }
