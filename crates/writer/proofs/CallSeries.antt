-- A series of calls: what the buffer holds after it, and that a reader takes what it wrote.
use Rattle.std.proofs.Common.{◌≡◌, ℕ, ◌+◌, ◌≤◌, true, false, List, [], ◌∷◌, ◌++◌, length, take, drop, Ok, sym, refl, ap, ◌∙◌, subst, zero-add, arith}
use Rattle.std.proofs.lemmas.List.{append-nil, append_assoc, length-append, take_at, drop_at}
use Rattle.stream.specs.Bytes.{buffer_with}
use Rattle.stream.specs.Records.{Content, image_size, data_at, zeros_at, record_bytes, records_bytes, stream_bytes, header, metas}
use Rattle.stream.specs.Rule.{meta, late_rule}
use Rattle.stream.specs.Steps.{Pos}
use Rattle.stream.specs.Verdict.{start, verdict}
use Rattle.stream.specs.Wellformed.{GoodRange, WellFormed, ReadsBack, pos_past}
use Rattle.stream.specs.Rule.{Data}
use Rattle.writer.specs.Fields.{opening, end_record}
use Rattle.writer.specs.Calls.{writer_pos, pos_after_names, Finished}
use Rattle.writer.specs.Whole.{Writes, no_more, write, zero, refused, not_ended, EndedIsStream}
use Rattle.writer.specs.declared.recording.Recording.{Recording}
use Rattle.writer.specs.declared.ended.Ended.{Ended}
use Rattle.stream.proofs.WrittenRecords.{place_moved}
use Rattle.stream.proofs.StreamMeaning.{encodings_append}
use Rattle.writer.proofs.BufferTail.{patched_on, patched_none, length_patched}
use Rattle.writer.proofs.AcceptedCalls.{OpenedBy, names_accepted, Grown, record_accepted, end_accepted, record_refused, end_refused, Unchanged}

-- a buffer that held xs₀ holds the bytes bs, up to the place n
record Filled (xs₀ xs : List ℕ) (n : ℕ) (bs : List ℕ) : Type 0 where
  pub buffer : xs ≡ buffer_with xs₀ 0 bs
  pub place : n ≡ length bs
  pub within : n ≤ length xs₀

-- and more bytes after them
more : (xs₀ xs ys bs cs : List ℕ) (n : ℕ) → Filled xs₀ xs n bs → n + length cs ≤ length xs → ys ≡ buffer_with xs n cs → Filled xs₀ ys (n + length cs) (bs ++ cs)
more xs₀ xs ys bs cs n f h e =
    let m = f.place in
    let w = f.within in
    let l : length xs ≡ length xs₀ = ap length f.buffer ∙ length_patched xs₀ bs 0 (omega arith) in
    record {
      buffer = e ∙ ap (λ q. buffer_with q n cs) f.buffer ∙ ap (λ k. buffer_with (buffer_with xs₀ 0 bs) k cs) (m ∙ sym (zero-add (length bs))) ∙ patched_on xs₀ bs cs 0 (omega arith);
      place = omega (arith, length-append bs cs);
      within = omega arith;
    }

-- a record that was accepted, and a call that was refused
grown : {w v : Recording} {xs ys : List ℕ} {c : Content} (xs₀ bs : List ℕ) → Grown w xs c v ys → Filled xs₀ xs w.place bs → Filled xs₀ ys v.place (bs ++ record_bytes c)
grown {w} {v} {xs} {ys} {c} xs₀ bs g f =
    let P : ℕ → Type 0 = λ n. Filled xs₀ ys n (bs ++ record_bytes c) in
    let e : v.place ≡ w.place + length (record_bytes c) = ap (λ (p : Pos). p.place) g.stands ∙ place_moved (writer_pos w) c Data in
    subst P (sym e) (more xs₀ xs ys bs (record_bytes c) w.place f g.within g.buffer)

stayed : {w v : Recording} {xs ys : List ℕ} (xs₀ bs : List ℕ) → Unchanged w xs v ys → Filled xs₀ xs w.place bs → Filled xs₀ ys v.place bs
stayed {w} {v} xs₀ bs e f =
    let l : v.place ≡ w.place = ap (λ (p : Pos). p.place) e.stands in
    record { buffer = e.buffer ∙ f.buffer; place = l ∙ f.place; within = let h = f.within in omega arith }

-- the bytes of the accepted records follow one another
series_filled : {u w : Recording} {xs zs : List ℕ} {cs : List Content} (xs₀ bs : List ℕ) → Writes u xs cs w zs → Filled xs₀ xs u.place bs
    → Filled xs₀ zs w.place (bs ++ records_bytes cs)
series_filled xs₀ bs no_more f = rw (append-nil bs) f
series_filled {cs = c ∷ cs} xs₀ bs (write r s) f =
    rw (← append_assoc bs (record_bytes c) (records_bytes cs)) (series_filled xs₀ (bs ++ record_bytes c) s (grown xs₀ bs (record_accepted r) f))
series_filled {cs = c ∷ cs} xs₀ bs (zero r s) f =
    rw (← append_assoc bs (record_bytes c) (records_bytes cs)) (series_filled xs₀ (bs ++ record_bytes c) s (grown xs₀ bs (record_accepted r) f))
series_filled xs₀ bs (refused r s) f = series_filled xs₀ bs s (stayed xs₀ bs (record_refused r) f)
series_filled xs₀ bs (not_ended r s) f = series_filled xs₀ bs s (stayed xs₀ bs (end_refused r) f)

-- two positions with the same numbers, the first of a reader that may take data
record Alike (p q : Pos) : Type 0 where
  pub ready : late_rule p.state ≡ Ok Data
  pub size : p.size ≡ q.size
  pub end : p.end ≡ q.end
  pub count : p.count ≡ q.count

alike_moved : {p q : Pos} (c : Content) → Alike p q → Alike (pos_past p c Data) (pos_past q c Data)
alike_moved (image_size n) a = record { ready = refl; size = refl; end = a.end; count = a.count }
alike_moved (data_at offset bytes) a = record { ready = refl; size = a.size; end = refl; count = ap (λ n. n + 1) a.count }
alike_moved (zeros_at offset n) a = record { ready = refl; size = a.size; end = refl; count = ap (λ n. n + 1) a.count }
alike_moved c a = record { ready = refl; size = a.size; end = a.end; count = a.count }

alike_grown : {w v : Recording} {xs ys : List ℕ} {c : Content} (p : Pos) → Grown w xs c v ys → Alike p (writer_pos w) → Alike (pos_past p c Data) (writer_pos v)
alike_grown {c = c} p g a = subst (Alike (pos_past p c Data)) (sym g.stands) (alike_moved c a)

alike_stayed : {w v : Recording} {xs ys : List ℕ} (p : Pos) → Unchanged w xs v ys → Alike p (writer_pos w) → Alike p (writer_pos v)
alike_stayed p e a = subst (Alike p) (sym e.stands) a

range_alike : {p q : Pos} (offset n : ℕ) → Alike p q → GoodRange q offset n → GoodRange p offset n
range_alike offset n a g =
    let s = a.size in
    let e = a.end in
    let c = a.count in
    (omega arith, g.1, omega arith, omega arith)

-- the accepted records are well formed for a reader that stands where the writer stands
series_formed : {u w : Recording} {xs zs : List ℕ} {cs : List Content} (p : Pos) → Writes u xs cs w zs → Alike p (writer_pos u) → WellFormed p cs
series_formed p no_more a = a.ready
series_formed p (write r s) a =
    let g = record_accepted r in (Data, a.ready, range_alike _ _ a g.good, series_formed _ s (alike_grown p g a))
series_formed p (zero r s) a =
    let g = record_accepted r in (Data, a.ready, range_alike _ _ a g.good, series_formed _ s (alike_grown p g a))
series_formed p (refused r s) a = series_formed p s (alike_stayed p (record_refused r) a)
series_formed p (not_ended r s) a = series_formed p s (alike_stayed p (end_refused r) a)

-- after the names and the size a reader stands where the writer stands
opened_alike : (p : Pos) (from to : List ℕ) (size : ℕ) (w : Recording) → writer_pos w ≡ pos_after_names from to size
    → late_rule p.state ≡ Ok Data → p.size ≡ size → p.end ≡ 0 → p.count ≡ 0 → Alike p (writer_pos w)
opened_alike p from to size w e r s d n = subst (Alike p) (sym e) (record { ready = r; size = s; end = d; count = n })

-- names, size and accepted records are well formed
whole_formed : (from to : List ℕ) (size : ℕ) {xs₀ xs ys : List ℕ} {first last : Recording} {cs : List Content}
    → OpenedBy xs₀ from to size first xs → Writes first xs cs last ys → WellFormed start (metas from to size ++ cs)
whole_formed [] to size {first = w} o s =
    let f = series_formed _ s (opened_alike _ [] to size w o.stands refl refl refl refl) in
    (meta false true false, refl, o.to_good, (meta false true true, refl, o.sized, f))
whole_formed (b ∷ bs) to size {first = w} o s =
    let f = series_formed _ s (opened_alike _ (b ∷ bs) to size w o.stands refl refl refl refl) in
    (meta true false false, refl, o.from_good, (meta true true false, refl, o.to_good, (meta true true true, refl, o.sized, f)))

-- header, metadata, records and end are the stream
stream_is : (ms cs : List Content) → ((header ++ records_bytes ms) ++ records_bytes cs) ++ (end_record) ≡ stream_bytes (ms ++ cs)
stream_is ms cs = ap (λ t. header ++ (t ++ (end_record))) (sym (encodings_append ms cs))

-- the buffer up to the place, and after it
front : {xs₀ xs : List ℕ} {n : ℕ} {bs : List ℕ} → Filled xs₀ xs n bs → (take n xs ≡ bs) × (drop n xs ≡ drop n xs₀)
front {xs₀} {xs} {n} {bs} f =
    let e = f.buffer in
    let p = f.place in (
      ap (take n) e ∙ take_at bs (drop (0 + length bs) xs₀) n (sym p),
      ap (drop n) e ∙ drop_at bs (drop (0 + length bs) xs₀) n (sym p) ∙ ap (λ k. drop k xs₀) (zero-add (length bs) ∙ sym p),
    )

-- what the buffer holds when the stream has ended
all_filled : (from to : List ℕ) (size : ℕ) (cs : List Content) (first last : Recording) (done : Ended) (xs₀ xs ys zs : List ℕ)
    → OpenedBy xs₀ from to size first xs → Writes first xs cs last ys → Finished last ys (Ok done) zs
    → Filled xs₀ zs done.length (stream_bytes (metas from to size ++ cs))
all_filled from to size cs first last done xs₀ xs ys zs o s d =
    let b = opening from to size in
    let e = end_accepted d in
    let w = o.within in
    let none : Filled xs₀ xs₀ 0 [] = record { buffer = sym (patched_none xs₀ 0); place = refl; within = omega arith } in
    let P : ℕ → Type 0 = λ n. Filled xs₀ xs n b in
    let Q : ℕ → Type 0 = λ n. Filled xs₀ zs n (stream_bytes (metas from to size ++ cs)) in
    let begun = more xs₀ xs₀ xs [] b 0 none (omega arith) o.buffer in
    let placed : 0 + length b ≡ first.place = zero-add (length b) ∙ sym (ap (λ (p : Pos). p.place) o.stands) in
    let filled = series_filled xs₀ b s (subst P placed begun) in
    subst Q (sym e.0) (rw (← stream_is (metas from to size) cs) (more xs₀ ys zs (b ++ records_bytes cs) (end_record) last.place filled e.1 e.2))

pub ended_is_stream : ReadsBack → EndedIsStream
ended_is_stream back from to size cs first last done xs₀ xs ys zs h s d =
    let o = names_accepted h in
    let f = all_filled from to size cs first last done xs₀ xs ys zs o s d in
    let g = front f in
    record { whole = f.place; bytes = g.0; reads = ap verdict g.0 ∙ back (metas from to size ++ cs) (whole_formed from to size o s); beyond = g.1 }
