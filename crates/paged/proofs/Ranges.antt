-- Bytes put into a range, page by page. Rests on bytes put into one page.
use Rattle.std.proofs.Common.{◌≡◌, ℕ, ◌+◌, ◌-◌, ◌*◌, ◌/◌, ◌%◌, ◌<◌, ◌≤◌, Bool, true, false, cond, eqb, ◌⊎◌, List, length, get_or, take, drop, replicate, sym, ap, ◌∙◌, inl, inr, ⊎_elim, arith, length-drop, length-take, rules}
use Rattle.std.proofs.lemmas.List.{same_lists, places as places-law, get_or_past, take_all, take-replicate}
use Rattle.std.proofs.lemmas.Bool.{cases_lt, cases_eq, both_ways}
use Rattle.store.specs.Images.{image_with}
use Rattle.store.proofs.ImageLaws.{length_overwritten, overwritten_after, overwritten_before}
use Rattle.paged.specs.Pages.{places, pool_pages, bytes_before, pages_met, page_of, blank, all_pages, filled_from, PartOf, Ready, SoundPages}
use Rattle.paged.proofs.FilledLaws.{blank_at, page_same, filled_step, filled_mono, filled_ready, filled_met, weight}
use Rattle.paged.proofs.PagePuts.{over_outside, page_over, page_apart, blank_zeros}

-- the part that a range has in a page
pub part_of : (o count i d m from : ℕ) → o / 256 ≤ i → 256 * i < o + count → d ≡ bytes_before o count i → m ≡ bytes_before o count (i + 1) → 256 * i + from ≡ o + d → PartOf o count i d m from
part_of o count i d m from h k is-d is-m place = record { order = omega arith; most = omega arith; place = place; low = omega arith; start = λ some. omega arith; end = λ more. omega arith }

pub zeros_part : (n : ℕ) → n ≤ 256 → take n (replicate {A = ℕ} 256 0) ≡ replicate n 0
zeros_part n h = take-replicate n 256 0 h

pub zeros_blank : (n : ℕ) → n ≤ 256 → blank (take n (replicate {A = ℕ} 256 0)) ≡ true
zeros_blank n h = ap blank (zeros_part n h) ∙ blank_zeros n

-- the next part of some bytes, after the first ones
module _ (b : List ℕ) (o : ℕ) (bytes : List ℕ) (d m : ℕ) (order : d ≤ m) (most : m ≤ length bytes) (fits : o + length bytes ≤ length b) where
  pub length_chunk : length (take (m - d) (drop d bytes)) ≡ m - d
  length_chunk = simp (length-take, length-drop) (omega arith)

  pub over_chunk : image_with (image_with b o (take d bytes)) (o + d) (take (m - d) (drop d bytes)) ≡ image_with b o (take m bytes)
  over_chunk = same_lists _ _ (search (rules, places-law)) (λ r e l. grind (arith, places-law))

-- zeros need no room
pub zeros_fill_less : (n : ℕ) (b : List ℕ) (o : ℕ) (zs : List ℕ) → blank zs ≡ true → o + length zs ≤ length b → length b ≡ 256 * n → filled_from n (image_with b o zs) ≤ filled_from n b
zeros_fill_less n b o zs empty fits long =
    let zeros : (q : ℕ) → get_or zs q 0 ≡ 0 = λ q. blank_at zs q empty in
    filled_mono n n (image_with b o zs) b (λ p e. grind (arith, places-law)) (λ p l. get_or_past (image_with b o zs) p 0 (omega (arith, length_overwritten b o zs fits)))

-- a page that the range does not meet stays as it is
pub page_outside : (b : List ℕ) (o : ℕ) (bytes : List ℕ) (j : ℕ) → o + length bytes ≤ length b → ((p : ℕ) → p / 256 ≡ j → (p < o) ⊎ (o + length bytes ≤ p)) → page_of (image_with b o bytes) j ≡ page_of b j
page_outside b o bytes j fits outside =
    page_same (image_with b o bytes) b j (length_overwritten b o bytes fits)
    (λ p q. ⊎_elim (λ before. overwritten_before b o bytes fits p before) (λ after. overwritten_after b o bytes fits p after) (outside p q))

-- the bytes that a first part has put, up to its end or where it is all
first_same : (b : List ℕ) (o : ℕ) (bytes : List ℕ) (m p : ℕ) → m ≤ length bytes → o + length bytes ≤ length b → (m < length bytes → p < o + m) → get_or (image_with b o (take m bytes)) p 0 ≡ get_or (image_with b o bytes) p 0
first_same b o bytes m p most fits end = ⊎_elim (λ more. let low = end more in grind (arith, places-law)) (λ all. ap (λ bs. get_or (image_with b o bs) p 0) (take_all m bytes all)) (cases_lt m (length bytes))

-- a first part that ends with a page needs no more room than all, if the pages that are to be blank
-- are
pub part_fills_less : (n : ℕ) (b : List ℕ) (o : ℕ) (bytes : List ℕ) (m : ℕ) → m ≤ length bytes → o + length bytes ≤ length b → Ready b (image_with b o bytes) → (m < length bytes → (o + m) % 256 ≡ 0) → filled_from n (image_with b o (take m bytes)) ≤ filled_from n (image_with b o bytes)
part_fills_less n b o bytes m most fits ready end =
    let first : List ℕ = take m bytes in
    let l1 : length first ≡ m = simp length-take (omega arith) in
    let short : o + length first ≤ length b = omega arith in
    let put : (j : ℕ) → 256 * j < o + m → page_of (image_with b o first) j ≡ page_of (image_with b o bytes) j = λ j low.
    page_same (image_with b o first) (image_with b o bytes) j (length_overwritten b o first short ∙ sym (length_overwritten b o bytes fits))
    (λ p q. first_same b o bytes m p most fits (λ more. let ends : (o + m) % 256 ≡ 0 = end more in omega arith)) in
    filled_ready n (image_with b o first) (image_with b o bytes)
    (λ j e.
    ⊎_elim
    (λ low. ap blank (put j low) ∙ e)
    (λ high. ap blank (page_outside b o first j short (λ p q. inr (omega arith))) ∙ ready j e)
    (cases_lt (256 * j) (o + m)))

-- after the first m bytes of a range are put there is room, while the pool has a spare page for
-- each page that the range meets
pub spare_room : (table pool spare : List ℕ) (used o : ℕ) (bytes : List ℕ) (m : ℕ) → SoundPages table pool spare used → o + length bytes ≤ 256 * places table → used + pages_met o (length bytes) ≤ pool_pages pool
    → filled_from (places table) (image_with (all_pages table pool) o (take m bytes)) ≤ pool_pages pool
spare_room table pool spare used o bytes m sound fits room =
    let all : List ℕ = all_pages table pool in
    let first : List ℕ = take m bytes in
    let l1 : length first ≤ length bytes = omega (arith, length-take m bytes) in
    let short : o + length first ≤ length all = omega (arith, sound.long) in
    omega (
      arith,
      sound.counted,
      filled_met (places table) (o / 256) ((o + length bytes + 255) / 256) (image_with all o first) all
          (λ j out e. ap blank (page_outside all o first j short (λ p q. ⊎_elim (λ l. inl (omega arith)) (λ g. inr (omega arith)) out)) ∙ e),
    )

-- the pages that some bytes meet, up to the first d, are blank if they are to be blank
abbrev pub ReadyUpTo : ℕ → List ℕ → ℕ → List ℕ → Type 0
ReadyUpTo o bytes d b = (j : ℕ) → 0 < d → o < 256 * j + 256 → 256 * j < o + d → blank (page_of (image_with b o bytes) j) ≡ true → blank (page_of b j) ≡ true

-- the other pages are what they are to be
pub ready_all : (b : List ℕ) (o : ℕ) (bytes : List ℕ) → o + length bytes ≤ length b → ReadyUpTo o bytes (length bytes) b → Ready b (image_with b o bytes)
ready_all b o bytes fits ready j h =
    ⊎_elim
    (λ before. sym (ap blank (page_outside b o bytes j fits (λ p q. inl (omega arith)))) ∙ h)
    (λ meets.
    ⊎_elim
    (λ below.
    ⊎_elim
    (λ some. ready j some (omega arith) below h)
    (λ none. sym (ap blank (page_outside b o bytes j fits (λ p q. ⊎_elim (λ l. inl l) (λ l. inr (omega arith)) (cases_lt p o)))) ∙ h)
    (cases_lt 0 (length bytes)))
    (λ past. sym (ap blank (page_outside b o bytes j fits (λ p q. inr (omega arith)))) ∙ h)
    (cases_lt (256 * j) (o + length bytes)))
    (cases_lt (256 * j + 255) o)

-- bytes put inside the range of others do not show
overwritten_inside : (b : List ℕ) (o : ℕ) (bytes : List ℕ) (q : ℕ) (chunk : List ℕ) → o ≤ q → q + length chunk ≤ o + length bytes → o + length bytes ≤ length b → image_with (image_with b q chunk) o bytes ≡ image_with b o bytes
overwritten_inside b o bytes q chunk h k fits = same_lists _ _ (search (rules, places-law)) (λ i d l. grind (arith, places-law))

-- a part shows the bytes where it lies, or past it where it is the last one, or before it the first
chunk_same : (b : List ℕ) (o : ℕ) (bytes : List ℕ) (d m p q : ℕ) → d ≤ m → m ≤ length bytes → o + length bytes ≤ length b → q ≡ o + d → (0 < d → q ≤ p) → (m < length bytes → p < o + m) → get_or (image_with b o bytes) p 0 ≡ get_or (image_with b q (take (m - d) (drop d bytes))) p 0
chunk_same b o bytes d m p q order most fits place start end = grind (arith, places-law)

-- the part of some bytes that goes to page i, in their range
module _ (b : List ℕ) (o : ℕ) (bytes : List ℕ) (i d m from : ℕ) (part : PartOf o (length bytes) i d m from) (fits : o + length bytes ≤ length b) (whole : 256 * i + 256 ≤ length b) where
  -- it lies in the page and in the range
  within_page : from + length (take (m - d) (drop d bytes)) ≤ 256
  within_page = omega (arith, length_chunk b o bytes d m part.order part.most fits, part.place, part.low, part.order)

  within_range : 256 * i + from + length (take (m - d) (drop d bytes)) ≤ o + length bytes
  within_range = omega (arith, length_chunk b o bytes d m part.order part.most fits, part.place, part.most, part.order)

  -- it makes the page what all the bytes make it
  pub page_result : page_of (image_with b o bytes) i ≡ image_with (page_of b i) from (take (m - d) (drop d bytes))
  page_result =
      let chunk : List ℕ = take (m - d) (drop d bytes) in
      let lc : length chunk ≡ m - d = length_chunk b o bytes d m part.order part.most fits in
      let place = part.place in
      let order = part.order in
      let most = part.most in
      let low = part.low in
      let room : 256 * i + from + length chunk ≤ length b = omega (arith, within_range) in
      page_same (image_with b o bytes) (image_with b (256 * i + from) chunk) i (length_overwritten b o bytes fits ∙ sym (length_overwritten b (256 * i + from) chunk room))
      (λ p q. chunk_same b o bytes d m p (256 * i + from) order most fits place (λ some. let none = part.start some in omega arith) (λ more. let ends = part.end more in omega arith))
      ∙ page_over b i from chunk within_page whole

  -- with the page zeroed if it is to be blank, and otherwise as it is
  pub ready_more : (t : Bool) (b' : List ℕ) → blank (image_with (page_of b i) from (take (m - d) (drop d bytes))) ≡ t → b' ≡ cond t (image_with b (256 * i + from) (take (m - d) (drop d bytes))) b → ReadyUpTo o bytes d b → (image_with b' o bytes ≡ image_with b o bytes) × ReadyUpTo o bytes m b'
  ready_more true b' empty is ready =
      let chunk : List ℕ = take (m - d) (drop d bytes) in
      let place = part.place in
      let low = part.low in
      let new : List ℕ = image_with b (256 * i + from) chunk in
      let same = ap (λ x. image_with x o bytes) is ∙ overwritten_inside b o bytes (256 * i + from) chunk (omega arith) within_range fits in (
        same,
        (λ j some meets below h.
            ap (λ x. blank (page_of x j)) is
            ∙ ⊎_elim
            (λ (e : j ≡ i). ap (λ n. blank (page_of new n)) e ∙ ap blank (page_over b i from chunk within_page whole) ∙ empty)
            (λ (ne : j ≡ i → ⊥).
            ap blank (page_apart b i from chunk within_page whole j ne)
            ∙ ready j (omega arith) meets (omega arith) (sym (ap (λ x. blank (page_of x j)) same) ∙ h))
            (cases_eq j i)),
      )
  ready_more false b' full is ready =
      let same = ap (λ x. image_with x o bytes) is in
      let place = part.place in
      let low = part.low in (
        same,
        (λ j some meets below h.
            let result = sym (ap (λ x. blank (page_of x j)) same) ∙ h in
            ap (λ x. blank (page_of x j)) is
            ∙ ⊎_elim
            (λ (e : j ≡ i). absurd (both_ways _ (ap blank page_result ∙ full) (sym (ap (λ n. blank (page_of (image_with b o bytes) n)) e) ∙ result)))
            (λ (ne : j ≡ i → ⊥). ready j (omega arith) meets (omega arith) result)
            (cases_eq j i)),
      )

-- bytes that all lie before a position, if there are any, leave its byte
before_same : (b : List ℕ) (o : ℕ) (bytes : List ℕ) (p : ℕ) → o + length bytes ≤ length b → (0 < length bytes → o + length bytes ≤ p) → get_or (image_with b o bytes) p 0 ≡ get_or b p 0
before_same b o bytes p fits end = ⊎_elim (λ before. overwritten_before b o bytes fits p before) (λ on. overwritten_after b o bytes fits p (⊎_elim (λ some. end some) (λ none. omega arith) (cases_lt 0 (length bytes)))) (cases_lt p o)

-- how the next part changes the count: page i, where it goes, is still as it was
pub chunk_count : (table pool spare : List ℕ) (used o : ℕ) (bytes : List ℕ) (i d m from : ℕ) → SoundPages table pool spare used → PartOf o (length bytes) i d m from → o + length bytes ≤ 256 * places table → i < places table
    → filled_from (places table) (image_with (all_pages table pool) o (take m bytes)) + cond (eqb (get_or table i 0) 0) 0 1
    ≡ filled_from (places table) (image_with (all_pages table pool) o (take d bytes)) + cond (blank (image_with (page_of (all_pages table pool) i) from (take (m - d) (drop d bytes)))) 0 1
chunk_count table pool spare used o bytes i d m from sound part fits here =
    let all : List ℕ = all_pages table pool in
    let long = sound.long in
    let place = part.place in
    let order = part.order in
    let most = part.most in
    let low = part.low in
    let first : List ℕ = take d bytes in
    let chunk : List ℕ = take (m - d) (drop d bytes) in
    let l1 : length first ≡ d = simp length-take (omega arith) in
    let l2 : length chunk ≡ m - d = length_chunk all o bytes d m order most (omega arith) in
    let was : List ℕ = image_with all o first in
    let kept : length was ≡ length all = length_overwritten all o first (omega arith) in
    let whole : 256 * i + 256 ≤ length was = omega arith in
    let inside : from + length chunk ≤ 256 = omega arith in
    let new : List ℕ = image_with was (256 * i + from) chunk in
    let is-new : image_with all o (take m bytes) ≡ new = sym (over_chunk all o bytes d m order most (omega arith)) ∙ ap (λ q. image_with was q chunk) (sym place) in
    let same : page_of was i ≡ page_of all i = page_same was all i kept (λ p q. before_same all o first p (omega arith) (λ some. let none = part.start (omega arith) in omega arith)) in
    let page : page_of new i ≡ image_with (page_of all i) from chunk = page_over was i from chunk inside whole ∙ ap (λ b. image_with b from chunk) same in
    omega (
      arith,
      filled_step (places table) i was new here (sym (length_overwritten was (256 * i + from) chunk (omega arith))) (λ p ne. sym (over_outside was i from chunk inside whole p ne)),
      ap (filled_from (places table)) is-new,
      weight (ap blank page),
      weight (ap blank same),
      weight (sound.filled i here),
    )
