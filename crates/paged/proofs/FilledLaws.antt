-- How the count of the pages with a non-zero byte changes. Rests on the definition of pages.
use Rattle.std.specs.Prelude.{◌≡◌, ℕ, zero, suc, ◌+◌, ◌-◌, ◌*◌, ◌/◌, ◌<◌, ◌≤◌, ◌⊎◌, Bool, true, false, cond, ◌≢◌, List, [], ◌∷◌, length, take, drop, ◌==◌, slice_index, refl}
use Rattle.std.proofs.Common.{inl, inr, sym, ap, ◌∙◌, ⊎_elim, arith, length-take, length-drop}
use Rattle.std.proofs.lemmas.List.{get_or-take, get_or-drop, get_or_past, ext_get_or}
use Rattle.std.proofs.lemmas.Bool.{cases_lt, eq-eqb, eqb-true, and_parts, both_ways}
use Rattle.paged.specs.Pages.{page_of, blank, filled_from, filled_pages, Ready}
use Rattle.paged.proofs.PageLaws.{getD_page, page_on}

pub blank_all : (xs : List ℕ) → ((p : ℕ) → slice_index xs p ≡ 0) → blank xs ≡ true
blank_all [] z = refl
blank_all (x ∷ xs) z = rw (eq-eqb x 0 (z 0)) (blank_all xs (λ p. z (suc p)))

pub blank_at : (xs : List ℕ) (p : ℕ) → blank xs ≡ true → slice_index xs p ≡ 0
blank_at [] p h = refl
blank_at (x ∷ xs) zero h = eqb-true x 0 (and_parts (x == 0) (blank xs) h).0
blank_at (x ∷ xs) (suc p) h = blank_at xs p (and_parts (x == 0) (blank xs) h).1

-- the first m bytes have zeros where all have
take_mono : (m : ℕ) (a b : List ℕ) (p : ℕ) → (slice_index b p ≡ 0 → slice_index a p ≡ 0) → slice_index (take m b) p ≡ 0 → slice_index (take m a) p ≡ 0
take_mono m a b p h e =
    ⊎_elim
    (λ low. get_or-take m a p 0 low ∙ h (sym (get_or-take m b p 0 low) ∙ e))
    (λ high. get_or_past (take m a) p 0 (omega (arith, length-take m a)))
    (cases_lt p m)

weight_le : (t u : Bool) → (u ≡ true → t ≡ true) → cond t 0 1 ≤ cond u 0 1
weight_le true u h = omega arith
weight_le false true h = absurd (both_ways false refl (h refl))
weight_le false false h = omega arith

pub weight_small : (t : Bool) → cond t 0 1 ≤ 1
weight_small true = omega arith
weight_small false = omega arith

pub weight : {t u : Bool} → t ≡ u → ◌≡◌ {A = ℕ} (cond t 0 1) (cond u 0 1)
weight e = ap {B = ℕ} (λ t. cond t 0 1) e

pub filled_small : (n : ℕ) (a : List ℕ) → filled_from n a ≤ n
filled_small zero a = omega arith
filled_small (suc n) a = omega (arith, filled_small n (drop 256 a), weight_small (blank (take 256 a)))

pub filled_zero : (n : ℕ) (a : List ℕ) → ((p : ℕ) → slice_index a p ≡ 0) → filled_from n a ≡ 0
filled_zero zero a z = refl
filled_zero (suc n) a z =
    let first : blank (take 256 a) ≡ true = blank_all (take 256 a) (λ p. take_mono 256 a [] p (λ e. z p) refl) in
    rw first (omega (arith, filled_zero n (drop 256 a) (λ p. get_or-drop 256 a p 0 ∙ z (256 + p))))

-- bytes that are 0 wherever others are have no more filled pages
pub filled_mono : (n m : ℕ) (a b : List ℕ) → ((p : ℕ) → slice_index b p ≡ 0 → slice_index a p ≡ 0) → ((p : ℕ) → 256 * m ≤ p → slice_index a p ≡ 0) → filled_from n a ≤ filled_from m b
filled_mono zero m a b h z = omega arith
filled_mono (suc n) zero a b h z = omega (arith, filled_zero (suc n) a (λ p. z p (omega arith)))
filled_mono (suc n) (suc m) a b h z =
    let first = weight_le (blank (take 256 a)) (blank (take 256 b)) (λ e. blank_all (take 256 a) (λ p. take_mono 256 a b p (h p) (blank_at (take 256 b) p e))) in
    let more = filled_mono n m (drop 256 a) (drop 256 b) (λ p e. get_or-drop 256 a p 0 ∙ h (256 + p) (sym (get_or-drop 256 b p 0) ∙ e)) (λ p l. get_or-drop 256 a p 0 ∙ z (256 + p) (omega arith)) in
    omega arith

-- what holds of a page past the first one holds of the pages without the first
later : {P : ℕ → Type 0} (a b : List ℕ) → ((j : ℕ) → P j → blank (page_of b (suc j)) ≡ true → blank (page_of a (suc j)) ≡ true) → (j : ℕ) → P j → blank (page_of (drop 256 b) j) ≡ true → blank (page_of (drop 256 a) j) ≡ true
later a b h j out e = ap blank (page_on a j) ∙ h j out (sym (ap blank (page_on b j)) ∙ e)

-- where pages from lo up to hi alone may be blank in b and not in a, a has at most hi - lo filled
-- pages more
pub filled_met : (n lo hi : ℕ) (a b : List ℕ) → ((j : ℕ) → (j < lo) ⊎ (hi ≤ j) → blank (page_of b j) ≡ true → blank (page_of a j) ≡ true) → filled_from n a ≤ filled_from n b + (hi - lo)
filled_met zero lo hi a b h = omega arith
filled_met (suc n) lo zero a b h = omega (arith, weight_le (blank (take 256 a)) (blank (take 256 b)) (h 0 (inr (omega arith))), filled_met n 0 0 (drop 256 a) (drop 256 b) (later a b (λ j out. h (suc j) (inr (omega arith)))))
filled_met (suc n) zero (suc hi) a b h =
    omega (arith, weight_small (blank (take 256 a)), filled_met n zero hi (drop 256 a) (drop 256 b) (later a b (λ j out. h (suc j) (⊎_elim (λ l. absurd (omega arith)) (λ g. inr (omega arith)) out))))
filled_met (suc n) (suc lo) (suc hi) a b h =
    omega (arith, weight_le (blank (take 256 a)) (blank (take 256 b)) (h 0 (inl (omega arith))), filled_met n lo hi (drop 256 a) (drop 256 b) (later a b (λ j out. h (suc j) (⊎_elim (λ l. inl (omega arith)) (λ g. inr (omega arith)) out))))

-- where each page that is blank in b is blank in a, a has no more filled pages
pub filled_ready : (n : ℕ) (a b : List ℕ) → Ready a b → filled_from n a ≤ filled_from n b
filled_ready n a b h = omega (arith, filled_met n 0 0 a b (λ j out. h j))

-- the filled pages of an image are those of its pages, if these hold zeros past its size
pub filled_cut : (n size : ℕ) (all : List ℕ) → ((p : ℕ) → size ≤ p → slice_index all p ≡ 0) → size ≤ 256 * n → filled_pages (take size all) ≡ filled_from n all
filled_cut n size all z fits =
    let short = length-take size all in
    let down : (p : ℕ) → slice_index all p ≡ 0 → slice_index (take size all) p ≡ 0 = λ p e.
    ⊎_elim (λ low. get_or-take size all p 0 low ∙ e) (λ high. get_or_past (take size all) p 0 (omega arith)) (cases_lt p size) in
    let up : (p : ℕ) → slice_index (take size all) p ≡ 0 → slice_index all p ≡ 0 = λ p e.
    ⊎_elim (λ low. sym (get_or-take size all p 0 low) ∙ e) (λ high. z p high) (cases_lt p size) in
    let end : (p : ℕ) → 256 * length (take size all) ≤ p → slice_index all p ≡ 0 = λ p l.
    ⊎_elim (λ low. get_or_past all p 0 (omega arith)) (λ high. z p high) (cases_lt p size) in
    let less = filled_mono (length (take size all)) n (take size all) all down (λ p l. get_or_past (take size all) p 0 (omega arith)) in
    let more = filled_mono n (length (take size all)) all (take size all) up end in
    omega arith

-- a page is what its bytes are
pub page_same : (a b : List ℕ) (i : ℕ) → length a ≡ length b → ((p : ℕ) → p / 256 ≡ i → slice_index a p ≡ slice_index b p) → page_of a i ≡ page_of b i
page_same a b i e h =
    let la : length (page_of a i) ≡ length (page_of b i) = simp (length-take, length-drop) (omega arith) in
    ext_get_or 0 (page_of a i) (page_of b i) la
    (λ r l.
    let low : r < 256 = omega (arith, length-take 256 (drop (256 * i) a)) in
    getD_page a i r low ∙ h (256 * i + r) (omega arith) ∙ sym (getD_page b i r low))

-- bytes that differ in page i alone differ in its count alone
pub filled_step : (n i : ℕ) (a b : List ℕ) → i < n → length a ≡ length b → ((p : ℕ) → p / 256 ≢ i → slice_index a p ≡ slice_index b p) → filled_from n b + cond (blank (page_of a i)) 0 1 ≡ filled_from n a + cond (blank (page_of b i)) 0 1
filled_step zero i a b l e h = absurd (omega arith)
filled_step (suc n) zero a b l e h =
    let rest : drop 256 a ≡ drop 256 b =
    ext_get_or 0 (drop 256 a) (drop 256 b) (simp length-drop (omega arith))
    (λ p k. get_or-drop 256 a p 0 ∙ h (256 + p) (λ q. omega arith) ∙ sym (get_or-drop 256 b p 0)) in
    omega (arith, ap (filled_from n) rest)
filled_step (suc n) (suc i) a b l e h =
    let first : take 256 a ≡ take 256 b = page_same a b 0 e (λ p q. h p (λ r. omega arith)) in
    let more = filled_step n i (drop 256 a) (drop 256 b) (omega arith) (simp length-drop (omega arith))
    (λ p q. get_or-drop 256 a p 0 ∙ h (256 + p) (λ s. q (omega arith)) ∙ sym (get_or-drop 256 b p 0)) in
    omega (arith, weight (ap blank first), weight (ap blank (page_on a i)), weight (ap blank (page_on b i)))

pub page_blank : (a : List ℕ) (i : ℕ) → ((r : ℕ) → slice_index a (256 * i + r) ≡ 0) → blank (page_of a i) ≡ true
page_blank a i z = blank_all (page_of a i) (λ r. take_mono 256 (drop (256 * i) a) [] r (λ e. get_or-drop (256 * i) a r 0 ∙ z r) refl)
