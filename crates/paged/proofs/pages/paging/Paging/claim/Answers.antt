use Rattle.std.proofs.Common.{◌≡◌, ℕ, ◌+◌, ◌-◌, ◌*◌, ◌<◌, ◌≤◌, min, false, eqb, List, length, get_or, take, drop, set, replicate, sym, ap, ◌∙◌, subst, add-zero, arith, length-drop, length-set, length-take}
use lib.ListN.{length-replicate}
use Rattle.std.proofs.lemmas.List.{get_or-set_same, get_or-set_other}
use Rattle.store.specs.Images.{image_with}
use Rattle.store.proofs.ImageLaws.{length_overwritten, put_between}
use Rattle.std.proofs.lemmas.Bool.{eq-eqb, ne_eqb}
use Rattle.paged.specs.Pages.{all_pages, pool_pages, places}
use Rattle.paged.proofs.FilledLaws.{weight}
use Rattle.paged.proofs.PagePuts.{put_count, sound_put}
use Rattle.paged.proofs.PageSteps.{spare_within, placed_claim, placed_over, claimed, stored, kept_set, kept_pool}
use Rattle.paged.proofs.UntouchedMemory.{rest_kept, kept_on, Kept}
use Rattle.paged.proofs.pages.paging.Paging.claim.Goals as goal

pub returns : goal.returns
returns c =
    let s = c.args.self.now in
    let table : List ℕ = s.map.now in
    let pool : List ℕ = s.pool.now in
    let spare : List ℕ = s.spare in
    let used : ℕ = s.used in
    let i : ℕ = c.args.i in
    let from : ℕ = c.args.from in
    let bytes : List ℕ = c.args.bytes.now in
    let k : ℕ = get_or spare used 0 in
    let here : i < places table = c.requires.here.0 in
    let none : get_or table i 0 ≡ 0 = c.requires.none in
    let inside : from + length bytes ≤ 256 = c.requires.here.1 in
    let within : k < pool_pages pool = spare_within table pool spare used i c.requires.sound.placed here none c.requires.room in
    let zeros : List ℕ = replicate 256 0 in
    let long : length zeros ≡ 256 = length-replicate {A = ℕ} 256 0 in
    let part : length (take (256 * k + 256 - 256 * k) (drop (256 * k) pool)) ≡ 256 = simp (length-take, length-drop) (omega arith) in
    let filled = ◌∙◌ {c = zeros} (c.fill.ensures.after (λ y e. e)) (ap (λ n. replicate n 0) part) in
    -- the page of zeros, and the bytes in it
    let blanked : List ℕ = image_with pool (256 * k + 0) zeros in
    let blank = ◌∙◌ {c = blanked} (put_between (256 * k) (256 * k + 256 - 256 * k) pool c.fill.new.self zeros filled (omega arith)) (ap (λ o. image_with pool o zeros) (sym (add-zero (256 * k)))) in
    let same : length blanked ≡ length pool = length_overwritten pool (256 * k + 0) zeros (omega arith) in
    let put = put_between (256 * k + from) (256 * k + from + length bytes - (256 * k + from)) _ c.copy_from_slice.new.self bytes c.copy_from_slice.ensures.after (omega arith)
    ∙ ap (λ p. image_with p (256 * k + from) bytes) blank in
    let map : List ℕ = set table i (k + 1) in
    let width : places map ≡ places table = ap (λ n. min n 65536) (length-set table i (k + 1)) in
    let value : get_or map i 0 ≡ k + 1 = get_or-set_same table i (k + 1) 0 (omega arith) in
    let placed = placed_claim table pool spare used i c.requires.sound.placed here none c.requires.room blanked same in
    let low : k < pool_pages blanked = omega (arith, same) in
    let kept = kept_on table pool map pool map (image_with blanked (256 * k + from) bytes) (kept_set table pool i (k + 1) here) (kept_on map pool map blanked map _ (kept_pool map pool k 0 zeros within (omega arith)) (kept_pool map blanked k from bytes low inside)) in
    let new : length (image_with blanked (256 * k + from) bytes) ≡ length blanked = length_overwritten blanked (256 * k + from) bytes (omega (arith, same)) in
    let kept' = subst (Kept table pool map) (sym put) kept in
    let pages = ap (all_pages map) put
    ∙ stored map blanked i k from bytes placed.mapped placed.apart (omega (arith, width)) (omega arith) inside
    ∙ ap (λ b. image_with b (256 * i + from) bytes) (claimed table pool spare used i c.requires.sound.placed here none c.requires.room) in
    let some : eqb (get_or map i 0) 0 ≡ false = ne_eqb (get_or map i 0) 0 (λ e. omega (arith, value)) in
    let had-none = weight (eq-eqb (get_or table i 0) 0 none) in
    let count = put_count table pool spare used i from bytes c.requires.sound here inside in
    record {
      sound = sound_put table pool spare used i from bytes c.requires.sound here inside map _ spare (used + 1)
          (placed_over map blanked _ spare (used + 1) (ap length put ∙ new) placed) kept' pages
          (λ j ne. get_or-set_other table i j (k + 1) 0 ne)
          (c.requires.filled ∙ sym some)
          (omega (arith, had-none, weight some))
          (omega (arith, had-none, weight c.requires.filled));
      pages = record { kept = rest_kept s.map.ghost_name s.pool.ghost_name table pool map _ kept'; pages = pages };
    }
