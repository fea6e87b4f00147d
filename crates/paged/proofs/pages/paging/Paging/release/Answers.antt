use Rattle.std.proofs.Common.{◌≡◌, ℕ, suc, ◌+◌, ◌-◌, ◌*◌, ◌<◌, ◌≤◌, true, eqb, List, length, get_or, set, replicate, sym, ap, ◌∙◌, add-zero, arith}
use lib.ListN.{length-replicate}
use Rattle.std.proofs.lemmas.List.{get_or-set_same, get_or-set_other}
use Rattle.std.proofs.lemmas.Bool.{eq-eqb, ne_eqb}
use Rattle.store.specs.Images.{image_with}
use Rattle.paged.specs.declared.pages.TheConstants.{POOL}
use Rattle.paged.specs.Pages.{all_pages, page_of, blank, places, SoundPages}
use Rattle.paged.proofs.FilledLaws.{weight}
use Rattle.paged.proofs.PageSteps.{placed_release, released, kept_set}
use Rattle.paged.proofs.PagePuts.{put_count, sound_put, blank_zeroed}
use Rattle.paged.proofs.UntouchedMemory.{rest_kept}
use Rattle.paged.proofs.pages.paging.Paging.release.Goals as goal

zeros_fit : 0 + length (replicate {A = ℕ} 256 0) ≤ 256
zeros_fit = omega (arith, length-replicate {A = ℕ} 256 0)

-- place i gives pool page k back
module _ (table pool spare : List ℕ) (used i k : ℕ) (sound : SoundPages table pool spare used) (here : i < places table) (value : get_or table i 0 ≡ suc k) (long : length spare ≡ POOL) where
  -- a place with a pool page makes one page in use
  pub some_used : 0 < used
  some_used =
      omega (
        arith,
        put_count table pool spare used i 0 (replicate 256 0) sound here zeros_fit,
        weight (ne_eqb (get_or table i 0) 0 (λ e. omega arith)),
        weight (blank_zeroed (all_pages table pool) i),
      )

  pub pages_out : all_pages (set table i 0) pool ≡ image_with (all_pages table pool) (256 * i + 0) (replicate 256 0)
  pages_out = released table pool spare used i k sound.placed here value some_used sound.room long

  pub sound_out : SoundPages (set table i 0) pool (set spare (used - 1) k) (used - 1)
  sound_out =
      let none : blank (image_with (page_of (all_pages table pool) i) 0 (replicate 256 0)) ≡ true = blank_zeroed (all_pages table pool) i in
      let gone : eqb (get_or (set table i 0) i 0) 0 ≡ true = eq-eqb (get_or (set table i 0) i 0) 0 (get_or-set_same table i 0 0 (omega arith)) in
      sound_put table pool spare used i 0 (replicate 256 0) sound here zeros_fit (set table i 0) pool (set spare (used - 1) k) (used - 1)
      (placed_release table pool spare used i k sound.placed here value some_used sound.room long)
      (kept_set table pool i 0 here) pages_out (λ j ne. get_or-set_other table i j 0 0 ne) (none ∙ sym gone)
      (omega (arith, some_used, weight gone, weight (ne_eqb (get_or table i 0) 0 (λ e. omega arith))))
      (omega (arith, put_count table pool spare used i 0 (replicate 256 0) sound here zeros_fit, sound.room, weight none))

pub overflow_sub-self : goal.overflow_sub-self
overflow_sub-self c =
    let s = c.args.self.now in
    omega (arith, some_used s.map.now s.pool.now s.spare s.used c.args.i c.args.k c.requires.sound c.requires.here.0 (omega (arith, c.requires.here.1)) (omega arith))

pub returns : goal.returns
returns c =
    let s = c.args.self.now in
    let i : ℕ = c.args.i in
    let here = c.requires.here.0 in
    let value : get_or s.map.now i 0 ≡ suc c.args.k = omega (arith, c.requires.here.1) in
    let long : length s.spare ≡ POOL = omega arith in
    record {
      sound = sound_out s.map.now s.pool.now s.spare s.used i c.args.k c.requires.sound here value long;
      pages = record {
        kept = rest_kept s.map.ghost_name s.pool.ghost_name s.map.now s.pool.now (set s.map.now i 0) s.pool.now (kept_set s.map.now s.pool.now i 0 here);
        pages = pages_out s.map.now s.pool.now s.spare s.used i c.args.k c.requires.sound here value long ∙ ap (λ o. image_with (all_pages s.map.now s.pool.now) o (replicate 256 0)) (add-zero (256 * i));
      };
    }
