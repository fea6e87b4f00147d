use Rattle.std.proofs.Common.{◌≡◌, ℕ, suc, ◌+◌, ◌-◌, ◌*◌, ◌<◌, ◌≤◌, false, eqb, List, length, get_or, sym, refl, ap, ◌∙◌, subst, arith}
use Rattle.std.proofs.lemmas.Bool.{eq-eqb, ne_eqb}
use Rattle.store.specs.Images.{image_with}
use Rattle.store.proofs.ImageLaws.{length_overwritten, put_between}
use Rattle.paged.specs.Pages.{all_pages, page_of, blank, places, pool_pages, filled_from, SoundPages}
use Rattle.paged.proofs.FilledLaws.{weight}
use Rattle.paged.proofs.PageSteps.{stored, placed_over, kept_pool}
use Rattle.paged.proofs.PagePuts.{put_count, sound_put}
use Rattle.paged.proofs.UntouchedMemory.{rest_kept, Kept}
use Rattle.paged.proofs.pages.paging.Paging.store.Goals as goal

pub claim-requires : goal.claim-requires
claim-requires c =
    let s = c.args.self.now in
    let i : ℕ = c.args.i in
    let none : get_or s.map.now i 0 ≡ 0 = c.in_default.ensures in
    let count = put_count s.map.now s.pool.now s.spare s.used i c.args.from c.args.bytes.now c.requires.sound c.requires.here.0 c.requires.here.1 in
    record {
      here = c.requires.here;
      none = none;
      filled = c.requires.filled;
      room = omega (arith, weight (eq-eqb (get_or s.map.now i 0) 0 none), weight (c.requires.filled), c.requires.room);
      sound = c.requires.sound;
    }

-- the pool page of place i, written in place
module _ (table pool new spare : List ℕ) (used i k from : ℕ) (bytes : List ℕ) (sound : SoundPages table pool spare used) (here : i < places table) (inside : from + length bytes ≤ 256) (value : get_or table i 0 ≡ suc k) (put : new ≡ image_with pool (256 * k + from) bytes) where
  low : k < pool_pages pool
  low = omega (arith, sound.placed.mapped i here)

  pub kept_in : Kept table pool table new
  kept_in = subst (Kept table pool table) (sym put) (kept_pool table pool k from bytes low inside)

  pub pages_in : all_pages table new ≡ image_with (all_pages table pool) (256 * i + from) bytes
  pages_in = ap (all_pages table) put ∙ stored table pool i k from bytes sound.placed.mapped sound.placed.apart here value inside

  pub sound_in : blank (image_with (page_of (all_pages table pool) i) from bytes) ≡ false → filled_from (places table) (image_with (all_pages table pool) (256 * i + from) bytes) ≤ pool_pages pool → SoundPages table new spare used
  sound_in full room =
      let long = ap length put ∙ length_overwritten pool (256 * k + from) bytes (omega (arith, low)) in
      let some : eqb (get_or table i 0) 0 ≡ false = ne_eqb (get_or table i 0) 0 (λ e. omega arith) in
      sound_put table pool spare used i from bytes sound here inside table new spare used
      (placed_over table pool new spare used long sound.placed) kept_in pages_in (λ j ne. refl) (full ∙ sym some) refl room

pub returns : goal.returns
returns c =
    let s = c.args.self.now in
    let from : ℕ = c.args.from in
    let bytes : List ℕ = c.args.bytes.now in
    let k : ℕ = c.in-Some.k in
    let value : get_or s.map.now c.args.i 0 ≡ suc k = omega (arith, c.in-Some.ensures) in
    let put = put_between (256 * k + from) (256 * k + from + length bytes - (256 * k + from)) s.pool.now c.copy_from_slice.new.self bytes c.copy_from_slice.ensures.after (omega arith) in
    record {
      sound = sound_in s.map.now s.pool.now _ s.spare s.used c.args.i k from bytes c.requires.sound c.requires.here.0 c.requires.here.1 value put c.requires.filled c.requires.room;
      pages = record {
        kept = rest_kept s.map.ghost_name s.pool.ghost_name s.map.now s.pool.now s.map.now _ (kept_in s.map.now s.pool.now _ s.spare s.used c.args.i k from bytes c.requires.sound c.requires.here.0 c.requires.here.1 value put);
        pages = pages_in s.map.now s.pool.now _ s.spare s.used c.args.i k from bytes c.requires.sound c.requires.here.0 c.requires.here.1 value put;
      };
    }
