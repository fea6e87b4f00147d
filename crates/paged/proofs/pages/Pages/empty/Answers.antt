use Rattle.std.proofs.Common.{◌≡◌, ℕ, ◌+◌, ◌*◌, ◌<◌, List, get_or, sym, refl, ◌∙◌, arith}
use Rattle.std.proofs.lemmas.Bool.{eq-eqb}
use Rattle.paged.specs.declared.pages.TheConstants.{POOL}
use Rattle.paged.specs.Pages.{all_pages, places, SoundPages}
use Rattle.paged.proofs.PageLaws.{length_all, pages_none}
use Rattle.paged.proofs.FilledLaws.{filled_zero, page_blank}
use Rattle.paged.proofs.ImagePages.{valid_of}
use Rattle.paged.proofs.UntouchedMemory.{same_set}
use Rattle.paged.proofs.pages.Pages.empty.Goals as goal

-- a map of zeros with every page spare
blank_sound : (table pool spare : List ℕ) → ((i : ℕ) → i < places table → get_or table i 0 ≡ 0) → ((k : ℕ) → k < POOL → get_or spare k 0 ≡ k) → SoundPages table pool spare 0
blank_sound table pool spare clear own =
    let zeros : (p : ℕ) → get_or (all_pages table pool) p 0 ≡ 0 = pages_none table pool clear in
    record {
      placed = record {
        mapped = λ i l. omega (arith, clear i l);
        apart = λ i j h. absurd (omega (arith, clear i h.0, h.2));
        spare_in = λ j h. omega (arith, own j (omega (arith, h.1)), h.1);
        spare_apart = λ i j h. sym (own i (omega (arith, h.1))) ∙ h.4 ∙ own j (omega (arith, h.3));
        spare_free = λ i j h. omega (arith, clear i h.0, h.3);
      };
      long = length_all table pool (λ i l. omega (arith, clear i l));
      filled = λ i l. page_blank (all_pages table pool) i (λ r. zeros (256 * i + r)) ∙ sym (eq-eqb (get_or table i 0) 0 (clear i l));
      counted = sym (filled_zero (places table) (all_pages table pool) zeros);
      room = omega arith;
    }

pub invariant_of-result : goal.invariant_of-result
invariant_of-result c = record { sound = blank_sound c.clear_map.new.map c.args.pool.now c.all_spare.result c.clear_map.ensures.clear c.all_spare.ensures }

pub returns-clause-valid : goal.returns-clause-valid
returns-clause-valid c =
    let clear = c.clear_map.ensures.clear in
    let sound = blank_sound c.clear_map.new.map c.args.pool.now c.all_spare.result clear c.all_spare.ensures in
    valid_of c.clear_map.new.map c.args.pool.now c.all_spare.result 0 0 sound (omega arith) (λ p h. pages_none c.clear_map.new.map c.args.pool.now clear p)

pub returns-clause-same : goal.returns-clause-same
returns-clause-same c = same_set c.clear_map.new.map c.args.map.now c.args.pool.now c.args.pool.now c.clear_map.ensures.len refl
