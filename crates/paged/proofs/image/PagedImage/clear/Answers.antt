use Rattle.std.proofs.Common.{ℕ, ◌+◌, ◌≤◌, List, length, replicate, sym, ap, ◌∙◌, arith}
use lib.ListN.{length-replicate}
use Rattle.std.proofs.lemmas.Bool.{le-leb}
use Rattle.store.specs.Images.{image_with}
use Rattle.store.specs.Stores.{done}
use Rattle.store.proofs.StoreOutcomes.{held, zero_inside}
use Rattle.paged.specs.Paged.{paged_image, paged_holds}
use Rattle.paged.specs.State.{places_of, pool_of, all_of, filled_after}
use Rattle.paged.specs.declared.image.PagedImage.{PagedImage}
use Rattle.paged.proofs.PagePuts.{blank_zeros}
use Rattle.paged.proofs.Ranges.{zeros_fill_less}
use Rattle.paged.proofs.ImagePages.{whole_of, held_put, valid_put, image_put}
use Rattle.paged.proofs.UntouchedMemory.{set_kept}
use Rattle.paged.proofs.image.PagedImage.clear.Goals as goal

zeros_inside : (s : PagedImage) (o count : ℕ) → o + count ≤ s.size → o + length (replicate {A = ℕ} count 0) ≤ s.size
zeros_inside s o count inside = omega (arith, inside, length-replicate {A = ℕ} count 0)

pub invariant_of-self : goal.invariant_of-self
invariant_of-self c =
    let s = c.args.self.now in
    record { valid = valid_put s c.args.offset (replicate c.args.count 0) (zeros_inside s c.args.offset c.args.count c.requires) c.zero_range.new.self c.zero_range.ensures }

pub returns-clause-same : goal.returns-clause-same
returns-clause-same c = set_kept c.args.self.now.pages.paging c.zero_range.new.self.paging c.zero_range.ensures.kept

pub returns-clause-outcome : goal.returns-clause-outcome
returns-clause-outcome c =
    let s = c.args.self.now in
    let t = s.pages.paging in
    let offset : ℕ = c.args.offset in
    let zeros : List ℕ = replicate c.args.count 0 in
    let inside = zeros_inside s offset c.args.count c.requires in
    let less = zeros_fill_less (places_of t) (all_of t) offset zeros (blank_zeros c.args.count) (omega (arith, whole_of s, inside)) s.pages.sound.long in
    let room = held_put s offset zeros inside ∙ le-leb (filled_after t offset zeros) (pool_of t) (omega arith) in
    ap done (image_put s offset zeros inside c.zero_range.new.self c.zero_range.ensures)
    ∙ sym (zero_inside (paged_holds s) (paged_image s) offset c.args.count (omega (arith, s.valid.long)) ∙ held (paged_holds s) offset (paged_image s) (image_with (paged_image s) offset zeros) room)

pub returns-clause-image : goal.returns-clause-image
returns-clause-image c =
    let s = c.args.self.now in image_put s c.args.offset (replicate c.args.count 0) (zeros_inside s c.args.offset c.args.count c.requires) c.zero_range.new.self c.zero_range.ensures
