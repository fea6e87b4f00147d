use Rattle.paged.proofs.ImagePages.{valid_put, image_put}
use Rattle.paged.proofs.UntouchedMemory.{set_kept}
use Rattle.paged.proofs.image.PagedImage.put.Goals as goal

pub invariant_of-self : goal.invariant_of-self
invariant_of-self c = record { valid = valid_put c.args.self.now c.args.offset c.args.bytes.now c.requires.inside c.write_range.new.self c.write_range.ensures }

pub returns-clause-same : goal.returns-clause-same
returns-clause-same c = set_kept c.args.self.now.pages.paging c.write_range.new.self.paging c.write_range.ensures.kept

pub returns-clause-image : goal.returns-clause-image
returns-clause-image c = image_put c.args.self.now c.args.offset c.args.bytes.now c.requires.inside c.write_range.new.self c.write_range.ensures
