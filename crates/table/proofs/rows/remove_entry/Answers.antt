use Rattle.std.proofs.Common.{◌+◌, ◌++◌, map, length, take, drop, sym, ap, ◌∙◌, subst}
use Rattle.std.proofs.lemmas.List.{length-map}
use Rattle.table.specs.Entries.{moved_entry, Movable}
use Rattle.table.proofs.Removal.{lent, closed}
use Rattle.table.proofs.rows.remove_entry.Goals as goal

pub shift_all-requires : goal.shift_all-requires
shift_all-requires c =
    let is = c.as_mut_slice-slots.ensures.value ∙ c.remove.ensures.items in
    subst (Movable c.args.old c.args.new) (sym (lent c.args.entries.now.items c.as_mut_slice-slots.result.now c.args.k c.requires.there is)) c.requires.movable

pub returns : goal.returns
returns c =
    let es = c.args.entries.now.items in
    let left = c.as_mut_slice-slots.result.now in
    let k = c.args.k in
    let f = moved_entry c.args.old c.args.new in
    let is = c.as_mut_slice-slots.ensures.value ∙ c.remove.ensures.items in
    let ys = c.shift_all.ensures ∙ ap (map f) (lent es left k c.requires.there is) in
    closed es left k c.requires.there is (length c.remove.new.self.items) c.shift_all.new.entries _ _ (ap length (sym c.as_mut_slice-slots.ensures.value)) (ap length ys ∙ length-map (drop (k + 1) es) f)
    ∙ ap (λ q. take k es ++ q) ys
