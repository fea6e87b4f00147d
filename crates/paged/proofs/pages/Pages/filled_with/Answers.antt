use Rattle.std.proofs.Common.{◌≡◌, ℕ, ◌+◌, ◌<◌, ◌≤◌, if◌then◌else◌, List, length, take, ap, ◌∙◌, arith, eqb, drop, ◌-◌}
use Rattle.std.proofs.lemmas.List.{take_all}
use Rattle.store.specs.Images.{image_with}
use Rattle.paged.specs.Pages.{all_pages, places, bytes_before, filled_from, PartOf}
use Rattle.paged.proofs.FilledLaws.{filled_small, weight_small}
use Rattle.std.specs.Int.{from_bool}
use Rattle.paged.proofs.PagePuts.{weight_filled, weight_place}
use Rattle.paged.proofs.Ranges.{chunk_count}
use Rattle.paged.proofs.PageLoop.{none_put}
use Rattle.paged.specs.State.{places_of, all_of, value_of, blank_after, filled_after, SoundIn, InPages}
use Rattle.paged.specs.declared.pages.paging.Paging.{Paging}
use Rattle.paged.proofs.pages.Pages.filled_with.Goals as goal

pub loop-i-init : goal.loop-i-init
loop-i-init c =
    let s = c.args.self.now.paging in
    c.args.self.now.sound.counted ∙ ap (filled_from (places_of s)) (none_put (all_of s) c.args.offset (length c.args.bytes.now) c.args.bytes.now)

pub returns : goal.returns
returns c =
    let s = c.args.self.now.paging in
    let bytes : List ℕ = c.args.bytes.now in
    let reached : length bytes ≤ bytes_before c.args.offset (length bytes) c.loop-i.i = omega (arith, c.loop-i-test.false, c.div_ceil-i-end.ensures) in
    c.loop-i.invariant ∙ ap (λ b. filled_from (places s.map.now) (image_with (all_pages s.map.now s.pool.now) c.args.offset b)) (take_all (bytes_before c.args.offset (length bytes) c.loop-i.i) bytes reached)

pub overflow_add-count : goal.overflow_add-count
overflow_add-count c =
    let s = c.args.self.now.paging in
    omega (
      arith,
      c.loop-i.invariant,
      filled_small (places s.map.now) (image_with (all_pages s.map.now s.pool.now) c.args.offset (take (bytes_before c.args.offset (length c.args.bytes.now) c.loop-i.i) c.args.bytes.now)),
      c.from.ensures ∙ weight_filled c.blank_with-blank.result,
      weight_small c.blank_with-blank.result,
    )

-- the count after the part in page i, where w is 1 if the page is filled then, and v if it was
-- filled before
more : (s : Paging) (offset : ℕ) (bytes : List ℕ) (i d m from count w v : ℕ) → SoundIn s → PartOf offset (length bytes) i d m from → InPages s offset (length bytes) → i < places_of s
    → d ≡ bytes_before offset (length bytes) i → m ≡ bytes_before offset (length bytes) (i + 1) → count ≡ filled_after s offset (take (bytes_before offset (length bytes) i) bytes)
    → w ≡ (if blank_after s i from (take (m - d) (drop d bytes)) then 0 else 1) → v ≡ (if eqb (value_of s i) 0 then 0 else 1)
    → filled_after s offset (take (bytes_before offset (length bytes) (i + 1)) bytes) + v ≡ count + w
more s offset bytes i d m from count w v sound part inside here is-d is-m is-count is-w is-v =
    let filled : ℕ → ℕ = λ n. filled_after s offset (take n bytes) in
    let step = chunk_count s.map.now s.pool.now s.spare s.used offset bytes i d m from sound part inside here in
    omega (arith, step, is-count, is-w, is-v, ap filled is-d, ap filled is-m)

pub overflow_sub-count : goal.overflow_sub-count
overflow_sub-count c =
    let part = c.of-part.ensures in
    let is-w = c.from.ensures ∙ weight_filled c.blank_with-blank.result ∙ ap {B = ℕ} (λ t. if t then 0 else 1) c.blank_with-blank.ensures in
    let is-v = c.from-in-loop-i.ensures ∙ ap from_bool c.is_some.ensures ∙ weight_place c.page.result (value_of c.args.self.now.paging c.loop-i.i) c.page.ensures in
    omega (arith, more c.args.self.now.paging c.args.offset c.args.bytes.now c.loop-i.i _ _ _ _ _ _ c.args.self.now.sound part.part c.requires.inside (omega (arith, c.requires.inside)) part.start part.end c.loop-i.invariant is-w is-v)

pub loop-i-preserved : goal.loop-i-preserved
loop-i-preserved c =
    let part = c.of-part.ensures in
    let is-w = c.from.ensures ∙ weight_filled c.blank_with-blank.result ∙ ap {B = ℕ} (λ t. if t then 0 else 1) c.blank_with-blank.ensures in
    let is-v = c.from-in-loop-i.ensures ∙ ap from_bool c.is_some.ensures ∙ weight_place c.page.result (value_of c.args.self.now.paging c.loop-i.i) c.page.ensures in
    omega (arith, more c.args.self.now.paging c.args.offset c.args.bytes.now c.loop-i.i _ _ _ _ _ _ c.args.self.now.sound part.part c.requires.inside (omega (arith, c.requires.inside)) part.start part.end c.loop-i.invariant is-w is-v)
