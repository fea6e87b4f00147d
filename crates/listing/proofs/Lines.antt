-- The lines of ranges, one more at a time.
use Rattle.std.proofs.Common.{◌≡◌, ℕ, ◌+◌, ◌<◌, List, [], ◌∷◌, ◌++◌, length, get_or, take, decimal, refl, ap, ◌∙◌, arith}
use Rattle.std.specs.List.{flat_map}
use Rattle.std.proofs.lemmas.List.{append-nil, take_more, length-append}
use Rattle.std.proofs.lemmas.Grind.{flat_map-append}
use Rattle.overlay.specs.declared.runs.Run.{Run}
use Rattle.overlay.specs.declared.ranges.RangeMark.{RangeMark}
use Rattle.overlay.specs.declared.ranges.RangeMark.TheVariants.{Zeroed, Written}
use Rattle.listing.specs.Text.{heading, line_end, line, listing}

-- the range that a read past the end would give
abbrev pub none : Run RangeMark
none = record { offset = 0; length = 0; mark = Zeroed }

pub length_line_end : (m : RangeMark) → length (line_end m) ≡ 6
length_line_end Zeroed = refl
length_line_end Written = refl

-- a line's length: two numbers, two spaces, the kind and the line's end
pub length_line : (r : Run RangeMark) → length (line r) ≡ length (decimal r.offset) + length (decimal r.length) + 7
length_line r =
    let a = length-append (decimal r.offset) (32 ∷ (decimal r.length ++ line_end r.mark)) in
    let b = length-append (decimal r.length) (line_end r.mark) in
    let c = length_line_end r.mark in
    omega arith

-- one more line
pub lines_more : (rs : List (Run RangeMark)) (i : ℕ) → i < length rs → flat_map line (take (i + 1) rs) ≡ flat_map line (take i rs) ++ line (get_or rs i none)
lines_more rs i h =
    ap (flat_map line) (take_more rs i none h) ∙ flat_map-append line (take i rs) (get_or rs i none ∷ []) ∙ ap (λ t. flat_map line (take i rs) ++ t) (append-nil (line (get_or rs i none)))

pub length_listing : (rs : List (Run RangeMark)) → length (listing rs) ≡ 19 + length (flat_map line rs)
unfolding listing
length_listing rs = length-append heading (flat_map line rs)

pub listing_is : (rs : List (Run RangeMark)) → heading ++ flat_map line rs ≡ listing rs
unfolding listing
listing_is rs = refl
