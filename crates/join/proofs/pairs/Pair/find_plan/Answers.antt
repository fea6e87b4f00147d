use Rattle.std.proofs.Common.{ℕ, Ok, sym, ap, ◌∙◌, ap₂, arith}
use Rattle.overlay.proofs.BufferRuns.{placed}
use Rattle.stream.specs.Meaning.{ranges}
use Rattle.join.specs.declared.plans.Plan.{Plan}
use Rattle.join.specs.Joins.{pair_join}
use Rattle.join.specs.Plans.{plan_of}
use Rattle.stream.proofs.StreamFacts.{small_size}
use Rattle.join.proofs.PairOverlays.{join_rises, join_length_by_ranges, limited_ok}
use Rattle.join.proofs.pairs.Pair.find_plan.Goals as goal

pub stream_length-requires-clause-rising : goal.stream_length-requires-clause-rising
stream_length-requires-clause-rising c =
    let p = c.args.self in
    let f = placed (ranges (pair_join p).cells) c.args.ranges.now c.in-Some.count _ c.join_ranges.new.out c.in-Some.is c.join_ranges.ensures.count c.join_ranges.ensures.places in
    join_rises p.earlier p.later _ f.firsts (omega (arith, small_size p.later))

pub stream_length-requires-clause-small : goal.stream_length-requires-clause-small
stream_length-requires-clause-small c = small_size c.args.self.later

pub returns : goal.returns
returns c =
    let p = c.args.self in
    let d = pair_join p in
    let f = placed (ranges d.cells) c.args.ranges.now c.in-Some.count _ c.join_ranges.new.out c.in-Some.is c.join_ranges.ensures.count c.join_ranges.ensures.places in
    let build : ℕ → ℕ → Plan = λ m n. record { count = m; length = n } in
    let told = c.stream_length.ensures ∙ join_length_by_ranges p.earlier p.later _ f.firsts (omega (arith, small_size p.later)) in
    record {
      plan = ap Ok (ap₂ build f.count told) ∙ sym (limited_ok d (plan_of d) (omega (arith, f.count, f.room)));
      found = f.firsts;
      places = c.join_ranges.ensures.places;
    }
