use Rattle.std.proofs.Common.{◌≡◌, ◌-◌, ◌<◌, slice_index, ap, arith, ◌∙◌}
use Rattle.std.specs.List.{range_with_len}
use Rattle.heap_model.specs.Blocks.{layout_of}
use Rattle.rayon.specs.Numbers.{nat_range}
use Rattle.rayon.proofs.ToStd.{nat_range-All}
use Rattle.par_recover.specs.Marked.{IsMarkedImage}
use Rattle.par_recover.proofs.MarkedLemmas.{all_given}
use Rattle.par_recover.proofs.marked.marked_blocks.Goals as goal

pub collect-requires-clause-ready : goal.collect-requires-clause-ready
collect-requires-clause-ready g c κs within =
    let ends = c.into_par_iter.ensures in
    let inside = nat_range-All (λ d. (d < c.args.used) × IsMarkedImage c.args.words.now c.args.geometry.now.capacity c.args.used c.args.marks.now)
    0 c.args.used (λ d low high. (high, c.requires.marked)) in
    rw (c.map.ensures.base, c.map.ensures.f, c.with_min_len.ensures.base, ends.0, ends.1) (λ k d lt. (inside k d lt, λ y p. tt))

pub returns : goal.returns
returns g c =
    let ends = c.into_par_iter.ensures in
    let whole : c.args.used - 0 ≡ c.args.used = omega arith in
    let given = c.in_ok-collect.ensures in
    let chain = rw (c.map.ensures.base, c.map.ensures.f, c.with_min_len.ensures.base) at given.1 in
    let places = chain.1 ∙ (λ i. nat_range (ends.0 i) (ends.1 i)) ∙ ap (range_with_len 0) whole in
    record {
      ok = all_given (layout_of (slice_index c.args.words.now)) c.args.marks.now.pairs c.args.used chain.0 places given.0 chain.2
          c.in_ok-collect.field-0 given.2;
    }
