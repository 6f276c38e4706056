use Rattle.std.proofs.Common.{◌≡◌, ◌*◌, length, slice_index, sym, subst, ◌∙◌, ap, arith}
use Rattle.heap_model.specs.Geometry.{roots}
use Rattle.filter_trace.proofs.TraceStepLemmas.{image_short}
use Rattle.root_reach.specs.Steps.{PropagatesRoots}
use Rattle.root_reach.proofs.TraceLemmas.{nothing_found, roots_end, trace_ends}
use Rattle.root_reach.proofs.worklist.trace_origins.Goals as goal

pub new-requires : goal.new-requires
new-requires g c =
    let short = image_short (slice_index c.args.scan.now.words.now) (length c.args.scan.now.words.now) c.requires.formed in
    let long = c.requires.formed.length_is in
    let used = c.requires.formed.used in
    omega (arith, c.words_of_taken.ensures)

pub follow_roots-requires-clause-so_far : goal.follow_roots-requires-clause-so_far
follow_roots-requires-clause-so_far g c =
    let long : length c.in_ok-found.found.origins.labels.items ≡ c.words_of_taken.result * c.in_ok-found.found.origins.kinds =
    c.in_ok-found.ensures.long ∙ ap (λ n. c.words_of_taken.result * n) (sym c.in_ok-found.ensures.kinds) in
    rw (c.in_ok-found.ensures.empty) (nothing_found (slice_index c.args.scan.now.words.now) (slice_index c.args.kinds.now)
    (g.F.Filter.links_of c.args.filter.now) c.in_ok-found.found.origins.kinds
    c.words_of_taken.result c.in_ok-found.found.origins.labels.items c.words_of_taken.ensures long c.in_ok-found.ensures.clear)

pub follow_all-requires : goal.follow_all-requires
follow_all-requires g c =
    let count : c.in_ok-found.found.origins.kinds ≡ g.F.Filter.KINDS = c.in_ok-found.ensures.kinds ∙ c.KINDS.ensures in
    record {
      formed = c.requires.formed;
      described = c.requires.described;
      same = c.follow_roots.ensures.kinds ∙ count;
      findings = roots_end (slice_index c.args.scan.now.words.now) (slice_index c.args.kinds.now) (g.F.Filter.links_of c.args.filter.now)
          g.F.Filter.KINDS c.follow_roots.new.found.list.items c.follow_roots.new.found.origins.labels.items
          (subst (λ n. PropagatesRoots (slice_index c.args.scan.now.words.now) (slice_index c.args.kinds.now)
          (g.F.Filter.links_of c.args.filter.now) n roots c.follow_roots.new.found.list.items c.follow_roots.new.found.origins.labels.items)
          count c.in_ok-follow_roots.ensures.ok);
    }

pub returns : goal.returns
returns g c = record {
  ok = trace_ends (slice_index c.args.scan.now.words.now) (slice_index c.args.kinds.now)
      (g.F.Filter.links_of c.args.filter.now) g.F.Filter.KINDS c.follow_all.new.found c.in_ok-follow_all.ensures.sound.same
      c.in_ok-follow_all.ensures.sound.findings c.in_ok-follow_all.ensures.followed;
  kinds = c.in_ok-follow_all.ensures.sound.same;
}
