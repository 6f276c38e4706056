use Rattle.std.proofs.Common.{◌≡◌, length, slice_index, subst, ◌∙◌}
use Rattle.std.proofs.lemmas.Result.{err_from_is_err_and}
use Rattle.heap_model.specs.Geometry.{roots}
use Rattle.filter_trace.specs.Pairs.{HasMarks}
use Rattle.filter_trace.specs.Trace.{FollowsRoots}
use Rattle.filter_trace.proofs.TraceLemmas.{nothing_marked, roots_end, trace_ends, none_outside, tells_root}
use Rattle.filter_trace.proofs.worklist.trace.Goals as goal

pub follow_roots-requires-clause-marked : goal.follow_roots-requires-clause-marked
follow_roots-requires-clause-marked g c =
    let room : HasMarks (length c.args.words.now) g.F.Filter.KINDS c.in_ok-found.found.marks
    = subst (λ n. HasMarks (length c.args.words.now) n c.in_ok-found.found.marks) c.KINDS.ensures c.in_ok-found.ensures.room in
    rw (c.in_ok-found.ensures.kinds, c.KINDS.ensures, c.in_ok-found.ensures.empty)
    (nothing_marked (slice_index c.args.words.now) (length c.args.words.now)
    g.F.Filter.KINDS c.in_ok-found.found.marks c.requires.formed room c.in_ok-found.ensures.clear)

pub returns-in_err-follow_roots-clause-err : goal.returns-in_err-follow_roots-clause-err
returns-in_err-follow_roots-clause-err g c =
    let p = err_from_is_err_and c.from_residual-in_err-follow_roots.result c.from_residual-in_err-follow_roots.ensures.1 in
    rw (p.1, p.2) (tells_root (slice_index c.args.words.now) (slice_index c.args.kinds.now)
    (g.F.Filter.links_of c.args.filter.now) c.in_err-follow_roots.field-0.0 c.in_err-follow_roots.ensures.err)

pub follow_all-requires : goal.follow_all-requires
follow_all-requires g c =
    let count : c.in_ok-found.found.kinds ≡ g.F.Filter.KINDS = c.in_ok-found.ensures.kinds ∙ c.KINDS.ensures in
    record {
      formed = c.requires.formed;
      described = c.in_ok-directory.ensures.ok;
      same = c.follow_roots.ensures.kinds ∙ count;
      pairs = roots_end (slice_index c.args.words.now) (slice_index c.args.kinds.now) (g.F.Filter.links_of c.args.filter.now) g.F.Filter.KINDS
          c.follow_roots.new.found.pairs.items c.follow_roots.new.found.marks
          (subst (λ n. FollowsRoots (slice_index c.args.words.now) (slice_index c.args.kinds.now)
          n roots c.follow_roots.new.found.pairs.items c.follow_roots.new.found.marks) count c.in_ok-follow_roots.ensures.ok);
    }

pub returns-clause-ok : goal.returns-clause-ok
returns-clause-ok g c =
    trace_ends (slice_index c.args.words.now) (slice_index c.args.kinds.now) (g.F.Filter.links_of c.args.filter.now) g.F.Filter.KINDS
    c.follow_all.new.found.pairs.items c.follow_all.new.found.marks c.in_ok-follow_all.ensures.sound.pairs c.in_ok-follow_all.ensures.followed

pub returns-clause-none : goal.returns-clause-none
returns-clause-none g c =
    none_outside (slice_index c.args.words.now) (slice_index c.args.kinds.now) (g.F.Filter.links_of c.args.filter.now) g.F.Filter.KINDS
    c.follow_all.new.found.pairs.items c.follow_all.new.found.marks c.in_ok-follow_all.ensures.sound.pairs c.in_ok-follow_all.ensures.followed

pub invariant_of-result : goal.invariant_of-result
invariant_of-result g c = record {
  image = slice_index c.args.words.now;
  words = length c.args.words.now;
  formed = c.requires.formed;
  described = c.in_ok-directory.ensures.ok;
  marked = rw (c.in_ok-follow_all.ensures.sound.same) c.in_ok-follow_all.ensures.sound.pairs.found.marked;
}
