use Rattle.std.proofs.Common.{◌≡◌, ◌+◌, length, slice_index, subst, ◌∙◌, arith}
use Rattle.filter_trace.specs.Pairs.{HasMarks}
use Rattle.filter_trace.proofs.TraceLemmas.{nothing_marked}
use Rattle.mixed_trace.specs.declared.mode.Mode.TheVariants.{Kind}
use Rattle.mixed_trace.specs.Reach.{modes_of}
use Rattle.mixed_trace.proofs.WorkLemmas.{roots_end, trace_ends, none_outside}
use Rattle.mixed_trace.proofs.worklist.trace_mixed.Goals as goal

pub follow_roots-requires-clause-found : goal.follow_roots-requires-clause-found
follow_roots-requires-clause-found g c =
    let count : c.in-Some.numbers ≡ g.F.Filter.KINDS + 1 = omega (arith, c.in-Some.ensures, c.KINDS.ensures) in
    let room : HasMarks (length c.args.words.now) (g.F.Filter.KINDS + 1) c.in_ok-found.found.marks
    = subst (λ n. HasMarks (length c.args.words.now) n c.in_ok-found.found.marks) count c.in_ok-found.ensures.room in
    rw (c.in_ok-found.ensures.empty) (record {
      marked = nothing_marked (slice_index c.args.words.now) (length c.args.words.now)
          (g.F.Filter.KINDS + 1) c.in_ok-found.found.marks c.requires.formed room c.in_ok-found.ensures.clear;
      reached = record { each = λ b number here. let none = here.1 in absurd (omega arith) };
    })

pub follow_all-requires : goal.follow_all-requires
follow_all-requires g c =
    let count : c.in-Some.numbers ≡ g.F.Filter.KINDS + 1 = omega (arith, c.in-Some.ensures, c.KINDS.ensures) in
    record {
      formed = c.requires.formed;
      described = c.in_ok-directory.ensures.ok;
      same = c.follow_roots.ensures.kinds ∙ c.in_ok-found.ensures.kinds ∙ count;
      pairs = roots_end (slice_index c.args.words.now) (modes_of c.args.modes.now) (g.F.Filter.links_of c.args.filter.now) g.F.Filter.KINDS
          c.in_ok-found.found.pairs.items c.follow_roots.new.found.pairs.items c.in_ok-found.found.marks c.follow_roots.new.found.marks
          c.in_ok-follow_roots.ensures.ok;
    }

pub of-requires-2 : goal.of-requires-2
of-requires-2 g c = record {
  image = slice_index c.args.words.now;
  words = length c.args.words.now;
  formed = c.requires.formed;
  described = c.in_ok-directory.ensures.ok;
  marked = rw (c.in_ok-follow_all.ensures.sound.same) c.in_ok-follow_all.ensures.sound.pairs.found.marked;
}

pub returns-clause-ok : goal.returns-clause-ok
returns-clause-ok g c =
    rw (c.of-2.ensures.pairs) (trace_ends (slice_index c.args.words.now) (modes_of c.args.modes.now)
    (g.F.Filter.links_of c.args.filter.now) g.F.Filter.KINDS
    c.follow_all.new.found.pairs.items c.follow_all.new.found.marks (g.met.F.Filter.inside c.args.filter.now)
    (λ root low. c.requires.modes root (Kind 0) (omega arith))
    c.in_ok-follow_all.ensures.sound.pairs c.in_ok-follow_all.ensures.followed)

pub returns-clause-none : goal.returns-clause-none
returns-clause-none g c =
    none_outside (slice_index c.args.words.now) (modes_of c.args.modes.now) (g.F.Filter.links_of c.args.filter.now) g.F.Filter.KINDS
    c.follow_all.new.found.pairs.items c.follow_all.new.found.marks (g.met.F.Filter.inside c.args.filter.now)
    (λ root low. c.requires.modes root (Kind 0) (omega arith))
    c.in_ok-follow_all.ensures.sound.pairs c.in_ok-follow_all.ensures.followed
