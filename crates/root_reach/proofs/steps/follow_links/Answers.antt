use Rattle.std.proofs.Common.{◌≡◌, take, slice_index, sym, subst, ap, ◌∙◌, arith, List, ℕ}
use Rattle.std.specs.Prelude.{Contains}
use Rattle.heap_model.specs.Image.{Image}
use Rattle.heap_model.specs.Reach.{words_in}
use Rattle.filter_trace.proofs.TraceLemmas.{link_at, link_within, links_past}
use Rattle.root_reach.proofs.TraceLemmas.{tells_block, links_begin, links_step}
use Rattle.root_reach.proofs.steps.follow_links.Goals as goal

pub words_of-inside-requires-clause-block : goal.words_of-inside-requires-clause-block
words_of-inside-requires-clause-block g c =
    tells_block (slice_index c.args.scan.now.words.now) (slice_index c.args._kinds.now)
    (g.F.Filter.links_of c.args.filter.now) g.F.Filter.KINDS c.args.finding.block c.args.finding.kind c.args.finding.origin c.requires.tells

pub loop-position-init : goal.loop-position-init
loop-position-init g c = record {
  same = c.requires.kinds;
  upto = links_begin (slice_index c.args.scan.now.words.now) (slice_index c.args._kinds.now)
      (g.F.Filter.links_of c.args.filter.now) g.F.Filter.KINDS c.args.found.now.list.items c.args.found.now.origins.labels.items
      c.args.finding.block c.args.finding.origin c.requires.so_far;
  within = omega arith;
}

pub overflow_add-first : goal.overflow_add-first
overflow_add-first g c =
    let inside = link_within (g.F.Filter.links_of c.args.filter.now)
    g.F.Filter.KINDS c.args.finding.kind c.words_of-inside.result.now c.loop-position.at c.in-Some.position c.in-Some.to
    (g.met.F.Filter.inside c.args.filter.now) (sym c.in-Some.ensures) in
    let within = c.words_of-inside.ensures.within in
    let short = c.words_of-inside.ensures.short in
    omega arith

pub follow-requires-clause-at : goal.follow-requires-clause-at
follow-requires-clause-at g c =
    let inside = link_within (g.F.Filter.links_of c.args.filter.now)
    g.F.Filter.KINDS c.args.finding.kind c.words_of-inside.result.now c.loop-position.at c.in-Some.position c.in-Some.to
    (g.met.F.Filter.inside c.args.filter.now) (sym c.in-Some.ensures) in
    let within = c.words_of-inside.ensures.within in
    omega arith

pub follow-requires-clause-kind : goal.follow-requires-clause-kind
follow-requires-clause-kind g c =
    let inside = link_within (g.F.Filter.links_of c.args.filter.now)
    g.F.Filter.KINDS c.args.finding.kind c.words_of-inside.result.now c.loop-position.at c.in-Some.position c.in-Some.to
    (g.met.F.Filter.inside c.args.filter.now) (sym c.in-Some.ensures) in
    rw c.loop-position.invariant.same inside.1

pub overflow_add-at : goal.overflow_add-at
overflow_add-at g c =
    let link = link_at (g.F.Filter.links_of c.args.filter.now c.args.finding.kind c.words_of-inside.result.now)
    c.loop-position.at c.in-Some.position c.in-Some.to (sym c.in-Some.ensures) in
    let within = c.words_of-inside.ensures.within in
    let short = c.words_of-inside.ensures.short in
    let few = g.met.F.Filter.few c.args.filter.now c.args.finding.kind c.words_of-inside.result.now (omega arith) in
    let below = link.0 in
    omega arith

pub loop-position-smaller : goal.loop-position-smaller
loop-position-smaller g c =
    let link = link_at (g.F.Filter.links_of c.args.filter.now c.args.finding.kind c.words_of-inside.result.now)
    c.loop-position.at c.in-Some.position c.in-Some.to (sym c.in-Some.ensures) in
    let below = link.0 in
    omega arith

pub loop-position-preserved : goal.loop-position-preserved
loop-position-preserved g c =
    let image : Image = slice_index c.args.scan.now.words.now in
    let links : List ℕ → List (ℕ × ℕ) = g.F.Filter.links_of c.args.filter.now c.args.finding.kind in
    let link = link_at (links c.words_of-inside.result.now) c.loop-position.at c.in-Some.position c.in-Some.to (sym c.in-Some.ensures) in
    let inside = link_within (g.F.Filter.links_of c.args.filter.now)
    g.F.Filter.KINDS c.args.finding.kind c.words_of-inside.result.now c.loop-position.at c.in-Some.position c.in-Some.to
    (g.met.F.Filter.inside c.args.filter.now) (sym c.in-Some.ensures) in
    let listed : Contains (links (words_in image c.args.finding.block)) (c.in-Some.position, c.in-Some.to)
    = subst (λ (words : List ℕ). Contains (links words) (c.in-Some.position, c.in-Some.to)) c.words_of-inside.ensures.words link.1 in
    record {
      same = c.follow.ensures.kinds ∙ c.loop-position.invariant.same;
      upto = rw (link.2) (links_step image (slice_index c.args._kinds.now)
          (g.F.Filter.links_of c.args.filter.now) g.F.Filter.KINDS c.args.finding.block c.args.finding.kind c.args.finding.origin
          (take c.loop-position.at (links c.words_of-inside.result.now)) c.in-Some.position c.in-Some.to
          c.args.found.now.list.items c.loop-position.found.list.items c.follow.new.found.list.items
          c.args.found.now.origins.labels.items c.loop-position.found.origins.labels.items c.follow.new.found.origins.labels.items
          c.loop-position.invariant.upto c.requires.tells listed inside.1 (rw (← c.loop-position.invariant.same) c.in_ok-follow.ensures.ok));
      within = omega arith;
    }

pub returns-clause-ok : goal.returns-clause-ok
returns-clause-ok g c =
    let links : List ℕ → List (ℕ × ℕ) = g.F.Filter.links_of c.args.filter.now c.args.finding.kind in
    let all : take c.loop-position.at (links c.words_of-inside.result.now) ≡ links
    (words_in (slice_index c.args.scan.now.words.now) c.args.finding.block)
    = links_past (links c.words_of-inside.result.now) c.loop-position.at (sym c.in_default.ensures) ∙ ap links c.words_of-inside.ensures.words in
    rw (← all) c.loop-position.invariant.upto
