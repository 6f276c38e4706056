use Rattle.std.proofs.Common.{◌≡◌, take, slice_index, sym, subst, ap, ◌∙◌, arith, List, ℕ}
use Rattle.std.specs.Prelude.{Contains}
use Rattle.std.proofs.lemmas.Result.{err_from_is_err_and}
use Rattle.heap_model.specs.Image.{Image}
use Rattle.heap_model.specs.Reach.{words_in}
use Rattle.heap_model.proofs.ReachLemmas.{reached_block}
use Rattle.filter_trace.proofs.TraceLemmas.{link_at, link_within, links_past, links_step, tells_link}
use Rattle.filter_trace.proofs.scan.Scan.follow_links.Goals as goal

pub words_of-inside-requires-clause-block : goal.words_of-inside-requires-clause-block
words_of-inside-requires-clause-block g c =
    reached_block (slice_index c.args.self.now.words.now) (slice_index c.args.kinds.now)
    (g.F.Filter.links_of c.args.filter.now) c.args.block c.args.kind c.requires.reached

pub overflow_add-first : goal.overflow_add-first
overflow_add-first g c =
    let inside = link_within (g.F.Filter.links_of c.args.filter.now)
    g.F.Filter.KINDS c.args.kind c.words_of-inside.result.now c.loop-position.at c.in-Some.position c.in-Some.to
    (g.met.F.Filter.inside c.args.filter.now) (sym c.in-Some.ensures) in
    let within = c.words_of-inside.ensures.within in
    let short = c.words_of-inside.ensures.short in
    omega arith

pub follow-requires-clause-at : goal.follow-requires-clause-at
follow-requires-clause-at g c =
    let inside = link_within (g.F.Filter.links_of c.args.filter.now)
    g.F.Filter.KINDS c.args.kind c.words_of-inside.result.now c.loop-position.at c.in-Some.position c.in-Some.to
    (g.met.F.Filter.inside c.args.filter.now) (sym c.in-Some.ensures) in
    let within = c.words_of-inside.ensures.within in
    omega arith

pub follow-requires-clause-kind : goal.follow-requires-clause-kind
follow-requires-clause-kind g c =
    let inside = link_within (g.F.Filter.links_of c.args.filter.now)
    g.F.Filter.KINDS c.args.kind c.words_of-inside.result.now c.loop-position.at c.in-Some.position c.in-Some.to
    (g.met.F.Filter.inside c.args.filter.now) (sym c.in-Some.ensures) in
    rw c.loop-position.invariant.same inside.1

pub returns-in_err-follow-clause-err : goal.returns-in_err-follow-clause-err
returns-in_err-follow-clause-err g c =
    let image : Image = slice_index c.args.self.now.words.now in
    let links : List ℕ → List (ℕ × ℕ) = g.F.Filter.links_of c.args.filter.now c.args.kind in
    let link = link_at (links c.words_of-inside.result.now) c.loop-position.at c.in-Some.position c.in-Some.to (sym c.in-Some.ensures) in
    let listed : Contains (links (words_in image c.args.block)) (c.in-Some.position, c.in-Some.to)
    = subst (λ (words : List ℕ). Contains (links words) (c.in-Some.position, c.in-Some.to)) c.words_of-inside.ensures.words link.1 in
    let p = err_from_is_err_and c.from_residual.result c.from_residual.ensures.1 in
    rw (p.1, p.2) (tells_link image (slice_index c.args.kinds.now)
    (g.F.Filter.links_of c.args.filter.now) c.args.block c.args.kind c.in-Some.position c.in-Some.to c.in_err-follow.field-0.0
    c.requires.reached listed
    c.in_err-follow.ensures.err)

pub overflow_add-at : goal.overflow_add-at
overflow_add-at g c =
    let link = link_at (g.F.Filter.links_of c.args.filter.now c.args.kind c.words_of-inside.result.now)
    c.loop-position.at c.in-Some.position c.in-Some.to (sym c.in-Some.ensures) in
    let within = c.words_of-inside.ensures.within in
    let short = c.words_of-inside.ensures.short in
    let few = g.met.F.Filter.few c.args.filter.now c.args.kind c.words_of-inside.result.now (omega arith) in
    let below = link.0 in
    omega arith

pub loop-position-smaller : goal.loop-position-smaller
loop-position-smaller g c =
    let link = link_at (g.F.Filter.links_of c.args.filter.now c.args.kind c.words_of-inside.result.now)
    c.loop-position.at c.in-Some.position c.in-Some.to (sym c.in-Some.ensures) in
    let below = link.0 in
    omega arith

pub loop-position-preserved : goal.loop-position-preserved
loop-position-preserved g c =
    let image : Image = slice_index c.args.self.now.words.now in
    let links : List ℕ → List (ℕ × ℕ) = g.F.Filter.links_of c.args.filter.now c.args.kind in
    let link = link_at (links c.words_of-inside.result.now) c.loop-position.at c.in-Some.position c.in-Some.to (sym c.in-Some.ensures) in
    let inside = link_within (g.F.Filter.links_of c.args.filter.now)
    g.F.Filter.KINDS c.args.kind c.words_of-inside.result.now c.loop-position.at c.in-Some.position c.in-Some.to
    (g.met.F.Filter.inside c.args.filter.now) (sym c.in-Some.ensures) in
    let listed : Contains (links (words_in image c.args.block)) (c.in-Some.position, c.in-Some.to)
    = subst (λ (words : List ℕ). Contains (links words) (c.in-Some.position, c.in-Some.to)) c.words_of-inside.ensures.words link.1 in
    record {
      same = c.follow.ensures.kinds ∙ c.loop-position.invariant.same;
      upto = rw (link.2) (links_step image (slice_index c.args.kinds.now)
          (g.F.Filter.links_of c.args.filter.now) g.F.Filter.KINDS c.args.block c.args.kind
          (take c.loop-position.at (links c.words_of-inside.result.now)) c.in-Some.position c.in-Some.to
          c.args.found.now.pairs.items c.loop-position.found.pairs.items c.follow.new.found.pairs.items c.args.found.now.marks
          c.loop-position.found.marks c.follow.new.found.marks
          c.loop-position.invariant.upto c.requires.reached listed inside.1 (rw (← c.loop-position.invariant.same) c.in_ok-follow.ensures.ok));
      within = omega arith;
    }

pub returns-clause-ok : goal.returns-clause-ok
returns-clause-ok g c =
    let links : List ℕ → List (ℕ × ℕ) = g.F.Filter.links_of c.args.filter.now c.args.kind in
    let all : take c.loop-position.at (links c.words_of-inside.result.now) ≡ links (words_in (slice_index c.args.self.now.words.now) c.args.block)
    = links_past (links c.words_of-inside.result.now) c.loop-position.at (sym c.in_default.ensures) ∙ ap links c.words_of-inside.ensures.words in
    rw (← all) c.loop-position.invariant.upto
