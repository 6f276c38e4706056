use Rattle.std.proofs.Common.{◌≡◌, ◌+◌, take, slice_index, sym, subst, ap, ◌∙◌, arith, List, [], ◌∷◌, ◌++◌, ℕ}
use Rattle.std.specs.Prelude.{Contains}
use Rattle.std.proofs.lemmas.Result.{err_from_is_err_and}
use Rattle.heap_model.specs.Image.{Image}
use Rattle.heap_model.specs.Reach.{words_in, by_link}
use Rattle.filter_trace.proofs.TraceLemmas.{link_at, link_within, links_past}
use Rattle.mixed_trace.specs.declared.mode.Mode.TheVariants.{Kind}
use Rattle.mixed_trace.specs.Reach.{modes_of}
use Rattle.mixed_trace.specs.Steps.{FollowsAs, IsLinkAmong}
use Rattle.mixed_trace.proofs.MixedStepLemmas.{none_yet, one_more, link_cases}
use Rattle.mixed_trace.proofs.WorkLemmas.{mixed_block, tells_word}
use Rattle.mixed_trace.proofs.steps.follow_links.Goals as goal

pub words_of-inside-requires-clause-block : goal.words_of-inside-requires-clause-block
words_of-inside-requires-clause-block g c =
    mixed_block (slice_index c.args.scan.now.words.now) (modes_of c.args._modes.now) (g.F.Filter.links_of c.args.filter.now) c.args.block
    (Kind c.args.kind) c.requires.reached

pub overflow_add-first : goal.overflow_add-first
overflow_add-first g c =
    let inside = link_within (g.F.Filter.links_of c.args.filter.now)
    g.F.Filter.KINDS c.args.kind c.words_of-inside.result.now c.loop-position.at c.in-Some.position c.in-Some.to
    (g.met.F.Filter.inside c.args.filter.now) (sym c.in-Some.ensures) in
    let within = c.words_of-inside.ensures.within in
    let short = c.words_of-inside.ensures.short in
    omega arith

pub follow_as-requires-clause-at : goal.follow_as-requires-clause-at
follow_as-requires-clause-at g c =
    let inside = link_within (g.F.Filter.links_of c.args.filter.now)
    g.F.Filter.KINDS c.args.kind c.words_of-inside.result.now c.loop-position.at c.in-Some.position c.in-Some.to
    (g.met.F.Filter.inside c.args.filter.now) (sym c.in-Some.ensures) in
    let within = c.words_of-inside.ensures.within in
    omega arith

pub follow_as-requires-clause-fits : goal.follow_as-requires-clause-fits
follow_as-requires-clause-fits g c =
    let inside = link_within (g.F.Filter.links_of c.args.filter.now)
    g.F.Filter.KINDS c.args.kind c.words_of-inside.result.now c.loop-position.at c.in-Some.position c.in-Some.to
    (g.met.F.Filter.inside c.args.filter.now) (sym c.in-Some.ensures) in
    rw c.KINDS.ensures inside.1

pub returns-in_err-follow_as-clause-err : goal.returns-in_err-follow_as-clause-err
returns-in_err-follow_as-clause-err g c =
    let image : Image = slice_index c.args.scan.now.words.now in
    let links : List ℕ → List (ℕ × ℕ) = g.F.Filter.links_of c.args.filter.now c.args.kind in
    let link = link_at (links c.words_of-inside.result.now) c.loop-position.at c.in-Some.position c.in-Some.to (sym c.in-Some.ensures) in
    let listed : Contains (links (words_in image c.args.block)) (c.in-Some.position, c.in-Some.to)
    = subst (λ (words : List ℕ). Contains (links words) (c.in-Some.position, c.in-Some.to)) c.words_of-inside.ensures.words link.1 in
    let p = err_from_is_err_and c.from_residual.result c.from_residual.ensures.1 in
    rw (p.1, p.2) (tells_word image (modes_of c.args._modes.now) (g.F.Filter.links_of c.args.filter.now) c.args.block (Kind c.args.kind)
    (Kind c.in-Some.to) c.in-Some.position
    c.in_err-follow_as.field-0.0 c.requires.reached listed c.in_err-follow_as.ensures.err)

pub overflow_add-at : goal.overflow_add-at
overflow_add-at g c =
    let link = link_at (g.F.Filter.links_of c.args.filter.now c.args.kind c.words_of-inside.result.now)
    c.loop-position.at c.in-Some.position c.in-Some.to (sym c.in-Some.ensures) in
    let within = c.words_of-inside.ensures.within in
    let short = c.words_of-inside.ensures.short in
    let few = g.met.F.Filter.few c.args.filter.now c.args.kind c.words_of-inside.result.now (omega arith) in
    let below = link.0 in
    omega arith

pub loop-position-init : goal.loop-position-init
loop-position-init g c = record {
  same = c.requires.kinds;
  upto = none_yet (slice_index c.args.scan.now.words.now) (modes_of c.args._modes.now) (g.F.Filter.links_of c.args.filter.now) g.F.Filter.KINDS
      (IsLinkAmong c.args.block (take 0 (g.F.Filter.links_of c.args.filter.now c.args.kind c.words_of-inside.result.now)))
      c.args.found.now.pairs.items c.args.found.now.marks c.requires.found (λ at mode this. let none = this.listed.1 in absurd (omega arith));
  within = omega arith;
}

pub loop-position-smaller : goal.loop-position-smaller
loop-position-smaller g c =
    let link = link_at (g.F.Filter.links_of c.args.filter.now c.args.kind c.words_of-inside.result.now)
    c.loop-position.at c.in-Some.position c.in-Some.to (sym c.in-Some.ensures) in
    let below = link.0 in
    omega arith

pub loop-position-preserved : goal.loop-position-preserved
loop-position-preserved g c =
    let image : Image = slice_index c.args.scan.now.words.now in
    let links : List ℕ → List (ℕ × ℕ) = g.F.Filter.links_of c.args.filter.now c.args.kind in
    let link = link_at (links c.words_of-inside.result.now) c.loop-position.at c.in-Some.position c.in-Some.to (sym c.in-Some.ensures) in
    let inside = link_within (g.F.Filter.links_of c.args.filter.now)
    g.F.Filter.KINDS c.args.kind c.words_of-inside.result.now c.loop-position.at c.in-Some.position c.in-Some.to
    (g.met.F.Filter.inside c.args.filter.now) (sym c.in-Some.ensures) in
    let listed : Contains (links (words_in image c.args.block)) (c.in-Some.position, c.in-Some.to)
    = subst (λ (words : List ℕ). Contains (links words) (c.in-Some.position, c.in-Some.to)) c.words_of-inside.ensures.words link.1 in
    let at : ℕ = c.args.block.first_word + c.in-Some.position in
    let upto : List (ℕ × ℕ) = take c.loop-position.at (links c.words_of-inside.result.now) in
    record {
      same = c.follow_as.ensures.kinds ∙ c.loop-position.invariant.same;
      upto = rw (link.2) (one_more image (modes_of c.args._modes.now) (g.F.Filter.links_of c.args.filter.now) g.F.Filter.KINDS
          (IsLinkAmong c.args.block upto) (IsLinkAmong c.args.block (upto ++ (c.in-Some.position, c.in-Some.to) ∷ [])) at (Kind c.in-Some.to)
          c.args.found.now.pairs.items c.loop-position.found.pairs.items c.follow_as.new.found.pairs.items c.args.found.now.marks
          c.loop-position.found.marks c.follow_as.new.found.marks
          c.loop-position.invariant.upto inside.1
          (λ b leads. by_link c.args.block b (Kind c.args.kind) (Kind c.in-Some.to) c.requires.reached
          (record { position = c.in-Some.position; counts = listed; leads = leads }))
          (λ n m this. link_cases c.args.block upto c.in-Some.position c.in-Some.to n m this)
          (subst (λ n. FollowsAs image n at (Kind c.in-Some.to) c.loop-position.found.pairs.items c.follow_as.new.found.pairs.items
          c.loop-position.found.marks c.follow_as.new.found.marks)
          c.KINDS.ensures c.in_ok-follow_as.ensures.ok));
      within = omega arith;
    }

pub returns-clause-ok : goal.returns-clause-ok
returns-clause-ok g c =
    let links : List ℕ → List (ℕ × ℕ) = g.F.Filter.links_of c.args.filter.now c.args.kind in
    let all : take c.loop-position.at (links c.words_of-inside.result.now) ≡ links (words_in (slice_index c.args.scan.now.words.now) c.args.block)
    = links_past (links c.words_of-inside.result.now) c.loop-position.at (sym c.in_default.ensures) ∙ ap links c.words_of-inside.ensures.words in
    rw (← all) c.loop-position.invariant.upto
