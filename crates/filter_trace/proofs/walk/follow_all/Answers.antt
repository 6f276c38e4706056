use Rattle.std.proofs.Common.{refl, subst, ◌∙◌, arith, take_all}
use Rattle.std.specs.List.{All}
use Rattle.std.proofs.lemmas.List.Elements.{All-nil}
use Rattle.filter_trace.proofs.WalkLemmas.{no_more, more_and_more, given_here, one_more_followed}
use Rattle.filter_trace.proofs.walk.follow_all.Goals as goal

pub loop-next-init : goal.loop-next-init
loop-next-init g c = record {
  sound = c.requires;
  grown = no_more (g.W.Walk.entries c.args.found.now) (g.W.Walk.entries c.args.found.now) refl;
  followed = All-nil (g.W.Walk.followed c.args.walk.now c.args.found.now);
  most = refl;
}

pub follow-requires-clause-here : goal.follow-requires-clause-here
follow-requires-clause-here g c =
    given_here (g.W.Walk.entries c.loop-next.found) c.loop-next.next c.entry_at-entry.result c.entry_at-entry.ensures

pub loop-next-smaller : goal.loop-next-smaller
loop-next-smaller g c =
    let few = g.met.W.Walk.few c.args.walk.now c.loop-next.found c.loop-next.invariant.sound in
    let count = c.count.ensures in
    let most = c.loop-next.invariant.most in
    omega arith

pub loop-next-preserved : goal.loop-next-preserved
loop-next-preserved g c =
    let entries = g.W.Walk.entries in
    let old = c.loop-next.found in
    let new = c.follow.new.found in
    record {
      sound = c.in_ok-follow.ensures.sound;
      grown = more_and_more (entries c.args.found.now) (entries old) (entries new) c.loop-next.invariant.grown c.in_ok-follow.ensures.grown;
      followed = one_more_followed (g.W.Walk.followed c.args.walk.now old) (g.W.Walk.followed c.args.walk.now new) (entries old) (entries new)
          c.loop-next.next c.entry_at-entry.result c.loop-next.invariant.followed c.entry_at-entry.ensures c.in_ok-follow.ensures.grown
          c.in_ok-follow.ensures.still c.in_ok-follow.ensures.followed;
      most = c.in_ok-follow.ensures.most ∙ c.loop-next.invariant.most;
    }

pub returns-clause-followed : goal.returns-clause-followed
returns-clause-followed g c =
    let count = c.count.ensures in
    subst (All (g.W.Walk.followed c.args.walk.now c.loop-next.found))
    (take_all c.loop-next.next (g.W.Walk.entries c.loop-next.found) (omega arith)) c.loop-next.invariant.followed
