use Rattle.std.proofs.Common.{◌<◌, length, sym, subst, ◌∙◌, arith}
use Rattle.parcel_queue.specs.Row.{ArePassesOf, ArePassesWith, IsOwnedAt}
use Rattle.parcel_queue.proofs.HandLemmas.{as_many_owners, owns_next, more_given, more_handed, given_all, handed_all, fewer, given_pass, handed_pass}
use Rattle.parcel_queue.proofs.row.a_pass_to_each.Goals as goal

pub returns-in_err-passes-clause-parts : goal.returns-in_err-passes-clause-parts
returns-in_err-passes-clause-parts g c = λ m. fewer m c.args.queues.now c.args.owners.now.items

pub another_at-pass-requires-clause-owner : goal.another_at-pass-requires-clause-owner
another_at-pass-requires-clause-owner g c = subst (λ l. IsOwnedAt c.args.queues.now l c.loop-at.at) (sym c.loop-at.invariant.0)
    (owns_next c.args.queues.now c.args.owners.now.items c.loop-at.at c.requires.owners (let t = c.loop-at-test.true in omega (arith, t)))

pub loop-at-preserved : goal.loop-at-preserved
loop-at-preserved g c =
    let many = as_many_owners c.args.queues.now c.args.owners.now.items c.requires.owners in
    let t = c.loop-at-test.true in let inside : c.loop-at.at < length c.args.owners.now.items = omega (arith, t, many) in
    let count = c.loop-at.invariant.2 in let long = c.push_reserved.ensures.len in
    let room = c.loop-at.invariant.3 in let kept = c.push_reserved.ensures.capacity in (
      more_given c.args.owners.now.items c.loop-at.at inside c.loop-at.invariant.0 c.another_at-pass.ensures.changed,
      more_handed c.args.owners.now.items c.loop-at.at c.another_at-pass.result {next =
          c.push_reserved.new.self.items} inside c.loop-at.invariant.0 c.loop-at.invariant.1
          c.another_at-pass.ensures.pass c.push_reserved.ensures.items,
      omega (arith, count, long),
      omega (arith, room, kept),
    )

pub returns-clause-given : goal.returns-clause-given
returns-clause-given g c = let many = as_many_owners c.args.queues.now c.args.owners.now.items c.requires.owners in
    let t = c.loop-at-test.false in let end = c.loop-at.auto.at-end in
    c.loop-at.invariant.0 ∙ given_all c.args.owners.now.items c.loop-at.at (omega (arith, t, end, many))

pub returns-clause-passes : goal.returns-clause-passes
returns-clause-passes g c = let many = as_many_owners c.args.queues.now c.args.owners.now.items c.requires.owners in
    let t = c.loop-at-test.false in let end = c.loop-at.auto.at-end in
    c.loop-at.invariant.1 ∙ handed_all c.args.owners.now.items c.loop-at.at (omega (arith, t, end, many))

pub returns-clause-parts : goal.returns-clause-parts
returns-clause-parts g c = λ m all. subst (ArePassesWith m c.args.queues.now) (sym (returns-clause-given g c))
    (given_pass m c.args.queues.now c.args.owners.now.items all)

pub returns-clause-all : goal.returns-clause-all
returns-clause-all g c =
    subst (ArePassesOf c.args.queues.now) (sym (returns-clause-passes g c))
    (handed_pass c.args.queues.now c.args.owners.now.items c.requires.owners)
