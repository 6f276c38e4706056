use Rattle.std.proofs.Common.{rules, ◌≡◌, ◌<◌, set, refl, arith, ◌∙◌, sym}
use Rattle.anchor_word.specs.declared.anchor.State.TheVariants.{Full}
use Rattle.heap_model.specs.Geometry.{lists}
use Rattle.block_heap.specs.MediumView.{medium_view}
use Rattle.block_heap.specs.Accounts.{AreAccounted}
use Rattle.block_heap.specs.Parts.{parts_of}
use Rattle.block_heap.specs.Running.{IsRunning}
use Rattle.block_heap.proofs.SmallLemmas.{changed}
use Rattle.block_heap.proofs.PrefixPlaceLemmas.{prefix_anchor, prefix_first, prefix_last, prefix_fits, gave_leaves_held, pushed_leaves_held}
use Rattle.block_heap.proofs.FlushLemmas.{gave_running, gave_accounted}
use Rattle.block_heap.proofs.ListedPrefixLemmas.{pushed_all, all_accounted, pushed_some, some_accounted}
use Rattle.block_heap.specs.Returns.{GivesPrefix, GivesTo}
use Rattle.block_heap.proofs.BlockRunLemmas.{gave_prefix, all_prefix, some_prefix}
use Rattle.block_heap.proofs.ReturnLemmas.{gave_to, all_to, some_to}
use Rattle.block_heap.proofs.AccountLemmas.{gives_back}
use Rattle.block_heap.proofs.arena.Arena.give.Goals as goal
use Rattle.block_heap.proofs.arena.Arena.give.Goals.{then-all, else-all}

pub give_blocks-requires-clause-anchor : goal.give_blocks-requires-clause-anchor
give_blocks-requires-clause-anchor g c = prefix_anchor (parts_of c.args.self.now) c.args.class.number c.args.class.is c.requires.running c.args.prefix
    c.requires.prefix

pub give_blocks-requires-clause-first : goal.give_blocks-requires-clause-first
give_blocks-requires-clause-first g c = prefix_first (parts_of c.args.self.now)
    c.args.class.number c.args.class.is c.requires.running c.args.prefix c.requires.prefix

pub give_blocks-requires-clause-last : goal.give_blocks-requires-clause-last
give_blocks-requires-clause-last g c = prefix_last (parts_of c.args.self.now)
    c.args.class.number c.args.class.is c.requires.running c.args.prefix c.requires.prefix

pub give_blocks-requires-clause-fits : goal.give_blocks-requires-clause-fits
give_blocks-requires-clause-fits g c = prefix_fits (parts_of c.args.self.now)
    c.args.class.number c.args.class.is c.requires.running c.args.prefix c.requires.prefix

pub returns-in_err-anchor-clause-leaves_held : goal.returns-in_err-anchor-clause-leaves_held
returns-in_err-anchor-clause-leaves_held g c =
    gave_leaves_held (parts_of c.args.self.now) c.args.class.number c.args.class.is c.requires.running c.args.prefix c.requires.prefix _ refl refl refl
    c.give_blocks.ensures.others

pub returns-in_err-push-clause-leaves_held : goal.returns-in_err-push-clause-leaves_held
returns-in_err-push-clause-leaves_held g c =
    pushed_leaves_held (parts_of c.args.self.now) c.args.class.number c.args.class.is c.requires.running c.args.prefix c.requires.prefix
    (medium_view c.give_blocks.new.self) c.if-all.list _ (let last = c.args.class.is.last in elim c.if-all.branch as (λ _. c.if-all.list < lists)
    [ then-all w ↦ let e = w.list-is in omega arith | else-all w ↦ let e = w.list-is in omega arith ])
    refl refl refl c.give_blocks.ensures.others c.push.ensures.others

pub returns-in_ok-push-clause-running : goal.returns-in_ok-push-clause-running
returns-in_ok-push-clause-running g c =
    let p = parts_of c.args.self.now in
    let all = c.blocks_of.ensures in
    let same = c.eq.ensures in
    let full : c.in_ok-anchor.anchor.state ≡ Full = search rules in
    elim c.if-all.branch as (λ _. IsRunning (changed p (medium_view c.push.new.self)
    (set p.caches c.args.class.number c.args.prefix.rest) c.args.self.now.held)) [
      | then-all w ↦
          pushed_all p c.args.class.number c.args.class.is c.requires.running c.args.prefix c.requires.prefix
          (medium_view c.give_blocks.new.self) c.in_ok-anchor.anchor
          c.in_ok-anchor.ensures.ok c.give_blocks.ensures.others full c.if-all.list (medium_view c.push.new.self) c.in_ok-push.ensures.ok
          c.push.ensures.others
          (let e = w.if-all.true in omega arith) w.list-is
      | else-all w ↦
          pushed_some p c.args.class.number c.args.class.is c.requires.running c.args.prefix c.requires.prefix
          (medium_view c.give_blocks.new.self) c.in_ok-anchor.anchor
          c.in_ok-anchor.ensures.ok c.give_blocks.ensures.others full c.if-all.list (medium_view c.push.new.self) c.in_ok-push.ensures.ok
          c.push.ensures.others
          (let e = w.if-all.false in λ f. e (f ∙ sym all)) w.list-is
    ]

pub returns-in_ok-push-clause-leaves_held : goal.returns-in_ok-push-clause-leaves_held
returns-in_ok-push-clause-leaves_held g c =
    pushed_leaves_held (parts_of c.args.self.now) c.args.class.number c.args.class.is c.requires.running c.args.prefix c.requires.prefix
    (medium_view c.give_blocks.new.self) c.if-all.list _ (let last = c.args.class.is.last in elim c.if-all.branch as (λ _. c.if-all.list < lists)
    [ then-all w ↦ let e = w.list-is in omega arith | else-all w ↦ let e = w.list-is in omega arith ])
    refl refl refl c.give_blocks.ensures.others c.push.ensures.others

pub returns-else-eq-clause-running : goal.returns-else-eq-clause-running
returns-else-eq-clause-running g c =
    gave_running (parts_of c.args.self.now) c.args.class.number c.args.class.is c.requires.running c.args.prefix c.requires.prefix
    (medium_view c.give_blocks.new.self) c.in_ok-anchor.anchor
    c.in_ok-anchor.ensures.ok c.give_blocks.ensures.others (λ e. search rules)

pub returns-else-eq-clause-leaves_held : goal.returns-else-eq-clause-leaves_held
returns-else-eq-clause-leaves_held g c =
    gave_leaves_held (parts_of c.args.self.now) c.args.class.number c.args.class.is c.requires.running c.args.prefix c.requires.prefix _ refl refl refl
    c.give_blocks.ensures.others

pub returns-in_ok-push-clause-gives : goal.returns-in_ok-push-clause-gives
returns-in_ok-push-clause-gives g c =
    let p = parts_of c.args.self.now in
    let all = c.blocks_of.ensures in
    let same = c.eq.ensures in
    let full : c.in_ok-anchor.anchor.state ≡ Full = search rules in
    gives_back p c.args.class.number c.args.prefix (medium_view c.push.new.self) c.args.class.is c.requires.running
    (elim c.if-all.branch as (λ _. AreAccounted p → AreAccounted (changed p (medium_view c.push.new.self)
    (set p.caches c.args.class.number c.args.prefix.rest) c.args.self.now.held)) [
      | then-all w ↦
          all_accounted p c.args.class.number c.args.class.is c.requires.running c.args.prefix c.requires.prefix
          (medium_view c.give_blocks.new.self) c.in_ok-anchor.anchor
          c.in_ok-anchor.ensures.ok c.give_blocks.ensures.others full c.if-all.list (medium_view c.push.new.self) c.in_ok-push.ensures.ok
          c.push.ensures.others
          (let e = w.if-all.true in omega arith) w.list-is
      | else-all w ↦
          some_accounted p c.args.class.number c.args.class.is c.requires.running c.args.prefix c.requires.prefix
          (medium_view c.give_blocks.new.self) c.in_ok-anchor.anchor
          c.in_ok-anchor.ensures.ok c.give_blocks.ensures.others full c.if-all.list (medium_view c.push.new.self) c.in_ok-push.ensures.ok
          c.push.ensures.others
          (let e = w.if-all.false in λ f. e (f ∙ sym all)) w.list-is
    ])

pub returns-else-eq-clause-gives : goal.returns-else-eq-clause-gives
returns-else-eq-clause-gives g c =
    gives_back (parts_of c.args.self.now) c.args.class.number c.args.prefix (medium_view c.give_blocks.new.self) c.args.class.is c.requires.running
    (gave_accounted (parts_of c.args.self.now) c.args.class.number c.args.class.is c.requires.running c.args.prefix c.requires.prefix
    (medium_view c.give_blocks.new.self) c.in_ok-anchor.anchor
    c.in_ok-anchor.ensures.ok c.give_blocks.ensures.others (λ e. search rules))

pub returns-in_ok-push-clause-order : goal.returns-in_ok-push-clause-order
returns-in_ok-push-clause-order g c =
    let p = parts_of c.args.self.now in
    let all = c.blocks_of.ensures in
    let same = c.eq.ensures in
    let full : c.in_ok-anchor.anchor.state ≡ Full = search rules in
    elim c.if-all.branch as (λ _. GivesTo c.args.class.number c.args.prefix p
    (changed p (medium_view c.push.new.self) (set p.caches c.args.class.number c.args.prefix.rest) c.args.self.now.held)) [
      | then-all w ↦
          all_to p c.args.class.number c.args.class.is c.requires.running c.args.prefix c.requires.prefix
          (medium_view c.give_blocks.new.self) c.in_ok-anchor.anchor
          c.in_ok-anchor.ensures.ok c.give_blocks.ensures.others full c.if-all.list (medium_view c.push.new.self) c.in_ok-push.ensures.ok
          c.push.ensures.others
          (let e = w.if-all.true in omega arith) w.list-is
      | else-all w ↦
          some_to p c.args.class.number c.args.class.is c.requires.running c.args.prefix c.requires.prefix
          (medium_view c.give_blocks.new.self) c.in_ok-anchor.anchor
          c.in_ok-anchor.ensures.ok c.give_blocks.ensures.others full c.if-all.list (medium_view c.push.new.self) c.in_ok-push.ensures.ok
          c.push.ensures.others
          (let e = w.if-all.false in λ f. e (f ∙ sym all)) w.list-is
    ]

pub returns-else-eq-clause-order : goal.returns-else-eq-clause-order
returns-else-eq-clause-order g c =
    gave_to (parts_of c.args.self.now) c.args.class.number c.args.class.is c.requires.running c.args.prefix c.requires.prefix
    (medium_view c.give_blocks.new.self) c.in_ok-anchor.anchor
    c.in_ok-anchor.ensures.ok c.give_blocks.ensures.others (λ e. search rules)

pub returns-in_ok-push-clause-in_front : goal.returns-in_ok-push-clause-in_front
returns-in_ok-push-clause-in_front g c =
    let p = parts_of c.args.self.now in
    let all = c.blocks_of.ensures in
    let same = c.eq.ensures in
    let full : c.in_ok-anchor.anchor.state ≡ Full = search rules in
    elim c.if-all.branch as (λ _. GivesPrefix c.args.class.number c.args.prefix p
    (changed p (medium_view c.push.new.self) (set p.caches c.args.class.number c.args.prefix.rest) c.args.self.now.held)) [
      | then-all w ↦
          all_prefix p c.args.class.number c.args.class.is c.requires.running c.args.prefix c.requires.prefix
          (medium_view c.give_blocks.new.self) c.in_ok-anchor.anchor
          c.in_ok-anchor.ensures.ok c.give_blocks.ensures.others full c.if-all.list (medium_view c.push.new.self) c.in_ok-push.ensures.ok
          c.push.ensures.others
          (let e = w.if-all.true in omega arith) w.list-is
      | else-all w ↦
          some_prefix p c.args.class.number c.args.class.is c.requires.running c.args.prefix c.requires.prefix
          (medium_view c.give_blocks.new.self) c.in_ok-anchor.anchor
          c.in_ok-anchor.ensures.ok c.give_blocks.ensures.others full c.if-all.list (medium_view c.push.new.self) c.in_ok-push.ensures.ok
          c.push.ensures.others
          (let e = w.if-all.false in λ f. e (f ∙ sym all)) w.list-is
    ]

pub returns-else-eq-clause-in_front : goal.returns-else-eq-clause-in_front
returns-else-eq-clause-in_front g c =
    gave_prefix (parts_of c.args.self.now) c.args.class.number c.args.class.is c.requires.running c.args.prefix c.requires.prefix
    (medium_view c.give_blocks.new.self) c.in_ok-anchor.anchor
    c.in_ok-anchor.ensures.ok c.give_blocks.ensures.others (λ e. search rules)
