use Rattle.heap_model.specs.Geometry.{largest_capacity_fits}
use Rattle.std.proofs.Common.{arith, ap, ◌∙◌, Some}
use Rattle.block_heap.specs.Parts.{parts_of}
use Rattle.block_heap.specs.MediumView.{medium_view}
use Rattle.block_heap.proofs.NoRoomLemmas.{running_looked, leaves_held_looked, looked_accounted, looked_joins}
use Rattle.block_heap.proofs.AllocLargeLemmas.{large_stops, taken_fits, fresh_unmarked, join_leaves_held, join_running, join_answers, join_accounted}
use Rattle.block_heap.proofs.arena.Arena.alloc_large.Goals as goal

pub returns-in_default-clause-running : goal.returns-in_default-clause-running
returns-in_default-clause-running g c =
    running_looked (parts_of c.args.self.now) c.args.count c.in_ok-fresh.fresh (medium_view c.take_fresh.new.self) c.by-self.result
    c.requires.running c.in_ok-fresh.ensures.ok c.in_default.is c.by-self.ensures.seen c.by-self.ensures.taken

pub overflow_add-self : goal.overflow_add-self
overflow_add-self g c =
    let few = taken_fits (parts_of c.args.self.now) c.args.count c.in-Some.d c.in_ok-fresh.fresh (medium_view c.take_fresh.new.self) c.by-self.result
    c.requires.running c.in_ok-fresh.ensures.ok c.in-Some.is in
    omega (arith, largest_capacity_fits)

pub returns-in_err-join-clause-leaves_held : goal.returns-in_err-join-clause-leaves_held
returns-in_err-join-clause-leaves_held g c =
    join_leaves_held (parts_of c.args.self.now) c.args.count c.in-Some.d c.in_ok-fresh.fresh (medium_view c.take_fresh.new.self) c.by-self.result
    c.requires.running c.in_ok-fresh.ensures.ok c.in-Some.is (medium_view c.join.new.self)
    c.requires.some c.take_fresh.ensures.others c.take_fresh.ensures.crash c.take_fresh.ensures.fits
    c.by-self.ensures.seen c.by-self.ensures.taken c.join.ensures.others c.args.self.now.held
    (record { by = c.by-self.ensures.ticket ∙ ap Some c.next_ticket-ticket.ensures; taken = c.by-self.ensures.taken })

pub divide-requires-clause-none : goal.divide-requires-clause-none
divide-requires-clause-none g c =
    fresh_unmarked (parts_of c.args.self.now) c.args.count c.in-Some.d c.in_ok-fresh.fresh (medium_view c.take_fresh.new.self) c.by-self.result
    c.requires.running c.in_ok-fresh.ensures.ok c.in-Some.is

pub returns-clause-leaves_held : goal.returns-clause-leaves_held
returns-clause-leaves_held g c =
    join_leaves_held (parts_of c.args.self.now) c.args.count c.in-Some.d c.in_ok-fresh.fresh (medium_view c.take_fresh.new.self) c.by-self.result
    c.requires.running c.in_ok-fresh.ensures.ok c.in-Some.is (medium_view c.join.new.self)
    c.requires.some c.take_fresh.ensures.others c.take_fresh.ensures.crash c.take_fresh.ensures.fits
    c.by-self.ensures.seen c.by-self.ensures.taken c.join.ensures.others c.add.new.self
    (record { by = c.by-self.ensures.ticket ∙ ap Some c.next_ticket-ticket.ensures; taken = c.by-self.ensures.taken })

pub returns-clause-ok : goal.returns-clause-ok
returns-clause-ok g c =
    join_answers (parts_of c.args.self.now) c.args.count c.in-Some.d c.in_ok-fresh.fresh (medium_view c.take_fresh.new.self) c.by-self.result
    c.requires.running c.in_ok-fresh.ensures.ok c.in-Some.is (medium_view c.join.new.self)
    c.requires.some c.take_fresh.ensures.others c.take_fresh.ensures.crash c.take_fresh.ensures.fits
    c.by-self.ensures.seen c.by-self.ensures.taken c.join.ensures.others c.divide.new.self c.add.new.self c.start-first_word.result
    c.in_ok-join.ensures.ok
    c.divide.ensures.held c.divide.ensures.words c.divide.ensures.start c.start-first_word.ensures c.add.ensures.held c.add.ensures.words
    c.add.ensures.start
    c.at.result c.at.ensures

pub returns-clause-running : goal.returns-clause-running
returns-clause-running g c =
    join_running (parts_of c.args.self.now) c.args.count c.in-Some.d c.in_ok-fresh.fresh (medium_view c.take_fresh.new.self) c.by-self.result
    c.requires.running c.in_ok-fresh.ensures.ok c.in-Some.is (medium_view c.join.new.self)
    c.requires.some c.take_fresh.ensures.others c.take_fresh.ensures.crash c.take_fresh.ensures.fits
    c.by-self.ensures.seen c.by-self.ensures.taken c.join.ensures.others c.divide.new.self c.add.new.self c.start-first_word.result
    c.in_ok-join.ensures.ok
    c.divide.ensures.held c.divide.ensures.words c.divide.ensures.start c.start-first_word.ensures c.add.ensures.held c.add.ensures.words
    c.add.ensures.start

pub returns-in_default-clause-leaves_held : goal.returns-in_default-clause-leaves_held
returns-in_default-clause-leaves_held g c =
    leaves_held_looked (parts_of c.args.self.now) c.args.count c.in_ok-fresh.fresh (medium_view c.take_fresh.new.self) c.by-self.result
    c.requires.running c.in_ok-fresh.ensures.ok c.in_default.is c.by-self.ensures.seen c.by-self.ensures.taken
    (record { by = c.by-self.ensures.ticket ∙ ap Some c.next_ticket-ticket.ensures; taken = c.by-self.ensures.taken })

pub returns-in_default-clause-accounted : goal.returns-in_default-clause-accounted
returns-in_default-clause-accounted g c =
    looked_accounted (parts_of c.args.self.now) c.args.count c.in_ok-fresh.fresh (medium_view c.take_fresh.new.self) c.by-self.result
    c.in_ok-fresh.ensures.ok c.in_default.is

pub returns-clause-accounted : goal.returns-clause-accounted
returns-clause-accounted g c =
    join_accounted (parts_of c.args.self.now) c.args.count c.in-Some.d c.in_ok-fresh.fresh (medium_view c.take_fresh.new.self) c.by-self.result
    c.requires.running c.in_ok-fresh.ensures.ok c.in-Some.is (medium_view c.join.new.self)
    c.requires.some c.take_fresh.ensures.others c.take_fresh.ensures.crash c.take_fresh.ensures.fits
    c.by-self.ensures.seen c.by-self.ensures.taken c.join.ensures.others c.divide.new.self c.add.new.self c.start-first_word.result
    c.in_ok-join.ensures.ok
    c.divide.ensures.held c.divide.ensures.words c.divide.ensures.start c.start-first_word.ensures c.add.ensures.held c.add.ensures.words
    c.add.ensures.start

pub returns-in_err-fresh-clause-leaves_held : goal.returns-in_err-fresh-clause-leaves_held
returns-in_err-fresh-clause-leaves_held g c =
    large_stops (parts_of c.args.self.now) c.args.count (medium_view c.take_fresh.new.self)
    c.requires.running c.take_fresh.ensures.others c.take_fresh.ensures.crash
    c.take_fresh.ensures.fits

pub returns-in_default-clause-ok : goal.returns-in_default-clause-ok
returns-in_default-clause-ok g c =
    looked_joins (parts_of c.args.self.now) c.args.count c.in_ok-fresh.fresh (medium_view c.take_fresh.new.self) c.by-self.result
    c.in_ok-fresh.ensures.ok c.in_default.is c.by-self.ensures.seen
    (record { by = c.by-self.ensures.ticket ∙ ap Some c.next_ticket-ticket.ensures; taken = c.by-self.ensures.taken })
    (c.in_ok-fresh.ensures.one_look c.in_default.is)
