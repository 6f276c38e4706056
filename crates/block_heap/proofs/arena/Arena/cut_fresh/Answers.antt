use Rattle.std.proofs.Common.{arith, ap, ◌∙◌, Some}
use Rattle.block_heap.specs.MediumView.{medium_view}
use Rattle.block_heap.specs.Parts.{parts_of}
use Rattle.block_heap.proofs.CutFreshLemmas.{fresh_stops, none_refilling, none_finds, none_spends, fresh_unmarked, fresh_leaves_held, fresh_refilling, fresh_found, fresh_cuts, fresh_spends}
use Rattle.block_heap.proofs.arena.Arena.cut_fresh.Goals as goal

pub returns-in_err-fresh-clause-leaves_held : goal.returns-in_err-fresh-clause-leaves_held
returns-in_err-fresh-clause-leaves_held g c =
    fresh_stops (parts_of c.args.self.now) (medium_view c.take_fresh.new.self)
    c.requires.running c.take_fresh.ensures.others c.take_fresh.ensures.crash c.take_fresh.ensures.fits

pub returns-in_default-clause-refilling : goal.returns-in_default-clause-refilling
returns-in_default-clause-refilling g c =
    none_refilling (parts_of c.args.self.now) (medium_view c.take_fresh.new.self)
    c.requires.running c.take_fresh.ensures.others c.take_fresh.ensures.crash c.take_fresh.ensures.fits
    c.args.class.number c.in_ok-fresh.fresh c.by-self.result c.in_ok-fresh.ensures.ok
    c.by-self.ensures.seen c.by-self.ensures.taken c.in_default.is

pub overflow_add-self : goal.overflow_add-self
overflow_add-self g c =
    let few = c.requires.running.few in let used = c.requires.running.is.used in let small = c.requires.running.is.small in omega arith

pub cut-requires-clause-none : goal.cut-requires-clause-none
cut-requires-clause-none g c =
    fresh_unmarked (parts_of c.args.self.now) (medium_view c.take_fresh.new.self)
    c.requires.running c.take_fresh.ensures.others c.take_fresh.ensures.crash c.take_fresh.ensures.fits
    c.args.class.number c.in_ok-fresh.fresh c.by-self.result c.in_ok-fresh.ensures.ok
    c.by-self.ensures.seen c.by-self.ensures.taken c.in-Some.d c.in-Some.is

pub returns-in_err-cut-clause-leaves_held : goal.returns-in_err-cut-clause-leaves_held
returns-in_err-cut-clause-leaves_held g c =
    fresh_leaves_held (parts_of c.args.self.now) (medium_view c.take_fresh.new.self)
    c.requires.running c.take_fresh.ensures.others c.take_fresh.ensures.crash c.take_fresh.ensures.fits
    c.args.class.number c.in_ok-fresh.fresh c.by-self.result c.in_ok-fresh.ensures.ok
    c.by-self.ensures.seen c.by-self.ensures.taken c.in-Some.d c.in-Some.is (parts_of c.cut.new.self) c.cut.ensures.others c.cut.ensures.same
    (record { by = c.by-self.ensures.ticket ∙ ap Some c.next_ticket-ticket.ensures; taken = c.by-self.ensures.taken })

pub returns-clause-ok : goal.returns-clause-ok
returns-clause-ok g c =
    fresh_found (parts_of c.args.self.now) (medium_view c.take_fresh.new.self)
    c.requires.running c.take_fresh.ensures.others c.take_fresh.ensures.crash c.take_fresh.ensures.fits
    c.args.class.number c.in_ok-fresh.fresh c.by-self.result c.in_ok-fresh.ensures.ok
    c.by-self.ensures.seen c.by-self.ensures.taken c.in-Some.d c.in-Some.is (parts_of c.cut.new.self) c.cut.ensures.others c.cut.ensures.same
    c.args.class.is c.requires.empty c.in_ok-cut.ensures.ok

pub returns-clause-refilling : goal.returns-clause-refilling
returns-clause-refilling g c =
    fresh_refilling (parts_of c.args.self.now) (medium_view c.take_fresh.new.self)
    c.requires.running c.take_fresh.ensures.others c.take_fresh.ensures.crash c.take_fresh.ensures.fits
    c.args.class.number c.in_ok-fresh.fresh c.by-self.result c.in_ok-fresh.ensures.ok
    c.by-self.ensures.seen c.by-self.ensures.taken c.in-Some.d c.in-Some.is (parts_of c.cut.new.self) c.cut.ensures.others c.cut.ensures.same
    c.args.class.is c.requires.empty c.in_ok-cut.ensures.ok

pub returns-clause-leaves_held : goal.returns-clause-leaves_held
returns-clause-leaves_held g c =
    fresh_leaves_held (parts_of c.args.self.now) (medium_view c.take_fresh.new.self)
    c.requires.running c.take_fresh.ensures.others c.take_fresh.ensures.crash c.take_fresh.ensures.fits
    c.args.class.number c.in_ok-fresh.fresh c.by-self.result c.in_ok-fresh.ensures.ok
    c.by-self.ensures.seen c.by-self.ensures.taken c.in-Some.d c.in-Some.is (parts_of c.cut.new.self) c.cut.ensures.others c.cut.ensures.same
    (record { by = c.by-self.ensures.ticket ∙ ap Some c.next_ticket-ticket.ensures; taken = c.by-self.ensures.taken })

pub returns-in_default-clause-left : goal.returns-in_default-clause-left
returns-in_default-clause-left g c =
    none_spends (parts_of c.args.self.now) (medium_view c.take_fresh.new.self)
    c.requires.running c.take_fresh.ensures.others c.take_fresh.ensures.crash c.take_fresh.ensures.fits
    c.args.class.number c.in_ok-fresh.fresh c.by-self.result c.in_ok-fresh.ensures.ok
    c.by-self.ensures.seen c.by-self.ensures.taken c.in_default.is

pub returns-clause-left : goal.returns-clause-left
returns-clause-left g c =
    fresh_spends (parts_of c.args.self.now) (medium_view c.take_fresh.new.self)
    c.requires.running c.take_fresh.ensures.others c.take_fresh.ensures.crash c.take_fresh.ensures.fits
    c.args.class.number c.in_ok-fresh.fresh c.by-self.result c.in_ok-fresh.ensures.ok
    c.by-self.ensures.seen c.by-self.ensures.taken c.in-Some.d c.in-Some.is (parts_of c.cut.new.self) c.cut.ensures.others c.cut.ensures.same
    c.args.class.is c.requires.empty c.in_ok-cut.ensures.ok

pub returns-in_default-clause-order : goal.returns-in_default-clause-order
returns-in_default-clause-order g c = tt

pub returns-clause-order : goal.returns-clause-order
returns-clause-order g c =
    fresh_cuts (parts_of c.args.self.now) (medium_view c.take_fresh.new.self)
    c.requires.running c.take_fresh.ensures.others c.take_fresh.ensures.crash c.take_fresh.ensures.fits
    c.args.class.number c.in_ok-fresh.fresh c.by-self.result c.in_ok-fresh.ensures.ok
    c.by-self.ensures.seen c.by-self.ensures.taken c.in-Some.d c.in-Some.is (parts_of c.cut.new.self) c.cut.ensures.others c.cut.ensures.same
    c.args.class.is c.requires.empty c.in_ok-cut.ensures.ok

pub returns-in_default-clause-ok : goal.returns-in_default-clause-ok
returns-in_default-clause-ok g c =
    none_finds (parts_of c.args.self.now) (medium_view c.take_fresh.new.self)
    c.requires.running c.take_fresh.ensures.others c.take_fresh.ensures.crash c.take_fresh.ensures.fits
    c.args.class.number c.in_ok-fresh.fresh c.by-self.result c.in_ok-fresh.ensures.ok
    c.by-self.ensures.seen c.by-self.ensures.taken c.in_default.is c.requires.empty
    (record { by = c.by-self.ensures.ticket ∙ ap Some c.next_ticket-ticket.ensures; taken = c.by-self.ensures.taken })
    (c.in_ok-fresh.ensures.one_look c.in_default.is)
