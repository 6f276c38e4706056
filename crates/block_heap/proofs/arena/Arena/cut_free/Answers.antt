use Rattle.std.proofs.Common.{refl, arith, ap, ◌∙◌, Some}
use Rattle.block_heap.specs.MediumView.{medium_view}
use Rattle.block_heap.specs.Parts.{parts_of}
use Rattle.block_heap.proofs.RunningLemmas.{is_head}
use Rattle.block_heap.proofs.RefillLemmas.{leaves_held_moved}
use Rattle.block_heap.proofs.PoppedLemmas.{head_moved, emptied_refilling, emptied, emptied_leaves_held, emptied_finds, popped_none}
use Rattle.block_heap.proofs.SpendLemmas.{spends_none}
use Rattle.block_heap.proofs.CutLemmas.{unmarked}
use Rattle.block_heap.proofs.CutFreeLemmas.{free_within, free_none, free_leaves_held, free_refilling, free_found, free_spends, free_cuts}
use Rattle.block_heap.proofs.LookLemmas.{looks_kept}
use Rattle.block_heap.proofs.arena.Arena.cut_free.Goals as goal

pub pop-requires-clause-head : goal.pop-requires-clause-head
pop-requires-clause-head g c =
    is_head (parts_of c.args.self.now) 0 c.requires.running (omega arith)

pub returns-in_err-popped-clause-leaves_held : goal.returns-in_err-popped-clause-leaves_held
returns-in_err-popped-clause-leaves_held g c =
    let p = parts_of c.args.self.now in
    leaves_held_moved p (record p { words = medium_view c.pop.new.self }) c.requires.running
    (head_moved p.capacity 0 p.words (medium_view c.pop.new.self) (omega arith) c.pop.ensures.others) refl refl refl
    (looks_kept p (record p { words = medium_view c.pop.new.self }) refl)

pub returns-in_default-clause-refilling : goal.returns-in_default-clause-refilling
returns-in_default-clause-refilling g c =
    emptied_refilling (parts_of c.args.self.now) c.args.class.number 0 c.in_ok-popped.popped
    (medium_view c.pop.new.self) c.by.result c.requires.running (omega arith)
    c.in_ok-popped.ensures.ok c.pop.ensures.others c.in_default.is

pub returns-in_default-clause-leaves_held : goal.returns-in_default-clause-leaves_held
returns-in_default-clause-leaves_held g c =
    emptied_leaves_held (parts_of c.args.self.now) c.args.class.number 0 c.in_ok-popped.popped
    (medium_view c.pop.new.self) c.by.result c.requires.running (omega arith)
    c.in_ok-popped.ensures.ok c.pop.ensures.others c.in_default.is
    (record { by = c.by.ensures.ticket ∙ ap Some c.next_ticket-ticket.ensures; taken = c.by.ensures.taken })

pub cut-requires-clause-superblock : goal.cut-requires-clause-superblock
cut-requires-clause-superblock g c =
    free_within (parts_of c.args.self.now) c.args.class.number c.in-Some.d c.in_ok-popped.popped
    (medium_view c.pop.new.self) c.by.result c.requires.running
    c.args.class.is c.in_ok-popped.ensures.ok c.pop.ensures.others c.in-Some.is

pub cut-requires-clause-none : goal.cut-requires-clause-none
cut-requires-clause-none g c =
    unmarked (parts_of c.args.self.now) c.in-Some.d c.requires.running
    (free_none (parts_of c.args.self.now) c.args.class.number c.in-Some.d c.in_ok-popped.popped
    (medium_view c.pop.new.self) c.by.result c.requires.running
    c.args.class.is c.in_ok-popped.ensures.ok c.pop.ensures.others c.in-Some.is)

pub returns-in_err-cut-clause-leaves_held : goal.returns-in_err-cut-clause-leaves_held
returns-in_err-cut-clause-leaves_held g c =
    free_leaves_held (parts_of c.args.self.now) c.args.class.number c.in-Some.d c.in_ok-popped.popped
    (medium_view c.pop.new.self) c.by.result c.requires.running
    c.args.class.is c.in_ok-popped.ensures.ok c.pop.ensures.others c.in-Some.is
    (parts_of c.cut.new.self) c.cut.ensures.others c.cut.ensures.same
    (record { by = c.by.ensures.ticket ∙ ap Some c.next_ticket-ticket.ensures; taken = c.by.ensures.taken })

pub returns-clause-ok : goal.returns-clause-ok
returns-clause-ok g c =
    free_found (parts_of c.args.self.now) c.args.class.number c.in-Some.d c.in_ok-popped.popped
    (medium_view c.pop.new.self) c.by.result c.requires.running
    c.args.class.is c.in_ok-popped.ensures.ok c.pop.ensures.others c.in-Some.is
    (parts_of c.cut.new.self) c.cut.ensures.others c.cut.ensures.same c.requires.empty c.in_ok-cut.ensures.ok

pub returns-clause-refilling : goal.returns-clause-refilling
returns-clause-refilling g c =
    free_refilling (parts_of c.args.self.now) c.args.class.number c.in-Some.d c.in_ok-popped.popped
    (medium_view c.pop.new.self) c.by.result c.requires.running
    c.args.class.is c.in_ok-popped.ensures.ok c.pop.ensures.others c.in-Some.is
    (parts_of c.cut.new.self) c.cut.ensures.others c.cut.ensures.same c.requires.empty c.in_ok-cut.ensures.ok

pub returns-clause-leaves_held : goal.returns-clause-leaves_held
returns-clause-leaves_held g c =
    free_leaves_held (parts_of c.args.self.now) c.args.class.number c.in-Some.d c.in_ok-popped.popped
    (medium_view c.pop.new.self) c.by.result c.requires.running
    c.args.class.is c.in_ok-popped.ensures.ok c.pop.ensures.others c.in-Some.is
    (parts_of c.cut.new.self) c.cut.ensures.others c.cut.ensures.same
    (record { by = c.by.ensures.ticket ∙ ap Some c.next_ticket-ticket.ensures; taken = c.by.ensures.taken })

pub returns-in_default-clause-left : goal.returns-in_default-clause-left
returns-in_default-clause-left g c =
    let p = parts_of c.args.self.now in
    spends_none c.args.class.number p (emptied p c.args.class.number 0 c.in_ok-popped.popped
    (medium_view c.pop.new.self) c.by.result c.requires.running (omega arith)
    c.in_ok-popped.ensures.ok c.pop.ensures.others c.in_default.is) refl
    (popped_none p 0 c.in_ok-popped.popped (medium_view c.pop.new.self) c.requires.running (omega arith) c.in_ok-popped.ensures.ok c.pop.ensures.others
    c.in_default.is).1

pub returns-clause-left : goal.returns-clause-left
returns-clause-left g c =
    free_spends (parts_of c.args.self.now) c.args.class.number c.in-Some.d c.in_ok-popped.popped
    (medium_view c.pop.new.self) c.by.result c.requires.running
    c.args.class.is c.in_ok-popped.ensures.ok c.pop.ensures.others c.in-Some.is
    (parts_of c.cut.new.self) c.cut.ensures.others c.cut.ensures.same c.requires.empty c.in_ok-cut.ensures.ok

pub returns-in_default-clause-order : goal.returns-in_default-clause-order
returns-in_default-clause-order g c = tt

pub returns-clause-order : goal.returns-clause-order
returns-clause-order g c = (
  c.in-Some.d,
  free_cuts (parts_of c.args.self.now) c.args.class.number c.in-Some.d c.in_ok-popped.popped (medium_view c.pop.new.self) c.by.result c.requires.running
      c.args.class.is c.in_ok-popped.ensures.ok c.pop.ensures.others c.in-Some.is
      (parts_of c.cut.new.self) c.cut.ensures.others c.cut.ensures.same c.requires.empty c.in_ok-cut.ensures.ok,
)

pub returns-in_default-clause-ok : goal.returns-in_default-clause-ok
returns-in_default-clause-ok g c = (
  c.requires.empty,
  emptied_finds (parts_of c.args.self.now) c.args.class.number 0 c.in_ok-popped.popped (medium_view c.pop.new.self) c.by.result
      c.requires.running (omega arith) c.in_ok-popped.ensures.ok c.pop.ensures.others c.in_default.is
      (c.in_ok-popped.ensures.one_look c.in_default.is)
      (record { by = c.by.ensures.ticket ∙ ap Some c.next_ticket-ticket.ensures; taken = c.by.ensures.taken }) c.by.ensures.seen,
  c.in_ok-popped.ensures.ok.runs_within.few,
)
