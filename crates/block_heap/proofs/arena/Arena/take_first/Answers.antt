use Rattle.std.proofs.Common.{◌<◌, set, refl, arith, ap, ◌∙◌, Some}
use Rattle.heap_model.specs.Geometry.{lists}
use Rattle.block_heap.specs.MediumView.{medium_view}
use Rattle.block_heap.specs.Parts.{parts_of}
use Rattle.block_heap.proofs.RunningLemmas.{is_head}
use Rattle.block_heap.proofs.RefillLemmas.{leaves_held_moved}
use Rattle.block_heap.proofs.PoppedLemmas.{head_moved, emptied, emptied_refilling, emptied_leaves_held, emptied_finds, popped_none}
use Rattle.block_heap.proofs.SpendLemmas.{spends_none}
use Rattle.block_heap.proofs.TakeLemmas.{first_within, first_anchor, take_moved, taken_some, taken_refilling, taken_leaves_held, taken_spends, first_looked, taken_all}
use Rattle.block_heap.proofs.RecycledLemmas.{recycled_leaves_held, recycled_refilling, recycled_first, recycled_spends, recycled_moves}
use Rattle.block_heap.proofs.LookLemmas.{looks_kept}
use Rattle.block_heap.proofs.arena.Arena.take_first.Goals as goal

pub pop-requires-clause-head : goal.pop-requires-clause-head
pop-requires-clause-head g c = is_head (parts_of c.args.self.now) c.args.class.number c.requires.running (let last = c.args.class.is.last in
    omega arith)

pub returns-in_err-popped-clause-leaves_held : goal.returns-in_err-popped-clause-leaves_held
returns-in_err-popped-clause-leaves_held g c =
    let p = parts_of c.args.self.now in
    leaves_held_moved p (record p { words = medium_view c.pop.new.self }) c.requires.running
    (head_moved p.capacity c.args.class.number p.words (medium_view c.pop.new.self) (let last = c.args.class.is.last in
    omega arith) c.pop.ensures.others) refl
    refl refl (looks_kept p (record p { words = medium_view c.pop.new.self }) refl)

pub returns-in_default-clause-refilling : goal.returns-in_default-clause-refilling
returns-in_default-clause-refilling g c =
    emptied_refilling (parts_of c.args.self.now) c.args.class.number c.args.class.number c.in_ok-popped.popped
    (medium_view c.pop.new.self) c.by.result c.requires.running
    (let last = c.args.class.is.last in omega arith) c.in_ok-popped.ensures.ok c.pop.ensures.others c.in_default.is

pub returns-in_default-clause-leaves_held : goal.returns-in_default-clause-leaves_held
returns-in_default-clause-leaves_held g c =
    emptied_leaves_held (parts_of c.args.self.now) c.args.class.number c.args.class.number c.in_ok-popped.popped
    (medium_view c.pop.new.self) c.by.result c.requires.running
    (let last = c.args.class.is.last in omega arith) c.in_ok-popped.ensures.ok c.pop.ensures.others c.in_default.is
    (record { by = c.by.ensures.ticket ∙ ap Some c.next_ticket-ticket.ensures; taken = c.by.ensures.taken })

pub take_blocks-requires-clause-superblock : goal.take_blocks-requires-clause-superblock
take_blocks-requires-clause-superblock g c =
    first_within (parts_of c.args.self.now) c.args.class.number c.in-Some.d c.in_ok-popped.popped
    (medium_view c.pop.new.self) c.by.result c.requires.running
    c.args.class.is c.in_ok-popped.ensures.ok c.pop.ensures.others c.in-Some.is

pub take_blocks-requires-clause-anchor : goal.take_blocks-requires-clause-anchor
take_blocks-requires-clause-anchor g c =
    first_anchor (parts_of c.args.self.now) c.args.class.number c.in-Some.d c.in_ok-popped.popped
    (medium_view c.pop.new.self) c.by.result c.requires.running
    c.args.class.is c.in_ok-popped.ensures.ok c.pop.ensures.others c.in-Some.is

pub returns-in_err-cache-clause-leaves_held : goal.returns-in_err-cache-clause-leaves_held
returns-in_err-cache-clause-leaves_held g c =
    let p = parts_of c.args.self.now in
    leaves_held_moved p (record p { words = medium_view c.take_blocks.new.self; head_looks = set p.head_looks c.args.class.number c.by.result })
    c.requires.running
    (take_moved (parts_of c.args.self.now) c.args.class.number c.in-Some.d c.in_ok-popped.popped
    (medium_view c.pop.new.self) c.by.result c.requires.running
    c.args.class.is c.in_ok-popped.ensures.ok c.pop.ensures.others c.in-Some.is
    (medium_view c.take_blocks.new.self) c.take_blocks.ensures.others) refl refl refl
    (first_looked p c.args.class.number c.in-Some.d c.in_ok-popped.popped (medium_view c.pop.new.self) c.by.result c.requires.running
    c.args.class.is c.in_ok-popped.ensures.ok c.pop.ensures.others c.in-Some.is
    (record p { words = medium_view c.take_blocks.new.self; head_looks = set p.head_looks c.args.class.number c.by.result })
    (record { by = c.by.ensures.ticket ∙ ap Some c.next_ticket-ticket.ensures; taken = c.by.ensures.taken }) c.take_blocks.ensures.others.drawn
    (omega arith) refl refl)

pub returns-in-Some-2-clause-ok : goal.returns-in-Some-2-clause-ok
returns-in-Some-2-clause-ok g c =
    taken_some (parts_of c.args.self.now) c.args.class.number c.in-Some.d c.in_ok-popped.popped
    (medium_view c.pop.new.self) c.by.result c.requires.running
    c.args.class.is c.in_ok-popped.ensures.ok c.pop.ensures.others c.in-Some.is
    (medium_view c.take_blocks.new.self) c.take_blocks.ensures.others c.in-Some-2.cache c.in_ok-cache.field-0 c.in-Some-2.is c.requires.empty
    c.in_ok-cache.ensures.ok

pub returns-in-Some-2-clause-refilling : goal.returns-in-Some-2-clause-refilling
returns-in-Some-2-clause-refilling g c =
    taken_refilling (parts_of c.args.self.now) c.args.class.number c.in-Some.d c.in_ok-popped.popped
    (medium_view c.pop.new.self) c.by.result c.requires.running
    c.args.class.is c.in_ok-popped.ensures.ok c.pop.ensures.others c.in-Some.is
    (medium_view c.take_blocks.new.self) c.take_blocks.ensures.others c.in-Some-2.cache c.in_ok-cache.field-0 c.in-Some-2.is c.requires.empty
    c.in_ok-cache.ensures.ok

pub returns-in-Some-2-clause-leaves_held : goal.returns-in-Some-2-clause-leaves_held
returns-in-Some-2-clause-leaves_held g c =
    taken_leaves_held (parts_of c.args.self.now) c.args.class.number c.in-Some.d c.in_ok-popped.popped
    (medium_view c.pop.new.self) c.by.result c.requires.running
    c.args.class.is c.in_ok-popped.ensures.ok c.pop.ensures.others c.in-Some.is
    (medium_view c.take_blocks.new.self) c.take_blocks.ensures.others c.in-Some-2.cache c.in_ok-cache.field-0 c.in-Some-2.is c.requires.empty
    c.in_ok-cache.ensures.ok
    (record { by = c.by.ensures.ticket ∙ ap Some c.next_ticket-ticket.ensures; taken = c.by.ensures.taken })

pub push-requires-clause-descriptor : goal.push-requires-clause-descriptor
push-requires-clause-descriptor g c =
    first_within (parts_of c.args.self.now) c.args.class.number c.in-Some.d c.in_ok-popped.popped
    (medium_view c.pop.new.self) c.by.result c.requires.running
    c.args.class.is c.in_ok-popped.ensures.ok c.pop.ensures.others c.in-Some.is

pub returns-in_err-push-clause-leaves_held : goal.returns-in_err-push-clause-leaves_held
returns-in_err-push-clause-leaves_held g c =
    recycled_leaves_held (parts_of c.args.self.now) c.args.class.number c.in-Some.d c.in_ok-popped.popped
    (medium_view c.pop.new.self) c.by.result c.requires.running
    c.args.class.is c.in_ok-popped.ensures.ok c.pop.ensures.others c.in-Some.is
    (medium_view c.take_blocks.new.self) c.take_blocks.ensures.others (medium_view c.push.new.self) c.push.ensures.others
    (record { by = c.by.ensures.ticket ∙ ap Some c.next_ticket-ticket.ensures; taken = c.by.ensures.taken })

pub returns-clause-ok : goal.returns-clause-ok
returns-clause-ok g c = (
  c.requires.empty,
  recycled_first (parts_of c.args.self.now) c.args.class.number c.in-Some.d c.in_ok-popped.popped (medium_view c.pop.new.self) c.by.result
      c.requires.running c.args.class.is c.in_ok-popped.ensures.ok c.pop.ensures.others c.in-Some.is
      (medium_view c.take_blocks.new.self) c.take_blocks.ensures.others (medium_view c.push.new.self) c.push.ensures.others c.in_ok-cache.field-0
      c.in_default-2.is c.in_ok-cache.ensures.ok c.in_ok-push.ensures.ok,
  refl,
)

pub returns-clause-refilling : goal.returns-clause-refilling
returns-clause-refilling g c =
    recycled_refilling (parts_of c.args.self.now) c.args.class.number c.in-Some.d c.in_ok-popped.popped
    (medium_view c.pop.new.self) c.by.result c.requires.running
    c.args.class.is c.in_ok-popped.ensures.ok c.pop.ensures.others c.in-Some.is
    (medium_view c.take_blocks.new.self) c.take_blocks.ensures.others (medium_view c.push.new.self) c.push.ensures.others c.in_ok-cache.field-0
    c.in_default-2.is c.in_ok-cache.ensures.ok c.in_ok-push.ensures.ok

pub returns-clause-leaves_held : goal.returns-clause-leaves_held
returns-clause-leaves_held g c =
    recycled_leaves_held (parts_of c.args.self.now) c.args.class.number c.in-Some.d c.in_ok-popped.popped
    (medium_view c.pop.new.self) c.by.result c.requires.running
    c.args.class.is c.in_ok-popped.ensures.ok c.pop.ensures.others c.in-Some.is
    (medium_view c.take_blocks.new.self) c.take_blocks.ensures.others (medium_view c.push.new.self) c.push.ensures.others
    (record { by = c.by.ensures.ticket ∙ ap Some c.next_ticket-ticket.ensures; taken = c.by.ensures.taken })

pub returns-in_default-clause-left : goal.returns-in_default-clause-left
returns-in_default-clause-left g c =
    let p = parts_of c.args.self.now in
    let below : c.args.class.number < lists = let last = c.args.class.is.last in omega arith in
    spends_none c.args.class.number p (emptied p c.args.class.number c.args.class.number c.in_ok-popped.popped
    (medium_view c.pop.new.self) c.by.result c.requires.running below
    c.in_ok-popped.ensures.ok c.pop.ensures.others c.in_default.is) refl
    (popped_none p c.args.class.number c.in_ok-popped.popped (medium_view c.pop.new.self) c.requires.running below
    c.in_ok-popped.ensures.ok c.pop.ensures.others c.in_default.is).1

pub returns-in-Some-2-clause-left : goal.returns-in-Some-2-clause-left
returns-in-Some-2-clause-left g c =
    taken_spends (parts_of c.args.self.now) c.args.class.number c.in-Some.d c.in_ok-popped.popped
    (medium_view c.pop.new.self) c.by.result c.requires.running
    c.args.class.is c.in_ok-popped.ensures.ok c.pop.ensures.others c.in-Some.is
    (medium_view c.take_blocks.new.self) c.take_blocks.ensures.others c.in-Some-2.cache c.in_ok-cache.field-0 c.in-Some-2.is c.requires.empty
    c.in_ok-cache.ensures.ok

pub returns-clause-left : goal.returns-clause-left
returns-clause-left g c =
    recycled_spends (parts_of c.args.self.now) c.args.class.number c.in-Some.d c.in_ok-popped.popped
    (medium_view c.pop.new.self) c.by.result c.requires.running
    c.args.class.is c.in_ok-popped.ensures.ok c.pop.ensures.others c.in-Some.is
    (medium_view c.take_blocks.new.self) c.take_blocks.ensures.others (medium_view c.push.new.self) c.push.ensures.others c.in_ok-cache.field-0
    c.in_default-2.is c.in_ok-cache.ensures.ok c.in_ok-push.ensures.ok

pub returns-in_default-clause-order : goal.returns-in_default-clause-order
returns-in_default-clause-order g c = tt

pub returns-in-Some-2-clause-order : goal.returns-in-Some-2-clause-order
returns-in-Some-2-clause-order g c = (
  c.in-Some.d,
  taken_all (parts_of c.args.self.now) c.args.class.number c.in-Some.d c.in_ok-popped.popped (medium_view c.pop.new.self) c.by.result c.requires.running
      c.args.class.is c.in_ok-popped.ensures.ok c.pop.ensures.others c.in-Some.is
      (medium_view c.take_blocks.new.self) c.take_blocks.ensures.others c.in-Some-2.cache c.in_ok-cache.field-0 c.in-Some-2.is c.requires.empty
      c.in_ok-cache.ensures.ok,
)

pub returns-clause-order : goal.returns-clause-order
returns-clause-order g c =
    recycled_moves (parts_of c.args.self.now) c.args.class.number c.in-Some.d c.in_ok-popped.popped
    (medium_view c.pop.new.self) c.by.result c.requires.running
    c.args.class.is c.in_ok-popped.ensures.ok c.pop.ensures.others c.in-Some.is
    (medium_view c.take_blocks.new.self) c.take_blocks.ensures.others (medium_view c.push.new.self) c.push.ensures.others c.in_ok-cache.field-0
    c.in_default-2.is c.in_ok-cache.ensures.ok c.in_ok-push.ensures.ok

pub returns-in_default-clause-ok : goal.returns-in_default-clause-ok
returns-in_default-clause-ok g c = (
  c.requires.empty,
  emptied_finds (parts_of c.args.self.now) c.args.class.number c.args.class.number c.in_ok-popped.popped (medium_view c.pop.new.self) c.by.result
      c.requires.running (let last = c.args.class.is.last in omega arith) c.in_ok-popped.ensures.ok c.pop.ensures.others c.in_default.is
      (c.in_ok-popped.ensures.one_look c.in_default.is)
      (record { by = c.by.ensures.ticket ∙ ap Some c.next_ticket-ticket.ensures; taken = c.by.ensures.taken }) c.by.ensures.seen,
  refl,
)
