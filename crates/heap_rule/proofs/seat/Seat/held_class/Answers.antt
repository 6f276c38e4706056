use Rattle.std.proofs.Common.{◌-◌, ◌/◌, ◌≡◌, get_or, ap, sym, subst, ◌∙◌, arith}
use Rattle.heap_model.specs.Geometry.{start_word}
use Rattle.heap_model.specs.Sizes.{IsClass}
use Rattle.seat_state.proofs.WordLemmas.{entry_is}
use Rattle.heap_table.specs.SeatViews.{view_in}
use Rattle.heap_rule.specs.Seated.{SeatView}
use Rattle.heap_rule.specs.Shown.{CanFree}
use Rattle.heap_rule.proofs.ShiftLemmas.{free_own, free_class}
use Rattle.seat_index.proofs.ViewBlocks.{block_below, block_range}
use Rattle.heap_rule.proofs.seat.Seat.held_class.Goals as goal

pub superblock_of-d-requires : goal.superblock_of-d-requires
superblock_of-d-requires c =
    let can = subst (λ (s : SeatView). CanFree s.view c.args.block) (sym c.self.view_is) c.requires.can in
    let r = (block_range (view_in c.self.inside.table_seat.me.0) c.self.invariant.seat.kept.has c.args.block
    (free_own (view_in c.self.inside.table_seat.me.0) c.self.invariant.seat.kept.has c.args.block can)).0 in
    let cap = c.self.invariant.seat.capacity_is in omega arith

pub index-class-requires : goal.index-class-requires
index-class-requires c =
    let can = subst (λ (s : SeatView). CanFree s.view c.args.block) (sym c.self.view_is) c.requires.can in
    let below = block_below (view_in c.self.inside.table_seat.me.0) c.self.invariant.seat.kept.has c.args.block
    (free_own (view_in c.self.inside.table_seat.me.0) c.self.invariant.seat.kept.has c.args.block can) in
    let e = c.superblock_of-d.ensures in let cap = c.self.invariant.seat.capacity_is in let l = c.self.invariant.own.classes_long in omega arith

pub overflow_cast-class : goal.overflow_cast-class
overflow_cast-class c = let can = subst (λ (s : SeatView). CanFree s.view c.args.block) (sym c.self.view_is) c.requires.can in
    let is : c.index-class.result.now ≡ can.class =
    let below = block_below (view_in c.self.inside.table_seat.me.0) c.self.invariant.seat.kept.has c.args.block
    (free_own (view_in c.self.inside.table_seat.me.0) c.self.invariant.seat.kept.has c.args.block can) in
    let e = c.superblock_of-d.ensures in let cap = c.self.invariant.seat.capacity_is in let l = c.self.invariant.own.classes_long in
    c.index-class.ensures ∙ entry_is c.self.inside.owned.classes.items c.superblock_of-d.result c.index-class.result.now 0 (omega arith)
    ∙ ap (λ d. get_or c.self.inside.owned.classes.items d 0) (e ∙ ap (λ n. (c.args.block - start_word n 0) / 8192) cap)
    ∙ c.self.invariant.own.classes.held can.class c.args.block can.held in
    let l = (free_class (view_in c.self.inside.table_seat.me.0) c.self.invariant.seat.kept.has c.args.block can).last in omega arith

pub new-requires : goal.new-requires
new-requires c = let can = subst (λ (s : SeatView). CanFree s.view c.args.block) (sym c.self.view_is) c.requires.can in
    let is : c.index-class.result.now ≡ can.class =
    let below = block_below (view_in c.self.inside.table_seat.me.0) c.self.invariant.seat.kept.has c.args.block
    (free_own (view_in c.self.inside.table_seat.me.0) c.self.invariant.seat.kept.has c.args.block can) in
    let e = c.superblock_of-d.ensures in let cap = c.self.invariant.seat.capacity_is in let l = c.self.invariant.own.classes_long in
    c.index-class.ensures ∙ entry_is c.self.inside.owned.classes.items c.superblock_of-d.result c.index-class.result.now 0 (omega arith)
    ∙ ap (λ d. get_or c.self.inside.owned.classes.items d 0) (e ∙ ap (λ n. (c.args.block - start_word n 0) / 8192) cap)
    ∙ c.self.invariant.own.classes.held can.class c.args.block can.held in
    subst IsClass (sym is) (free_class (view_in c.self.inside.table_seat.me.0) c.self.invariant.seat.kept.has c.args.block can)

pub returns : goal.returns
returns c = record {
  class = subst (λ (s : SeatView). (can : CanFree s.view c.args.block) → c.new.result.number ≡ can.class) c.self.view_is
      (λ can. let below = block_below (view_in c.self.inside.table_seat.me.0) c.self.invariant.seat.kept.has c.args.block
      (free_own (view_in c.self.inside.table_seat.me.0) c.self.invariant.seat.kept.has c.args.block can) in
      let e = c.superblock_of-d.ensures in let cap = c.self.invariant.seat.capacity_is in let l = c.self.invariant.own.classes_long in
      c.new.ensures ∙ c.index-class.ensures ∙ entry_is c.self.inside.owned.classes.items
      c.superblock_of-d.result c.index-class.result.now 0 (omega arith)
      ∙ ap (λ d. get_or c.self.inside.owned.classes.items d 0) (e ∙ ap (λ n. (c.args.block - start_word n 0) / 8192) cap)
      ∙ c.self.invariant.own.classes.held can.class c.args.block can.held);
}
