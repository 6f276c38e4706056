use Rattle.std.proofs.Common.{◌≡◌, ◌-◌, ◌/◌, get_or, refl, ap, sym, subst, ◌∙◌, arith}
use Rattle.heap_model.specs.Geometry.{start_word, superblock_of}
use Rattle.core_model.specs.Held.{IsHeld}
use Rattle.seat_state.proofs.WordLemmas.{entry_is}
use Rattle.seat_index.specs.declared.owned.Holding.TheVariants as holding
use Rattle.seat_index.specs.declared.owned.Ownership.TheVariants as ownership
use Rattle.heap_table.specs.SeatViews.{view_in}
use Rattle.seat_index.specs.Holdings.{Holds}
use Rattle.seat_index.specs.Owned.{count_in}
use Rattle.heap_rule.specs.Seated.{SeatView}
use Rattle.heap_rule.proofs.HandedSeats.{is_large, is_small}
use Rattle.seat_index.proofs.OwnedReads.{block_there}
use Rattle.heap_rule.proofs.seat.Seat.holding_of.Goals as goal

pub superblock_of-d-requires : goal.superblock_of-d-requires
superblock_of-d-requires c = let v = view_in c.self.inside.table_seat.me.0 in
    let held = subst (λ (s : SeatView). IsHeld s.view c.args.block) (sym c.self.view_is) c.requires.held in
    let d = superblock_of v.setup.capacity c.args.block.first_word in
    let h = block_there v c.self.invariant.seat.kept.has c.self.inside.owned c.self.invariant.own c.args.block d
    (count_in (get_or c.self.inside.owned.ownerships.items d ownership.Nothing))
    (get_or c.self.inside.owned.ownerships.items d ownership.Nothing) held refl
    (λ less. entry_is c.self.inside.owned.ownerships.items d ownership.Nothing (get_or c.self.inside.owned.ownerships.items d ownership.Nothing)
    (let l = c.self.invariant.own.ownerships_long in omega arith)) refl in
    let f = h.from in let k = c.self.invariant.seat.capacity_is in omega arith

pub index-requires : goal.index-requires
index-requires c = let v = view_in c.self.inside.table_seat.me.0 in
    let held = subst (λ (s : SeatView). IsHeld s.view c.args.block) (sym c.self.view_is) c.requires.held in
    let d = c.superblock_of-d.result in
    let d_is : d ≡ superblock_of v.setup.capacity c.args.block.first_word =
    c.superblock_of-d.ensures ∙ ap (λ n. (c.args.block.first_word - start_word n 0) / 8192) c.self.invariant.seat.capacity_is in
    let h = block_there v c.self.invariant.seat.kept.has c.self.inside.owned c.self.invariant.own c.args.block d
    (count_in (get_or c.self.inside.owned.ownerships.items d ownership.Nothing))
    (get_or c.self.inside.owned.ownerships.items d ownership.Nothing) held d_is
    (λ less. entry_is c.self.inside.owned.ownerships.items d ownership.Nothing (get_or c.self.inside.owned.ownerships.items d ownership.Nothing)
    (let l = c.self.invariant.own.ownerships_long in omega arith)) refl in
    let b = h.below in let l = c.self.invariant.own.ownerships_long in omega arith

pub returns-then-n-gt0 : goal.returns-then-n-gt0
returns-then-n-gt0 c = let v = view_in c.self.inside.table_seat.me.0 in
    let held = subst (λ (s : SeatView). IsHeld s.view c.args.block) (sym c.self.view_is) c.requires.held in
    let d = c.superblock_of-d.result in
    let d_is : d ≡ superblock_of v.setup.capacity c.args.block.first_word =
    c.superblock_of-d.ensures ∙ ap (λ n. (c.args.block.first_word - start_word n 0) / 8192) c.self.invariant.seat.capacity_is in
    subst (λ (s : SeatView). Holds s.view c.args.block (holding.Large d c.count-n.result)) c.self.view_is
    (is_large v c.self.invariant.seat.kept.has c.self.inside.owned c.self.invariant.own c.args.block d c.count-n.result c.index.result.now held
    d_is (λ less. c.index.ensures) c.count-n.ensures (let t = c.if-n-gt0.true in omega arith))

pub index-class-requires : goal.index-class-requires
index-class-requires c = let v = view_in c.self.inside.table_seat.me.0 in
    let held = subst (λ (s : SeatView). IsHeld s.view c.args.block) (sym c.self.view_is) c.requires.held in
    let d = c.superblock_of-d.result in
    let d_is : d ≡ superblock_of v.setup.capacity c.args.block.first_word =
    c.superblock_of-d.ensures ∙ ap (λ n. (c.args.block.first_word - start_word n 0) / 8192) c.self.invariant.seat.capacity_is in
    let h = block_there v c.self.invariant.seat.kept.has c.self.inside.owned c.self.invariant.own c.args.block d
    (count_in (get_or c.self.inside.owned.ownerships.items d ownership.Nothing))
    (get_or c.self.inside.owned.ownerships.items d ownership.Nothing) held d_is
    (λ less. entry_is c.self.inside.owned.ownerships.items d ownership.Nothing (get_or c.self.inside.owned.ownerships.items d ownership.Nothing)
    (let l = c.self.invariant.own.ownerships_long in omega arith)) refl in
    let b = h.below in let l = c.self.invariant.own.classes_long in omega arith

pub returns : goal.returns
returns c = let v = view_in c.self.inside.table_seat.me.0 in let held =
    subst (λ (s : SeatView). IsHeld s.view c.args.block) (sym c.self.view_is) c.requires.held in
    let d = c.superblock_of-d.result in
    let d_is : d ≡ superblock_of v.setup.capacity c.args.block.first_word =
    c.superblock_of-d.ensures ∙ ap (λ n. (c.args.block.first_word - start_word n 0) / 8192) c.self.invariant.seat.capacity_is in
    subst (λ (s : SeatView). Holds s.view c.args.block (holding.Small c.index-class.result.now)) c.self.view_is
    (is_small v c.self.invariant.seat.kept.has c.self.inside.owned c.self.invariant.own c.args.block d c.count-n.result c.index-class.result.now
    c.index.result.now held d_is (λ less. c.index.ensures) c.count-n.ensures (let t = c.if-n-gt0.false in omega arith)
    (λ less. c.index-class.ensures ∙ entry_is c.self.inside.owned.classes.items d c.index-class.result.now 0
    (let l = c.self.invariant.own.classes_long in omega arith)))
