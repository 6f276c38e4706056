-- No event makes a seat a carrier, or a carrier a seat, or counts what is offered and accepted.
use Rattle.std.proofs.Common.{◌≡◌, ℕ, zero, suc, ◌+◌, nat_eq, nat_lt, Bool, true, false, cond, Option, None, Some, refl}
use Rattle.heap_model.specs.Words.{full_anchor}
use Rattle.heap_model.specs.Counting.{times}
use Rattle.core_model.specs.declared.event.Event.{Event}
use Rattle.core_model.specs.declared.event.Event.TheVariants.{Tick, Load, Store, Settle, LookUsed, TakeFresh, KeepUsed, LookHead, LookLink, Pop, Push, LookAnchor, TakeAll, Give}
use Rattle.core_model.specs.declared.event.Shift.{Shift}
use Rattle.core_model.specs.declared.event.Shift.TheVariants.{Cut, Alloc, Free, Lift, Large, Split}
use Rattle.core_model.specs.Cells.{Cell, used_cell, head_cell, info_cell, anchor_cell, link_cell, root_cell, data_cell, no_cell, cell_at}
use Rattle.core_model.specs.Memory.{Memory}
pub use Rattle.core_model.specs.View.{Role, role}
use Rattle.core_model.specs.View.{View, no_batch}
use Rattle.core_model.specs.Effects.{seen, seen_of, seen_word, claimed, pushed, pushed_raw, pushed_classed, given, won, stored, drew, stopped}
use Rattle.core_model.specs.ViewAfter.{shifted, view_after}

either_way : (test : Bool) (a b : View) (r : Role) → role a ≡ r → role b ≡ r → role (cond test a b) ≡ r
either_way true a b r first second = first
either_way false a b r first second = second

claimed_role : (v : View) (d list : ℕ) → role (claimed v d list) ≡ role v
claimed_role v d zero = refl
claimed_role v d (suc class) = refl

stored_role : (v : View) (cell : Cell) (value : ℕ) → role (stored v cell value) ≡ role v
stored_role v used_cell value = refl
stored_role v (head_cell list) value = refl
stored_role v (info_cell d) value = refl
stored_role v (anchor_cell d) zero = refl
stored_role v (anchor_cell d) (suc n) = refl
stored_role v (link_cell d) value = refl
stored_role v (root_cell i) value = refl
stored_role v (data_cell word) value = refl
stored_role v no_cell value = refl

shifted_role : (m : Memory) (v : View) (shift : Option Shift) → role (shifted m v shift) ≡ role v
shifted_role m v None = refl
shifted_role m v (Some (Cut d)) = refl
shifted_role m v (Some (Alloc class)) = refl
shifted_role m v (Some (Free block)) = refl
shifted_role m v (Some (Lift class)) = refl
shifted_role m v (Some (Large d n)) = refl
shifted_role m v (Some (Split block)) = refl

pub role_after : (m : Memory) (v : View) (event : Event) (found : ℕ) → role (view_after m v event found) ≡ role v
role_after m v (Tick shift) found = either_way (nat_lt found v.setup.budget) (shifted m (drew v found) shift) (stopped v found) (role v)
    (shifted_role m (drew v found) shift) refl
role_after m v (Load word) found = refl
role_after m v (Store word value) found = stored_role _ (cell_at v.setup.capacity word) value
role_after m v (Settle word) found = refl
role_after m v LookUsed found = refl
role_after m v (TakeFresh n) found = either_way (nat_eq found (seen v.seen_used)) _ _ (role v) refl refl
role_after m v KeepUsed found = refl
role_after m v (LookHead list) found = refl
role_after m v LookLink found = refl
role_after m v Pop found = either_way (nat_eq found (seen_word v.seen_head)) _ _ (role v) (claimed_role _ _ (seen_of v.seen_head)) refl
role_after m v (Push d) found = either_way (nat_eq found (seen_word v.seen_head)) (pushed v d) _ (role v)
    (either_way (nat_lt 0 (times d v.raw + times d v.split)) (pushed_raw v d) (pushed_classed v d) (role v) refl refl) refl
role_after m v (LookAnchor d) found = refl
role_after m v (TakeAll d) found = either_way (nat_eq found (seen_word v.seen_anchor)) _ _ (role v) refl refl
role_after m v (Give d) found = either_way (nat_eq found (seen_word v.seen_anchor)) (given v d) _ (role v) (given_role v d) refl where
  given_role : (u : View) (e : ℕ) → role (given u e) ≡ role u
  given_role u e = by_test (nat_eq (seen_word u.seen_anchor) full_anchor) where
    by_test : (test : Bool) → role (cond test (claimed (record (won u) { batch = no_batch; seen_anchor = None; gives = u.gives + 1 })
        e u.batch.class) (record (won u) { batch = no_batch; seen_anchor = None; gives = u.gives + 1 })) ≡ role u
    by_test true = claimed_role _ e u.batch.class
    by_test false = refl
