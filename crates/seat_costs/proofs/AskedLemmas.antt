-- Chance is asked for none where nothing is drawn, and for those of both rows where one is behind the other.
use Rattle.std.proofs.Common.{◌≡◌, ℕ, zero, suc, ◌+◌, ◌-◌, Bool, true, false, cond, nat_eq, nat_lt, Option, None, Some, refl, ap, sym, subst, ◌∙◌, arith}
use Rattle.std.specs.Bool.{⊤}
use Rattle.heap_model.specs.Words.{full_anchor, head_first}
use Rattle.core_model.specs.declared.event.Event.{Event}
use Rattle.core_model.specs.declared.event.Event.TheVariants.{Tick, Load, Store, Settle, LookUsed, TakeFresh, KeepUsed, LookHead, LookLink, Pop, Push, LookAnchor, TakeAll, Give}
use Rattle.core_model.specs.declared.event.Shift.{Shift}
use Rattle.core_model.specs.Cells.{cell_at}
use Rattle.core_model.specs.Effects.{before, claimed, drew, given, learn, lost, popped, pushed, seen, seen_of, seen_word, stopped, taken_all, taken_fresh, used_up, won}
use Rattle.core_model.specs.ViewAfter.{view_after}
use Rattle.core_model.specs.Memory.{Memory, memory_of}
use Rattle.core_model.specs.View.{View, no_batch}
use Rattle.heap_table.specs.Plays.{IsEvent}
use Rattle.heap_rule.specs.Fences.{SettlesEarly}
use Rattle.heap_rule.specs.Seated.{SeatView}
use Rattle.heap_rule.proofs.TicketLemmas.{draws_most}
use Rattle.seat_costs.specs.Asked.{AsksFor, HasAsked}
use Rattle.seat_costs.specs.Draws.{LeavesAsSettled}
use Rattle.seat_costs.proofs.DrawLemmas.{by_chance, early_rest}
use Rattle.seat_costs.proofs.StoredLemmas.{stored_only}

asks_then : {C : Type 0} (gives : C → ℕ → C → Type 0) (m n all : ℕ) (a b c : C) → all ≡ m + n → AsksFor gives m a b → AsksFor gives n b c
    → AsksFor gives all a c
asks_then {C} gives zero n all a b c is same rest = let e : n ≡ all = omega arith in
    subst (λ k. AsksFor gives k a c) e (subst (λ x. AsksFor gives n x c) same rest)
asks_then {C} gives (suc m) n all a b c is first rest = let e : suc (m + n) ≡ all = omega arith in
    subst (λ k. AsksFor gives k a c) e (first.0, first.1, asks_then gives m n (m + n) first.0 b c refl first.2 rest)

pub asked_none : {C : Type 0} {gives : C → ℕ → C → Type 0} (v : View) (chance : C) → HasAsked gives v v chance chance
asked_none {C} {gives} v chance = record {
  drew = omega arith;
  asks = let e : 0 ≡ v.draws - v.draws = omega arith in subst (λ k. AsksFor gives k chance chance) e refl;
}

pub asked_then : {C : Type 0} {gives : C → ℕ → C → Type 0} {u v w : View} {a b c : C} → HasAsked gives u v a b → HasAsked gives v w b c
    → HasAsked gives u w a c
asked_then {C} {gives} {u} {v} {w} {a} {b} {c} p q = let x = p.drew in let y = q.drew in record {
  drew = omega arith;
  asks = asks_then gives (v.draws - u.draws) (w.draws - v.draws) (w.draws - u.draws) a b c (omega arith) p.asks q.asks;
}

-- what draws nothing asks for nothing
pub asked_alike : {C : Type 0} {gives : C → ℕ → C → Type 0} {u v w : View} {a b : C} → HasAsked gives u v a b → w.draws ≡ v.draws
    → HasAsked gives u w a b
asked_alike {C} {gives} {u} {v} {w} {a} {b} p same = let x = p.drew in record {
  drew = omega arith;
  asks = let e : v.draws - u.draws ≡ w.draws - u.draws = omega arith in subst (λ k. AsksFor gives k a b) e p.asks;
}

-- an event that is no draw
abbrev pub IsNoDraw : Event → Type 0
IsNoDraw (Tick shift) = ⊥
IsNoDraw event = ⊤

claimed_draws : (v : View) (d list : ℕ) → (claimed v d list).draws ≡ v.draws
claimed_draws v d zero = refl
claimed_draws v d (suc class) = refl

either_draws : (test : Bool) (u v w : View) → u.draws ≡ w.draws → v.draws ≡ w.draws → (cond test u v).draws ≡ w.draws
either_draws true u v w one other = one
either_draws false u v w one other = other

pushed_draws : (v : View) (d : ℕ) → (pushed v d).draws ≡ v.draws
pushed_draws v d = either_draws _ _ _ v refl refl

given_draws : (v : View) (d : ℕ) → (given v d).draws ≡ v.draws
given_draws v d = either_draws (nat_eq (seen_word v.seen_anchor) full_anchor)
    (claimed (record (won v) { batch = no_batch; seen_anchor = None; gives = v.gives + 1 }) d v.batch.class)
    (record (won v) { batch = no_batch; seen_anchor = None; gives = v.gives + 1 }) v
    (claimed_draws (record (won v) { batch = no_batch; seen_anchor = None; gives = v.gives + 1 }) d v.batch.class) refl

step_draws : (m : Memory) (v : View) (event : Event) (found : ℕ) → IsNoDraw event → (view_after m v event found).draws ≡ v.draws
step_draws m v (Tick shift) found none = absurd none
step_draws m v (Load word) found none = refl
step_draws m v (Store word value) found none = ap (λ (x : View). x.draws)
    (stored_only (record (used_up v) { volatile = learn v.volatile word value }) (cell_at v.setup.capacity word) value)
step_draws m v (Settle word) found none = refl
step_draws m v LookUsed found none = refl
step_draws m v (TakeFresh n) found none = either_draws (nat_eq found (seen v.seen_used)) (taken_fresh v n)
    (record (lost v found) { seen_used = None }) v refl refl
step_draws m v KeepUsed found none = refl
step_draws m v (LookHead list) found none = refl
step_draws m v LookLink found none = refl
step_draws m v Pop found none = either_draws (nat_eq found (seen_word v.seen_head)) (popped v (before (head_first (seen_word v.seen_head))))
    (record (lost v found) { seen_head = None }) v
    (claimed_draws _ (before (head_first (seen_word v.seen_head))) (seen_of v.seen_head)) refl
step_draws m v (Push d) found none = either_draws (nat_eq found (seen_word v.seen_head)) (pushed v d)
    (record (lost v found) { seen_head = None }) v (pushed_draws v d) refl
step_draws m v (LookAnchor d) found none = refl
step_draws m v (TakeAll d) found none = either_draws (nat_eq found (seen_word v.seen_anchor)) (taken_all m v d)
    (record (lost v found) { seen_anchor = None }) v refl refl
step_draws m v (Give d) found none = either_draws (nat_eq found (seen_word v.seen_anchor)) (given v d)
    (record (lost v found) { seen_anchor = None }) v (given_draws v d) refl

pub asked_step : {C : Type 0} {gives : C → ℕ → C → Type 0} {u v w : View} {a b : C} {event : Event} {found : ℕ} → IsNoDraw event
    → HasAsked gives u v a b → IsEvent event v found w → HasAsked gives u w a b
asked_step {C} {gives} {u} {v} {w} {a} {b} {event} {found} none p e =
    asked_alike p (ap (λ (x : View). x.draws) e.after ∙ step_draws (memory_of v.setup.capacity e.before.words) v event found none)

-- a draw asks for one number, and one of a seat that has stopped for none
module _ {C : Type 0} (gives : C → ℕ → C → Type 0) (shift : Option Shift) (v w : SeatView) (old new : C)
    (event : v.view.stopped ≡ None → (r : ℕ) × gives old r new × ((early : SeatView) × SettlesEarly r v early × (found : ℕ)
    × IsEvent (Tick shift) early.view found w.view))
    (idle : (step : ℕ) → v.view.stopped ≡ Some step → (w ≡ v) × (new ≡ old)) where
  pub asked_once : HasAsked gives v.view w.view old new
  asked_once = by_stop v.view.stopped refl where
    by_stop : (o : Option ℕ) → v.view.stopped ≡ o → HasAsked gives v.view w.view old new
    by_stop None went =
        let e = event went in
        let early = e.2.0 in
        let same = ap (λ (x : View). x.draws) (early_rest v.view early.view (by_chance e.0 v early e.2.1)) in
        let one = (draws_most shift early.view w.view e.2.2 e.2.3).0 in record {
          drew = omega arith;
          asks = let is : 1 ≡ w.view.draws - v.view.draws = omega arith in subst (λ k. AsksFor gives k old new) is (new, (e.0, e.1), refl);
        }
    by_stop (Some step) had = let same = idle step had in
        subst (λ (x : SeatView). HasAsked gives v.view x.view old new) (sym same.0)
        (subst (HasAsked gives v.view v.view old) (sym same.1) (asked_none v.view old))

-- and leaves what a crash leaves as chance settled it
module _ {C : Type 0} (gives : C → ℕ → C → Type 0) (v w : SeatView) (old new : C)
    (event : (r : ℕ) × gives old r new × ((early : SeatView) × SettlesEarly r v early × (found : ℕ)
    × IsEvent (Tick None) early.view found w.view)) where
  pub left_as_settled : LeavesAsSettled gives v w old new
  left_as_settled = record {
    number = event.0;
    given = event.1;
    early = event.2.0;
    settled = event.2.1;
    left = by_budget (nat_lt event.2.2 event.2.0.view.setup.budget) event.2.3.after;
  } where
    by_budget : (below : Bool) → w.view ≡ cond below (drew event.2.0.view event.2.2) (stopped event.2.0.view event.2.2)
        → w.view.durable ≡ event.2.0.view.durable
    by_budget true after = ap (λ (x : View). x.durable) after
    by_budget false after = ap (λ (x : View). x.durable) after

pub settled_then : {C : Type 0} {gives : C → ℕ → C → Type 0} {v u w : SeatView} {old new : C} → LeavesAsSettled gives v u old new
    → w.view.durable ≡ u.view.durable → LeavesAsSettled gives v w old new
settled_then p same = record { number = p.number; given = p.given; early = p.early; settled = p.settled; left = same ∙ p.left }
