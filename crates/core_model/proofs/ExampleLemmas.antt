-- Worked examples of steps that a seat may take, of such that it may not, and of what a step answers.
use Rattle.std.proofs.Common.{◌≡◌, ◌<◌, ◌+◌, ◌%◌, ℕ, [], ◌∷◌, ◌++◌, replicate, set, None, Some, inl, inr, true, false, refl, subst, arith}
use Rattle.heap_model.specs.Geometry.{lists}
use Rattle.heap_model.specs.Words.{large_info}
use Rattle.heap_model.specs.Counting.{times}
use Rattle.core_model.specs.declared.answer.StepAnswer.TheVariants.{Done, Stopped, NotNow}
use Rattle.core_model.specs.declared.event.Event.TheVariants.{Tick, Load, Store, LookUsed, TakeFresh, KeepUsed, LookHead, LookLink, Pop, Push, LookAnchor, TakeAll, Give}
use Rattle.core_model.specs.Cells.{info_cell, link_cell}
use Rattle.core_model.specs.Memory.{Memory, write, volatile_at, durable_at, info, durable_info}
use Rattle.core_model.specs.View.{View}
use Rattle.core_model.specs.Guards.{IsOwn, IsFreelyClaimed, MayTake, MayPop, MayLink, MayLookAt, MayPush, MayTakeAll, MayGive, MayCut, MayAlloc, MayFree, MayLift, MayHoldLarge, MaySplit, IsReadyFor, HasTicketFor, IsAsSeen, MayStep, MayStore, as_free}
use Rattle.core_model.specs.Steps.{TableState, state_after, StepsTo, is_done, stops, not_now, has_stopped}
use Rattle.core_model.specs.Examples.{idle, memory, saw_used}
use Rattle.core_model.specs.ExchangeExamples.{saw_head, batched, partial}
use Rattle.core_model.specs.HeldExamples.{holding, of_20, behind, leading}

-- more superblocks than there are
pub takes_too_many : MayTake (saw_used 1) 2 → ⊥
takes_too_many may = let room = may.room in omega arith

-- no superblock
pub takes_none : MayTake (saw_used 1) 0 → ⊥
takes_none may = let some = may.some in omega arith

-- nothing was seen of a head
pub pops_unseen : MayPop idle → ⊥
pops_unseen may = let seen = may.is_seen in omega arith

-- an empty list has no link
pub links_nowhere : MayLink (saw_head 16777216) → ⊥
links_nowhere may = may.some (let e : 16777216 % 16777216 ≡ 0 = omega arith in e)

-- a word that is not the seat's own
pub owns_nothing : IsOwn idle (info_cell 0) → ⊥
owns_nothing own = omega (arith, own)

-- a superblock whose blocks are being made goes nowhere else
pub cutting_is_not_free : IsFreelyClaimed (record idle { cutting = 0 ∷ [] }) 0 → ⊥
cutting_is_not_free free = let none = free.not_cutting in omega arith

-- nor is its anchor looked at, or its link stored to
pub looks_while_cutting : MayLookAt (record idle { cutting = 0 ∷ [] }) 0 → ⊥
looks_while_cutting look = elim look [ inl free ↦ cutting_is_not_free free | inr batch ↦ let some = batch.1 in omega arith ]

pub links_while_cutting : MayStore memory (record idle { cutting = 0 ∷ [] }) (link_cell 0) 5 → ⊥
links_while_cutting none = omega (arith, none)

-- nothing was seen of the mark
pub keeps_unseen : IsReadyFor memory idle KeepUsed → ⊥
keeps_unseen seen = omega (arith, seen)

-- a list past the last
pub looks_past_the_lists : IsReadyFor memory idle (LookHead lists) → ⊥
looks_past_the_lists less = omega (arith, less)

-- the anchor of a superblock that is not claimed
pub looks_at_no_claim : MayLookAt idle 0 → ⊥
looks_at_no_claim look = elim look [ inl claimed ↦ let some = claimed.claimed in omega arith | inr batch ↦ let some = batch.1 in omega arith ]

-- a superblock that is not below the durable mark
pub pushes_above_the_mark : MayPush memory (record (saw_head 33554432) { raw = 1 ∷ [] }) 1 → ⊥
pushes_above_the_mark may = let less = may.durable in omega arith

-- nothing claimed with a class
pub takes_all_of_none : MayTakeAll idle 0 → ⊥
takes_all_of_none may = let some = may.claimed in omega arith

-- no batch
pub gives_nothing : MayGive memory idle 0 → ⊥
gives_nothing may = let some = may.some in omega arith

-- no superblock whose blocks are being made
pub cuts_nothing : MayCut memory idle 0 → ⊥
cuts_nothing may = let some = may.cutting in omega arith

-- an empty cache
pub allocates_from_none : MayAlloc idle 20 → ⊥
allocates_from_none may = let some = may.cached in omega arith

pub lifts_from_none : MayLift memory idle 20 → ⊥
lifts_from_none may = let some = may.cached in omega arith

-- behind a block that leads to it, but not where a store may have changed that
pub lifts_behind : MayLift leading (behind true) 20
lifts_behind = record {
  is_class = record { some = omega arith; last = omega arith };
  cached = omega arith;
  behind = λ some. record { same = refl; unchanged = refl; linked = refl };
}

pub lifts_behind_a_store : MayLift leading (behind false) 20 → ⊥
lifts_behind_a_store may = let changed : false ≡ true = (may.behind (omega arith)).unchanged in absurd (cc)

-- a block that is not held
pub frees_nothing : MayFree memory idle 9272 → ⊥
frees_nothing may = let some = may.held in omega arith

-- a large block of no superblock
pub holds_none : MayHoldLarge memory idle 0 0 → ⊥
holds_none may = let some = may.some in omega arith

-- no large block
pub splits_nothing : MaySplit idle 1080 → ⊥
splits_nothing may = let some = may.held in omega arith

-- a word of a large block that is not its first
pub splits_inside : MaySplit (record idle { large = record { first = 1; count = 1 } ∷ [] }) 9273 → ⊥
splits_inside may = let first = may.first in omega arith

-- a seat that has stopped, and a step without a ticket
pub stopped_goes_nowhere : MayStep memory (record idle { stopped = Some 10 }) LookUsed → ⊥
stopped_goes_nowhere may = let going = may.going in omega arith

pub looks_without_a_ticket : MayStep memory (record idle { ticket = None }) LookUsed → ⊥
looks_without_a_ticket may = let ticket = may.ticket in omega arith

-- the last superblock that there is
pub takes_the_last : MayTake (saw_used 1) 1
takes_the_last = record { is_seen = refl; some = omega arith; room = omega arith }

-- a list that was seen to have a descriptor has a link, and is popped once that was seen
pub links : MayLink (saw_head 33554433)
links = record { is_seen = refl; some = λ none. omega (arith, none) }

pub pops : MayPop (saw_head 33554433)
pops = record { is_seen = refl; link = refl }

-- the last superblock below the durable mark
pub pushes_the_last : MayPush memory (record (saw_head 33554432) { raw = 0 ∷ [] }) 0
pushes_the_last = record {
  is_seen = refl;
  durable = omega arith;
  linked = refl;
  listed = as_free 0 refl (record { claimed = omega arith; not_cutting = refl }) refl;
}

-- a claimed superblock, and that of the batch
pub looks_at_claim : MayLookAt (record idle { raw = 0 ∷ [] }) 0
looks_at_claim = inl (record { claimed = omega arith; not_cutting = refl })

pub looks_at_batch : MayLookAt batched 0
looks_at_batch = inr (refl, omega arith)

-- a partial superblock whose class has an empty cache
pub takes_all : MayTakeAll partial 0
takes_all = record { claimed = omega arith; is_seen = refl; of = refl; partial = refl; uncached = refl }

-- a batch to a full superblock, whatever its last block leads to
pub gives : MayGive memory batched 0
gives = record { batch = refl; some = omega arith; is_seen = refl; of = refl; linked = λ some. absurd (some refl) }

-- the only cached block
pub allocates_the_last : MayAlloc (record idle { caches = set (replicate 21 []) 20 (1080 ∷ []) }) 20
allocates_the_last = record { is_class = record { some = omega arith; last = omega arith }; cached = omega arith }

-- a held block, in front of an empty cache
pub frees : MayFree of_20 holding 9272
frees = record { is_class = record { some = omega arith; last = omega arith }; held = omega arith; linked = λ some. omega (arith, some) }

-- a large block, by its first word
pub splits : MaySplit (record idle { large = record { first = 1; count = 1 } ∷ [] }) 9272
splits = record { held = omega arith; first = refl }

-- the last superblock below the durable mark, whose info says so
abbrev said_large : Memory
said_large = write (write memory (volatile_at (info_cell 0)) (large_info 1)) (durable_at (info_cell 0)) (large_info 1)

pub holds_the_last : MayHoldLarge said_large (record idle { raw = 0 ∷ [] }) 0 1
holds_the_last = record {
  some = omega arith;
  claimed = λ e low high. subst (λ n. 0 < times n (0 ∷ []) + times n []) (first e high) (omega arith);
  empty = λ e low high. inl refl;
  durable = omega arith;
  first = refl;
  others = λ e low high. absurd (omega (arith, low, high));
  durable_infos = λ e low high. subst (λ n. durable_info said_large n ≡ info said_large n) (first e high) refl;
} where
  first : (e : ℕ) → e < 0 + 1 → 0 ≡ e
  first e high = omega (arith, high)

-- each step but a draw and a settling needs a ticket
pub loads_without_a_ticket : HasTicketFor (record idle { ticket = None }) (Load 41) → ⊥
loads_without_a_ticket ticket = omega (arith, ticket)

pub stores_without_a_ticket : HasTicketFor (record idle { ticket = None }) (Store 41 7) → ⊥
stores_without_a_ticket ticket = omega (arith, ticket)

pub keeps_without_a_ticket : HasTicketFor (record idle { ticket = None }) KeepUsed → ⊥
keeps_without_a_ticket ticket = omega (arith, ticket)

pub looks_at_head_without_a_ticket : HasTicketFor (record idle { ticket = None }) (LookHead 0) → ⊥
looks_at_head_without_a_ticket ticket = omega (arith, ticket)

pub looks_at_link_without_a_ticket : HasTicketFor (record idle { ticket = None }) LookLink → ⊥
looks_at_link_without_a_ticket ticket = omega (arith, ticket)

pub looks_at_anchor_without_a_ticket : HasTicketFor (record idle { ticket = None }) (LookAnchor 0) → ⊥
looks_at_anchor_without_a_ticket ticket = omega (arith, ticket)

-- an exchange is won where the whole word is as it was seen: the pops that a head counts too
pub as_seen : IsAsSeen memory (saw_head 16777217) Pop
as_seen = refl

pub pops_an_old_head : IsAsSeen memory (saw_head 1) Pop → ⊥
pops_an_old_head same = omega (arith, same)

pub pushes_on_an_old_head : IsAsSeen memory (saw_head 1) (Push 0) → ⊥
pushes_on_an_old_head same = omega (arith, same)

pub takes_from_an_old_mark : IsAsSeen memory (saw_used 0) (TakeFresh 1) → ⊥
takes_from_an_old_mark same = omega (arith, same)

pub takes_all_of_an_old_anchor : IsAsSeen memory partial (TakeAll 0) → ⊥
takes_all_of_an_old_anchor same = omega (arith, same)

pub gives_to_an_old_anchor : IsAsSeen memory batched (Give 0) → ⊥
gives_to_an_old_anchor same = omega (arith, same)

-- a draw below the budget is done; one at it stops the seat, which answers that ticket from then on; what may not be done leaves all as it is
abbrev alone : View → TableState
alone v = record { words = []; views = v ∷ [] }

abbrev spent : View
spent = record idle { setup = record idle.setup { capacity = 0; budget = 9 } }

abbrev at_budget : TableState
at_budget = record { words = replicate 4176 0 ++ (9 ∷ []); views = spent ∷ [] }

abbrev at_rest : View
at_rest = record idle { ticket = None; last_ticket = Some 10; stopped = Some 10 }

pub answers_done : StepsTo idle.setup (alone idle) 0 (Tick None) Done (state_after idle.setup (alone idle) 0 idle (Tick None))
answers_done = is_done idle refl (record { may = record { going = refl; ticket = tt; ready = tt }; as_seen = tt }) refl

pub answers_stop : StepsTo spent.setup at_budget 0 (Tick None) (Stopped 9) (state_after spent.setup at_budget 0 spent (Tick None))
answers_stop = stops spent 9 refl (record { may = record { going = refl; ticket = tt; ready = tt }; as_seen = tt }) refl

pub answers_stop_again : StepsTo idle.setup (alone at_rest) 0 LookUsed (Stopped 10) (alone at_rest)
answers_stop_again = has_stopped at_rest 10 refl refl

pub answers_not_now : StepsTo idle.setup (alone idle) 0 Pop NotNow (alone idle)
answers_not_now = not_now idle refl refl (λ may. pops_unseen may.may.ready)
