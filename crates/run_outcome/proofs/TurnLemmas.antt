-- Why a run stops only where its budget is below the bound, and has answered all where it isn't stopped.
use Rattle.std.proofs.Common.{◌≡◌, ◌≢◌, ℕ, ◌<◌, Bool, true, false, List, [], ◌∷◌, ◌++◌, map, slice_index, Option, None, Some, refl, ap, subst, sym, ◌∙◌, arith}
use Rattle.heap_model.specs.declared.block.Block.{Block}
use Rattle.heap_model.specs.Counting.{total}
use Rattle.heap_model.specs.Image.{Image}
use Rattle.heap_seat.specs.View.{View as HeapView}
use Rattle.dict_model.specs.Requests.{Request, Reply}
use Rattle.core_model.specs.Effects.{seen}
use Rattle.core_model.specs.View.{View, one_if_some}
use Rattle.seat_model.specs.CacheState.{heap_view}
use Rattle.run_model.specs.Runs.{StopsRightly, unanswered}
use Rattle.run_model.specs.Workers.{Replies, worker_requests}
use Rattle.run_model.specs.Sending.{Sent}
use Rattle.worker_parts.specs.Ending.{EndsIn, HasEnded, at_rest, not_begun, in_request, in_arrival}
use Rattle.run_outcome.specs.Together.{HaveWorked}
use Rattle.run_outcome.proofs.CostLemmas.{drawn_few}
use Rattle.run_outcome.proofs.CountLemmas.{all_answered}
use Rattle.run_outcome.proofs.WorkerLemmas.{all_views, last_view, of_each, unanswered_told}

-- a worker that was not stopped has answered all of its requests
none_left : (rs : List (Request × Reply)) → unanswered (map (λ r. r.0) rs ++ []) (map (λ r. Some r.1) rs) ≡ []
none_left [] = refl
none_left (r ∷ rs) = none_left rs

nothing_left : (left : List Request) (brought later : List Sent) (halted stops : Bool) (v w : HeapView) → (halted ≡ true → ⊥) → (stops ≡ true → ⊥)
    → EndsIn left brought later halted stops v w → left ≡ []
nothing_left left brought later halted stops v w begun goes (at_rest starts none all same) = none
nothing_left left brought later halted stops v w begun goes (not_begun is none same) = absurd (begun is)
nothing_left left brought later halted stops v w begun goes (in_request begins is none request others more may) = absurd (goes is)
nothing_left left brought later halted stops v w begun goes (in_arrival begins is none next others more may) = absurd (goes is)

all_by_end : (image : Image) (requests : List Request) (told : Replies) (came brought : List Sent) (halted stops : Bool) (v : HeapView)
    → (halted ≡ true → ⊥) → (stops ≡ true → ⊥)
    → HasEnded image requests told came brought halted stops v → unanswered requests told ≡ []
all_by_end image requests told came brought halted stops v begun goes ended =
    let none = nothing_left ended.left brought ended.later halted stops ended.before v begun goes ended.ends in
    subst (λ qs. unanswered qs told ≡ []) (sym (ended.requests_are ∙ ap (λ qs. map (λ (r : Request × Reply). r.0) ended.rs ++ qs) none))
    (subst (λ ts. unanswered (map (λ r. r.0) ended.rs ++ []) ts ≡ []) (sym ended.replies_are) (none_left ended.rs))

some_ticket : (o : Option ℕ) → o ≢ None → (ticket : ℕ) × (o ≡ Some ticket)
some_ticket None some = absurd (some refl)
some_ticket (Some ticket) some = (ticket, refl)

module _ (words : List ℕ) (held : List Block) (workers budget : ℕ) (requests : List Request) (replies : Replies) (stopped : Bool)
    (now kept left : List ℕ)
    (h : HaveWorked words held workers budget requests replies stopped now kept left) where
  all : stopped ≡ false → unanswered requests replies ≡ []
  all goes = all_answered workers requests replies h.some (λ worker below.
      unanswered_told h worker below
      ∙ all_by_end (slice_index words) (worker_requests workers worker requests) (h.told worker) (h.came worker) (h.brought worker) h.halted
      (h.stops worker) (heap_view (h.last worker))
      (λ is. let e : stopped ≡ true = h.halts is in absurd (cc)) (λ is. let e : stopped ≡ true = h.stopped_by.1 (worker, below, is) in
      absurd (cc)) (h.parts worker below).ended)

  -- a seat that stopped drew a ticket that the budget doesn't allow
  budget_spent : stopped ≡ true → budget < total (λ (v : View). v.draws) (all_views h)
  budget_spent is =
      let who = h.stopped_by.0 is in
      let at = some_ticket (last_view h who.0).stopped ((h.parts who.0 who.1).stops.0 who.2) in
      let tickets = of_each h _ h.closed.sound.good.tickets who.0 who.1 in
      let stop = tickets.state.stopping at.0 at.1 in
      let drawn = tickets.last.is_drawn (ap one_if_some stop.1) in
      let is_last = ap seen stop.1 in
      let all_drawn = h.closed.sound.good.adds.draws in
      omega arith

  pub stops_rightly : StopsRightly (slice_index words) workers requests budget replies stopped
  stops_rightly = record {
    all = all;
    cause = λ is keys lists. let spent = budget_spent is in let few = drawn_few h keys lists in omega arith;
  }
