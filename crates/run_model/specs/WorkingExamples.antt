-- Worked examples: what a put asks the heap for, and what no answered request did. None is told full without a refusal,
-- or done beside one; none was answered without a ticket, by one that the budget doesn't allow, by too many calls, or with
-- too many superblocks.
use Rattle.std.specs.Prelude.{◌≡◌, ℕ, ◌+◌, List, [], ◌∷◌, cond, nat_eq, Option, None, Some, refl}
use Rattle.std.proofs.Common.{arith, inl, inr, sym, ◌∙◌}
use Rattle.heap_model.specs.Geometry.{root_word}
use Rattle.heap_seat.specs.declared.fault.Looks.{Looks}
use Rattle.heap_seat.specs.Examples.{look_with, seat_with}
use Rattle.heap_seat.specs.View.{View}
use Rattle.dict_model.specs.Nodes.{shard_of}
use Rattle.dict_model.specs.Requests.{Request, put, get, move, Reply, done, full}
use Rattle.dict_model.specs.Shards.{Map}
use Rattle.dict_requests.specs.Maps.{GivesMap}
use Rattle.dict_requests.specs.Walks.{ListsKeys}
use Rattle.run_model.specs.Working.{AsksFor, TakesRequest}

-- a seat that sees this in the root of shard 5
abbrev seeing : ℕ → View
seeing root = record (seat_with (look_with 0 0) 7) { volatile = λ word. cond (nat_eq word (root_word 5)) (Some root) None }

-- a put of two bytes asks for the four words of its node where its shard has a table, and for a table of 128 words where it has none
asked_by_put : AsksFor (put 5 (97 ∷ 98 ∷ [])) 32 (seeing 9) × AsksFor (put 5 (97 ∷ 98 ∷ [])) 1024 (seeing 0)
asked_by_put = (inl (record { value = 9; seen = refl; some = λ e. omega (arith, e) }, refl), inr (refl, refl))

-- not for a table where its shard has one, nor for its node where it has none
no_second_table : AsksFor (put 5 (97 ∷ 98 ∷ [])) 1024 (seeing 9) → ⊥
no_second_table (inl node) = let e : 1024 ≡ 32 = node.1 in omega (arith, e)
no_second_table (inr table) = let e : ◌≡◌ {A = Option ℕ} (Some 9) (Some 0) = table.0 in let n : ◌≡◌ {A = ℕ} 9 0 = cc in omega (arith, n)

no_node_before_table : AsksFor (put 5 (97 ∷ 98 ∷ [])) 32 (seeing 0) → ⊥
no_node_before_table (inl node) = let e : Some 0 ≡ Some node.0.value = node.0.seen in let z : 0 ≡ node.0.value = cc in node.0.some (sym z)
no_node_before_table (inr table) = let e : 32 ≡ 1024 = table.1 in omega (arith, e)

module _ {S : Type 0} {view : S → View} {keeps : S → S → Type 0} {has_none : S → S → ℕ → Looks → Type 0} {s t : S} where
  -- a put isn't told that there is no room without a refusal, nor that it is done beside one
  full_without_refusal : (key : ℕ) (value : List ℕ) → TakesRequest view keeps has_none (put key value) full s t
      → (view t).refusals ≡ (view s).refusals → ⊥
  full_without_refusal key value takes none = let once = (takes.refused tt refl).once in omega (arith, once, none)

  done_beside_refusal : (key : ℕ) (value : List ℕ) → TakesRequest view keeps has_none (put key value) done s t
      → (view t).refusals ≡ (view s).refusals + 1 → ⊥
  done_beside_refusal key value takes one =
      let same = (takes.granted (λ is_put is_full. let e : done ≡ full = is_full in absurd (cc))).count in omega (arith, same, one)

  -- nor is a get or a move answered beside one, whatever it is told
  get_beside_refusal : (key : ℕ) (reply : Reply) → TakesRequest view keeps has_none (get key) reply s t
      → (view t).refusals ≡ (view s).refusals + 1 → ⊥
  get_beside_refusal key reply takes one = let same = (takes.granted (λ is_put is_full. is_put)).count in omega (arith, same, one)

  move_beside_refusal : (key to : ℕ) (reply : Reply) → TakesRequest view keeps has_none (move key to) reply s t
      → (view t).refusals ≡ (view s).refusals + 1 → ⊥
  move_beside_refusal key to reply takes one = let same = (takes.granted (λ is_put is_full. is_put)).count in omega (arith, same, one)

  module _ (request : Request) (reply : Reply) (takes : TakesRequest view keeps has_none request reply s t) where
    -- no request is answered without a ticket, nor by the first one that the budget doesn't allow
    answered_without_ticket : (view t).next ≡ (view s).next → ⊥
    answered_without_ticket none = let drew = takes.runs.drew in omega (arith, drew, none)

    answered_beyond_budget : (view t).next ≡ (view t).budget + 1 → ⊥
    answered_beyond_budget beyond = let below = takes.runs.below in omega (arith, below, beyond)

    -- nor by a seat that had stopped, nor by one that stops in it
    answered_by_stopped : (ticket : ℕ) → (view s).stopped ≡ Some ticket → ⊥
    answered_by_stopped ticket at = let e : Some ticket ≡ None = sym at ∙ takes.runs.ran in absurd (cc)

    answered_by_stopping : (ticket : ℕ) → (view t).stopped ≡ Some ticket → ⊥
    answered_by_stopping ticket at = let e : Some ticket ≡ None = sym at ∙ takes.runs.running in absurd (cc)

  module _ (map : Map) (keys : List ℕ) (key : ℕ) (reply : Reply) (gives : GivesMap (view s) (shard_of key) map)
      (lists : ListsKeys (view s) (shard_of key) keys) where
    -- a get makes no four large calls, and a move makes none
    get_by_four : TakesRequest view keeps has_none (get key) reply s t → (view t).large_calls ≡ (view s).large_calls + 4 → ⊥
    get_by_four takes four = let few = (takes.calls.few map gives keys lists).large_few in omega (arith, few, four)

    move_by_one : (to : ℕ) → TakesRequest view keeps has_none (move key to) reply s t → (view t).large_calls ≡ (view s).large_calls + 1 → ⊥
    move_by_one to takes one = let few = (takes.calls.few map gives keys lists).large_few in omega (arith, few, one)

    -- a put of two bytes takes a superblock for its node and one for a table, and no third; a get and a move take none
    put_takes_three : TakesRequest view keeps has_none (put key (97 ∷ 98 ∷ [])) reply s t → (view t).taken ≡ (view s).taken + 3 → ⊥
    put_takes_three takes three = let few = (takes.calls.few map gives keys lists).few in omega (arith, few, three)

    get_takes_one : TakesRequest view keeps has_none (get key) reply s t → (view t).taken ≡ (view s).taken + 1 → ⊥
    get_takes_one takes one = let few = (takes.calls.few map gives keys lists).few in omega (arith, few, one)

    move_takes_one : (to : ℕ) → TakesRequest view keeps has_none (move key to) reply s t → (view t).taken ≡ (view s).taken + 1 → ⊥
    move_takes_one to takes one = let few = (takes.calls.few map gives keys lists).few in omega (arith, few, one)
