-- Refusals: which workers, replies and seats are those of no run.
use Rattle.std.specs.Prelude.{◌≡◌, ℕ, ◌+◌, ◌<◌, Bool, true, false, List, [], length, slice_index, Contains, refl}
use Rattle.std.proofs.Common.{arith, ap, subst}
use Rattle.heap_model.specs.declared.block.Block.{Block}
use Rattle.heap_model.proofs.MemberLemmas.{in_none}
use Rattle.core_model.specs.View.{View}
use Rattle.dict_model.specs.Requests.{Request}
use Rattle.dict_model.specs.Shards.{Map}
use Rattle.run_model.specs.Arrivals.{IsWholeMap}
use Rattle.run_model.specs.Workers.{Replies}
use Rattle.run_outcome.specs.Together.{HaveWorked}

module _ {words : List ℕ} {held : List Block} {budget : ℕ} {replies : Replies} {now kept left : List ℕ} where
  -- no worker, and nine
  none_at_all : {requests : List Request} {stopped : Bool} → HaveWorked words held 0 budget requests replies stopped now kept left → ⊥
  none_at_all h = let some = h.some in omega (arith, some)

  too_many : {requests : List Request} {stopped : Bool} → HaveWorked words held 9 budget requests replies stopped now kept left → ⊥
  too_many h = let few = h.few in omega (arith, few)

  -- where the run wasn't stopped, workers that were halted, and a carrier that is left
  halted_without_stop : {workers : ℕ} {requests : List Request} (h : HaveWorked words held workers budget requests replies false now kept left)
      → h.halted ≡ true → ⊥
  halted_without_stop h halted = let e : false ≡ true = h.halts halted in absurd (cc)

  carrier_without_stop : {workers : ℕ} {requests : List Request} (h : HaveWorked words held workers budget requests replies false now kept left)
      (v : View) → Contains h.carriers v → ⊥
  carrier_without_stop h v there = in_none v (subst (λ vs. Contains vs v) (h.none_left refl) there)

  -- a seat that accepted two blocks more than values are brought in, and one that accepted fewer
  accepts_two_more : {workers : ℕ} {requests : List Request} {stopped : Bool}
      (h : HaveWorked words held workers budget requests replies stopped now kept left) (worker : ℕ) → worker < workers
      → (h.last worker).view.accepts ≡ length (h.brought worker) + 2 → ⊥
  accepts_two_more h worker below two = let most = (h.accepted worker below).1 in omega (arith, most, two)

  accepts_fewer : {workers : ℕ} {requests : List Request} {stopped : Bool}
      (h : HaveWorked words held workers budget requests replies stopped now kept left) (worker : ℕ) → worker < workers
      → (h.last worker).view.accepts + 1 ≡ length (h.brought worker) → ⊥
  accepts_fewer h worker below one = let least = (h.accepted worker below).0 in omega (arith, least, one)

  -- a seat that offered a block, though it was asked for no move
  offers_unasked : {workers : ℕ} {stopped : Bool} (h : HaveWorked words held workers budget [] replies stopped now kept left) (whole : Map)
      → IsWholeMap (slice_index words) whole → (worker : ℕ)
      → worker < workers → (h.last worker).view.offers ≡ 1 → ⊥
  offers_unasked h whole is worker below one = let offers = h.offered whole is worker below in omega (arith, offers, one)

  -- a value that came to the only worker, which it hasn't accepted, and of which no carrier is left
  lost_on_its_way : {requests : List Request} {stopped : Bool} (h : HaveWorked words held 1 budget requests replies stopped now kept left)
      → h.carriers ≡ []
      → (h.last 0).view.accepts + 1 ≡ length (h.came 0) → ⊥
  lost_on_its_way h none one =
      let remain = h.remain 0 (omega arith) in
      let carriers = h.carriers_are in
      let all = ap length none in
      omega (arith, remain, carriers, all, one)
