-- The workers' seats share the heap, and the image that is left mixes what all of them see.
use Rattle.std.proofs.Common.{◌≡◌, ℕ, ◌<◌, ◌≤◌, inl, inr, List, [], ◌∷◌, ◌++◌, slice_index, cond, nat_lt, Contains, refl, subst, sym, lt-ltb, arith}
use Rattle.std.specs.Prelude.{Bool, true, false}
use Rattle.std.proofs.Math.Nat.{mod-lt}
use Rattle.std.proofs.lemmas.Bool.{cases_eq, cond-true, cond-false, le-ltb}
use Rattle.heap_model.specs.declared.block.Block.{Block}
use Rattle.heap_model.specs.Geometry.{roots}
use Rattle.heap_model.specs.Image.{Image}
use Rattle.heap_seat.specs.View.{View as HeapView}
use Rattle.core_model.specs.Held.{AreApart}
use Rattle.core_model.specs.Opening.{setup_of}
use Rattle.core_model.proofs.HeldOnceLemmas.{held_once}
use Rattle.heap_table.specs.Plays.{HasSoundState}
use Rattle.heap_rule.specs.Left.{MayBeLeft, crashed, closed}
use Rattle.heap_rule.proofs.ClosedLemmas.{last_state, crashes, closes}
use Rattle.seat_model.specs.CacheState.{heap_view}
use Rattle.seat_model.proofs.HeldLemmas.{held_is, seat_law, mixed_law, named_law, stored_law}
use Rattle.dict_model.specs.Links.{shards}
use Rattle.dict_model.specs.Requests.{Request, put}
use Rattle.dict_requests.specs.Seats.{ShareHeap, MixesSeats}
use Rattle.run_model.specs.Sending.{Sent}
use Rattle.run_model.specs.Workers.{Replies, worker_of, root_owner}
use Rattle.run_model.specs.Runs.{IsOtherRoot}
use Rattle.run_model.specs.Stands.{StandsOver}
use Rattle.worker_parts.specs.Ending.{EndsIn, HasEnded, at_rest, in_arrival, in_request, not_begun}
use Rattle.run_outcome.specs.Together.{HaveWorked, IsLeftOf}
use Rattle.run_outcome.proofs.WorkerLemmas.{all_views, below_count, is_seat, view_at}
use Rattle.run_model.proofs.GoesOnLemmas.{stands_on}

-- however a worker's part has ended, what belongs to no shard stands in its seat
ends_stands : (image : Image) (left : List Request) (brought later : List Sent) (halted stopped : Bool) (v w : HeapView) → StandsOver image v
    → EndsIn left brought later halted stopped v w → StandsOver image w
ends_stands image left brought later halted stopped v w stands (at_rest begun none none_later same) = subst (StandsOver image) (sym same) stands
ends_stands image left brought later halted stopped v w stands (not_begun was none same) = subst (StandsOver image) (sym same) stands
ends_stands image left brought later halted stopped v w stands (in_request begun stop none request others first may) =
    stands_on image v w request stands may
ends_stands image left brought later halted stopped v w stands (in_arrival begun stop none next others first may) =
    stands_on image v w (put next.key next.value) stands may

ended_stands : (image : Image) (requests : List Request) (replies : Replies) (came brought : List Sent) (halted stopped : Bool) (v : HeapView)
    → HasEnded image requests replies came brought halted stopped v → StandsOver image v
ended_stands image requests replies came brought halted stopped v ended =
    ends_stands image ended.left brought ended.later halted stopped ended.before v ended.answered.stands ended.ends

-- a block is not apart from itself
not_apart : (b : Block) → 1 ≤ b.words → AreApart b b → ⊥
not_apart b some (inl before) = omega arith
not_apart b some (inr behind) = omega arith

one_of_workers : (workers root : ℕ) (of_shard : Bool) → 1 ≤ workers → cond of_shard (worker_of workers root) 0 < workers
one_of_workers workers root true some = mod-lt root (omega arith)
one_of_workers workers root false some = omega arith

module _ (words : List ℕ) (held : List Block) (workers budget : ℕ) (requests : List Request) (replies : Replies) (stopped : Bool)
    (now kept left : List ℕ)
    (h : HaveWorked words held workers budget requests replies stopped now kept left) where
  -- some sound state has a worker's last view
  pub has_state : (i : ℕ) → i < workers → HasSoundState (h.last i).view
  has_state i below = last_state (setup_of words budget workers) now kept (all_views h) h.closed i (h.last i).view (below_count h i below)
      (view_at h i (h.last i).view below) (is_seat h i below)

  pub may_be_left : (i : ℕ) → i < workers → MayBeLeft (h.last i).view (slice_index left)
  may_be_left i below = by_stop stopped h.left_is where
    by_stop : (b : Bool) → IsLeftOf b now kept left → MayBeLeft (h.last i).view (slice_index left)
    by_stop false is = closed (closes (setup_of words budget workers) now kept (all_views h) h.closed (slice_index left) is i (h.last i).view
        (below_count h i below) (view_at h i (h.last i).view below) (is_seat h i below))
    by_stop true is = crashed (crashes (setup_of words budget workers) now kept (all_views h) h.closed (slice_index left) is i (h.last i).view
        (below_count h i below) (view_at h i (h.last i).view below) (is_seat h i below))

  pub stands_last : (i : ℕ) → i < workers → StandsOver (slice_index words) (heap_view (h.last i))
  stands_last i below = ended_stands (slice_index words) _ (h.told i) (h.came i) (h.brought i) h.halted (h.stops i) (heap_view (h.last i))
      (h.parts i below).ended

  -- which worker has a root
  pub owner_below : (root : ℕ) → root_owner workers root < workers
  owner_below root = one_of_workers workers root (nat_lt root shards) h.some

  pub owns_root : (root : ℕ) → root < roots → Contains (h.last (root_owner workers root)).view.roots root
  owns_root root below = ((h.parts (root_owner workers root) (owner_below root)).roots_own root below).1 refl

  pub worker_below : (shard : ℕ) → worker_of workers shard < workers
  worker_below shard = one_of_workers workers shard true h.some

  pub owns_shard : (shard : ℕ) → shard < shards → Contains (h.last (worker_of workers shard)).view.roots shard
  owns_shard shard small = ((h.parts (worker_of workers shard) (worker_below shard)).roots_own shard (omega arith)).1
      (cond-true (nat_lt shard shards) (worker_of workers shard) 0 (lt-ltb shard shards small))

  pub owns_other : (root : ℕ) → IsOtherRoot root → root < roots → Contains (h.last 0).view.roots root
  owns_other root other below = ((h.parts 0 h.some).roots_own root below).1
      (cond-false (nat_lt root shards) (worker_of workers root) 0 (le-ltb root shards other))

  one_holder : (i j : ℕ) (b : Block) → i < workers → j < workers → Contains (heap_view (h.last i)).held b
      → Contains (heap_view (h.last j)).held b → i ≡ j
  one_holder i j b below_i below_j in_i in_j = elim (cases_eq j i) as (λ _. i ≡ j) [
    | inl same ↦ sym same
    | inr other ↦ absurd (not_apart b ((seat_law (h.last i)).placed b in_i).some
        ((held_once (setup_of words budget workers) (now ++ (kept ++ (h.closed.drawn ∷ []))) (all_views h) h.closed.sound).by_two i j
        (h.last i).view (h.last j).view other
        (below_count h i below_i) (view_at h i (h.last i).view below_i) (below_count h j below_j) (view_at h j (h.last j).view below_j)
        b b (held_is (h.last i).view (has_state i below_i) b in_i) (held_is (h.last j).view (has_state j below_j) b in_j)))
  ]

  pub share : ShareHeap workers (λ i. heap_view (h.last i))
  share = record {
    only = λ i below. (stands_last i below).only;
    owner = λ root below. (root_owner workers root, owner_below root, owns_root root below);
    one_holder = one_holder;
  }

  pub mixes : MixesSeats workers (λ i. heap_view (h.last i)) (slice_index left)
  mixes = record {
    mixes = λ i below. mixed_law (h.last i) (slice_index left) (may_be_left i below);
    names = λ i below. named_law (h.last i) (slice_index left) (may_be_left i below);
    kinds = λ i below. (stored_law (h.last i) (slice_index left) (may_be_left i below)).each;
  }
