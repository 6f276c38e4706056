-- Walking a class list until a superblock has free blocks: what holds after each look.
use Rattle.std.proofs.Common.{◌≡◌, ℕ, ◌+◌, ◌*◌, ◌<◌, ◌≤◌, ◌⊎◌, inl, inr, true, false, List, ◌∷◌, length, get_or, refl, ap, sym, subst, ◌∙◌, arith}
use Rattle.heap_model.specs.declared.block.Block.{Block}
use Rattle.heap_model.specs.Geometry.{lists, head_word, link_word, used_word, largest_capacity}
use Rattle.heap_model.specs.Sizes.{IsClass}
use Rattle.heap_model.specs.Words.{head_first}
use Rattle.heap_shape.specs.Draining.{DrainsSame}
use Rattle.heap_shape.proofs.CountLemmas.{few_listed}
use Rattle.heap_at_rest.proofs.ListLemmas.{one_following}
use Rattle.heap_seat.specs.declared.look.Look.{Look}
use Rattle.block_heap.specs.declared.refill.Found.{Found}
use Rattle.block_heap.specs.declared.refill.Found.TheVariants.{Blocks, Recycled, Nothing}
use Rattle.block_heap.specs.Medium.{RunsWithin, StopsWithin}
use Rattle.block_heap.specs.Parts.{Parts, OnlyLooks, image_of, held_in, cache_at}
use Rattle.block_heap.specs.Refill.{FindsPartial}
use Rattle.block_heap.specs.Running.{IsRunning, LeavesHeld}
use Rattle.block_heap.specs.Lists.{head_at, IsEmptyList, LeadsAlong}
use Rattle.block_heap.specs.Steps.{look_at, IsLook, IsRefilling, FindsFirst, FindsEmpty, Recycles, Spends, used_up}
use Rattle.block_heap.specs.Order.{MovesEmpty, OrdersFirst, OrdersPartial}
use Rattle.block_heap.proofs.OrderLemmas.{moves_none, moves_then, moves_same, takes_after, nothing_in_empty}
use Rattle.block_heap.proofs.SpendLemmas.{spends_none, spends_then}
use Rattle.block_heap.proofs.RefillLemmas.{leaves_held_same, drains_none, drains_then, leaves_held_all}

-- nothing done yet, and two rows of steps
pub refilling_none : (class : ℕ) (p : Parts) → IsRunning p → IsRefilling class p p
refilling_none class p run = record {
  running = run;
  held = refl;
  caches = λ c is other. refl;
  heads = λ c is other. refl;
  lists = λ c is other ds leads. leads;
  drains = drains_none p.capacity class (held_in p) (image_of p);
}

pub refilling_then : (class : ℕ) (p u q : Parts) → u.capacity ≡ p.capacity → IsRefilling class p u → IsRefilling class u q → IsRefilling class p q
refilling_then class p u q capacity a b = record {
  running = b.running;
  held = b.held ∙ a.held;
  caches = λ c is other. b.caches c is other ∙ a.caches c is other;
  heads = λ c is other. b.heads c is other ∙ a.heads c is other;
  lists = λ c is other ds leads. b.lists c is other ds (a.lists c is other ds leads);
  drains = drains_then p.capacity class (held_in p) (image_of p) (image_of u) (image_of q) a.drains
      (subst (λ n. DrainsSame n class (held_in p) (image_of u) (image_of q)) capacity
      (subst (λ (h : List Block). DrainsSame u.capacity class h (image_of u) (image_of q)) a.held b.drains));
}

-- a list is as empty as it was where loads see the same words
pub empty_same : (p q : Parts) (list : ℕ) → q.words.volatile ≡ p.words.volatile → IsEmptyList p list → IsEmptyList q list
empty_same p q list same none = subst (λ (xs : List ℕ). head_first (get_or xs (head_word list) 0) ≡ 0) (sym same) none

-- a look is the last one later too
pub look_later : (from first : ℕ) (p q : Parts) (look : Look) (seen : ℕ) → first ≤ from → p.words.drawn ≤ q.words.drawn → q.taken ≡ p.taken
    → IsLook from p look seen → IsLook first q look seen
look_later from first p q look seen before later same is = record {
  seen_is = is.seen_is;
  ticket = is.ticket;
  by = is.by;
  since = let since = is.since in omega arith;
  until = let until = is.until in omega arith;
  taken_is = is.taken_is ∙ sym same;
}

-- on the way along the list of the class: what was found there went to the free list, and eight steps for each that is left are few
pub record Walked (class : ℕ) (p q : Parts) : Type 0 where
  pub refilling : IsRefilling class p q
  pub leaves_held : LeavesHeld (held_in p) p q
  pub empty : (cache_at q.caches class).count ≡ 0
  pub taken : q.taken ≡ p.taken
  pub used : image_of q used_word ≡ image_of p used_word
  pub way : (q ≡ p) ⊎ ((IsEmptyList q 0 → ⊥) × (IsEmptyList p class → ⊥))
  pub moves : MovesEmpty class p q
  pub left : Spends 0 class p q
  pub few : (ds : List ℕ) → LeadsAlong q class ds → q.words.drawn + 8 * length ds ≤ p.words.drawn + 8 * largest_capacity

pub walk_begins : (class : ℕ) (p : Parts) → IsClass class → IsRunning p → (cache_at p.caches class).count ≡ 0 → Walked class p p
walk_begins class p is run empty = record {
  refilling = refilling_none class p run;
  leaves_held = leaves_held_same p;
  empty = empty;
  taken = refl;
  used = refl;
  way = inl refl;
  moves = moves_none class p;
  left = spends_none class p p refl refl;
  few = λ ds leads.
      let below : class < lists = let last = is.last in omega arith in
      let same : run.shape.listed class ≡ ds = one_following (λ d. image_of p (link_word d)) p.capacity (head_first (head_at p class))
      (run.shape.listed class) ds (run.is.follows class below) leads in
      let long : length (run.shape.listed class) ≡ length ds = ap length same in
      let most = few_listed p.capacity (image_of p) (held_in p) run.shape run.is class below in
      let small = run.is.small in
      omega arith;
}

-- one more look at the first of the list
module _ (class : ℕ) (p q r : Parts) (is : IsClass class) (walked : Walked class p q) (leaves_held : LeavesHeld (held_in q) q r)
    (held : held_in r ≡ held_in q)
    (taken : r.taken ≡ q.taken) where
  begun : p.words.drawn ≤ q.words.drawn
  begun = walked.leaves_held.as_allocator.stores.drawn

  -- so far few steps were done
  so_far : q.words.drawn ≤ p.words.drawn + 8 * largest_capacity
  so_far =
      let run = walked.refilling.running in
      let few = walked.few (run.shape.listed class) (run.is.follows class (let last = is.last in omega arith)) in
      omega arith

  was_some : (IsEmptyList q class → ⊥) → IsEmptyList p class → ⊥
  was_some some none = elim walked.way as (λ _. ⊥) [
    | inl same ↦ some (subst (λ x. IsEmptyList x class) (sym same) none)
    | inr way ↦ way.1 none
  ]

  pub walk_leaves_held : LeavesHeld (held_in p) p r
  walk_leaves_held = leaves_held_all p q r walked.refilling.held walked.leaves_held leaves_held

  pub walk_stops_within : (ticket : ℕ) → StopsWithin ticket 8 q.words r.words → StopsWithin ticket (8 * largest_capacity + 8) p.words r.words
  walk_stops_within ticket stops_within =
      let from = stops_within.from in
      let few = stops_within.few in
      let first = begun in
      let most = so_far in
      record {
        stopped = stops_within.stopped;
        above = stops_within.above;
        from = omega arith;
        until = stops_within.until;
        last = stops_within.last;
        few = omega arith;
      }

  pub walk_held : held_in r ≡ held_in p
  walk_held = held ∙ walked.refilling.held

  pub walk_taken : r.taken ≡ p.taken
  walk_taken = taken ∙ walked.taken

  -- how many superblocks are left
  pub walk_left : (count : ℕ) (found : Found) → Spends (used_up found) class q r → count ≤ used_up found → Spends count class p r
  walk_left count found spends few = spends_then count 0 (used_up found) class p q r (omega arith) walked.left spends

  -- what was found after those with nothing to give
  pub walk_takes : (found : Found) → found ≡ Blocks → OrdersFirst class found q r → OrdersPartial class true p r
  walk_takes found is_found orders =
      let takes = subst (λ f. OrdersFirst class f q r) is_found orders in
      (takes.0, takes_after class takes.0 p q r walked.moves walked.taken takes.1)

  pub walk_nothing : (found : Found) → found ≡ Nothing → FindsFirst class found q r → OrdersPartial class false p r
  walk_nothing found is_found found_first =
      let finds = subst (λ f. FindsFirst class f q r) is_found found_first in (
        moves_then class p q r walked.moves (moves_same class q r leaves_held.capacity finds.1.volatile),
        walked.moves.nothing (nothing_in_empty class q finds.1.empty),
      )

  pub walk_finds : (found : Found) → found ≡ Nothing → FindsFirst class found q r → FindsPartial class false p r
  walk_finds found is_found found_first = nothing (subst (λ f. FindsFirst class f q r) is_found found_first) where
    nothing : FindsFirst class Nothing q r → FindsPartial class false p r
    nothing first =
        let finds : FindsEmpty class q r = first.1 in
        let same = finds.volatile in
        let from = begun in (
          first.0,
          (
            empty_same q r class same finds.empty,
            look_later q.words.drawn p.words.drawn r r (look_at r class) (head_at r class) (omega arith) (omega arith) refl finds.look,
          ),
          ap (λ (xs : List ℕ). get_or xs used_word 0) same ∙ walked.used,
          (λ none. elim walked.way as (λ _. IsEmptyList p 0 × IsEmptyList p class) [
            | inl still ↦ subst (λ x. IsEmptyList x 0 × IsEmptyList x class) still (empty_same r q 0 (sym same) none, finds.empty)
            | inr way ↦ absurd (way.0 (empty_same r q 0 (sym same) none))
          ]),
          (λ none. elim walked.way as (λ _. OnlyLooks 1 p r) [
            | inl still ↦ subst (λ x. OnlyLooks 1 x r) still finds.only
            | inr way ↦ absurd (way.1 none)
          ]),
        )

  module _ (refilling : IsRefilling class q r) (runs_within : RunsWithin 8 q.words r.words) where
    pub walk_runs_within : RunsWithin (8 * largest_capacity + 8) p.words r.words
    walk_runs_within =
        let drew = runs_within.drew in
        let few = runs_within.few in
        let first = begun in
        let most = so_far in
        record { running = runs_within.running; drew = omega arith; few = omega arith; below = runs_within.below }

    pub walk_refilling : IsRefilling class p r
    walk_refilling = refilling_then class p q r walked.leaves_held.capacity walked.refilling refilling

    pub walk_more : (found : Found) → found ≡ Recycled → FindsFirst class found q r → OrdersFirst class found q r → Spends (used_up found) class q r
        → Walked class p r
    walk_more found is_found found_first orders spends = by_first (subst (λ f. FindsFirst class f q r) is_found found_first) where
      by_first : FindsFirst class Recycled q r → Walked class p r
      by_first first = more first.0 first.1 where
        more : (cache_at r.caches class).count ≡ 0 → Recycles class q r → Walked class p r
        more empty recycles = record {
          refilling = walk_refilling;
          leaves_held = walk_leaves_held;
          empty = empty;
          taken = walk_taken;
          used = recycles.used ∙ walked.used;
          way = inr (recycles.now, was_some recycles.some);
          moves = moves_then class p q r walked.moves (subst (λ f. OrdersFirst class f q r) is_found orders);
          left = walk_left 0 found spends (omega arith);
          few = λ ds leads.
              let before = recycles.shorter ds leads in
              let few = walked.few (before.0 ∷ ds) before.1 in
              let most = runs_within.few in
              omega arith;
        }
