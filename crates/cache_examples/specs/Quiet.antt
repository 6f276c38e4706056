-- Worked examples by computation: seats that keep nothing back, and what emptying all caches may do.
use Rattle.std.proofs.Common.{◌≡◌, ◌≤◌, ◌+◌, ℕ, [], ◌∷◌, Option, None, Some, false, length, refl, ap, sym, ◌∙◌, arith}
use Rattle.std.proofs.lemmas.List.{get_or-replicate}
use Rattle.core_model.specs.View.{Batch, View, of_class}
use Rattle.heap_seat.specs.Calls.{counted as counted_calls}
use Rattle.seat_model.specs.Emptied.{KeepsNothing}
use Rattle.seat_costs.proofs.IdleLemmas.{none_cached}
use Rattle.cache_flush.specs.All.{cached}
use Rattle.seat_model.specs.CacheState.{CacheState}
use Rattle.thread_cache.specs.Quiet.{HasEmptyCaches, IsQuietCall, as_large, does_nothing, had_stopped}
use Rattle.cache_examples.specs.Seats.{before, later, with_cached, with_held}

-- what it holds, owns, has looked at, counted and drawn keeps nothing back
pub holds_much : KeepsNothing (record (with_held (1080 ∷ []) (later 9 4 2 before)) {
  large = record { first = 1; count = 1 } ∷ [];
  roots = 5 ∷ [];
  seen_used = Some 2;
})
holds_much = record { idle = record { batch = refl; raw = refl; split = refl; cutting = refl; classed = refl }; empty = λ class is. none_cached 21 class }

-- a cached block, one in the batch, and a claim of each kind are kept back
pub keeps_a_cached_block : KeepsNothing (with_cached (1080 ∷ []) before) → ⊥
keeps_a_cached_block nothing = let e : 1 ≡ 0 = ap length (nothing.empty 20 (record { some = omega arith; last = omega arith })) in omega (arith, e)

pub keeps_one_of_class_1 : KeepsNothing (record before { caches = [] ∷ (1080 ∷ []) ∷ [] }) → ⊥
keeps_one_of_class_1 nothing = let e : 1 ≡ 0 = ap length (nothing.empty 1 (record { some = omega arith; last = omega arith })) in omega (arith, e)

pub keeps_a_batch : KeepsNothing (record before { batch = record { descriptor = 0; class = 0; blocks = 1080 ∷ []; linked = false } }) → ⊥
keeps_a_batch nothing = let e = ap (λ (b : Batch). b.blocks) nothing.idle.batch in absurd (cc)

pub keeps_a_claim : KeepsNothing (record before { raw = 0 ∷ [] }) → ⊥
keeps_a_claim nothing = let e = nothing.idle.raw in absurd (cc)

pub keeps_a_split_one : KeepsNothing (record before { split = 0 ∷ [] }) → ⊥
keeps_a_split_one nothing = let e = nothing.idle.split in absurd (cc)

pub keeps_one_being_cut : KeepsNothing (record before { cutting = 0 ∷ [] }) → ⊥
keeps_one_being_cut nothing = let e = nothing.idle.cutting in absurd (cc)

pub keeps_one_of_a_class : KeepsNothing (record before { classed = record { descriptor = 0; class = 20 } ∷ [] }) → ⊥
keeps_one_of_a_class nothing = let e = nothing.idle.classed in absurd (cc)

-- a seat whose caches are empty, and one that has a block
pub has_none : (s : CacheState) → s.view ≡ before → HasEmptyCaches s
has_none s same = record {
  each = λ class is. ap (λ (v : View). of_class v.caches class) same
      ∙ get_or-replicate 21 class [] [] (omega (arith, is.last));
}

pub has_one : (s : CacheState) → s.view ≡ with_cached (1080 ∷ []) before → HasEmptyCaches s → ⊥
has_one s same empty =
    let none : length (of_class s.view.caches 20) ≡ 0 = ap length (empty.each 20 (record { some = omega arith; last = omega arith })) in
    let one : length (of_class s.view.caches 20) ≡ 1 = ap (λ (v : View). length (of_class v.caches 20)) same in omega (arith, none, one)

-- with empty caches nothing changes: no ticket is drawn, and no call is counted
pub rests : (s : CacheState) → s.view ≡ before → IsQuietCall s s
rests s same = does_nothing (has_none s same) refl

pub stays : (s t : CacheState) → s.view ≡ before → IsQuietCall s t → t ≡ s
stays s t same (does_nothing empty is) = is
stays s t same (had_stopped ticket stopped is) = is
stays s t same (as_large some call refusals) = let none : cached s.view ≡ 0 = ap cached same in absurd (omega (arith, some, none))

pub draws_with_empty_caches : (s t : CacheState) → s.view ≡ before → t.view ≡ later 1 0 0 before → IsQuietCall s t → ⊥
draws_with_empty_caches s t same drew quiet =
    let draws : (later 1 0 0 before).draws ≡ before.draws = ap (λ (v : View). v.draws) (sym drew
    ∙ ap (λ (u : CacheState). u.view) (stays s t same quiet) ∙ same) in
    let e : 5 ≡ 4 = draws in omega (arith, e)

pub counts_with_empty_caches : (s t : CacheState) → s.view ≡ before → t.large_calls ≡ s.large_calls + 1 → IsQuietCall s t → ⊥
counts_with_empty_caches s t same counted quiet = let e = ap (λ (u : CacheState). u.large_calls) (stays s t same quiet) in omega (arith, counted, e)

-- and of a cached block, the call is counted as a large one
pub rests_with_a_block : (s t : CacheState) → s.view ≡ with_cached (1080 ∷ []) before → t.large_calls ≡ s.large_calls → IsQuietCall s t → ⊥
rests_with_a_block s t same counted (does_nothing empty is) = has_one s same empty
rests_with_a_block s t same counted (had_stopped ticket stopped is) =
    let going : s.view.stopped ≡ None = ap (λ (v : View). v.stopped) same in absurd (cc)
rests_with_a_block s t same counted (as_large some call refusals) = one_more s.view.stopped (ap (λ (v : View). v.stopped) same) call.large where
  one_more : (stopped : Option ℕ) → stopped ≡ None → t.large_calls ≡ counted_calls stopped s.large_calls → ⊥
  one_more None going large = omega (arith, counted, large)
  one_more (Some ticket) going large = absurd (cc)

-- which takes no superblock
pub takes_one : (s t : CacheState) → s.view ≡ with_cached (1080 ∷ []) before → t.view ≡ record (later 8 1 1 before) { taken = 1 } → IsQuietCall s t → ⊥
takes_one s t same took (does_nothing empty is) = has_one s same empty
takes_one s t same took (had_stopped ticket stopped is) =
    let going : s.view.stopped ≡ None = ap (λ (v : View). v.stopped) same in absurd (cc)
takes_one s t same took (as_large some call refusals) =
    let few : t.view.taken ≤ s.view.taken + 0 = call.few in
    let none : s.view.taken ≡ 0 = ap (λ (v : View). v.taken) same in
    let one : t.view.taken ≡ 1 = ap (λ (v : View). v.taken) took in
    omega (arith, few, none, one)
