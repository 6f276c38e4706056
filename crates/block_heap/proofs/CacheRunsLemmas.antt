-- The runs of a cache make up the whole cache.
use Rattle.std.proofs.Common.{◌≡◌, ℕ, ◌+◌, ◌≤◌, inl, inr, List, [], ◌∷◌, ◌++◌, length, get_or, Contains, refl, ap, sym, subst, ◌∙◌, arith, length-append}
use Rattle.std.specs.Prelude.{All}
use Rattle.std.proofs.lemmas.List.Elements.{All-nil, All-cons, All-head}
use Rattle.heap_model.specs.Geometry.{lists}
use Rattle.heap_model.specs.Sizes.{IsClass}
use Rattle.heap_model.specs.Chains.{Walks}
use Rattle.heap_model.proofs.MemberLemmas.{in_head}
use Rattle.heap_shape.specs.Effects.{IsInSuperblock}
use Rattle.heap_shape.proofs.BasicLemmas.{first_inside}
use Rattle.block_heap.specs.declared.cache.Cache.{Cache}
use Rattle.block_heap.specs.declared.small.CachePrefix.{CachePrefix}
use Rattle.block_heap.specs.BlockRuns.{BlockRun, IsRunOf, blocks_of_runs, AreLongest, GivesRun, GivesRuns}
use Rattle.block_heap.specs.Parts.{Parts, image_of, cache_at}
use Rattle.block_heap.specs.Returns.{GivesInRuns, GivesPrefix, IsLongest}
use Rattle.heap_at_rest.proofs.ListLemmas.{one_walk}

-- an empty cache has no run
pub runs_none : (class : ℕ) (q : Parts) → (cache_at q.caches class).count ≡ 0 → GivesInRuns class q q
runs_none class q empty = record {
  words = [];
  cached = record { walks = tt; count = empty };
  runs = [];
  cut = record { all = refl; each = All-nil (IsRunOf q.capacity class); longest = tt };
  gives = λ word. refl;
}

-- a walk begins in the first of two lists, if that has a block
begins_in : (next : ℕ → ℕ) (from : ℕ) (xs ys : List ℕ) → Walks next from (xs ++ ys) → 1 ≤ length xs → Contains xs from
begins_in next from [] ys walks some = absurd (omega arith)
begins_in next from (x ∷ xs) ys walks some = subst (λ y. Contains (x ∷ xs) y) (sym walks.0) (in_head x xs)

-- The longest prefix was given back, and then the rest of the cache.
module _ (class : ℕ) (q r t x : Parts) (capacity : r.capacity ≡ q.capacity) (volatile : r.words.volatile ≡ q.words.volatile)
    (cache : cache_at r.caches class ≡ cache_at q.caches class) (is : IsClass class) (prefix : CachePrefix) (longest : IsLongest prefix r)
    (gave : GivesPrefix class prefix r t) (now_capacity : t.capacity ≡ r.capacity) (now_cache : cache_at t.caches class ≡ prefix.rest)
    (back : GivesInRuns class t x) where
  abbrev first_run : BlockRun
  first_run = record { superblock = prefix.d; blocks = gave.blocks }

  rest_is : back.words ≡ gave.rest
  rest_is = one_walk (image_of t) (cache_at t.caches class).first back.words gave.rest back.cached.walks gave.now.walks
      (sym back.cached.count ∙ gave.now.count)

  same_capacity : t.capacity ≡ q.capacity
  same_capacity = now_capacity ∙ capacity

  -- the run behind it is of another superblock
  apart : (runs : List BlockRun) → All (IsRunOf t.capacity class) runs → blocks_of_runs runs ≡ back.words → AreLongest runs
      → AreLongest (first_run ∷ runs)
  apart [] each all behind = tt
  apart (next ∷ runs) each all behind = (
    λ same. elim longest as (λ _. ⊥) [
      | inl none ↦
          let long : length (next.blocks ++ blocks_of_runs runs) ≡ length back.words = ap length all in
          let both = length-append next.blocks (blocks_of_runs runs) in
          let counted = back.cached.count in
          let left : (cache_at t.caches class).count ≡ prefix.rest.count = ap (λ (c : Cache). c.count) now_cache in
          let some = next_is.some in
          omega arith
      | inr outside ↦ outside (subst (λ n. IsInSuperblock n prefix.d prefix.rest.first) now_capacity
          (subst (λ d. IsInSuperblock t.capacity d prefix.rest.first) (sym same) begins))
    ],
    behind,
  ) where
    next_is : IsRunOf t.capacity class next
    next_is = All-head (IsRunOf t.capacity class) next runs each

    begins : IsInSuperblock t.capacity next.superblock prefix.rest.first
    begins =
        let first : (cache_at t.caches class).first ≡ prefix.rest.first = ap (λ (c : Cache). c.first) now_cache in
        let has = begins_in (image_of t) (cache_at t.caches class).first next.blocks (blocks_of_runs runs)
        (subst (λ ws. Walks (image_of t) (cache_at t.caches class).first ws) (sym all) back.cached.walks) next_is.some in
        subst (λ word. IsInSuperblock t.capacity next.superblock word) first
        (first_inside t.capacity class next.superblock (cache_at t.caches class).first is (next_is.firsts (cache_at t.caches class).first has))

  pub runs_more : GivesInRuns class q x
  runs_more = record {
    words = gave.blocks ++ gave.rest;
    cached = record {
      walks = subst (λ (xs : List ℕ). Walks (λ k. get_or xs k 0) (cache_at q.caches class).first (gave.blocks ++ gave.rest)) volatile
          (subst (λ (c : Cache). Walks (image_of r) c.first (gave.blocks ++ gave.rest)) cache gave.cached.walks);
      count = ap (λ (c : Cache). c.count) (sym cache) ∙ gave.cached.count;
    };
    runs = first_run ∷ back.runs;
    cut = record {
      all = ap (λ ws. gave.blocks ++ ws) (back.cut.all ∙ rest_is);
      each = All-cons (IsRunOf q.capacity class) first_run back.runs (subst (λ n. IsRunOf n class first_run) capacity gave.is_run)
          (subst (λ n. All (IsRunOf n class) back.runs) same_capacity back.cut.each);
      longest = apart back.runs back.cut.each back.cut.all back.cut.longest;
    };
    gives = (
      image_of t,
      subst (λ n. GivesRun n class first_run (image_of q) (image_of t)) capacity
          (subst (λ (xs : List ℕ). GivesRun r.capacity class first_run (λ k. get_or xs k 0) (image_of t)) volatile gave.gives),
      subst (λ n. GivesRuns n class back.runs (image_of t) (image_of x)) same_capacity back.gives,
    );
  }
