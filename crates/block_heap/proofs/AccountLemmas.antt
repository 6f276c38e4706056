-- No superblock is lost where words and held blocks stay, and where blocks are given back.
use Rattle.std.proofs.Common.{◌≡◌, ℕ, List, get_or, set, refl, sym, subst, arith, get_or-set_same}
use Rattle.heap_model.specs.declared.block.Block.{Block}
use Rattle.heap_model.specs.Sizes.{IsClass}
use Rattle.heap_shape.specs.Draining.{IsAccounted}
use Rattle.line_memory.specs.View.{View}
use Rattle.block_heap.specs.declared.small.CachePrefix.{CachePrefix}
use Rattle.block_heap.specs.Accounts.{AreAccounted}
use Rattle.block_heap.specs.Flush.{GivesBack}
use Rattle.block_heap.specs.Parts.{Parts, image_of, held_in}
use Rattle.block_heap.specs.Running.{IsRunning}
use Rattle.block_heap.proofs.SmallLemmas.{changed, other_cache}

-- parts of which loads see the same, with the same held blocks
pub accounted_same : (p q : Parts) → q.capacity ≡ p.capacity → q.words.volatile ≡ p.words.volatile → held_in q ≡ held_in p → AreAccounted p
    → AreAccounted q
accounted_same p q capacity volatile held before =
    subst (λ n. IsAccounted n (image_of q) (held_in q)) (sym capacity)
    (subst (λ (xs : List ℕ). IsAccounted p.capacity (λ word. get_or xs word 0) (held_in q)) (sym volatile)
    (subst (λ (blocks : List Block). IsAccounted p.capacity (image_of p) blocks) (sym held) before))

-- the cache is what was behind the prefix
pub gives_back : (p : Parts) (class : ℕ) (prefix : CachePrefix) (w : View) → IsClass class → IsRunning p
    → (AreAccounted p → AreAccounted (changed p w (set p.caches class prefix.rest) p.blocks))
    → GivesBack class prefix p (changed p w (set p.caches class prefix.rest) p.blocks)
gives_back p class prefix w is run accounted = record {
  cache =
      let last = is.last in
      let long = run.caches_long in
      get_or-set_same p.caches class prefix.rest (record { first = 0; count = 0 }) (omega arith);
  keeps = record {
    caches = λ c is_c other. other_cache p.caches class prefix.rest c other;
    used_look = refl;
    head_looks = refl;
    accounted = accounted;
  };
}
