-- Where a block goes that is freed in its class.
use Rattle.std.proofs.Common.{◌≡◌, ◌≢◌, ℕ, ◌+◌, inl, inr, List, ◌∷◌, length, set, Contains, refl, ap, subst, ◌∙◌, arith, get_or-set_same}
use Rattle.heap_model.specs.declared.block.Block.{Block}
use Rattle.heap_model.specs.Sizes.{IsClass, words_of_class, blocks_of}
use Rattle.heap_model.specs.Chains.{Walks}
use Rattle.heap_model.proofs.MemberLemmas.{head_or_rest}
use Rattle.heap_shape.specs.Shape.{with_at}
use Rattle.heap_shape.specs.Standing.{IsFirstOf}
use Rattle.heap_shape.specs.Moves.{TakesFrom}
use Rattle.heap_shape.proofs.BasicLemmas.{with_at_same}
use Rattle.line_memory.specs.View.{View, volatile_at}
use Rattle.block_heap.specs.declared.cache.Cache.{Cache}
use Rattle.block_heap.specs.declared.held.HeldBlocks.{HeldBlocks}
use Rattle.block_heap.specs.Held.{held_of, at_mark}
use Rattle.block_heap.specs.Medium.{StoresOnly, IsStored}
use Rattle.block_heap.specs.Parts.{Parts, held_in, cache_at}
use Rattle.block_heap.specs.Returns.{CachesAlong, CachesOnlyOf, CachesAllOf, CachesBlock, Flushes, below_limit, at_limit, FreesSmall}
use Rattle.block_heap.specs.Running.{IsRunning, CachesAreShort}
use Rattle.block_heap.proofs.FreeLemmas.{freed_parts, count_short, freed_shape}
use Rattle.block_heap.proofs.BlockRunLemmas.{cached_along}
use Rattle.heap_at_rest.proofs.ListLemmas.{one_walk}
use Rattle.block_heap.proofs.SmallLemmas.{other_cache}

module _ (p : Parts) (class : ℕ) (is : IsClass class) (run : IsRunning p) (b : Block) (holds : Contains (held_in p) b)
    (size : b.words ≡ words_of_class class)
    (h : HeldBlocks) (takes : TakesFrom (at_mark p.blocks b.first_word) (held_in p) (held_of h)) (words : h.words.items ≡ p.blocks.words.items)
    (start : h.start ≡ p.blocks.start) (cache : Cache) (cache_is : cache ≡ cache_at p.caches class) (w : View)
    (stored : IsStored b.first_word cache.first p.words w) (stores : StoresOnly (λ word. word ≡ b.first_word) p.words w)
    (short : CachesAreShort p 0) where
  abbrev q : Parts
  q = freed_parts p class is run b holds size h takes words start cache cache_is w stored stores short

  abbrev new : Cache
  new = record { first = b.first_word; count = cache.count + 1 }

  now : cache_at (set p.caches class new) class ≡ new
  now = let last = is.last in let long = run.caches_long in get_or-set_same p.caches class new (record { first = 0; count = 0 }) (omega arith)

  same_count : cache.count ≡ (cache_at p.caches class).count
  same_count = ap (λ (x : Cache). x.count) cache_is

  -- it is in front of the cache
  freed_caches : CachesBlock class b.first_word p q
  freed_caches = record {
    capacity = refl;
    cache = now ∙ ap (λ (x : Cache). record { first = b.first_word; count = x.count + 1 }) cache_is;
    caches = λ c is_c other. other_cache p.caches class new c other;
    volatile = stored.volatile ∙ ap (λ (x : Cache). set p.words.volatile b.first_word x.first) cache_is;
    drawn = let more = stored.runs_within.drew in let few = stored.runs_within.few in omega arith;
  }

  -- the cache leads along it and what it had
  freed_along : (ws : List ℕ) → CachesAlong class q ws → ws ≡ b.first_word ∷ run.shape.cached class
  freed_along ws along =
      let shape = freed_shape p class is run b holds size h takes words start cache cache_is w stored stores short in
      let walks : Walks (λ word. volatile_at w word) b.first_word (b.first_word ∷ run.shape.cached class) =
      subst (λ xs. Walks (λ word. volatile_at w word) b.first_word xs) (with_at_same run.shape.cached class (b.first_word ∷ run.shape.cached class))
      (subst (λ x. Walks (λ word. volatile_at w word) x (with_at run.shape.cached class (b.first_word ∷ run.shape.cached class) class))
      (with_at_same run.shape.start class b.first_word) (shape.walks class is)) in
      let first : (cache_at q.caches class).first ≡ b.first_word = ap (λ (x : Cache). x.first) now in
      let count : (cache_at q.caches class).count ≡ cache.count + 1 = ap (λ (x : Cache). x.count) now in
      let before : (cache_at p.caches class).count ≡ length (run.shape.cached class) = (run.caches class is).count in
      let same = same_count in
      let long = along.count in
      one_walk (λ word. volatile_at w word) b.first_word ws (b.first_word ∷ run.shape.cached class)
      (subst (λ x. Walks (λ word. volatile_at w word) x ws) first along.walks) walks (omega arith)

  -- so where it had all others of its superblock it has all
  freed_all : (d : ℕ) → IsFirstOf p.capacity class d b.first_word → (cache_at p.caches class).count + 1 ≡ blocks_of class → CachesOnlyOf class d p
      → CachesAllOf class d q
  freed_all d first count only = (
    (let many : (cache_at q.caches class).count ≡ cache.count + 1 = ap (λ (x : Cache). x.count) now in let same = same_count in omega arith),
    λ ws along word has.
        elim (head_or_rest b.first_word word (run.shape.cached class) (subst (λ xs. Contains xs word) (freed_along ws along) has))
        as (λ _. IsFirstOf p.capacity class d word) [
          | inl same ↦ subst (λ x. IsFirstOf p.capacity class d x) same first
          | inr before ↦ only (run.shape.cached class) (cached_along p class is run) word before
        ],
  )

  -- below the limit that is all
  pub frees_below : cache.count + 1 ≢ blocks_of class → FreesSmall class b.first_word p q
  frees_below not_all =
      let few = count_short p class is run b holds size h takes words start cache cache_is w stored stores short in
      let same = same_count in record {
        freed = below_limit (omega arith) freed_caches;
        all = λ d first count only. absurd (not_all (omega arith));
      }

  -- at the limit the cache is given back
  pub frees_at : (r : Parts) → cache.count + 1 ≡ blocks_of class → Flushes class q r → FreesSmall class b.first_word p r
  frees_at r full flushes = let same = same_count in record {
    freed = at_limit q (omega arith) freed_caches flushes;
    all = λ d first count only. flushes.all d (freed_all d first count only);
  }
