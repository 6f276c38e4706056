-- The first block of a cache: where it lies, and what handing it out leaves.
use Rattle.std.proofs.Common.{◌≡◌, ℕ, ◌+◌, ◌-◌, ◌*◌, ◌/◌, ◌%◌, ◌<◌, ◌≤◌, ◌⊎◌, inl, inr, nat_eq, eqb-true, List, [], ◌∷◌, length, get_or, set, Contains, refl, ap, sym, subst, ◌∙◌, arith, get_or-set_same, length-set}
use Rattle.heap_model.specs.declared.block.Block.{Block}
use Rattle.heap_model.specs.Geometry.{head_word, info_word, start_word, image_words}
use Rattle.heap_model.specs.Sizes.{IsClass, class_sizes, words_of_class, blocks_of}
use Rattle.heap_model.specs.Words.{head_pops}
use Rattle.heap_model.specs.Chains.{Walks}
use Rattle.heap_model.proofs.MemberLemmas.{in_head}
use Rattle.heap_model.proofs.PartLemmas.{same_fields}
use Rattle.heap_model.proofs.SizeLemmas.{at_class}
use Rattle.heap_shape.specs.Shape.{in_list, is_full}
use Rattle.heap_shape.specs.Standing.{IsFirstOf}
use Rattle.heap_shape.specs.Whole.{IsShape}
use Rattle.heap_shape.specs.Effects.{IsInSuperblock}
use Rattle.heap_shape.specs.Moves.{AddsTo, with_cache}
use Rattle.heap_shape.proofs.BasicLemmas.{first_inside, cached_of_class}
use Rattle.heap_shape.proofs.CacheLemmas.{pop_block}
use Rattle.heap_shape.proofs.PopDrainLemmas.{pop_block_drains}
use Rattle.line_memory.specs.View.{View, volatile_at}
use Rattle.block_heap.specs.declared.cache.Cache.{Cache}
use Rattle.block_heap.specs.declared.held.HeldBlocks.{HeldBlocks}
use Rattle.block_heap.specs.Held.{held_of, HasMark, at_mark}
use Rattle.block_heap.specs.Medium.{StoresOnly, IsLoaded}
use Rattle.block_heap.specs.Parts.{Parts, image_of, held_in, cache_at}
use Rattle.block_heap.specs.Running.{IsRunning, LeavesHeld}
use Rattle.block_heap.specs.Steps.{PopsBlock}
use Rattle.block_heap.proofs.SmallLemmas.{changed, running_after, keeps_fixed, caches_set, other_cache, leaves_held_of}

-- blocks have an even number of words
pub even_words : (class : ℕ) → IsClass class → words_of_class class % 2 ≡ 0
unfolding words_of_class class_sizes
even_words class is = eqb-true (words_of_class class % 2) 0 (at_class (λ c. nat_eq (words_of_class c % 2) 0) refl class is)

pub even_product : (index words : ℕ) → words % 2 ≡ 0 → (index * words) % 2 ≡ 0
even_product index words even =
    let half : words ≡ 2 * (words / 2) = omega arith in
    let product : index * words ≡ index * (2 * (words / 2)) = ap (λ x. index * x) half in
    omega arith

-- a first word of a block of superblock d
module _ (p : Parts) (class d word : ℕ) (is : IsClass class) (run : IsRunning p) (within : d < p.capacity)
    (first : IsFirstOf p.capacity class d word) where
  first_in : IsInSuperblock p.capacity d word
  first_in = first_inside p.capacity class d word is first

  pub first_below : word < image_words p.capacity
  first_below = let until = first_in.until in omega arith

  pub first_from : start_word p.capacity 0 ≤ word
  first_from = let from = first_in.from in omega arith

  pub first_of_d : (word - start_word p.capacity 0) / 8192 ≡ d
  first_of_d = let from = first_in.from in let until = first_in.until in omega arith

  pub first_mark : (h : HeldBlocks) → h.start ≡ p.blocks.start → h.words.items ≡ p.blocks.words.items → HasMark h word
  first_mark h start words =
      let from = first_in.from in
      let until = first_in.until in
      let begins = start ∙ run.sizes.start in
      let long : length h.words.items ≡ p.capacity = ap (λ (xs : List ℕ). length xs) words ∙ run.sizes.long in
      let product = even_product first.index (words_of_class class) (even_words class is) in
      let at = first.at in
      record { from = omega arith; until = omega arith; even = omega arith }

-- the first block of a cache that has one
pub record IsFirstCached (p : Parts) (class : ℕ) (run : IsRunning p) (first : ℕ) : Type 0 where
  pub behind : List ℕ
  pub cached : run.shape.cached class ≡ first ∷ behind
  pub d : ℕ
  pub within : d < p.capacity
  pub is_first : IsFirstOf p.capacity class d first
  pub info : image_of p (info_word d) ≡ class
  pub place : (run.shape.place d ≡ in_list class) ⊎ (run.shape.place d ≡ is_full)

-- a cached block
pub cached_where : (p : Parts) (class : ℕ) (is : IsClass class) (run : IsRunning p) (first : ℕ) (behind : List ℕ)
    → run.shape.cached class ≡ first ∷ behind
    → IsFirstCached p class run first
cached_where p class is run first behind e =
    let has : Contains (run.shape.cached class) first = subst (λ xs. Contains xs first) (sym e) (in_head first behind) in
    let found = run.is.cached class first is has in
    let of = cached_of_class p.capacity (image_of p) (held_in p) run.shape run.is class first is has in
    record {
      behind = behind;
      cached = e;
      d = found.superblock;
      within = found.within;
      is_first = found.is_first;
      info = of.info;
      place = elim found.place as (λ _. (run.shape.place found.superblock ≡ in_list class) ⊎ (run.shape.place found.superblock ≡ is_full))
          [ inl listed ↦ inl listed | inr full ↦ inr full.0 ];
    }

some_cached : (p : Parts) (class : ℕ) (is : IsClass class) (run : IsRunning p) (first : ℕ) (words : List ℕ) → run.shape.cached class ≡ words
    → 1 ≤ length words → Walks (image_of p) first words
    → IsFirstCached p class run first
some_cached p class is run first [] e some walks = absurd (omega arith)
some_cached p class is run first (w ∷ ws) e some walks = cached_where p class is run first ws (e ∙ ap (λ x. x ∷ ws) (sym walks.0))

pub first_cached : (p : Parts) (class : ℕ) (is : IsClass class) (run : IsRunning p) (cache : Cache) → cache ≡ cache_at p.caches class
    → 1 ≤ (cache_at p.caches class).count → IsFirstCached p class run cache.first
first_cached p class is run cache e some =
    let of = run.caches class is in
    let count : (cache_at p.caches class).count ≡ length (run.shape.cached class) = of.count in
    let first : cache.first ≡ run.shape.start class = ap (λ (x : Cache). x.first) e ∙ of.first in
    subst (λ x. IsFirstCached p class run x) (sym first)
    (some_cached p class is run (run.shape.start class) (run.shape.cached class) refl (omega arith) (run.is.walks class is))

-- the block that begins there has the words of the class
pub cached_block : (p : Parts) (class : ℕ) (is : IsClass class) (run : IsRunning p) (first : ℕ) (h : HeldBlocks) → IsFirstCached p class run first
    → h.start ≡ p.blocks.start → h.words.items ≡ p.blocks.words.items
    → at_mark h first ≡ record { first_word = first; words = words_of_class class }
cached_block p class is run first h cached start words =
    let begins : h.start ≡ start_word p.capacity 0 = start ∙ run.sizes.start in
    let d_is : (first - h.start) / 8192 ≡ cached.d = ap (λ x. (first - x) / 8192) begins ∙ first_of_d p class cached.d first is run cached.within
    cached.is_first in
    let e = cached.info in
    let known : get_or p.blocks.words.items cached.d 0 ≡ words_of_class (image_of p (info_word cached.d)) =
    run.sizes.sizes cached.d cached.within (subst IsClass (sym e) is)
    (subst (λ c. (run.shape.place cached.d ≡ in_list c) ⊎ (run.shape.place cached.d ≡ is_full)) (sym e) cached.place) in
    let size : get_or h.words.items ((first - h.start) / 8192) 0 ≡ words_of_class class =
    ap (λ k. get_or h.words.items k 0) d_is ∙ ap (λ (xs : List ℕ). get_or xs cached.d 0) words ∙ known ∙ ap words_of_class e in
    same_fields (at_mark h first) (record { first_word = first; words = words_of_class class }) refl size

-- the first block of the cache was popped
module _ (p : Parts) (class : ℕ) (is : IsClass class) (run : IsRunning p) (cache : Cache) (cache_is : cache ≡ cache_at p.caches class)
    (some : 1 ≤ (cache_at p.caches class).count)
    (w : View) (next : ℕ) (h : HeldBlocks) (loaded : IsLoaded cache.first next p.words w) (stores : StoresOnly (λ _. ⊥) p.words w)
    (adds : AddsTo (at_mark p.blocks cache.first) (held_in p) (held_of h)) (words : h.words.items ≡ p.blocks.words.items)
    (start : h.start ≡ p.blocks.start) where
  abbrev pub popped_cache : Cache
  popped_cache = record { first = next; count = cache.count - 1 }

  abbrev pub popped_parts : Parts
  popped_parts = changed p w (set p.caches class popped_cache) h

  front : IsFirstCached p class run cache.first
  front = first_cached p class is run cache cache_is some

  abbrev block : Block
  block = record { first_word = cache.first; words = words_of_class class }

  adds_block : AddsTo block (held_in p) (held_of h)
  adds_block = subst (λ b. AddsTo b (held_in p) (held_of h)) (cached_block p class is run cache.first p.blocks front refl refl) adds

  count_is : cache.count ≡ length front.behind + 1
  count_is =
      let of = run.caches class is in
      let e : cache.count ≡ (cache_at p.caches class).count = ap (λ (x : Cache). x.count) cache_is in
      let c : (cache_at p.caches class).count ≡ length (run.shape.cached class) = of.count in
      let l : length (run.shape.cached class) ≡ length (cache.first ∷ front.behind) = ap (λ (xs : List ℕ). length xs) front.cached in
      omega arith

  few_behind : length front.behind ≤ blocks_of class
  few_behind =
      let of = run.caches class is in
      let most : (cache_at p.caches class).count ≤ blocks_of class = of.most in
      let e : cache.count ≡ (cache_at p.caches class).count = ap (λ (x : Cache). x.count) cache_is in
      let n = count_is in
      omega arith

  shape_after : IsShape p.capacity (λ word. volatile_at w word) (held_of h) (with_cache run.shape class next front.behind)
      × (Contains (held_in p) block → ⊥)
  shape_after =
      let both = pop_block p.capacity class cache.first (image_of p) (held_in p)
      (held_of h) run.shape front.behind is run.is front.cached adds_block in (
        subst (λ (xs : List ℕ). IsShape p.capacity (λ word. get_or xs word 0) (held_of h) (with_cache run.shape class next front.behind))
            (sym loaded.volatile)
            (subst (λ x. IsShape p.capacity (image_of p) (held_of h) (with_cache run.shape class x front.behind)) (sym loaded.seen) both.0),
        both.1,
      )

  pub popped_running : IsRunning popped_parts
  popped_running = running_after p w (set p.caches class popped_cache) h (with_cache run.shape class next front.behind) run
      (keeps_fixed p w (λ _. ⊥) run stores loaded.runs_within.running loaded.runs_within.below (λ d within out. out) (λ out. out)
      (λ list less. ap head_pops (stores.volatile (head_word list) (λ out. out))))
      (length-set p.caches class popped_cache ∙ run.caches_long) start words shape_after.0
      (caches_set p run class (with_cache run.shape class next front.behind) next front.behind popped_cache is refl
      (let n = count_is in omega arith) few_behind (λ c. refl) (λ c. refl))
      (λ d within is_class place. place)

  pub popped_block : (b : Block) → b ≡ at_mark h cache.first → PopsBlock class b p popped_parts
  popped_block b is_b =
      let e : b ≡ block = is_b ∙ cached_block p class is run cache.first h front start words in
      let last = is.last in
      let long = run.caches_long in
      let now : cache_at (set p.caches class popped_cache) class ≡ popped_cache = get_or-set_same p.caches class popped_cache
      (record { first = 0; count = 0 }) (omega arith) in
      let now_count : (cache_at (set p.caches class popped_cache) class).count ≡ cache.count - 1 = ap (λ (x : Cache). x.count) now in
      let was : cache.count ≡ (cache_at p.caches class).count = ap (λ (x : Cache). x.count) cache_is in
      subst (λ x. PopsBlock class x p popped_parts) (sym e)
      (record {
        running = popped_running;
        size = refl;
        adds = adds_block;
        new = shape_after.1;
        at = ap (λ (x : Cache). x.first) cache_is;
        next = ap (λ (x : Cache). x.first) now ∙ loaded.seen;
        count = omega arith;
        caches = λ c is_c other. other_cache p.caches class popped_cache c other;
        drains = pop_block_drains p.capacity class cache.first (image_of p) (held_in p)
            (held_of h) run.shape front.behind is run.is front.cached adds_block;
        volatile = loaded.volatile;
        drawn = let more = loaded.runs_within.drew in let few = loaded.runs_within.few in omega arith;
        taken = refl;
      })

  pub popped_leaves_held : LeavesHeld (held_in p) p popped_parts
  popped_leaves_held = leaves_held_of p popped_parts (held_in p) (λ _. ⊥) run refl refl refl (λ word out. absurd out) (λ out. out) stores
