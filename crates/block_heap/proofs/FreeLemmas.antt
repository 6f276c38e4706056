-- What freeing a held block into the cache of its class makes of the parts of a heap.
use Rattle.std.proofs.Common.{◌≡◌, ◌≢◌, ℕ, zero, suc, ◌+◌, ◌-◌, ◌*◌, ◌/◌, ◌<◌, ◌≤◌, ◌⊎◌, inl, inr, List, ◌∷◌, length, get_or, set, Contains, refl, ap, sym, subst, ◌∙◌, arith, get_or-set_same, length-set}
use Rattle.std.proofs.lemmas.Bool.{cases_eq}
use Rattle.heap_model.specs.declared.block.Block.{Block}
use Rattle.heap_model.specs.Geometry.{head_word, info_word, used_word, start_word, superblocks_end, image_words}
use Rattle.heap_model.specs.Image.{Image}
use Rattle.heap_model.specs.Sizes.{IsClass, words_of_class, blocks_of}
use Rattle.heap_model.specs.Blocks.{IsBlock, IsIn}
use Rattle.heap_model.specs.Recovered.{HasPartIn}
use Rattle.heap_model.specs.Words.{head_pops}
use Rattle.heap_model.proofs.BlockLemmas.{block_inside, never_overlap}
use Rattle.heap_model.proofs.PartLemmas.{cases_of_part, same_fields}
use Rattle.heap_model.proofs.SizeLemmas.{two_words, few_words, four_blocks, few_blocks}
use Rattle.heap_at_rest.proofs.PartLemmas.{part_taken}
use Rattle.heap_shape.specs.Shape.{Place, in_list, is_full, in_large, is_new, Shape}
use Rattle.heap_shape.specs.Standing.{IsAs}
use Rattle.heap_at_rest.specs.Draining.{HasNoHeld, layout_at}
use Rattle.heap_shape.specs.Whole.{IsShape}
use Rattle.heap_shape.specs.Effects.{IsInSuperblock}
use Rattle.heap_shape.specs.Moves.{TakesFrom, with_cache}
use Rattle.heap_shape.proofs.AccountLemmas.{accounted_kept, accounted_without}
use Rattle.heap_shape.proofs.FreeSmallLemmas.{free_small}
use Rattle.heap_shape.proofs.OwnLemmas.{class_block}
use Rattle.line_memory.specs.View.{View, volatile_at}
use Rattle.block_heap.specs.declared.cache.Cache.{Cache}
use Rattle.block_heap.specs.declared.held.HeldBlocks.{HeldBlocks}
use Rattle.block_heap.specs.Accounts.{AreAccounted}
use Rattle.block_heap.specs.Held.{held_of, HasMark, at_mark}
use Rattle.block_heap.specs.Medium.{StoresOnly, IsStored, RunsWithin}
use Rattle.block_heap.specs.Parts.{Parts, image_of, held_in, cache_at}
use Rattle.block_heap.specs.Running.{IsRunning, CachesAreShort, LeavesHeld}
use Rattle.block_heap.specs.Flush.{KeepsAll}
use Rattle.block_heap.specs.AllocatorWords.{IsAllocatorWord, is_inside}
use Rattle.block_heap.proofs.RunningLemmas.{set_is}
use Rattle.block_heap.proofs.LookLemmas.{looks_of}
use Rattle.block_heap.proofs.SmallLemmas.{changed, KeepsFixed, keeps_fixed, running_after, caches_set, other_cache, leaves_held_of, leaves_held_then}
use Rattle.block_heap.proofs.CachedBlockLemmas.{even_words, even_product}
use Rattle.block_heap.specs.Draws.{most_free_draws}

-- a superblock of a class with a held block stands in the list of its class, or is full
place_known : (capacity : ℕ) (image : Image) (s : Shape) (held : List Block) (d : ℕ) (place : Place) → IsClass (image (info_word d))
    → d < image used_word
    → (HasNoHeld capacity held d → ⊥)
    → IsAs capacity image s held d place → (place ≡ in_list (image (info_word d))) ⊎ (place ≡ is_full)
place_known capacity image s held d (in_list zero) is taken some free = absurd (some free.none)
place_known capacity image s held d (in_list (suc c)) is taken some listed = inl (ap in_list (sym listed.of_class.info))
place_known capacity image s held d is_full is taken some full = inr refl
place_known capacity image s held d in_large is taken some large = absurd (large.no_class is)
place_known capacity image s held d is_new is taken some new = absurd (let past = new.past in omega arith)

-- a held block of the class
module _ (p : Parts) (class : ℕ) (is : IsClass class) (run : IsRunning p) (b : Block) (holds : Contains (held_in p) b)
    (size : b.words ≡ words_of_class class) where
  named : IsBlock (layout_at p.capacity (image_of p)) b
  named = run.is.named b holds

  where_is : (d : ℕ) × (d < p.capacity) × (image_of p (info_word d) ≡ class) × IsInSuperblock p.capacity d b.first_word
  where_is = class_block p.capacity class (image_of p) (held_in p) run.shape b run.is is holds size

  inside : (start_word p.capacity 0 ≤ b.first_word) × (b.first_word + b.words ≤ start_word p.capacity (image_of p used_word))
  inside = block_inside (layout_at p.capacity (image_of p)) b named

  part : HasPartIn p.capacity b where_is.0
  part =
      let from = where_is.3.from in
      let until = where_is.3.until in
      let two = two_words class is in
      record { begins = omega arith; ends = omega arith }

  pub held_below : b.first_word < image_words p.capacity
  held_below = let used = run.is.used in let two = two_words class is in let until = inside.1 in omega arith

  pub held_mark : HasMark p.blocks b.first_word
  held_mark =
      let used = run.is.used in
      let two = two_words class is in
      let from = inside.0 in
      let until = inside.1 in
      let begins = run.sizes.start in
      let long = run.sizes.long in
      let of = named.is_of in
      let at : b.first_word ≡ start_word p.capacity named.superblock + named.index * words_of_class class =
      of.at ∙ ap (λ w. start_word p.capacity named.superblock + named.index * w) (sym of.size ∙ size) in
      let even = even_product named.index (words_of_class class) (even_words class is) in
      record { from = omega arith; until = omega arith; even = omega arith }

  -- it is the block of its mark
  pub held_at : at_mark p.blocks b.first_word ≡ b
  held_at =
      let d = where_is.0 in
      let e : image_of p (info_word d) ≡ class = where_is.2 in
      let is_class : IsClass (image_of p (info_word d)) = subst IsClass (sym e) is in
      let from = where_is.3.from in
      let until = where_is.3.until in
      let begins = run.sizes.start in
      let d_is : (b.first_word - p.blocks.start) / 8192 ≡ d = omega arith in
      let place = place_known p.capacity (image_of p) run.shape (held_in p) d (run.shape.place d) is_class
      (part_taken (layout_at p.capacity (image_of p)) b d named part)
      (λ none. none b holds part) (run.is.places d where_is.1) in
      let words : get_or p.blocks.words.items ((b.first_word - p.blocks.start) / 8192) 0 ≡ b.words =
      ap (λ k. get_or p.blocks.words.items k 0) d_is ∙ run.sizes.sizes d where_is.1 is_class place ∙ ap words_of_class e ∙ sym size in
      same_fields (at_mark p.blocks b.first_word) b refl words

  -- it was taken back
  module _ (h : HeldBlocks) (takes : TakesFrom (at_mark p.blocks b.first_word) (held_in p) (held_of h)) (words : h.words.items ≡ p.blocks.words.items)
      (start : h.start ≡ p.blocks.start) where
    pub taken_back : TakesFrom b (held_in p) (held_of h)
    taken_back = subst (λ a. TakesFrom a (held_in p) (held_of h)) held_at takes

    -- its first word is an allocator's then
    freed_word : (word : ℕ) → word ≡ b.first_word → IsAllocatorWord p.capacity (held_of h) word
    freed_word word at = is_inside (let from = inside.0 in omega arith) until apart where
      until : word < superblocks_end p.capacity
      until = let used = run.is.used in let two = two_words class is in let ends = inside.1 in omega arith

      apart : (a : Block) → Contains (held_of h) a → IsIn a word → ⊥
      apart a in_a is_in =
          let from = is_in.from in
          let until = is_in.until in
          let two = two_words class is in
          elim (never_overlap (layout_at p.capacity (image_of p)) a b (run.is.named a (taken_back.only a in_a)) named) as (λ _. ⊥) [
            | inl same ↦ taken_back.gone (subst (λ x. Contains (held_of h) x) same in_a)
            | inr other ↦ elim other as (λ _. ⊥) [ inl before ↦ omega arith | inr behind ↦ omega arith ]
          ]

    not_first : (word : ℕ) → word < start_word p.capacity 0 → word ≡ b.first_word → ⊥
    not_first word low at = let from = inside.0 in omega arith

    pub freed_leaves_held : (q : Parts) → q.capacity ≡ p.capacity → looks_of q ≡ looks_of p → q.taken ≡ p.taken
        → StoresOnly (λ word. word ≡ b.first_word) p.words q.words → LeavesHeld (held_of h) p q
    freed_leaves_held q capacity look taken stores = leaves_held_of p q (held_of h) (λ word. word ≡ b.first_word) run capacity look taken freed_word
        (λ at. not_first used_word (omega arith) at) stores

    module _ (cache : Cache) (cache_is : cache ≡ cache_at p.caches class) (w : View) (stored : IsStored b.first_word cache.first p.words w)
        (stores : StoresOnly (λ word. word ≡ b.first_word) p.words w)
        (short : CachesAreShort p 0) where
      abbrev pub freed_cache : Cache
      freed_cache = record { first = b.first_word; count = cache.count + 1 }

      abbrev pub freed_parts : Parts
      freed_parts = changed p w (set p.caches class freed_cache) h

      first_is : cache.first ≡ run.shape.start class
      first_is = let of = run.caches class is in ap (λ (x : Cache). x.first) cache_is ∙ of.first

      count_is : cache.count ≡ length (run.shape.cached class)
      count_is = let of = run.caches class is in ap (λ (x : Cache). x.count) cache_is ∙ of.count

      pub count_short : cache.count < blocks_of class
      count_short =
          let some = is.some in
          let few = short.each class is (λ e. omega arith) in
          let e : cache.count ≡ (cache_at p.caches class).count = ap (λ (x : Cache). x.count) cache_is in
          omega arith

      abbrev pub t : Shape
      t = with_cache run.shape class b.first_word (b.first_word ∷ run.shape.cached class)

      -- infos and `used` stay, and the shape is kept
      freed_fixed : KeepsFixed p w
      freed_fixed = keeps_fixed p w (λ word. word ≡ b.first_word) run stores stored.runs_within.running stored.runs_within.below
          (λ d d_below. not_first (info_word d) (omega arith)) (not_first used_word (omega arith))
          (λ list list_below. ap head_pops (stores.volatile (head_word list) (not_first (head_word list) (omega arith))))

      pub freed_shape : IsShape p.capacity (λ word. volatile_at w word) (held_of h) t
      freed_shape =
          let below = held_below in
          let long = run.words_open.long in
          free_small p.capacity class where_is.0 (image_of p) (λ word. volatile_at w word) (held_in p)
          (held_of h) run.shape b is run.is holds where_is.1 where_is.2 where_is.3 taken_back
          (set_is p.words.volatile w.volatile b.first_word (run.shape.start class) (omega arith)
          (stored.volatile ∙ ap (λ x. set p.words.volatile b.first_word x) first_is))

      -- its superblock is cut for the class still
      still_class : (e : ℕ) → HasPartIn p.capacity b e → IsClass (volatile_at w (info_word e))
      still_class e has = elim (cases_of_part (layout_at p.capacity (image_of p)) b e named has) as (λ _. IsClass (volatile_at w (info_word e))) [
        | inl one ↦
            let taken = part_taken (layout_at p.capacity (image_of p)) b e named has in
            let most = run.is.used in
            subst IsClass (sym (freed_fixed.infos e (omega arith) ∙ one.info_is)) one.is_class
        | inr all ↦ absurd (let long = all.long in let few = few_words class is in omega arith)
      ]

      -- so no superblock is lost
      pub freed_accounted : AreAccounted p → AreAccounted freed_parts
      freed_accounted before = accounted_without p.capacity (λ word. volatile_at w word) (held_in p) (held_of h) b taken_back still_class
          (accounted_kept p.capacity (image_of p) (λ word. volatile_at w word) (held_in p) run.shape t (held_of h) run.is freed_shape
          freed_fixed.used freed_fixed.infos (λ e p. p) before)

      pub freed_running : IsRunning freed_parts
      freed_running =
          let few = count_short in
          let count = count_is in
          running_after p w (set p.caches class freed_cache) h t run freed_fixed
          (length-set p.caches class freed_cache ∙ run.caches_long) start words freed_shape
          (caches_set p run class (with_cache run.shape class b.first_word (b.first_word ∷ run.shape.cached class)) b.first_word
          (b.first_word ∷ run.shape.cached class) freed_cache is refl (omega arith) (omega arith) (λ c. refl) (λ c. refl))
          (λ d d_below is_class place. place)

      pub freed_count : (cache_at (set p.caches class freed_cache) class).count ≡ cache.count + 1
      freed_count =
          let last = is.last in
          let long = run.caches_long in
          ap (λ (x : Cache). x.count) (get_or-set_same p.caches class freed_cache (record { first = 0; count = 0 }) (omega arith))

      -- the caches stay short
      pub freed_short : cache.count + 1 ≢ blocks_of class → CachesAreShort freed_parts 0
      freed_short not_all = record {
        each = λ c is_c other. elim (cases_eq c class) as (λ _. (cache_at (set p.caches class freed_cache) c).count < blocks_of c) [
          | inl same ↦ subst (λ k. (cache_at (set p.caches class freed_cache) k).count < blocks_of k) (sym same)
              (let e = freed_count in let few = count_short in omega arith)
          | inr differs ↦ subst (λ (x : Cache). x.count < blocks_of c) (sym (other_cache p.caches class freed_cache c differs))
              (short.each c is_c other)
        ];
      }

      -- also where its class's was given back
      module _ (r : Parts) (keeps : KeepsAll class freed_parts r) (empty : (cache_at r.caches class).count ≡ 0) where
        pub flushed_short : CachesAreShort r 0
        flushed_short = record {
          each = λ c is_c other. elim (cases_eq c class) as (λ _. (cache_at r.caches c).count < blocks_of c) [
            | inl same ↦ subst (λ k. (cache_at r.caches k).count < blocks_of k) (sym same) (let four = four_blocks class is in omega arith)
            | inr differs ↦ subst (λ (x : Cache). x.count < blocks_of c) (sym (keeps.caches c is_c differs ∙ other_cache p.caches class freed_cache c
                differs)) (short.each c is_c other)
          ];
        }

      pub flushed_held : (r : Parts) → held_in r ≡ held_of h → TakesFrom b (held_in p) (held_in r)
      flushed_held r same = subst (λ now. TakesFrom b (held_in p) now) (sym same) taken_back

      pub flushed_serve : (r : Parts) → held_in r ≡ held_of h → LeavesHeld (held_of h) freed_parts r → LeavesHeld (held_in r) p r
      flushed_serve r same leaves_held = subst (λ now. LeavesHeld now p r) (sym same) (leaves_held_then p freed_parts r (held_of h)
          (freed_leaves_held freed_parts refl refl refl stores) leaves_held)

      pub flushed_runs_within : (r : Parts) → IsRunning r → freed_parts.words.drawn ≤ r.words.drawn
          → r.words.drawn ≤ freed_parts.words.drawn + 9 * (cache_at freed_parts.caches class).count → RunsWithin most_free_draws p.words r.words
      flushed_runs_within r running more few =
          let drew = stored.runs_within.drew in
          let one = stored.runs_within.few in
          let count = freed_count in
          let most = count_short in
          let blocks = few_blocks class is in
          record { running = running.words_open.running; drew = omega arith; few = omega arith; below = running.below }
