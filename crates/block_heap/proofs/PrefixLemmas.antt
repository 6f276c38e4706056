-- Walking a cache along the blocks of one superblock: what holds after each load.
use Rattle.std.proofs.Common.{◌≡◌, ℕ, ◌+◌, ◌-◌, ◌*◌, ◌/◌, ◌<◌, ◌≤◌, inl, inr, List, [], ◌∷◌, ◌++◌, length, get_or, Contains, refl, ap, sym, subst, ◌∙◌, arith, length-append}
use Rattle.std.proofs.Math.Nat.{mul-div_cancel}
use Rattle.std.proofs.lemmas.List.Elements.{Contains-append_right, Contains-append_cases}
use Rattle.heap_model.specs.Geometry.{start_word}
use Rattle.heap_model.specs.Sizes.{IsClass, words_of_class}
use Rattle.heap_model.specs.Chains.{Walks}
use Rattle.heap_model.proofs.MemberLemmas.{in_none, head_or_rest}
use Rattle.heap_model.proofs.SizeLemmas.{two_words}
use Rattle.heap_at_rest.proofs.ListLemmas.{walk_behind}
use Rattle.heap_shape.specs.Standing.{first_of, IsFirstOf}
use Rattle.block_heap.specs.declared.cache.Cache.{Cache}
use Rattle.block_heap.specs.declared.small.CachePrefix.{CachePrefix}
use Rattle.block_heap.specs.Flush.{IsCachePrefix, KeepsAll}
use Rattle.block_heap.specs.Medium.{StoresOnly, RunsWithin, IsLoaded}
use Rattle.block_heap.specs.Parts.{Parts, image_of, held_in, cache_at}
use Rattle.block_heap.specs.Running.{IsRunning, LeavesHeld}
use Rattle.block_heap.proofs.AccountLemmas.{accounted_same}
use Rattle.block_heap.proofs.MediumLemmas.{stores_then}
use Rattle.block_heap.proofs.RunningLemmas.{running_words}
use Rattle.block_heap.proofs.SmallLemmas.{leaves_held_of}
use Rattle.block_heap.proofs.CachedBlockLemmas.{first_cached, first_of_d}
use Rattle.block_heap.proofs.LookLemmas.{looks_of}
use Rattle.block_heap.proofs.WalkLemmas.{walk_prefix, walk_begin}

-- the cache leads along so many blocks of superblock d, up to the last one, which leads to the next
pub record IsWalked (class d last next count : ℕ) (cache : Cache) (p : Parts) : Type 0 where
  pub within : d < p.capacity
  pub before : List ℕ
  pub walks : Walks (image_of p) cache.first (before ++ last ∷ [])
  pub firsts : (word : ℕ) → Contains (before ++ last ∷ []) word → IsFirstOf p.capacity class d word
  pub count_is : count ≡ length (before ++ last ∷ [])
  pub next_is : next ≡ image_of p last
  pub few : count ≤ cache.count

-- so many words at most were loaded, and nothing else was done
pub record HasLoaded (most : ℕ) (p q : Parts) : Type 0 where
  pub same : q ≡ record p { words = q.words }
  pub runs_within : RunsWithin most p.words q.words
  pub volatile : q.words.volatile ≡ p.words.volatile
  pub stores : StoresOnly (λ _. ⊥) p.words q.words

-- loads leave a heap right, and its held blocks too
module _ (p q : Parts) (most : ℕ) (run : IsRunning p) (loaded : HasLoaded most p q) where
  loaded_running : IsRunning (record p { words = q.words })
  loaded_running = running_words p q.words (λ _. ⊥) run loaded.runs_within.running loaded.volatile loaded.stores (λ d within out. out)
      (λ out. out) loaded.runs_within.below

  pub loaded_run : IsRunning q
  loaded_run = subst (λ x. IsRunning x) (sym loaded.same) loaded_running

  -- and keep what is said of it
  pub loaded_keeps : (class : ℕ) → KeepsAll class p q
  loaded_keeps class = record {
    caches = λ c is other. ap (λ (x : Parts). cache_at x.caches c) loaded.same;
    used_look = ap (λ (x : Parts). x.used_look) loaded.same;
    head_looks = ap (λ (x : Parts). x.head_looks) loaded.same;
    accounted = accounted_same p q (ap (λ (x : Parts). x.capacity) loaded.same) loaded.volatile (ap (λ (x : Parts). held_in x) loaded.same);
  }

  pub loaded_leaves_held : LeavesHeld (held_in p) p q
  loaded_leaves_held = leaves_held_of p q (held_in p) (λ _. ⊥) run (ap (λ x. x.capacity) loaded.same) (ap looks_of loaded.same)
      (ap (λ x. x.taken) loaded.same)
      (λ word out. absurd out) (λ out. out) loaded.stores

  pub loaded_prefix : (class : ℕ) (prefix : CachePrefix) → IsCachePrefix class prefix p → IsCachePrefix class prefix q
  loaded_prefix class prefix is = subst (λ x. IsCachePrefix class prefix x) (sym loaded.same)
      (record {
        within = is.within;
        before = is.before;
        walks = subst (λ (xs : List ℕ). Walks (λ word. get_or xs word 0) (cache_at p.caches class).first (is.before ++ prefix.batch.last ∷ []))
            (sym loaded.volatile) is.walks;
        firsts = is.firsts;
        first = is.first;
        count = is.count;
        next = is.next ∙ ap (λ (xs : List ℕ). get_or xs prefix.batch.last 0) (sym loaded.volatile);
        rest = is.rest;
      })

  -- also where the next load stopped
  pub stopped_leaves_held : (r : Parts) → r ≡ record q { words = r.words } → StoresOnly (λ _. ⊥) q.words r.words → LeavesHeld (held_in p) p r
  stopped_leaves_held r same stores = leaves_held_of p r (held_in p) (λ _. ⊥) run
      (ap (λ (x : Parts). x.capacity) same ∙ ap (λ (x : Parts). x.capacity) loaded.same)
      (ap looks_of same ∙ ap looks_of loaded.same)
      (ap (λ (x : Parts). x.taken) same ∙ ap (λ (x : Parts). x.taken) loaded.same)
      (λ word out. absurd out) (λ out. out) (stores_then (λ _. ⊥) p.words q.words r.words loaded.stores stores)

pub loaded_capacity : (p q : Parts) (most : ℕ) → HasLoaded most p q → q.capacity ≡ p.capacity
loaded_capacity p q most loaded = ap (λ (x : Parts). x.capacity) loaded.same

-- one more load
pub loaded_more : (p q r : Parts) (most : ℕ) (word value : ℕ) → HasLoaded most p q → r ≡ record q { words = r.words }
    → IsLoaded word value q.words r.words
    → StoresOnly (λ _. ⊥) q.words r.words
    → HasLoaded (most + 1) p r
loaded_more p q r most word value before same loaded stores = record {
  same = same ∙ ap (λ (x : Parts). record x { words = r.words }) before.same;
  runs_within = record {
    running = loaded.runs_within.running;
    drew = let a = before.runs_within.drew in let b = loaded.runs_within.drew in omega arith;
    few = let a = before.runs_within.few in let b = loaded.runs_within.few in omega arith;
    below = loaded.runs_within.below;
  };
  volatile = loaded.volatile ∙ before.volatile;
  stores = stores_then (λ _. ⊥) p.words q.words r.words before.stores stores;
}

-- the value that was loaded, as it was before
pub loaded_value : (p q r : Parts) (most : ℕ) (word value : ℕ) → HasLoaded most p q → IsLoaded word value q.words r.words → value ≡ image_of p word
loaded_value p q r most word value before loaded = loaded.seen ∙ ap (λ (xs : List ℕ). get_or xs word 0) before.volatile

-- a walk that goes one block further
walk_more : (next : ℕ → ℕ) (from : ℕ) (before : List ℕ) (last x : ℕ) → Walks next from (before ++ last ∷ []) → x ≡ next last
    → Walks next from ((before ++ last ∷ []) ++ x ∷ [])
walk_more next from [] last x walks e = (walks.0, (sym e, tt))
walk_more next from (b ∷ before) last x walks e = (walks.0, walk_more next (next b) before last x walks.1 e)

-- a block of a superblock
pub record IsPlacedAt (p : Parts) (class word : ℕ) : Type 0 where
  pub d : ℕ
  pub within : d < p.capacity
  pub first : IsFirstOf p.capacity class d word

module _ (p : Parts) (class : ℕ) (is : IsClass class) (run : IsRunning p) (cache : Cache) (cache_is : cache ≡ cache_at p.caches class) where
  -- the first block of the cache
  module _ (some : 1 ≤ (cache_at p.caches class).count) where
    pub cache_first : IsPlacedAt p class cache.first
    cache_first = let found = first_cached p class is run cache cache_is some in record { d = found.d; within = found.within; first = found.is_first }

    pub walked_one : (d next : ℕ) → d ≡ (cache.first - start_word p.capacity 0) / 8192 → next ≡ image_of p cache.first
        → IsWalked class d cache.first next 1 cache p
    walked_one d next at e =
        let found = cache_first in
        let same : found.d ≡ d = sym (first_of_d p class found.d cache.first is run found.within found.first) ∙ sym at in
        record {
          within = subst (λ x. x < p.capacity) same found.within;
          before = [];
          walks = (refl, tt);
          firsts = λ word has. elim (head_or_rest cache.first word [] has) as (λ _. IsFirstOf p.capacity class d word) [
            | inl one ↦ subst (λ x. IsFirstOf p.capacity class d x) one (subst (λ x. IsFirstOf p.capacity class x cache.first) same found.first)
            | inr none ↦ absurd (in_none word none)
          ];
          count_is = refl;
          next_is = e;
          few = let count = ap (λ (x : Cache). x.count) cache_is in omega arith;
        }

  module _ (d last next count : ℕ) (walked : IsWalked class d last next count cache p) where
    abbrev blocks : List ℕ
    blocks = walked.before ++ last ∷ []

    -- there are more blocks in the cache, so the next is one
    pub next_placed : count < cache.count → IsPlacedAt p class next
    next_placed more =
        let of = run.caches class is in
        let first : cache.first ≡ run.shape.start class = ap (λ (x : Cache). x.first) cache_is ∙ of.first in
        let long : cache.count ≡ length (run.shape.cached class) = ap (λ (x : Cache). x.count) cache_is ∙ of.count in
        let count_is = walked.count_is in
        let all = run.is.walks class is in
        let split = walk_prefix (image_of p) (run.shape.start class) blocks (run.shape.cached class)
        (subst (λ x. Walks (image_of p) x blocks) first walked.walks) all (omega arith) in
        let both = length-append blocks split.0 in
        let e : length (run.shape.cached class) ≡ length (blocks ++ split.0) = ap (λ (xs : List ℕ). length xs) split.1 in
        let behind = walk_behind (image_of p) (run.shape.start class) walked.before last split.0
        (subst (λ xs. Walks (image_of p) (run.shape.start class) xs) split.1 all) in
        let has : Contains split.0 next = subst (λ x. Contains split.0 x) (sym walked.next_is)
        (walk_begin (image_of p) (image_of p last) split.0 behind (omega arith)) in
        let cached : Contains (run.shape.cached class) next = subst (λ xs. Contains xs next) (sym split.1)
        (Contains-append_right blocks split.0 next has) in
        let found = run.is.cached class next is cached in
        record { d = found.superblock; within = found.within; first = found.is_first }

    -- the walk goes on to it, where it lies in the same superblock
    pub walked_more : (after : ℕ) → count < cache.count → (next - start_word p.capacity 0) / 8192 ≡ d → after ≡ image_of p next
        → IsWalked class d next after (count + 1) cache p
    walked_more after more at e =
        let found = next_placed more in
        let same : found.d ≡ d = sym (first_of_d p class found.d next is run found.within found.first) ∙ at in
        record {
          within = walked.within;
          before = blocks;
          walks = walk_more (image_of p) cache.first walked.before last next walked.walks walked.next_is;
          firsts = λ word has. elim (Contains-append_cases blocks (next ∷ []) word has) as (λ _. IsFirstOf p.capacity class d word) [
            | inl before ↦ walked.firsts word before
            | inr now ↦ elim (head_or_rest next word [] now) as (λ _. IsFirstOf p.capacity class d word) [
              | inl one ↦ subst (λ x. IsFirstOf p.capacity class d x) one (subst (λ x. IsFirstOf p.capacity class x next) same found.first)
              | inr none ↦ absurd (in_none word none)
            ]
          ];
          count_is = let both = length-append blocks (next ∷ []) in let count_is = walked.count_is in omega arith;
          next_is = e;
          few = omega arith;
        }

    first_there : IsFirstOf p.capacity class d cache.first
    first_there = walked.firsts cache.first (walk_begin (image_of p) cache.first blocks walked.walks
        (let both = length-append walked.before (last ∷ []) in omega arith))

    pub first_behind : start_word p.capacity d ≤ cache.first
    first_behind = let at = first_there.at in omega arith

    -- the prefix that was walked
    pub walked_prefix : (start words : ℕ) → start ≡ start_word p.capacity d → words ≡ words_of_class class
        → IsCachePrefix class (record {
          d = d;
          batch = record { first = (cache.first - start) / words; last = last; count = count };
          rest = record
              { first = next; count = cache.count - count };
        }) p
    walked_prefix start words start_is words_is =
        let first = first_there in
        let at = first.at in
        let two = two_words class is in
        let few = walked.few in
        let size : cache.count ≡ (cache_at p.caches class).count = ap (λ (x : Cache). x.count) cache_is in
        let begins : cache.first ≡ (cache_at p.caches class).first = ap (λ (x : Cache). x.first) cache_is in
        let product : cache.first - start ≡ first.index * words_of_class class = omega arith in
        let index : (cache.first - start) / words ≡ first.index =
        ap (λ x. x / words) product ∙ ap (λ x. first.index * words_of_class class / x) words_is ∙ mul-div_cancel first.index {n = words_of_class class}
        (omega arith) in
        record {
          within = walked.within;
          before = walked.before;
          walks = subst (λ x. Walks (image_of p) x blocks) begins walked.walks;
          firsts = walked.firsts;
          first = sym begins ∙ first.at ∙ ap (λ i. first_of p.capacity class d i) (sym index);
          count = walked.count_is;
          next = walked.next_is;
          rest = omega arith;
        }
