-- What of a heap stays where words, caches and marks change.
use Rattle.std.proofs.Common.{◌≡◌, ◌≢◌, ℕ, ◌-◌, ◌<◌, ◌≤◌, ◌^◌, ◌⊎◌, inl, inr, None, List, length, get_or, set, refl, ap, sym, subst, ◌∙◌, arith, get_or-set_same, get_or-set_other}
use Rattle.std.proofs.lemmas.Bool.{cases_eq}
use Rattle.std.proofs.lemmas.List.{get_or_read}
use Rattle.heap_model.specs.declared.block.Block.{Block}
use Rattle.heap_model.specs.Geometry.{lists, head_word, info_word, used_word}
use Rattle.heap_model.specs.Sizes.{IsClass, words_of_class, blocks_of}
use Rattle.heap_model.specs.Words.{head_pops}
use Rattle.heap_shape.specs.Shape.{Shape, in_list, is_full, with_at}
use Rattle.heap_shape.specs.Whole.{IsShape}
use Rattle.heap_shape.proofs.BasicLemmas.{with_at_same, with_at_other}
use Rattle.line_memory.specs.View.{View, volatile_at, durable_at, word_count}
use Rattle.block_heap.specs.declared.cache.Cache.{Cache}
use Rattle.block_heap.specs.declared.held.HeldBlocks.{HeldBlocks}
use Rattle.block_heap.specs.Held.{held_of}
use Rattle.block_heap.specs.Medium.{StoresOnly}
use Rattle.block_heap.specs.Parts.{Parts, image_of, cache_at}
use Rattle.block_heap.specs.Running.{IsCacheOf, IsRunning, LeavesHeld}
use Rattle.block_heap.specs.AllocatorWords.{IsAllocatorWord, StoresAsAllocator}
use Rattle.block_heap.proofs.RunningLemmas.{settled_kept}
use Rattle.block_heap.proofs.LookLemmas.{looks_of, looks_kept, looks_then}
use Rattle.block_heap.proofs.StableLemmas.{as_allocator_of, as_allocator_then, as_allocator_none}

-- the parts with other words, caches and held blocks
abbrev pub changed : Parts → View → List Cache → HeldBlocks → Parts
changed p w caches blocks = record {
  words = w;
  capacity = p.capacity;
  caches = caches;
  blocks = blocks;
  taken = p.taken;
  used_look = p.used_look;
  head_looks = p.head_looks;
}

-- what stays where the words of superblocks, anchors, links and the first descriptors of lists change
pub record KeepsFixed (p : Parts) (w : View) : Type 0 where
  pub running : w.stopped ≡ None
  pub long : word_count w ≡ word_count p.words
  pub budget : w.budget ≡ p.words.budget
  pub more : p.words.drawn ≤ w.drawn
  pub below : w.drawn ≤ w.budget
  pub infos : (d : ℕ) → d < p.capacity → volatile_at w (info_word d) ≡ volatile_at p.words (info_word d)
  pub infos_durable : (d : ℕ) → d < p.capacity → durable_at w (info_word d) ≡ volatile_at w (info_word d)
  pub used : volatile_at w used_word ≡ volatile_at p.words used_word
  pub used_durable : durable_at w used_word ≡ volatile_at w used_word
  pub pops : (list : ℕ) → list < lists → head_pops (volatile_at w (head_word list)) ≡ head_pops (volatile_at p.words (head_word list))

-- it stays over steps that store to none of these words
pub keeps_fixed : (p : Parts) (w : View) (to : ℕ → Type 0) → IsRunning p → StoresOnly to p.words w → w.stopped ≡ None → w.drawn ≤ w.budget
    → ((d : ℕ) → d < p.capacity → to (info_word d) → ⊥) → (to used_word → ⊥)
    → ((list : ℕ) → list < lists → head_pops (volatile_at w (head_word list)) ≡ head_pops (volatile_at p.words (head_word list))) → KeepsFixed p w
keeps_fixed p w to run stores running below infos used pops =
    let settled = settled_kept p.capacity to p.words w stores infos used run.settled in
    record {
      running = running;
      long = stores.words;
      budget = stores.budget;
      more = stores.drawn;
      below = below;
      infos = λ d within. stores.volatile (info_word d) (infos d within);
      infos_durable = settled.infos;
      used = stores.volatile used_word used;
      used_durable = settled.used;
      pops = pops;
    }

-- the parts are right with another shape whose places tell the same sizes
pub running_after : (p : Parts) (w : View) (caches : List Cache) (blocks : HeldBlocks) (t : Shape) (run : IsRunning p) → KeepsFixed p w
    → length caches ≡ lists
    → blocks.start ≡ p.blocks.start → blocks.words.items ≡ p.blocks.words.items → IsShape p.capacity (λ word. volatile_at w word) (held_of blocks) t
    → ((class : ℕ) → IsClass class → IsCacheOf t class (cache_at caches class))
    → ((d : ℕ) → d < p.capacity → IsClass (image_of p (info_word d)) → (t.place d ≡ in_list (image_of p (info_word d))) ⊎ (t.place d ≡ is_full)
    → (run.shape.place d ≡ in_list (image_of p (info_word d))) ⊎ (run.shape.place d ≡ is_full))
    → IsRunning (changed p w caches blocks)
running_after p w caches blocks t run keeps long start words is caches_are places = record {
  words_open = record { running = keeps.running; long = keeps.long ∙ run.words_open.long };
  below = keeps.below;
  bounded = let e = keeps.budget in let b = run.bounded in subst (λ n. n < 2 ^ 40) (sym e) b;
  caches_long = long;
  looks_long = run.looks_long;
  shape = t;
  is = is;
  caches = caches_are;
  sizes = record {
    start = start ∙ run.sizes.start;
    long = ap (λ (xs : List ℕ). length xs) words ∙ run.sizes.long;
    sizes = λ d within is_class place. sized d within (keeps.infos d within) is_class place;
  };
  settled = record { infos = keeps.infos_durable; used = keeps.used_durable };
  pops = λ list less. let e = keeps.pops list less in let before = run.pops list less in let more = keeps.more in omega arith;
  knows = let e = keeps.used in let k = run.knows in omega arith;
  few = let e = keeps.used in let f = run.few in omega arith;
} where
  sized : (d : ℕ) → d < p.capacity → volatile_at w (info_word d) ≡ image_of p (info_word d) → IsClass (volatile_at w (info_word d))
      → (t.place d ≡ in_list (volatile_at w (info_word d))) ⊎ (t.place d ≡ is_full)
      → get_or blocks.words.items d 0 ≡ words_of_class (volatile_at w (info_word d))
  sized d within same is_class place =
      let before = places d within (subst IsClass same is_class) (subst (λ x. (t.place d ≡ in_list x) ⊎ (t.place d ≡ is_full)) same place) in
      ap (λ (xs : List ℕ). get_or xs d 0) words ∙ run.sizes.sizes d within (subst IsClass same is_class) before ∙ ap words_of_class (sym same)

-- the caches are those of a shape whose cache of one class is another
pub caches_set : (p : Parts) (run : IsRunning p) (class : ℕ) (t : Shape) (first : ℕ) (ws : List ℕ) (new : Cache) → IsClass class → new.first ≡ first
    → new.count ≡ length ws → length ws ≤ blocks_of class
    → ((c : ℕ) → t.cached c ≡ with_at run.shape.cached class ws c) → ((c : ℕ) → t.start c ≡ with_at run.shape.start class first c)
    → (c : ℕ) → IsClass c → IsCacheOf t c (cache_at (set p.caches class new) c)
caches_set p run class t first ws new is first_is count_is few cached start c is_c = elim (cases_eq c class)
    as (λ _. IsCacheOf t c (cache_at (set p.caches class new) c)) [
      | inl same ↦ subst (λ k. IsCacheOf t k (cache_at (set p.caches class new) k)) (sym same) here
      | inr other ↦
          let e : cache_at (set p.caches class new) c ≡ cache_at p.caches c =
          get_or-set_other p.caches class c new (record { first = 0; count = 0 }) other in
          let before = run.caches c is_c in
          let words : t.cached c ≡ run.shape.cached c = cached c ∙ with_at_other run.shape.cached class ws c other in
          let begins : t.start c ≡ run.shape.start c = start c ∙ with_at_other run.shape.start class first c other in
          subst (λ x. IsCacheOf t c x) (sym e)
          (record {
            first = before.first ∙ sym begins;
            count = before.count ∙ ap (λ (xs : List ℕ). length xs) (sym words);
            most = before.most;
          })
    ] where
      here : IsCacheOf t class (cache_at (set p.caches class new) class)
      here =
          let last = is.last in
          let long = run.caches_long in
          let e : cache_at (set p.caches class new) class ≡ new = get_or-set_same p.caches class new (record { first = 0; count = 0 }) (omega arith) in
          subst (λ x. IsCacheOf t class x) (sym e)
          (record {
            first = first_is ∙ sym (start class ∙ with_at_same run.shape.start class first);
            count = count_is ∙ ap (λ (xs : List ℕ). length xs) (sym (cached class ∙ with_at_same run.shape.cached class ws));
            most = omega arith;
          })

-- the cache that was read
pub read_cache : (p : Parts) (class : ℕ) (cache : Cache) → IsClass class → IsRunning p → cache ≡ get_or p.caches class cache
    → cache ≡ cache_at p.caches class
read_cache p class cache is run e =
    let last = is.last in
    let long = run.caches_long in
    get_or_read p.caches class cache (omega arith) e (record { first = 0; count = 0 })

-- the other caches stay
pub other_cache : (caches : List Cache) (class : ℕ) (new : Cache) (c : ℕ) → c ≢ class → cache_at (set caches class new) c ≡ cache_at caches c
other_cache caches class new c other = get_or-set_other caches class c new (record { first = 0; count = 0 }) other

-- steps that store to words of an allocator leave the held blocks
pub leaves_held_of : (p q : Parts) (held : List Block) (to : ℕ → Type 0) → IsRunning p → q.capacity ≡ p.capacity → looks_of q ≡ looks_of p
    → q.taken ≡ p.taken
    → ((word : ℕ) → to word → IsAllocatorWord p.capacity held word) → (to used_word → ⊥) → StoresOnly to p.words q.words → LeavesHeld held p q
leaves_held_of p q held to run capacity look taken are not_used stores = record {
  capacity = capacity;
  as_allocator = (as_allocator_of p.capacity held to p.words q.words are not_used stores run.settled.used).0;
  knows =
      let seen : q.used_look.seen ≡ p.used_look.seen = ap (λ x. x.0.seen) look in
      let count : q.used_look.taken ≡ p.used_look.taken = ap (λ x. x.0.taken) look in
      omega arith;
  taken = omega arith;
  looks = looks_kept p q look;
}

pub leaves_held_none : (p : Parts) (held : List Block) → LeavesHeld held p p
leaves_held_none p held = record {
  capacity = refl;
  as_allocator = as_allocator_none p.capacity held p.words;
  knows = omega arith;
  taken = omega arith;
  looks = looks_kept p p refl;
}

pub leaves_held_then : (p q r : Parts) (held : List Block) → LeavesHeld held p q → LeavesHeld held q r → LeavesHeld held p r
leaves_held_then p q r held a b = record {
  capacity = b.capacity ∙ a.capacity;
  as_allocator = as_allocator_then p.capacity held p.words q.words r.words a.as_allocator
      (subst (λ n. StoresAsAllocator n held q.words r.words) a.capacity
      b.as_allocator);
  knows = let x = a.knows in let y = b.knows in omega arith;
  taken = let x = a.taken in let y = b.taken in omega arith;
  looks = looks_then p q r a.as_allocator.stores.drawn b.as_allocator.stores.drawn a.taken b.taken a.looks b.looks;
}
