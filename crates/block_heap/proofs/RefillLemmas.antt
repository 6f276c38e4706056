-- What the parts of a heap have in common before and after each step of a refill.
use Rattle.std.proofs.Common.{◌≡◌, ◌≢◌, ℕ, ◌+◌, ◌*◌, ◌<◌, ◌≤◌, ◌⊎◌, inl, inr, None, List, [], length, get_or, set, refl, ap, sym, subst, ◌∙◌, arith, get_or-set_same, get_or-set_other}
use Rattle.std.proofs.lemmas.Bool.{cases_eq}
use Rattle.std.proofs.lemmas.List.{nil_from_length}
use Rattle.heap_model.specs.declared.block.Block.{Block}
use Rattle.heap_model.specs.Geometry.{lists, head_word, info_word, anchor_word, link_word, used_word, image_words}
use Rattle.heap_model.specs.Image.{Image}
use Rattle.heap_model.specs.Sizes.{IsClass, blocks_of, words_of_class}
use Rattle.heap_model.specs.Words.{head_pops}
use Rattle.heap_shape.specs.Shape.{in_list, is_full, Shape, with_at}
use Rattle.heap_shape.specs.Whole.{IsShape}
use Rattle.heap_shape.specs.Effects.{IsInSuperblock}
use Rattle.heap_shape.specs.Draining.{DrainsSame}
use Rattle.heap_shape.proofs.BasicLemmas.{with_at_same, with_at_other}
use Rattle.line_memory.specs.View.{word_count}
use Rattle.block_heap.specs.declared.cache.Cache.{Cache}
use Rattle.block_heap.specs.declared.held.HeldBlocks.{HeldBlocks}
use Rattle.heap_seat.specs.declared.look.Look.{Look}
use Rattle.block_heap.specs.Medium.{StoresOnly}
use Rattle.block_heap.specs.Parts.{Parts, OnlyLooks, image_of, held_in, cache_at}
use Rattle.block_heap.specs.Running.{IsRunning, IsCacheOf, KnowsSizes, HasDurableInfos, LeavesHeld, MakesLooks}
use Rattle.block_heap.specs.Lists.{head_at}
use Rattle.block_heap.specs.AllocatorWords.{IsAllocatorWord, is_head, is_anchor, is_link}
use Rattle.block_heap.proofs.MediumLemmas.{stores_then}
use Rattle.block_heap.proofs.LookLemmas.{looks_kept}
use Rattle.block_heap.proofs.StableLemmas.{as_allocator_of, as_allocator_none}
use Rattle.block_heap.proofs.SmallLemmas.{leaves_held_then}

-- a cache with these numbers
pub cache_set : (caches : List Cache) (class first count f n : ℕ) → first ≡ f → count ≡ n
    → set caches class (record { first = first; count = count }) ≡ set caches class (record { first = f; count = n })
cache_set caches class first count f n at many = ap (λ k. set caches class (record { first = k; count = count })) at ∙ ap
    (λ k. set caches class (record { first = f; count = k })) many

-- a list where such a number was set
pub number_set : (xs new : List ℕ) (at n m : ℕ) → new ≡ set xs at n → n ≡ m → new ≡ set xs at m
number_set xs new at n m is same = is ∙ ap (λ k. set xs at k) same

-- a head, or the anchor or the link of a superblock
pub data IsMoved (capacity word : ℕ) : Type 0 where
  a_head : (list : ℕ) → list < lists → word ≡ head_word list → IsMoved capacity word
  an_anchor : (d : ℕ) → d < capacity → word ≡ anchor_word d → IsMoved capacity word
  a_link : (d : ℕ) → d < capacity → word ≡ link_word d → IsMoved capacity word

-- it is no info, not `used`, and lies in no superblock, and an allocator may store to it
pub moved_info : (capacity d word : ℕ) → IsMoved capacity word → word ≡ info_word d → ⊥
moved_info capacity d word (a_head list below at) e = omega arith
moved_info capacity d word (an_anchor c below at) e = omega arith
moved_info capacity d word (a_link c below at) e = omega arith

pub moved_used : (capacity word : ℕ) → IsMoved capacity word → word ≡ used_word → ⊥
moved_used capacity word (a_head list below at) e = omega arith
moved_used capacity word (an_anchor c below at) e = omega arith
moved_used capacity word (a_link c below at) e = omega arith

pub moved_inside : (capacity d word : ℕ) → IsMoved capacity word → IsInSuperblock capacity d word → ⊥
moved_inside capacity d word (a_head list below at) inside = let from = inside.from in omega arith
moved_inside capacity d word (an_anchor c below at) inside = let from = inside.from in omega arith
moved_inside capacity d word (a_link c below at) inside = let from = inside.from in omega arith

pub moved_word : (capacity : ℕ) (held : List Block) (word : ℕ) → IsMoved capacity word → IsAllocatorWord capacity held word
moved_word capacity held word (a_head list below at) = is_head list below at
moved_word capacity held word (an_anchor d below at) = is_anchor d below at
moved_word capacity held word (a_link d below at) = is_link d below at

-- two rows of looks
pub only_then : (m n all : ℕ) (p u q : Parts) → m + n ≡ all → OnlyLooks m p u → OnlyLooks n u q → OnlyLooks all p q
only_then m n all p u q sum a b = record {
  volatile = b.volatile ∙ a.volatile;
  stores = stores_then (λ _. ⊥) p.words u.words q.words a.stores b.stores;
  capacity = b.capacity ∙ a.capacity;
  caches = b.caches ∙ a.caches;
  blocks = b.blocks ∙ a.blocks;
  taken = b.taken ∙ a.taken;
  drawn = let first = a.drawn in let second = b.drawn in omega arith;
}

-- a row of steps that doesn't store to `used`; one that stores to such words alone, or none at all; and two rows
pub leaves_held_of : (p q : Parts) (to : ℕ → Type 0) → IsRunning p → ((word : ℕ) → to word → IsAllocatorWord p.capacity (held_in p) word)
    → (to used_word → ⊥)
    → StoresOnly to p.words q.words
    → q.capacity ≡ p.capacity → q.used_look ≡ p.used_look → q.taken ≡ p.taken → MakesLooks p q → LeavesHeld (held_in p) p q
leaves_held_of p q to run are not_used stores capacity look taken looks =
    let seen : q.used_look.seen ≡ p.used_look.seen = ap (λ (l : Look). l.seen) look in
    let then : q.used_look.taken ≡ p.used_look.taken = ap (λ (l : Look). l.taken) look in
    record {
      capacity = capacity;
      as_allocator = (as_allocator_of p.capacity (held_in p) to p.words q.words are not_used stores run.settled.used).0;
      knows = omega arith;
      taken = omega arith;
      looks = looks;
    }

pub leaves_held_moved : (p q : Parts) → IsRunning p → StoresOnly (IsMoved p.capacity) p.words q.words → q.capacity ≡ p.capacity
    → q.used_look ≡ p.used_look
    → q.taken ≡ p.taken → MakesLooks p q → LeavesHeld (held_in p) p q
leaves_held_moved p q run stores capacity look taken looks =
    leaves_held_of p q (IsMoved p.capacity) run (λ word m. moved_word p.capacity (held_in p) word m)
    (λ m. moved_used p.capacity used_word m refl) stores capacity
    look taken looks

pub leaves_held_same : (p : Parts) → LeavesHeld (held_in p) p p
leaves_held_same p = record {
  capacity = refl;
  as_allocator = as_allocator_none p.capacity (held_in p) p.words;
  knows = refl;
  taken = omega arith;
  looks = looks_kept p p refl;
}

pub leaves_held_all : (p u q : Parts) → held_in u ≡ held_in p → LeavesHeld (held_in p) p u → LeavesHeld (held_in u) u q → LeavesHeld (held_in p) p q
leaves_held_all p u q held a b = leaves_held_then p u q (held_in p) a (subst (λ (h : List Block). LeavesHeld h u q) held b)

-- what is to be drained where nothing changes, and over two rows of steps
pub drains_none : (capacity class : ℕ) (held : List Block) (image : Image) → DrainsSame capacity class held image image
drains_none capacity class held image = record { has = λ b p. p; only = λ b p. p; drainable = λ p. p; accounted = λ p. p }

pub drains_then : (capacity class : ℕ) (held : List Block) (image middle new : Image) → DrainsSame capacity class held image middle
    → DrainsSame capacity class held middle new → DrainsSame capacity class held image new
drains_then capacity class held image middle new a b = record {
  has = λ x p. b.has x (a.has x p);
  only = λ x p. a.only x (b.only x p);
  drainable = λ p. b.drainable (a.drainable p);
  accounted = λ p. b.accounted (a.accounted p);
}

-- the parts after steps, with this shape
pub record IsMade (p q : Parts) (t : Shape) : Type 0 where
  pub capacity : q.capacity ≡ p.capacity
  pub held : held_in q ≡ held_in p
  pub running : q.words.stopped ≡ None
  pub words : word_count q.words ≡ word_count p.words
  pub budget : q.words.budget ≡ p.words.budget
  pub below : q.words.drawn ≤ q.words.budget
  pub caches_long : length q.caches ≡ lists
  pub looks_long : length q.head_looks ≡ lists
  pub is : IsShape p.capacity (image_of q) (held_in p) t
  pub caches : (class : ℕ) → IsClass class → IsCacheOf t class (cache_at q.caches class)
  pub sizes : KnowsSizes p.capacity t (λ d. image_of q (info_word d)) q.blocks
  pub settled : HasDurableInfos p.capacity q.words
  pub pops : (list : ℕ) → list < lists → 2 * head_pops (head_at q list) ≤ q.words.drawn
  pub knows : image_of q used_word + q.used_look.taken ≡ q.used_look.seen + q.taken
  pub few : q.taken ≤ image_of q used_word

-- they are right
pub made : (p q : Parts) (t : Shape) → IsRunning p → IsMade p q t → IsRunning q
made p q t run m = record {
  words_open = record { running = m.running; long = m.words ∙ run.words_open.long ∙ ap (λ c. image_words c) (sym m.capacity) };
  below = m.below;
  bounded = let e = m.budget in let b = run.bounded in omega arith;
  caches_long = m.caches_long;
  looks_long = m.looks_long;
  shape = t;
  is = subst (λ c. IsShape c (image_of q) (held_in q) t) (sym m.capacity)
      (subst (λ (h : List Block). IsShape p.capacity (image_of q) h t) (sym m.held) m.is);
  caches = m.caches;
  sizes = subst (λ c. KnowsSizes c t (λ d. image_of q (info_word d)) q.blocks) (sym m.capacity) m.sizes;
  settled = subst (λ c. HasDurableInfos c q.words) (sym m.capacity) m.settled;
  pops = m.pops;
  knows = m.knows;
  few = m.few;
}

-- the caches where the one of the class has these blocks now
pub caches_filled : (s t : Shape) (caches : List Cache) (class first : ℕ) (ws : List ℕ) (cache : Cache) → length caches ≡ lists → IsClass class
    → ((c : ℕ) → IsClass c → IsCacheOf s c (cache_at caches c)) → t.start ≡ with_at s.start class first → t.cached ≡ with_at s.cached class ws
    → cache.first ≡ first → cache.count ≡ length ws → cache.count ≤ blocks_of class → (c : ℕ) → IsClass c
    → IsCacheOf t c (cache_at (set caches class cache) c)
caches_filled s t caches class first ws cache long is before start cached first_is count most c is_c =
    elim (cases_eq c class) as (λ _. IsCacheOf t c (cache_at (set caches class cache) c)) [
      | inl same ↦ subst (λ k. IsCacheOf t k (cache_at (set caches class cache) k)) (sym same)
          (subst (λ (x : Cache). IsCacheOf t class x) (sym (get_or-set_same caches class cache (record { first = 0; count = 0 })
          (let last = is.last in omega arith)))
          (record {
            first = first_is ∙ sym (ap (λ (f : ℕ → ℕ). f class) start ∙ with_at_same s.start class first);
            count = count ∙ sym (ap length (ap (λ (f : ℕ → List ℕ). f class) cached ∙ with_at_same s.cached class ws));
            most = most;
          }))
      | inr other ↦
          subst (λ (x : Cache). IsCacheOf t c x) (sym (get_or-set_other caches class c cache (record { first = 0; count = 0 }) other))
          (record {
            first = (before c is_c).first ∙ sym (ap (λ (f : ℕ → ℕ). f c) start ∙ with_at_other s.start class first c other);
            count = (before c is_c).count ∙ sym (ap length (ap (λ (f : ℕ → List ℕ). f c) cached ∙ with_at_other s.cached class ws c other));
            most = (before c is_c).most;
          })
    ]

pub caches_other : (caches : List Cache) (class : ℕ) (cache : Cache) (c : ℕ) → IsClass c → c ≢ class
    → cache_at (set caches class cache) c ≡ cache_at caches c
caches_other caches class cache c is_c other = get_or-set_other caches class c cache (record { first = 0; count = 0 }) other

-- the sizes stay where infos do, and superblocks of a class are ones from before
pub sizes_kept : (capacity : ℕ) (s t : Shape) (info new : ℕ → ℕ) (blocks : HeldBlocks) → KnowsSizes capacity s info blocks
    → ((e : ℕ) → e < capacity → new e ≡ info e)
    → ((e : ℕ) → e < capacity → IsClass (info e) → (t.place e ≡ in_list (info e)) ⊎ (t.place e ≡ is_full)
    → (s.place e ≡ in_list (info e)) ⊎ (s.place e ≡ is_full))
    → KnowsSizes capacity t new blocks
sizes_kept capacity s t info new blocks knows same stood = record {
  start = knows.start;
  long = knows.long;
  sizes = λ e within. subst (λ i. IsClass i → (t.place e ≡ in_list i) ⊎ (t.place e ≡ is_full) → get_or blocks.words.items e 0 ≡ words_of_class i)
      (sym (same e within)) (λ is at. knows.sizes e within is (stood e within is at));
}

-- an empty cache has no blocks
pub none_cached : (p : Parts) (class : ℕ) (run : IsRunning p) → IsClass class → (cache_at p.caches class).count ≡ 0 → run.shape.cached class ≡ []
none_cached p class run is empty = nil_from_length (run.shape.cached class) (sym (run.caches class is).count ∙ empty)
