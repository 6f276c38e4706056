-- A heap that was opened at rest runs.
use Rattle.std.proofs.Common.{◌≡◌, ℕ, ◌+◌, ◌*◌, ◌<◌, ◌≤◌, ◌^◌, inl, inr, List, [], ◌∷◌, ◌++◌, length, get_or, replicate, refl, ap, sym, subst, ◌∙◌, arith}
use Rattle.std.specs.Prelude.{slice_index}
use Rattle.std.proofs.lemmas.Bool.{cases_eq}
use Rattle.std.proofs.lemmas.List.{get_or_default, length-replicate, get_or-replicate, length_push, get_or_push, get_or_append_left}
use Rattle.heap_model.specs.declared.block.Block.{Block}
use Rattle.heap_model.specs.Geometry.{lists, head_word, link_word, used_word, largest_capacity, largest_capacity_fits, image_words}
use Rattle.heap_model.specs.Image.{Image}
use Rattle.heap_model.specs.Header.{capacity_of}
use Rattle.heap_model.specs.Sizes.{IsClass}
use Rattle.heap_model.specs.Words.{head_pops}
use Rattle.heap_model.specs.Chains.{Follows, Walks}
use Rattle.heap_model.specs.Rest.{IsReady}
use Rattle.heap_shape.specs.Shape.{Shape}
use Rattle.heap_shape.specs.Standing.{IsAs}
use Rattle.heap_shape.specs.Whole.{IsShape}
use Rattle.heap_shape.specs.Draining.{HasUse, for_class, for_held, for_later}
use Rattle.heap_shape.proofs.FrameLemmas.{SameThere, frame}
use Rattle.heap_shape.proofs.OpenLemmas.{opens, opens_accounted}
use Rattle.heap_shape.proofs.OwnLemmas.{same_held}
use Rattle.line_memory.specs.View.{View, opened}
use Rattle.block_heap.specs.declared.cache.Cache.{Cache}
use Rattle.block_heap.specs.declared.held.HeldBlocks.{HeldBlocks}
use Rattle.heap_seat.specs.declared.look.Look.{Look}
use Rattle.block_heap.specs.Held.{held_of}
use Rattle.block_heap.specs.Opening.{IsHeldOf, opened_look, Opens}
use Rattle.block_heap.specs.Parts.{Parts, cache_at, head_look, no_look}
use Rattle.block_heap.specs.Running.{IsCacheOf, IsRunning}

-- caches that are empty may begin anywhere
begins_anywhere : (capacity : ℕ) (image : Image) (held : List Block) (s : Shape) → ((class : ℕ) → s.cached class ≡ []) → IsShape capacity image held s
    → IsShape capacity image held (record s { start = λ class. 0 })
begins_anywhere capacity image held s empty shape = record {
  small = shape.small;
  used = shape.used;
  named = shape.named;
  follows = shape.follows;
  listed = shape.listed;
  places = λ d within. frame capacity d image image s (record s { start = λ class. 0 }) held held (s.place d) (same d) (omega arith)
      (λ untaken. let new = subst (IsAs capacity image s held d) untaken (shape.places d within) in (new.past, refl)) (shape.places d within);
  cached = λ class word is p. let at = shape.cached class word is p in
      record { superblock = at.superblock; within = at.within; is_first = at.is_first; place = at.place };
  walks = λ class is. subst (λ ws. Walks image 0 ws) (sym (empty class)) tt;
} where
  same : (d : ℕ) → SameThere capacity d image image s (record s { start = λ class. 0 }) held held
  same d = record {
    info = refl;
    anchor = refl;
    inside = λ w inside. refl;
    chain = refl;
    cached = λ class w is inside. refl;
    holds = λ w inside at. at;
    held_before = λ w inside at. at;
    none = λ none. none;
  }

-- a head at rest was never popped
never_popped : (link : ℕ → ℕ) (capacity head : ℕ) (ds : List ℕ) → capacity ≤ largest_capacity → Follows link capacity head ds → head_pops head ≡ 0
never_popped link capacity head [] small follows = let none : head ≡ 0 = follows in omega arith
never_popped link capacity head (d ∷ ds) small follows =
    let first : head ≡ d + 1 = follows.0 in
    let within : d < capacity = follows.1 in
    omega (arith, largest_capacity_fits)

-- the cache with no block
abbrev pub no_cache : Cache
no_cache = record { first = 0; count = 0 }

-- an image has the word of `used`
pub used_there : (words : List ℕ) (held : List Block) (or : ℕ) → IsReady words held → get_or words used_word or ≡ slice_index words used_word
used_there words held or ready =
    let length_is : 8 * length words ≡ 8 * image_words (capacity_of (slice_index words)) = ready.formed.length_is in
    get_or_default words used_word or 0 (omega arith)

-- each head that was seen so far is as the list of words has it
pub record AreSeen (words : List ℕ) (looks : List Look) (count : ℕ) : Type 0 where
  pub long : length looks ≡ count
  pub each : (list : ℕ) → list < count → head_look looks list ≡ opened_look (slice_index words (head_word list))

pub seen_none : (words : List ℕ) → AreSeen words [] 0
seen_none words = record { long = refl; each = λ list less. absurd (omega arith) }

pub seen_more : (words : List ℕ) (looks : List Look) (count : ℕ) (look : Look) → AreSeen words looks count
    → look ≡ opened_look (slice_index words (head_word count)) → AreSeen words (looks ++ look ∷ []) (count + 1)
seen_more words looks count look seen now = record {
  long = let long = seen.long in let more = length_push looks look in omega arith;
  each = λ list less. elim (cases_eq list count) as (λ _. head_look (looks ++ look ∷ []) list ≡ opened_look (slice_index words (head_word list))) [
    | inl last ↦ get_or_push looks look no_look list (seen.long ∙ sym last) ∙ now ∙ ap (λ k. opened_look (slice_index words (head_word k))) (sym last)
    | inr before ↦ get_or_append_left looks (look ∷ []) no_look list (let long = seen.long in omega arith) ∙ seen.each list (omega arith)
  ];
}

-- The parts of a heap that was opened at rest.
module _ (words : List ℕ) (held : List Block) (budget : ℕ) (h : HeldBlocks) (caches : List Cache) (look : Look) (looks : List Look)
    (ready : IsReady words held) (few : budget < 2 ^ 40) (is : IsHeldOf words held h) (none : caches ≡ replicate lists no_cache)
    (long : length looks ≡ lists) (look_is : look ≡ opened_look (slice_index words used_word))
    (looks_are : (list : ℕ) → list < lists → head_look looks list ≡ opened_look (slice_index words (head_word list))) where
  abbrev parts : Parts
  parts = record {
    words = opened words budget;
    capacity = capacity_of (slice_index words);
    caches = caches;
    blocks = h;
    taken = 0;
    used_look = look;
    head_looks = looks;
  }

  abbrev s : Shape
  s = record (opens words held ready).0 { start = λ class. 0 }

  no_blocks : (class : ℕ) → (opens words held ready).0.cached class ≡ []
  no_blocks = (opens words held ready).2

  is_shape : IsShape (capacity_of (slice_index words)) (slice_index words) (held_of h) s
  is_shape = same_held (capacity_of (slice_index words)) (slice_index words) held (held_of h) s (λ b p. (is.same b).1 p) (λ b p. (is.same b).0 p)
      (begins_anywhere (capacity_of (slice_index words)) (slice_index words) held (opens words held ready).0 no_blocks (opens words held ready).1)

  -- each cache is empty
  cache_is : (class : ℕ) → IsClass class → cache_at caches class ≡ no_cache
  cache_is class is_class =
      let last = is_class.last in
      subst (λ cs. cache_at cs class ≡ no_cache) (sym none) (get_or-replicate lists class no_cache no_cache (omega arith))

  cache_right : (class : ℕ) → IsClass class → IsCacheOf s class (cache_at caches class)
  cache_right class is_class = subst (IsCacheOf s class) (sym (cache_is class is_class)) (record {
    first = refl;
    count = sym (ap length (no_blocks class));
    most = omega arith;
  })

  running : IsRunning parts
  running = record {
    words_open = record { running = refl; long = let length_is = ready.formed.length_is in omega arith };
    below = omega arith;
    bounded = few;
    caches_long = ap length none ∙ length-replicate lists no_cache;
    looks_long = long;
    shape = s;
    is = is_shape;
    caches = cache_right;
    sizes = record { start = is.start; long = is.long; sizes = λ d within is_class place. (is.sizes d within).of_class is_class };
    settled = record { infos = λ d within. refl; used = refl };
    pops = λ list less.
        let never = never_popped (λ d. slice_index words (link_word d)) (capacity_of (slice_index words)) (slice_index words (head_word list))
        (ready.shaped.descriptors list) ready.formed.small (ready.shaped.follows list less) in
        omega arith;
    knows =
        let seen : look.seen ≡ slice_index words used_word = ap (λ (l : Look). l.seen) look_is in
        let taken : look.taken ≡ 0 = ap (λ (l : Look). l.taken) look_is in
        omega arith;
    few = omega arith;
  }

  opens_parts : Opens words held budget parts
  opens_parts = record {
    running = running;
    accounted = record { each = λ d within. by_use d ((opens_accounted words held ready).each d within) };
    empty = λ class is_class. ap (λ (c : Cache). c.count) (cache_is class is_class);
    words_are = refl;
    capacity = refl;
    same = is.same;
    taken = refl;
    used_look = look_is;
    head_looks = looks_are;
  } where
    by_use : (d : ℕ) → HasUse (capacity_of (slice_index words)) (slice_index words) held d
        → HasUse (capacity_of (slice_index words)) (slice_index words) (held_of h) d
    by_use d (for_class is_class) = for_class is_class
    by_use d (for_held b holds part) = for_held b ((is.same b).1 holds) part
    by_use d (for_later in_free) = for_later in_free

  -- with words and capacity that are told by equations
  pub opens_with : (v : View) (capacity : ℕ) → v ≡ opened words budget → capacity ≡ capacity_of (slice_index words)
      → Opens words held budget (record parts { words = v; capacity = capacity })
  opens_with v capacity words_are capacity_is =
      subst (λ v. Opens words held budget (record parts { words = v; capacity = capacity })) (sym words_are)
      (subst (λ n. Opens words held budget (record parts { capacity = n })) (sym capacity_is) opens_parts)
