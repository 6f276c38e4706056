-- Where the prefix of a cache stands, and which words giving it back stores to.
use Rattle.std.proofs.Common.{◌≡◌, ◌≢◌, ℕ, ◌+◌, ◌<◌, ◌≤◌, ◌⊎◌, inl, inr, List, [], ◌∷◌, ◌++◌, length, Contains, refl, ap, sym, subst, ◌∙◌, arith, length-append}
use Rattle.std.proofs.lemmas.List.Elements.{Contains-append_left, Contains-append_right}
use Rattle.heap_model.specs.Geometry.{lists, head_word, info_word, anchor_word, link_word, used_word, start_word, image_words}
use Rattle.heap_model.specs.Sizes.{IsClass, blocks_of}
use Rattle.heap_model.specs.Blocks.{IsIn}
use Rattle.heap_model.specs.Words.{anchor_state, anchor_count}
use Rattle.heap_model.specs.Chains.{Walks}
use Rattle.heap_model.proofs.MemberLemmas.{in_head}
use Rattle.heap_shape.specs.Shape.{Shape, in_list, is_full}
use Rattle.heap_shape.specs.Standing.{IsOfClass}
use Rattle.heap_shape.specs.Effects.{IsInSuperblock}
use Rattle.heap_shape.proofs.BasicLemmas.{first_inside, first_injective, inside_one, cached_of_class, in_class_list, in_full}
use Rattle.heap_shape.proofs.CountLemmas.{few_given}
use Rattle.heap_shape.proofs.CacheLemmas.{cached_apart}
use Rattle.line_memory.specs.View.{View}
use Rattle.anchor_word.specs.declared.anchor.State.{State}
use Rattle.anchor_word.specs.declared.anchor.State.TheVariants.{Empty, Partial, Full}
use Rattle.anchor_word.specs.Anchor.{state_number}
use Rattle.block_heap.specs.declared.small.CachePrefix.{CachePrefix}
use Rattle.block_heap.specs.Batches.{IsGiveWord}
use Rattle.block_heap.specs.Flush.{IsCachePrefix}
use Rattle.block_heap.specs.Links.{IsPushWord}
use Rattle.block_heap.specs.Medium.{StoresOnly}
use Rattle.block_heap.specs.Parts.{Parts, image_of, held_in, cache_at}
use Rattle.block_heap.specs.Running.{IsRunning, IsCacheOf, LeavesHeld}
use Rattle.block_heap.specs.AllocatorWords.{IsAllocatorWord, is_head, is_anchor, is_link, is_inside}
use Rattle.block_heap.proofs.MediumLemmas.{stores_then, stores_more}
use Rattle.block_heap.proofs.LookLemmas.{looks_of}
use Rattle.block_heap.proofs.SmallLemmas.{leaves_held_of}
use Rattle.block_heap.proofs.WalkLemmas.{walk_prefix, walk_first}

-- the states by their numbers
pub full_number : (state : State) → state_number state ≡ 2 → state ≡ Full
full_number Empty e = absurd (omega arith)
full_number Partial e = absurd (omega arith)
full_number Full e = refl

-- where the prefix of a cache stands
module _ (p : Parts) (class : ℕ) (is : IsClass class) (run : IsRunning p) (prefix : CachePrefix) (is_prefix : IsCachePrefix class prefix p) where
  abbrev pub blocks : List ℕ
  blocks = is_prefix.before ++ prefix.batch.last ∷ []

  abbrev pub s : Shape
  s = run.shape

  pub cache_of : IsCacheOf s class (cache_at p.caches class)
  cache_of = run.caches class is

  -- the cache has the prefix, and the rest behind it
  pub split : (rest : List ℕ) × (s.cached class ≡ blocks ++ rest)
  split =
      let first : (cache_at p.caches class).first ≡ s.start class = cache_of.first in
      let count : (cache_at p.caches class).count ≡ length (s.cached class) = cache_of.count in
      let batch = is_prefix.count in
      let left = is_prefix.rest in
      walk_prefix (image_of p) (s.start class) blocks (s.cached class) (subst (λ x. Walks (image_of p) x blocks) first is_prefix.walks)
      (run.is.walks class is)
      (omega arith)

  pub rest_long : length split.0 ≡ prefix.rest.count
  rest_long =
      let count : (cache_at p.caches class).count ≡ length (s.cached class) = cache_of.count in
      let batch = is_prefix.count in
      let left = is_prefix.rest in
      let e : length (s.cached class) ≡ length (blocks ++ split.0) = ap (λ (xs : List ℕ). length xs) split.1 in
      let both = length-append blocks split.0 in
      omega arith

  last_in : Contains blocks prefix.batch.last
  last_in = Contains-append_right is_prefix.before (prefix.batch.last ∷ []) prefix.batch.last (in_head prefix.batch.last [])

  last_cached : Contains (s.cached class) prefix.batch.last
  last_cached = subst (λ xs. Contains xs prefix.batch.last) (sym split.1) (Contains-append_left blocks split.0 prefix.batch.last last_in)

  pub last_inside : IsInSuperblock p.capacity prefix.d prefix.batch.last
  last_inside = first_inside p.capacity class prefix.d prefix.batch.last is (is_prefix.firsts prefix.batch.last last_in)

  -- its superblock is cut for the class, and in its list or full
  found_is : (run.is.cached class prefix.batch.last is last_cached).superblock ≡ prefix.d
  found_is =
      let found = run.is.cached class prefix.batch.last is last_cached in
      inside_one p.capacity found.superblock prefix.d prefix.batch.last
      (first_inside p.capacity class found.superblock prefix.batch.last is found.is_first)
      last_inside

  pub prefix_class : IsOfClass p.capacity (image_of p) s (held_in p) class prefix.d
  prefix_class = subst (λ e. IsOfClass p.capacity (image_of p) s (held_in p) class e) found_is
      (cached_of_class p.capacity (image_of p) (held_in p) s run.is class prefix.batch.last is last_cached)

  -- in its class list, with an anchor that says so, or full
  pub prefix_state : ((s.place prefix.d ≡ in_list class) × (anchor_state (image_of p (anchor_word prefix.d)) ≢ 2)
      × (anchor_state (image_of p (anchor_word prefix.d)) ≢ 3))
      ⊎ ((s.place prefix.d ≡ is_full) × (image_of p (info_word prefix.d) ≡ class) × (anchor_state (image_of p (anchor_word prefix.d)) ≡ 2)
      × (s.chain prefix.d ≡ []))
  prefix_state =
      let placed : (s.place prefix.d ≡ in_list class) ⊎ ((s.place prefix.d ≡ is_full) × (image_of p (info_word prefix.d) ≡ class)) =
      subst (λ e. (s.place e ≡ in_list class) ⊎ ((s.place e ≡ is_full) × (image_of p (info_word e) ≡ class))) found_is
      (run.is.cached class prefix.batch.last is last_cached).place in
      elim placed [
        | inl listed ↦
            let of = in_class_list p.capacity (image_of p) (held_in p) s run.is class prefix.d is is_prefix.within listed in
            inl (elim of.state as (λ _. (s.place prefix.d ≡ in_list class) × (anchor_state (image_of p (anchor_word prefix.d)) ≢ 2)
            × (anchor_state (image_of p (anchor_word prefix.d)) ≢ 3)) [
              | inl all ↦ let number = all.0 in (listed, (λ e. omega arith), (λ e. omega arith))
              | inr some ↦ let number = some.0 in (listed, (λ e. omega arith), (λ e. omega arith))
            ])
        | inr full ↦
            let of = in_full p.capacity (image_of p) (held_in p) s run.is prefix.d is_prefix.within full.0 in
            let number : anchor_state (image_of p (anchor_word prefix.d)) ≡ 2 = ap anchor_state of.anchor in
            inr (full.0, full.1, number, of.none)
      ]

  pub prefix_anchor : anchor_state (image_of p (anchor_word prefix.d)) ≢ 3
  prefix_anchor e = elim prefix_state as (λ _. ⊥) [ inl listed ↦ listed.2 e | inr full ↦ let number = full.2 in omega arith ]

  pub prefix_first : prefix.batch.first < blocks_of class
  prefix_first =
      let begins = is_prefix.firsts (cache_at p.caches class).first (walk_first (image_of p)
      (cache_at p.caches class).first is_prefix.before prefix.batch.last is_prefix.walks) in
      let same = first_injective p.capacity class prefix.d prefix.batch.first begins.index is (sym is_prefix.first ∙ begins.at) in
      let below = begins.below in
      omega arith

  pub prefix_last : prefix.batch.last < image_words p.capacity
  prefix_last = let within = is_prefix.within in let until = last_inside.until in omega arith

  pub prefix_fits : prefix.batch.count + anchor_count (image_of p (anchor_word prefix.d)) ≤ blocks_of class
  prefix_fits =
      let few = few_given p.capacity (image_of p) (held_in p) s run.is class prefix.d blocks split.0 prefix_class split.1 is_prefix.firsts in
      let count = is_prefix.count in
      let chain = prefix_class.count in
      omega arith

  pub few_rest : length split.0 ≤ blocks_of class
  few_rest =
      let left = is_prefix.rest in
      let most : (cache_at p.caches class).count ≤ blocks_of class = cache_of.most in
      let long = rest_long in
      omega arith

  -- the words that giving stores to are an allocator's
  pub give_word : (word : ℕ) → IsGiveWord prefix.d prefix.batch word → IsAllocatorWord p.capacity (held_in p) word
  give_word word (inl at) = is_anchor prefix.d is_prefix.within at
  give_word word (inr at) = is_inside (let from = last_inside.from in omega arith) (let within = is_prefix.within in
      let until = last_inside.until in omega arith)
      (λ b holds is_in. cached_apart p.capacity (image_of p) (held_in p) s class prefix.batch.last b run.is is last_cached holds
      (subst (λ x. IsIn b x) at is_in))

  pub give_low : (word : ℕ) → word < start_word p.capacity 0 → word ≢ anchor_word prefix.d → IsGiveWord prefix.d prefix.batch word → ⊥
  give_low word low other (inl at) = other at
  give_low word low other (inr at) = let from = last_inside.from in omega arith

  push_word : (list word : ℕ) → list < lists → IsPushWord list prefix.d word → IsAllocatorWord p.capacity (held_in p) word
  push_word list word below (inl at) = is_head list below at
  push_word list word below (inr at) = is_link prefix.d is_prefix.within at

  abbrev pub IsEitherWord : ℕ → ℕ → Type 0
  IsEitherWord list word = IsGiveWord prefix.d prefix.batch word ⊎ IsPushWord list prefix.d word

  both_word : (list word : ℕ) → list < lists → IsEitherWord list word → IsAllocatorWord p.capacity (held_in p) word
  both_word list word below (inl given) = give_word word given
  both_word list word below (inr pushed) = push_word list word below pushed

  pub both_low : (list word : ℕ) → word < start_word p.capacity 0 → word ≢ anchor_word prefix.d → word ≢ link_word prefix.d → word ≢ head_word list
      → IsEitherWord list word → ⊥
  both_low list word low not_anchor not_link not_head (inl given) = give_low word low not_anchor given
  both_low list word low not_anchor not_link not_head (inr (inl at)) = not_head at
  both_low list word low not_anchor not_link not_head (inr (inr at)) = not_link at

  pub gave_leaves_held : (q : Parts) → q.capacity ≡ p.capacity → looks_of q ≡ looks_of p → q.taken ≡ p.taken
      → StoresOnly (IsGiveWord prefix.d prefix.batch) p.words q.words → LeavesHeld (held_in p) p q
  gave_leaves_held q capacity look taken stores = leaves_held_of p q (held_in p) (IsGiveWord prefix.d prefix.batch) run capacity look taken give_word
      (λ at. give_low used_word (omega arith) (omega arith) at) stores

  pub both_stores : (w x : View) (list : ℕ) → StoresOnly (IsGiveWord prefix.d prefix.batch) p.words w → StoresOnly (IsPushWord list prefix.d) w x
      → StoresOnly (IsEitherWord list) p.words x
  both_stores w x list given pushed = stores_then (IsEitherWord list) p.words w x
      (stores_more (IsGiveWord prefix.d prefix.batch) (IsEitherWord list) p.words w (λ word at. inl at) given)
      (stores_more (IsPushWord list prefix.d) (IsEitherWord list) w x (λ word at. inr at) pushed)

  pub pushed_leaves_held : (w : View) (list : ℕ) (q : Parts) → list < lists → q.capacity ≡ p.capacity → looks_of q ≡ looks_of p → q.taken ≡ p.taken
      → StoresOnly (IsGiveWord prefix.d prefix.batch) p.words w → StoresOnly (IsPushWord list prefix.d) w q.words → LeavesHeld (held_in p) p q
  pushed_leaves_held w list q below capacity look taken given pushed = leaves_held_of p q (held_in p) (IsEitherWord list) run capacity look taken
      (λ word at. both_word list word below at)
      (λ at. both_low list used_word (omega arith) (omega arith) (omega arith) (omega arith) at) (both_stores w q.words list given pushed)
