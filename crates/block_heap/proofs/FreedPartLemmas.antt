-- What freeing the superblocks of a large block has done so far.
use Rattle.std.proofs.Common.{◌≡◌, ◌≢◌, ℕ, ◌+◌, ◌-◌, ◌*◌, ◌<◌, ◌≤◌, ◌⊎◌, inl, inr, zero, suc, ◌∷◌, ◌++◌, Contains, ap, sym, subst, ◌∙◌, arith, []}
use Rattle.std.proofs.lemmas.Bool.{cases_eq}
use Rattle.heap_model.specs.declared.block.Block.{Block}
use Rattle.heap_model.specs.Geometry.{head_word, info_word, anchor_word, link_word, used_word, largest_capacity}
use Rattle.heap_model.specs.Sizes.{IsClass}
use Rattle.heap_model.specs.Image.{words_from}
use Rattle.heap_model.specs.Words.{head_pops}
use Rattle.heap_shape.specs.Moves.{TakesFrom}
use Rattle.line_memory.specs.Marks.{marked_words}
use Rattle.block_heap.specs.declared.held.HeldBlocks.{HeldBlocks}
use Rattle.block_heap.specs.Held.{held_of, at_mark, block_of_mark}
use Rattle.block_heap.specs.Accounts.{IsUsed, GivesUse}
use Rattle.block_heap.specs.Medium.{RunsWithin}
use Rattle.block_heap.specs.Lists.{head_at, IsInList, KeepsFree, KeepsList}
use Rattle.block_heap.specs.Order.{Frees}
use Rattle.block_heap.specs.Returns.{FreesOne}
use Rattle.block_heap.specs.Parts.{Parts, image_of, held_in}
use Rattle.block_heap.specs.Running.{IsRunning, LeavesHeld}
use Rattle.block_heap.specs.Large.{IsDropped}
use Rattle.block_heap.proofs.HeldLemmas.{only_map, mark_block}
use Rattle.block_heap.proofs.OrderLemmas.{frees_then}
use Rattle.block_heap.proofs.SmallLemmas.{leaves_held_then}

-- a held block is that of its mark
pub held_mark : (h : HeldBlocks) (b : Block) → Contains (held_of h) b → at_mark h b.first_word ≡ b
held_mark h b holds =
    let found = only_map (block_of_mark h.start h.words.items) (marked_words h.marks.items) b holds in
    let first : h.start + 2 * found.0 ≡ b.first_word = ap (λ (x : Block). x.first_word) found.2 in
    sym (mark_block h.start h.words.items found.0 b.first_word first) ∙ found.2

-- numbers in order, with the last one apart
numbers_last : (from count : ℕ) → words_from (λ n. n) from (suc count) ≡ words_from (λ n. n) from count ++ (from + count) ∷ []
numbers_last from zero = let same : from ≡ from + zero = omega arith in ap (λ n. n ∷ []) same
numbers_last from (suc count) =
    let same : from + 1 + count ≡ from + suc count = omega arith in
    ap (λ ns. from ∷ ns) (numbers_last (from + 1) count ∙ ap (λ n. words_from (λ k. k) (from + 1) count ++ n ∷ []) same)

-- so many superblocks of a large block, from `first` on, are to go to the free list, and those before d are there
pub record IsFreed (first d end : ℕ) (p q : Parts) : Type 0 where
  pub some : first + 1 ≤ end
  pub most : end ≤ first + largest_capacity
  pub until : d ≤ end
  pub running : IsRunning q
  pub left : (e : ℕ) → d ≤ e → e < end → IsDropped q e
  pub used : image_of q used_word ≡ image_of p used_word
  pub uses : (e : ℕ) → ((first ≤ e) × (e < d)) ⊎ IsUsed p e → IsUsed q e
  pub listed : (e : ℕ) → first ≤ e → e < d → IsInList q 0 e
  pub only : (e : ℕ) → IsInList q 0 e → IsInList p 0 e ⊎ ((first ≤ e) × (e < d))
  pub free : KeepsFree p q
  pub heads : (class : ℕ) → IsClass class → head_at q class ≡ head_at p class
  pub infos : (e : ℕ) → image_of q (info_word e) ≡ image_of p (info_word e)
  pub leaves_held : LeavesHeld (held_in p) p q
  pub blocks : q.blocks ≡ p.blocks
  pub caches : q.caches ≡ p.caches
  pub taken : q.taken ≡ p.taken
  pub in_order : (count : ℕ) → first + count ≡ d → Frees (words_from (λ n. n) first count) p q
  pub lists : (class : ℕ) → IsClass class → KeepsList p q class
  pub anchors : (e : ℕ) → first ≤ e → e < d → image_of q (anchor_word e) ≡ 0
  pub pops : head_pops (head_at q 0) ≡ head_pops (head_at p 0)
  pub others : (word : ℕ) → word ≢ head_word 0 → ((e : ℕ) → first ≤ e → e < d → (word ≢ anchor_word e) × (word ≢ link_word e))
      → image_of q word ≡ image_of p word
  pub few : q.words.drawn + 4 * first ≤ p.words.drawn + 4 * d
  pub drew : p.words.drawn + d ≤ q.words.drawn + first

-- one superblock more is in the free list
pub freed_more : (first d end : ℕ) (p q r : Parts) → d < end → IsFreed first d end p q → IsRunning r → ((e : ℕ) → e ≢ d → IsDropped q e → IsDropped r e)
    → GivesUse d q r → FreesOne d q r → RunsWithin 4 q.words r.words → r.blocks ≡ q.blocks → LeavesHeld (held_in q) q r → r.caches ≡ q.caches
    → r.taken ≡ q.taken → IsFreed first (d + 1) end p r
freed_more first d end p q r below freed running others gives frees runs_within blocks leaves_held caches taken = record {
  some = freed.some;
  most = freed.most;
  until = omega arith;
  running = running;
  left = λ e from until. others e (λ same. omega arith) (freed.left e (omega arith) until);
  used = gives.used ∙ freed.used;
  uses = uses;
  listed = λ e from until. elim (cases_eq e d) as (λ _. IsInList r 0 e) [
    | inl same ↦ subst (λ k. IsInList r 0 k) (sym same) frees.freed
    | inr other ↦ frees.free e (freed.listed e from (omega arith))
  ];
  only = λ e there. elim (frees.only e there) as (λ _. IsInList p 0 e ⊎ ((first ≤ e) × (e < d + 1))) [
    | inl before ↦ elim (freed.only e before) as (λ _. IsInList p 0 e ⊎ ((first ≤ e) × (e < d + 1))) [
      | inl was ↦ inl was
      | inr one ↦ inr (one.0, omega (arith, one.1))
    ]
    | inr same ↦ inr (let few = freed.few in let more = freed.leaves_held.as_allocator.stores.drawn in omega arith, omega arith)
  ];
  free = λ e there. frees.free e (freed.free e there);
  heads = λ class is. frees.heads class is ∙ freed.heads class is;
  infos = λ e. frees.infos e ∙ freed.infos e;
  in_order = in_order;
  lists = λ class is ds leads. frees.lists class is ds (freed.lists class is ds leads);
  anchors = λ e from until. elim (cases_eq e d) as (λ _. image_of r (anchor_word e) ≡ 0) [
    | inl same ↦ subst (λ k. image_of r (anchor_word k) ≡ 0) (sym same) frees.anchor
    | inr other ↦ frees.others (anchor_word e) (λ at. omega arith) (λ at. other (omega arith)) (λ at. omega arith)
        ∙ freed.anchors e from (omega arith)
  ];
  pops = frees.pops ∙ freed.pops;
  others = λ word not_head apart.
      let from : first ≤ d = let few = freed.few in let more = freed.leaves_held.as_allocator.stores.drawn in omega arith in
      let now = apart d from (omega arith) in
      frees.others word not_head now.0 now.1 ∙ freed.others word not_head (λ e low high. apart e low (omega arith));
  leaves_held = leaves_held_then p q r (held_in p) freed.leaves_held (subst (λ (h : HeldBlocks). LeavesHeld (held_of h) q r) freed.blocks leaves_held);
  blocks = blocks ∙ freed.blocks;
  caches = caches ∙ freed.caches;
  taken = taken ∙ freed.taken;
  few = let before = freed.few in let more = runs_within.few in omega arith;
  drew = let before = freed.drew in let more = runs_within.drew in omega arith;
} where
  in_order : (count : ℕ) → first + count ≡ d + 1 → Frees (words_from (λ n. n) first count) p r
  in_order zero at = absurd (let few = freed.few in let more = freed.leaves_held.as_allocator.stores.drawn in omega arith)
  in_order (suc count) at =
      let last : d ≡ first + count = omega arith in
      subst (λ ns. Frees ns p r) (ap (λ k. words_from (λ n. n) first count ++ k ∷ []) last ∙ sym (numbers_last first count))
      (frees_then (words_from (λ n. n) first count) (d ∷ []) p q r (freed.in_order count (omega arith)) frees.first)

  uses : (e : ℕ) → ((first ≤ e) × (e < d + 1)) ⊎ IsUsed p e → IsUsed r e
  uses e (inr before) = gives.uses e (inr (freed.uses e (inr before)))
  uses e (inl done) = elim (cases_eq e d) as (λ _. IsUsed r e) [
    | inl same ↦ gives.uses e (inl same)
    | inr other ↦ gives.uses e (inr (freed.uses e (inl (done.0, omega (arith, done.1)))))
  ]

-- the parts leave the blocks that are held still
pub freed_leaves_held : (first d end : ℕ) (h : HeldBlocks) (p q r : Parts) → IsFreed first d end (record p { blocks = h }) q
    → r.blocks ≡ q.blocks → LeavesHeld (held_in q) q r
    → LeavesHeld (held_in r) p r
freed_leaves_held first d end h p q r freed blocks leaves_held =
    let all = leaves_held_then (record p { blocks = h }) q r (held_of h) freed.leaves_held
    (subst (λ (x : HeldBlocks). LeavesHeld (held_of x) q r) freed.blocks leaves_held) in
    subst (λ (x : HeldBlocks). LeavesHeld (held_of x) p r) (sym (blocks ∙ freed.blocks))
    (record {
      capacity = all.capacity;
      as_allocator = all.as_allocator;
      knows = all.knows;
      taken = all.taken;
      looks = record { used = all.looks.used; heads = all.looks.heads };
    })

-- the block is held no more
pub freed_takes : (p r : Parts) (b : Block) (h : HeldBlocks) → Contains (held_in p) b
    → TakesFrom (at_mark p.blocks b.first_word) (held_in p) (held_of h) → r.blocks ≡ h
    → TakesFrom b (held_in p) (held_in r)
freed_takes p r b h holds takes same =
    subst (λ (x : HeldBlocks). TakesFrom b (held_in p) (held_of x)) (sym same)
    (subst (λ x. TakesFrom x (held_in p) (held_of h)) (held_mark p.blocks b holds) takes)
