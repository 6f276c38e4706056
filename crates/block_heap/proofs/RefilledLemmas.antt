-- A refill answers by what its three looks found: the class list, the free list and `used`.
use Rattle.std.proofs.Common.{◌≡◌, ℕ, ◌≤◌, inl, inr, Bool, true, false, None, List, get_or, refl, ap, sym, subst, ◌∙◌, arith}
use Rattle.std.proofs.lemmas.Bool.{cases_eq}
use Rattle.heap_model.specs.Geometry.{lists, head_word, used_word}
use Rattle.heap_model.specs.Sizes.{IsClass}
use Rattle.heap_model.specs.Words.{head_first}
use Rattle.heap_seat.specs.declared.look.Look.{Look}
use Rattle.block_heap.specs.Parts.{Parts, image_of, held_in, cache_at}
use Rattle.block_heap.specs.Refill.{FindsPartial, FindsFree, FindsFresh, Refills}
use Rattle.block_heap.specs.Running.{LeavesHeld}
use Rattle.block_heap.specs.Serving.{HasRoom, in_cache, in_class_list, in_free_list, in_fresh}
use Rattle.block_heap.specs.Lists.{head_at}
use Rattle.block_heap.specs.Steps.{look_at, IsLook, FindsEmpty}
use Rattle.block_heap.specs.Order.{CutsAll, RefillsFrom, from_fresh, OrdersPartial, OrdersFresh}
use Rattle.block_heap.proofs.OrderLemmas.{pops_same, pops_then, moves_then, moves_same, cuts_after}
use Rattle.std.proofs.lemmas.Bool.{cases_eq}
use Rattle.block_heap.proofs.RefillLemmas.{only_then}
use Rattle.block_heap.proofs.PartialLemmas.{look_later, empty_same}

-- First the list of the class is looked through, then the free list, and then superblocks that were never taken.
module _ (class : ℕ) (p a b : Parts) (is : IsClass class) (a_leaves_held : LeavesHeld (held_in p) p a) (a_taken : a.taken ≡ p.taken)
    (b_leaves_held : LeavesHeld (held_in a) a b) where
  module _ (q : Parts) (b_taken : b.taken ≡ a.taken) (q_leaves_held : LeavesHeld (held_in b) b q) (part : FindsPartial class false p a)
      (free : FindsFree class false a b) where
    finds : FindsEmpty 0 a b
    finds = free.1

    used_then : image_of b used_word ≡ image_of p used_word
    used_then = ap (λ (xs : List ℕ). get_or xs used_word 0) finds.volatile ∙ part.2

    -- a superblock that was never taken is cut only where both lists were empty
    pub refills_from_fresh : OrdersPartial class false p a → (some : Bool) → OrdersFresh class some b q → some ≡ true → RefillsFrom class p q
    refills_from_fresh found some orders is =
        let cuts = subst (λ s. OrdersFresh class s b q) is orders in
        let none = part.3 finds.empty in
        from_fresh none.1 none.0
        (subst (λ d. CutsAll class d p q) used_then (cuts_after class (image_of b used_word) p b q
        (moves_then class p a b found.0 (moves_same class a b b_leaves_held.capacity finds.volatile)) cuts.0))
        (let now = cuts.1 in let before = b_taken in let first = a_taken in omega arith)
        (pops_then class 0 0 0 0 0 p b q refl (pops_same class p b (finds.volatile ∙ (part.4 none.1).volatile)) cuts.2)

    some_fresh : FindsFresh class true b q → Refills class true p q
    some_fresh fresh =
        let same : b.capacity ≡ p.capacity = b_leaves_held.capacity ∙ a_leaves_held.capacity in
        let used = used_then in
        (fresh.0, in_fresh (omega (arith, fresh.1)))

    -- nothing was found anywhere
    module _ (fresh : FindsFresh class false b q) where
      words : q.words.volatile ≡ a.words.volatile
      words = fresh.2 ∙ finds.volatile

      same_head : (list : ℕ) → head_at q list ≡ head_at a list
      same_head list = ap (λ (xs : List ℕ). get_or xs (head_word list) 0) words

      same_look : (list : ℕ) → look_at q list ≡ look_at b list
      same_look list = ap (λ (ls : List Look). get_or ls list (record { seen = 0; ticket = None; taken = 0 })) fresh.4

      begun_a : p.words.drawn ≤ a.words.drawn
      begun_a = a_leaves_held.as_allocator.stores.drawn

      begun_b : a.words.drawn ≤ b.words.drawn
      begun_b = b_leaves_held.as_allocator.stores.drawn

      begun_q : b.words.drawn ≤ q.words.drawn
      begun_q = q_leaves_held.as_allocator.stores.drawn

      class_look : IsLook p.words.drawn q (look_at q class) (head_at q class)
      class_look =
          let same : look_at q class ≡ look_at a class = same_look class ∙ finds.others class (λ e. let some = is.some in omega arith) in
          let first = begun_a in
          let second = begun_b in
          let third = begun_q in
          subst (λ (l : Look). IsLook p.words.drawn q l (head_at q class)) (sym same)
          (subst (λ h. IsLook p.words.drawn q (look_at a class) h) (sym (same_head class))
          (look_later p.words.drawn p.words.drawn a q (look_at a class) (head_at a class) (omega arith) (omega arith) (fresh.5 ∙ b_taken) part.1.1))

      free_look : IsLook p.words.drawn q (look_at q 0) (head_at q 0)
      free_look =
          let first = begun_a in
          let third = begun_q in
          let head : head_at q 0 ≡ head_at b 0 = ap (λ (xs : List ℕ). get_or xs (head_word 0) 0) fresh.2 in
          subst (λ (l : Look). IsLook p.words.drawn q l (head_at q 0)) (sym (same_look 0))
          (subst (λ h. IsLook p.words.drawn q (look_at b 0) h) (sym head)
          (look_later a.words.drawn p.words.drawn b q (look_at b 0) (head_at b 0) (omega arith) (omega arith) fresh.5 finds.look))

      used_look : IsLook p.words.drawn q q.used_look (image_of q used_word)
      used_look =
          let first = begun_a in
          let second = begun_b in
          look_later b.words.drawn p.words.drawn q q q.used_look (image_of q used_word) (omega arith) (omega arith) refl fresh.3

      no_room : (cache_at p.caches class).count ≡ 0 → HasRoom p class → ⊥
      no_room empty (in_cache some) = omega arith
      no_room empty (in_class_list some) = some (part.3 finds.empty).1
      no_room empty (in_free_list some) = some (part.3 finds.empty).0
      no_room empty (in_fresh room) =
          let same : b.capacity ≡ p.capacity = b_leaves_held.capacity ∙ a_leaves_held.capacity in
          let used = used_then in
          omega (arith, fresh.1)

      none_found : (cache_at p.caches class).count ≡ 0 → Refills class false p q
      none_found empty = record {
        looked = record {
          class_look = class_look;
          class_empty = empty_same a q class words part.1.0;
          free_look = free_look;
          free_empty = empty_same a q 0 words finds.empty;
          used_look = used_look;
          past =
              let same : q.capacity ≡ b.capacity = q_leaves_held.capacity in
              let used : image_of q used_word ≡ image_of b used_word = ap (λ (xs : List ℕ). get_or xs used_word 0) fresh.2 in
              omega (arith, fresh.1);
        };
        none = no_room empty;
        empty = fresh.0;
        taken = fresh.5 ∙ b_taken ∙ a_taken;
        only = only_then 2 1 3 p b q (omega arith) (only_then 1 1 2 p a b (omega arith) (part.4 (part.3 finds.empty).1) finds.only) fresh.6;
      }

    pub fresh_refills : (cache_at p.caches class).count ≡ 0 → (some : Bool) → FindsFresh class some b q → Refills class some p q
    fresh_refills empty true fresh = some_fresh fresh
    fresh_refills empty false fresh = none_found fresh empty

-- blocks were found in the list of the class, or in the free list behind it
pub partial_refills : (class : ℕ) (p a : Parts) → FindsPartial class true p a → Refills class true p a
partial_refills class p a found = (found.0, in_class_list found.1)

pub free_refills : (class : ℕ) (p a b : Parts) → FindsPartial class false p a → FindsFree class true a b → Refills class true p b
free_refills class p a b before found = (
  found.0,
  elim (cases_eq (head_first (head_at p class)) 0) as (λ _. HasRoom p class) [
    | inl empty ↦ in_free_list (λ none. found.1 (empty_same p a 0 (before.4 empty).volatile none))
    | inr some ↦ in_class_list some
  ],
)
