-- What is left of a stack by what is done to it, and stacks of which one is another.
use Rattle.std.proofs.Common.{◌≡◌, ℕ, zero, suc, ◌+◌, ◌-◌, ◌*◌, ◌<◌, ◌≤◌, inl, inr, List, [], ◌∷◌, ◌++◌, drop, take, get_or, set, length, ap, sym, subst, ◌∙◌, length-set, length-drop, append-nil, add-one, arith}
use Rattle.std.proofs.lemmas.Bool.{cases_eq}
use Rattle.std.proofs.lemmas.List.{drop_all, drop_more, drop-set, drop-set-add, take_more, take_more_set, get_or-set_same, get_or-set_other}
use Rattle.heap_model.specs.Geometry.{lists}
use Rattle.heap_model.specs.Sizes.{IsClass, blocks_of}
use Rattle.heap_model.proofs.SizeLemmas.{four_blocks}
use Rattle.core_model.specs.View.{of_class}
use Rattle.core_model.specs.Effects.{rest_of, steps}
use Rattle.core_model.proofs.BlockLemmas.{of_class_same, of_class_other}
use Rattle.seat_state.proofs.WordLemmas.{entry_is}
use Rattle.seat_index.specs.declared.stacks.Stack.{Stack}
use Rattle.seat_index.specs.Stacks.{IsTopOf, AreStacks, HasStack, IsRestacked}

-- the entry of a list
pub the_entry : (stacks : List Stack) (i : ℕ) (x y : Stack) → i < length stacks → get_or stacks i x ≡ x → get_or stacks i y ≡ y → x ≡ y
the_entry stacks i x y less x_at y_at = sym x_at ∙ entry_is stacks i x y less ∙ y_at

-- one that holds nothing leaves any cache to loads
pub empty_top : (s : Stack) (cache : List ℕ) → s.top ≡ length s.blocks.items → IsTopOf s cache
empty_top s cache none = record {
  inside = omega arith;
  deeper = cache;
  is = ap (λ l. l ++ cache) (drop_all s.top s.blocks.items (omega arith));
}

module _ (s : Stack) (cache : List ℕ) (top : IsTopOf s cache) where
  -- without its first block
  pub popped : s.top < length s.blocks.items → IsTopOf (record s { top = s.top + 1 }) (rest_of cache)
  popped some = record {
    inside = omega arith;
    deeper = top.deeper;
    is = ap rest_of (ap (λ l. l ++ top.deeper) (sym (drop_more s.blocks.items s.top 0 some)) ∙ top.is);
  }

  pub popped_none : length s.blocks.items ≤ s.top → IsTopOf s (rest_of cache)
  popped_none none = empty_top s (rest_of cache) (let i = top.inside in omega arith)

  -- with one more in front
  pub pushed : (new : Stack) (block : ℕ) → 1 ≤ s.top → new.top ≡ s.top - 1 → new.blocks.items ≡ set s.blocks.items (s.top - 1) block
      → IsTopOf new (block ∷ cache)
  pushed new block some top_is blocks_are =
      let inside : s.top - 1 < length s.blocks.items = (let i = top.inside in omega arith) in record {
        inside = (let l = length-set s.blocks.items (s.top - 1) block in let e = ap length blocks_are in omega arith);
        deeper = top.deeper;
        is = ap (λ l. drop new.top l ++ top.deeper) blocks_are ∙ ap (λ n. drop n (set s.blocks.items (s.top - 1) block) ++ top.deeper) top_is
            ∙ ap (λ l. l ++ top.deeper) (drop-set s.blocks.items (s.top - 1) block inside)
            ∙ ap (λ n. block ∷ (drop n s.blocks.items ++ top.deeper)) (let e : s.top - 1 + 1 ≡ s.top = omega arith in e) ∙ ap (λ l. block ∷ l) top.is;
      }

-- all blocks of a cache
pub whole_top : (s : Stack) (cache : List ℕ) → s.top ≤ length s.blocks.items → drop s.top s.blocks.items ≡ cache → IsTopOf s cache
whole_top s cache inside is = record { inside = inside; deeper = []; is = simp append-nil is }

-- one number more of those that are so many apart
steps_next : (from apart n : ℕ) → steps from apart (suc n) ≡ steps from apart n ++ (from + n * apart) ∷ []
steps_next from apart zero = ap (λ x. x ∷ []) (let e : from ≡ from + 0 * apart = grind arith in e)
steps_next from apart (suc n) = ap (λ l. from ∷ l) (steps_next (from + apart) apart n
    ∙ ap (λ x. steps (from + apart) apart n ++ x ∷ []) (let e : from + apart + n * apart ≡ from + suc n * apart = grind arith in e))

pub steps_more : (from apart n : ℕ) → steps from apart (n + 1) ≡ steps from apart n ++ (from + n * apart) ∷ []
steps_more from apart n = ap (steps from apart) (add-one n) ∙ steps_next from apart n

-- one block more of a chain, which is put behind those that are there
pub filled_more : (items cache : List ℕ) (top i block : ℕ) → take i (drop top items) ≡ take i cache → i < length cache
    → get_or cache i block ≡ block → top + i < length items
    → take (i + 1) (drop top (set items (top + i) block)) ≡ take (i + 1) cache
filled_more items cache top i block same less at inside =
    ap (take (i + 1)) (drop-set-add top items i block) ∙ take_more_set (drop top items) i block (let l = length-drop top items in omega arith)
    ∙ ap (λ l. l ++ block ∷ []) same ∙ ap (λ x. take i cache ++ x ∷ []) (sym at) ∙ sym (take_more cache i block less)

-- the stacks of a seat's caches once one of them is another
module _ (old new : List Stack) (caches : List (List ℕ)) (class : ℕ) (change : List ℕ → List ℕ) (are : AreStacks old caches) where
  pub restacked : class < lists → class < length caches → IsRestacked old new class change
      → AreStacks new (set caches class (change (of_class caches class)))
  restacked less inside r = subst (λ l. AreStacks l (set caches class (change (of_class caches class)))) (sym r.is) (record {
    long = length-set old class r.stack ∙ are.long;
    room = λ n x at is. elim (cases_eq n class) [
      | inl here ↦ ap (λ (s : Stack). length s.blocks.items) (sym (new_at n x at here)) ∙ r.room before before_at
          ∙ are.room class before before_at (subst IsClass here is) ∙ ap blocks_of (sym here)
      | inr other ↦ are.room n x (sym (get_or-set_other old class n r.stack x other) ∙ at) is
    ];
    each = λ n x at low. elim (cases_eq n class) [
      | inl here ↦ subst (λ s. IsTopOf s (of_class (set caches class (change (of_class caches class))) n)) (new_at n x at here)
          (subst (IsTopOf r.stack) (sym (of_class_same caches class (change (of_class caches class)) n here inside))
          (r.top before (of_class caches class) before_at (are.each class before before_at less)))
      | inr other ↦ subst (IsTopOf x) (sym (of_class_other caches class (change (of_class caches class)) n other))
          (are.each n x (sym (get_or-set_other old class n r.stack x other) ∙ at) low)
    ];
  }) where
    before : Stack
    before = get_or old class r.stack

    before_at : get_or old class before ≡ before
    before_at = entry_is old class before r.stack (let l = are.long in omega arith)

    new_at : (n : ℕ) (x : Stack) → get_or (set old class r.stack) n x ≡ x → n ≡ class → r.stack ≡ x
    new_at n x at here = sym (get_or-set_same old class r.stack x (let l = are.long in omega arith))
        ∙ subst (λ m. get_or (set old class r.stack) m x ≡ x) here at

-- the stack of a class
pub has_stack : (stacks : List Stack) (caches : List (List ℕ)) (class : ℕ) → AreStacks stacks caches → IsClass class → HasStack stacks class
has_stack stacks caches class are is = record {
  below = (let l = are.long in let c = is.last in omega arith);
  inside = λ x at. (are.each class x at (let c = is.last in omega arith)).inside;
  room = λ x at. are.room class x at is;
  some = (let four = four_blocks class is in omega arith);
}

-- a stack that holds other blocks, which are the whole cache
pub filled_stack : (old : List Stack) (class number : ℕ) (before new : Stack) (cache : List ℕ) → number ≡ class → number < length old
    → get_or old number before ≡ before → length new.blocks.items ≡ length before.blocks.items
    → new.top ≤ length new.blocks.items → drop new.top new.blocks.items ≡ cache → IsRestacked old (set old number new) class (λ any. cache)
filled_stack old class number before new cache number_is less at room inside is = record {
  stack = new;
  is = ap (λ n. set old n new) number_is;
  room = λ x x_at. room ∙ ap (λ (s : Stack). length s.blocks.items)
      (the_entry old number before x less at (subst (λ n. get_or old n x ≡ x) (sym number_is) x_at));
  top = λ x any x_at top. whole_top new cache inside is;
}

-- a stack that holds nothing, as a heap is opened
pub record IsEmptyStack (class : ℕ) (stack : Stack) : Type 0 where
  pub none : stack.top ≡ length stack.blocks.items
  pub room : IsClass class → length stack.blocks.items ≡ blocks_of class

pub empty_are : (stacks : List Stack) (caches : List (List ℕ)) → length stacks ≡ lists
    → ((n : ℕ) (x : Stack) → n < lists → get_or stacks n x ≡ x → IsEmptyStack n x) → AreStacks stacks caches
empty_are stacks caches long each = record {
  long = long;
  room = λ class x at is. (each class x (let l = is.last in omega arith) at).room is;
  each = λ class x at less. empty_top x (of_class caches class) (each class x less at).none;
}
