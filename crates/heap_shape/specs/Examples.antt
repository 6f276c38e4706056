-- Worked examples by computation: one superblock of class 20, of words 1072 to 9263 and four blocks of 1792 words, in a heap of one.
use Rattle.std.specs.Prelude.{◌≡◌, ℕ, ◌+◌, ◌*◌, ◌<◌, List, [], ◌∷◌, Contains, map, refl}
use Rattle.std.proofs.Common.{arith, inl, inr, subst, sym}
use Rattle.heap_model.specs.declared.block.Block.{Block}
use Rattle.heap_model.specs.Geometry.{head_word, link_word}
use Rattle.heap_model.specs.Image.{Image}
use Rattle.heap_model.specs.Sizes.{class_sizes, words_of_class, blocks_of}
use Rattle.heap_model.specs.Examples.{image_with}
use Rattle.heap_model.specs.Chains.{Follows}
use Rattle.heap_shape.specs.Shape.{in_list, is_full, in_large, is_new, Shape, stands_in, with_at}
use Rattle.heap_shape.specs.Standing.{first_of, IsFirstOf, HoldsAt, times_free}
use Rattle.heap_shape.specs.Effects.{IsInSuperblock, all_firsts}
use Rattle.heap_shape.specs.Moves.{after_take, after_recycle, after_cut, after_join, after_give_all}
use Rattle.heap_shape.specs.Draining.{for_class, for_held, for_later, IsAccounted}
use Rattle.heap_at_rest.specs.Draining.{IsInFreeList, IsDrainable}

-- a place is one list, or none
places : map (λ place. stands_in place 3) (in_list 3 ∷ in_list 2 ∷ is_full ∷ in_large ∷ is_new ∷ []) ≡ 1 ∷ 0 ∷ 0 ∷ 0 ∷ 0 ∷ []
places = refl

-- a function with another value at 2
changed : map (with_at (λ n. n + 5) 2 9) (1 ∷ 2 ∷ 3 ∷ []) ≡ 6 ∷ 9 ∷ 8 ∷ []
changed = refl

-- the blocks, and two words that none begins with: a second one, and the first one behind the last block
firsts : (all_firsts 1 20 0 ≡ 1072 ∷ 2864 ∷ 4656 ∷ 6448 ∷ []) × (first_of 2 20 1 3 ≡ 14648)
unfolding blocks_of words_of_class class_sizes
firsts = (refl, refl)

second_block : IsFirstOf 1 20 0 2864
unfolding blocks_of words_of_class class_sizes
second_block = record { index = 1; below = omega arith; at = refl }

second_word : IsFirstOf 1 20 0 1073 → ⊥
unfolding words_of_class class_sizes
second_word is = let at : 1073 ≡ 1072 + is.index * 1792 = is.at in omega arith

behind_last : IsFirstOf 1 20 0 8240 → ⊥
unfolding blocks_of words_of_class class_sizes
behind_last is = let at : 8240 ≡ 1072 + is.index * 1792 = is.at in let four : is.index < 4 = is.below in omega arith

-- the first word of the superblock and its last, and the words beside them
borders : IsInSuperblock 1 0 1072 × IsInSuperblock 1 0 9263
borders = (record { from = omega arith; until = omega arith }, record { from = omega arith; until = omega arith })

beside_borders : (IsInSuperblock 1 0 1071 → ⊥) × (IsInSuperblock 1 0 9264 → ⊥)
beside_borders = (λ before. let from = before.from in omega arith, λ behind. let until = behind.until in omega arith)

-- blocks 0 and 2 are held, and blocks 1 and 3 free in the superblock's chain
abbrev held : List Block
held = record { first_word = 1072; words = 1792 } ∷ record { first_word = 4656; words = 1792 } ∷ []

-- a shape of a heap of one superblock: two of its four blocks are held, and the superblock is in the list of class 20
abbrev partial : Shape
partial = record {
  place = with_at (λ _. is_new) 0 (in_list 20);
  listed = with_at (λ _. []) 20 (0 ∷ []);
  chain = with_at (λ _. []) 0 (2864 ∷ 6448 ∷ []);
  cached = λ _. [];
  start = λ _. 0;
}

holds_third : HoldsAt held 4656
holds_third = record { block = record { first_word = 4656; words = 1792 }; holds = (1, omega arith, refl); at = refl }

-- the chain goes to the cache, where its blocks are as free as before
abbrev taken : Shape
taken = after_take partial 20 0 [] 2864

take_moves : (taken.place 0 ≡ is_full) × (taken.listed 20 ≡ []) × (taken.chain 0 ≡ [])
    × (taken.cached 20 ≡ 2864 ∷ 6448 ∷ []) × (taken.cached 19 ≡ [])
take_moves = (refl, refl, refl, refl, refl)

free_once : times_free partial 20 0 6448 ∷ times_free taken 20 0 6448 ∷ times_free taken 20 0 4656 ∷ [] ≡ 1 ∷ 1 ∷ 0 ∷ []
free_once = refl

-- the superblock is freed and cut again, all its blocks are given back, and it is free again
abbrev cut : Shape
cut = after_cut (after_recycle partial 20 0 []) 1 20 0 []

cut_moves : (cut.place 0 ≡ is_full) × (cut.listed 0 ≡ []) × (cut.chain 0 ≡ [])
    × (cut.cached 20 ≡ all_firsts 1 20 0) × (cut.start 20 ≡ first_of 1 20 0 0)
cut_moves = (refl, refl, refl, refl, refl)

-- the shape once the cache gave all of its blocks back
abbrev all_given : Shape
all_given = after_give_all cut 20 0 (cut.cached 20) [] 0

give_all_moves : (all_given.place 0 ≡ in_list 0) × (all_given.listed 0 ≡ 0 ∷ []) × (all_given.listed 20 ≡ []) × (all_given.cached 20 ≡ [])
give_all_moves = (refl, refl, refl, refl)

-- superblocks 1 and 2 become a large block, and no other
join_moves : map (after_join partial 1 2).place (0 ∷ 1 ∷ 2 ∷ 3 ∷ []) ≡ in_list 20 ∷ in_large ∷ in_large ∷ is_new ∷ []
join_moves = refl

-- where the first number is 0 nothing is in the list
none_leads : (link : ℕ → ℕ) (capacity d : ℕ) (ds : List ℕ) → Follows link capacity 0 ds → Contains ds d → ⊥
none_leads link capacity d [] leads has = let none = has.1 in omega arith
none_leads link capacity d (e ∷ ds) leads has = let first : 0 ≡ e + 1 = leads.0 in omega arith

-- an empty superblock of class 20 that is in no list: draining may begin with class 20, and with no other
abbrev unlisted : Image
unlisted = image_with ((8, 1) ∷ (1064, 20) ∷ [])

drainable_for_own : IsDrainable 1 unlisted [] 20
drainable_for_own =
    record { each = λ d taken none. let only : d ≡ 0 = omega arith in inl (subst (λ e. unlisted (1064 + 8 * e) ≡ 20) (sym only) refl) }

undrainable_for_other : IsDrainable 1 unlisted [] 19 → ⊥
undrainable_for_other drainable = elim (drainable.each 0 (omega arith) (λ b holds part. let none = holds.1 in omega arith)) as (λ _. ⊥) [
  | inl info ↦ omega arith
  | inr in_free ↦ none_leads (λ d. unlisted (link_word d)) 1 0 in_free.free in_free.leads in_free.has
]

-- a superblock of a large block: none is lost while the block is held, and this one is where nothing is held and the free list is empty
abbrev large : Image
large = image_with ((8, 1) ∷ (1064, 511) ∷ [])

held_accounted : IsAccounted 1 large (record { first_word = 1072; words = 8192 } ∷ [])
held_accounted = record {
  each = λ d taken.
      let only : d ≡ 0 = omega arith in
      for_held (record { first_word = 1072; words = 8192 }) (0, omega arith, refl) (record { begins = omega arith; ends = omega arith });
}

dropped_lost : IsAccounted 1 large [] → ⊥
dropped_lost accounted = elim (accounted.each 0 (omega arith)) as (λ _. ⊥) [
  | for_class is ↦ let last = is.last in omega arith
  | for_held b holds part ↦ let none = holds.1 in omega arith
  | for_later in_free ↦ none_leads (λ d. large (link_word d)) 1 0 in_free.free in_free.leads in_free.has
]

-- a free list that leads back to its first superblock never ends, so nothing is in it
abbrev circular : Image
circular = image_with ((8, 1) ∷ (head_word 0, 1) ∷ (link_word 0, 1) ∷ [])

never_ends : (ds : List ℕ) → Follows (λ d. circular (link_word d)) 1 1 ds → ⊥
never_ends [] leads = let none : 1 ≡ 0 = leads in omega arith
never_ends (d ∷ ds) leads =
    let first : 1 ≡ d + 1 = leads.0 in
    let only : d ≡ 0 = omega arith in
    never_ends ds (subst (λ e. Follows (λ d. circular (link_word d)) 1 (circular (link_word e)) ds) only leads.2)

none_in_circular : IsInFreeList 1 circular 0 → ⊥
none_in_circular in_free = never_ends in_free.free in_free.leads
