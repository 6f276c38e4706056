-- What the examples of held blocks and of an opened seat refuse.
use Rattle.std.proofs.Common.{◌≡◌, ◌≤◌, ◌+◌, ◌*◌, [], ◌∷◌, replicate, set, None, inl, inr, refl, ap, arith}
use Rattle.heap_model.specs.declared.block.Block.{Block}
use Rattle.heap_model.specs.Geometry.{lists, start_word, superblock_words}
use Rattle.heap_model.specs.Sizes.{words_of_class}
use Rattle.core_model.specs.View.{Setup, View, no_batch}
use Rattle.core_model.specs.Held.{a_small, a_large, IsHeldBy, AreApart, AreHeldOnce}
use Rattle.core_model.specs.Opening.{HasDoneNothing, unlooked}
use Rattle.core_model.specs.Examples.{idle}
use Rattle.core_model.specs.HeldExamples.{holding, large}

-- what the last seat holds is held
pub holds_last : IsHeldBy (idle ∷ large ∷ []) (record { first_word = start_word 2 1; words = superblock_words * 1 })
holds_last = record { seat = 1; view = large; below = omega arith; at = refl; holds = a_large 1 1 (omega arith) refl }

pub holds_small : IsHeldBy (idle ∷ holding ∷ []) (record { first_word = 9272; words = words_of_class 20 })
holds_small = record { seat = 1; view = holding; below = omega arith; at = refl; holds = a_small 20 9272 (omega arith) }

-- blocks that have a word in common, and one that two seats hold
pub overlap : AreApart (record { first_word = 1080; words = 2 }) (record { first_word = 1081; words = 2 }) → ⊥
overlap apart = elim apart [ inl left ↦ let e : 1082 ≤ 1081 = left in omega arith | inr right ↦ let e : 1083 ≤ 1080 = right in omega arith ]

pub two_hold_one : AreHeldOnce 2 (large ∷ large ∷ []) → ⊥
two_hold_one once = let e : 2 ≤ 1 = once.large 1 in omega arith

-- a small block that one seat holds and another has cached
abbrev cached_too : View
cached_too = record idle { caches = set (replicate 21 []) 20 (9272 ∷ []) }

pub two_have_one : AreHeldOnce 2 (holding ∷ cached_too ∷ []) → ⊥
two_have_one once = let e : 2 ≤ 1 = once.small 9272 in omega arith

-- two blocks of one seat that have words in common
abbrev overlapping : View
overlapping = record idle { large = record { first = 0; count = 2 } ∷ record { first = 1; count = 1 } ∷ [] }

pub one_holds_both : AreHeldOnce 2 (overlapping ∷ []) → ⊥
one_holds_both once = elim (once.by_any one other held held_too) [
  | inl same ↦ omega (arith, ap (λ (b : Block). b.first_word) same)
  | inr apart ↦ elim apart [ inl left ↦ let e : 17464 ≤ 9272 = left in omega arith | inr right ↦ let e : 17464 ≤ 1080 = right in omega arith ]
] where
  one : Block
  one = record { first_word = start_word 2 0; words = superblock_words * 2 }

  other : Block
  other = record { first_word = start_word 2 1; words = superblock_words * 1 }

  held : IsHeldBy (overlapping ∷ []) one
  held = record { seat = 0; view = overlapping; below = omega arith; at = refl; holds = a_large 0 2 (omega arith) refl }

  held_too : IsHeldBy (overlapping ∷ []) other
  held_too = record { seat = 0; view = overlapping; below = omega arith; at = refl; holds = a_large 1 1 (omega arith) refl }

-- blocks before the first superblock, and behind the last one
abbrev before_all : View
before_all = record idle { small = set (replicate 21 []) 20 (3 ∷ []) }

pub holds_before : AreHeldOnce 2 (before_all ∷ []) → ⊥
holds_before once = let e : 1080 ≤ 3 = (once.inside (record { first_word = 3; words = words_of_class 20 })
    (record { seat = 0; view = before_all; below = omega arith; at = refl; holds = a_small 20 3 (omega arith) })).0 in omega arith

abbrev behind_all : View
behind_all = record idle { large = record { first = 5; count = 1 } ∷ [] }

pub holds_behind : AreHeldOnce 2 (behind_all ∷ []) → ⊥
holds_behind once = let e : 50232 ≤ 17464 = (once.inside (record { first_word = start_word 2 5; words = superblock_words * 1 })
    (record { seat = 0; view = behind_all; below = omega arith; at = refl; holds = a_large 5 1 (omega arith) refl })).1 in omega arith

-- a seat that has done nothing has no ticket, nothing free and no claim, has seen nothing, and knows of the mark what it was
pub nothing_drawn : (k : Setup) (v : View) → HasDoneNothing k v → (v.ticket ≡ None) × (v.last_ticket ≡ None) × (v.stopped ≡ None)
nothing_drawn k v nothing = nothing.tickets

pub nothing_free : (k : Setup) (v : View) → HasDoneNothing k v → (v.caches ≡ replicate lists []) × (v.batch ≡ no_batch)
nothing_free k v nothing = nothing.free

pub nothing_claimed : (k : Setup) (v : View) → HasDoneNothing k v → (v.raw ≡ []) × (v.split ≡ []) × (v.cutting ≡ []) × (v.classed ≡ [])
nothing_claimed k v nothing = nothing.claims

pub nothing_seen : (k : Setup) (v : View) → HasDoneNothing k v → (v.seen_used ≡ None) × (v.seen_head ≡ None) × (v.seen_link ≡ None)
    × (v.seen_anchor ≡ None)
nothing_seen k v nothing = nothing.seen

pub mark_as_opened : (k : Setup) (v : View) → HasDoneNothing k v → (v.used_look ≡ unlooked k.used) × (v.floor ≡ k.used)
mark_as_opened k v nothing = (nothing.looks, nothing.floor)

-- and has counted nothing
pub counts_nothing : (k : Setup) (v : View) → HasDoneNothing k v → v.draws + v.wins + v.losses + v.taken + v.cuts + v.gives + v.moves ≡ 0
counts_nothing k v nothing =
    let draws = nothing.counts.0 in let wins = nothing.counts.1 in let losses = nothing.counts.2 in let taken = nothing.counts.3 in
    let cuts = nothing.counts.4 in let gives = nothing.counts.5 in let moves = nothing.counts.6 in omega arith
