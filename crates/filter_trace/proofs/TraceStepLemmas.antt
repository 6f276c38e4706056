-- Facts on the steps of a trace: where a word leads, and what following words and links leaves.
use Rattle.std.proofs.Common.{◌≡◌, ℕ, ◌+◌, ◌-◌, ◌*◌, ◌^◌, ◌<◌, ◌≤◌, Bool, true, List, length, length-set, take, drop, slice_index, sym, subst, ◌∙◌, ap, arith, inl, inr, [], ◌∷◌}
use Rattle.std.specs.Prelude.{Contains}
use Rattle.heap_model.specs.declared.block.Block.{Block}
use Rattle.heap_model.specs.Geometry.{fixed_words, largest_capacity_fits}
use Rattle.heap_model.specs.Image.{Image}
use Rattle.heap_model.specs.Header.{IsWellFormed}
use Rattle.heap_model.specs.Blocks.{Names, layout_of, IsBlock}
use Rattle.heap_model.specs.Pointers.{IsPointerTo, Leads, LeadsOutside}
use Rattle.heap_model.specs.Reach.{words_in}
use Rattle.heap_model.proofs.BlockLemmas.{block_inside}
use Rattle.heap_model.proofs.ImageLemmas.{words_from-list}
use Rattle.heap_model.proofs.ReachLemmas.{one_offset, not_null, one_block}
use Rattle.offset_ptr.specs.Meaning.{IsAlien}
use Rattle.filter_trace.specs.Pairs.{mark_of, Inserts, present, added, AreMarked}
use Rattle.filter_trace.specs.Walks.{IsExtended}
use Rattle.filter_trace.specs.Trace.{Follows, null, lead, IsFollowedWord, Each}
use Rattle.filter_trace.proofs.WalkLemmas.{no_more, kept}
use Rattle.filter_trace.proofs.PairLemmas.{pair_cases, insert_marked, insert_has}

-- a pointer to an offset that names a block leads to it
pub leads_by_name : (image : Image) (word offset : ℕ) (b : Block) → IsPointerTo word offset → Names image offset b → Leads image word b
leads_by_name image word offset b to names = record {
  pointer = subst (λ n. IsPointerTo word n) names.begins_at to;
  names = subst (λ n. Names image n b) names.begins_at names;
}

-- one to an offset that names none is outside
pub outside_by_name : (image : Image) (word offset : ℕ) → IsPointerTo word offset → ((b : Block) → Names image offset b → ⊥) → LeadsOutside image word
outside_by_name image word offset to none = record {
  not_null = not_null word offset to;
  nowhere = λ b leads. none b (subst (λ n. Names image n b) (one_offset word (8 * b.first_word) offset leads.pointer to) leads.names);
}

-- and so is a word that is no pointer
pub outside_by_alien : (image : Image) (word : ℕ) → IsAlien word → LeadsOutside image word
outside_by_alien image word alien = record {
  not_null = alien.not_null;
  nowhere = λ b leads. alien.nowhere (8 * b.first_word) leads.pointer;
}

-- what was followed is still
pub still_followed : (image : Image) (pairs pairs' : List (Block × ℕ)) (at kind : ℕ) → IsExtended pairs pairs'
    → IsFollowedWord image pairs at kind → IsFollowedWord image pairs' at kind
still_followed image pairs pairs' at kind grown was = record {
  inside = was.inside;
  here = λ b leads. kept pairs pairs' (b, kind) grown (was.here b leads);
}

insert_grows : (kinds : ℕ) (b : Block) (k : ℕ) (pairs pairs' : List (Block × ℕ)) (marks marks' : List Bool)
    → Inserts kinds b k pairs pairs' marks marks' → IsExtended pairs pairs'
insert_grows kinds b k pairs pairs' marks marks' (present marked same_pairs same_marks) = no_more pairs pairs' same_pairs
insert_grows kinds b k pairs pairs' marks marks' (added clear new_pairs new_marks) = record { more = (b, k) ∷ []; is = new_pairs }

insert_each : (holds : Block → ℕ → Type 0) (kinds : ℕ) (b : Block) (k : ℕ) (pairs pairs' : List (Block × ℕ)) (marks marks' : List Bool)
    → Each holds pairs → holds b k → Inserts kinds b k pairs pairs' marks marks' → Each holds pairs'
insert_each holds kinds b k pairs pairs' marks marks' was this (present marked same_pairs same_marks) = subst (λ ps. Each holds ps) (sym same_pairs) was
insert_each holds kinds b k pairs pairs' marks marks' was this (added clear new_pairs new_marks) = record {
  each = λ c j here. elim (pair_cases pairs b c k j (subst (λ ps. Contains ps (c, j)) new_pairs here)) as (λ _. holds c j) [
    | inl old ↦ was.each c j old
    | inr same ↦ subst (λ x. holds x j) same.0 (subst (λ x. holds b x) same.1 this)
  ];
}

-- following a word keeps the pairs marked
pub follow_marked : (image : Image) (count at kind : ℕ) (pairs pairs' : List (Block × ℕ)) (marks marks' : List Bool)
    → AreMarked (layout_of image) count pairs marks → kind < count → Follows image count at kind pairs pairs' marks marks'
    → AreMarked (layout_of image) count pairs' marks'
follow_marked image count at kind pairs pairs' marks marks' work below (null is same_pairs same_marks) =
    subst (λ ps. AreMarked (layout_of image) count ps marks') (sym same_pairs)
    (subst (λ ms. AreMarked (layout_of image) count pairs ms) (sym same_marks) work)
follow_marked image count at kind pairs pairs' marks marks' work below (lead b leads inserts) =
    insert_marked (layout_of image) count b kind pairs pairs' marks marks' work leads.names.block below inserts

-- and all that was there
pub follow_grows : (image : Image) (count at kind : ℕ) (pairs pairs' : List (Block × ℕ)) (marks marks' : List Bool)
    → Follows image count at kind pairs pairs' marks marks' → IsExtended pairs pairs'
follow_grows image count at kind pairs pairs' marks marks' (null is same_pairs same_marks) = no_more pairs pairs' same_pairs
follow_grows image count at kind pairs pairs' marks marks' (lead b leads inserts) = insert_grows count b kind pairs pairs' marks marks' inserts

-- as many marks as there were
insert_long : (kinds : ℕ) (b : Block) (k : ℕ) (pairs pairs' : List (Block × ℕ)) (marks marks' : List Bool)
    → Inserts kinds b k pairs pairs' marks marks' → length marks' ≡ length marks
insert_long kinds b k pairs pairs' marks marks' (present marked same_pairs same_marks) = ap (λ (ms : List Bool). length ms) same_marks
insert_long kinds b k pairs pairs' marks marks' (added clear new_pairs new_marks) = ap (λ (ms : List Bool). length ms) new_marks
    ∙ length-set marks (mark_of kinds b k) true

pub follow_long : (image : Image) (count at kind : ℕ) (pairs pairs' : List (Block × ℕ)) (marks marks' : List Bool)
    → Follows image count at kind pairs pairs' marks marks' → length marks' ≡ length marks
follow_long image count at kind pairs pairs' marks marks' (null is same_pairs same_marks) = ap (λ (ms : List Bool). length ms) same_marks
follow_long image count at kind pairs pairs' marks marks' (lead b leads inserts) = insert_long count b kind pairs pairs' marks marks' inserts

-- it adds only what the word leads to
pub follow_each : (holds : Block → ℕ → Type 0) (image : Image) (count at kind : ℕ) (pairs pairs' : List (Block × ℕ)) (marks marks' : List Bool)
    → Each holds pairs → ((b : Block) → Leads image (image at) b → holds b kind) → Follows image count at kind pairs pairs' marks marks'
    → Each holds pairs'
follow_each holds image count at kind pairs pairs' marks marks' was this (null is same_pairs same_marks) =
    subst (λ ps. Each holds ps) (sym same_pairs) was
follow_each holds image count at kind pairs pairs' marks marks' was this (lead b leads inserts) =
    insert_each holds count b kind pairs pairs' marks marks' was (this b leads) inserts

-- and that is there then
pub follow_followed : (image : Image) (count at kind : ℕ) (pairs pairs' : List (Block × ℕ)) (marks marks' : List Bool)
    → AreMarked (layout_of image) count pairs marks → kind < count → Follows image count at kind pairs pairs' marks marks'
    → IsFollowedWord image pairs' at kind
follow_followed image count at kind pairs pairs' marks marks' work below (null is same_pairs same_marks) = record {
  inside = λ outside. outside.not_null is;
  here = λ b leads. absurd (not_null (image at) (8 * b.first_word) leads.pointer is);
}
follow_followed image count at kind pairs pairs' marks marks' work below (lead b leads inserts) = record {
  inside = λ outside. outside.nowhere b leads;
  here = λ c to_c. subst (λ x. Contains pairs' (x, kind)) (one_block image (image at) b c leads to_c)
      (insert_has (layout_of image) count b kind pairs pairs' marks marks' work leads.names.block below inserts);
}

-- an image is short, and its blocks lie in it
pub image_short : (image : Image) (n : ℕ) → IsWellFormed (8 * n) image → (fixed_words ≤ n) × (n < 2 ^ 31)
image_short image n formed =
    let long = formed.length_is in
    let small = formed.small in
    (omega arith, omega (arith, largest_capacity_fits))

pub block_within : (image : Image) (n : ℕ) (b : Block) → IsWellFormed (8 * n) image → IsBlock (layout_of image) b → b.first_word + b.words ≤ n
block_within image n b formed is =
    let inside = block_inside (layout_of image) b is in
    let long = formed.length_is in
    let used = formed.used in
    omega arith

-- the words of a block are a part of the image's
pub words_in-list : (words : List ℕ) (b : Block) → b.first_word + b.words ≤ length words
    → take (b.first_word + b.words - b.first_word) (drop b.first_word words) ≡ words_in (slice_index words) b
words_in-list words b within =
    let size : b.first_word + b.words - b.first_word ≡ b.words = omega arith in
    rw (size) (sym (words_from-list words b.first_word b.words within))
