-- What a seat keeps to tell its own words, as a heap at rest is opened.
use Rattle.std.specs.Vec.{vec_capacity}
use Rattle.std.proofs.Common.{◌≡◌, ℕ, ◌+◌, ◌<◌, ◌≤◌, inl, inr, false, nat_eq, List, [], get_or, length, slice_index, refl, ap, sym, subst, ◌∙◌, arith}
use Rattle.std.proofs.lemmas.Bool.{cases_lt}
use Rattle.heap_model.specs.Geometry.{lists, roots, capacity_word, info_word, image_words, superblock_of}
use Rattle.heap_model.specs.Rest.{IsReady}
use Rattle.heap_model.specs.Counting.{times, total, one_if}
use Rattle.super_block.specs.Contents.{Contents}
use Rattle.core_model.specs.Opening.{AreOwners, setup_of, opened_view, opened_state, picked, tabulate, small_blocks}
use Rattle.core_model.specs.View.{View, of_class}
use Rattle.core_model.proofs.OpenLemmas.{length_tabulate, tabulate_at, small_member}
use Rattle.core_model.proofs.OpenCountLemmas.{beyond, empty_at}
use Rattle.core_model.proofs.OpenedLemmas.{opened}
use Rattle.core_model.proofs.OwnerLemmas.{in_lists_total}
use Rattle.seat_state.specs.declared.superblocks.SuperblockOwner.{SuperblockOwner}
use Rattle.seat_state.specs.declared.superblocks.SuperblockUsage.{SuperblockUsage}
use Rattle.seat_state.specs.declared.superblocks.SuperblockUsage.TheVariants as usage
use Rattle.seat_state.specs.OwnerLists.{OwnerLists}
use Rattle.seat_state.specs.OpenedSuperblocks.{AreSuperblockOwners}
use Rattle.seat_state.specs.Superblocks.{usage_for, no_superblock, IsUsage}
use Rattle.seat_state.proofs.HeldSoFar.{none_cached}
use Rattle.seat_state.proofs.DecisionLemmas.{one_true}
use Rattle.seat_state.proofs.PickedLemmas.{roots_of}
use Rattle.seat_index.specs.declared.owned.Ownership.TheVariants as ownership
use Rattle.seat_index.specs.declared.owned.Owned.{Owned}
use Rattle.seat_index.specs.Owned.{most_blocks, ownership_for, opened_parts, parts_of, OwnedParts, IsOwnership, HasOwned, times_had}
use Rattle.heap_table.specs.Rule.{opening_of, opened_view_of}
use Rattle.heap_table.specs.Plays.{HasSoundState}
use Rattle.heap_table.proofs.ReachedLemmas.{opened_counted}
use Rattle.seat_index.specs.Stacks.{AreStacks}
use Rattle.seat_index.proofs.ViewBlocks.{block_below}

-- the view of a seat of the opened heap is one of a sound state
opened_has : (heap : Contents) (owners : OwnerLists) (seats seat : ℕ) → IsReady heap.words heap.held
    → AreOwners heap.held seats owners.held owners.roots → seat < seats
    → HasSoundState (opened_view (setup_of heap.words 0 seats) heap.held owners.held owners.roots seat)
opened_has heap owners seats seat ready are less = record {
  words = (opened_state (setup_of heap.words 0 seats) heap.held owners.held owners.roots seats).words;
  views = tabulate V 0 seats;
  seat = seat;
  sound = opened heap.words heap.held 0 seats owners.held owners.roots ready are;
  counted = opened_counted (opening_of heap owners seats 0);
  is_seat = refl;
  below = (let l = length_tabulate V 0 seats in omega arith);
  at = tabulate_at V 0 seats seat (V seat) less ∙ ap V (let e : 0 + seat ≡ seat = omega arith in e);
} where
  V : ℕ → View
  V = opened_view (setup_of heap.words 0 seats) heap.held owners.held owners.roots

-- the parts that a seat is opened with, by the key of the table
pub opened_parts_are : (heap : Contents) (owners : OwnerLists) (seats budget i : ℕ)
    → parts_of (opened_view_of (opening_of heap owners seats budget) i) ≡ opened_parts heap owners i
opened_parts_are heap owners seats budget i = refl

-- what a seat has of a superblock of a heap at rest, as what it owns
ownership_of_usage : (d : ℕ) (x : SuperblockUsage) (p : OwnedParts) → IsUsage d x p.raw p.split p.cutting p.classed p.large
    → IsOwnership d (ownership_for x) p
ownership_of_usage d usage.Nothing p is = record {
  unclassed = (let a = is.is_raw in let b = is.is_split in let c = is.is_cutting in
      omega arith);
  is_classed = is.is_classed;
  class = is.class;
  is_large = is.is_large;
  count = is.count;
}
ownership_of_usage d usage.Raw p is = record {
  unclassed = (let a = is.is_raw in let b = is.is_split in let c = is.is_cutting in omega arith);
  is_classed = is.is_classed;
  class = is.class;
  is_large = is.is_large;
  count = is.count;
}
ownership_of_usage d usage.Split p is = record {
  unclassed = (let a = is.is_raw in let b = is.is_split in let c = is.is_cutting in omega arith);
  is_classed = is.is_classed;
  class = is.class;
  is_large = is.is_large;
  count = is.count;
}
ownership_of_usage d usage.Cutting p is = record {
  unclassed = (let a = is.is_raw in let b = is.is_split in let c = is.is_cutting in
      omega arith);
  is_classed = is.is_classed;
  class = is.class;
  is_large = is.is_large;
  count = is.count;
}
ownership_of_usage d (usage.Classed class) p is = record {
  unclassed = (let a = is.is_raw in let b = is.is_split in let c = is.is_cutting in
      omega arith);
  is_classed = is.is_classed;
  class = is.class;
  is_large = is.is_large;
  count = is.count;
}
ownership_of_usage d (usage.Large count) p is = record {
  unclassed = (let a = is.is_raw in let b = is.is_split in let c = is.is_cutting in
      omega arith);
  is_classed = is.is_classed;
  class = is.class;
  is_large = is.is_large;
  count = is.count;
}

-- what was gathered of a seat
pub record IsGathered (heap : Contents) (owners : OwnerLists) (seat : ℕ) (superblocks : List SuperblockOwner) (o : Owned) : Type 0 where
  pub words_long : length o.blocks ≡ image_words (slice_index heap.words capacity_word)
  pub blocks_are : (n : ℕ) → one_if (get_or o.blocks n false) ≡ total (times n) (opened_parts heap owners seat).small
  pub classes_long : length o.classes.items ≡ slice_index heap.words capacity_word
  pub classes_are : (d : ℕ) → d < length o.classes.items → get_or o.classes.items d 0 ≡ slice_index heap.words (info_word d)
  pub ownerships_long : length o.ownerships.items ≡ length superblocks
  pub ownerships_are : (n : ℕ) → get_or o.ownerships.items n ownership.Nothing ≡ ownership_for (usage_for seat (get_or superblocks n no_superblock))
  pub roots_long : length o.roots.items ≡ length owners.roots
  pub roots_are : (n : ℕ) → one_if (get_or o.roots.items n false) ≡ one_if (nat_eq (get_or owners.roots n (seat + 1)) seat)
  pub batch : o.batch.items ≡ []
  pub room : most_blocks ≤ vec_capacity o.batch
  pub stacks : (caches : List (List ℕ)) → AreStacks o.stacks.items caches

pub gathered : (heap : Contents) (owners : OwnerLists) (seats seat : ℕ) (superblocks : List SuperblockOwner) (o : Owned)
    → IsReady heap.words heap.held → AreOwners heap.held seats owners.held owners.roots → seat < seats
    → AreSuperblockOwners heap.words heap.held owners.held superblocks → IsGathered heap owners seat superblocks o
    → HasOwned o (opened_parts heap owners seat)
gathered heap owners seats seat superblocks o ready are less are_superblocks g = record {
  words_long = g.words_long;
  classes_long = g.classes_long;
  ownerships_long = g.ownerships_long ∙ are_superblocks.long;
  roots_long = g.roots_long ∙ are.roots_all;
  blocks = λ n. one_true (get_or o.blocks n false) (times_had n p) (g.blocks_are n ∙ (let z = none_cached lists n in omega arith));
  classes = record {
    held = λ class b there. elim (cases_lt class lists) [
      | inl some ↦ class_at class b some there
      | inr past ↦ absurd (let z = beyond p.small class b (let l = length_tabulate small_at 0 lists in omega arith) in omega arith)
    ];
    cached = λ class b there. absurd (let z = empty_at lists class b in omega arith);
    batched = λ b there. absurd (omega arith);
  };
  ownerships = λ d. subst (λ x. IsOwnership d x p) (sym (g.ownerships_are d))
      (ownership_of_usage d (usage_for seat (get_or superblocks d no_superblock)) p (are_superblocks.each seat d));
  roots_are = λ n. one_true (get_or o.roots.items n false) (times n p.roots) (g.roots_are n ∙ sym (roots_of seat roots owners.roots are.roots_all n));
  batch = g.batch;
  room = g.room;
  stacks = g.stacks p.caches;
} where
  p : OwnedParts
  p = opened_parts heap owners seat

  v : View
  v = opened_view (setup_of heap.words 0 seats) heap.held owners.held owners.roots seat

  info_of : ℕ → ℕ
  info_of d = slice_index heap.words (info_word d)

  small_at : ℕ → List ℕ
  small_at class = small_blocks (slice_index heap.words capacity_word) (λ d. slice_index heap.words (info_word d)) class
      (picked seat heap.held owners.held)

  class_at : (class b : ℕ) → class < lists → 0 < times b (of_class p.small class) → get_or o.classes.items (superblock_of p.capacity b) 0 ≡ class
  class_at class b some there =
      let low = block_below v (opened_has heap owners seats seat ready are less) b (let t = in_lists_total b class p.small there in omega arith) in
      g.classes_are (superblock_of p.capacity b) (let l = g.classes_long in omega arith)
      ∙ small_member p.capacity (λ d. slice_index heap.words (info_word d)) class b (picked seat heap.held owners.held)
      (subst (λ xs. 0 < times b xs) (tabulate_at small_at 0 lists class [] some ∙ ap small_at (let e : 0 + class ≡ class = omega arith in e)) there)
