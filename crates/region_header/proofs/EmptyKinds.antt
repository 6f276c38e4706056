-- An empty image with given kinds: up to these it has the words of the empty image, so it is at rest, and nothing is reached.
use Rattle.std.proofs.Common.{◌≡◌, ℕ, ◌+◌, ◌-◌, ◌*◌, ◌<◌, ◌≤◌, ◌↔◌, inl, inr, List, [], length, slice_index, All, Some, refl, ap, sym, ◌∙◌, arith}
use Rattle.std.proofs.lemmas.Bool.{ltb-true}
use Rattle.std.proofs.lemmas.List.{length-append, length-replicate, get_or_append_left, get_or-append_right}
use Rattle.heap_model.specs.declared.block.Block.{Block}
use Rattle.heap_model.specs.Geometry.{largest_capacity, roots, root_word, info_word, anchor_word, link_word, kind_word, old_image_words}
use Rattle.heap_model.specs.Image.{Image}
use Rattle.heap_model.specs.Header.{first_kinds, kinds_of, capacity_of, used_of, IsWellFormed, HasGoodHeader}
use Rattle.heap_model.specs.Pointers.{Leads}
use Rattle.heap_model.specs.Reach.{Links, IsTraced, is_root, is_linked, ReachIn}
use Rattle.heap_model.specs.Rest.{IsShaped, IsReady}
use Rattle.heap_model.proofs.CountingLemmas.{one_if_false}
use Rattle.heap_model.proofs.EmptyLemmas.{empty_word}
use Rattle.heap_model.proofs.MemberLemmas.{in_none}
use Rattle.heap_model.proofs.ReachLemmas.{closure_least}
use Rattle.region_header.specs.Empty.{words_before_kinds, empty_words_with, ReachesNothing, with_first_kinds}
use Rattle.region_header.proofs.KindLemmas.{stored_below, below_stored}

pub length-before : (capacity : ℕ) → length (words_before_kinds capacity) ≡ old_image_words capacity
unfolding words_before_kinds
length-before capacity = let zeros = length-replicate {A = ℕ} (old_image_words capacity - 4) 0 in omega arith

-- a null word is no pointer
no_pointer : (image : Image) (word : ℕ) (b : Block) → word ≡ 0 → Leads image word b → ⊥
no_pointer image word b null leads = let tagged = leads.pointer.tagged in absurd (omega arith)

-- an image in which each root is null reaches nothing
pub null_roots : (image : Image) → ((i : ℕ) → i < roots → image (root_word i) ≡ 0) → ReachesNothing image
null_roots image null = record {
  no_block = λ links b reached. no_pair links b reached.kind reached.reach;
  none_outside = λ links at out. untraced links at out.traced out.outside.not_null;
} where
  no_pair : (links : Links) (b : Block) (kind : ℕ) → ReachIn image links b kind → ⊥
  no_pair links b kind = closure_least (λ _ _. ⊥)
      (λ b kind start. no_pointer image (image (root_word start.root)) b (null start.root start.below) start.leads)
      (λ a b from kind reached none leads. none) b kind

  untraced : (links : Links) (at : ℕ) → IsTraced image (kinds_of image) links at → (image at ≡ 0 → ⊥) → ⊥
  untraced links _ (is_root root at below chosen is) some = some (ap image is ∙ null root below)
  untraced links _ (is_linked a from position kind at reached listed is) some = no_pair links a from reached

module _ (capacity : ℕ) (kinds : List ℕ) where
  abbrev image : Image
  image = slice_index (empty_words_with capacity kinds)

  -- the words but the first four, up to the kinds, are 0
  zero_word : (word : ℕ) → 4 ≤ word → word < old_image_words capacity → image word ≡ 0
  zero_word word behind below =
      let long = length-before capacity in
      get_or_append_left (words_before_kinds capacity) kinds 0 word (omega arith)
      ∙ sym (get_or_append_left (words_before_kinds capacity) first_kinds 0 word (omega arith))
      ∙ ap (λ ws. slice_index ws word) (with_first_kinds capacity) ∙ empty_word capacity word behind below

  image_capacity : capacity_of image ≡ capacity
  unfolding words_before_kinds
  image_capacity = refl

  pub root_null : (i : ℕ) → i < roots → image (root_word i) ≡ 0
  root_null i less = zero_word (root_word i) (omega arith) (omega arith)

  pub nothing_reached : ReachesNothing image
  nothing_reached = null_roots image root_null

  -- the kind of a root is the one that was given
  pub kind_given : (i : ℕ) → kinds_of image i ≡ slice_index kinds i
  kind_given i =
      let capacity_is = image_capacity in
      get_or-append_right (words_before_kinds capacity) kinds (old_image_words capacity) (kind_word (capacity_of image) i) 0
      (length-before capacity) (omega arith)
      ∙ ap (λ k. slice_index kinds k) (omega arith)

  module _ (some : 1 ≤ capacity) (small : capacity ≤ largest_capacity) (count : length kinds ≡ roots) where
    pub formed_with : IsWellFormed (8 * length (empty_words_with capacity kinds)) image
    unfolding words_before_kinds
    formed_with =
        let long = length-before capacity in
        let both = length-append (words_before_kinds capacity) kinds in
        let used = zero_word 8 (omega arith) (omega arith) in
        record { magic_is = refl; version_is = refl; some = some; small = small; length_is = omega arith; state = inl refl; used = omega arith }

    -- the header is good for a number of kinds exactly where each kind is below it
    pub good_with : (limit : ℕ) → HasGoodHeader (Some limit) (8 * length (empty_words_with capacity kinds)) image ↔ All (λ kind. kind < limit) kinds
    good_with limit = (by_form, λ below. inr (formed_with, stored_below (Some limit) image kinds count stored below)) where
      stored : (i : ℕ) → i < roots → slice_index kinds i ≡ kinds_of image i
      stored i less = sym (kind_given i)

      by_form : HasGoodHeader (Some limit) (8 * length (empty_words_with capacity kinds)) image → All (λ kind. kind < limit) kinds
      by_form (inl old) = let one = old.version_is in let two = formed_with.version_is in absurd (omega arith)
      by_form (inr (formed, below)) = below_stored (Some limit) image kinds count stored below

  -- nothing is taken and nothing held, and every list is empty
  shaped_with : IsShaped image []
  shaped_with = record {
    descriptors = λ list. [];
    full = λ d. 0;
    chains = λ d. [];
    follows = λ list less. zero_word (16 + list) (omega arith) (omega arith);
    one_place = λ d. let used = zero_word 8 (omega arith) (omega arith) in
        sym (one_if_false _ (λ test. let less = ltb-true d (used_of image) test in omega arith));
    free = λ d some. absurd (omega arith);
    in_class = λ class d is some. absurd (omega arith);
    is_full = λ d some. absurd (omega arith);
    in_large = λ d some. absurd (omega arith);
    one_owner = λ class d index b is some info of. absurd (omega arith);
    untaken = λ d past less. let capacity_is = image_capacity in (
      zero_word (info_word d) (omega arith) (omega arith),
      zero_word (anchor_word d) (omega arith) (omega arith),
      zero_word (link_word d) (omega arith) (omega arith),
    );
  }

  pub ready_with : 1 ≤ capacity → capacity ≤ largest_capacity → length kinds ≡ roots → IsReady (empty_words_with capacity kinds) []
  ready_with some small count = record {
    formed = formed_with some small count;
    blocks = λ b p. absurd (in_none b p);
    ascending = λ i j d less within. absurd (omega arith);
    shaped = shaped_with;
  }
