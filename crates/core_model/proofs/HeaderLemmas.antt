-- What a crash leaves of a sound state, or a close, has a good header, if the opened image has one.
use Rattle.std.proofs.Common.{◌≡◌, ℕ, ◌+◌, ◌*◌, ◌<◌, ◌≤◌, inl, inr, ◌⊎◌, nat_lt, List, length, slice_index, get_or, Option, Some, None, ap, sym, subst, ◌∙◌, lt-ltb, arith}
use Rattle.heap_model.specs.Geometry.{image_words, largest_capacity, roots, kind_word, IsKindWord, clean, dirty}
use Rattle.heap_model.specs.Image.{Image}
use Rattle.heap_model.specs.Header.{IsWellFormed, HasKindsBelow, header_fault, kinds_of, state_of, used_of}
use Rattle.heap_model.specs.Durability.{IsCrashImage, IsClosedImage, IsTransient, is_head, is_anchor, is_link}
use Rattle.heap_model.proofs.HeaderLemmas.{no_fault, header_lasts}
use Rattle.core_model.specs.View.{Setup, View}
use Rattle.core_model.specs.Sound.{Sound}
use Rattle.core_model.specs.Held.{volatile_image, durable_image}
use Rattle.core_model.proofs.HeldLemmas.{durable_capacity}
use Rattle.core_model.proofs.PlaceLemmas.{pick}

-- the kind of a root is no word that a crash leaves with any value
pub kind_lasts : (c word : ℕ) → IsKindWord c word → IsTransient c word → ⊥
kind_lasts c word kind (is_head list w few same) = let from = kind.from in omega (arith, same, few)
kind_lasts c word kind (is_anchor d w less same) = let from = kind.from in omega (arith, same, less)
kind_lasts c word kind (is_link d w less same) = let from = kind.from in omega (arith, same, less)

kind_there : (c i : ℕ) → i < roots → IsKindWord c (kind_word c i)
kind_there c i below = record { from = omega arith; until = omega arith }

-- an image whose header words but the state are volatile or durable ones, and whose kinds of roots are as they were
-- opened, has a good header where it has a state
pub mixture_header : (k : Setup) (words : List ℕ) (views : List View) → Sound k words views → (image : Image)
    → ((word : ℕ) → word < 16 → (word ≡ 3 → ⊥) → (image word ≡ get_or words word 0) ⊎ (image word ≡ get_or words (image_words k.capacity + word) 0))
    → ((word : ℕ) → IsKindWord k.capacity word → image word ≡ slice_index k.opened word)
    → (state_of image ≡ clean) ⊎ (state_of image ≡ dirty)
    → IsWellFormed (8 * length k.opened) (slice_index k.opened) → (limit : Option ℕ) → HasKindsBelow limit (slice_index k.opened)
    → header_fault limit (8 * image_words k.capacity) image ≡ None
mixture_header k words views sound image either kinds state good limit below = no_fault limit (8 * image_words k.capacity) image (inr (
  record {
    magic_is = opened_is 0 (omega arith) ∙ good.magic_is;
    version_is = opened_is 1 (omega arith) ∙ good.version_is;
    some = let some = sound.some in omega (arith, capacity_is);
    small = subst (λ n. n ≤ largest_capacity) (sym capacity_is) sound.good.small;
    length_is = ap (λ n. 8 * image_words n) (sym capacity_is);
    state = state;
    used = (let used = used_low in omega (arith, capacity_is));
  },
  kinds_low limit below,
)) where
  -- magic, version and capacity are those of the opened image
  opened_is : (word : ℕ) → word < 3 → image word ≡ slice_index k.opened word
  opened_is word low = elim (either word (omega arith) (λ e. omega (arith, e))) [
    | inl volatile ↦ volatile ∙ (sound.fixed word (inl (omega arith))).0
    | inr durable ↦ durable ∙ (sound.fixed word (inl (omega arith))).1
  ]

  capacity_is : image 2 ≡ k.capacity
  capacity_is = opened_is 2 (omega arith) ∙ sound.capacity

  used_low : used_of image ≤ k.capacity
  used_low = let behind = sound.good.shaped.durable.behind in let room = sound.good.shaped.durable.room in
      elim (either 8 (omega arith) (λ e. omega (arith, e))) [ inl volatile ↦ omega (arith, volatile) | inr durable ↦ omega (arith, durable) ]

  kind_same : (i : ℕ) → i < roots → kinds_of image i ≡ kinds_of (slice_index k.opened) i
  kind_same i inside = ap (λ c. image (kind_word c i)) capacity_is ∙ kinds (kind_word k.capacity i) (kind_there k.capacity i inside)
      ∙ ap (λ c. slice_index k.opened (kind_word c i)) (sym sound.capacity)

  kinds_low : (limit : Option ℕ) → HasKindsBelow limit (slice_index k.opened) → HasKindsBelow limit image
  kinds_low None low = tt
  kinds_low (Some most) low = λ i inside. subst (λ n. n < most) (sym (kind_same i inside)) (low i inside)

-- a word of the header is that word of the table, and so is a durable one
pub volatile_is : (k : Setup) (words : List ℕ) (word : ℕ) → word < 16 → volatile_image k.capacity words word ≡ get_or words word 0
volatile_is k words word low = pick (nat_lt word (image_words k.capacity)) _ _ (lt-ltb word (image_words k.capacity) (omega arith))

pub durable_is : (k : Setup) (words : List ℕ) (word : ℕ) → word < 16
    → durable_image k.capacity words word ≡ get_or words (image_words k.capacity + word) 0
durable_is k words word low = pick (nat_lt word (image_words k.capacity)) _ _ (lt-ltb word (image_words k.capacity) (omega arith))

pub crash_header : (k : Setup) (words : List ℕ) (views : List View) → Sound k words views → (image : Image)
    → IsCrashImage (durable_image k.capacity words) image
    → IsWellFormed (8 * length k.opened) (slice_index k.opened) → (limit : Option ℕ) → HasKindsBelow limit (slice_index k.opened)
    → header_fault limit (8 * image_words k.capacity) image ≡ None
crash_header k words views sound image crash = mixture_header k words views sound image
    (λ word low other. inr (crash.others word other (header_lasts (durable_image k.capacity words 2) word low) ∙ durable_is k words word low))
    (λ word kind. let from = kind.from in let until = kind.until in
    crash.others word (λ e. omega (arith, e)) (λ lost. kind_lasts k.capacity word kind
    (subst (λ c. IsTransient c word) (durable_capacity k words views sound) lost))
    ∙ pick (nat_lt word (image_words k.capacity)) _ _ (lt-ltb word (image_words k.capacity) (omega arith)) ∙ (sound.fixed word (inr (inr kind))).1)
    (inr crash.state)

-- the same of what a close leaves
pub closed_header : (k : Setup) (words : List ℕ) (views : List View) → Sound k words views → (image : Image)
    → IsClosedImage (volatile_image k.capacity words) image
    → IsWellFormed (8 * length k.opened) (slice_index k.opened) → (limit : Option ℕ) → HasKindsBelow limit (slice_index k.opened)
    → header_fault limit (8 * image_words k.capacity) image ≡ None
closed_header k words views sound image closed = mixture_header k words views sound image
    (λ word low other. inl (closed.others word other ∙ volatile_is k words word low))
    (λ word kind. let from = kind.from in let until = kind.until in closed.others word (λ e. omega (arith, e))
    ∙ pick (nat_lt word (image_words k.capacity)) _ _ (lt-ltb word (image_words k.capacity) (omega arith)) ∙ (sound.fixed word (inr (inr kind))).0)
    (inl closed.state)
