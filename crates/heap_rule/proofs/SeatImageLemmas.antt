-- The mixed images of a sound state, and what a seat's view tells of them.
use Rattle.std.proofs.Common.{◌≡◌, ◌⊎◌, ℕ, ◌+◌, ◌*◌, ◌<◌, inl, inr, Bool, true, false, cond, nat_lt, List, length, slice_index, get_or, Option, None, refl, ap, sym, ◌∙◌, lt-ltb, arith}
use Rattle.heap_model.specs.Durability.{Mixes}
use Rattle.heap_model.specs.Geometry.{image_words, IsFixed}
use Rattle.heap_model.specs.Header.{IsWellFormed, HasKindsBelow, header_fault}
use Rattle.heap_model.specs.Image.{Image}
use Rattle.core_model.specs.Cells.{cell_at, is_cell}
use Rattle.core_model.specs.Guards.{IsOwn}
use Rattle.core_model.specs.Held.{volatile_image, durable_image}
use Rattle.core_model.specs.Sound.{Sound}
use Rattle.core_model.specs.View.{Setup, View}
use Rattle.core_model.proofs.HeaderLemmas.{mixture_header}
use Rattle.core_model.proofs.PlaceLemmas.{pick}
use Rattle.core_model.proofs.TableLemmas.{fixed_below}
use Rattle.heap_rule.specs.Images.{Agrees, HasPickedRecords, HasRecorded, IsImageOf, HasFixedWords, MixesRecorded}
use Rattle.heap_table.specs.Plays.{HasSoundState}
use Rattle.heap_rule.proofs.SettleLemmas.{own_there, own_index, own_below}

module _ (k : Setup) (words : List ℕ) (views : List View) (sound : Sound k words views) (image : Image)
    (mixed : Mixes (volatile_image k.capacity words) (durable_image k.capacity words) image) where
  -- a word of the image is the volatile or the durable one
  either : (word : ℕ) → word < image_words k.capacity → (image word ≡ get_or words word 0) ⊎
      (image word ≡ get_or words (image_words k.capacity + word) 0)
  either word inside = elim (mixed.each word) [
    | inl volatile ↦ inl (volatile ∙ pick (nat_lt word (image_words k.capacity)) _ _ (lt-ltb word (image_words k.capacity) inside))
    | inr durable ↦ inr (durable ∙ pick (nat_lt word (image_words k.capacity)) _ _ (lt-ltb word (image_words k.capacity) inside))
  ]

  opened_is : (word : ℕ) → IsFixed k.capacity word → image word ≡ slice_index k.opened word
  opened_is word fixed = elim (either word (fixed_below k.capacity word fixed)) [
    | inl volatile ↦ volatile ∙ (sound.fixed word fixed).0
    | inr durable ↦ durable ∙ (sound.fixed word fixed).1
  ]

  pub mixed_fixed : HasFixedWords k image
  mixed_fixed = record { each = opened_is }

  pub mixed_header : IsWellFormed (8 * length k.opened) (slice_index k.opened) → (limit : Option ℕ) → HasKindsBelow limit (slice_index k.opened)
      → header_fault limit (8 * image_words k.capacity) image ≡ None
  mixed_header good = mixture_header k words views sound image (λ word low other. either word (omega arith))
      (λ word kind. opened_is word (inr (inr kind)))
      (elim good.state [ inl clean ↦ inl (opened_is 3 (inl (omega arith)) ∙ clean) | inr dirty ↦ inr (opened_is 3 (inl (omega arith)) ∙ dirty) ]) good

-- one of the two
picked : (test : Bool) (a b : ℕ) → (cond test a b ≡ a) ⊎ (cond test a b ≡ b)
picked true a b = inl refl
picked false a b = inr refl

-- of a view of a sound state, a seat's or a carrier's, each own word has its recorded values
module _ (v : View) (words : List ℕ) (views : List View) (sound : Sound v.setup words views) (seat : ℕ) (below : seat < length views)
    (at : get_or views seat v ≡ v) where
  now_is : (word : ℕ) → IsOwn v (cell_at v.setup.capacity word) → Agrees v.volatile (cell_at v.setup.capacity word)
      (volatile_image v.setup.capacity words word)
  now_is word own value shows = let there = own_there v word own in
      pick (nat_lt word (image_words v.setup.capacity)) _ _ (lt-ltb word (image_words v.setup.capacity) (own_below v word own))
      ∙ ap (λ n. get_or words n 0) (sym (own_index v word own))
      ∙ sym (pick (is_cell v.setup.capacity (cell_at v.setup.capacity word)) _ _ there)
      ∙ ((sound.good.words seat v below at).volatile (cell_at v.setup.capacity word) value there shows).1

  kept_is : (word : ℕ) → IsOwn v (cell_at v.setup.capacity word) → Agrees v.durable (cell_at v.setup.capacity word)
      (durable_image v.setup.capacity words word)
  kept_is word own value shows = let there = own_there v word own in
      pick (nat_lt word (image_words v.setup.capacity)) _ _ (lt-ltb word (image_words v.setup.capacity) (own_below v word own))
      ∙ ap (λ n. get_or words (image_words v.setup.capacity + n) 0) (sym (own_index v word own))
      ∙ sym (pick (is_cell v.setup.capacity (cell_at v.setup.capacity word)) _ _ there)
      ∙ ((sound.good.words seat v below at).durable (cell_at v.setup.capacity word) value there shows).1

  pub view_recorded : HasRecorded (volatile_image v.setup.capacity words) (durable_image v.setup.capacity words) v
  view_recorded = record { volatile = now_is; durable = kept_is }

module _ (v : View) (s : HasSoundState v) where
  pub now_recorded : (word : ℕ) → IsOwn v (cell_at v.setup.capacity word)
      → Agrees v.volatile (cell_at v.setup.capacity word) (volatile_image v.setup.capacity s.words word)
  now_recorded = (view_recorded v s.words s.views s.sound s.seat s.below s.at).volatile

  pub kept_recorded : (word : ℕ) → IsOwn v (cell_at v.setup.capacity word)
      → Agrees v.durable (cell_at v.setup.capacity word) (durable_image v.setup.capacity s.words word)
  kept_recorded = (view_recorded v s.words s.views s.sound s.seat s.below s.at).durable

  -- the image with the words that are picked
  picked_words : (ℕ → Bool) → Image
  picked_words choice word = cond (choice word) (volatile_image v.setup.capacity s.words word) (durable_image v.setup.capacity s.words word)

  pub picked_image : (choice : ℕ → Bool) → (image : Image) × IsImageOf v image × HasPickedRecords v choice image
  unfolding picked_words
  picked_image choice = (
    picked_words choice,
    record {
      has = s;
      mixed = record {
        each = λ word. picked (choice word) (volatile_image v.setup.capacity s.words word)
            (durable_image v.setup.capacity s.words word);
      };
    },
    record { each = λ word own. one_of word own (choice word) },
  ) where
    one_of : (word : ℕ) → IsOwn v (cell_at v.setup.capacity word) → (test : Bool)
        → Agrees (cond test v.volatile v.durable) (cell_at v.setup.capacity word)
        (cond test (volatile_image v.setup.capacity s.words word) (durable_image v.setup.capacity s.words word))
    one_of word own true = now_recorded word own
    one_of word own false = kept_recorded word own

module _ (v : View) (image : Image) (is : IsImageOf v image) where
  pub image_mixes : MixesRecorded v image
  image_mixes = record {
    each = λ word own. elim (is.mixed.each word) [
      | inl volatile ↦ inl (λ value shows. volatile ∙ now_recorded v is.has word own value shows)
      | inr durable ↦ inr (λ value shows. durable ∙ kept_recorded v is.has word own value shows)
    ];
  }

  pub image_fixed : HasFixedWords v.setup image
  image_fixed = mixed_fixed v.setup is.has.words is.has.views is.has.sound image is.mixed
