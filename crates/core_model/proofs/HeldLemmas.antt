-- Every mixed image of a sound state names each held block.
use Rattle.std.proofs.Common.{◌≡◌, ◌≢◌, ℕ, ◌+◌, ◌-◌, ◌*◌, ◌<◌, ◌≤◌, inl, inr, ◌⊎◌, nat_lt, List, get_or, length, refl, ap, sym, subst, ◌∙◌, lt-ltb, arith}
use Rattle.heap_model.specs.declared.block.Block.{Block}
use Rattle.heap_model.specs.Geometry.{start_word, superblock_words, image_words, info_word, superblock_of}
use Rattle.heap_model.specs.Sizes.{IsClass, words_of_class, blocks_of}
use Rattle.heap_model.specs.Words.{large_info}
use Rattle.heap_model.specs.Image.{Image}
use Rattle.heap_model.specs.Header.{capacity_of, used_of}
use Rattle.heap_model.specs.Blocks.{layout_of, of_class, as_large, IsBlock, Names}
use Rattle.heap_model.specs.Durability.{IsTransient, is_head, is_anchor, is_link, IsCrashImage, IsClosedImage}
use Rattle.core_model.specs.Memory.{Memory, info, durable_used, durable_info, memory_of}
use Rattle.core_model.specs.View.{Setup, View, times_large, times_block}
use Rattle.core_model.specs.Sound.{IsCutBlock, Good, Sound}
use Rattle.core_model.specs.Held.{IsHeldBy, IsHeld, a_small, a_large, volatile_image, durable_image, IsFirm}
use Rattle.core_model.proofs.TotalLemmas.{total_at}
use Rattle.core_model.proofs.PlaceLemmas.{pick}
use Rattle.core_model.proofs.OwnerLemmas.{in_lists_total}
use Rattle.core_model.proofs.LinkFrameLemmas.{span_covers}

-- what names need of an image: the capacity, a mark no lower than the durable one, and the infos that are durable
pub record IsNaming (k : Setup) (m : Memory) (image : Image) : Type 0 where
  pub capacity : capacity_of image ≡ k.capacity
  pub used_least : durable_used m ≤ used_of image
  pub infos : (d : ℕ) → d < k.capacity → durable_info m d ≡ info m d → image (info_word d) ≡ info m d

module _ (k : Setup) (words : List ℕ) (views : List View) (sound : Sound k words views) (image : Image)
    (naming : IsNaming k (memory_of k.capacity words) image) where
  abbrev m : Memory
  m = memory_of k.capacity words

  good : Good k m views
  good = sound.good

  capacity_is : capacity_of image ≡ k.capacity
  capacity_is = naming.capacity

  pub used_least : durable_used m ≤ used_of image
  used_least = naming.used_least

  info_is : (d : ℕ) → d < k.capacity → durable_info m d ≡ info m d → image (info_word d) ≡ info m d
  info_is = naming.infos

  durable_inside : (d : ℕ) → d < durable_used m → d < k.capacity
  durable_inside d less = let behind = good.shaped.durable.behind in let room = good.shaped.durable.room in omega arith

  names : (j : ℕ) (v : View) → j < length views → get_or views j v ≡ v → (b : Block) → IsHeld v b → IsBlock (layout_of image) b
  names j v below at b (a_small class first some) =
      let t = in_lists_total first class v.small some in
      let mine = total_at (times_block first) views j v below at in
      let inside = good.shaped.chained.inside first (omega arith) in
      let cap : v.setup.capacity ≡ k.capacity = ap (λ (s : Setup). s.capacity) (good.set_up j v below at).setup in
      let d = superblock_of k.capacity first in
      let is_info : info m d ≡ class = ap (λ c. info m (superblock_of c first)) (sym cap) ∙ (good.blocks j v below at).held class first some in
      let less = good.shaped.durable.below d (let c = inside.0 in omega arith) in
      let now : image (info_word d) ≡ class = info_is d (durable_inside d less) (good.shaped.durable.infos d (let c = inside.0 in omega arith))
      ∙ is_info in
      let is_class : IsClass class = subst IsClass is_info (good.shaped.chained.is_class d inside.0) in
      let block : IsCutBlock k.capacity class d first = subst (λ c. IsCutBlock k.capacity c d first) is_info inside.1 in
      record {
        superblock = d;
        index = block.index;
        words = words_of_class class;
        count = blocks_of class;
        is_of = record {
          taken = (let u = used_least in omega arith);
          begins = of_class class now is_class;
          below = block.below;
          at = block.at ∙ ap (λ c. start_word c d + block.index * words_of_class class) (sym capacity_is);
          size = refl;
        };
      }
  names j v below at b (a_large d n some count) =
      let cap : v.setup.capacity ≡ k.capacity = ap (λ (s : Setup). s.capacity) (good.set_up j v below at).setup in
      let large = (good.claims j v below at).is_large d (omega arith) in
      let part : (e : ℕ) → d ≤ e → e < d + n → (e < durable_used m) × (durable_info m e ≡ info m e) = λ e low high.
      (let covers = span_covers d e v.large (omega arith) low (omega arith) in
      let t = total_at (λ (u : View). times_large e u.large) views j v below at in
      (good.shaped.durable.below e (omega arith), good.shaped.durable.infos e (omega arith))) in
      let first = part d (omega arith) (omega arith) in
      let last = (part (d + n - 1) (omega arith) (omega arith)).0 in
      let now : image (info_word d) ≡ large_info n = info_is d (durable_inside d first.0) first.1 ∙ large.0 ∙ ap large_info count in
      record {
        superblock = d;
        index = 0;
        words = superblock_words * n;
        count = 1;
        is_of = record {
          taken = (let u = used_least in let f = first.0 in omega arith);
          begins = as_large n (omega arith) now (let u = used_least in omega arith)
              (λ e low high. let p = part e (omega arith) high in info_is e (durable_inside e p.0) p.1 ∙ large.1 e low (omega arith));
          below = omega arith;
          at = ap (λ c. start_word c d) (cap ∙ sym capacity_is) ∙ (let z : start_word (capacity_of image) d ≡ start_word
              (capacity_of image) d + 0 * (superblock_words * n) = omega arith in z);
          size = refl;
        };
      }

  pub names_held : (b : Block) → IsHeldBy views b → Names image (8 * b.first_word) b
  names_held b held = record { begins_at = refl; block = names held.seat held.view held.below held.at b held.holds }

-- an image that has at each of these words the volatile or the durable value
naming_by : (k : Setup) (words : List ℕ) (views : List View) → Sound k words views → (image : Image)
    → ((word : ℕ) → word < image_words k.capacity → word ≢ 3 → (IsTransient k.capacity word → ⊥)
    → (image word ≡ get_or words word 0) ⊎ (image word ≡ get_or words (image_words k.capacity + word) 0))
    → IsNaming k (memory_of k.capacity words) image
naming_by k words views sound image either = record {
  capacity = let fixed = sound.fixed 2 (inl (omega arith)) in
      elim (either 2 (omega arith) (λ e. omega (arith, e)) (λ t. not_transient 2 (omega arith) t)) [
        | inl volatile ↦ volatile ∙ fixed.0
            ∙ sound.capacity
        | inr durable ↦ durable ∙ fixed.1 ∙ sound.capacity
      ];
  used_least = let behind = sound.good.shaped.durable.behind in
      elim (either 8 (omega arith) (λ e. omega (arith, e)) (λ t. not_transient 8 (omega arith) t))
      [ inl volatile ↦ omega arith | inr durable ↦ omega arith ];
  infos = λ d inside same. elim (either (info_word d) (omega arith) (λ e. omega (arith, e)) (λ t. not_info d t)) [
    | inl volatile ↦ volatile ∙ sym (pick (nat_lt d k.capacity) _ _ (lt-ltb d k.capacity inside))
    | inr durable ↦ durable ∙ sym (pick (nat_lt d k.capacity) _ _ (lt-ltb d k.capacity inside)) ∙ same
  ];
} where
  not_transient : (word : ℕ) → word < 16 → IsTransient k.capacity word → ⊥
  not_transient word low (is_head list w less same) = omega (arith, same, low)
  not_transient word low (is_anchor d w less same) = omega (arith, same, low)
  not_transient word low (is_link d w less same) = omega (arith, same, low)

  not_info : (d : ℕ) → IsTransient k.capacity (info_word d) → ⊥
  not_info d t = by_word (info_word d) refl t where
    by_word : (word : ℕ) → word ≡ info_word d → IsTransient k.capacity word → ⊥
    by_word word is (is_head list w less same) = omega (arith, same, is, less)
    by_word word is (is_anchor e w less same) = omega (arith, same, is)
    by_word word is (is_link e w less same) = omega (arith, same, is)

pub firm : (k : Setup) (words : List ℕ) (views : List View) → Sound k words views → IsFirm k.capacity words views
firm k words views sound = record {
  each = λ image mixed b held. names_held k words views sound image (naming_by k words views sound image (λ word inside _ _. elim (mixed.each word) [
    | inl volatile ↦ inl (volatile ∙ pick (nat_lt word (image_words k.capacity)) _ _ (lt-ltb word (image_words k.capacity) inside))
    | inr durable ↦ inr (durable ∙ pick (nat_lt word (image_words k.capacity)) _ _ (lt-ltb word (image_words k.capacity) inside))
  ])) b held;
}

-- the durable capacity
pub durable_capacity : (k : Setup) (words : List ℕ) (views : List View) → Sound k words views → durable_image k.capacity words 2 ≡ k.capacity
durable_capacity k words views sound = pick (nat_lt 2 (image_words k.capacity)) _ _ (lt-ltb 2 (image_words k.capacity) (omega arith))
    ∙ (sound.fixed 2 (inl (omega arith))).1 ∙ sound.capacity

-- what a crash leaves names each held block
pub crash_names : (k : Setup) (words : List ℕ) (views : List View) → Sound k words views → (image : Image)
    → IsCrashImage (durable_image k.capacity words) image → (b : Block) → IsHeldBy views b → Names image (8 * b.first_word) b
crash_names k words views sound image crash b held = names_held k words views sound image
    (naming_by k words views sound image (λ word inside not_state apart.
    inr (crash.others word not_state (λ t. apart (subst (λ c. IsTransient c word) (durable_capacity k words views sound) t))
    ∙ pick (nat_lt word (image_words k.capacity)) _ _ (lt-ltb word (image_words k.capacity) inside)))) b held

-- and so does what a close leaves
pub closed_names : (k : Setup) (words : List ℕ) (views : List View) → Sound k words views → (image : Image)
    → IsClosedImage (volatile_image k.capacity words) image → (b : Block) → IsHeldBy views b → Names image (8 * b.first_word) b
closed_names k words views sound image closed b held = names_held k words views sound image
    (naming_by k words views sound image (λ word inside not_state _.
    inl (closed.others word not_state ∙ pick (nat_lt word (image_words k.capacity)) _ _ (lt-ltb word (image_words k.capacity) inside)))) b held
