-- The words that a division of a superblock changes, and what stays of the others.
use Rattle.std.proofs.Common.{◌≡◌, ◌≢◌, ℕ, ◌<◌, inl, inr, List, sym, subst, ◌∙◌, arith}
use Rattle.std.proofs.lemmas.Bool.{cases_eq}
use Rattle.heap_model.specs.declared.block.Block.{Block}
use Rattle.heap_model.specs.Geometry.{info_word, anchor_word, used_word}
use Rattle.heap_at_rest.specs.Draining.{HasNoHeld}
use Rattle.heap_shape.specs.Effects.{IsCut, IsInSuperblock}
use Rattle.line_memory.specs.View.{View, volatile_at, durable_at}
use Rattle.block_heap.specs.Divide.{IsDivideWord, IsDivided}
use Rattle.block_heap.specs.Medium.{StoresOnly}
use Rattle.block_heap.specs.Running.{HasDurableInfos}
use Rattle.block_heap.specs.AllocatorWords.{IsAllocatorWord, is_info, is_anchor, is_inside}
use Rattle.heap_shape.proofs.BasicLemmas.{inside_one}
use Rattle.block_heap.specs.Parts.{Parts}
use Rattle.block_heap.specs.Order.{KeepsSuperblock}

-- a word of a superblock that no held block has a part in, and its info and anchor: an allocator may store to them
pub divide_word : (capacity d : ℕ) (held : List Block) (word : ℕ) → d < capacity → HasNoHeld capacity held d → IsDivideWord capacity d word
    → IsAllocatorWord capacity held word
divide_word capacity d held word within none (inl inside) =
    let from = inside.from in
    let until = inside.until in
    is_inside (omega arith) (omega arith) (λ b holds in_b.
    let first = in_b.from in
    let last = in_b.until in
    none b holds (record { begins = omega arith; ends = omega arith }))
divide_word capacity d held word within none (inr (inl info)) = is_info d within none info
divide_word capacity d held word within none (inr (inr anchor)) = is_anchor d within anchor

-- none of them is `used`, a head, or the info of another superblock
pub divide_before : (capacity d word : ℕ) → word < 1064 → IsDivideWord capacity d word → ⊥
divide_before capacity d word less (inl inside) = let from = inside.from in omega arith
divide_before capacity d word less (inr (inl info)) = omega arith
divide_before capacity d word less (inr (inr anchor)) = omega arith

pub divide_info : (capacity d e : ℕ) → e < capacity → e ≢ d → IsDivideWord capacity d (info_word e) → ⊥
divide_info capacity d e within other (inl inside) = let from = inside.from in omega arith
divide_info capacity d e within other (inr (inl info)) = other (omega arith)
divide_info capacity d e within other (inr (inr anchor)) = omega arith

-- nor the anchor or a word of it
divide_anchor : (capacity d e : ℕ) → e < capacity → e ≢ d → IsDivideWord capacity d (anchor_word e) → ⊥
divide_anchor capacity d e within other (inl inside) = let from = inside.from in omega arith
divide_anchor capacity d e within other (inr (inl info)) = omega arith
divide_anchor capacity d e within other (inr (inr anchor)) = other (omega arith)

divide_inside : (capacity d e word : ℕ) → d < capacity → e ≢ d → IsInSuperblock capacity e word → IsDivideWord capacity d word → ⊥
divide_inside capacity d e word below other is (inl inside) = other (inside_one capacity e d word is inside)
divide_inside capacity d e word below other is (inr (inl info)) = let from = is.from in omega arith
divide_inside capacity d e word below other is (inr (inr anchor)) = let from = is.from in omega arith

-- so after one store before all infos, and the division of superblock d, the other superblocks are as they were
pub others_kept : (p q : Parts) (w : View) (d at : ℕ) → d < p.capacity → at < 1064 → StoresOnly (λ word. word ≡ at) p.words w
    → StoresOnly (IsDivideWord p.capacity d) w q.words → (e : ℕ) → e < p.capacity → e ≢ d → KeepsSuperblock e p q
others_kept p q w d at within low first second e below other = record {
  info = second.volatile (info_word e) (divide_info p.capacity d e below other) ∙ first.volatile (info_word e) (λ same. omega arith);
  anchor = second.volatile (anchor_word e) (divide_anchor p.capacity d e below other) ∙ first.volatile (anchor_word e) (λ same. omega arith);
  words = λ word inside.
      second.volatile word (divide_inside p.capacity d e word within other inside)
      ∙ first.volatile word (λ same. let from = inside.from in omega arith);
}

-- a division, as an image
pub cut_is : (capacity class d : ℕ) (v w : View) → StoresOnly (IsDivideWord capacity d) v w → IsDivided capacity class d v w
    → IsCut capacity (λ word. volatile_at v word) (λ word. volatile_at w word) class d
cut_is capacity class d v w stores divided = record {
  info = divided.info;
  anchor = divided.anchor;
  linked = divided.linked;
  others = λ word out not_info not_anchor. stores.volatile word (λ t. by_word word out not_info not_anchor t);
} where
  by_word : (word : ℕ) → (IsInSuperblock capacity d word → ⊥) → word ≢ info_word d → word ≢ anchor_word d → IsDivideWord capacity d word → ⊥
  by_word word out not_info not_anchor (inl inside) = out inside
  by_word word out not_info not_anchor (inr (inl info)) = not_info info
  by_word word out not_info not_anchor (inr (inr anchor)) = not_anchor anchor

-- it leaves infos and `used` durable
pub settled_cut : (capacity class d : ℕ) (v w : View) → HasDurableInfos capacity v → StoresOnly (IsDivideWord capacity d) v w
    → IsDivided capacity class d v w
    → HasDurableInfos capacity w
settled_cut capacity class d v w settled stores divided = record {
  infos = λ e within. elim (cases_eq e d) as (λ _. durable_at w (info_word e) ≡ volatile_at w (info_word e)) [
    | inl same ↦ subst (λ k. durable_at w (info_word k) ≡ volatile_at w (info_word k)) (sym same) (divided.info_durable ∙ sym divided.info)
    | inr other ↦ one (info_word e) (divide_info capacity d e within other) (settled.infos e within)
  ];
  used = one used_word (divide_before capacity d used_word (omega arith)) settled.used;
} where
  one : (word : ℕ) → (IsDivideWord capacity d word → ⊥) → durable_at v word ≡ volatile_at v word → durable_at w word ≡ volatile_at w word
  one word out same = elim (stores.durable word out) as (λ _. durable_at w word ≡ volatile_at w word) [
    | inl e ↦ e ∙ same ∙ sym (stores.volatile word out)
    | inr e ↦ e ∙ sym (stores.volatile word out)
  ]
