-- A superblock that a row of steps leaves alone stays as its place says.
use Rattle.std.proofs.Common.{◌≡◌, ◌≢◌, ℕ, zero, suc, ◌<◌, ◌≤◌, ◌⊎◌, inl, inr, List, length, Contains, refl, ap, sym, subst, ◌∙◌, arith}
use Rattle.heap_model.specs.declared.block.Block.{Block}
use Rattle.heap_model.specs.Geometry.{info_word, anchor_word, link_word, used_word}
use Rattle.heap_model.specs.Image.{Image}
use Rattle.heap_model.specs.Sizes.{IsClass, blocks_of}
use Rattle.heap_model.specs.Words.{anchor_state, anchor_first, anchor_count, empty_state, partial_state}
use Rattle.heap_model.specs.Chains.{Walks}
use Rattle.heap_model.specs.Counting.{times}
use Rattle.heap_shape.specs.Shape.{Place, in_list, is_full, in_large, is_new, Shape}
use Rattle.heap_shape.specs.Standing.{first_of, HoldsAt, HasOneOwner, a_free, a_held, times_free, IsOfClass, IsAs}
use Rattle.heap_at_rest.specs.Draining.{HasNoHeld}
use Rattle.heap_shape.specs.Effects.{IsInSuperblock}
use Rattle.heap_at_rest.proofs.ListLemmas.{walks_same}
use Rattle.heap_shape.proofs.BasicLemmas.{first_inside}

-- what steps on list heads and one superblock's descriptor leave: `used`, infos, the links of others, and superblocks
pub record KeepsBut (capacity d : ℕ) (image new : Image) : Type 0 where
  pub used : new used_word ≡ image used_word
  pub info : (e : ℕ) → new (info_word e) ≡ image (info_word e)
  pub link : (e : ℕ) → e ≢ d → new (link_word e) ≡ image (link_word e)
  pub inside : (e word : ℕ) → IsInSuperblock capacity e word → new word ≡ image word

-- superblock d has the same words, the same chain, and the same held and cached blocks
pub record SameThere (capacity d : ℕ) (image new : Image) (s t : Shape) (held now : List Block) : Type 0 where
  pub info : new (info_word d) ≡ image (info_word d)
  pub anchor : new (anchor_word d) ≡ image (anchor_word d)
  pub inside : (word : ℕ) → IsInSuperblock capacity d word → new word ≡ image word
  pub chain : t.chain d ≡ s.chain d
  pub cached : (class word : ℕ) → IsClass class → IsInSuperblock capacity d word → times word (t.cached class) ≡ times word (s.cached class)
  pub holds : (word : ℕ) → IsInSuperblock capacity d word → HoldsAt held word → HoldsAt now word
  pub held_before : (word : ℕ) → IsInSuperblock capacity d word → HoldsAt now word → HoldsAt held word
  pub none : HasNoHeld capacity held d → HasNoHeld capacity now d

-- a block keeps its owner where it is counted alike and held alike
pub owner_same : (s t : Shape) (held now : List Block) (class d word : ℕ) → times_free t class d word ≡ times_free s class d word
    → (HoldsAt held word → HoldsAt now word) → (HoldsAt now word → HoldsAt held word)
    → HasOneOwner s held class d word → HasOneOwner t now class d word
owner_same s t held now class d word same holds before (a_free one unheld) = a_free (same ∙ one) (λ at. unheld (before at))
owner_same s t held now class d word same holds before (a_held none at) = a_held (same ∙ none) (holds at)

-- a superblock that is cut for a class stays so
pub of_class_same : (capacity d : ℕ) (image new : Image) (s t : Shape) (held now : List Block) (class : ℕ) → SameThere capacity d image new s t held now
    → image used_word ≤ new used_word → IsOfClass capacity image s held class d → IsOfClass capacity new t now class d
of_class_same capacity d image new s t held now class same raised is = record {
  is_class = is.is_class;
  taken = let taken = is.taken in omega arith;
  info = same.info ∙ is.info;
  owned = λ index below.
      let inside = first_inside capacity class d (first_of capacity class d index) is.is_class (record { index = index; below = below; at = refl }) in
      let chain : times (first_of capacity class d index) (t.chain d) ≡ times (first_of capacity class d index) (s.chain d) =
      ap (times (first_of capacity class d index)) same.chain in
      let cached = same.cached class (first_of capacity class d index) is.is_class inside in
      owner_same s t held now class d (first_of capacity class d index) (omega arith) (same.holds _ inside) (same.held_before _ inside)
      (is.owned index below);
  blocks = λ word p. is.blocks word (subst (λ ws. Contains ws word) same.chain p);
  walks = subst (λ ws. Walks new (first_of capacity class d (anchor_first (new (anchor_word d)))) ws) (sym same.chain)
      (subst (λ a. Walks new (first_of capacity class d (anchor_first a)) (s.chain d)) (sym same.anchor)
      (walks_same image new (first_of capacity class d (anchor_first (image (anchor_word d)))) (s.chain d)
      (λ w p. same.inside w (first_inside capacity class d w is.is_class (is.blocks w p))) is.walks));
  count = ap anchor_count same.anchor ∙ is.count ∙ ap length (sym same.chain);
}

-- it stays as its place says, if its place is that of a taken superblock
pub frame : (capacity d : ℕ) (image new : Image) (s t : Shape) (held now : List Block) (p : Place) → SameThere capacity d image new s t held now
    → image used_word ≤ new used_word → (p ≡ is_new → (new used_word ≤ d) × (new (link_word d) ≡ image (link_word d)))
    → IsAs capacity image s held d p → IsAs capacity new t now d p
frame capacity d image new s t held now (in_list zero) same raised untaken is =
    record { taken = let taken = is.taken in omega arith; state = ap anchor_state same.anchor ∙ is.state; none = same.none is.none }
frame capacity d image new s t held now (in_list (suc c)) same raised untaken is =
    let long = ap length same.chain in
    let anchor = ap anchor_state same.anchor in
    record {
      of_class = of_class_same capacity d image new s t held now (suc c) same raised is.of_class;
      some = let some = is.some in omega arith;
      state = elim is.state as (λ _. ((anchor_state (new (anchor_word d)) ≡ empty_state) × (length (t.chain d) ≡ blocks_of (suc c)))
          ⊎ ((anchor_state (new (anchor_word d)) ≡ partial_state) × (length (t.chain d) < blocks_of (suc c)))) [
            | inl all ↦ inl (anchor ∙ all.0, long ∙ all.1)
            | inr some ↦ inr (anchor ∙ some.0, let less = some.1 in omega arith)
          ];
    }
frame capacity d image new s t held now is_full same raised untaken is = record {
  of_class = subst (λ c. IsOfClass capacity new t now c d) (sym same.info)
      (of_class_same capacity d image new s t held now (image (info_word d)) same raised is.of_class);
  none = same.chain ∙ is.none;
  anchor = same.anchor ∙ is.anchor;
}
frame capacity d image new s t held now in_large same raised untaken is =
    record { taken = let taken = is.taken in omega arith; no_class = λ class. is.no_class (subst IsClass same.info class) }
frame capacity d image new s t held now is_new same raised untaken is =
    let still = untaken refl in
    record { past = still.0; info = same.info ∙ is.info; anchor = same.anchor ∙ is.anchor; link = still.1 ∙ is.link }
