-- Whatever a crash leaves of the same durable words reaches the same: no trace looks at what it leaves at random.
use Rattle.std.proofs.Common.{◌≡◌, ◌≢◌, ℕ, ◌+◌, ◌<◌, ◌≤◌, ◌⊎◌, inl, inr, ap, sym, subst, ◌∙◌, arith}
use Rattle.heap_model.specs.declared.block.Block.{Block}
use Rattle.heap_model.specs.Geometry.{capacity_word, used_word, state_word, info_word, root_word, start_word, kind_word, roots, lists, head_word}
use Rattle.heap_model.specs.Image.{Image}
use Rattle.heap_model.specs.Header.{capacity_of, used_of, kinds_of}
use Rattle.heap_model.specs.Blocks.{Layout, IsBlock, layout_of}
use Rattle.heap_model.specs.Reach.{Links, AnyRoot, Reach, ReachIn, IsTraced, is_root, is_linked, IsOutside, IsOutsideIn, TracesAlike}
use Rattle.heap_model.specs.Durability.{IsCrashImage, IsTransient, is_head, is_anchor, is_link}
use Rattle.heap_model.proofs.BlockLemmas.{block_inside}
use Rattle.heap_model.proofs.ImageLemmas.{words_from-agree}
use Rattle.heap_model.proofs.ReachLemmas.{reached_block, reach_kept, traced_kept, outside_kept, reach_by_kinds, traced_by_kinds}
use Rattle.heap_model.proofs.HeaderLemmas.{header_lasts}

-- where a crash leaves words at random: in the line of the heads, or behind the info of a descriptor
at_random : (capacity word : ℕ) → IsTransient capacity word
    → ((16 ≤ word) × (word < head_word lists)) ⊎ ((d : ℕ) × (d < capacity) × (info_word d < word) × (word < info_word d + 3))
at_random capacity _ (is_head list word few at) = inl (omega arith, omega arith)
at_random capacity _ (is_anchor d word less at) = inr (d, less, omega arith, omega arith)
at_random capacity _ (is_link d word less at) = inr (d, less, omega arith, omega arith)

-- so not in a root, an info or a superblock
root_lasts : (capacity root : ℕ) → root < roots → IsTransient capacity (root_word root) → ⊥
root_lasts capacity root below lost = elim (at_random capacity (root_word root) lost) as
    (λ _. ⊥) [ inl heads ↦ (let until = heads.1 in omega arith) | inr line ↦ (let from = line.2 in omega arith) ]

info_lasts : (capacity e : ℕ) → IsTransient capacity (info_word e) → ⊥
info_lasts capacity e lost = elim (at_random capacity (info_word e) lost) as (λ _. ⊥) [
  | inl heads ↦ (let until = heads.1 in omega arith)
  | inr line ↦ (let from = line.2 in let until = line.3 in omega arith)
]

inside_lasts : (capacity word : ℕ) → start_word capacity 0 ≤ word → IsTransient capacity word → ⊥
inside_lasts capacity word low lost = elim (at_random capacity word lost) as (λ _. ⊥) [
  | inl heads ↦ (let until = heads.1 in omega arith)
  | inr line ↦ (let less = line.1 in let until = line.3 in omega arith)
]

module _ (durable image other : Image) (crash : IsCrashImage durable image) (crash' : IsCrashImage durable other) where
  same_word : (word : ℕ) → word ≢ state_word → (IsTransient (capacity_of durable) word → ⊥) → other word ≡ image word
  same_word word no_state lasts = crash'.others word no_state lasts ∙ sym (crash.others word no_state lasts)

  same_capacity : capacity_of other ≡ capacity_of image
  same_capacity = same_word capacity_word (λ e. omega (arith, e)) (header_lasts (capacity_of durable) capacity_word (omega arith))

  same_used : used_of other ≡ used_of image
  same_used = same_word used_word (λ e. omega (arith, e)) (header_lasts (capacity_of durable) used_word (omega arith))

  same_info : (d : ℕ) → other (info_word d) ≡ image (info_word d)
  same_info d = same_word (info_word d) (λ e. omega (arith, e)) (info_lasts (capacity_of durable) d)

  -- so they are laid out alike
  pub same_layout : layout_of other ≡ layout_of image
  same_layout = λ i. record { capacity = same_capacity i; used = same_used i; info = λ d. same_info d i }

  -- a word of a superblock
  same_inside : (word : ℕ) → start_word (capacity_of image) 0 ≤ word → other word ≡ image word
  same_inside word low =
      let capacity : capacity_of image ≡ capacity_of durable = crash.others capacity_word (λ e. omega (arith, e))
      (header_lasts (capacity_of durable) capacity_word (omega arith)) in
      same_word word (λ e. omega (arith, e, low)) (inside_lasts (capacity_of durable) word (omega arith))

  module _ (kinds : ℕ → ℕ) (links : Links) where
    same_traced : (at : ℕ) → IsTraced image kinds links at → other at ≡ image at
    same_traced _ (is_root root at below chosen is) =
        subst (λ w. other w ≡ image w) (sym is) (same_word (root_word root) (λ e. omega (arith, e)) (root_lasts (capacity_of durable) root below))
    same_traced _ (is_linked a from position kind at reached listed is) =
        let lies = block_inside (layout_of image) a (reached_block image kinds links a from reached) in
        subst (λ w. other w ≡ image w) (sym is) (same_inside (a.first_word + position) (omega (arith, lies.0)))

    alike : TracesAlike image other AnyRoot kinds links
    alike = record {
      same_words = same_traced;
      are_blocks = λ b kind reached. subst (λ (l : Layout). IsBlock l b) (sym same_layout) (reached_block image kinds links b kind reached);
      same_links = λ b kind reached.
          let lies = block_inside (layout_of image) b (reached_block image kinds links b kind reached) in
          ap (λ ws. links kind ws) (words_from-agree other image b.first_word b.words (λ at low high. same_inside at (omega (arith, lies.0))));
    }

    pub same_reach : (b : Block) (kind : ℕ) → Reach image kinds links b kind → Reach other kinds links b kind
    same_reach = reach_kept image other AnyRoot kinds links alike

    -- the same words point outside, with the same values
    pub same_outside : (at : ℕ) → IsOutside image kinds links at → IsOutside other kinds links at × (other at ≡ image at)
    same_outside at out = (
      record {
        traced = traced_kept image other AnyRoot kinds links alike at out.traced;
        outside = outside_kept image other AnyRoot kinds links alike at (λ b is. subst (λ (l : Layout). IsBlock l b) same_layout is)
            out.traced out.outside;
      },
      same_traced at out.traced,
    )

  -- each root has the same kind, so the same is reached with the kinds that each image stores
  pub same_kinds : (root : ℕ) → root < roots → kinds_of other root ≡ kinds_of image root
  same_kinds root below =
      ap (λ capacity. other (kind_word capacity root)) same_capacity ∙ same_inside (kind_word (capacity_of image) root) (omega arith)

  pub same_reach_in : (links : Links) (b : Block) (kind : ℕ) → ReachIn image links b kind → ReachIn other links b kind
  same_reach_in links b kind reached =
      reach_by_kinds other (kinds_of image) (kinds_of other) links (λ root below. sym (same_kinds root below)) b kind
      (same_reach (kinds_of image) links b kind reached)

  pub same_outside_in : (links : Links) (at : ℕ) → IsOutsideIn image links at → IsOutsideIn other links at × (other at ≡ image at)
  same_outside_in links at out =
      let there = same_outside (kinds_of image) links at out in (
        record {
          traced = traced_by_kinds other (kinds_of image) (kinds_of other) links (λ root below. sym (same_kinds root below)) at there.0.traced;
          outside = there.0.outside;
        },
        there.1,
      )
