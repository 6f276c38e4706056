-- Recovery of an image leaves one heap: each word of it is told by the image and by the blocks that are kept.
use Rattle.std.proofs.Common.{◌≡◌, ℕ, ◌+◌, ◌*◌, ◌≤◌, inl, inr, List, [], ◌∷◌, length, Contains, slice_index, ap, sym, subst, ◌∙◌, arith}
use Rattle.std.proofs.lemmas.Bool.{cases_eq, cases_order}
use Rattle.std.proofs.lemmas.List.{ext_get_or}
use Rattle.heap_model.specs.declared.block.Block.{Block}
use Rattle.heap_model.specs.Geometry.{start_word}
use Rattle.heap_model.specs.Image.{Image}
use Rattle.heap_model.specs.Header.{capacity_of}
use Rattle.heap_model.specs.Sizes.{IsClass, words_of_class}
use Rattle.heap_model.specs.Words.{anchor_of, partial_state}
use Rattle.heap_model.specs.Blocks.{Layout, layout_of}
use Rattle.heap_model.specs.Chains.{Walks}
use Rattle.heap_model.specs.Recovered.{AreAscending}
use Rattle.heap_model.specs.Recovery.{IsSpare, IsPartial, IsRecovered, but_last}
use Rattle.heap_model.proofs.SizeLemmas.{two_words}
use Rattle.heap_model.proofs.BlockLemmas.{block_step}
use Rattle.heap_model.proofs.MemberLemmas.{in_none, head_or_rest}
use Rattle.heap_at_rest.proofs.ChainLemmas.{some_spare}
use Rattle.heap_recover.proofs.AscendingLemmas.{ascending_one}
use Rattle.heap_recover.proofs.RelistedLemmas.{IsRelisted, IsDescribedAlike, relisted_word}

-- walks along one chain go on alike from each block but the last
one_next : (next next' : ℕ → ℕ) (from from' : ℕ) (bs : List ℕ) (w : ℕ) → Walks next from bs → Walks next' from' bs → Contains (but_last bs) w
    → next w ≡ next' w
one_next next next' from from' [] w walks walks' has = absurd (in_none w has)
one_next next next' from from' (b ∷ []) w walks walks' has = absurd (in_none w has)
one_next next next' from from' (b ∷ c ∷ bs) w walks walks' has = elim (head_or_rest b w (but_last (c ∷ bs)) has) as (λ _. next w ≡ next' w) [
  | inl same ↦ subst (λ x. next x ≡ next' x) same (walks.1.0 ∙ sym walks'.1.0)
  | inr later ↦ one_next next next' (next b) (next' b) (c ∷ bs) w walks.1 walks'.1 later
]

-- and begin at one index
one_first : (next next' : ℕ → ℕ) (start words first first' : ℕ) (bs : List ℕ) → 2 ≤ words → 1 ≤ length bs → Walks next (start + first * words) bs
    → Walks next' (start + first' * words) bs → first ≡ first'
one_first next next' start words first first' [] two some walks walks' = absurd (omega arith)
one_first next next' start words first first' (b ∷ bs) two some walks walks' = elim (cases_order first first') as (λ _. first ≡ first') [
  | inl same ↦ same
  | inr two_ways ↦ elim two_ways as (λ _. first ≡ first') [
    | inl less ↦ absurd (let step = block_step first first' words less in let at = walks.0 in let at' = walks'.0 in omega arith)
    | inr more ↦ absurd (let step = block_step first' first words more in let at = walks.0 in let at' = walks'.0 in omega arith)
  ]
]

-- recovery lists, and describes what is not partial, as an opening by anchors does
relisted : (old new : Image) (kept : Block → Type 0) → IsRecovered old new kept → IsRelisted old new kept
relisted old new kept recovered = record {
  descriptors = recovered.descriptors;
  listed = recovered.listed;
  state = recovered.state;
  same = recovered.same;
  heads = recovered.heads;
  links = recovered.links;
  unlisted = recovered.unlisted;
  free = recovered.free;
  full = recovered.full;
  in_large = recovered.in_large;
  untaken = recovered.untaken;
}

module _ (old new other : Image) (kept : Block → Type 0) (held : List Block) (are : AreAscending (λ (b : Block). b.first_word) kept held)
    (is : IsRecovered old new kept) (again : IsRecovered old other kept) where
  abbrev l : Layout
  l = layout_of old

  -- chains
  one_chain : (class d : ℕ) → IsClass class → IsPartial l kept class d → again.chains d ≡ is.chains d
  one_chain class d is_class part =
      ascending_one (λ w. w) (IsSpare l kept class d) (IsSpare l kept class d) (again.chains d) (is.chains d) (λ w h. h) (λ w h. h)
      (again.chained class d is_class part) (is.chained class d is_class part)

  -- so infos and anchors of partial superblocks
  partial_alike : (class d : ℕ) → IsClass class → IsPartial l kept class d → IsDescribedAlike new other d
  partial_alike class d is_class part =
      let there = again.partial class d is_class part in
      let here = is.partial class d is_class part in
      let chain = one_chain class d is_class part in
      let walks = subst (λ bs. Walks other (start_word (capacity_of old) d + there.first * words_of_class class) bs) chain there.walks in
      let first : there.first ≡ here.first =
      one_first other new (start_word (capacity_of old) d) (words_of_class class) there.first here.first (is.chains d) (two_words class is_class)
      (some_spare l kept class d (is.chains d) is_class part (is.chained class d is_class part)) walks here.walks in
      let same : anchor_of partial_state there.first (length (again.chains d)) ≡ anchor_of partial_state here.first (length (is.chains d)) =
      ap (λ bs. anchor_of partial_state there.first (length bs)) chain ∙ ap (λ n. anchor_of partial_state n (length (is.chains d))) first in
      record { info = there.words.info_is ∙ sym here.words.info_is; anchor = there.words.anchor_is ∙ same ∙ sym here.words.anchor_is }

  -- superblocks: where the two differ, no chain has the word, so both are as they were
  one_chained : (class d word : ℕ) → IsClass class → IsPartial l kept class d → Contains (but_last (is.chains d)) word → other word ≡ new word
  one_chained class d word is_class part has =
      let walks = subst (λ bs. Walks other (start_word (capacity_of old) d + (again.partial class d is_class part).first * words_of_class class)
      bs) (one_chain class d is_class part)
      (again.partial class d is_class part).walks in
      one_next other new _ _ (is.chains d) word walks (is.partial class d is_class part).walks has

  one_inside : (word : ℕ) → start_word (capacity_of old) 0 ≤ word → other word ≡ new word
  one_inside word low = elim (cases_eq (other word) (new word)) as (λ _. other word ≡ new word) [
    | inl same ↦ same
    | inr differ ↦
        again.inside word low (λ class d is_class part has.
        differ (one_chained class d word is_class part (subst (λ bs. Contains (but_last bs) word) (one_chain class d is_class part) has)))
        ∙ sym (is.inside word low (λ class d is_class part has. differ (one_chained class d word is_class part has)))
  ]

-- so each word is one
pub one_word : (old new other : Image) (kept : Block → Type 0) (held : List Block) → AreAscending (λ (b : Block). b.first_word) kept held
    → IsRecovered old new kept → IsRecovered old other kept → (word : ℕ) → other word ≡ new word
one_word old new other kept held are is again =
    relisted_word old new other kept held are (relisted old new kept is) (relisted old other kept again)
    (partial_alike old new other kept held are is again) (one_inside old new other kept held are is again)

-- so lists of words that are both what recovery makes of an image are one
pub one_outcome : (old new other : List ℕ) (kept : Block → Type 0) (held : List Block) → length other ≡ length new
    → AreAscending (λ (b : Block). b.first_word) kept held
    → IsRecovered (slice_index old) (slice_index new) kept → IsRecovered (slice_index old) (slice_index other) kept → other ≡ new
one_outcome old new other kept held long are is again =
    ext_get_or 0 other new long (λ i below. one_word (slice_index old) (slice_index new) (slice_index other) kept held are is again i)
