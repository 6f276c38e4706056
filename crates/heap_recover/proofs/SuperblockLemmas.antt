-- The words of one superblock after its chain and its descriptor are written.
use Rattle.std.proofs.Common.{◌≡◌, ℕ, zero, suc, ◌+◌, ◌-◌, ◌*◌, ◌/◌, ◌<◌, ◌≤◌, ◌^◌, ◌⊎◌, inl, inr, List, [], ◌∷◌, length, get_or, slice_index, All, refl, ap, sym, subst, ◌∙◌, arith}
use Rattle.std.specs.List.{Contains, AllPairs}
use Rattle.std.proofs.Math.Nat.{mul-div_cancel}
use Rattle.std.proofs.lemmas.List.Elements.{Contains-get_or}
use Rattle.heap_model.specs.Geometry.{info_word, start_word, image_words, largest_capacity, largest_capacity_fits}
use Rattle.heap_model.specs.Header.{capacity_of}
use Rattle.heap_model.specs.Image.{Image}
use Rattle.heap_model.specs.Sizes.{words_of_class, blocks_of}
use Rattle.heap_model.specs.Recovery.{but_last}
use Rattle.heap_model.specs.Chains.{Walks}
use Rattle.heap_model.proofs.SizeLemmas.{two_words, few_blocks}
use Rattle.heap_at_rest.proofs.ListLemmas.{walks_same}
use Rattle.size_table.specs.declared.size_class.SizeClass.{SizeClass}
use Rattle.heap_recover.specs.declared.roles.Role.{Role}
use Rattle.heap_recover.specs.declared.roles.Role.TheVariants.{Free, Partial, Full, Large}
use Rattle.heap_recover.specs.Rebuilt.{IsChained, IsOf, is_info, is_anchor, is_link, is_inside, AreSpares, HasSpares, HasInfo, IsAnchorOf, IsWrittenAs, IsDescribed, IsRebuiltAs}
use Rattle.heap_at_rest.proofs.PartLemmas.{class_inside}
use Rattle.heap_recover.proofs.SurveyLemmas.{none_of}

-- a member of all but the last is a member
pub but_last_in : (xs : List ℕ) (w : ℕ) → Contains (but_last xs) w → Contains xs w
but_last_in [] w has = has
but_last_in (x ∷ []) w has = absurd (none_of refl has)
but_last_in (x ∷ y ∷ ys) w (zero, below, is) = (zero, omega arith, is)
but_last_in (x ∷ y ∷ ys) w (suc k, below, is) = let rest = but_last_in (y ∷ ys) w (k, omega arith, is) in
    (suc rest.0, (let inside = rest.1 in omega arith), rest.2)

-- a number of a strictly ascending list is at least its index
pub ascending_index : (xs : List ℕ) → AllPairs (λ x y. x < y) xs → (k : ℕ) → k < length xs → k ≤ slice_index xs k
ascending_index xs ascending zero below = omega arith
ascending_index xs ascending (suc k) below =
    let before = ascending_index xs ascending k (omega arith) in
    let step = ascending k (suc k) 0 (omega arith) below in omega arith

-- the spares of a superblock lie in it
pub spares_inside : (capacity d : ℕ) (spares : List ℕ) (role : Role) → HasSpares capacity d spares role → (w : ℕ) → Contains spares w
    → (start_word capacity d ≤ w) × (w < start_word capacity (d + 1))
spares_inside capacity d spares Free none w has = absurd (none_of none has)
spares_inside capacity d spares (Partial class) are w has =
    let block = are.blocks w has in
    let inside = class_inside capacity class.number d block.0 (record { first_word = w; words = words_of_class class.number }) class.is block.1 in
    (inside.0, omega (arith, inside.1, inside.2))
spares_inside capacity d spares (Full class) none w has = absurd (none_of none has)
spares_inside capacity d spares Large none w has = absurd (none_of none has)

-- so their words are words of the image
pub spares_fit : (capacity d : ℕ) (spares : List ℕ) (role : Role) → HasSpares capacity d spares role → d < capacity
    → All (λ w. w < image_words capacity) spares
spares_fit capacity d spares role has below k x less =
    let inside = spares_inside capacity d spares role has (get_or spares k x) (Contains-get_or spares k x less) in omega (arith, inside.1)

-- they are in ascending order
pub spares_ascend : (capacity d : ℕ) (spares : List ℕ) (role : Role) → HasSpares capacity d spares role → AllPairs (λ x y. x < y) spares
spares_ascend capacity d spares Free none = subst (λ xs. AllPairs (λ x y. x < y) xs) (sym none) (λ i j e less below. absurd (omega arith))
spares_ascend capacity d spares (Partial class) are = are.ascending
spares_ascend capacity d spares (Full class) none = subst (λ xs. AllPairs (λ x y. x < y) xs) (sym none) (λ i j e less below. absurd (omega arith))
spares_ascend capacity d spares Large none = subst (λ xs. AllPairs (λ x y. x < y) xs) (sym none) (λ i j e less below. absurd (omega arith))

-- which block is the first spare one
pub record IsFirstSpare (capacity class d : ℕ) (spares : List ℕ) (index : ℕ) : Type 0 where
  pub below : index < blocks_of class
  pub at : slice_index spares 0 ≡ start_word capacity d + index * words_of_class class
  pub quotient : (slice_index spares 0 - start_word capacity d) / words_of_class class ≡ index
  pub few : length spares < 2 ^ 31

pub first_spare : (capacity : ℕ) (class : SizeClass) (d : ℕ) (spares : List ℕ) → capacity ≤ largest_capacity → d < capacity
    → AreSpares capacity class d spares
    → (index : ℕ) × IsFirstSpare capacity class.number d spares index
first_spare capacity class d spares small below are =
    let block = are.blocks (slice_index spares 0) (Contains-get_or spares 0 0 are.some) in
    let at : slice_index spares 0 ≡ start_word capacity d + block.0 * words_of_class class.number = block.1.at in
    let rest : slice_index spares 0 - start_word capacity d ≡ block.0 * words_of_class class.number = omega arith in
    let last = ascending_index spares are.ascending (length spares - 1) (let some = are.some in omega arith) in
    let inside = spares_inside capacity d spares (Partial class) are (slice_index spares (length spares - 1))
    (Contains-get_or spares (length spares - 1) 0 (let some = are.some in omega arith)) in (
      block.0,
      record {
        below = block.1.below;
        at = at;
        quotient = ap (λ x. x / words_of_class class.number) rest ∙ mul-div_cancel block.0 (let two = two_words class.number class.is in omega arith);
        few = omega (arith, inside.1, largest_capacity_fits);
      },
    )

-- the spares of a partial superblock
pub of_partial : (capacity d : ℕ) (class : SizeClass) (spares : List ℕ) (role : Role) → role ≡ Partial class → HasSpares capacity d spares role
    → AreSpares capacity class d spares
of_partial capacity d class spares role is has = subst (λ (r : Role). HasSpares capacity d spares r) is has

-- its first spare block, as the code finds it
pub record IsFoundFirst (capacity class d : ℕ) (spares : List ℕ) (start words : ℕ) : Type 0 where
  pub below : (slice_index spares 0 - start) / words < 2 ^ 31
  pub begins : start_word capacity d + (slice_index spares 0 - start) / words * words_of_class class ≡ slice_index spares 0
  pub few : length spares < 2 ^ 31

pub found_first : (capacity : ℕ) (class : SizeClass) (d : ℕ) (spares : List ℕ) (start words : ℕ) → capacity ≤ largest_capacity → d < capacity
    → AreSpares capacity class d spares
    → start ≡ start_word capacity d → words ≡ words_of_class class.number → IsFoundFirst capacity class.number d spares start words
found_first capacity class d spares start words small below are start_is words_is =
    let first = first_spare capacity class d spares small below are in
    let two = two_words class.number class.is in
    let at = first.1.at in
    let quotient : (slice_index spares 0 - start) / words ≡ first.0 =
    ap (λ x. (slice_index spares 0 - x) / words) start_is ∙ ap (λ w. (slice_index spares 0 - start_word capacity d) / w) words_is ∙ first.1.quotient in
    record {
      below = subst (λ x. x < 2 ^ 31) (sym quotient) (let index = first.1.below in let few = few_blocks class.number class.is in omega arith);
      begins = ap (λ i. start_word capacity d + i * words_of_class class.number) quotient ∙ sym at;
      few = first.1.few;
    }

-- the chain and the descriptor of a superblock are written
module _ (old chained new : Image) (capacity d : ℕ) (spares : List ℕ) (anchor : ℕ) (below : d < capacity)
    (is_chained : IsChained old chained spares) where
  -- a word that is no first word of a chained block is as it was before the chain
  before_chain : (role : Role) → HasSpares capacity d spares role → (word : ℕ) → (IsOf capacity d word → ⊥) ⊎ (word < start_word capacity d)
      → chained word ≡ old word
  before_chain role has word away = is_chained.others word (λ linked.
      let inside = spares_inside capacity d spares role has word (but_last_in spares word linked) in
      elim away as (λ _. ⊥) [ inl outside ↦ outside (is_inside word inside.0 inside.1) | inr lower ↦ let low = inside.0 in omega arith ])

  -- a word of the superblock's blocks is as it was before the descriptor
  module _ (role : Role) (has : HasSpares capacity d spares role) (written : IsWrittenAs chained new d role anchor) where
    inside_kept : (word : ℕ) → start_word capacity d ≤ word → new word ≡ chained word
    inside_kept word low = written.others word (λ same. omega arith) (λ same. omega arith) (λ same. omega arith)

    pub rebuilt : IsDescribed old new d spares role → IsRebuiltAs old new capacity d role spares
    rebuilt described = record {
      described = described;
      link = written.link_is;
      inside = record { each = λ word low high unlinked. inside_kept word low ∙ is_chained.others word unlinked };
      others = λ word outside. written.others word (λ same. outside (is_info word same)) (λ same. outside (is_anchor word same))
          (λ same. outside (is_link word same)) ∙ before_chain role has word (inl outside);
    }

  pub described : (role : Role) → capacity_of old ≡ capacity → HasInfo (old (info_word d)) role → HasSpares capacity d spares role
      → IsAnchorOf capacity d spares anchor role → IsWrittenAs chained new d role anchor
      → IsDescribed old new d spares role
  described Free same info has is written = record { info_is = written.info; anchor_is = written.anchor_is ∙ is }
  described (Partial class) same info are counts written = record {
    first = counts.first;
    words = record {
      info_is = written.info ∙ before_chain (Partial class) are (info_word d) (inr (omega arith)) ∙ info;
      anchor_is = written.anchor_is ∙ counts.is;
    };
    walks = subst (λ n. Walks new (start_word n d + counts.first * words_of_class class.number) spares) (sym same)
        (walks_same chained new (start_word capacity d + counts.first * words_of_class class.number) spares
        (λ b has. inside_kept (Partial class) are written b (spares_inside capacity d spares (Partial class) are b has).0)
        (is_chained.walks (start_word capacity d + counts.first * words_of_class class.number) (λ some. counts.begins)));
  }
  described (Full class) same info none is written = record {
    info_is = written.info
        ∙ before_chain (Full class) none (info_word d) (inr (omega arith));
    anchor_is = written.anchor_is ∙ is;
  }
  described Large same info none is written = record {
    info_is = written.info ∙ before_chain Large none (info_word d) (inr (omega arith));
    anchor_is = written.anchor_is ∙ is;
  }
