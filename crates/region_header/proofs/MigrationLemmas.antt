-- A migrated image.
use Rattle.std.proofs.Common.{◌≡◌, ◌≢◌, ℕ, ◌+◌, ◌*◌, ◌<◌, inl, inr, List, length, slice_index, slice_set, refl, sym, ap, ◌∙◌, subst, All, Option, IfSome, arith}
use Rattle.std.proofs.lemmas.Bool.{eq-eqb, ne_eqb}
use Rattle.std.proofs.lemmas.List.{length-append, length-set, get_or-set_same, get_or-set_other, get_or_append_left, get_or-append-add}
use Rattle.heap_model.specs.Geometry.{version, old_version, old_capacities_fit, roots, old_image_words, kind_word}
use Rattle.heap_model.specs.Image.{Image}
use Rattle.heap_model.specs.Header.{IsWellFormed, IsOldWellFormed, HasGoodHeader, HasKindsBelow, kinds_of, capacity_of}
use Rattle.region_header.specs.Migration.{migrated, current_words, HasSameHeap}
use Rattle.region_header.proofs.KindLemmas.{stored_below}

module _ (words kinds : List ℕ) (count : length kinds ≡ roots) (old : IsOldWellFormed (8 * length words) (slice_index words)) where
  abbrev new : Image
  new = slice_index (migrated words kinds)

  long : length words ≡ old_image_words (capacity_of (slice_index words))
  long = let same = old.length_is in omega arith

  set_long : length (slice_set words 1 version) ≡ length words
  set_long = length-set words 1 version

  -- a word below the kinds
  below_kinds : (word : ℕ) → word < length words → new word ≡ slice_index (slice_set words 1 version) word
  below_kinds word below = let same = set_long in get_or_append_left (slice_set words 1 version) kinds 0 word (omega arith)

  pub other_word : (word : ℕ) → word ≢ 1 → word < length words → new word ≡ slice_index words word
  other_word word other below = below_kinds word below ∙ get_or-set_other words 1 word version 0 other

  pub new_version : new 1 ≡ version
  new_version = let is = long in below_kinds 1 (omega arith) ∙ get_or-set_same words 1 version 0 (omega arith)

  pub capacity_same : capacity_of new ≡ capacity_of (slice_index words)
  capacity_same = let is = long in other_word 2 (λ e. omega arith) (omega arith)

  pub stored_kinds : (i : ℕ) → i < roots → slice_index kinds i ≡ kinds_of new i
  stored_kinds i less =
      let is = long in
      let same = set_long in
      let capacity = capacity_same in
      let place : kind_word (capacity_of new) i ≡ length (slice_set words 1 version) + i = omega arith in
      sym (ap new place ∙ get_or-append-add (slice_set words 1 version) kinds i 0)

  pub migrated_formed : IsWellFormed (8 * length (migrated words kinds)) new
  migrated_formed =
      let is = long in
      let same = set_long in
      let capacity = capacity_same in
      let both = length-append (slice_set words 1 version) kinds in record {
        magic_is = other_word 0 (λ e. omega arith) (omega arith) ∙ old.magic_is;
        version_is = new_version;
        some = let some = old.some in omega arith;
        small = let small = old.small in omega (arith, old_capacities_fit);
        length_is = omega arith;
        state = rw (other_word 3 (λ e. omega arith) (omega arith)) old.state;
        used = let used = other_word 8 (λ e. omega arith) (omega arith) in let few = old.used in omega arith;
      }

  pub migrated_same : HasSameHeap (slice_index words) new
  migrated_same = let is = long in record {
    capacity_is = capacity_same;
    state_is = other_word 3 (λ e. omega arith) (omega arith);
    used_is = other_word 8 (λ e. omega arith) (omega arith);
    words_are = λ word other below. other_word word other (omega arith);
  }

-- which words are current
pub current_of_old : (words kinds : List ℕ) → slice_index words 1 ≡ old_version → current_words words kinds ≡ migrated words kinds
current_of_old words kinds one = rw (eq-eqb (slice_index words 1) old_version one) refl

pub current_of_new : (words kinds : List ℕ) → slice_index words 1 ≡ version → current_words words kinds ≡ words
current_of_new words kinds two = rw (ne_eqb (slice_index words 1) old_version (λ one. omega arith)) refl

-- what holds of a migrated image, and of one of the version, holds of the current words
by_version : (P : List ℕ → Type 0) (limit : Option ℕ) (words kinds : List ℕ) → HasGoodHeader limit (8 * length words) (slice_index words)
    → (IsOldWellFormed (8 * length words) (slice_index words) → P (migrated words kinds))
    → (IsWellFormed (8 * length words) (slice_index words) → HasKindsBelow limit (slice_index words) → P words) → P (current_words words kinds)
by_version P limit words kinds (inl old) of_old of_new = subst P (sym (current_of_old words kinds old.version_is)) (of_old old)
by_version P limit words kinds (inr (formed, below)) of_old of_new = subst P (sym (current_of_new words kinds formed.version_is)) (of_new formed below)

pub current_formed : (limit : Option ℕ) (words kinds : List ℕ) → length kinds ≡ roots → HasGoodHeader limit (8 * length words) (slice_index words)
    → IsWellFormed (8 * length (current_words words kinds)) (slice_index (current_words words kinds))
current_formed limit words kinds count good = by_version (λ ws. IsWellFormed (8 * length ws) (slice_index ws)) limit words kinds good
    (migrated_formed words kinds count) (λ formed below. formed)

pub current_same : (limit : Option ℕ) (words kinds : List ℕ) → length kinds ≡ roots → HasGoodHeader limit (8 * length words) (slice_index words)
    → HasSameHeap (slice_index words) (slice_index (current_words words kinds))
current_same limit words kinds count good = by_version (λ ws. HasSameHeap (slice_index words) (slice_index ws)) limit words kinds good
    (migrated_same words kinds count)
    (λ formed below. record { capacity_is = refl; state_is = refl; used_is = refl; words_are = λ word other less. refl })

pub current_kinds : (words kinds : List ℕ) → length kinds ≡ roots → IsOldWellFormed (8 * length words) (slice_index words) → (i : ℕ) → i < roots
    → kinds_of (slice_index (current_words words kinds)) i ≡ slice_index kinds i
current_kinds words kinds count old i less = subst (λ ws. kinds_of (slice_index ws) i ≡ slice_index kinds i)
    (sym (current_of_old words kinds old.version_is))
    (sym (stored_kinds words kinds count old i less))

pub current_below : (limit : Option ℕ) (words kinds : List ℕ) → length kinds ≡ roots → HasGoodHeader limit (8 * length words) (slice_index words)
    → IfSome limit (λ most. All (λ kind. kind < most) kinds) → HasKindsBelow limit (slice_index (current_words words kinds))
current_below limit words kinds count good small = by_version (λ ws. HasKindsBelow limit (slice_index ws)) limit words kinds good
    (λ old. stored_below limit (slice_index (migrated words kinds)) kinds count (stored_kinds words kinds count old) small)
    (λ formed below. below)
