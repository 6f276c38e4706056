-- Words of which some are replaced by those that loads saw.
use Rattle.std.proofs.Common.{◌≡◌, ℕ, ◌<◌, ◌⊎◌, inl, inr, List, length, get_or, set, refl, subst, ◌∙◌, length-set, sym}
use Rattle.std.specs.Prelude.{slice_index}
use Rattle.std.proofs.lemmas.Bool.{cases_eq}
use Rattle.std.proofs.lemmas.List.{get_or_default, get_or-set_same, get_or-set_other}
use Rattle.c_dictionary.specs.Images.{IsMixing}

pub mixing_none : (now old : List ℕ) → IsMixing now old old
mixing_none now old = record { long = refl; mixes = record { each = λ word. inr refl } }

pub mixing_one : (now old new : List ℕ) (i x : ℕ) → i < length new → (x ≡ slice_index now i) ⊎ (x ≡ slice_index new i)
    → IsMixing now old new → IsMixing now old (set new i x)
mixing_one now old new i x below picked is = record {
  long = length-set new i x ∙ is.long;
  mixes = record {
    each = λ word. elim (cases_eq word i) as (λ _. (slice_index (set new i x) word ≡ slice_index now word)
        ⊎ (slice_index (set new i x) word ≡ slice_index old word)) [
          | inl same ↦ subst (λ w. (slice_index (set new i x) w ≡ slice_index now w) ⊎ (slice_index (set new i x) w ≡ slice_index old w))
              (sym same) (at_i picked (is.mixes.each i))
          | inr other ↦ elsewhere word (get_or-set_other new i word x 0 other) (is.mixes.each word)
        ];
  };
} where
  here : slice_index (set new i x) i ≡ x
  here = get_or-set_same new i x 0 below

  at_i : (x ≡ slice_index now i) ⊎ (x ≡ slice_index new i) → (slice_index new i ≡ slice_index now i) ⊎ (slice_index new i ≡ slice_index old i)
      → (slice_index (set new i x) i ≡ slice_index now i) ⊎ (slice_index (set new i x) i ≡ slice_index old i)
  at_i (inl seen) was = inl (here ∙ seen)
  at_i (inr kept) (inl seen) = inl (here ∙ kept ∙ seen)
  at_i (inr kept) (inr left) = inr (here ∙ kept ∙ left)

  elsewhere : (word : ℕ) → slice_index (set new i x) word ≡ slice_index new word
      → (slice_index new word ≡ slice_index now word) ⊎ (slice_index new word ≡ slice_index old word)
      → (slice_index (set new i x) word ≡ slice_index now word) ⊎ (slice_index (set new i x) word ≡ slice_index old word)
  elsewhere word same (inl seen) = inl (same ∙ seen)
  elsewhere word same (inr left) = inr (same ∙ left)

-- a word that was read within the words
pub word_read : (words : List ℕ) (i x : ℕ) → i < length words → x ≡ get_or words i x → x ≡ slice_index words i
word_read words i x below is = is ∙ get_or_default words i x 0 below
