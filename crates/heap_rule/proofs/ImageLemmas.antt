-- The images of a closed heap are those of the words of its table.
use Rattle.std.proofs.Common.{◌≡◌, ℕ, ◌+◌, inl, inr, nat_lt, List, [], ◌∷◌, ◌++◌, get_or, length, slice_index, ap, sym, ◌∙◌, lt-ltb, get_or-append-add, arith}
use Rattle.std.proofs.lemmas.Bool.{cases_lt}
use Rattle.std.proofs.lemmas.List.{get_or_append_left, get_or_past}
use Rattle.heap_model.specs.Geometry.{image_words}
use Rattle.core_model.specs.Held.{volatile_image, durable_image}
use Rattle.core_model.proofs.PlaceLemmas.{pick, skip, not-lt}

module _ (c : ℕ) (now kept : List ℕ) (drawn : ℕ) (long_now : length now ≡ image_words c) (long_kept : length kept ≡ image_words c) where
  pub volatile_is : volatile_image c (now ++ (kept ++ (drawn ∷ []))) ≡ slice_index now
  volatile_is = λ j word. at word j where
    at : (word : ℕ) → volatile_image c (now ++ (kept ++ (drawn ∷ []))) word ≡ slice_index now word
    at word = elim (cases_lt word (image_words c)) [
      | inl inside ↦ pick (nat_lt word (image_words c)) _ _ (lt-ltb word (image_words c) inside)
          ∙ get_or_append_left now (kept ++ (drawn ∷ [])) 0 word (omega arith)
      | inr past ↦ skip (nat_lt word (image_words c)) _ _ (not-lt word (image_words c) past) ∙ sym (get_or_past now word 0 (omega arith))
    ]

  pub durable_is : durable_image c (now ++ (kept ++ (drawn ∷ []))) ≡ slice_index kept
  durable_is = λ j word. at word j where
    at : (word : ℕ) → durable_image c (now ++ (kept ++ (drawn ∷ []))) word ≡ slice_index kept word
    at word = elim (cases_lt word (image_words c)) [
      | inl inside ↦ pick (nat_lt word (image_words c)) _ _ (lt-ltb word (image_words c) inside)
          ∙ ap (λ n. get_or (now ++ (kept ++ (drawn ∷ []))) (n + word) 0) (sym long_now) ∙ get_or-append-add now (kept ++ (drawn ∷ [])) word 0
          ∙ get_or_append_left kept (drawn ∷ []) 0 word (omega arith)
      | inr past ↦ skip (nat_lt word (image_words c)) _ _ (not-lt word (image_words c) past) ∙ sym (get_or_past kept word 0 (omega arith))
    ]
