-- Any image made one that may be read: where its value may not, it gets what loads see.
use Rattle.std.proofs.Common.{◌≡◌, ℕ, ◌⊎◌, inl, inr, Option, None, Some, refl}
use Rattle.std.proofs.lemmas.Bool.{cases_eq}
use Rattle.heap_model.specs.Image.{Image}
use Rattle.heap_seat.specs.View.{View}
use Rattle.heap_seat.specs.Words.{MayBe, MayRead, MixesOwn}
use Rattle.dict_requests.proofs.TrailLemmas.{now_image, now_may}

-- whether a word may have a value is decided
may_be_or_not : (known : Option ℕ) (x : ℕ) → MayBe known x ⊎ (MayBe known x → ⊥)
may_be_or_not None x = inl tt
may_be_or_not (Some y) x = cases_eq x y

pub reads_or_not : (v : View) (word x : ℕ) → MayRead v word x ⊎ (MayRead v word x → ⊥)
reads_or_not v word x = elim (may_be_or_not (v.volatile word) x) as (λ _. MayRead v word x ⊎ (MayRead v word x → ⊥)) [
  | inl seen ↦ inl (inl seen)
  | inr unseen ↦ elim (may_be_or_not (v.durable word) x) as (λ _. MayRead v word x ⊎ (MayRead v word x → ⊥)) [
    | inl left ↦ inl (inr left)
    | inr unleft ↦ inr (λ may. elim may as (λ _. ⊥) [ inl a ↦ unseen a | inr b ↦ unleft b ])
  ]
]

-- the one value or the other
abbrev pub pick : {A : Type 0} → A ⊎ (A → ⊥) → ℕ → ℕ → ℕ
pick (inl a) x y = x
pick (inr un) x y = y

module _ (v : View) where
  abbrev pub readable : Image → Image
  readable image word = pick (reads_or_not v word (image word)) (image word) (now_image v word)

  pub readable_may : (image : Image) (word : ℕ) → MayRead v word (readable image word)
  readable_may image word = by_case (reads_or_not v word (image word)) where
    by_case : (d : MayRead v word (image word) ⊎ (MayRead v word (image word) → ⊥)) → MayRead v word (pick d (image word) (now_image v word))
    by_case (inl may) = may
    by_case (inr un) = now_may v word

  pub readable_mixes : (image : Image) → MixesOwn v (readable image)
  readable_mixes image = record { each = λ word own. readable_may image word }

  pub readable_same : (image : Image) (word : ℕ) → MayRead v word (image word) → image word ≡ readable image word
  readable_same image word may = by_case (reads_or_not v word (image word)) where
    by_case : (d : MayRead v word (image word) ⊎ (MayRead v word (image word) → ⊥)) → image word ≡ pick d (image word) (now_image v word)
    by_case (inl is) = refl
    by_case (inr un) = absurd (un may)
