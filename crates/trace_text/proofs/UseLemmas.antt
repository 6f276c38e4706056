-- The map tells how each superblock is used.
use Rattle.std.proofs.Common.{◌≡◌, ℕ, ◌+◌, ◌*◌, ◌<◌, ◌≤◌, Bool, true, false, nat_eq, List, slice_index, get_or, refl, sym, ap, ◌∙◌, subst, arith, inl, inr, eqb-true, eq-eqb}
use Rattle.std.proofs.lemmas.Bool.{cases_lt}
use Rattle.std.proofs.lemmas.List.Folds.{Any-from_list_any, list_any_at}
use Rattle.std.specs.List.{Contains, list_any}
use Rattle.heap_model.specs.declared.block.Block.{Block}
use Rattle.heap_model.specs.Blocks.{layout_of, Begins, of_class, as_large}
use Rattle.heap_model.specs.Geometry.{info_word, start_word}
use Rattle.heap_model.specs.Header.{capacity_of, used_of}
use Rattle.heap_model.specs.Recovered.{AreAscending, HasPartIn, IsFreeSuperblock}
use Rattle.heap_model.specs.Rest.{IsReady}
use Rattle.heap_model.specs.Sizes.{IsClass}
use Rattle.heap_model.proofs.PartLemmas.{cases_parts, cases_class, cases_of_part, TakesAll}
use Rattle.heap_model.proofs.SizeLemmas.{few_words}
use Rattle.trace_text.specs.HeapMap.{use_of, inside_use}
use Rattle.trace_text.specs.Laws.{IsUse, is_free, is_cut, is_first, is_behind}
use Rattle.trace_text.proofs.LawLemmas.{inside_told}
use Rattle.trace_text.proofs.MapLemmas.{use_of-free, use_of-class, use_of-large, use_of-inside}

-- a superblock that no class is written for lies in a held large block
in_large : (words : List ℕ) (held : List Block) (free : List ℕ) (d : ℕ) (b : Block) (e index w count : ℕ) → IsReady words held → Contains held b
    → list_any (λ f. nat_eq f d) free ≡ false → TakesAll (layout_of (slice_index words)) b d → HasPartIn (capacity_of (slice_index words)) b d
    → Begins (layout_of (slice_index words)) e w count → index < count
    → b.first_word ≡ start_word (capacity_of (slice_index words)) e + index * w → b.words ≡ w
    → IsUse (slice_index words) held d (use_of (slice_index words) held free d)
in_large words held free d b e index w count ready among taken takes part (of_class class info is) below at size =
    let long = takes.long in
    let few = few_words class is in
    absurd (omega arith)
in_large words held free d b e index w count ready among taken takes part (as_large n some info end zeros) below at size =
    let image = slice_index words in
    let first : index ≡ 0 = omega arith in
    let begins : b.first_word ≡ start_word (capacity_of image) e = at ∙ ap (λ i. start_word (capacity_of image) e + i * (8192 * n)) first
    ∙ omega arith in
    let part_begins = part.begins in
    let part_ends = part.ends in
    let low : e ≤ d = omega arith in
    let high : d < e + n = omega arith in
    elim (cases_lt e d) as (λ _. IsUse image held d (use_of image held free d)) [
      | inl behind ↦
          let none : image (info_word d) ≡ 0 = zeros d behind high in
          let told = use_of-inside image held free d taken (λ is. let least = is.some in omega arith, λ k more same. omega arith) in
          let found = inside_told words held b e n d ready among begins size behind high in
          subst (IsUse image held d) (sym (told ∙ ap inside_use found)) (is_behind b e n among begins size behind high)
      | inr not_behind ↦
          let same : d ≡ e = omega arith in
          let here : image (info_word d) ≡ 255 + 256 * n = ap (λ x. image (info_word x)) same ∙ info in
          subst (IsUse image held d) (sym (use_of-large image held free d n taken some here))
          (is_first b n among (begins ∙ ap (start_word (capacity_of image)) (sym same)) size)
    ]

use_by_test : (words : List ℕ) (held : List Block) (free : List ℕ) (d : ℕ) (listed : Bool) → list_any (λ f. nat_eq f d) free ≡ listed
    → IsReady words held
    → AreAscending (λ e. e) (IsFreeSuperblock (layout_of (slice_index words)) (Contains held)) free → d < used_of (slice_index words)
    → IsUse (slice_index words) held d (use_of (slice_index words) held free d)
use_by_test words held free d true listed ready ascending low =
    let image = slice_index words in
    let any = Any-from_list_any (λ f. nat_eq f d) free listed in
    let same : any.1 ≡ d = eqb-true any.1 d any.4 in
    let stands : IsFreeSuperblock (layout_of image) (Contains held) any.1 = ascending.sound any.1 (any.0, any.2, any.3) in
    subst (IsUse image held d) (sym (use_of-free image held free d listed))
    (is_free (subst (IsFreeSuperblock (layout_of image) (Contains held)) same stands))
use_by_test words held free d false taken ready ascending low =
    let image = slice_index words in
    let l = layout_of image in
    elim (cases_class (image (info_word d))) as (λ _. IsUse image held d (use_of image held free d)) [
      | inl is ↦ subst (IsUse image held d) (sym (use_of-class image held free d taken is)) (is_cut (image (info_word d)) is refl)
      | inr no_class ↦ elim (cases_parts (capacity_of image) held d) as (λ _. IsUse image held d (use_of image held free d)) [
        | inr none ↦
            let stands : IsFreeSuperblock l (Contains held) d = record { taken = low; empty = λ b is part. none b is part } in
            let at = ascending.complete d stands in
            let listed = list_any_at (λ f. nat_eq f d) free at.0 d at.1 (eq-eqb (get_or free at.0 d) d at.2) in
            absurd (cc)
        | inl some ↦
            let b : Block = some.0 in
            let is = ready.blocks b some.1 in
            elim (cases_of_part l b d is some.2) as (λ _. IsUse image held d (use_of image held free d)) [
              | inl one ↦ absurd (no_class (subst IsClass (sym one.info_is) one.is_class))
              | inr takes ↦ in_large words held free d b is.superblock is.index is.words is.count ready some.1 taken takes some.2
                  is.is_of.begins is.is_of.below is.is_of.at is.is_of.size
            ]
      ]
    ]

pub use_told : (words : List ℕ) (held : List Block) (free : List ℕ) (d : ℕ) → IsReady words held
    → AreAscending (λ e. e) (IsFreeSuperblock (layout_of (slice_index words)) (Contains held)) free → d < used_of (slice_index words)
    → IsUse (slice_index words) held d (use_of (slice_index words) held free d)
use_told words held free d = use_by_test words held free d (list_any (λ f. nat_eq f d) free) refl
