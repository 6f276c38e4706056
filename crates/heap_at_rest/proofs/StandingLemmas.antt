-- How each superblock stands: untaken, free, partial, fully kept, or in a large block.
use Rattle.std.proofs.Common.{ℕ, zero, suc, ◌+◌, ◌*◌, ◌<◌, ◌≤◌, ◌⊎◌, inl, inr, List, refl, subst, arith}
use Rattle.std.proofs.lemmas.Bool.{cases_lt}
use Rattle.heap_model.specs.declared.block.Block.{Block}
use Rattle.heap_model.specs.Geometry.{start_word}
use Rattle.heap_model.specs.Sizes.{IsClass, words_of_class, blocks_of}
use Rattle.heap_model.specs.Blocks.{Layout}
use Rattle.heap_model.specs.Recovered.{IsFreeSuperblock, IsBlockOfClass, AreAscending}
use Rattle.heap_model.specs.Recovery.{HoldsKept, IsSpare, IsPartial, IsFullyKept, IsInLarge}
use Rattle.heap_model.proofs.PartLemmas.{cases_parts, cases_class}
use Rattle.heap_at_rest.proofs.PartLemmas.{cases_held, same_index}

-- how a superblock stands
pub data Standing (l : Layout) (kept : Block → Type 0) (d : ℕ) : Type 0 where
  is_untaken : l.used ≤ d → Standing l kept d
  is_free : IsFreeSuperblock l kept d → Standing l kept d
  is_partial : (class : ℕ) → IsClass class → IsPartial l kept class d → Standing l kept d
  is_fully_kept : (class : ℕ) → IsClass class → IsFullyKept l kept class d → Standing l kept d
  is_in_large : IsInLarge l kept d → Standing l kept d

-- of the first blocks of a superblock of the class, one is not kept, or all are
cases_spare : (l : Layout) (kept : Block → Type 0) (class d n : ℕ) → ((b : Block) → kept b ⊎ (kept b → ⊥)) → n ≤ blocks_of class
    → ((w : ℕ) × IsSpare l kept class d w) ⊎ ((index : ℕ) (b : Block) → index < n → IsBlockOfClass l.capacity class d index b → kept b)
cases_spare l kept class d zero decide within = inr (λ index b less is. absurd (omega arith))
cases_spare l kept class d (suc n) decide within = elim (cases_spare l kept class d n decide (omega arith)) [
  | inl found ↦ inl found
  | inr before ↦
      let here : Block = record { first_word = start_word l.capacity d + n * words_of_class class; words = words_of_class class } in
      let is_here : IsBlockOfClass l.capacity class d n here = record { below = omega arith; at = refl; size = refl } in
      elim (decide here) [
        | inl is_kept ↦ inr (λ index b less is. elim (cases_lt index n) as (λ _. kept b) [
          | inl earlier ↦ before index b earlier is
          | inr last ↦ subst kept (same_index l.capacity class d n index here b (omega arith) is_here is) is_kept
        ])
        | inr unkept ↦ inl (
          start_word l.capacity d + n * words_of_class class,
          record {
            index = n;
            block = here;
            is_block = is_here;
            first = refl;
            unkept = unkept;
          },
        )
      ]
]

-- where the kept blocks are those of a list, a block is kept or not
pub cases_kept : (l : Layout) (kept : Block → Type 0) (held : List Block) (b : Block) → AreAscending (λ (x : Block). x.first_word) kept held
    → kept b ⊎ (kept b → ⊥)
cases_kept l kept held b are = elim (cases_held held b) [
  | inl is_held ↦ inl (are.sound b is_held)
  | inr unheld ↦ inr
      (λ is. unheld (are.complete b is))
]

-- each superblock stands in one of these ways
pub cases_superblock : (l : Layout) (kept : Block → Type 0) (held : List Block) (d : ℕ) → AreAscending (λ (b : Block). b.first_word) kept held
    → Standing l kept d
cases_superblock l kept held d are = elim (cases_lt d l.used) as (λ _. Standing l kept d) [
  | inr untaken ↦ is_untaken untaken
  | inl taken ↦ elim (cases_parts l.capacity held d) as (λ _. Standing l kept d) [
    | inr none ↦ is_free (record { taken = taken; empty = λ b is part. none b (are.complete b is) part })
    | inl some ↦
        let holds : HoldsKept l kept d = record { block = some.0; is_kept = are.sound some.0 some.1; part = some.2 } in
        elim (cases_class (l.info d)) as (λ _. Standing l kept d) [
          | inr no_class ↦ is_in_large (record { taken = taken; holds = holds; no_class = no_class })
          | inl is ↦ elim (cases_spare l kept (l.info d) d (blocks_of (l.info d)) (λ b. cases_kept l kept held b are) (omega arith)) as
              (λ _. Standing l kept d) [
                | inl spare ↦ is_partial (l.info d) is (record { taken = taken; info_is = refl; holds = holds; spare = spare })
                | inr all ↦ is_fully_kept (l.info d) is (record { taken = taken; info_is = refl; all = λ index b of. all index b of.below of })
              ]
        ]
  ]
]
