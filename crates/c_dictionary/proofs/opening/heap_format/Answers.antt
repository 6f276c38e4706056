use Rattle.std.proofs.Common.{◌≡◌, ◌⊎◌, ◌<◌, ℕ, List, inl, inr, sym, subst, ◌∙◌, arith}
use Rattle.std.proofs.lemmas.Bool.{cases_eq}
use Rattle.dict_model.specs.Links.{shards}
use Rattle.dict_model.specs.Shards.{Map, MapOf}
use Rattle.dictionary_heap.specs.Images.{current_image, CanBeRecovered}
use Rattle.c_dictionary.specs.Images.{OpensWords}
use Rattle.c_dictionary.proofs.ClosingLemmas.{format_answers, format_usage}
use Rattle.c_dictionary.proofs.EmptyLemmas.{empty_good, empty_maps, fits, only_memory, opens_empty}
use Rattle.c_dictionary.proofs.opening.heap_format.Goals as goal

pub returns-then-state-ne-CLOSED-clause-answers : goal.returns-then-state-ne-CLOSED-clause-answers
returns-then-state-ne-CLOSED-clause-answers c = format_usage

pub returns-in-Ok-clause-opened : goal.returns-in-Ok-clause-opened
returns-in-Ok-clause-opened c = λ e.
    opens_empty c.args.superblocks (omega arith) (fits c.args.superblocks (omega arith)) c.open_words.new.handle.value
    (subst (λ (ws : List ℕ). OpensWords ws c.open_words.new.handle.value) (c.deref.ensures.value ∙ c.in-Ok.ensures.ok)
    (c.open_words.ensures.opened e))

-- where it is not opened, memory ran out
pub returns-in-Ok-clause-told : goal.returns-in-Ok-clause-told
returns-in-Ok-clause-told c = elim (cases_eq c.open_words.result 0) as (λ _. c.open_words.new.fault ≡ c.args.fault.now) [
  | inl done ↦ c.open_words.ensures.untold done
  | inr not ↦
      (only_memory c.deref.result.now
      (subst CanBeRecovered (sym (c.deref.ensures.value ∙ c.in-Ok.ensures.ok)) (empty_good c.args.superblocks (omega arith)
      (fits c.args.superblocks (omega arith))))
      (subst (λ (ws : List ℕ). (shard : ℕ) → shard < shards → (map : Map) × MapOf (current_image ws) shard map)
      (sym (c.deref.ensures.value ∙ c.in-Ok.ensures.ok))
      (empty_maps c.args.superblocks (omega arith) (fits c.args.superblocks (omega arith))))
      c.open_words.result c.args.fault.now c.open_words.new.fault (c.open_words.ensures.refused not)).1
]

pub returns-in-Ok-clause-answers : goal.returns-in-Ok-clause-answers
returns-in-Ok-clause-answers c = format_answers c.open_words.result (elim (cases_eq c.open_words.result 0) as
    (λ _. (c.open_words.result ≡ 0) ⊎ (c.open_words.result ≡ 3)) [
      | inl done ↦ inl done
      | inr not ↦ inr (
          (only_memory c.deref.result.now
          (subst CanBeRecovered (sym (c.deref.ensures.value ∙ c.in-Ok.ensures.ok)) (empty_good c.args.superblocks (omega arith)
          (fits c.args.superblocks (omega arith))))
          (subst (λ (ws : List ℕ). (shard : ℕ) → shard < shards → (map : Map) × MapOf (current_image ws) shard map)
          (sym (c.deref.ensures.value ∙ c.in-Ok.ensures.ok))
          (empty_maps c.args.superblocks (omega arith) (fits c.args.superblocks (omega arith))))
          c.open_words.result c.args.fault.now c.open_words.new.fault (c.open_words.ensures.refused not)).0
          )
    ])
