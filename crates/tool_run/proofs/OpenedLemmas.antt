-- What a heap gives that was opened over a heap at rest, in words on the heap at rest.
use Rattle.std.proofs.Common.{◌≡◌, ℕ, ◌+◌, ◌^◌, ◌-◌, ◌<◌, ◌≤◌, List, Contains, sym, ap, subst, arith}
use Rattle.heap_model.specs.declared.block.Block.{Block}
use Rattle.line_memory.specs.View.{View}
use Rattle.block_heap.specs.Closing.{IsOpened}
use Rattle.block_heap.specs.Requests.{Drains}
use Rattle.block_heap.specs.SeqState.{SeqState}
use Rattle.block_heap.proofs.ReopenLemmas.{opened_drains}
use Rattle.tool_run.specs.Recovering.{AreGiven}

module _ (words : List ℕ) (held : List Block) (budget : ℕ) (s : SeqState) (is : IsOpened words held budget s) where
  -- what it gives is what the heap at rest must give
  pub given_opened : (class : ℕ) (offsets : List ℕ) → Drains class offsets s → AreGiven words held class offsets
  given_opened class offsets drains = record {
    sound = λ offset has. let at = drains.sound offset has in record {
      block = at.0;
      is_given = (opened_drains words held budget s is class at.0).0 at.2;
      at = at.1;
    };
    complete = λ offset of. subst (Contains offsets) (sym of.at) (drains.complete of.block
        ((opened_drains words held budget s is class of.block).1 of.is_given));
    once = drains.once;
  }

  -- no ticket that it draws in fewer than 2^32 is at or above the greatest budget
  pub not_stopped : (step : ℕ) → budget ≡ 2 ^ 40 - 1 → s.parts.words.budget ≤ step → step < s.parts.words.drawn + 2 ^ 32 → ⊥
  not_stopped step greatest above few =
      let limit : s.parts.words.budget ≡ budget = ap (λ (v : View). v.budget) is.opens.words_are in
      let drawn : s.parts.words.drawn ≡ 0 = ap (λ (v : View). v.drawn) is.opens.words_are in
      omega arith
