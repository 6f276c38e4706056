-- A block has with the seat that accepted it what it had with the one that offered it.
use Rattle.std.proofs.Common.{ℕ, subst, ◌∙◌}
use Rattle.heap_model.specs.declared.block.Block.{Block}
use Rattle.heap_model.specs.Blocks.{IsIn}
use Rattle.heap_seat.specs.Handing.{ComesWith, Contents, GoesWith}
use Rattle.heap_seat.specs.View.{View}
use Rattle.heap_seat.specs.Words.{KeepsWord, MayBe}

pub word_comes : (b : Block) (c : Contents) (v w : View) (word : ℕ) → GoesWith b c v → ComesWith b c w → IsIn b word → KeepsWord v w word
word_comes b c v w word goes comes within = let keeps = goes.words word within in record {
  volatile = λ value is. comes.volatile word within ∙ keeps.volatile value is;
  durable = λ value may. keeps.durable value (subst (λ o. MayBe o value) (comes.durable word within) may);
}
