-- A word of the core that is read is the value of its cell.
use Rattle.std.proofs.Common.{◌≡◌, ℕ, ◌+◌, true, get_or, length, ap, sym, ◌∙◌, arith}
use Rattle.heap_model.specs.Geometry.{image_words}
use Rattle.crash_core.specs.declared.state.CoreState.{CoreState}
use Rattle.core_model.specs.Cells.{Cell, is_cell, index_of}
use Rattle.core_model.specs.Memory.{volatile_at, durable_at, table_length}
use Rattle.crash_core.specs.Standing.{IsCore, memory_at}
use Rattle.core_model.proofs.PlaceLemmas.{index_within}
use Rattle.seat_state.proofs.WordLemmas.{entry_is, read_is}

-- how long its lists are
pub record Lengths (c : CoreState) : Type 0 where
  pub words : length c.words.items ≡ table_length c.geometry.capacity
  pub superblocks : length c.superblocks.items ≡ c.geometry.capacity
  pub blocks : length c.blocks.items ≡ image_words c.geometry.capacity

pub lengths : (c : CoreState) → IsCore c → Lengths c
lengths c core = let k = core.keeps in let cap = k.capacity in let l = k.sound.long in let s = k.superblocks in let b = k.blocks in
    record { words = omega arith; superblocks = omega arith; blocks = omega arith }

pub reads_volatile : (c : CoreState) (cell : Cell) (n found : ℕ) → IsCore c → is_cell c.geometry.capacity cell ≡ true → n ≡ index_of cell
    → found ≡ get_or c.words.items n found → found ≡ (memory_at c).volatile cell
reads_volatile c cell n found core is here found_is = sym (read_is c.geometry.capacity c.words.items (volatile_at cell) is
    ∙ entry_is c.words.items (index_of cell) 0 found (let l = (lengths c core).words in let w = index_within c.geometry.capacity cell is in omega arith)
    ∙ ap (λ x. get_or c.words.items x found) (sym here) ∙ sym found_is)

pub reads_durable : (c : CoreState) (cell : Cell) (n found : ℕ) → IsCore c → is_cell c.geometry.capacity cell ≡ true
    → n ≡ image_words c.geometry.capacity + index_of cell → found ≡ get_or c.words.items n found → found ≡ (memory_at c).durable cell
reads_durable c cell n found core is here found_is = sym (read_is c.geometry.capacity c.words.items (durable_at cell) is
    ∙ entry_is c.words.items (image_words c.geometry.capacity + index_of cell) 0 found (let l = (lengths c core).words in
    let w = index_within c.geometry.capacity cell is in omega arith)
    ∙ ap (λ x. get_or c.words.items x found) (sym here) ∙ sym found_is)
