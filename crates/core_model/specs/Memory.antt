-- The memory that seats share: two values of each word, and the ticket word; and how the words of the shared table stand for it.
use Rattle.std.specs.Prelude.{ℕ, ◌+◌, ◌*◌, List, cond, get_or}
use Rattle.heap_model.specs.Geometry.{image_words}
use Rattle.core_model.specs.Cells.{Cell, used_cell, head_cell, info_cell, anchor_cell, link_cell, data_cell, same_cell, is_cell, index_of}

-- two values of each word, and the ticket word
pub record Memory : Type 0 where
  -- what loads see, and what a crash leaves
  pub volatile : Cell → ℕ
  pub durable : Cell → ℕ
  -- how many tickets were drawn, which is the next ticket
  pub drawn : ℕ

-- the mark below which superblocks have been taken
abbrev pub used : Memory → ℕ
used m = m.volatile used_cell

-- the head of a list
abbrev pub head : Memory → ℕ → ℕ
head m list = m.volatile (head_cell list)

-- what superblock d holds
abbrev pub info : Memory → ℕ → ℕ
info m d = m.volatile (info_cell d)

-- the anchor of superblock d
abbrev pub anchor : Memory → ℕ → ℕ
anchor m d = m.volatile (anchor_cell d)

-- the link of descriptor d in a list
abbrev pub link : Memory → ℕ → ℕ
link m d = m.volatile (link_cell d)

-- where the first word of a block leads
abbrev pub next : Memory → ℕ → ℕ
next m word = m.volatile (data_cell word)

-- what is durable of the mark
abbrev pub durable_used : Memory → ℕ
durable_used m = m.durable used_cell

-- what is durable of an info
abbrev pub durable_info : Memory → ℕ → ℕ
durable_info m d = m.durable (info_cell d)

-- one value of one word, or the ticket word: what an atomic step works on
pub data StepPlace : Type 0 where
  volatile_at : Cell → StepPlace
  durable_at : Cell → StepPlace
  tickets : StepPlace

-- the number that stands there
abbrev pub read : Memory → StepPlace → ℕ
read m (volatile_at cell) = m.volatile cell
read m (durable_at cell) = m.durable cell
read m tickets = m.drawn

-- the values, but another one of one cell
abbrev pub with_cell : (Cell → ℕ) → Cell → ℕ → Cell → ℕ
with_cell f at value cell = cond (same_cell cell at) value (f cell)

-- the memory with the number there
abbrev pub write : Memory → StepPlace → ℕ → Memory
write m (volatile_at cell) value = record { volatile = with_cell m.volatile cell value; durable = m.durable; drawn = m.drawn }
write m (durable_at cell) value = record { volatile = m.volatile; durable = with_cell m.durable cell value; drawn = m.drawn }
write m tickets value = record { volatile = m.volatile; durable = m.durable; drawn = value }

-- the shared table has the volatile words of the image, then the durable ones, then the ticket word
abbrev pub table_length : ℕ → ℕ
table_length capacity = 2 * image_words capacity + 1

-- the index in the table
abbrev pub table_index : ℕ → StepPlace → ℕ
table_index capacity (volatile_at cell) = index_of cell
table_index capacity (durable_at cell) = image_words capacity + index_of cell
table_index capacity tickets = 2 * image_words capacity

-- the memory that the words of a table are; a cell that the image has not reads 0
abbrev pub memory_of : ℕ → List ℕ → Memory
memory_of capacity words = record {
  volatile = λ cell. cond (is_cell capacity cell) (get_or words (index_of cell) 0) 0;
  durable = λ cell. cond (is_cell capacity cell) (get_or words (image_words capacity + index_of cell) 0) 0;
  drawn = get_or words (2 * image_words capacity) 0;
}
