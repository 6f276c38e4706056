-- What a word is, as far as it may be a seat's own.
use Rattle.std.specs.Prelude.{◌≡◌, ℕ, ◌<◌, ◌≤◌}
use Rattle.heap_model.specs.Geometry.{roots, start_word, superblocks_end}
use Rattle.seat_state.specs.declared.part.Part.{Part}
use Rattle.seat_state.specs.declared.part.Part.TheVariants as part
use Rattle.core_model.specs.Cells.{info_cell, anchor_cell, link_cell, root_cell, data_cell, cell_at}
use Rattle.core_model.specs.View.{View, times_own}

-- the word is the cell of that part
abbrev pub IsPart : ℕ → ℕ → Part → Type 0
IsPart capacity word part.Shared = (v : View) → times_own v (cell_at capacity word) ≡ 0
IsPart capacity word (part.Root i) = (cell_at capacity word ≡ root_cell i) × (i < roots)
IsPart capacity word (part.Info d) = (cell_at capacity word ≡ info_cell d) × (d < capacity)
IsPart capacity word (part.Anchor d) = (cell_at capacity word ≡ anchor_cell d) × (d < capacity)
IsPart capacity word (part.Link d) = (cell_at capacity word ≡ link_cell d) × (d < capacity)
IsPart capacity word (part.Data w) = (cell_at capacity word ≡ data_cell w) × (w ≡ word)
    × (start_word capacity 0 ≤ w) × (w < superblocks_end capacity)
