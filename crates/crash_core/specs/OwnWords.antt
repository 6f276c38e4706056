-- The words a store to which changes nothing else.
use Rattle.core_model.specs.Cells.{Cell, info_cell, root_cell}

-- a store to it changes nothing else
abbrev pub IsPlain : Cell → Type 0
IsPlain (info_cell d) = Unit {0}
IsPlain (root_cell n) = Unit {0}
IsPlain cell = ⊥
