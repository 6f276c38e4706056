-- What a cut leaves of a seat's view.
use Rattle.std.specs.Prelude.{ℕ, ◌+◌, set}
use Rattle.core_model.specs.Effects.{class_blocks, cleared, trimmed}
use Rattle.heap_model.specs.Counting.{without}
use Rattle.core_model.specs.View.{View}

-- all blocks of superblock d, whose blocks are made for the class, are in the cache of the class
abbrev pub cut_for : ℕ → View → ℕ → View
cut_for class v d = trimmed (record v {
  caches = set v.caches class (class_blocks v.setup.capacity class d);
  cutting = without d v.cutting;
  seen_anchor = cleared d 1 v.seen_anchor;
  cuts = v.cuts + 1;
})
