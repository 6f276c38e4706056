use Rattle.std.proofs.Common.{◌≡◌, ◌++◌, slice_index}
use Rattle.std.specs.List.{flat_map, range_with_len}
use Rattle.std.specs.String.{string_bytes}
use Rattle.trace_text.specs.HeapMap.{used_line, superblock_line}
use Rattle.trace_text.proofs.WalkLemmas.{IsWalkedTo}
use Rattle.trace_text.proofs.map.map_of_image.Given as goal

-- the lines of the superblocks before this one are written, and the free ones of these are walked past
abbrev pub invariant-loop-d : goal.invariant-loop-d
invariant-loop-d l = record {
  walked : IsWalkedTo l.free l.next l.d;
  written : string_bytes l.text ≡ used_line (slice_index l.words) l.free ++ flat_map (superblock_line (slice_index l.words) l.held l.free)
      (range_with_len 0 l.d);
}
