use Rattle.std.proofs.Common.{slice_index}
use Rattle.heap_model.specs.Blocks.{layout_of}
use Rattle.super_block.proofs.DirectoryLemmas.{all_have_room}
use Rattle.super_block.proofs.directory.Directory.of.Goals as goal

pub invariant_of-result : goal.invariant_of-result
invariant_of-result c = record {
  small = c.requires.small;
  room = all_have_room (layout_of (slice_index c.args.words.now))
      c.loop-d.divisions.items c.loop-d.d c.requires.used c.loop-d.auto.d-end c.loop-d.invariant;
}
