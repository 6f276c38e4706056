use Rattle.std.proofs.Common.{slice_index}
use Rattle.quick_recover.proofs.superblocks.read_superblock.Given as goal

abbrev pub ghost-read_class : goal.ghost-read_class
ghost-read_class a = slice_index a.words.now
