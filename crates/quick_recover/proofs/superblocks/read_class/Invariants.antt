use Rattle.quick_recover.proofs.superblocks.read_class.Given as goal

abbrev pub ghost-part_blocks : goal.ghost-part_blocks
ghost-part_blocks g a = g.image
