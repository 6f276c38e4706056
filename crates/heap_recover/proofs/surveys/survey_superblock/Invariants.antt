use Rattle.heap_recover.proofs.surveys.survey_superblock.Given as goal

abbrev pub ghost-part_blocks : goal.ghost-part_blocks
ghost-part_blocks g a = g.layout
