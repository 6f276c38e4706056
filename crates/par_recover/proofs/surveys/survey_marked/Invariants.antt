use Rattle.par_recover.proofs.surveys.survey_marked.Given as goal

abbrev pub ghost-part_marked : goal.ghost-part_marked
ghost-part_marked g a = g.layout

abbrev pub ghost-survey_superblock : goal.ghost-survey_superblock
ghost-survey_superblock g a = g.layout
