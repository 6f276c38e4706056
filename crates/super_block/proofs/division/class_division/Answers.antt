use Rattle.super_block.proofs.division.class_division.Goals as goal

pub returns-clause-words : goal.returns-clause-words
returns-clause-words c = c.block_words.ensures.words
