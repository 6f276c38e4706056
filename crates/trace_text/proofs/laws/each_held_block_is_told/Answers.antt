use Rattle.trace_text.proofs.LawLemmas.{block_counted, class_begins_in, class_index, inside_told}
use Rattle.trace_text.proofs.laws.each_held_block_is_told.Goals as goal

pub returns-clause-counted : goal.returns-clause-counted
returns-clause-counted c = block_counted

pub returns-clause-begins : goal.returns-clause-begins
returns-clause-begins c = class_begins_in

pub returns-clause-index : goal.returns-clause-index
returns-clause-index c = class_index

pub returns-clause-inside : goal.returns-clause-inside
returns-clause-inside c = inside_told
