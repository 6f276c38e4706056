use Rattle.heap_rule.proofs.RawLemmas.{raw_once, raw_inside, raw_blank, no_block}
use Rattle.heap_rule.proofs.view_laws.a_superblock_without_a_class_is_the_seats_alone.Goals as goal

pub returns-clause-once : goal.returns-clause-once
returns-clause-once c v has d = raw_once v has d

pub returns-clause-inside : goal.returns-clause-inside
returns-clause-inside c v has d some = raw_inside v has d some

pub returns-clause-blank : goal.returns-clause-blank
returns-clause-blank c v has word raw = raw_blank v has word raw

pub returns-clause-no_block : goal.returns-clause-no_block
returns-clause-no_block c v has word raw = no_block v has word raw
