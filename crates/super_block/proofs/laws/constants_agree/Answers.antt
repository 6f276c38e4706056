use Rattle.super_block.proofs.ConstantLemmas.{largest_capacity_is, longest_image_is}
use Rattle.heap_model.proofs.EmptyLemmas.{first_kind}
use Rattle.super_block.proofs.laws.constants_agree.Goals as goal

pub returns-clause-largest_capacity : goal.returns-clause-largest_capacity
returns-clause-largest_capacity c = largest_capacity_is

pub returns-clause-longest_image : goal.returns-clause-longest_image
returns-clause-longest_image c = longest_image_is

pub returns-clause-first_kinds : goal.returns-clause-first_kinds
returns-clause-first_kinds c = first_kind
