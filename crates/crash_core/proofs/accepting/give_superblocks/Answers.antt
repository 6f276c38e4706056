use Rattle.std.proofs.Common.{rules}
use Rattle.std.proofs.lemmas.List.Edits.{map_over_more}
use Rattle.std.proofs.lemmas.List.{take_all, drop_all}
use Rattle.crash_core.specs.Standing.{superblock_given}
use Rattle.crash_core.proofs.accepting.give_superblocks.Goals as goal

pub loop-d-preserved : goal.loop-d-preserved
loop-d-preserved c = search (rules, map_over_more (superblock_given c.args.from c.args.to))

pub returns : goal.returns
returns c = search (rules, take_all, drop_all)
