use Rattle.crash_core.proofs.CrashLemmas.{copied_long, copied_image}
use Rattle.crash_core.proofs.crash.durable_words.Goals as goal

pub returns-clause-length : goal.returns-clause-length
returns-clause-length c =
    copied_long c.args.geometry.capacity c.length-words.result c.args.table.now c.new-durable.result.items c.extend_from_slice.new.self.items
    c.new-durable.ensures.items c.length-words.ensures c.requires c.in_ok-extend_from_slice.ensures.items

pub returns-clause-image : goal.returns-clause-image
returns-clause-image c =
    copied_image c.args.geometry.capacity c.length-words.result c.args.table.now c.new-durable.result.items c.extend_from_slice.new.self.items
    c.new-durable.ensures.items c.length-words.ensures c.requires c.in_ok-extend_from_slice.ensures.items
