use Rattle.std.proofs.Common.{slice_index}
use Rattle.heap_model.specs.Blocks.{layout_of}
use Rattle.filter_trace.proofs.TraceStepLemmas.{leads_by_name, outside_by_name, outside_by_alien}
use Rattle.filter_trace.proofs.scan.Scan.target_of.Goals as goal

pub returns-in-Some : goal.returns-in-Some
returns-in-Some c = leads_by_name (slice_index c.args.self.now.words.now) c.args.word c.in-At.offset c.in-Some.block c.in-At.ensures.meaning
    (c.in-Some.ensures.some (layout_of (slice_index c.args.self.now.words.now)) c.requires)

pub returns-in-None : goal.returns-in-None
returns-in-None c = outside_by_name (slice_index c.args.self.now.words.now) c.args.word c.in-At.offset c.in-At.ensures.meaning
    (c.in-None.ensures.none (layout_of (slice_index c.args.self.now.words.now)) c.requires)

pub returns-in-Alien : goal.returns-in-Alien
returns-in-Alien c = outside_by_alien (slice_index c.args.self.now.words.now) c.args.word c.in-Alien.ensures.meaning
