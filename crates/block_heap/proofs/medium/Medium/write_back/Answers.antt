use Rattle.std.proofs.Common.{refl}
use Rattle.line_memory.specs.Plain.{view_of}
use Rattle.line_memory.specs.View.{line_of}
use Rattle.line_memory.specs.Sound.{lines_sound}
use Rattle.block_heap.proofs.MediumLemmas.{write_back_is}
use Rattle.block_heap.proofs.medium.Medium.write_back.Goals as goal

pub returns-clause-unchanged : goal.returns-clause-unchanged
returns-clause-unchanged g c =
    (write_back_is _ (line_of c.args.word) c.args.word (view_of c.args.self.now.memory) (view_of c.write_back.new.self)
    (lines_sound c.args.self.now.memory.lines) refl c.in_ok-write_back.ensures.ok).1

pub returns-clause-ok : goal.returns-clause-ok
returns-clause-ok g c =
    (write_back_is _ (line_of c.args.word) c.args.word (view_of c.args.self.now.memory) (view_of c.write_back.new.self)
    (lines_sound c.args.self.now.memory.lines) refl c.in_ok-write_back.ensures.ok).0
