use Rattle.block_heap.proofs.HeldLemmas.{same_blocks}
use Rattle.block_heap.proofs.held.HeldBlocks.divide.Goals as goal

pub returns-clause-held : goal.returns-clause-held
returns-clause-held c =
    let h = c.args.self.now in
    same_blocks h.start h.words.items h.marks.items c.args.d c.args.words c.requires.none
