use Rattle.std.proofs.Common.{arith}
use Rattle.dictionary.proofs.LeadLemmas.{lies_in}
use Rattle.dictionary.proofs.walk.Walk.word.Goals as goal

pub overflow_add-result : goal.overflow_add-result
overflow_add-result c =
    let lies = lies_in c.args.self.now.scan.words.now c.args.self.now.scan.directory.now c.args.self.now.origins.now c.args.block
    c.requires.read c.requires.block in omega arith

pub offset_bounds-self-block : goal.offset_bounds-self-block
offset_bounds-self-block c =
    let lies = lies_in c.args.self.now.scan.words.now c.args.self.now.scan.directory.now c.args.self.now.origins.now c.args.block
    c.requires.read c.requires.block in omega arith

pub bounds-self-block : goal.bounds-self-block
bounds-self-block c =
    let lies = lies_in c.args.self.now.scan.words.now c.args.self.now.scan.directory.now c.args.self.now.origins.now c.args.block
    c.requires.read c.requires.block in omega arith
