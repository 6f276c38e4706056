use Rattle.std.proofs.Common.{length, slice_index, arith}
use Rattle.filter_trace.proofs.TraceStepLemmas.{image_short, block_within, words_in-list}
use Rattle.filter_trace.proofs.scan.Scan.words_of.Goals as goal

pub overflow_add-result : goal.overflow_add-result
overflow_add-result c =
    let within = block_within (slice_index c.args.self.now.words.now)
    (length c.args.self.now.words.now) c.args.block c.requires.formed c.requires.block in
    let short = image_short (slice_index c.args.self.now.words.now) (length c.args.self.now.words.now) c.requires.formed in
    omega arith

pub offset_bounds-self-first : goal.offset_bounds-self-first
offset_bounds-self-first c =
    let within = block_within (slice_index c.args.self.now.words.now)
    (length c.args.self.now.words.now) c.args.block c.requires.formed c.requires.block in
    let short = image_short (slice_index c.args.self.now.words.now) (length c.args.self.now.words.now) c.requires.formed in
    omega arith

pub slice_bounds-result-end : goal.slice_bounds-result-end
slice_bounds-result-end c = block_within (slice_index c.args.self.now.words.now)
    (length c.args.self.now.words.now) c.args.block c.requires.formed c.requires.block

pub returns-clause-words : goal.returns-clause-words
returns-clause-words c = words_in-list c.args.self.now.words.now c.args.block
    (block_within (slice_index c.args.self.now.words.now) (length c.args.self.now.words.now) c.args.block c.requires.formed c.requires.block)
