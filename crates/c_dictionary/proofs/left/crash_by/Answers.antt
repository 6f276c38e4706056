use Rattle.std.proofs.Common.{map, slice_index, subst, ◌∙◌, arith}
use Rattle.crash_image.specs.Crash.{GivesAll, transient_words}
use Rattle.tool_ports.specs.Seeded.{GivesWord}
use Rattle.c_dictionary.proofs.MixLemmas.{word_read}
use Rattle.c_dictionary.proofs.left.crash_by.Goals as goal

pub returns-clause-drawn : goal.returns-clause-drawn
returns-clause-drawn c =
    let out = c.left_by_crash.result.items in
    let read = word_read c.args.words.items 2 c.index.result.now (let long = c.requires.long in omega arith) c.index.ensures in
    subst (λ n. GivesAll GivesWord c.args.chances.now (map (slice_index out) (transient_words n)) c.left_by_crash.new.chances)
    (c.new-geometry.ensures ∙ read) c.left_by_crash.ensures.drawn
