use Rattle.std.proofs.Common.{map, slice_index}
use Rattle.crash_image.specs.Crash.{transient_words}
use Rattle.tool_ports.specs.Chances.{unasked}
use Rattle.worker_run.proofs.ChanceLemmas.{name_stays, words_given, words_come}
use Rattle.image_run.proofs.TextLemmas.{if_answer}
use Rattle.image_run.proofs.replaying.left_by_words.Goals as goal

pub returns-clause-same_reference : goal.returns-clause-same_reference
returns-clause-same_reference g c =
    name_stays (λ s. s.chances.now) (λ s. s.chances.ghost_name) g.C.Chances.chance_gives g.C.Chances.word_gives c.args.scramble.now c.image.new.scramble
    c.image.ensures.asked.0 c.image.ensures.asked.1

pub returns-clause-chances : goal.returns-clause-chances
returns-clause-chances g c =
    words_come (λ s. s.chances.now) (λ s. s.chances.ghost_name) g.C.Chances.chance_gives g.C.Chances.word_gives c.args.scramble.now.chances.now
    c.args.scramble.now c.image.new.scramble
    c.image.ensures.asked.0 unasked c.image.ensures.asked.1

pub returns-clause-drawn : goal.returns-clause-drawn
returns-clause-drawn g c =
    if_answer _ _ c.image.result c.image.ensures.drawn (λ left drawn k s stands.
    words_given (λ s. s.chances.now) (λ s. s.chances.ghost_name) g.C.Chances.chance_gives g.C.Chances.word_gives c.args.scramble.now
    c.image.new.scramble
    (map (slice_index left.items) (transient_words k.capacity)) (drawn k s stands))
