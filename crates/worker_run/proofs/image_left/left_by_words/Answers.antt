use Rattle.std.proofs.Common.{map, slice_index}
use Rattle.crash_image.specs.Crash.{transient_words}
use Rattle.tool_ports.specs.Chances.{unasked}
use Rattle.worker_run.proofs.ChanceLemmas.{name_stays, words_given, words_come}
use Rattle.worker_run.proofs.image_left.left_by_words.Goals as goal

pub returns-clause-same_reference : goal.returns-clause-same_reference
returns-clause-same_reference g c =
    name_stays (λ s. s.chances.now) (λ s. s.chances.ghost_name) g.C.Chances.chance_gives g.C.Chances.word_gives c.args.scramble.now
    c.crash_image.new.scramble
    (map (slice_index c.crash_image.result.items) (transient_words c.args.geometry.capacity)) c.crash_image.ensures.drawn

pub returns-clause-chances : goal.returns-clause-chances
returns-clause-chances g c =
    words_come (λ s. s.chances.now) (λ s. s.chances.ghost_name) g.C.Chances.chance_gives g.C.Chances.word_gives c.args.scramble.now.chances.now
    c.args.scramble.now c.crash_image.new.scramble
    (map (slice_index c.crash_image.result.items) (transient_words c.args.geometry.capacity)) unasked c.crash_image.ensures.drawn

pub returns-clause-drawn : goal.returns-clause-drawn
returns-clause-drawn g c =
    words_given (λ s. s.chances.now) (λ s. s.chances.ghost_name) g.C.Chances.chance_gives g.C.Chances.word_gives c.args.scramble.now
    c.crash_image.new.scramble
    (map (slice_index c.crash_image.result.items) (transient_words c.args.geometry.capacity)) c.crash_image.ensures.drawn
