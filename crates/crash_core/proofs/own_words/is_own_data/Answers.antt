use Rattle.std.proofs.Common.{◌+◌, ◌-◌, ◌*◌, ◌/◌, refl, sym, ap, ◌∙◌, arith}
use Rattle.heap_model.specs.Sizes.{words_of_class}
use Rattle.seat_state.proofs.DecisionLemmas.{refused}
use Rattle.seat_state.proofs.WordLemmas.{entry_there}
use Rattle.crash_core.proofs.OwnDecision.{data_whole, data_unclassed, data_block}
use Rattle.crash_core.proofs.StandingLemmas.{seat_is}
use Rattle.crash_core.proofs.own_words.is_own_data.Goals as goal

pub returns-then-has_words : goal.returns-then-has_words
returns-then-has_words c = λ k views v keeps below at. (
  λ e. data_whole c.args.core.now k views c.args.seat v
      (entry_there c.args.core.now.seats.items c.args.seat c.requires.seat).0 keeps below at
      (seat_is c.requires.seat (entry_there c.args.core.now.seats.items c.args.seat c.requires.seat).1)
      c.args.word c.requires.from c.requires.until c.superblock_of-d.result
      c.superblock_of-d.ensures c.usage.result c.usage.ensures (let f = c.if-has_words.ensures in omega arith),
  λ own. refl,
)

pub returns-then-class-eq0 : goal.returns-then-class-eq0
returns-then-class-eq0 c = λ k views v keeps below at. refused (data_unclassed c.args.core.now k views c.args.seat v
    (entry_there c.args.core.now.seats.items c.args.seat c.requires.seat).0 keeps below at
    (seat_is c.requires.seat (entry_there c.args.core.now.seats.items c.args.seat c.requires.seat).1)
    c.args.word c.requires.from c.requires.until c.superblock_of-d.result
    c.superblock_of-d.ensures c.usage.result c.usage.ensures
    (sym c.if-has_words.ensures) c.info-class.result c.info-class.ensures (λ is. let s = is.some in let e = c.if-class-eq0.true in omega arith))

pub returns-then-class-gt-LAST_CLASS : goal.returns-then-class-gt-LAST_CLASS
returns-then-class-gt-LAST_CLASS c = λ k views v keeps below at. refused
    (data_unclassed c.args.core.now k views c.args.seat v (entry_there c.args.core.now.seats.items c.args.seat c.requires.seat).0 keeps below at
    (seat_is c.requires.seat (entry_there c.args.core.now.seats.items c.args.seat c.requires.seat).1)
    c.args.word c.requires.from c.requires.until c.superblock_of-d.result
    c.superblock_of-d.ensures c.usage.result c.usage.ensures
    (sym c.if-has_words.ensures) c.info-class.result c.info-class.ensures (λ is. let s = is.last in let e = c.if-class-gt-LAST_CLASS.true in
    omega arith))

pub returns : goal.returns
returns c = λ k views v keeps below at. data_block c.args.core.now k views c.args.seat v
    (entry_there c.args.core.now.seats.items c.args.seat c.requires.seat).0 keeps below at
    (seat_is c.requires.seat (entry_there c.args.core.now.seats.items c.args.seat c.requires.seat).1)
    c.args.word c.requires.from c.requires.until c.superblock_of-d.result
    c.superblock_of-d.ensures c.usage.result c.usage.ensures
    (sym c.if-has_words.ensures) c.info-class.result c.info-class.ensures
    (record { some = (let e = c.if-class-eq0.false in omega arith); last = (let e = c.if-class-gt-LAST_CLASS.false in omega arith) })
    c.block_words-words.result (c.start-start.result + (c.args.word - c.start-start.result) / c.block_words-words.result * c.block_words-words.result)
    (c.block_words-words.ensures.words ∙ ap words_of_class c.new.ensures)
    (ap (λ n. n + (c.args.word - n) / c.block_words-words.result * c.block_words-words.result) c.start-start.ensures)
    c.place.result c.place.ensures c.is_somewhere.result c.is_somewhere.ensures
