use Rattle.std.proofs.Common.{◌+◌, ◌-◌, ◌*◌, ◌/◌, refl, ap, sym, ◌∙◌, arith}
use Rattle.heap_model.specs.Geometry.{start_word}
use Rattle.heap_model.specs.Sizes.{words_of_class}
use Rattle.seat_state.proofs.DecisionLemmas.{refused}
use Rattle.seat_index.proofs.OwnedReads.{data_whole, data_unclassed, data_own}
use Rattle.seat_index.proofs.owned.Owned.owns_data.Goals as goal

pub returns-then-has_words : goal.returns-then-has_words
returns-then-has_words c = λ v index. (
  λ e. data_whole v index.has c.args.self.now index.own c.args.word (let k = index.capacity_is in let f = c.requires.from in omega arith)
      (let k = index.capacity_is in let u = c.requires.until in omega arith) c.superblock_of-d.result
      (c.superblock_of-d.ensures ∙ ap (λ n. (c.args.word - start_word n 0) / 8192) index.capacity_is)
      c.index.result.now c.index.ensures (let f = c.if-has_words.ensures in omega arith),
  λ own. refl,
)

pub returns-then-class-eq0 : goal.returns-then-class-eq0
returns-then-class-eq0 c = λ v index. refused (data_unclassed v index.has c.args.self.now index.own c.args.word
    (let k = index.capacity_is in let f = c.requires.from in omega arith) (let k = index.capacity_is in let u = c.requires.until in omega arith)
    c.superblock_of-d.result (c.superblock_of-d.ensures ∙ ap (λ n. (c.args.word - start_word n 0) / 8192) index.capacity_is)
    c.index.result.now c.index.ensures (sym (c.if-has_words.ensures)) c.index-class.result.now c.index-class.ensures
    (λ is. let s = is.some in let e = c.if-class-eq0.true in omega arith))

pub returns-then-class-gt-LAST_CLASS : goal.returns-then-class-gt-LAST_CLASS
returns-then-class-gt-LAST_CLASS c = λ v index. refused (data_unclassed v index.has c.args.self.now index.own c.args.word
    (let k = index.capacity_is in let f = c.requires.from in omega arith) (let k = index.capacity_is in let u = c.requires.until in omega arith)
    c.superblock_of-d.result (c.superblock_of-d.ensures ∙ ap (λ n. (c.args.word - start_word n 0) / 8192) index.capacity_is)
    c.index.result.now c.index.ensures (sym (c.if-has_words.ensures)) c.index-class.result.now c.index-class.ensures
    (λ is. let s = is.last in let e = c.if-class-gt-LAST_CLASS.true in omega arith))

pub returns : goal.returns
returns c = λ v index. data_own v index.has c.args.self.now index.own c.args.word
    (let k = index.capacity_is in let f = c.requires.from in omega arith) (let k = index.capacity_is in let u = c.requires.until in omega arith)
    c.superblock_of-d.result (c.superblock_of-d.ensures ∙ ap (λ n. (c.args.word - start_word n 0) / 8192) index.capacity_is)
    c.index.result.now c.index.ensures (sym (c.if-has_words.ensures)) c.index-class.result.now c.index-class.ensures
    (record { some = (let e = c.if-class-eq0.false in omega arith); last = (let e = c.if-class-gt-LAST_CLASS.false in omega arith) })
    c.block_words-words.result (c.start-start.result + (c.args.word - c.start-start.result)
    / c.block_words-words.result * c.block_words-words.result) (c.block_words-words.ensures.words ∙ ap words_of_class c.new.ensures)
    (ap (λ n. n + (c.args.word - n) / c.block_words-words.result * c.block_words-words.result) (c.start-start.ensures
    ∙ ap (λ n. start_word n c.superblock_of-d.result) index.capacity_is)) c.get.result c.get.ensures
