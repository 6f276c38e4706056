use Rattle.std.proofs.Common.{◌≡◌, ◌+◌, ◌<◌, ℕ, length, slice_index, subst, ap, ◌∙◌, arith}
use Rattle.heap_model.specs.Image.{Image}
use Rattle.heap_model.specs.Reach.{by_link}
use Rattle.heap_model.proofs.ImageLemmas.{length-words_from}
use Rattle.mixed_trace.specs.declared.mode.Mode.TheVariants.{All}
use Rattle.mixed_trace.specs.Reach.{modes_of}
use Rattle.mixed_trace.specs.Steps.{FollowsAs, IsWordAmong}
use Rattle.mixed_trace.proofs.MixedStepLemmas.{none_yet, one_more, fewer, word_cases}
use Rattle.mixed_trace.proofs.WorkLemmas.{mixed_block}
use Rattle.mixed_trace.proofs.steps.follow_words.Goals as goal

pub words_of-inside-requires-clause-block : goal.words_of-inside-requires-clause-block
words_of-inside-requires-clause-block g c =
    mixed_block (slice_index c.args.scan.now.words.now) (modes_of c.args._modes.now)
    (g.F.Filter.links_of c.args._filter.now) c.args.block All c.requires.reached

pub loop-position-init : goal.loop-position-init
loop-position-init g c = record {
  same = c.requires.kinds;
  upto = none_yet (slice_index c.args.scan.now.words.now) (modes_of c.args._modes.now) (g.F.Filter.links_of c.args._filter.now) g.F.Filter.KINDS
      (IsWordAmong c.args.block 0) c.args.found.now.pairs.items c.args.found.now.marks c.requires.found
      (λ at mode this. let none = this.below in absurd (omega arith));
}

pub loop-position-preserved : goal.loop-position-preserved
loop-position-preserved g c =
    let image : Image = slice_index c.args.scan.now.words.now in
    let at : ℕ = c.args.block.first_word + c.loop-position.position in
    let size : length c.words_of-inside.result.now ≡ c.args.block.words = ap length c.words_of-inside.ensures.words
    ∙ length-words_from image c.args.block.first_word c.args.block.words in
    let below : c.loop-position.position < c.args.block.words = omega (arith, size, c.loop-position-test.true) in
    record {
      same = c.follow_as.ensures.kinds ∙ c.loop-position.invariant.same;
      upto = one_more image (modes_of c.args._modes.now) (g.F.Filter.links_of c.args._filter.now) g.F.Filter.KINDS
          (IsWordAmong c.args.block c.loop-position.position) (IsWordAmong c.args.block (c.loop-position.position + 1)) at All
          c.args.found.now.pairs.items c.loop-position.found.pairs.items c.follow_as.new.found.pairs.items c.args.found.now.marks
          c.loop-position.found.marks c.follow_as.new.found.marks
          c.loop-position.invariant.upto tt
          (λ b leads. by_link c.args.block b All All c.requires.reached (record { position = c.loop-position.position; counts = below; leads = leads }))
          (λ n m this. word_cases c.args.block c.loop-position.position n m this)
          (subst (λ n. FollowsAs image n at All c.loop-position.found.pairs.items c.follow_as.new.found.pairs.items c.loop-position.found.marks
          c.follow_as.new.found.marks)
          c.KINDS.ensures c.in_ok-follow_as.ensures.ok);
    }

pub returns-clause-ok : goal.returns-clause-ok
returns-clause-ok g c =
    let image : Image = slice_index c.args.scan.now.words.now in
    let size : length c.words_of-inside.result.now ≡ c.args.block.words = ap length c.words_of-inside.ensures.words
    ∙ length-words_from image c.args.block.first_word c.args.block.words in
    fewer image (modes_of c.args._modes.now) (g.F.Filter.links_of c.args._filter.now) g.F.Filter.KINDS
    (IsWordAmong c.args.block c.loop-position.position) (IsWordAmong c.args.block c.args.block.words)
    c.args.found.now.pairs.items c.loop-position.found.pairs.items c.args.found.now.marks c.loop-position.found.marks c.loop-position.invariant.upto
    (λ n m this. record {
      position = this.position;
      below = let low = this.below in omega (arith, size, c.loop-position-test.false);
      at_is = this.at_is;
      mode_is = this.mode_is;
    })
