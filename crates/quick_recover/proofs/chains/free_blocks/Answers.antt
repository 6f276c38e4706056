use Rattle.std.proofs.Common.{ap, sym, subst, ◌∙◌, slice_index}
use Rattle.std.specs.Prelude.{MatchOption}
use Rattle.heap_model.specs.Words.{anchor_state, anchor_first, anchor_count}
use Rattle.anchor_word.specs.Anchor.{state_number}
use Rattle.quick_recover.specs.Anchored.{HasChain, HasNoChain}
use Rattle.quick_recover.proofs.ChainLemmas.{HasWord, told_by_chain, no_anchor}
use Rattle.quick_recover.proofs.chains.free_blocks.Goals as goal

pub returns-in-None : goal.returns-in-None
returns-in-None c =
    let image = slice_index c.args.words.now in
    let parts = c.in-Some.ensures.some in
    let anchor = c.in-Some.anchor in
    let capacity = c.args.geometry.now.capacity in
    let class = c.args.class.number in
    let word : HasWord image c.args.d 1 anchor.first anchor.count = record {
      state_is = ap (λ p. anchor_state (image p)) (sym c.anchor.ensures) ∙ sym parts.state ∙ ap state_number c.in-Partial.is;
      first_is = ap (λ p. anchor_first (image p)) (sym c.anchor.ensures) ∙ sym parts.first;
      count_is = ap (λ p. anchor_count (image p)) (sym c.anchor.ensures) ∙ sym parts.count;
    } in
    record {
      ok = no_anchor image capacity class c.args.d anchor.first anchor.count c.requires.readable.capacity_is word
          (subst (λ o. MatchOption o (HasNoChain image capacity class c.args.d anchor.first anchor.count)
          (HasChain image capacity class c.args.d anchor.first anchor.count)) c.in-None.is c.in_ok-marks-in-Partial.ensures.ok);
    }

pub returns-in-Some-2 : goal.returns-in-Some-2
returns-in-Some-2 c =
    let image = slice_index c.args.words.now in
    let parts = c.in-Some.ensures.some in
    let anchor = c.in-Some.anchor in
    let capacity = c.args.geometry.now.capacity in
    let class = c.args.class.number in
    let word : HasWord image c.args.d 1 anchor.first anchor.count = record {
      state_is = ap (λ p. anchor_state (image p)) (sym c.anchor.ensures) ∙ sym parts.state ∙ ap state_number c.in-Partial.is;
      first_is = ap (λ p. anchor_first (image p)) (sym c.anchor.ensures) ∙ sym parts.first;
      count_is = ap (λ p. anchor_count (image p)) (sym c.anchor.ensures) ∙ sym parts.count;
    } in
    record {
      ok = told_by_chain image capacity class c.args.d anchor.first anchor.count c.requires.readable.capacity_is word c.in-Some-2.marks
          (subst (λ o. MatchOption o (HasNoChain image capacity class c.args.d anchor.first anchor.count)
          (HasChain image capacity class c.args.d anchor.first anchor.count)) c.in-Some-2.is c.in_ok-marks-in-Partial.ensures.ok);
    }
