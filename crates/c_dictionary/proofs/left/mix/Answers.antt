use Rattle.std.proofs.Common.{◌≡◌, ◌⊎◌, inl, inr, slice_index, ◌∙◌, arith}
use Rattle.c_dictionary.proofs.MixLemmas.{mixing_none, mixing_one, word_read}
use Rattle.c_dictionary.proofs.left.mix.Goals as goal

pub loop-i-init : goal.loop-i-init
loop-i-init c = mixing_none c.args.now.now c.args.kept.items

pub loop-i-preserved : goal.loop-i-preserved
loop-i-preserved c =
    let read = word_read c.loop-i.kept.items c.loop-i.i c.index.result.now (let long = c.loop-i.invariant.long in omega arith) c.index.ensures in
    mixing_one c.args.now.now c.args.kept.items c.loop-i.kept.items c.loop-i.i c.pick.result
    (let long = c.loop-i.invariant.long in omega arith) (elim c.pick.ensures as
    (λ _. (c.pick.result ≡ slice_index c.args.now.now c.loop-i.i) ⊎ (c.pick.result ≡ slice_index c.loop-i.kept.items c.loop-i.i)) [
      | inl seen ↦ inl seen
      | inr kept ↦ inr (kept ∙ read)
    ]) c.loop-i.invariant
