use Rattle.std.proofs.Common.{◌≡◌, inl, inr, false, get_or, slice_index, refl, ap, sym, subst, ◌∙◌, arith}
use Rattle.std.proofs.lemmas.Bool.{cases_lt}
use Rattle.heap_model.specs.Geometry.{info_word}
use Rattle.quick_recover.proofs.superblocks.is_whole.Goals as goal

pub loop-e-preserved : goal.loop-e-preserved
loop-e-preserved c = λ i low high. elim (cases_lt i c.loop-e.e) as (λ _. (slice_index c.args.words.now (info_word i) ≡ 0)
    × (get_or c.args.free.now i false ≡ false)) [
      | inl before ↦ c.loop-e.invariant i low before
      | inr past ↦
          let same : c.loop-e.e ≡ i = omega arith in
          subst (λ k. (slice_index c.args.words.now (info_word k) ≡ 0) × (get_or c.args.free.now k false ≡ false)) same
          (ap (slice_index c.args.words.now) (sym c.info.ensures) ∙ c.if-words-info-ne0.false, sym c.get.ensures ∙ c.if-get.false)
    ]

pub returns : goal.returns
returns c = (
  λ yes. record {
    fits = (let few = c.if-count-used.false in let taken = c.requires.taken in let used = c.requires.readable.used_is in omega arith);
    each = λ e low high. c.loop-e.invariant e low (let all = c.loop-e-test.false in omega arith);
  },
  λ whole. refl,
)
