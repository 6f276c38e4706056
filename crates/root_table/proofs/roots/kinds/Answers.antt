use Rattle.std.proofs.Common.{◌≡◌, inl, inr, slice_index, slice_set, ◌∙◌, ap, sym, arith}
use Rattle.std.proofs.lemmas.Bool.{cases_lt}
use Rattle.std.proofs.lemmas.Grind.{get_or-set_at}
use Rattle.std.proofs.lemmas.List.{length-set, get_or-set_other}
use Rattle.heap_model.specs.Header.{kinds_of}
use Rattle.root_table.proofs.roots.kinds.Goals as goal

pub loop-i-preserved : goal.loop-i-preserved
loop-i-preserved c =
    let long = c.loop-i.invariant.0 in (
      length-set c.loop-i.kinds c.loop-i.i c.kind.result ∙ long,
      λ k below. elim (cases_lt k c.loop-i.i) as (λ _. slice_index (slice_set c.loop-i.kinds c.loop-i.i c.kind.result) k ≡ kinds_of
          (slice_index c.args.words.now) k) [
            | inl before ↦ get_or-set_other c.loop-i.kinds c.loop-i.i k c.kind.result 0 (λ e. omega arith) ∙ c.loop-i.invariant.1 k before
            | inr past ↦
                let same : k ≡ c.loop-i.i = omega arith in
                get_or-set_at c.loop-i.kinds c.loop-i.i k c.kind.result 0 same (omega arith) ∙ c.kind.ensures
                ∙ ap (kinds_of (slice_index c.args.words.now)) (sym same)
          ],
    )
