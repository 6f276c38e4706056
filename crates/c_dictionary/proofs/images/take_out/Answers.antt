use Rattle.std.proofs.Common.{Some, inr, refl, sym, ap, ◌∙◌, arith}
use Rattle.c_dictionary.proofs.images.take_out.Goals as goal

pub returns-then-deref-size-clause-err : goal.returns-then-deref-size-clause-err
returns-then-deref-size-clause-err c = inr (
  refl,
  record {
    store = c.deref.result.now;
    has = sym c.state-state.ensures.1 ∙ c.take.ensures.0 ∙ ap Some (sym c.into_box-store.ensures ∙ sym c.deref.ensures);
    other = λ e. omega (arith, e);
  },
)
