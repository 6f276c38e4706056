use Rattle.std.proofs.Common.{Option, Some, refl, sym, ap, subst, ◌∙◌}
use Rattle.std.specs.Prelude.{IfSome}
use Rattle.c_dictionary.specs.Ready.{HasAllSteps, IsHeldAt}
use Rattle.c_dictionary.specs.declared.store.Store.{Store}
use Rattle.c_dictionary.proofs.FaultLemmas.{not_done}
use Rattle.c_dictionary.proofs.Numbers.{differ}
use Rattle.c_dictionary.proofs.opening.open_words.Goals as goal

pub set-requires : goal.set-requires
set-requires c = subst (IsHeldAt 1) (sym c.of.ensures) (record {
  some = differ 1 0 refl;
  sound = c.in-Ok.ensures.sound;
  going = λ _. c.in-Ok.ensures.ready;
  halted = λ other. absurd (other refl);
})

pub returns-in-Ok-clause-opened : goal.returns-in-Ok-clause-opened
returns-in-Ok-clause-opened c = λ _. record {
  store = _;
  has = c.set.ensures ∙ ap Some c.of.ensures;
  good = c.in-Ok.ensures.good;
  opened = c.in-Ok.ensures.opens;
}

pub returns-in-Ok-clause-steps : goal.returns-in-Ok-clause-steps
returns-in-Ok-clause-steps c = λ _. subst (λ (v : Option Store). IfSome v (HasAllSteps c.args.budget))
    (sym (c.set.ensures ∙ ap Some c.of.ensures)) c.in-Ok.ensures.steps

pub returns-in-Ok-clause-refused : goal.returns-in-Ok-clause-refused
returns-in-Ok-clause-refused c = λ some. absurd (some refl)

pub returns-in-Err-clause-opened : goal.returns-in-Err-clause-opened
returns-in-Err-clause-opened c = λ e. absurd (not_done c.in-Err.cause c.tell.result c.tell.ensures.status e)

pub returns-in-Err-clause-steps : goal.returns-in-Err-clause-steps
returns-in-Err-clause-steps c = λ e. absurd (not_done c.in-Err.cause c.tell.result c.tell.ensures.status e)

pub returns-in-Err-clause-refused : goal.returns-in-Err-clause-refused
returns-in-Err-clause-refused c = λ _. record {
  fault = c.in-Err.cause;
  is_so = c.in-Err.ensures.cause;
  status_is = c.tell.ensures.status;
  told_is = c.tell.ensures.told;
}

pub returns-in-Err-clause-untold : goal.returns-in-Err-clause-untold
returns-in-Err-clause-untold c = λ e. absurd (not_done c.in-Err.cause c.tell.result c.tell.ensures.status e)
