use Rattle.std.proofs.Common.{List, ℕ, sym, subst}
use Rattle.region_header.specs.Words.{AreWordsOf}
use Rattle.dictionary_heap.specs.declared.fault.OpenFault.TheVariants.{Header}
use Rattle.c_dictionary.proofs.FaultLemmas.{fault_of_bytes}
use Rattle.c_dictionary.proofs.opening.open_bytes.Goals as goal

pub returns-in-Err-clause-refused : goal.returns-in-Err-clause-refused
returns-in-Err-clause-refused c = λ _. record {
  fault = Header c.in-Err.bad;
  is_so = sym c.in-Err.ensures.cause;
  status_is = c.tell.ensures.status;
  told_is = c.tell.ensures.told;
}

pub returns-in-Ok-clause-refused : goal.returns-in-Ok-clause-refused
returns-in-Ok-clause-refused c = λ some.
    fault_of_bytes c.deref.result.now c.args.bytes.now c.open_words.result c.args.fault.now c.open_words.new.fault
    (subst (λ (ws : List ℕ). AreWordsOf ws c.args.bytes.now) (sym c.deref.ensures.value) c.in-Ok.ensures.ok) (c.open_words.ensures.refused some)
