use Rattle.drain_laws.proofs.GivenLemmas.{has_given, was_to_drain}
use Rattle.drain_laws.proofs.laws.a_drained_class_was_all_given.Goals as goal

pub returns-clause-was_to_give : goal.returns-clause-was_to_give
returns-clause-was_to_give c k m n v w class good idle end is dry more b given = was_to_drain k m n v w good idle end class is dry more b given

pub returns-clause-has_given : goal.returns-clause-has_given
returns-clause-has_given c k m n v w class good idle end is dry more came drainable b to_give =
    has_given k m n v w good idle end class is dry more came drainable b to_give
