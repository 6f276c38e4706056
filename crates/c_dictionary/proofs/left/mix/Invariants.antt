use Rattle.c_dictionary.specs.Images.{IsMixing}
use Rattle.c_dictionary.proofs.left.mix.Given as goal

abbrev pub invariant-loop-i : goal.invariant-loop-i
invariant-loop-i l = IsMixing l.now l.initial.kept.items l.kept.items
