use Rattle.std.proofs.Common.{refl, lit≤, arith}
use Rattle.heap_model.specs.Sizes.{class_sizes, size_of, last_class, IsClass}
use Rattle.heap_model.proofs.SizeLemmas.{few_words, size_of-words}
use Rattle.size_table.proofs.class.class_of.Goals as goal

-- a request that a class holds is small
pub returns-then-bytes-size_of-clause-none : goal.returns-then-bytes-size_of-clause-none
returns-then-bytes-size_of-clause-none c =
    let is_class : IsClass c.loop-class.class = record { some = omega arith; last = omega arith } in
    let small = few_words c.loop-class.class is_class in
    let size = size_of-words c.loop-class.class is_class in
    ((λ differ. cc), λ large. absurd (omega (arith, small, size, c.size_of.ensures)))

-- the last class has the largest size
pub returns-clause-none : goal.returns-clause-none
unfolding size_of class_sizes
returns-clause-none c =
    let last : IsClass last_class = record { some = lit≤ tt; last = lit≤ tt } in
    let above = c.loop-class.invariant last_class last (omega arith) in
    ((λ same. omega (arith, above)), λ large. refl)
