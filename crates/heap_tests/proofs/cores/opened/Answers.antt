use Rattle.std.proofs.Common.{Contains, rules, subst}
use Rattle.heap_tests.proofs.cores.opened.Goals as goal

pub of-requires-clause-owners : goal.of-requires-clause-owners
of-requires-clause-owners c = record {
  blocks = search rules;
  roots_all = search rules;
  block_seats = λ owner has. c.in_ok-held.ensures.below owner (subst (λ owners. Contains owners owner) c.new.ensures.held has);
  root_seats = λ owner has. c.in_ok-roots.ensures.below owner (subst (λ owners. Contains owners owner) c.new.ensures.roots has);
}
