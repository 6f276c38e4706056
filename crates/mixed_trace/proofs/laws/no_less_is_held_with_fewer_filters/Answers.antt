use Rattle.std.proofs.Common.{refl}
use Rattle.heap_model.specs.Header.{kinds_of}
use Rattle.mixed_trace.specs.declared.mode.Mode.TheVariants.{Kind}
use Rattle.mixed_trace.proofs.LawLemmas.{no_less, from_plain, migrated_no_less}
use Rattle.mixed_trace.proofs.laws.no_less_is_held_with_fewer_filters.Goals as goal

pub returns : goal.returns
returns c = record {
  reached = λ image modes fewer links limit inside less b reached. no_less image modes fewer links limit inside less b reached;
  held = λ image modes fewer links limit held more inside less a b block has.
      b.complete block (no_less image modes fewer links limit inside less block (a.sound block has));
  recovered = λ image fewer links limit held more inside less a b block has.
      b.complete block (no_less image (λ root. Kind (kinds_of image root)) fewer links limit inside less block
      (from_plain image (λ root. Kind (kinds_of image root)) (kinds_of image) links (record { each = λ root low. refl }) block (a.sound block has)));
  migrated = λ words kinds fewer links limit held more count count' formed inside less a b block has.
      b.complete block (migrated_no_less words kinds fewer links limit count count' formed inside less block (a.sound block has));
}
