use Rattle.std.proofs.Common.{slice_index, ap}
use Rattle.heap_model.specs.declared.block.Block.{Block}
use Rattle.heap_model.specs.Header.{kinds_of}
use Rattle.heap_model.specs.Reach.{IsReachedIn}
use Rattle.region_header.specs.Migration.{current_words}
use Rattle.heap_recover.proofs.AscendingLemmas.{ascending_one}
use Rattle.heap_recover.proofs.KeptLemmas.{made_with}
use Rattle.mixed_trace.specs.declared.mode.Mode.TheVariants.{Kind}
use Rattle.mixed_trace.specs.Reach.{IsReachedMixed}
use Rattle.mixed_trace.proofs.LawLemmas.{mixed_of_plain, plain_of_mixed, to_plain, from_plain, outside_plain, plain_outside, stored_again}
use Rattle.mixed_trace.proofs.laws.kinds_alone_are_as_in_a_trace.Goals as goal

pub returns : goal.returns
returns c = record {
  reach = λ image modes kinds links have b kind. (
    plain_of_mixed image modes kinds links have b kind,
    mixed_of_plain image modes kinds links have b kind,
  );
  outside = λ image modes kinds links have at. (outside_plain image modes kinds links have at, plain_outside image modes kinds links have at);
  marks = λ image modes kinds links limit pairs others have are plain b kind. (
    λ has. (plain.each b kind).1 (plain_of_mixed image modes kinds links have b kind ((are.each b (Kind kind)).0 has)),
    λ has. (are.each b (Kind kind)).1 (mixed_of_plain image modes kinds links have b kind ((plain.each b kind).0 has)),
  );
  made = λ words modes links answer have made.
      made_with words (IsReachedMixed (slice_index words) modes links) (IsReachedIn (slice_index words) links) answer
      (to_plain (slice_index words) modes (kinds_of (slice_index words)) links have)
      (from_plain (slice_index words) modes (kinds_of (slice_index words)) links have) made;
  held = λ image modes links held others have a b.
      ascending_one (λ (b : Block). b.first_word) (IsReachedMixed image modes links) (IsReachedIn image links) held others
      (to_plain image modes (kinds_of image) links have) (from_plain image modes (kinds_of image) links have) a b;
  words = λ words kinds. ap (λ ks. current_words words ks) (stored_again kinds);
}
