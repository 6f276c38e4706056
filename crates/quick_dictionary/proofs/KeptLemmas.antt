-- Recovery keeps of an image what it keeps of one that leaves in it all that a trace of the dictionary looks at.
use Rattle.std.proofs.Common.{ℕ, Some, refl, sym, subst, ◌∙◌, arith, inl, inr}
use Rattle.heap_model.specs.Geometry.{magic_word, version_word}
use Rattle.heap_model.specs.Header.{IsWellFormed, HasKindsBelow}
use Rattle.heap_model.specs.Image.{Image}
use Rattle.heap_model.specs.Blocks.{layout_of}
use Rattle.heap_model.specs.Reach.{IsReachedIn}
use Rattle.heap_model.specs.Recovered.{HasPartIn, IsFreeSuperblock}
use Rattle.heap_model.specs.Recovery.{in_header}
use Rattle.heap_at_rest.proofs.RecoveredLemmas.{same_capacity, same_used}
use Rattle.heap_recover.specs.InPlace.{RecoversAlike}
use Rattle.dict_model.specs.Links.{dict_links, kind_count}
use Rattle.dictionary.proofs.KeptLemmas.{KeepsReached, kinds_same, roots_same, to_new, to_old, same_reach, none_left}

module _ (old new : Image) (keeps : KeepsReached old new) where
  -- a superblock without a part of a reached block
  free_after : (d : ℕ) → IsFreeSuperblock (layout_of old) (IsReachedIn old dict_links) d
      → IsFreeSuperblock (layout_of new) (IsReachedIn new dict_links) d
  free_after d free = record {
    taken = let same = same_used old new keeps.same in let taken = free.taken in omega arith;
    empty = λ b reached part. free.empty b ((same_reach old new keeps b).1 reached)
        (subst (λ c. HasPartIn c b d) (same_capacity old new keeps.same) part);
  }

  free_before : (d : ℕ) → IsFreeSuperblock (layout_of new) (IsReachedIn new dict_links) d
      → IsFreeSuperblock (layout_of old) (IsReachedIn old dict_links) d
  free_before d free = record {
    taken = let same = same_used old new keeps.same in let taken = free.taken in omega arith;
    empty = λ b reached part. free.empty b ((same_reach old new keeps b).0 reached)
        (subst (λ c. HasPartIn c b d) (sym (same_capacity old new keeps.same)) part);
  }

  pub kinds_below : HasKindsBelow (Some kind_count) old → HasKindsBelow (Some kind_count) new
  kinds_below below = λ root less. let same = kinds_same old new keeps root less in let few = below root less in omega arith

  -- the header stays good
  formed_after : (bytes : ℕ) → IsWellFormed bytes old → IsWellFormed bytes new
  formed_after bytes formed = record {
    magic_is = keeps.same magic_word (in_header magic_word (inl refl)) ∙ formed.magic_is;
    version_is = keeps.same version_word (in_header version_word (inr (inl refl))) ∙ formed.version_is;
    some = let same = same_capacity old new keeps.same in let some = formed.some in omega arith;
    small = let same = same_capacity old new keeps.same in let small = formed.small in omega arith;
    length_is = let same = same_capacity old new keeps.same in let long = formed.length_is in omega arith;
    state = inr keeps.state;
    used = let same = same_capacity old new keeps.same in let more = same_used old new keeps.same in let used = formed.used in omega arith;
  }

  -- so recovery keeps the same of both
  pub recovers_alike : (bytes : ℕ) → IsWellFormed bytes old → HasKindsBelow (Some kind_count) old
      → RecoversAlike (Some kind_count) bytes old new dict_links
  recovers_alike bytes formed below = record {
    formed = formed_after bytes formed;
    below = kinds_below below;
    none_outside = λ at out. none_left old new keeps at out.traced out.outside;
    reach = λ b kind. (to_new old new keeps b kind, to_old old new keeps b kind);
    words = keeps.words;
    roots_are = roots_same old new keeps;
    kinds_are = kinds_same old new keeps;
    free = λ d. (free_after d, free_before d);
  }
