-- What recovery leaves is a dictionary where each shard is a map.
use Rattle.std.proofs.Common.{ℕ, List, Some, Contains}
use Rattle.std.specs.BTreeMap.{BTreeMap, get}
use Rattle.std.specs.Ordering.{nat_cmp}
use Rattle.heap_model.specs.declared.block.Block.{Block}
use Rattle.heap_model.specs.Image.{Image}
use Rattle.heap_model.specs.Header.{HasKindsBelow}
use Rattle.heap_model.specs.Reach.{IsReachedIn}
use Rattle.heap_model.specs.Recovered.{AreAscending}
use Rattle.dict_model.specs.Links.{shards, kind_count, dict_links}
use Rattle.dictionary.specs.Reading.{AreMaps, RecoversTo}
use Rattle.dictionary.proofs.KeptLemmas.{none_left, same_reach}
use Rattle.dictionary.proofs.SameLemmas.{keeps_reached}
use Rattle.run_model.specs.Opened.{IsDictionary}

module _ (old new : Image) (to : RecoversTo old new) where
  pub recovered_dictionary : (held : List Block) → AreAscending (λ (b : Block). b.first_word) (IsReachedIn old dict_links) held
      → (maps : List (BTreeMap ℕ (List ℕ))) → HasKindsBelow (Some kind_count) new → AreMaps new shards maps → IsDictionary new (Contains held)
  recovered_dictionary held are maps kinds have = record {
    nothing_outside = λ at out. none_left old new (keeps_reached old new to) at out.traced out.outside;
    maps = record { kinds = kinds; each = λ shard below. let each = have.each shard below in (get nat_cmp each.0, each.2) };
    exact = λ b.
        let same = same_reach old new (keeps_reached old new to) b in
        (λ h. same.0 (are.sound b h), λ r. are.complete b (same.1 r));
  }
