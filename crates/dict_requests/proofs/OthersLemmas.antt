-- A request to one shard leaves each other shard its map.
use Rattle.std.proofs.Common.{◌≡◌, ◌≢◌, ℕ, ◌<◌, inl, inr, List, Contains, refl, subst, sym, ◌∙◌}
use Rattle.std.proofs.lemmas.Bool.{cases_eq}
use Rattle.heap_model.specs.declared.block.Block.{Block}
use Rattle.heap_model.specs.Geometry.{root_word}
use Rattle.heap_model.specs.Image.{Image}
use Rattle.heap_model.specs.Blocks.{IsIn}
use Rattle.heap_seat.specs.View.{View, kind_of}
use Rattle.heap_seat.specs.Words.{in_block, in_root, MixesOwn}
use Rattle.heap_seat.specs.Sound.{IsSeat}
use Rattle.heap_seat.proofs.CallerLemmas.{read_before}
use Rattle.dict_model.specs.Links.{shards, table_kind}
use Rattle.dict_model.specs.Shards.{Map, LeadsTo, IsMap}
use Rattle.dict_model.proofs.MapLemmas.{map_wider, map_stays}
use Rattle.dict_model.proofs.PlacedLemmas.{ArePlaced}
use Rattle.dict_requests.specs.Maps.{IsMapIn, GivesMap, KeepsOtherShards}
use Rattle.dict_requests.specs.Changes.{MayChange, Changes}
use Rattle.dict_requests.specs.Reached.{MayReach, ReachesOnlyHeld}
use Rattle.dict_requests.specs.Removal.{IsShard}
use Rattle.dict_requests.specs.Shards.{HasShards}
use Rattle.dict_requests.proofs.GrownLemmas.{kind_kept}
use Rattle.dict_requests.proofs.FreedLemmas.{used_reached}
use Rattle.dict_requests.proofs.ReadableLemmas.{readable, readable_mixes, readable_same}

module _ (v w : View) (shard other : ℕ) (seat : IsSeat v) (only : ReachesOnlyHeld v) (keeps : KeepsOtherShards shard v w)
    (small : shard < shards) (root_is : kind_of v other ≡ table_kind) (differs : other ≢ shard) (owned : Contains v.roots other) where
  -- a held block that the other shard's root reaches
  abbrev kept : Block → Type 0
  kept c = Contains v.held c × ((kind : ℕ) × MayReach v other c kind)

  abbrev limit : ℕ → Block → Type 0
  limit word c = LeadsTo (Contains v.held) word c × ((kind : ℕ) × MayReach v other c kind)

  kept_placed : ArePlaced kept
  kept_placed = record {
    apart = λ a c ha hc. seat.apart a c ha.0 hc.0;
    behind = λ a ha. (seat.placed a ha.0).behind;
    some = λ a ha. (seat.placed a ha.0).some;
  }

  unreached : (c : Block) → kept c → (kind : ℕ) → MayReach v shard c kind → ⊥
  unreached c h kind reached = only.alone shard other c kind h.1.0 small (λ e. differs (sym e)) reached h.1.1

  -- it is held, and its words may have no other values
  stays : (c : Block) → kept c → Contains w.held c
  stays c h = (keeps.blocks c h.0 (unreached c h)).0

  same_inside : (image : Image) → MixesOwn w image → (c : Block) → kept c → (word : ℕ) → IsIn c word → image word ≡ readable v image word
  same_inside image mixes c h word inside =
      let there = keeps.blocks c h.0 (unreached c h) in
      readable_same v image word (read_before v w word (image word) (there.1 word inside) (mixes.each word (in_block c word there.0 inside)))

  same_root : (image : Image) → MixesOwn w image → image (root_word other) ≡ readable v image (root_word other)
  same_root image mixes =
      let there = subst (λ (rs : List ℕ). Contains rs other) (sym keeps.roots) owned in
      readable_same v image (root_word other) (read_before v w (root_word other) (image (root_word other)) (keeps.root_words other owned differs)
      (mixes.each (root_word other) (in_root other (root_word other) there refl)))

  pub gives_others : (map : Map) → GivesMap v other map → GivesMap w other map
  gives_others map gives = record { each = λ image mixes. by_image image mixes } where
    by_image : (image : Image) → MixesOwn w image → IsMapIn w image other map
    by_image image mixes =
        let first : IsMap limit (readable v image) other map = map_wider (LeadsTo (Contains v.held)) limit (readable v image) other map
        (λ word c used leads. (leads, used_reached v other root_is owned seat (readable v image) (readable_mixes v image) c used))
        (gives.each (readable v image) (readable_mixes v image)) in
        let second : IsMap limit image other map = map_stays kept kept_placed limit (λ word c leads. (leads.0.0, leads.1))
        (readable v image) image other
        (same_root image mixes) (same_inside image mixes) map first in
        map_wider limit (LeadsTo (Contains w.held)) image other map (λ word c used leads. (stays c (leads.0.0, leads.1), leads.0.1)) second

-- each other shard has its map still
abbrev pub GivesOthers : ℕ → View → View → Type 0
GivesOthers shard v w = (other : ℕ) (map : Map) → other ≢ shard → IsShard v other → GivesMap v other map → GivesMap w other map

-- where a request to the shard was answered, each shard has a map
abbrev pub LeavesShards : ℕ → View → View → Type 0
LeavesShards shard v w = (after : Map → Map) → HasShards v → Changes shard after v w → HasShards w

module _ (v w : View) (shard : ℕ) (may : Map → Map) (seat : IsSeat v) (small : shard < shards) (change : MayChange shard may v w) where
  owned_on : (other : ℕ) → Contains v.roots other → Contains w.roots other
  owned_on other owned = subst (λ (rs : List ℕ). Contains rs other) (sym change.others.roots) owned

  kind_on : (other : ℕ) → kind_of v other ≡ table_kind → kind_of w other ≡ table_kind
  kind_on other is = kind_kept v w other change.others.kinds ∙ is

  -- a request to one shard leaves the other its map, wherever it ends
  pub others_give : GivesOthers shard v w
  others_give = λ other map differs is. gives_others v w shard other seat is.only change.others small is.kind_is differs is.owned map

  -- one that was answered leaves a map to each
  pub shard_on : (after : Map → Map) (other : ℕ) → IsShard v other → Changes shard after v w → IsShard w other
  shard_on after other is changes = elim (cases_eq other shard) as (λ _. IsShard w other) [
    | inl same ↦ record {
      owned = owned_on other is.owned;
      kind_is = kind_on other is.kind_is;
      only = change.only;
      map = after is.map;
      gives = subst (λ n. GivesMap w n (after is.map)) (sym same) (changes.gives is.map (subst (λ n. GivesMap v n is.map) same is.gives));
    }
    | inr differs ↦ record {
      owned = owned_on other is.owned;
      kind_is = kind_on other is.kind_is;
      only = change.only;
      map = is.map;
      gives = others_give other is.map differs is is.gives;
    }
  ]

  pub shards_on : LeavesShards shard v w
  shards_on = λ after has changes. record { each = λ other below. shard_on after other (has.each other below) changes }
