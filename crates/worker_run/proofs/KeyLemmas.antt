-- The keys of a shard are finitely many: those of the nodes of its buckets.
use Rattle.std.proofs.Common.{◌≡◌, ◌≢◌, ℕ, zero, suc, ◌+◌, ◌<◌, ◌≤◌, inl, inr, List, [], ◌∷◌, ◌++◌, map, None, Contains, refl, subst, ◌∙◌, arith}
use Rattle.std.specs.Prelude.{nat_eq, ◌/◌}
use Rattle.std.proofs.Math.Nat.{mod-lt}
use Rattle.std.proofs.lemmas.Bool.{cases_eq, cond-true, cond-false, ne_eqb, eq-eqb}
use Rattle.std.proofs.lemmas.List.Elements.{Contains-append_left, Contains-append_right}
use Rattle.heap_model.specs.declared.block.Block.{Block}
use Rattle.heap_model.specs.Image.{Image}
use Rattle.heap_model.proofs.MemberLemmas.{in_head, in_rest}
use Rattle.heap_seat.specs.View.{View}
use Rattle.dict_model.specs.Nodes.{buckets, shard_of, bucket_of, key_in, find}
use Rattle.dict_model.specs.Shards.{Map, Leading, map_of, IsMap, is_empty, has_table}
use Rattle.dict_requests.specs.Answers.{MakesFew}
use Rattle.dict_requests.specs.Maps.{GivesMap}
use Rattle.dict_requests.specs.Walks.{ListsKeys}
use Rattle.dict_requests.proofs.TrailLemmas.{now_image, now_completes}

-- the keys of the nodes of the first buckets
keys_below : Image → (ℕ → List Block) → ℕ → List ℕ
keys_below image nodes zero = []
keys_below image nodes (suc k) = map (key_in image) (nodes k) ++ keys_below image nodes k

find_has : (image : Image) (key : ℕ) (bs : List Block) → find image key bs ≢ None → Contains (map (key_in image) bs) key
find_has image key [] some = absurd (some refl)
find_has image key (b ∷ bs) some = elim (cases_eq (key_in image b) key) as (λ _. Contains (map (key_in image) (b ∷ bs)) key) [
  | inl same ↦ subst (Contains (map (key_in image) (b ∷ bs))) same (in_head (key_in image b) (map (key_in image) bs))
  | inr other ↦ in_rest (key_in image b) key (map (key_in image) bs)
      (find_has image key bs (λ none. some (cond-false (nat_eq (key_in image b) key) _ (find image key bs) (ne_eqb (key_in image b) key other) ∙ none)))
]

below_has : (image : Image) (nodes : ℕ → List Block) (k j key : ℕ) → j < k → Contains (map (key_in image) (nodes j)) key
    → Contains (keys_below image nodes k) key
unfolding keys_below
below_has image nodes zero j key below h = absurd (omega arith)
below_has image nodes (suc k) j key below h = elim (cases_eq j k) as (λ _. Contains (keys_below image nodes (suc k)) key) [
  | inl same ↦ Contains-append_left (map (key_in image) (nodes k)) (keys_below image nodes k) key
      (subst (λ i. Contains (map (key_in image) (nodes i)) key) same h)
  | inr other ↦ Contains-append_right (map (key_in image) (nodes k)) (keys_below image nodes k) key (below_has image nodes k j key (omega arith) h)
]

-- a list of all keys of a map
pub map_keys : (leads : Leading) (image : Image) (shard : ℕ) (m : Map) → IsMap leads image shard m → (keys : List ℕ)
    × ((key : ℕ) → m key ≢ None → Contains keys key)
map_keys leads image shard m (is_empty null none) = ([], λ key some. absurd (some (none key)))
map_keys leads image shard m (has_table table nodes there chains means) = (
  keys_below image nodes buckets,
  λ key some. below_has image nodes buckets (bucket_of key) key (mod-lt (key / 8) (omega arith)) (find_has image key (nodes (bucket_of key)) (λ none.
      some (means key ∙ elim (cases_eq (shard_of key) shard) as (λ _. map_of image shard nodes key ≡ None) [
        | inl same ↦ cond-true (nat_eq (shard_of key) shard) (find image key (nodes (bucket_of key))) None (eq-eqb (shard_of key) shard same) ∙ none
        | inr other ↦ cond-false (nat_eq (shard_of key) shard) (find image key (nodes (bucket_of key))) None (ne_eqb (shard_of key) shard other)
      ]))),
)

-- so a shard of a seat has such a list
pub seat_keys : (v : View) (shard : ℕ) (m : Map) → GivesMap v shard m → (keys : List ℕ) × ListsKeys v shard keys
seat_keys v shard m gives =
    let listed = map_keys _ (now_image v) shard m (gives.each (now_image v) (now_completes v).mixes) in
    (listed.0, record { map = m; gives = gives; all = listed.1 })

-- calls that take no superblock for any keys take none
pub takes_none : (words shard : ℕ) (m : Map) (v w : View) → GivesMap v shard m → MakesFew words 0 shard v w → w.taken ≤ v.taken + 0
takes_none words shard m v w gives few = let keys = seat_keys v shard m gives in (few keys.0 keys.1).few
