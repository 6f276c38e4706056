-- A walk passes no more nodes than the shard has keys.
use Rattle.std.proofs.Common.{◌≡◌, ◌≢◌, ℕ, suc, ◌+◌, ◌*◌, ◌≤◌, inl, inr, List, [], ◌∷◌, ◌++◌, length, length-append, None, Some, Contains, refl, ap, subst, sym, ◌∙◌, arith}
use Rattle.std.proofs.lemmas.Bool.{cases_eq}
use Rattle.heap_model.specs.declared.block.Block.{Block}
use Rattle.heap_model.specs.Image.{Image}
use Rattle.heap_model.proofs.MemberLemmas.{in_none, in_head, in_rest, head_or_rest}
use Rattle.heap_seat.specs.declared.spot.Spot.{Spot}
use Rattle.heap_seat.specs.View.{View, word_of}
use Rattle.heap_seat.specs.Rows.{IsRow}
use Rattle.heap_seat.specs.Sound.{IsSeat}
use Rattle.heap_seat.proofs.RowLemmas.{row_then, row_more}
use Rattle.dict_model.specs.Nodes.{shard_of, bucket_of, key_in, value_in, find}
use Rattle.dict_model.specs.Shards.{Leading, LeadsTo, IsPath, but}
use Rattle.dict_model.proofs.ChainLemmas.{in_path, found_in, not_of}
use Rattle.dict_requests.specs.Trails.{IsSettling}
use Rattle.dict_requests.specs.Moving.{MovesFew}
use Rattle.dict_requests.specs.Quiet.{IsQuiet}
use Rattle.dict_requests.specs.Walks.{IsWalk, IsWalking, ListsKeys, IsQuietWalk}
use Rattle.dict_requests.proofs.GrownLemmas.{Grown, grown_keeps, gives_grown}
use Rattle.dict_requests.proofs.TrailLemmas.{now_image, now_completes, settling_in, is_along, found_at, bucket_below}
use Rattle.dict_requests.proofs.QuietLemmas.{quiet_then}

-- the keys without the first that is this one
but_one : (x : ℕ) (keys : List ℕ) → Contains keys x → (rest : List ℕ) × (length keys ≡ suc (length rest))
    × ((y : ℕ) → y ≢ x → Contains keys y → Contains rest y)
but_one x [] h = absurd (in_none x h)
but_one x (k ∷ keys) h = elim (cases_eq k x) as (λ _. (rest : List ℕ) × (length (k ∷ keys) ≡ suc (length rest))
    × ((y : ℕ) → y ≢ x → Contains (k ∷ keys) y → Contains rest y)) [
      | inl same ↦ (
        keys,
        refl,
        λ y other hy. elim (head_or_rest k y keys hy) as
            (λ _. Contains keys y) [ inl e ↦ absurd (other (sym e ∙ same)) | inr r ↦ r ],
      )
      | inr differs ↦ elim (head_or_rest k x keys h) as (λ _. (rest : List ℕ) × (length (k ∷ keys) ≡ suc (length rest))
          × ((y : ℕ) → y ≢ x → Contains (k ∷ keys) y → Contains rest y)) [
            | inl e ↦ absurd (differs e)
            | inr r ↦
                let more = but_one x keys r in (
                  k ∷ more.0,
                  ap suc more.1,
                  λ y other hy. elim (head_or_rest k y keys hy) as (λ _. Contains (k ∷ more.0) y) [
                    | inl e ↦ subst (Contains (k ∷ more.0)) e (in_head k more.0)
                    | inr s ↦ in_rest k y more.0 (more.2 y other s)
                  ],
                )
          ]
    ]

-- nodes with keys of their own are no more than the keys that have a value
few_nodes : (image : Image) (keys : List ℕ) (bs : List Block) (leads : Leading) (shard k at : ℕ) → IsPath leads image shard k at bs
    → ((b : Block) → Contains bs b → Contains keys (key_in image b)) → length bs ≤ length keys
few_nodes image keys [] leads shard k at path in_keys = omega arith
few_nodes image keys (b ∷ bs) leads shard k at path in_keys =
    let less = but_one (key_in image b) keys (in_keys b (in_head b bs)) in
    let rest = few_nodes image less.0 bs leads shard k b.first_word path.3
    (λ c h. less.2 (key_in image c) (not_of image (key_in image b) bs c path.2 h) (in_keys c (in_rest b c bs h))) in
    let e = less.1 in omega arith

module _ (v : View) (key at : ℕ) (table : Block) (seat : IsSeat v) (walk : IsWalk v key table at) where
  pub few_passed : (keys : List ℕ) → ListsKeys v (shard_of key) keys → length walk.before ≤ length keys
  few_passed keys lists =
      let image = now_image v in
      let completes = now_completes v in
      let k = bucket_of key in
      let along = is_along IsSettling v image seat (shard_of key) key lists.map table walk.before (settling_in v image completes) walk.come
      (lists.gives.each image completes.mixes) in
      let path : IsPath (but table (LeadsTo (Contains v.held))) image (shard_of key) k (table.first_word + k) (walk.before ++ along.rest) =
      subst (λ (bs : List Block). IsPath (but table (LeadsTo (Contains v.held))) image (shard_of key) k (table.first_word + k) bs) along.is
      (along.chains k (bucket_below key)).path in
      let all = few_nodes image keys (walk.before ++ along.rest) (but table (LeadsTo (Contains v.held))) (shard_of key) k (table.first_word + k) path
      (λ b h.
      let is = (in_path (but table (LeadsTo (Contains v.held))) image (shard_of key) k (table.first_word + k) (walk.before ++ along.rest) b path h).1 in
      let there : lists.map (key_in image b) ≡ Some (value_in image b) =
      found_at lists.map image (shard_of key) (key_in image b) along.nodes along.means is.in_shard
      ∙ ap (λ j. find image (key_in image b) (along.nodes j)) is.in_bucket ∙ ap (λ (bs : List Block). find image (key_in image b) bs) along.is
      ∙ found_in (but table (LeadsTo (Contains v.held))) image (shard_of key) k (table.first_word + k) (walk.before ++ along.rest) b path h in
      lists.all (key_in image b) (λ none. let clash : Some (value_in image b) ≡ None = sym there ∙ none in absurd (cc))) in
      let sum = length-append walk.before along.rest in omega arith

pub lists_later : (v w : View) (shard : ℕ) (keys : List ℕ) → Grown v w → ListsKeys v shard keys → ListsKeys w shard keys
lists_later v w shard keys grown lists = record { map = lists.map; gives = gives_grown v w grown shard lists.map lists.gives; all = lists.all }

-- a walk, and quiet calls behind it
pub quiet_walk : (key more : ℕ) (table : Block) (link : Spot) (v u w : View) → IsSeat u → IsWalking key table link v u → IsQuiet more u w
    → IsQuietWalk more (shard_of key) v w
quiet_walk key more table link v u w seat walking quiet = record {
  small = 3 * length walking.walk.before + more;
  quiet = quiet_then (3 * length walking.walk.before) more (3 * length walking.walk.before + more) v u w (omega arith) walking.quiet quiet;
  few = λ keys lists.
      let few = few_passed u key (word_of link) table seat walking.walk keys
      (lists_later v u (shard_of key) keys (grown_keeps v u walking.quiet.unchanged) lists) in omega arith;
}

-- the calls of a search, and some more that take no superblock
pub moves_few : (small large shard : ℕ) (v u w : View) → small ≤ 488 → IsQuietWalk 5 shard v u → IsRow small large 0 u w → MovesFew large shard v w
moves_few small large shard v u w s walk row keys lists =
    let few = walk.few keys lists in
    row_more (walk.small + small) (0 + large) 0 (500 + 4 * length keys) large 0 v w (omega arith) (omega arith) (omega arith)
    (row_then walk.small 0 0 small large 0 v u w walk.quiet.calls row)

pub moves_quiet : (large shard : ℕ) (v u : View) → IsQuietWalk 5 shard v u → MovesFew large shard v u
moves_quiet large shard v u walk keys lists =
    let few = walk.few keys lists in
    row_more walk.small 0 0 (500 + 4 * length keys) large 0 v u (omega arith) (omega arith) (omega arith) walk.quiet.calls
