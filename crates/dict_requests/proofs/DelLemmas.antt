-- How a delete's search and its removal go together.
use Rattle.std.proofs.Common.{◌≡◌, ◌≢◌, ℕ, ◌+◌, ◌*◌, ◌≤◌, inl, inr, List, [], ◌∷◌, ◌++◌, length, None, Some, Contains, true, false, refl, ap, subst, sym, ◌∙◌, arith, rules}
use Rattle.std.specs.Prelude.{nat_eq}
use Rattle.std.proofs.lemmas.Bool.{cases_eq, cond-true, cond-false, eq-eqb, ne_eqb}
use Rattle.std.proofs.lemmas.List.Elements.{Contains-append_left, Contains-append_right}
use Rattle.heap_model.specs.declared.block.Block.{Block}
use Rattle.heap_model.proofs.MemberLemmas.{in_head}
use Rattle.heap_seat.specs.View.{View}
use Rattle.heap_seat.specs.Words.{IsOwn, in_block, KeepsOwn}
use Rattle.heap_seat.specs.Tickets.{Runs}
use Rattle.heap_seat.specs.Rows.{IsRow}
use Rattle.heap_seat.specs.Sound.{IsSeat}
use Rattle.heap_seat.proofs.RowLemmas.{row_then, row_more, runs_then}
use Rattle.heap_model.specs.Image.{Image}
use Rattle.dict_model.specs.Nodes.{shard_of, bucket_of, key_in, value_in, IsNode, find}
use Rattle.dict_model.specs.Requests.{without_key}
use Rattle.dict_model.specs.Shards.{Map, LeadsTo, IsPath, but}
use Rattle.dict_model.proofs.ChainLemmas.{found_in, in_path}
use Rattle.dict_requests.specs.declared.walk.Place.{Place}
use Rattle.dict_requests.specs.Maps.{IsMapIn, GivesMap}
use Rattle.dict_requests.specs.Reached.{Reading}
use Rattle.dict_requests.specs.Trails.{IsSettling, HasCome, Completes}
use Rattle.dict_requests.specs.Walks.{IsFoundPlace, IsQuietWalk}
use Rattle.dict_requests.specs.Changes.{Changes}
use Rattle.dict_requests.specs.Removal.{IsShard}
use Rattle.dict_requests.specs.Answers.{Deletes, MakesFew}
use Rattle.dict_requests.proofs.GrownLemmas.{grown_keeps, gives_grown, shard_grown}
use Rattle.dict_requests.proofs.TrailLemmas.{now_image, now_completes, settling_in, is_along, found_at, bucket_below}
use Rattle.dict_requests.proofs.RemovalLemmas.{found_held}

-- maps with the same values are one
pub gives_same : (v : View) (shard : ℕ) (a b : Map) → ((q : ℕ) → a q ≡ b q) → GivesMap v shard a → GivesMap v shard b
gives_same v shard a b same gives = subst (GivesMap v shard) (one a b same) gives where
  one : (a b : Map) → ((q : ℕ) → a q ≡ b q) → a ≡ b
  one a b same i q = same q i

-- without a key that it hasn't the map is the same
pub without_missing : (map : Map) (key : ℕ) → map key ≡ None → (q : ℕ) → map q ≡ without_key map key q
without_missing map key none q = elim (cases_eq key q) as (λ _. map q ≡ without_key map key q) [
  | inl same ↦ subst (λ k. map k ≡ None) same none ∙ sym (cond-true (nat_eq key q) None (map q) (eq-eqb key q same))
  | inr other ↦ sym (cond-false (nat_eq key q) None (map q) (ne_eqb key q other))
]

-- in an image with the values of the way to a key's node that is a node, and the map has its value
pub come_is : (reads : View → Reading) (w : View) (image : Image) (key : ℕ) (table : Block) (before : List Block) (node : Block) → IsSeat w
    → ((word value : ℕ) → IsOwn w.held w.roots word → reads w word value → image word ≡ value)
    → HasCome reads w (shard_of key) key table (before ++ (node ∷ []))
    → key_in image node ≡ key → (map : Map) → IsMapIn w image (shard_of key) map → (map key ≡ Some (value_in image node))
    × IsNode image (shard_of key) (bucket_of key) node
come_is reads w image key table before node seat has come key_is map is_map =
    let k = bucket_of key in
    let along = is_along reads w image seat (shard_of key) key map table (before ++ (node ∷ [])) has come is_map in
    let path : IsPath (but table (LeadsTo (Contains w.held))) image (shard_of key) k (table.first_word + k) ((before ++ (node ∷ [])) ++ along.rest) =
    subst (λ (bs : List Block). IsPath (but table (LeadsTo (Contains w.held))) image (shard_of key) k (table.first_word + k) bs) along.is
    (along.chains k (bucket_below key)).path in
    let h = Contains-append_left (before ++ (node ∷ [])) along.rest node (Contains-append_right before (node ∷ []) node (in_head node [])) in
    let there = found_in (but table (LeadsTo (Contains w.held))) image (shard_of key) k (table.first_word + k)
    ((before ++ (node ∷ [])) ++ along.rest) node path h in
    let is = (in_path (but table (LeadsTo (Contains w.held))) image (shard_of key) k (table.first_word + k)
    ((before ++ (node ∷ [])) ++ along.rest) node path h).1 in (
      found_at map image (shard_of key) key along.nodes along.means refl ∙ ap (λ (bs : List Block). find image key bs) along.is
          ∙ ap (λ q. find image q ((before ++ (node ∷ [])) ++ along.rest)) (sym key_is) ∙ there,
      is,
    )

-- so is one that was found
pub found_is : (w : View) (key : ℕ) (place : Place) → IsSeat w → IsFoundPlace w key place → (map : Map) → GivesMap w (shard_of key) map
    → (image : Image) → Completes w image → (map key ≡ Some (value_in image place.node)) × IsNode image (shard_of key) (bucket_of key) place.node
found_is w key place seat found map gives image completes =
    let node = place.node in
    let room = found.room in
    let key_is : key_in image node ≡ key = completes.seen (node.first_word + 1) key
    (in_block node (node.first_word + 1) (found_held w key place found) (record { from = omega arith; until = omega arith })) found.key_seen in
    come_is IsSettling w image key found.table found.before node seat (settling_in w image completes) found.come key_is map
    (gives.each image completes.mixes)

-- the map has a key whose node was found
pub found_has : (w : View) (key : ℕ) (place : Place) → IsSeat w → IsFoundPlace w key place → (map : Map) → GivesMap w (shard_of key) map
    → map key ≢ None
found_has w key place seat found map gives none =
    let has = (found_is w key place seat found map gives (now_image w) (now_completes w)).0 in
    let clash : Some (value_in (now_image w) place.node) ≡ None = sym has ∙ none in
    absurd (cc)

-- nothing was found, so nothing was to be done
pub deletes_nothing : (v w : View) (key : ℕ) → KeepsOwn v w → Runs v w → ((map : Map) → GivesMap v (shard_of key) map → map key ≡ None)
    → Deletes key false v w
deletes_nothing v w key keeps runs none = record {
  runs = runs;
  gives = λ map gives.
      gives_same w (shard_of key) map (without_key map key) (without_missing map key (none map gives))
      (gives_grown v w (grown_keeps v w keeps) (shard_of key) map gives);
  tells = λ map gives. ((λ yes. absurd (search rules)), λ has. absurd (has (none map gives)));
}

-- the node was found, and removed
pub deletes_node : (v u w : View) (key : ℕ) (place : Place) → IsSeat u → KeepsOwn v u → Runs v u → IsFoundPlace u key place
    → Changes (shard_of key) (λ map. without_key map key) u w → Runs u w → Deletes key true v w
deletes_node v u w key place seat keeps runs found changes runs' =
    let grown = grown_keeps v u keeps in
    record {
      runs = runs_then v u w runs runs';
      gives = λ map gives. changes.gives map (gives_grown v u grown (shard_of key) map gives);
      tells = λ map gives. ((λ yes. found_has u key place seat found map (gives_grown v u grown (shard_of key) map gives)), λ has. search rules);
    }

-- the shard is a map still after quiet calls
pub shard_still : (v u : View) (shard : ℕ) → IsSeat u → KeepsOwn v u → u.kinds ≡ v.kinds → IsShard v shard → IsShard u shard
shard_still v u shard seat keeps kinds is = shard_grown v u shard seat (grown_keeps v u keeps) kinds is

-- the calls of a search, and some more
pub few_calls : (small large most words shard : ℕ) (v u w : View) → small ≤ 500 + 2 * words → large ≤ 3 → IsQuietWalk 5 shard v u
    → IsRow small large most u w → MakesFew words most shard v w
few_calls small large most words shard v u w s l walk row keys lists =
    let few = walk.few keys lists in
    row_more (walk.small + small) (0 + large) (0 + most) (512 + 2 * words + 4 * length keys) 3 most v w (omega arith) (omega arith)
    (omega arith) (row_then walk.small 0 0 small large most v u w walk.quiet.calls row)

pub few_quiet : (words most shard : ℕ) (v u : View) → IsQuietWalk 5 shard v u → MakesFew words most shard v u
few_quiet words most shard v u walk keys lists =
    let few = walk.few keys lists in
    row_more walk.small 0 0 (512 + 2 * words + 4 * length keys) 3 most v u (omega arith) (omega arith) (omega arith) walk.quiet.calls
