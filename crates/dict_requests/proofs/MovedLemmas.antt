-- A node on its way: what value it has, and that it has it still where its words are not stored to.
use Rattle.std.proofs.Common.{◌≡◌, true, false, rules, ℕ, ◌+◌, ◌<◌, ◌≤◌, List, length, take, None, Some, Contains, ap, subst, sym, ◌∙◌, arith}
use Rattle.heap_model.specs.declared.block.Block.{Block}
use Rattle.heap_model.specs.Image.{Image, words_from, bytes_of_words}
use Rattle.heap_model.specs.Blocks.{IsIn}
use Rattle.heap_seat.specs.View.{View, word_of}
use Rattle.heap_seat.specs.Words.{in_block, MayRead, MixesOwn, KeepsWord, KeepsOwn, MayHaveStored}
use Rattle.heap_seat.specs.Tickets.{Runs}
use Rattle.heap_seat.specs.Sound.{IsSeat}
use Rattle.heap_seat.proofs.CallerLemmas.{read_before}
use Rattle.dict_model.specs.Links.{node_kind}
use Rattle.dict_model.specs.Nodes.{largest_value, shard_of, bucket_of, value_words, key_in, length_in, value_in, IsNode}
use Rattle.dict_model.specs.Shards.{Map}
use Rattle.dict_model.proofs.ChainLemmas.{words_same}
use Rattle.dict_requests.specs.declared.walk.Place.{Place}
use Rattle.dict_requests.specs.Maps.{GivesMap}
use Rattle.dict_requests.specs.Trails.{IsDurableAt}
use Rattle.dict_requests.specs.Changes.{IsReadPlace}
use Rattle.dict_requests.specs.Removal.{IsShard}
use Rattle.dict_requests.specs.Moving.{MixesBlock, IsNodeOf, IsTakenOut, TellsKey, TakesOut, known_of}
use Rattle.dict_requests.specs.Reached.{ReachesOnlyHeld}
use Rattle.dict_requests.specs.Walks.{IsFoundPlace}
use Rattle.dict_requests.proofs.GrownLemmas.{Grown, grown_keeps, gives_grown, shard_grown, reached_before}
use Rattle.dict_requests.proofs.TrailLemmas.{now_image, now_completes, settled_in}
use Rattle.dict_requests.proofs.ReadableLemmas.{readable, readable_may, readable_mixes, readable_same}
use Rattle.dict_requests.proofs.ReadLemmas.{value_length}
use Rattle.dict_requests.proofs.DeleteLemmas.{outside, node_reached}
use Rattle.dict_requests.proofs.DelLemmas.{come_is, found_has}
use Rattle.dict_requests.proofs.RemovalLemmas.{left_unlinked, left_loose}

-- a value stands behind the link and the key
value_same : (image other : Image) (b : Block) → ((word : ℕ) → b.first_word + 2 ≤ word → word < b.first_word + b.words → other word ≡ image word)
    → 3 + value_words (length_in image b) ≤ b.words → value_in other b ≡ value_in image b
value_same image other b same fits =
    let len : length_in other b ≡ length_in image b = same (b.first_word + 2) (omega arith) (omega arith) in
    let words = words_same image other (b.first_word + 3) (value_words (length_in image b)) (λ word low high. same word (omega arith) (omega arith)) in
    ap (λ n. take n (bytes_of_words (words_from other (b.first_word + 3) (value_words n)))) len
    ∙ ap (λ (ws : List ℕ). take (length_in image b) (bytes_of_words ws)) words

-- another view of which no more may be read
pub node_carried : (v w : View) (b : Block) (value : List ℕ) → ((word x : ℕ) → IsIn b word → b.first_word + 2 ≤ word → MayRead w word x
    → MayRead v word x)
    → IsNodeOf v b value → IsNodeOf w b value
node_carried v w b value before node = record { short = node.short; fits = node.fits; each = by_image } where
  by_image : (image : Image) → MixesBlock (known_of w) b image → value_in image b ≡ value
  by_image image mixes =
      let full = readable v image in
      let there : value_in full b ≡ value = node.each full (λ word inside. readable_may v image word) in
      let len : length_in full b ≡ length value = sym (value_length full b) ∙ ap length there in
      value_same full image b
      (λ word low high.
      let inside : IsIn b word = record { from = omega arith; until = high } in
      readable_same v image word (before word (image word) inside low (mixes word inside)))
      (subst (λ n. 3 + value_words n ≤ b.words) (sym len) node.fits) ∙ there

-- so over calls that don't store to its words
pub node_kept : (v w : View) (b : Block) (value : List ℕ) → ((word : ℕ) → IsIn b word → b.first_word + 2 ≤ word → KeepsWord v w word)
    → IsNodeOf v b value → IsNodeOf w b value
node_kept v w b value keeps = node_carried v w b value (λ word x inside behind may. read_before v w word x (keeps word inside behind) may)

-- a key's node whose place is settled has the map's value
module _ (u : View) (seat : IsSeat u) (key : ℕ) (place : Place) (next : ℕ) (taken : IsReadPlace IsDurableAt u key place next)
    (held : Contains u.held place.node) where
  pub has_value : (map : Map) → GivesMap u (shard_of key) map → (image : Image) → MixesOwn u image
      → (map key ≡ Some (value_in image place.node)) × IsNode image (shard_of key) (bucket_of key) place.node
  has_value map gives image mixes =
      let node = place.node in
      let room = taken.room in
      let key_is : key_in image node ≡ key = settled_in u image mixes (node.first_word + 1) key
      (in_block node (node.first_word + 1) held (record { from = omega arith; until = omega arith })) taken.key_is in
      come_is IsDurableAt u image key taken.table taken.before node seat (settled_in u image mixes) taken.come key_is map (gives.each image mixes)

  pub node_there : (map : Map) → GivesMap u (shard_of key) map → IsNodeOf u place.node (value_in (now_image u) place.node)
  node_there map gives = record {
    short = subst (λ n. n ≤ largest_value) (sym (value_length (now_image u) place.node)) now.1.short;
    fits = subst (λ n. 3 + value_words n ≤ place.node.words) (sym (value_length (now_image u) place.node)) now.1.fits;
    each = by_image;
  } where
    now : (map key ≡ Some (value_in (now_image u) place.node)) × IsNode (now_image u) (shard_of key) (bucket_of key) place.node
    now = has_value map gives (now_image u) (now_completes u).mixes

    by_image : (image : Image) → MixesBlock (known_of u) place.node image → value_in image place.node ≡ value_in (now_image u) place.node
    by_image image mixes =
        let full = readable u image in
        let there = has_value map gives full (readable_mixes u image) in
        let one : Some (value_in full place.node) ≡ Some (value_in (now_image u) place.node) = sym there.0 ∙ now.0 in
        let same : value_in full place.node ≡ value_in (now_image u) place.node = cc in
        value_same full image place.node
        (λ word low high.
        readable_same u image word (mixes word (record { from = omega arith; until = high }))) there.1.fits ∙ same

-- and keeps it where it is taken out
module _ (v u w : View) (key : ℕ) (place : Place) (next : ℕ) (seat : IsSeat u) (shard : IsShard v (shard_of key)) (grown : Grown v u)
    (kinds : u.kinds ≡ v.kinds) (taken : IsReadPlace IsDurableAt u key place next)
    (may : MayHaveStored (word_of place.link) next u w) (kinds_w : w.kinds ≡ u.kinds) (seat_w : IsSeat w)
    (settled : IsDurableAt w (word_of place.link) next) where
  pub taken_out : Contains v.held place.node → IsTakenOut key place.node v w
  taken_out was =
      let still = shard_grown v u (shard_of key) seat grown kinds shard in
      let held = grown.keeps place.node was in
      record {
        value = value_in (now_image u) place.node;
        had = λ map gives. (has_value u seat key place next taken held map (gives_grown v u grown (shard_of key) map gives) (now_image u)
            (now_completes u).mixes).0;
        gives = (left_unlinked v u key place next seat shard grown kinds taken w may kinds_w settled).gives;
        was = was;
        reached = (
          node_kind,
          reached_before v u grown kinds seat shard.only (shard_of key) place.node node_kind
              (node_reached u seat key place next taken still.map still.gives still.kind_is),
        );
        loose = left_loose v u key place next seat shard grown kinds taken w may kinds_w seat_w settled;
        node = node_kept u w place.node (value_in (now_image u) place.node)
            (λ word inside behind. may.others word (in_block place.node word held inside)
            (outside u seat key place next taken still.map still.gives still.kind_is word inside))
            (node_there u seat key place next taken held still.map still.gives);
      }

-- over quiet calls before
pub taken_behind : (v u w : View) (key : ℕ) (b : Block) → KeepsOwn v u → u.kinds ≡ v.kinds → IsSeat u → ReachesOnlyHeld v → IsTakenOut key b u w
    → IsTakenOut key b v w
taken_behind v u w key b keeps kinds seat only out = record {
  value = out.value;
  had = λ map gives. out.had map (gives_grown v u (grown_keeps v u keeps) (shard_of key) map gives);
  gives = λ map gives. out.gives map (gives_grown v u (grown_keeps v u keeps) (shard_of key) map gives);
  was = subst (λ (bs : List Block). Contains bs b) keeps.held out.was;
  reached = (out.reached.0, reached_before v u (grown_keeps v u keeps) kinds seat only (shard_of key) b out.reached.0 out.reached.1);
  loose = out.loose;
  node = out.node;
}

-- nothing was there to be taken out
pub takes_nothing : (v w : View) (key : ℕ) → KeepsOwn v w → ((map : Map) → GivesMap v (shard_of key) map → map key ≡ None) → TakesOut key None v w
takes_nothing v w key keeps none map gives = (none map gives, gives_grown v w (grown_keeps v w keeps) (shard_of key) map gives)

-- a search that found the key, and one that didn't
pub tells_found : (v u : View) (key : ℕ) (place : Place) → IsSeat u → KeepsOwn v u → Runs v u → IsFoundPlace u key place → TellsKey key true v u
tells_found v u key place seat keeps runs found = record {
  runs = runs;
  tells = λ map gives.
      ((λ yes. found_has u key place seat found map (gives_grown v u (grown_keeps v u keeps) (shard_of key) map gives)), λ has. search rules);
}

pub tells_missing : (v u : View) (key : ℕ) → Runs v u → ((map : Map) → GivesMap v (shard_of key) map → map key ≡ None) → TellsKey key false v u
tells_missing v u key runs none = record {
  runs = runs;
  tells = λ map gives. ((λ yes. absurd (search rules)), λ has. absurd (has (none map gives)));
}
