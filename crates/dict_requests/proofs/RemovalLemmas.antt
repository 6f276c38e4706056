-- A key's node on its way from being found to being freed.
use Rattle.std.proofs.Common.{◌≡◌, ℕ, ◌+◌, ◌<◌, ◌≤◌, inl, List, [], ◌∷◌, ◌++◌, Contains, subst, sym, ◌∙◌, arith}
use Rattle.std.proofs.lemmas.List.Elements.{Contains-append_right}
use Rattle.heap_model.proofs.MemberLemmas.{in_head}
use Rattle.heap_seat.specs.declared.spot.Spot.{Spot}
use Rattle.heap_seat.specs.declared.spot.Spot.TheVariants.{InBlock, Root}
use Rattle.heap_seat.specs.View.{View, word_of}
use Rattle.heap_seat.specs.Words.{IsOwn, IsOwnSpot, in_block, KeepsOwn, MayHaveStored}
use Rattle.heap_seat.specs.Calls.{WritesBack}
use Rattle.heap_seat.specs.Rows.{Settles}
use Rattle.heap_seat.specs.Free.{MayHaveFreed}
use Rattle.heap_seat.specs.Sound.{IsSeat}
use Rattle.heap_seat.proofs.CallerLemmas.{own_same, spot_written, keeps_own_then}
use Rattle.dict_model.specs.Links.{node_kind}
use Rattle.dict_model.specs.Nodes.{shard_of, bucket_of}
use Rattle.dict_model.specs.Requests.{without_key}
use Rattle.dict_requests.specs.declared.walk.Place.{Place}
use Rattle.dict_requests.specs.Trails.{IsDurableAt, IsSettling}
use Rattle.dict_requests.specs.Quiet.{GoesPending, FollowsLink}
use Rattle.dict_requests.specs.Walks.{IsFoundPlace}
use Rattle.dict_requests.specs.Changes.{MayChange, Changes, IsReadPlace}
use Rattle.dict_requests.specs.Removal.{IsLoose, IsShard, ReadsPlace}
use Rattle.dict_requests.proofs.GrownLemmas.{Grown, stays_held, kind_kept, grown_keeps, shard_grown}
use Rattle.dict_requests.proofs.TrailLemmas.{come_stays, settles}
use Rattle.dict_requests.proofs.MapPublishLemmas.{trail_held}
use Rattle.dict_requests.proofs.QuietLemmas.{goes_then, still_settling}
use Rattle.dict_requests.proofs.ChangeLemmas.{change_after, changes_after, freed}
use Rattle.dict_requests.proofs.DeleteLemmas.{shard_below, node_held, node_reached, unlink_left, unlinked, unreached}

-- the node that was found is held
pub found_held : (v : View) (key : ℕ) (place : Place) → IsFoundPlace v key place → Contains v.held place.node
found_held v key place found = trail_held (IsSettling v) v.held (found.table.first_word + bucket_of key)
    (found.before ++ (place.node ∷ [])) place.node found.come.trail
    (Contains-append_right found.before (place.node ∷ []) place.node (in_head place.node []))

pub still_own : (v w : View) (s : Spot) → KeepsOwn v w → IsOwnSpot v s → IsOwnSpot w s
still_own v w (InBlock b index) keeps h = (stays_held v w keeps.held b h.0, h.1)
still_own v w (Root i) keeps h = subst (λ (rs : List ℕ). Contains rs i) (sym keeps.roots) h

-- its link and its key were followed
pub takes : (v u w : View) (key next : ℕ) (place : Place) → IsSeat v → IsFoundPlace v key place → KeepsOwn v u
    → FollowsLink (place.node.first_word + 0) next v u
    → KeepsOwn u w → WritesBack (InBlock place.node 1) u w → ReadsPlace key place next v w
takes v u w key next place seat found keeps follows keeps' writes =
    let node = place.node in
    let held = found_held v key place found in
    let room = found.room in
    let goes : GoesPending u w = record { runs = writes.runs; pending = writes.pending } in
    let both = goes_then v u w follows.goes goes in
    let all = keeps_own_then v u w keeps keeps' in
    let first_own : IsOwn v.held v.roots (node.first_word + 0) = in_block node (node.first_word + 0) held
    (record { from = omega arith; until = omega arith }) in
    let key_own : IsOwn v.held v.roots (node.first_word + 1) = in_block node (node.first_word + 1) held
    (record { from = omega arith; until = omega arith }) in
    let zero_more : node.first_word + 0 ≡ node.first_word = omega arith in
    record {
      goes = both;
      taken = record {
        table = found.table;
        before = found.before;
        come = come_stays IsSettling IsSettling v w (shard_of key) key found.table (found.before ++ (node ∷ [])) seat (grown_keeps v w all)
            (λ word value own settling. still_settling v w word value own all both settling) found.come;
        at_is = found.at_is;
        own = still_own v w place.link all found.own;
        room = room;
        next_is = subst (λ q. IsSettling w q next) zero_more
            (still_settling u w (node.first_word + 0) next (own_same v u (node.first_word + 0) keeps.held keeps.roots first_own)
            keeps' goes follows.settling);
        key_is = record {
          seen = (all.words (node.first_word + 1) key_own).volatile key found.key_seen;
          coming = inl (writes.line (node.first_word + 1) (spot_written u (InBlock node 1) (stays_held v u keeps.held node held, omega arith)));
        };
      };
    }

-- after a fence all of it is durable
pub taken_settled : (u w : View) (key next : ℕ) (place : Place) → IsSeat u → KeepsOwn u w → Settles u w
    → IsReadPlace IsSettling u key place next → IsReadPlace IsDurableAt w key place next
taken_settled u w key next place seat keeps settled taken =
    let node = place.node in
    let held = trail_held (IsSettling u) u.held (taken.table.first_word + bucket_of key) (taken.before ++ (node ∷ [])) node taken.come.trail
    (Contains-append_right taken.before (node ∷ []) node (in_head node [])) in
    let some = (seat.placed node held).some in
    let own : (word : ℕ) → node.first_word ≤ word → word < node.first_word + node.words
    → IsOwn u.held u.roots word = λ word from until. in_block node word held (record { from = from; until = until }) in
    let settle = λ (word : ℕ) (value : ℕ) (o : IsOwn u.held u.roots word) (s : IsSettling u word value). settles u w word value o
    (keeps.words word o) settled s in
    record {
      table = taken.table;
      before = taken.before;
      come = come_stays IsSettling IsDurableAt u w (shard_of key) key taken.table (taken.before ++ (node ∷ [])) seat
          (grown_keeps u w keeps) settle taken.come;
      at_is = taken.at_is;
      own = still_own u w place.link keeps taken.own;
      room = taken.room;
      next_is = settle node.first_word next (own node.first_word (omega arith) (omega arith)) taken.next_is;
      key_is = settle (node.first_word + 1) key (own (node.first_word + 1) (omega arith) (let room = taken.room in omega arith)) taken.key_is;
    }

-- what the parts of a removal leave: before its link is stored to, by that store, and by freeing the node
module _ (v u : View) (key : ℕ) (place : Place) (next : ℕ) (seat : IsSeat u) (shard : IsShard v (shard_of key)) (grown : Grown v u)
    (kinds : u.kinds ≡ v.kinds) (taken : IsReadPlace IsDurableAt u key place next) where
  still : IsShard u (shard_of key)
  still = shard_grown v u (shard_of key) seat grown kinds shard

  module _ (w : View) (may : MayHaveStored (word_of place.link) next u w) (kinds_w : w.kinds ≡ u.kinds) where
    left_here : MayChange (shard_of key) (λ map. without_key map key) u w
    left_here = unlink_left u seat key place next taken still.map still.gives still.kind_is w may kinds_w still.only

    pub left_stored : MayChange (shard_of key) (λ map. without_key map key) v w
    left_stored = change_after (shard_of key) (λ map. without_key map key) v u w grown kinds seat shard.only left_here

    pub node_still : Contains w.held place.node
    node_still = stays_held u w may.held place.node (node_held u seat key place next taken still.map still.gives still.kind_is)

    pub left_freed : (x : View) → IsSeat w → IsDurableAt w (word_of place.link) next → MayHaveFreed place.node w x → x.kinds ≡ w.kinds
        → Changes (shard_of key) (λ map. without_key map key) v x × MayChange (shard_of key) (λ map. without_key map key) v x
    left_freed x seat_w settled freeing kinds_x =
        let both = freed (shard_of key) (λ map. without_key map key) u w x place.node node_kind (shard_below key)
        (kind_kept u w (shard_of key) kinds_w ∙ still.kind_is) seat_w
        (subst (λ (rs : List ℕ). Contains rs (shard_of key)) (sym (may.roots ∙ grown.roots)) shard.owned) node_still
        (record { gives = unlinked u seat key place next taken still.map still.gives still.kind_is w may kinds_w settled })
        left_here.only left_here.table left_here.others
        (node_reached u seat key place next taken still.map still.gives still.kind_is)
        (unreached u seat key place next taken still.map still.gives still.kind_is w may kinds_w seat_w still.only settled) freeing kinds_x in (
          changes_after (shard_of key) (λ map. without_key map key) v u x grown both.0,
          change_after (shard_of key) (λ map. without_key map key) v u x grown kinds seat shard.only both.1,
        )

    -- where the link is durable, the node is out, and loose
    pub left_unlinked : IsDurableAt w (word_of place.link) next → Changes (shard_of key) (λ map. without_key map key) v w
    left_unlinked settled = changes_after (shard_of key) (λ map. without_key map key) v u w grown
        (record { gives = unlinked u seat key place next taken still.map still.gives still.kind_is w may kinds_w settled })

    pub left_loose : IsSeat w → IsDurableAt w (word_of place.link) next → IsLoose place.node w
    left_loose seat_w settled = record {
      held = node_still;
      unreached =
          unreached u seat key place next taken still.map still.gives still.kind_is w may kinds_w seat_w still.only settled;
    }
