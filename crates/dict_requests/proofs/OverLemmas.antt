-- Putting a node in the place of the key's old one, and freeing that.
use Rattle.std.proofs.Common.{◌≡◌, ◌≢◌, ℕ, ◌+◌, ◌⊎◌, inl, inr, List, [], ◌∷◌, ◌++◌, Contains, refl, subst, sym, ◌∙◌, arith, Some}
use Rattle.std.proofs.lemmas.Bool.{cases_eq}
use Rattle.heap_model.specs.declared.block.Block.{Block}
use Rattle.heap_model.specs.Image.{Image}
use Rattle.heap_model.specs.Geometry.{root_word}
use Rattle.heap_model.specs.Blocks.{IsIn}
use Rattle.std.proofs.lemmas.List.Elements.{Contains-append_right}
use Rattle.heap_model.proofs.MemberLemmas.{in_head}
use Rattle.heap_seat.specs.declared.spot.Spot.{Spot}
use Rattle.heap_seat.specs.declared.spot.Spot.TheVariants.{InBlock, Root}
use Rattle.heap_seat.specs.View.{View, word_of}
use Rattle.heap_seat.specs.Words.{IsOwn, IsOwnSpot, in_root, in_block, KeepsOwn, MixesOwn, MayHaveStored}
use Rattle.heap_seat.specs.Free.{MayHaveFreed}
use Rattle.heap_seat.specs.Sound.{IsSeat}
use Rattle.heap_seat.proofs.CallerLemmas.{own_same, own_spot}
use Rattle.dict_model.specs.Links.{node_kind}
use Rattle.dict_model.specs.Nodes.{shard_of, bucket_of}
use Rattle.dict_model.specs.Requests.{with_key}
use Rattle.dict_model.specs.Shards.{Map, LeadsTo, IsPath, but, link_behind}
use Rattle.dict_model.proofs.ChainLemmas.{in_path}
use Rattle.dict_model.proofs.PlacedLemmas.{one_holder, first_in}
use Rattle.dict_requests.specs.declared.walk.Place.{Place}
use Rattle.dict_requests.specs.Maps.{IsMapIn, GivesMap}
use Rattle.dict_requests.specs.Reached.{MayReach, ReachesOnlyHeld, Reaches, ReachesAllHeld}
use Rattle.dict_requests.specs.Trails.{pointer_to, IsDurableAt, IsSettling, HasCome}
use Rattle.dict_requests.specs.Quiet.{Grown}
use Rattle.dict_requests.specs.Nodes.{HasNode}
use Rattle.dict_requests.specs.Changes.{MayChange, Changes, IsReadPlace}
use Rattle.dict_requests.specs.Removal.{IsShard}
use Rattle.dict_requests.proofs.GrownLemmas.{are_placed, stays_held, kind_kept, grown_keeps, grown_then, only_grown, shard_grown, new_block_outside}
use Rattle.dict_requests.proofs.TrailLemmas.{now_image, settled_stays, come_stays, first_own, bucket_own, bucket_below, trail_more, leads_held}
use Rattle.dict_requests.proofs.MapPublishLemmas.{trail_held}
use Rattle.dict_requests.proofs.ComeLemmas.{followed_leads, own_link_followed, begins_chain, link_behind_roots, last_not_table, trail_kept}
use Rattle.dict_requests.proofs.PublishLemmas.{reached_after}
use Rattle.dict_requests.proofs.PutLemmas.{MaySet, put_left, put_done, old_key, publish}
use Rattle.dict_requests.proofs.ExactLemmas.{SeesLink, target_sees, come_sees, node_link, sees_grown, sees_after, sees_freed}
use Rattle.dict_requests.proofs.ExactCallLemmas.{come_kept, one_kind, leads_to_node, next_value, not_root}
use Rattle.dict_requests.proofs.ChangeLemmas.{change_after, changes_after, freed}
use Rattle.dict_requests.proofs.DeleteLemmas.{shard_below, IsFoundNode, found_node, link_kind, node_word_own, key_in_node, outside}
use Rattle.dict_requests.proofs.UnreachedLemmas.{replaced}

-- what was taken stays where words settle and blocks come; its table, link and node were there before
pub taken_made : (t u : View) (key next : ℕ) (place : Place) → IsSeat t → Grown t u
    → ((word value : ℕ) → IsOwn t.held t.roots word → IsSettling t word value → IsDurableAt u word value)
    → IsReadPlace IsSettling t key place next
    → (made : IsReadPlace IsDurableAt u key place next) × Contains t.held made.table × IsOwn t.held t.roots (word_of place.link)
    × Contains t.held place.node
taken_made t u key next place seat grown settle taken =
    let node = place.node in
    let held = trail_held (IsSettling t) t.held (taken.table.first_word + bucket_of key) (taken.before ++ (node ∷ [])) node taken.come.trail
    (Contains-append_right taken.before (node ∷ []) node (in_head node [])) in
    let some = (seat.placed node held).some in
    let room = taken.room in (
      record {
        table = taken.table;
        before = taken.before;
        come = come_stays IsSettling IsDurableAt t u (shard_of key) key taken.table (taken.before ++ (node ∷ [])) seat grown settle taken.come;
        at_is = taken.at_is;
        own = own_spot_grown t u place.link grown taken.own;
        room = taken.room;
        next_is = settle node.first_word next (in_block node node.first_word held (record { from = omega arith; until = omega arith })) taken.next_is;
        key_is = settle (node.first_word + 1) key (in_block node (node.first_word + 1) held
            (record { from = omega arith; until = omega arith })) taken.key_is;
      },
      taken.come.held_table,
      own_spot t place.link taken.own,
      held,
    ) where
      own_spot_grown : (t u : View) (s : Spot) → Grown t u → IsOwnSpot t s → IsOwnSpot u s
      own_spot_grown t u (InBlock b index) grown h = (grown.keeps b h.0, h.1)
      own_spot_grown t u (Root i) grown h = subst (λ (rs : List ℕ). Contains rs i) (sym grown.roots) h

module _ (v t u w : View) (seat_t : IsSeat t) (seat : IsSeat u) (key next x : ℕ) (value : List ℕ) (place : Place) (n : Block)
    (shard : IsShard v (shard_of key)) (keeps : KeepsOwn v t)
    (taken : IsReadPlace IsDurableAt u key place next) (table_t : Contains t.held taken.table)
    (own_t : IsOwn t.held t.roots (word_of place.link)) (node_t : Contains t.held place.node)
    (grown_u : Grown t u) (makes : HasNode n key next value t u)
    (points : x ≡ pointer_to n) (may : MayHaveStored (word_of place.link) x u w)
    (kinds_t : t.kinds ≡ v.kinds) (kinds_u : u.kinds ≡ t.kinds) (kinds_w : w.kinds ≡ u.kinds) where
  grown_all : Grown v u
  grown_all = grown_then v t u (grown_keeps v t keeps) grown_u

  kinds_all : u.kinds ≡ v.kinds
  kinds_all = kinds_u ∙ kinds_t

  still : IsShard u (shard_of key)
  still = shard_grown v u (shard_of key) seat grown_all kinds_all shard

  only_t : ReachesOnlyHeld t
  only_t = only_grown v t (grown_keeps v t keeps) kinds_t seat_t shard.only

  found : IsFoundNode u key place taken.table taken.before
  found = found_node u seat key place next taken still.map still.gives still.kind_is

  next_leads : (next ≡ 0) ⊎ ((f : Block) × LeadsTo (Contains u.held) next f × MayReach u (shard_of key) f node_kind)
  next_leads = followed_leads u seat (shard_of key) (shard_below key) place.node.first_word next
      (own_link_followed u seat (shard_of key) (shard_below key) place.node found.held found.reached) taken.next_is still.only

  first_word_own : IsOwn u.held u.roots place.node.first_word
  first_word_own = first_own u place.node seat found.held

  key_word_own : IsOwn u.held u.roots (place.node.first_word + 1)
  key_word_own = node_word_own u seat key place next taken still.map still.gives still.kind_is (place.node.first_word + 1)
      (key_in_node u seat key place next taken still.map still.gives still.kind_is)

  new_map : (map : Map) → GivesMap u (shard_of key) map → (image : Image) → MixesOwn w image → image (word_of place.link) ≡ x
      → IsMapIn w image (shard_of key) (with_key map key value)
  new_map = old_key t u seat grown_u kinds_u only_t key next value n makes.held makes.new makes.node makes.key_is makes.next_is next_leads
      w still.only taken.table taken.before (place.node ∷ []) taken.come found.come (word_of place.link) x
      (pointer_to place.node) taken.at_is found.link may points own_t table_t taken.next_is first_word_own still.kind_is kinds_w
      place.node refl taken.key_is key_word_own

  left_here : MaySet key value u w
  left_here = put_left t u seat grown_u kinds_u only_t key next value n makes.held makes.new makes.node makes.key_is makes.next_is next_leads
      w still.only taken.table taken.before (place.node ∷ []) taken.come found.come (word_of place.link) x
      (pointer_to place.node) taken.at_is found.link may points own_t table_t taken.next_is first_word_own still.kind_is kinds_w new_map

  pub over_left : MaySet key value v w
  over_left = change_after (shard_of key) (λ map. with_key map key value) v u w grown_all kinds_all seat shard.only left_here

  pub old_still : Contains w.held place.node
  old_still = stays_held u w may.held place.node found.held

  module _ (seat_w : IsSeat w) (settled : IsDurableAt w (word_of place.link) x) where
    done_here : Changes (shard_of key) (λ map. with_key map key value) u w
    done_here = put_done t u seat grown_u kinds_u only_t key next value n makes.held makes.new makes.node makes.key_is makes.next_is next_leads
        w still.only taken.table taken.before (place.node ∷ []) taken.come found.come (word_of place.link) x
        (pointer_to place.node) taken.at_is found.link may points own_t table_t taken.next_is first_word_own still.kind_is kinds_w new_map settled

    kept : (word y : ℕ) → IsOwn u.held u.roots word → word ≢ word_of place.link → IsDurableAt u word y → IsDurableAt w word y
    kept word y own differs was = settled_stays u w word y (may.others word own differs) was

    path : IsPath (but taken.table (LeadsTo (Contains u.held))) (now_image u) (shard_of key) (bucket_of key)
        (taken.table.first_word + bucket_of key) taken.before
    path = begins_chain u seat key (shard_below key) taken.table taken.before found.come still.map still.gives

    come_w : HasCome IsDurableAt w (shard_of key) key taken.table (taken.before ++ (n ∷ []))
    come_w = record {
      owned = subst (λ (rs : List ℕ). Contains rs (shard_of key)) (sym may.roots) taken.come.owned;
      in_shard = refl;
      held_table = subst (λ (bs : List Block). Contains bs taken.table) (sym may.held) taken.come.held_table;
      size = taken.come.size;
      root = kept (root_word (shard_of key)) (pointer_to taken.table) (in_root (shard_of key) (root_word (shard_of key)) taken.come.owned refl)
          (λ e. link_behind_roots u key taken.table taken.before (shard_of key) seat taken.come.owned found.come (e ∙ taken.at_is)) taken.come.root;
      trail = trail_more (IsDurableAt w) w.held (taken.table.first_word + bucket_of key) taken.before n
          (trail_kept u w (word_of place.link) x seat may taken.table (now_image u) (shard_of key) (bucket_of key)
          (taken.table.first_word + bucket_of key) taken.before taken.at_is
          (λ c h e.
          let c_is = (in_path (but taken.table (LeadsTo (Contains u.held))) (now_image u) (shard_of key) (bucket_of key)
          (taken.table.first_word + bucket_of key) taken.before c path h).0.1 in
          c_is.1 (one_holder (Contains u.held) (are_placed u seat) c taken.table (taken.table.first_word + bucket_of key) c_is.0.0 taken.come.held_table
          (subst (IsIn c) (sym e) (first_in (Contains u.held) (are_placed u seat) c c_is.0.0))
          (record { from = omega arith; until = let below = bucket_below key in let size = taken.come.size in omega arith })))
          path (bucket_own u taken.table (bucket_of key) taken.come.held_table taken.come.size (bucket_below key)) found.come.trail)
          (subst (λ (bs : List Block). Contains bs n) (sym may.held) makes.held)
          (subst (IsDurableAt w (link_behind (taken.table.first_word + bucket_of key) taken.before)) points
          (subst (λ q. IsDurableAt w q x) taken.at_is settled));
    }

    n_outside : (word : ℕ) → IsIn n word → word ≢ word_of place.link
    n_outside word inside same = new_block_outside t u n seat grown_u makes.held makes.new (word_of place.link) own_t (subst (IsIn n) same inside)

    n_key : IsIn n (n.first_word + 1)
    n_key = record { from = omega arith; until = let room = makes.node.fits in omega arith }

    n_key_own : IsOwn u.held u.roots (n.first_word + 1)
    n_key_own = in_block n (n.first_word + 1) makes.held n_key

    unreached : (root kind : ℕ) → MayReach w root place.node kind → ⊥
    unreached root kind reached = elim (cases_eq (shard_of key) root) as (λ _. ⊥) [
      | inl same ↦
          replaced w seat_w (shard_of key) (with_key still.map key value)
          (done_here.gives still.map still.gives) taken.table come_w.owned come_w.held_table come_w.size come_w.root
          place.node n key kind taken.before (last_not_table u seat key
          (shard_below key) still.map still.gives taken.table place.node taken.before taken.come)
          (λ e. makes.new (subst (Contains t.held) e node_t))
          (kept (place.node.first_word + 1) key key_word_own (outside u seat key place next taken still.map still.gives still.kind_is
          (place.node.first_word + 1) (key_in_node u seat key place next taken still.map still.gives still.kind_is)) taken.key_is)
          (own_same u w (place.node.first_word + 1) may.held may.roots key_word_own)
          (kept (n.first_word + 1) key n_key_own (n_outside (n.first_word + 1) n_key) makes.key_is)
          (own_same u w (n.first_word + 1) may.held may.roots n_key_own)
          come_w (subst (λ r. MayReach w r place.node kind) (sym same) reached)
      | inr differs ↦
          let at = link_kind u seat key place next taken still.map still.gives still.kind_is in
          let may_publish = publish t u seat grown_u kinds_u only_t key next value n makes.held makes.new makes.node makes.key_is makes.next_is
          next_leads
          w still.only taken.table taken.before (place.node ∷ []) taken.come found.come (word_of place.link) x
          (pointer_to place.node) taken.at_is found.link may points own_t table_t taken.next_is first_word_own still.kind_is kinds_w in
          elim (reached_after u w (shard_of key) (word_of place.link) x node_kind seat
          (shard_below key) may kinds_w still.only at may_publish root place.node kind reached) as (λ _. ⊥) [
            | inl before ↦ still.only.alone (shard_of key) root place.node node_kind kind (shard_below key) differs found.reached before
            | inr fresh ↦ differs (sym fresh.0)
          ]
    ]

    pub over_freed : (y : View) → MayHaveFreed place.node w y → y.kinds ≡ w.kinds → Changes (shard_of key) (λ map. with_key map key value) v y
        × MayChange (shard_of key) (λ map. with_key map key value) v y
    over_freed y freeing kinds_y =
        let both = freed (shard_of key) (λ map. with_key map key value) u w y place.node node_kind (shard_below key)
        (kind_kept u w (shard_of key) kinds_w ∙ still.kind_is) seat_w come_w.owned old_still done_here left_here.only left_here.table
        left_here.others
        found.reached unreached freeing kinds_y in (
          changes_after (shard_of key) (λ map. with_key map key value) v u y grown_all both.0,
          change_after (shard_of key) (λ map. with_key map key value) v u y grown_all kinds_all seat shard.only both.1,
        )

    -- all that is held is reached still, the new node in the old one's place
    pub all_over : (y : View) → MayHaveFreed place.node w y → y.kinds ≡ w.kinds → (Contains y.held place.node → ⊥) → ReachesAllHeld v → ReachesAllHeld y
    all_over y freeing kinds_y gone all = record { only = (over_freed y freeing kinds_y).1.only; all = reached } where
      n_reached : Reaches w (shard_of key) n node_kind
      n_reached = target_sees w (shard_of key) (word_of place.link) x n
          (subst (λ q. SeesLink w (shard_of key) q) (sym taken.at_is)
          (come_sees w key taken.table taken.before seat_w (come_kept u w key
          (word_of place.link) x taken.table taken.before still.map seat still.gives found.come taken.at_is may)
          (kind_kept u w (shard_of key) kinds_w ∙ still.kind_is)))
          settled.seen (subst (λ q. LeadsTo (Contains w.held) q n) (sym points)
          (leads_held w n seat_w (subst (λ (bs : List Block). Contains bs n) (sym may.held) makes.held)))

      n_next : w.volatile n.first_word ≡ Some next
      n_next =
          let room = makes.node.fits in
          let zero_more : n.first_word + 0 ≡ n.first_word = omega arith in
          let inside : IsIn n (n.first_word + 0) = record { from = omega arith; until = omega arith } in
          subst (λ q. w.volatile q ≡ Some next) zero_more
          (kept (n.first_word + 0) next (in_block n (n.first_word + 0) makes.held inside) (n_outside (n.first_word + 0) inside) makes.next_is).seen

      past : (root : ℕ) (c : Block) (k : ℕ) → Reaches u root c k → Reaches w root c k ⊎ (c ≡ place.node)
      past = sees_after u w seat (shard_of key) (word_of place.link) x (pointer_to place.node) (shard_below key) may kinds_w still.only
          (link_kind u seat key place next taken still.map still.gives still.kind_is)
          (publish t u seat grown_u kinds_u only_t key next value n makes.held makes.new makes.node makes.key_is makes.next_is next_leads
          w still.only taken.table taken.before (place.node ∷ []) taken.come found.come (word_of place.link) x
          (pointer_to place.node) taken.at_is found.link may points own_t table_t taken.next_is first_word_own still.kind_is kinds_w)
          found.link (not_root u w seat seat_w key place next taken still.map still.gives still.only still.kind_is kinds_w) (λ d. d ≡ place.node)
          (λ d leads. inl (leads_to_node u w seat seat_w key place next taken still.map still.gives still.only still.kind_is kinds_w d leads))
          (λ a d read same seen leads.
          inr (target_sees w (shard_of key) n.first_word next d (node_link w (shard_of key) n seat_w n_reached) n_next
          (subst (λ q. LeadsTo (Contains w.held) q d) (next_value u w seat seat_w key place next taken still.map still.gives still.only
          still.kind_is kinds_w a read same seen)
          (subst (λ (bs : List Block). Contains bs d) (sym may.held) leads.0, leads.1))))
          (one_kind u w seat seat_w key place next taken still.map still.gives still.only still.kind_is kinds_w)

      reached : (c : Block) → Contains y.held c → (root : ℕ) × (kind : ℕ) × Reaches y root c kind
      reached c h = elim (makes.only c (subst (λ (bs : List Block). Contains bs c) may.held (freeing.only c h))) as (λ _. (root : ℕ)
          × (kind : ℕ) × Reaches y root c kind) [
            | inl same ↦ (
              shard_of key,
              node_kind,
              sees_freed w y place.node seat_w freeing kinds_y old_still unreached (shard_of key) c node_kind
                  (subst (λ (d : Block). Reaches w (shard_of key) d node_kind) (sym same) n_reached),
            )
            | inr was ↦
                let r = all.all c (subst (λ (bs : List Block). Contains bs c) keeps.held was) in
                elim (past r.0 c r.1 (sees_grown v u grown_all kinds_all r.0 c r.1 r.2)) as (λ _. (root : ℕ) × (kind : ℕ) × Reaches y root c kind) [
                  | inl on ↦ (r.0, r.1, sees_freed w y place.node seat_w freeing kinds_y old_still unreached r.0 c r.1 on)
                  | inr same ↦ absurd (gone (subst (Contains y.held) same h))
                ]
          ]
