-- What a link of a walk leads to, and how a walk goes on.
use Rattle.std.proofs.Common.{◌≡◌, ◌≢◌, ℕ, ◌+◌, ◌*◌, ◌≤◌, ◌⊎◌, inl, inr, List, [], ◌∷◌, ◌++◌, append-nil, length, length-append, None, Some, Contains, refl, ap, subst, sym, ◌∙◌, arith}
use Rattle.heap_model.specs.declared.block.Block.{Block}
use Rattle.heap_model.specs.Image.{Image}
use Rattle.heap_model.proofs.ReachLemmas.{not_null}
use Rattle.heap_seat.specs.View.{View, word_of}
use Rattle.heap_seat.specs.Words.{IsOwn, IsOwnSpot, in_block, KeepsOwn}
use Rattle.heap_seat.specs.Sound.{IsSeat}
use Rattle.heap_seat.specs.Calls.{Loads}
use Rattle.heap_seat.proofs.CallerLemmas.{own_same}
use Rattle.dict_model.specs.Nodes.{shard_of, bucket_of, key_in, find}
use Rattle.dict_model.specs.Shards.{Map, LeadsTo, IsBucketChain, but, link_behind}
use Rattle.dict_model.proofs.ChainLemmas.{path_right, find_in_none}
use Rattle.dict_model.proofs.ShardLemmas.{find_behind}
use Rattle.dict_model.proofs.PlacedLemmas.{held_once}
use Rattle.dict_requests.specs.Maps.{GivesMap}
use Rattle.dict_requests.specs.Reached.{IsNullOrHeld}
use Rattle.dict_requests.specs.Trails.{pointer_to, IsSettling, Completes, HasCome}
use Rattle.dict_requests.specs.Quiet.{IsQuiet, GoesPending, FollowsLink}
use Rattle.dict_requests.specs.declared.walk.Next.TheVariants.{End, Key, Other}
use Rattle.heap_seat.specs.declared.spot.Spot.{Spot}
use Rattle.heap_seat.specs.declared.spot.Spot.TheVariants.{InBlock, Root}
use Rattle.dict_requests.specs.Walks.{IsWalk, IsNodeAt, IsWalking, Walks, StepsAlong}
use Rattle.dict_requests.proofs.GrownLemmas.{are_placed, stays_held, grown_keeps, grown_then, own_grown, gives_grown}
use Rattle.dict_requests.proofs.TrailLemmas.{now_image, now_completes, completes_before, settling_in, IsAlong, is_along, found_at, come_stays, trail_more, behind_more, bucket_below}
use Rattle.dict_requests.proofs.MapPublishLemmas.{behind_own}
use Rattle.dict_requests.proofs.QuietLemmas.{still_settling, goes_then, quiet_then, quiet_none}

-- what a link leads to that isn't null
pub record IsLinked (v : View) (x : ℕ) (b : Block) : Type 0 where
  pub held : Contains v.held b
  pub points : x ≡ pointer_to b
  pub room : 3 ≤ b.words

module _ (v : View) (key at : ℕ) (table : Block) (seat : IsSeat v) (walk : IsWalk v key table at) where
  pub own_at : IsOwn v.held v.roots at
  own_at = subst (IsOwn v.held v.roots) (sym walk.at_is) (behind_own IsSettling v (shard_of key) key table walk.before seat walk.come)

  along_now : (image : Image) → Completes v image → IsAlong v image (shard_of key) key walk.map table walk.before
  along_now image completes = is_along IsSettling v image seat (shard_of key) key walk.map table walk.before
      (settling_in v image completes) walk.come (walk.gives.each image completes.mixes)

  -- the link that is loaded is null or leads to a node
  pub linked : (w : View) (x : ℕ) → KeepsOwn v w → w.volatile at ≡ Some x → (x ≡ 0) ⊎ ((b : Block) × IsLinked v x b)
  linked w x keeps seen =
      let image = now_image w in
      let completes = completes_before v w image (grown_keeps v w keeps) (now_completes w) in
      let along = along_now image completes in
      let k = bucket_of key in
      let x_is : image at ≡ x = (now_completes w).seen at x (own_grown v w at (grown_keeps v w keeps) own_at) seen in
      by_rest image along.rest (subst (λ (bs : List Block). IsBucketChain (but table (LeadsTo (Contains v.held))) image (shard_of key) k
      (table.first_word + k) bs) along.is (along.chains k (bucket_below key))) x_is where
        by_rest : (image : Image) (rest : List Block) → IsBucketChain (but table (LeadsTo (Contains v.held))) image (shard_of key)
            (bucket_of key) (table.first_word + bucket_of key) (walk.before ++ rest)
            → image at ≡ x → (x ≡ 0) ⊎ ((b : Block) × IsLinked v x b)
        by_rest image [] chain x_is =
            inl (sym x_is ∙ ap image walk.at_is ∙ ap (λ (bs : List Block). image (link_behind (table.first_word + bucket_of key) bs))
            (sym (append-nil walk.before)) ∙ chain.ends)
        by_rest image (b ∷ rest) chain x_is =
            let path = path_right (but table (LeadsTo (Contains v.held))) image (shard_of key) (bucket_of key)
            (table.first_word + bucket_of key) walk.before (b ∷ rest) chain.path in
            let leads : LeadsTo (Contains v.held) x b = subst (λ n. LeadsTo (Contains v.held) n b) (sym (ap image walk.at_is) ∙ x_is) path.0.0 in
            inr (b, record { held = leads.0; points = leads.1.tagged; room = let fits = path.1.fits in omega arith })

  module _ (u : View) (x : ℕ) (keeps : KeepsOwn v u) (follows : FollowsLink at x v u) where
    pub null_or_node : IsNullOrHeld u x
    null_or_node = elim (linked u x keeps follows.settling.seen) as (λ _. IsNullOrHeld u x) [
      | inl null ↦ inl null
      | inr b ↦ inr (
        b.0,
        (
          stays_held v u keeps.held b.0 b.1.held,
          record {
            tagged = b.1.points;
            short = let s = (seat.placed b.0 b.1.held).short in omega arith;
          },
        ),
      )
    ]

    pub node_at : IsSeat u → (b : Block) → LeadsTo (Contains u.held) x b → IsNodeAt u at b
    node_at seat_u b leads = elim (linked u x keeps follows.settling.seen) as (λ _. IsNodeAt u at b) [
      | inl null ↦ absurd (not_null x (8 * b.first_word) leads.1 null)
      | inr c ↦
          let same : c.0 ≡ b = (held_once (Contains u.held) (are_placed u seat_u)).one x c.0 b (
            stays_held v u keeps.held c.0 c.1.held,
            record {
              tagged = c.1.points;
              short = let s = (seat.placed c.0 c.1.held).short in
                  omega arith;
            },
          ) leads in
          record {
            held = leads.0;
            room = subst (λ (d : Block). 3 ≤ d.words) same c.1.room;
            link = subst (IsSettling u at) leads.1.tagged follows.settling;
          }
    ]

  -- a walk goes on over quiet calls
  pub walk_still : (w : View) → KeepsOwn v w → GoesPending v w → IsWalk w key table at
  walk_still w keeps goes =
      let grown = grown_keeps v w keeps in
      record {
        map = walk.map;
        gives = gives_grown v w grown (shard_of key) walk.map walk.gives;
        before = walk.before;
        come = come_stays IsSettling IsSettling v w (shard_of key) key table walk.before seat grown
            (λ word value own settling. still_settling v w word value own keeps goes settling) walk.come;
        past = record { none = λ image completes. walk.past.none image (completes_before v w image grown completes) };
        at_is = walk.at_is;
      }

-- a node on the way stays one over quiet calls
pub node_still : (v w : View) (at : ℕ) (b : Block) → IsOwn v.held v.roots at → KeepsOwn v w → GoesPending v w → IsNodeAt v at b → IsNodeAt w at b
node_still v w at b own keeps goes node = record {
  held = subst (λ (bs : List Block). Contains bs b) (sym keeps.held) node.held;
  room = node.room;
  link = still_settling v w at (pointer_to b) own keeps goes node.link;
}

-- past a node that doesn't have the key
pub walk_on : (v : View) (key at x : ℕ) (table b : Block) → IsSeat v → IsWalk v key table at → IsNodeAt v at b
    → v.volatile (b.first_word + 1) ≡ Some x → x ≢ key → IsWalk v key table (b.first_word + 0)
walk_on v key at x table b seat walk node seen other = record {
  map = walk.map;
  gives = walk.gives;
  before = walk.before ++ (b ∷ []);
  come = record {
    owned = walk.come.owned;
    in_shard = walk.come.in_shard;
    held_table = walk.come.held_table;
    size = walk.come.size;
    root = walk.come.root;
    trail = trail_more (IsSettling v) v.held (table.first_word + bucket_of key) walk.before b walk.come.trail node.held
        (subst (λ w. IsSettling v w (pointer_to b)) walk.at_is node.link);
  };
  past = record {
    none = λ image completes.
        let room = node.room in
        let key_is : key_in image b ≡ x = completes.seen (b.first_word + 1) x
        (in_block b (b.first_word + 1) node.held (record { from = omega arith; until = omega arith })) seen in
        find_in_none image key walk.before (b ∷ []) (walk.past.none image completes) (find_behind image key b [] (λ e. other (sym key_is ∙ e)));
  };
  at_is = let zero_more : b.first_word + 0 ≡ b.first_word = omega arith in
      zero_more ∙ sym (behind_more (table.first_word + bucket_of key) walk.before b);
}

-- at the end of its bucket the key is not there
pub walk_ends : (v : View) (key at : ℕ) (table : Block) → IsSeat v → IsWalk v key table at → v.volatile at ≡ Some 0 → (map : Map)
    → GivesMap v (shard_of key) map → map key ≡ None
walk_ends v key at table seat walk seen map gives =
    let image = now_image v in
    let completes = now_completes v in
    let along = is_along IsSettling v image seat (shard_of key) key map table walk.before (settling_in v image completes) walk.come
    (gives.each image completes.mixes) in
    let k = bucket_of key in
    let null : image at ≡ 0 = completes.seen at 0 (own_at v key at table seat walk) seen in
    let chain = subst (λ (bs : List Block). IsBucketChain (but table (LeadsTo (Contains v.held))) image (shard_of key) k
    (table.first_word + k) bs) along.is (along.chains k (bucket_below key)) in
    found_at map image (shard_of key) key along.nodes along.means refl ∙ ap (λ (bs : List Block). find image key bs) along.is
    ∙ find_in_none image key walk.before along.rest (walk.past.none image completes) (by_rest along.rest chain null) where
      by_rest : (rest : List Block) → IsBucketChain (but table (LeadsTo (Contains v.held))) (now_image v) (shard_of key) (bucket_of key)
          (table.first_word + bucket_of key) (walk.before ++ rest)
          → now_image v at ≡ 0 → find (now_image v) key rest ≡ None
      by_rest [] chain null = refl
      by_rest (b ∷ rest) chain null =
          let path = path_right (but table (LeadsTo (Contains v.held))) (now_image v) (shard_of key) (bucket_of key)
          (table.first_word + bucket_of key) walk.before (b ∷ rest) chain.path in
          absurd (not_null (now_image v (link_behind (table.first_word + bucket_of key) walk.before)) (8 * b.first_word) path.0.0.1
          (sym (ap (now_image v) walk.at_is) ∙ null))

-- a link that was followed, and the key of its node that was loaded
pub key_loaded : (v u w : View) (key at word x : ℕ) (table b : Block) → IsSeat v → IsSeat u → IsWalk v key table at → KeepsOwn v u
    → FollowsLink at word v u → LeadsTo (Contains u.held) word b
    → KeepsOwn u w → Loads (b.first_word + 1) x u w → GoesPending v w × IsNodeAt w at b × (w.volatile (b.first_word + 1) ≡ Some x)
key_loaded v u w key at word x table b seat seat_u walk keeps follows leads keeps_u loads =
    let node = node_at v key at table seat walk u word keeps follows seat_u b leads in
    let own = own_same v u at keeps.held keeps.roots (own_at v key at table seat walk) in
    let goes : GoesPending u w = record { runs = loads.runs; pending = loads.pending } in
    (goes_then v u w follows.goes goes, node_still u w at b own keeps_u goes node, loads.seen)

-- one link further
module _ (v u w : View) (key : ℕ) (table : Block) (link : Spot) (seat : IsSeat u) (seat_w : IsSeat w) (walking : IsWalking key table link v u)
    (keeps : KeepsOwn u w) where
  on_way : GoesPending u w → IsWalk w key table (word_of link)
  on_way goes = walk_still u key (word_of link) table seat walking.walk w keeps goes

  since_start : GoesPending u w → GoesPending v w
  since_start goes = elim walking.goes as (λ _. GoesPending v w) [
    | inl same ↦ subst (λ (s : View). GoesPending s w) same goes
    | inr before ↦ goes_then v u w before goes
  ]

  pub walking_on : (b : Block) → IsQuiet 3 u w → StepsAlong key (word_of link) (Other b) u w → IsWalking key table (InBlock b 0) v w
  unfolding walk_on on_way walk_still
  walking_on b quiet steps =
      let there = on_way steps.goes in
      let node = steps.leads.0 in
      let room = node.room in
      let on = walk_on w key (word_of link) steps.leads.1.0 table b seat_w there node steps.leads.1.1 steps.leads.1.2 in
      record {
        walk = on;
        own = (node.held, omega arith);
        quiet = quiet_then (3 * length walking.walk.before) 3 (3 * length (walking.walk.before ++ (b ∷ []))) v u w
            (let sum = length-append walking.walk.before (b ∷ []) in omega arith) walking.quiet quiet;
        goes = inr (since_start steps.goes);
      }

  own_later : (s : Spot) → IsOwnSpot u s → IsOwnSpot w s
  own_later (InBlock b index) h = (subst (λ (bs : List Block). Contains bs b) (sym keeps.held) h.0, h.1)
  own_later (Root i) h = subst (λ (rs : List ℕ). Contains rs i) (sym keeps.roots) h

  pub walk_found : (b : Block) → StepsAlong key (word_of link) (Key b) u w → Walks key (Some (record { link = link; node = b })) v w
  walk_found b steps =
      let there = on_way steps.goes in
      let node = steps.leads.0 in
      record {
        goes = since_start steps.goes;
        some = record {
          table = table;
          before = there.before;
          come = record {
            owned = there.come.owned;
            in_shard = there.come.in_shard;
            held_table = there.come.held_table;
            size = there.come.size;
            root = there.come.root;
            trail = trail_more (IsSettling w) w.held (table.first_word + bucket_of key) there.before b there.come.trail node.held
                (subst (λ q. IsSettling w q (pointer_to b)) there.at_is node.link);
          };
          at_is = there.at_is;
          own = own_later link walking.own;
          room = node.room;
          key_seen = steps.leads.1;
        };
        none = tt;
      }

  pub walk_missed : StepsAlong key (word_of link) End u w → Walks key None v w
  walk_missed steps = record {
    goes = since_start steps.goes;
    some = tt;
    none = λ map gives.
        walk_ends w key (word_of link) table seat_w (on_way steps.goes) steps.leads.seen map
        (gives_grown v w (grown_then v u w (grown_keeps v u walking.quiet.unchanged) (grown_keeps u w keeps)) (shard_of key) map gives);
  }

-- a walk begins at its bucket
pub walking_start : (v : View) (key : ℕ) (table : Block) (map : Map) → GivesMap v (shard_of key) map
    → HasCome IsSettling v (shard_of key) key table [] → IsWalking key table (InBlock table (bucket_of key)) v v
walking_start v key table map gives come = record {
  walk = record { map = map; gives = gives; before = []; come = come; past = record { none = λ image completes. refl }; at_is = refl };
  own = (come.held_table, let below = bucket_below key in let size = come.size in omega arith);
  quiet = quiet_none v;
  goes = inl refl;
}
