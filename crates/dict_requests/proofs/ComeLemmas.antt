-- What is so of the blocks of a settled trail: the root reaches them, and they are apart from each other and from the table.
use Rattle.std.proofs.Common.{◌≡◌, ◌≢◌, ℕ, ◌+◌, ◌<◌, ◌≤◌, ◌⊎◌, inl, inr, List, [], ◌∷◌, ◌++◌, Contains, refl, ap, subst, sym, ◌∙◌, arith}
use Rattle.std.proofs.lemmas.List.Elements.{Contains-append_left, Contains-append_right}
use Rattle.heap_model.specs.declared.block.Block.{Block}
use Rattle.heap_model.specs.Image.{Image}
use Rattle.heap_model.specs.Geometry.{root_word}
use Rattle.heap_model.specs.Blocks.{IsIn}
use Rattle.heap_model.proofs.MemberLemmas.{in_none, in_head, head_or_rest, in_rest}
use Rattle.heap_seat.specs.View.{View, kind_of}
use Rattle.heap_seat.specs.Words.{MayRead, IsOwn, MayHaveStored}
use Rattle.heap_seat.specs.Sound.{IsSeat}
use Rattle.dict_model.specs.Links.{shards, table_kind, node_kind, IsLink, in_table, in_node}
use Rattle.dict_model.specs.Nodes.{shard_of, bucket_of, key_in, IsNode}
use Rattle.dict_model.specs.Shards.{Map, LeadsTo, IsPath, but, link_behind}
use Rattle.dict_model.proofs.ChainLemmas.{in_path, path_left, path_cross, not_of, behind_is}
use Rattle.dict_model.proofs.PlacedLemmas.{one_holder, first_in}
use Rattle.dict_requests.specs.Maps.{GivesMap}
use Rattle.dict_requests.specs.Reached.{MayReach, ReachesOnlyHeld}
use Rattle.dict_requests.specs.Trails.{pointer_to, IsDurableAt, Trail, HasCome}
use Rattle.dict_requests.proofs.GrownLemmas.{are_placed, root_reach, link_reach}
use Rattle.dict_requests.proofs.PublishLemmas.{IsLinkOf, is_link}
use Rattle.dict_requests.proofs.TrailLemmas.{now_image, now_completes, leads_held, settled_in, is_along, bucket_below, first_own, settled_stays}
use Rattle.dict_requests.proofs.MapPublishLemmas.{seen_read, trail_held}

-- a link that the root may be followed to
pub record IsFollowed (u : View) (shard at : ℕ) : Type 0 where
  pub holder : Block
  pub from : ℕ
  pub position : ℕ
  pub reached : MayReach u shard holder from
  pub is_link : IsLink from holder.words position node_kind
  pub at_is : at ≡ holder.first_word + position

module _ (u : View) (seat : IsSeat u) (shard : ℕ) (small : shard < shards) where
  -- a block to which such a link leads
  next_reached : (at : ℕ) (b : Block) → IsFollowed u shard at → Contains u.held b → IsDurableAt u at (pointer_to b) → MayReach u shard b node_kind
  next_reached at b followed h settled =
      link_reach u shard followed.holder b followed.from followed.position node_kind (pointer_to b) followed.reached followed.is_link
      (subst (λ w. MayRead u w (pointer_to b)) followed.at_is (seen_read u at (pointer_to b) settled.seen)) (leads_held u b seat h)

  pub own_link_followed : (b : Block) → Contains u.held b → MayReach u shard b node_kind → IsFollowed u shard b.first_word
  own_link_followed b h reached = record {
    holder = b;
    from = node_kind;
    position = 0;
    reached = reached;
    is_link = in_node b.words (seat.placed b h).some;
    at_is = omega arith;
  }

  -- what such a link leads to is null, or a block that the root may reach
  pub followed_leads : (at x : ℕ) → IsFollowed u shard at → IsDurableAt u at x → ReachesOnlyHeld u
      → (x ≡ 0) ⊎ ((f : Block) × LeadsTo (Contains u.held) x f × MayReach u shard f node_kind)
  followed_leads at x followed settled only =
      let read = subst (λ w. MayRead u w x) followed.at_is (seen_read u at x settled.seen) in
      elim (only.links shard followed.holder followed.from followed.position node_kind x followed.reached followed.is_link read) as
      (λ _. (x ≡ 0) ⊎ ((f : Block) × LeadsTo (Contains u.held) x f × MayReach u shard f node_kind)) [
        | inl null ↦ inl null
        | inr f ↦ inr (
          f.0,
          f.1,
          link_reach u shard followed.holder f.0 followed.from followed.position node_kind x followed.reached
              followed.is_link read f.1,
        )
      ]

  trail_reached : (at : ℕ) (bs : List Block) → IsFollowed u shard at → Trail (IsDurableAt u) u.held at bs
      → ((b : Block) → Contains bs b → MayReach u shard b node_kind) × IsFollowed u shard (link_behind at bs)
  trail_reached at [] followed trail = ((λ b h. absurd (in_none b h)), followed)
  trail_reached at (c ∷ bs) followed trail =
      let first = next_reached at c followed trail.0 trail.1 in
      let rest = trail_reached c.first_word bs (own_link_followed c trail.0 first) trail.2 in (
        (λ b h. elim (head_or_rest c b bs h) as (λ _. MayReach u shard b node_kind)
            [ inl same ↦ subst (λ (x : Block). MayReach u shard x node_kind) same first | inr r ↦ rest.0 b r ]),
        rest.1,
      )

module _ (u : View) (seat : IsSeat u) (key : ℕ) (small : shard_of key < shards) (table : Block) (before : List Block)
    (come : HasCome IsDurableAt u (shard_of key) key table before) where
  module _ (root_is : kind_of u (shard_of key) ≡ table_kind) where
    pub table_is_reached : MayReach u (shard_of key) table (kind_of u (shard_of key))
    table_is_reached = root_reach u (shard_of key) table (kind_of u (shard_of key)) (pointer_to table) come.owned refl
        (seen_read u (root_word (shard_of key)) (pointer_to table) come.root.seen) (leads_held u table seat come.held_table)

    pub bucket_followed : IsFollowed u (shard_of key) (table.first_word + bucket_of key)
    bucket_followed = record {
      holder = table;
      from = kind_of u (shard_of key);
      position = bucket_of key;
      reached = table_is_reached;
      is_link = subst (λ kind. IsLink kind table.words (bucket_of key) node_kind) (sym root_is)
          (in_table table.words (bucket_of key) (let below = bucket_below key in let size = come.size in omega arith));
      at_is = refl;
    }

    pub nodes_reached : (b : Block) → Contains before b → MayReach u (shard_of key) b node_kind
    nodes_reached = (trail_reached u seat (shard_of key) small (table.first_word + bucket_of key) before bucket_followed come.trail).0

    pub link_followed : IsLinkOf u (shard_of key) (link_behind (table.first_word + bucket_of key) before) node_kind
    link_followed =
        let last = (trail_reached u seat (shard_of key) small (table.first_word + bucket_of key) before bucket_followed come.trail).1 in
        is_link last.holder last.from last.position node_kind last.reached last.is_link last.at_is

  -- in a mixture they begin the chain of their bucket
  pub begins_chain : (map : Map) → GivesMap u (shard_of key) map
      → IsPath (but table (LeadsTo (Contains u.held))) (now_image u) (shard_of key) (bucket_of key) (table.first_word + bucket_of key) before
  begins_chain map gives =
      let image = now_image u in
      let now = now_completes u in
      let along = is_along IsDurableAt u image seat (shard_of key) key map table before (settled_in u image now.mixes) come
      (gives.each image now.mixes) in
      let k = bucket_of key in
      path_left (but table (LeadsTo (Contains u.held))) image (shard_of key) k (table.first_word + k) before along.rest
      (subst (λ (bs : List Block). IsPath (but table (LeadsTo (Contains u.held))) image (shard_of key) k (table.first_word + k) bs) along.is
      (along.chains k (bucket_below key)).path)

-- of the last node of a trail: it is apart from the table and from the nodes before, so its words are none of their links
module _ (u : View) (seat : IsSeat u) (key : ℕ) (small : shard_of key < shards) (map : Map) (gives : GivesMap u (shard_of key) map)
    (table b : Block) (before : List Block)
    (come : HasCome IsDurableAt u (shard_of key) key table (before ++ (b ∷ []))) where
  path_all : IsPath (but table (LeadsTo (Contains u.held))) (now_image u) (shard_of key) (bucket_of key) (table.first_word + bucket_of key)
      (before ++ (b ∷ []))
  path_all = begins_chain u seat key small table (before ++ (b ∷ [])) come map gives

  b_in : Contains (before ++ (b ∷ [])) b
  b_in = Contains-append_right before (b ∷ []) b (in_head b [])

  b_is : ((word : ℕ) × but table (LeadsTo (Contains u.held)) word b) × IsNode (now_image u) (shard_of key) (bucket_of key) b
  b_is = in_path (but table (LeadsTo (Contains u.held))) (now_image u) (shard_of key) (bucket_of key) (table.first_word + bucket_of key)
      (before ++ (b ∷ [])) b path_all b_in

  pub last_held : Contains u.held b
  last_held = b_is.0.1.0.0

  pub last_not_table : b ≢ table
  last_not_table = b_is.0.1.1

  pub last_room : 3 ≤ b.words
  last_room = let fits = b_is.1.fits in omega arith

  pub last_not_before : (c : Block) → Contains before c → c ≢ b
  last_not_before c h same =
      not_of (now_image u) (key_in (now_image u) c) (b ∷ []) b
      (path_cross (but table (LeadsTo (Contains u.held))) (now_image u) (shard_of key) (bucket_of key) (table.first_word + bucket_of key) before
      (b ∷ []) c path_all h) (in_head b [])
      (ap (key_in (now_image u)) (sym same))

  -- the link that leads to it lies in none of its words, nor at the root
  pub link_outside : (word : ℕ) → IsIn b word → word ≢ link_behind (table.first_word + bucket_of key) before
  link_outside word inside is = elim (behind_is (table.first_word + bucket_of key) before) as (λ _. ⊥) [
    | inl only ↦
        last_not_table (one_holder (Contains u.held) (are_placed u seat) b table word last_held come.held_table inside
        (subst (IsIn table) (sym (is ∙ only.1)) (record {
          from = omega arith;
          until = let below = bucket_below key in let size = come.size in
              omega arith;
        })))
    | inr last ↦
        let held = trail_held (IsDurableAt u) u.held (table.first_word + bucket_of key) (before ++ (b ∷ [])) last.0 come.trail
        (Contains-append_left before (b ∷ []) last.0 last.1) in
        last_not_before last.0 last.1 (one_holder (Contains u.held) (are_placed u seat) last.0 b word held last_held
        (subst (IsIn last.0) (sym (is ∙ last.2)) (first_in (Contains u.held) (are_placed u seat) last.0 held)) inside)
  ]

-- a link behind a trail lies behind the roots
pub link_behind_roots : (u : View) (key : ℕ) (table : Block) (before : List Block) (root : ℕ) → IsSeat u → Contains u.roots root
    → HasCome IsDurableAt u (shard_of key) key table before
    → root_word root ≢ link_behind (table.first_word + bucket_of key) before
link_behind_roots u key table before root seat owned come is = elim (behind_is (table.first_word + bucket_of key) before) as (λ _. ⊥) [
  | inl only ↦ let behind = (seat.placed table come.held_table).behind in let below = seat.roots_are root owned in omega (arith, only.1)
  | inr last ↦
      let held = trail_held (IsDurableAt u) u.held (table.first_word + bucket_of key) before last.0 come.trail last.1 in
      let behind = (seat.placed last.0 held).behind in
      let below = seat.roots_are root owned in omega (arith, last.2)
]

-- a trail whose last link is stored to is one up to that link
pub trail_kept : (u w : View) (p x : ℕ) → IsSeat u → MayHaveStored p x u w → (table : Block) (image : Image) (shard k at : ℕ) (bs : List Block)
    → p ≡ link_behind at bs
    → ((c : Block) → Contains bs c → at ≢ c.first_word) → IsPath (but table (LeadsTo (Contains u.held))) image shard k at bs
    → IsOwn u.held u.roots at → Trail (IsDurableAt u) u.held at bs
    → Trail (IsDurableAt w) w.held at bs
trail_kept u w p x seat may table image shard k at [] is apart path own trail = tt
trail_kept u w p x seat may table image shard k at (b ∷ bs) is apart path own trail =
    let last : (c : Block) × Contains (b ∷ bs) c × (p ≡ c.first_word) =
    elim (behind_is b.first_word bs) as (λ _. (c : Block) × Contains (b ∷ bs) c × (p ≡ c.first_word)) [
      | inl only ↦ (b, in_head b bs, is ∙ only.1)
      | inr l ↦ (l.0, in_rest b l.0 bs l.1, is ∙ l.2)
    ] in
    let start : at ≢ p = λ e. apart last.0 last.1 (e ∙ last.2) in (
      subst (λ (held : List Block). Contains held b) (sym may.held) trail.0,
      settled_stays u w at (pointer_to b) (may.others at own start) trail.1,
      trail_kept u w p x seat may table image shard k b.first_word bs is
          (λ c h e. not_of image (key_in image b) bs c path.2 h (sym (ap (λ word. image (word + 1)) e))) path.3 (first_own u b seat trail.0) trail.2,
    )
