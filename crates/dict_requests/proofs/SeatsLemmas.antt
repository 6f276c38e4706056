-- What an image of several seats reaches, a seat of them reaches: so a shard that is walked there is the shard's map.
use Rattle.std.proofs.Common.{◌≡◌, ◌≢◌, ℕ, ◌+◌, ◌*◌, ◌<◌, inl, inr, List, [], ◌∷◌, Contains, refl, subst, sym, ◌∙◌, arith}
use Rattle.heap_model.specs.declared.block.Block.{Block}
use Rattle.heap_model.specs.Geometry.{root_word}
use Rattle.heap_model.specs.Image.{Image}
use Rattle.heap_model.specs.Header.{kinds_of}
use Rattle.heap_model.specs.Pointers.{Leads}
use Rattle.heap_model.specs.Reach.{AnyRoot, ReachFrom, IsTraced, is_root, is_linked, IsOutsideIn}
use Rattle.heap_model.proofs.MemberLemmas.{in_none, head_or_rest}
use Rattle.heap_model.proofs.ReachLemmas.{not_null, one_block, closure_least}
use Rattle.heap_seat.specs.View.{View, kind_of}
use Rattle.heap_seat.specs.Words.{in_root, MayRead}
use Rattle.dict_model.specs.Links.{shards, table_kind, node_kind, dict_links, IsLink, in_table, in_node}
use Rattle.dict_model.specs.Shards.{Map, IsPath, but, LeadsTo, LeadsAlone, MapOf, WalkOf}
use Rattle.dict_model.proofs.LinkLemmas.{link_in_block}
use Rattle.dict_model.proofs.MapLemmas.{IsUsed, as_table, as_node, map_wider}
use Rattle.dict_requests.specs.Reached.{MayReach, IsNullOrHeld}
use Rattle.dict_requests.specs.Seats.{ShareHeap, MixesSeats}
use Rattle.dict_requests.proofs.GrownLemmas.{link_own, reached_held, root_reach, link_reach}

-- a seat reaches the block from one of the chosen roots
pub record IsReachedBy (count : ℕ) (seats : ℕ → View) (chosen : ℕ → Type 0) (b : Block) (kind : ℕ) : Type 0 where
  pub seat : ℕ
  pub below : seat < count
  pub root : ℕ
  pub is_chosen : chosen root
  pub reached : MayReach (seats seat) root b kind

module _ (count : ℕ) (seats : ℕ → View) (image : Image) (share : ShareHeap count seats) (mixed : MixesSeats count seats image) where
  -- what leads to a block of the image, where it must lead to a held one, leads to that
  held_there : (i word : ℕ) (b : Block) → i < count → IsNullOrHeld (seats i) word → Leads image word b → LeadsTo (Contains (seats i).held) word b
  held_there i word b below (inl null) leads = absurd (not_null word (8 * b.first_word) leads.pointer null)
  held_there i word b below (inr c) leads =
      subst (λ (x : Block). LeadsTo (Contains (seats i).held) word x)
      (one_block image word c.0 b (record { pointer = c.1.1; names = mixed.names i below c.0 c.1.0 }) leads) c.1

  root_read : (i root : ℕ) → i < count → Contains (seats i).roots root → MayRead (seats i) (root_word root) (image (root_word root))
  root_read i root below owned = (mixed.mixes i below).each (root_word root) (in_root root (root_word root) owned refl)

  by_root : (i root : ℕ) (b : Block) → i < count → Contains (seats i).roots root → Leads image (image (root_word root)) b
      → MayReach (seats i) root b (kind_of (seats i) root)
  by_root i root b below owned leads =
      let read = root_read i root below owned in
      let value = image (root_word root) in
      root_reach (seats i) root b (kind_of (seats i) root) value owned refl read
      (held_there i value b below ((share.only i below).roots root value owned read) leads)

  link_read : (i root : ℕ) (a : Block) (from position kind : ℕ) → i < count → MayReach (seats i) root a from → IsLink from a.words position kind
      → MayRead (seats i) (a.first_word + position) (image (a.first_word + position))
  link_read i root a from position kind below reached is =
      (mixed.mixes i below).each (a.first_word + position) (link_own (seats i) a from position kind (reached_held (seats i) root a from reached) is)

  by_link_of : (i root : ℕ) (a b : Block) (from position kind : ℕ) → i < count → MayReach (seats i) root a from → IsLink from a.words position kind
      → Leads image (image (a.first_word + position)) b → MayReach (seats i) root b kind
  by_link_of i root a b from position kind below reached is leads =
      let read = link_read i root a from position kind below reached is in
      let value = image (a.first_word + position) in
      link_reach (seats i) root a b from position kind value reached is read
      (held_there i value b below ((share.only i below).links root a from position kind value reached is read) leads)

  -- what the image reaches from chosen roots, a seat reaches from one of them
  pub reached_by : (chosen : ℕ → Type 0) (b : Block) (kind : ℕ) → ReachFrom image chosen (kinds_of image) dict_links b kind
      → IsReachedBy count seats chosen b kind
  reached_by chosen = closure_least (IsReachedBy count seats chosen)
      (λ b kind start.
      let own = share.owner start.root start.below in
      record {
        seat = own.0;
        below = own.1;
        root = start.root;
        is_chosen = start.is_chosen;
        reached = subst (MayReach (seats own.0) start.root b) (sym (start.kind_is ∙ mixed.kinds own.0 own.1 start.root start.below))
            (by_root own.0 start.root b own.1 own.2 start.leads);
      })
      (λ a b from kind reached has link. record {
        seat = has.seat;
        below = has.below;
        root = has.root;
        is_chosen = has.is_chosen;
        reached = by_link_of has.seat has.root a b from link.position kind has.below has.reached
            (link_in_block image a from link.position kind link.listed) link.leads;
      })

  -- what a trace of the image looks at is null or leads to a held block
  traced_good : (at : ℕ) → IsTraced image (kinds_of image) dict_links at → (i : ℕ) × (i < count) × IsNullOrHeld (seats i) (image at)
  traced_good _ (is_root root at below chosen same) =
      let own = share.owner root below in
      let good = (share.only own.0 own.1).roots root (image (root_word root)) own.2 (root_read own.0 root own.1 own.2) in
      (own.0, own.1, subst (λ x. IsNullOrHeld (seats own.0) (image x)) (sym same) good)
  traced_good _ (is_linked a from position kind at reached listed same) =
      let there = reached_by AnyRoot a from reached in
      let is = link_in_block image a from position kind listed in
      let good = (share.only there.seat there.below).links there.root a from position kind (image (a.first_word + position)) there.reached is
      (link_read there.seat there.root a from position kind there.below there.reached is) in
      (there.seat, there.below, subst (λ x. IsNullOrHeld (seats there.seat) (image x)) (sym same) good)

  pub nothing_outside : (at : ℕ) → IsOutsideIn image dict_links at → ⊥
  nothing_outside at out =
      let there = traced_good at out.traced in
      elim there.2 as (λ _. ⊥) [
        | inl null ↦ out.outside.not_null null
        | inr c ↦ out.outside.nowhere c.0 (record { pointer = c.1.1; names = mixed.names there.0 there.1 c.0 c.1.0 })
      ]

  module _ (i shard : ℕ) (below : i < count) (small : shard < shards) (root_is : kind_of (seats i) shard ≡ table_kind)
      (owned : Contains (seats i).roots shard) where
    -- the owner reaches what a walk through its shard meets
    path_met : (table : Block) (k at : ℕ) (bs : List Block) → IsPath (but table (Leads image)) image shard k at bs
        → ((c : Block) → Leads image (image at) c → MayReach (seats i) shard c node_kind) → (b : Block) → Contains bs b
        → MayReach (seats i) shard b node_kind
    path_met table k at [] path start b h = absurd (in_none b h)
    path_met table k at (c ∷ bs) path start b h =
        let first = start c path.0.0 in
        let fits = path.1.fits in
        let is : IsLink node_kind c.words 0 node_kind = in_node c.words (omega arith) in
        let at_zero : c.first_word ≡ c.first_word + 0 = omega arith in
        elim (head_or_rest c b bs h) as (λ _. MayReach (seats i) shard b node_kind) [
          | inl same ↦ subst (λ (x : Block). MayReach (seats i) shard x node_kind) same first
          | inr rest ↦ path_met table k c.first_word bs path.3
              (λ d leads. by_link_of i shard c d node_kind 0 node_kind below first is (subst (λ w. Leads image (image w) d) at_zero leads)) b rest
        ]

    met : (b : Block) → IsUsed (Leads image) image shard b → (kind : ℕ) × MayReach (seats i) shard b kind
    met b (as_table there) = (kind_of (seats i) shard, by_root i shard b below owned there.leads_there)
    met b (as_node table nodes k there chains k_below h) =
        let is : IsLink (kind_of (seats i) shard) table.words k node_kind =
        subst (λ kind. IsLink kind table.words k node_kind) (sym root_is) (in_table table.words k (omega (arith, there.size))) in (
          node_kind,
          path_met table k (table.first_word + k) (nodes k) (chains k k_below).path
              (λ c leads. by_link_of i shard table c (kind_of (seats i) shard) k node_kind below
              (by_root i shard table below owned there.leads_there) is leads) b h,
        )

    -- and no other root of any seat reaches it
    alone : (b : Block) (kind other : ℕ) → MayReach (seats i) shard b kind → IsReachedBy count seats (λ root. root ≢ shard) b other → ⊥
    alone b kind other reached there =
        let same : i ≡ there.seat = share.one_holder i there.seat b below there.below (reached_held (seats i) shard b kind reached)
        (reached_held (seats there.seat) there.root b other there.reached) in
        (share.only there.seat there.below).alone shard there.root b kind other small (λ e. there.is_chosen (sym e))
        (subst (λ n. MayReach (seats n) shard b kind) same reached) there.reached

  pub walk_alone : (shard : ℕ) (map : Map) → shard < shards → kinds_of image shard ≡ table_kind → WalkOf image shard map → MapOf image shard map
  walk_alone shard map small is walk =
      let own = share.owner shard (omega arith) in
      let root_is = sym (mixed.kinds own.0 own.1 shard (omega arith)) ∙ is in record {
        kind_is = is;
        is_map = map_wider (Leads image) (LeadsAlone image shard) image shard map (λ word b used leads. (
          leads,
          λ kind reach.
              let reached = met own.0 shard own.1 small root_is own.2 b used in
              alone own.0 shard own.1 small root_is own.2 b reached.0 kind reached.1 (reached_by (λ root. root ≢ shard) b kind reach),
        )) walk;
      }

  -- the image stores the kinds that a seat sees
  pub image_kind : (i shard kind : ℕ) → i < count → shard < shards → kind_of (seats i) shard ≡ kind → kinds_of image shard ≡ kind
  image_kind i shard kind below small is = mixed.kinds i below shard (omega arith) ∙ is

-- a map is walked too
pub walk_map : (image : Image) (shard : ℕ) (map : Map) → MapOf image shard map → WalkOf image shard map
walk_map image shard map is = map_wider (LeadsAlone image shard) (Leads image) image shard map (λ word b used leads. leads.0) is.is_map
