-- What taking a node out of its chain leaves, and freeing it.
use Rattle.std.proofs.Common.{◌≡◌, ◌≢◌, ℕ, ◌+◌, ◌<◌, ◌≤◌, inl, inr, List, [], ◌∷◌, ◌++◌, None, Some, Contains, refl, subst, sym, ◌∙◌, arith}
use Rattle.std.specs.Prelude.{nat_eq}
use Rattle.std.proofs.Math.Nat.{mod-lt}
use Rattle.std.proofs.lemmas.Bool.{cases_eq, cond-true, eq-eqb}
use Rattle.std.proofs.lemmas.List.Elements.{Contains-append_right}
use Rattle.heap_model.specs.declared.block.Block.{Block}
use Rattle.heap_model.specs.Image.{Image}
use Rattle.heap_model.specs.Geometry.{root_word}
use Rattle.heap_model.specs.Blocks.{IsIn}
use Rattle.heap_model.proofs.MemberLemmas.{in_head}
use Rattle.heap_seat.specs.View.{View, kind_of, word_of}
use Rattle.heap_seat.specs.Words.{IsOwn, in_root, in_block, MayRead, MixesOwn, MayHaveStored}
use Rattle.heap_seat.specs.Sound.{IsSeat}
use Rattle.heap_seat.proofs.CallerLemmas.{own_same}
use Rattle.dict_model.specs.Links.{shards, table_kind, node_kind, IsLink, in_node}
use Rattle.dict_model.specs.Nodes.{shard_of, bucket_of}
use Rattle.dict_model.specs.Requests.{without_key}
use Rattle.dict_model.specs.Shards.{Map, link_behind}
use Rattle.dict_requests.specs.declared.walk.Place.{Place}
use Rattle.dict_requests.specs.Maps.{IsMapIn, GivesMap}
use Rattle.dict_requests.specs.Reached.{MayReach, ReachesOnlyHeld}
use Rattle.dict_requests.specs.Trails.{pointer_to, IsDurableAt, Trail, HasCome}
use Rattle.dict_requests.specs.Changes.{MayChange, IsReadPlace}
use Rattle.dict_requests.proofs.GrownLemmas.{link_reach}
use Rattle.dict_requests.proofs.ChangeLemmas.{table_stored}
use Rattle.dict_requests.proofs.PublishLemmas.{IsLinkOf, MayPublish, no_block, old, only_after, others_after, reached_after}
use Rattle.dict_requests.proofs.TrailLemmas.{settled_stays}
use Rattle.dict_requests.proofs.MapPublishLemmas.{seen_read, come_left, behind_own, either, exactly, take_out}
use Rattle.dict_requests.proofs.ComeLemmas.{nodes_reached, link_followed, last_held, last_not_table, last_room, link_outside, link_behind_roots}
use Rattle.dict_requests.proofs.UnreachedLemmas.{gone}

-- each key has one of the shards
pub shard_below : (key : ℕ) → shard_of key < shards
shard_below key = mod-lt key (omega arith)

pub seen_value : (v : View) (word a b : ℕ) → v.volatile word ≡ Some a → v.volatile word ≡ Some b → a ≡ b
seen_value v word a b p q = cc

-- what is so of a node that a walk along a chain came to
pub record IsFoundNode (u : View) (key : ℕ) (place : Place) (table : Block) (before : List Block) : Type 0 where
  pub held : Contains u.held place.node
  pub reached : MayReach u (shard_of key) place.node node_kind
  pub come : HasCome IsDurableAt u (shard_of key) key table before
  pub link : IsDurableAt u (word_of place.link) (pointer_to place.node)

module _ (u : View) (seat : IsSeat u) (key : ℕ) (place : Place) (next : ℕ) (taken : IsReadPlace IsDurableAt u key place next) (map₀ : Map)
    (gives₀ : GivesMap u (shard_of key) map₀)
    (root_is : kind_of u (shard_of key) ≡ table_kind) where
  node : Block
  node = place.node

  pub node_held : Contains u.held place.node
  node_held = last_held u seat key (shard_below key) map₀ gives₀ taken.table place.node taken.before taken.come

  pub node_reached : MayReach u (shard_of key) place.node node_kind
  node_reached = nodes_reached u seat key (shard_below key) taken.table (taken.before ++ (place.node ∷ [])) taken.come root_is place.node
      (Contains-append_right taken.before (place.node ∷ []) place.node (in_head place.node []))

  pub node_room : 3 ≤ place.node.words
  node_room = last_room u seat key (shard_below key) map₀ gives₀ taken.table place.node taken.before taken.come

  pub come_to : HasCome IsDurableAt u (shard_of key) key taken.table taken.before
  come_to = come_left IsDurableAt u (shard_of key) key taken.table taken.before (place.node ∷ []) taken.come

  -- the link that leads to the node
  pub link_kind : IsLinkOf u (shard_of key) (word_of place.link) node_kind
  link_kind = subst (λ p. IsLinkOf u (shard_of key) p node_kind) (sym taken.at_is)
      (link_followed u seat key (shard_below key) taken.table taken.before come_to root_is)

  pub link_own : IsOwn u.held u.roots (word_of place.link)
  link_own = subst (IsOwn u.held u.roots) (sym taken.at_is) (behind_own IsDurableAt u (shard_of key) key taken.table taken.before seat come_to)

  -- it holds a pointer to the node
  pub link_holds : IsDurableAt u (word_of place.link) (pointer_to place.node)
  link_holds = subst (λ p. IsDurableAt u p (pointer_to place.node)) (sym taken.at_is)
      (last_settled taken.before (taken.table.first_word + bucket_of key) taken.come.trail) where
        last_settled : (bs : List Block) (at : ℕ) → Trail (IsDurableAt u) u.held at (bs ++ (place.node ∷ []))
            → IsDurableAt u (link_behind at bs) (pointer_to place.node)
        last_settled [] at trail = trail.1
        last_settled (b ∷ bs) at trail = last_settled bs b.first_word trail.2

  pub node_word_own : (word : ℕ) → IsIn place.node word → IsOwn u.held u.roots word
  node_word_own word inside = in_block place.node word node_held inside

  pub key_in_node : IsIn place.node (place.node.first_word + 1)
  key_in_node = record { from = omega arith; until = let room = node_room in omega arith }

  pub first_in_node : IsIn place.node place.node.first_word
  first_in_node = record { from = omega arith; until = let room = node_room in omega arith }

  pub outside : (word : ℕ) → IsIn place.node word → word ≢ word_of place.link
  outside word inside is = link_outside u seat key (shard_below key) map₀ gives₀ taken.table place.node taken.before taken.come word inside (is
      ∙ taken.at_is)

  -- what is behind the node is null or may be reached
  pub may_link : ReachesOnlyHeld u → MayPublish u (shard_of key) next node_kind
  may_link only =
      let zero_more : place.node.first_word ≡ place.node.first_word + 0 = omega arith in
      let read : MayRead u (place.node.first_word + 0) next = subst (λ w. MayRead u w next) zero_more
      (seen_read u place.node.first_word next taken.next_is.seen) in
      let is : IsLink node_kind place.node.words 0 node_kind = in_node place.node.words (let room = node_room in omega arith) in
      elim (only.links (shard_of key) place.node node_kind 0 node_kind next node_reached is read) as (λ _. MayPublish u (shard_of key) next node_kind) [
        | inl null ↦ no_block null
        | inr f ↦ old f.0 f.1 (link_reach u (shard_of key) place.node f.0 node_kind 0 node_kind next node_reached is read f.1)
      ]

  module _ (w : View) (may : MayHaveStored (word_of place.link) next u w) (kinds : w.kinds ≡ u.kinds) where
    out : (map : Map) → GivesMap u (shard_of key) map → (image : Image) → MixesOwn w image → image (word_of place.link) ≡ next
        → IsMapIn w image (shard_of key) (without_key map key)
    out map gives = take_out u w seat (shard_of key) key (shard_below key) map gives taken.table taken.before (place.node ∷ []) taken.come
        (word_of place.link) next (pointer_to place.node)
        taken.at_is link_holds may place.node refl taken.key_is (node_word_own (place.node.first_word + 1) key_in_node) taken.next_is
        (node_word_own place.node.first_word first_in_node)

    pub unlink_left : ReachesOnlyHeld u → MayChange (shard_of key) (λ map. without_key map key) u w
    unlink_left only = record {
      either = λ map gives.
          either u w seat (shard_of key) key (shard_below key) map gives taken.table taken.before (place.node ∷ []) taken.come
          (word_of place.link) next (pointer_to place.node)
          taken.at_is link_holds may (without_key map key) (out map gives);
      only = only_after u w (shard_of key) (word_of place.link) next node_kind seat (shard_below key) may kinds only link_kind (may_link only);
      table = table_stored (shard_of key) (word_of place.link) next u w
          (λ owned e. link_behind_roots u key taken.table taken.before (shard_of key) seat owned come_to (e ∙ taken.at_is)) may;
      others = others_after u w (shard_of key) (word_of place.link) next node_kind seat (shard_below key) may kinds only link_kind (may_link only);
    }

    pub unlinked : IsDurableAt w (word_of place.link) next → (map : Map) → GivesMap u (shard_of key) map
        → GivesMap w (shard_of key) (without_key map key)
    unlinked settled map gives =
        exactly u w seat (shard_of key) key (shard_below key) map gives taken.table taken.before (place.node ∷ []) taken.come
        (word_of place.link) next (pointer_to place.node)
        taken.at_is link_holds may (without_key map key) (out map gives) settled

    -- afterwards nothing reaches the node
    pub unreached : IsSeat w → ReachesOnlyHeld u → IsDurableAt w (word_of place.link) next → (root kind : ℕ) → MayReach w root place.node kind → ⊥
    unreached seat_w only settled root kind reached = elim (cases_eq (shard_of key) root) as (λ _. ⊥) [
      | inl same ↦
          let kept = λ (word : ℕ) (value : ℕ) (own : IsOwn u.held u.roots word) (differs : word ≢ word_of place.link) (was : IsDurableAt u word value).
          settled_stays u w word value (may.others word own differs) was in
          gone w seat_w (shard_of key) (without_key map₀ key) (unlinked settled map₀ gives₀) taken.table
          (subst (λ (rs : List ℕ). Contains rs (shard_of key)) (sym may.roots) taken.come.owned)
          (subst (λ (bs : List Block). Contains bs taken.table) (sym may.held) taken.come.held_table) taken.come.size
          (kept (root_word (shard_of key)) (pointer_to taken.table) (in_root (shard_of key) (root_word (shard_of key)) taken.come.owned refl)
          (λ e. link_behind_roots u key taken.table taken.before (shard_of key) seat taken.come.owned come_to (e ∙ taken.at_is)) taken.come.root)
          place.node key kind (last_not_table u seat key (shard_below key) map₀ gives₀ taken.table place.node taken.before taken.come)
          (kept (place.node.first_word + 1) key (node_word_own (place.node.first_word + 1) key_in_node)
          (outside (place.node.first_word + 1) key_in_node) taken.key_is)
          (own_same u w (place.node.first_word + 1) may.held may.roots (node_word_own (place.node.first_word + 1) key_in_node))
          (cond-true (nat_eq key key) None (map₀ key) (eq-eqb key key refl)) (subst (λ r. MayReach w r place.node kind) (sym same) reached)
      | inr differs ↦
          elim (reached_after u w (shard_of key) (word_of place.link) next node_kind seat (shard_below key) may kinds only link_kind
          (may_link only) root place.node kind reached) as (λ _. ⊥) [
            | inl before ↦ only.alone (shard_of key) root place.node node_kind kind (shard_below key) differs node_reached before
            | inr fresh ↦ differs (sym fresh.0)
          ]
    ]

pub found_node : (u : View) → IsSeat u → (key : ℕ) (place : Place) (next : ℕ) (taken : IsReadPlace IsDurableAt u key place next) (map₀ : Map)
    → GivesMap u (shard_of key) map₀
    → kind_of u (shard_of key) ≡ table_kind → IsFoundNode u key place taken.table taken.before
found_node u seat key place next taken map₀ gives₀ root_is = record {
  held = node_held u seat key place next taken map₀ gives₀ root_is;
  reached = node_reached u seat key place next taken map₀ gives₀ root_is;
  come = come_to u seat key place next taken map₀ gives₀ root_is;
  link = link_holds u seat key place next taken map₀ gives₀ root_is;
}
