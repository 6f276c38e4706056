-- Where all held blocks were reached, they are after a request: nothing that was replaced or taken out stays held.
use Rattle.std.proofs.Common.{◌≡◌, ◌≢◌, ℕ, ◌+◌, inl, inr, List, Contains, Some, refl, ap, subst, sym, ◌∙◌, arith}
use Rattle.std.proofs.lemmas.Bool.{cases_eq}
use Rattle.heap_model.specs.declared.block.Block.{Block}
use Rattle.heap_model.specs.Geometry.{root_word}
use Rattle.heap_model.specs.Blocks.{IsIn}
use Rattle.heap_seat.specs.View.{View, kind_of, word_of}
use Rattle.heap_seat.specs.Words.{in_root, KeepsOwn, MayHaveStored}
use Rattle.heap_seat.specs.Free.{MayHaveFreed}
use Rattle.heap_seat.specs.Sound.{IsSeat}
use Rattle.dict_model.specs.Links.{table_kind, node_kind}
use Rattle.dict_model.specs.Nodes.{shard_of, bucket_of}
use Rattle.dict_model.specs.Shards.{Map, LeadsTo, IsPath, but, link_behind}
use Rattle.dict_model.proofs.ChainLemmas.{in_path}
use Rattle.dict_model.proofs.PlacedLemmas.{held_once, one_holder, first_in}
use Rattle.dict_requests.specs.declared.walk.Place.{Place}
use Rattle.dict_requests.specs.Maps.{GivesMap}
use Rattle.dict_requests.specs.Reached.{MayReach, Reaches, ReachesOnlyHeld, ReachesAllHeld, ReachesAllHeldBut}
use Rattle.dict_requests.specs.Trails.{pointer_to, IsDurableAt, HasCome}
use Rattle.dict_requests.specs.Changes.{IsReadPlace}
use Rattle.dict_requests.proofs.GrownLemmas.{are_placed, stays_held, kind_kept, grown_keeps, only_grown}
use Rattle.dict_requests.proofs.TrailLemmas.{now_image, settled_stays, leads_held, bucket_own, bucket_below}
use Rattle.dict_requests.proofs.ComeLemmas.{begins_chain, trail_kept, link_behind_roots, last_not_table}
use Rattle.dict_requests.proofs.DeleteLemmas.{shard_below, seen_value, node_held, node_reached, come_to, link_kind, link_holds, may_link, unreached}
use Rattle.dict_requests.proofs.UnreachedLemmas.{only_node}
use Rattle.dict_requests.proofs.ExactLemmas.{SeesLink, sees_may, sees_grown, target_sees, come_sees, sees_after, sees_freed}

-- over quiet calls
pub all_quiet : (v u : View) → IsSeat u → KeepsOwn v u → u.kinds ≡ v.kinds → ReachesAllHeld v → ReachesAllHeld u
all_quiet v u seat keeps kinds all = record {
  only = only_grown v u (grown_keeps v u keeps) kinds seat all.only;
  all = λ c h.
      let r = all.all c (subst (λ (bs : List Block). Contains bs c) keeps.held h) in
      (r.0, r.1, sees_grown v u (grown_keeps v u keeps) kinds r.0 c r.1 r.2);
}

-- a settled way to a link stays one where the link is stored to
pub come_kept : (u w : View) (key p x : ℕ) (table : Block) (before : List Block) (map : Map) → IsSeat u → GivesMap u (shard_of key) map
    → HasCome IsDurableAt u (shard_of key) key table before
    → p ≡ link_behind (table.first_word + bucket_of key) before → MayHaveStored p x u w → HasCome IsDurableAt w (shard_of key) key table before
come_kept u w key p x table before map seat gives come at may = record {
  owned = subst (λ (rs : List ℕ). Contains rs (shard_of key)) (sym may.roots) come.owned;
  in_shard = come.in_shard;
  held_table = subst (λ (bs : List Block). Contains bs table) (sym may.held) come.held_table;
  size = come.size;
  root = settled_stays u w (root_word (shard_of key)) (pointer_to table)
      (may.others (root_word (shard_of key)) (in_root (shard_of key) (root_word (shard_of key)) come.owned refl)
      (λ e. link_behind_roots u key table before (shard_of key) seat come.owned come (e ∙ at))) come.root;
  trail = trail_kept u w p x seat may table (now_image u) (shard_of key) (bucket_of key) (table.first_word + bucket_of key) before at
      (λ c h e.
      let c_is = (in_path (but table (LeadsTo (Contains u.held))) (now_image u) (shard_of key) (bucket_of key)
      (table.first_word + bucket_of key) before c path h).0.1 in
      c_is.1 (one_holder (Contains u.held) (are_placed u seat) c table (table.first_word + bucket_of key) c_is.0.0 come.held_table
      (subst (IsIn c) (sym e) (first_in (Contains u.held) (are_placed u seat) c c_is.0.0))
      (record { from = omega arith; until = let below = bucket_below key in let size = come.size in omega arith })))
      path (bucket_own u table (bucket_of key) come.held_table come.size (bucket_below key)) come.trail;
} where
  path : IsPath (but table (LeadsTo (Contains u.held))) (now_image u) (shard_of key) (bucket_of key) (table.first_word + bucket_of key) before
  path = begins_chain u seat key (shard_below key) table before come map gives

module _ (u w : View) (seat : IsSeat u) (seat_w : IsSeat w) (key : ℕ) (place : Place) (next : ℕ)
    (taken : IsReadPlace IsDurableAt u key place next) (map : Map) (gives : GivesMap u (shard_of key) map)
    (only : ReachesOnlyHeld u) (root_is : kind_of u (shard_of key) ≡ table_kind) (kinds : w.kinds ≡ u.kinds) where
  held_u : Contains u.held place.node
  held_u = node_held u seat key place next taken map gives root_is

  -- the node is reached from its shard's root alone, and as a node
  pub one_kind : (root : ℕ) (a : Block) (kind : ℕ) → a ≡ place.node → Reaches u root a kind → (root ≡ shard_of key) × (kind ≡ node_kind)
  one_kind root a kind same reached =
      let may_node : MayReach u root place.node kind = subst (λ (d : Block). MayReach u root d kind) same (sees_may u root a kind reached) in
      elim (cases_eq (shard_of key) root) as (λ _. (root ≡ shard_of key) × (kind ≡ node_kind)) [
        | inl is ↦ (
          sym is,
          only_node u seat (shard_of key) map gives taken.table taken.come.owned taken.come.held_table taken.come.size taken.come.root place.node kind
              (last_not_table u seat key (shard_below key) map gives taken.table place.node taken.before taken.come)
              (subst (λ r. MayReach u r place.node kind) (sym is) may_node),
        )
        | inr differs ↦ absurd (only.alone (shard_of key) root place.node node_kind kind (shard_below key) differs
            (node_reached u seat key place next taken map gives root_is) may_node)
      ]

  pub leads_to_node : (c : Block) → LeadsTo (Contains u.held) (pointer_to place.node) c → c ≡ place.node
  leads_to_node c leads = (held_once (Contains u.held) (are_placed u seat)).one (pointer_to place.node) c place.node leads
      (leads_held u place.node seat held_u)

  pub next_value : (a : Block) (value : ℕ) → a ≡ place.node → u.volatile (a.first_word + 0) ≡ Some value → value ≡ next
  next_value a value same seen =
      let at : a.first_word + 0 ≡ place.node.first_word = let e = ap (λ (d : Block). d.first_word) same in omega arith in
      seen_value u place.node.first_word value next (subst (λ q. u.volatile q ≡ Some value) at seen) taken.next_is.seen

  pub not_root : (root : ℕ) → Contains u.roots root → root_word root ≢ word_of place.link
  not_root root owned e = link_behind_roots u key taken.table taken.before root seat owned
      (come_to u seat key place next taken map gives root_is) (e ∙ taken.at_is)

  -- the way to the link is settled once it is stored to
  link_seen : MayHaveStored (word_of place.link) next u w → SeesLink w (shard_of key) (word_of place.link)
  link_seen may = subst (λ q. SeesLink w (shard_of key) q) (sym taken.at_is)
      (come_sees w key taken.table taken.before seat_w (come_kept u w key (word_of place.link) next taken.table taken.before map seat gives
      (come_to u seat key place next taken map gives root_is) taken.at_is may) (kind_kept u w (shard_of key) kinds ∙ root_is))

  -- a node that is taken out
  pub all_unlinked : (may : MayHaveStored (word_of place.link) next u w) → IsDurableAt w (word_of place.link) next → ReachesOnlyHeld w
      → ReachesAllHeld u → ReachesAllHeldBut place.node w
  all_unlinked may settled only_w all = record {
    only = only_w;
    all = λ c h other.
        let r = all.all c (subst (λ (bs : List Block). Contains bs c) may.held h) in
        elim (sees_after u w seat (shard_of key) (word_of place.link) next (pointer_to place.node) (shard_below key) may kinds only
        (link_kind u seat key place next taken map gives root_is)
        (may_link u seat key place next taken map gives root_is only) (link_holds u seat key place next taken map gives root_is) not_root
        (λ d. d ≡ place.node)
        (λ d leads. inl (leads_to_node d leads))
        (λ a d value same seen leads.
        inr (target_sees w (shard_of key) (word_of place.link) next d (link_seen may) settled.seen
        (subst (λ q. LeadsTo (Contains w.held) q d) (next_value a value same seen)
        (subst (λ (bs : List Block). Contains bs d) (sym may.held) leads.0, leads.1))))
        one_kind r.0 c r.1 r.2) as (λ _. (root : ℕ) × (kind : ℕ) × Reaches w root c kind)
        [ inl reached ↦ (r.0, r.1, reached) | inr same ↦ absurd (other same) ];
  }

  -- a node that is taken out and freed
  pub all_removed : (may : MayHaveStored (word_of place.link) next u w) → IsDurableAt w (word_of place.link) next → (x : View)
      → MayHaveFreed place.node w x → x.kinds ≡ w.kinds → (Contains x.held place.node → ⊥) → ReachesOnlyHeld x
      → ReachesAllHeld u → ReachesAllHeld x
  all_removed may settled x freeing kinds_x gone only_x all = record {
    only = only_x;
    all = λ c h.
        let in_u : Contains u.held c = subst (λ (bs : List Block). Contains bs c) may.held (freeing.only c h) in
        let r = all.all c in_u in
        elim (sees_after u w seat (shard_of key) (word_of place.link) next (pointer_to place.node) (shard_below key) may kinds only
        (link_kind u seat key place next taken map gives root_is)
        (may_link u seat key place next taken map gives root_is only) (link_holds u seat key place next taken map gives root_is) not_root
        (λ d. d ≡ place.node)
        (λ d leads. inl (leads_to_node d leads))
        (λ a d value same seen leads.
        inr (target_sees w (shard_of key) (word_of place.link) next d (link_seen may) settled.seen
        (subst (λ q. LeadsTo (Contains w.held) q d) (next_value a value same seen)
        (subst (λ (bs : List Block). Contains bs d) (sym may.held) leads.0, leads.1))))
        one_kind r.0 c r.1 r.2) as (λ _. (root : ℕ) × (kind : ℕ) × Reaches x root c kind) [
          | inl reached ↦ (
            r.0,
            r.1,
            sees_freed w x place.node seat_w freeing kinds_x (stays_held u w may.held place.node held_u)
                (unreached u seat key place next taken map gives root_is w may kinds seat_w only settled) r.0 c r.1 reached,
          )
          | inr same ↦ absurd (gone (subst (Contains x.held) same h))
        ];
  }
