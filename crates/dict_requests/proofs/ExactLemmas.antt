-- What loads see reached stays reached, but for the node that a request takes out.
use Rattle.std.proofs.Common.{◌≡◌, ◌≢◌, ℕ, ◌+◌, ◌<◌, ◌⊎◌, inl, inr, List, [], ◌∷◌, Some, Contains, refl, subst, sym, ◌∙◌, arith}
use Rattle.std.proofs.lemmas.Bool.{cases_eq}
use Rattle.heap_model.specs.declared.block.Block.{Block}
use Rattle.heap_model.specs.Geometry.{root_word}
use Rattle.heap_model.specs.Reach.{by_start, by_link}
use Rattle.heap_model.proofs.ReachLemmas.{closure_least, closure_included}
use Rattle.heap_seat.specs.View.{View, kind_of}
use Rattle.heap_seat.specs.Words.{in_root, MayHaveStored}
use Rattle.heap_seat.specs.Free.{MayHaveFreed}
use Rattle.heap_seat.specs.Sound.{IsSeat}
use Rattle.dict_model.specs.Links.{shards, table_kind, node_kind, IsLink, in_table, in_node}
use Rattle.dict_model.specs.Nodes.{shard_of, bucket_of}
use Rattle.dict_model.specs.Shards.{LeadsTo, link_behind}
use Rattle.dict_model.proofs.LinkLemmas.{at_first}
use Rattle.dict_model.proofs.PlacedLemmas.{one_holder}
use Rattle.dict_requests.specs.Quiet.{Grown}
use Rattle.dict_requests.specs.Reached.{Sees, RootReaches, LinkReaches, MayReach, Reaches, ReachesOnlyHeld, ReachesAllHeld, ReachesAllHeldBut}
use Rattle.dict_requests.specs.Trails.{pointer_to, IsDurableAt, Trail, HasCome}
use Rattle.dict_requests.proofs.GrownLemmas.{stays_held, are_placed, kind_kept, link_own, link_in, link_to}
use Rattle.dict_requests.proofs.FreedLemmas.{only_freed}
use Rattle.dict_requests.proofs.PublishLemmas.{IsLinkOf, MayPublish, link_at_link}
use Rattle.dict_requests.proofs.MapPublishLemmas.{seen_read}
use Rattle.dict_requests.proofs.TrailLemmas.{leads_held, bucket_below}
use Rattle.dict_requests.proofs.DeleteLemmas.{seen_value}

pub root_sees : (v : View) (root : ℕ) (b : Block) (kind value : ℕ) → Contains v.roots root → kind ≡ kind_of v root
    → v.volatile (root_word root) ≡ Some value → LeadsTo (Contains v.held) value b → Reaches v root b kind
root_sees v root b kind value owned is read leads = by_start b kind (record { owned = owned; kind_is = is; value = value; read = read; leads = leads })

pub link_sees : (v : View) (root : ℕ) (a b : Block) (from position kind value : ℕ) → Reaches v root a from → IsLink from a.words position kind
    → v.volatile (a.first_word + position) ≡ Some value
    → LeadsTo (Contains v.held) value b → Reaches v root b kind
link_sees v root a b from position kind value reached is read leads =
    by_link a b from kind reached (record { position = position; is_link = is; value = value; read = read; leads = leads })

pub sees_held : (v : View) (root : ℕ) (b : Block) (kind : ℕ) → Reaches v root b kind → Contains v.held b
sees_held v root = closure_least (λ b kind. Contains v.held b) (λ b kind start. start.leads.0) (λ a b from kind reached h link. link.leads.0)

-- it is reached whatever value a word has
pub sees_may : (v : View) (root : ℕ) (b : Block) (kind : ℕ) → Reaches v root b kind → MayReach v root b kind
sees_may v root = closure_included
    (λ b kind start. record {
      owned = start.owned;
      kind_is = start.kind_is;
      value = start.value;
      read = seen_read v (root_word root) start.value start.read;
      leads = start.leads;
    })
    (λ a b from kind reached link. record {
      position = link.position;
      is_link = link.is_link;
      value = link.value;
      read = seen_read v (a.first_word + link.position) link.value link.read;
      leads = link.leads;
    })

-- where no own word is stored to it stays
pub sees_grown : (v u : View) → Grown v u → u.kinds ≡ v.kinds → (root : ℕ) (b : Block) (kind : ℕ) → Reaches v root b kind → Reaches u root b kind
sees_grown v u grown kinds root = closure_included
    (λ b kind start. record {
      owned = subst (λ (rs : List ℕ). Contains rs root) (sym grown.roots) start.owned;
      kind_is = start.kind_is ∙ sym (kind_kept v u root kinds);
      value = start.value;
      read = (grown.words (root_word root) (in_root root (root_word root) start.owned refl)).volatile start.value start.read;
      leads = (grown.keeps b start.leads.0, start.leads.1);
    })
    (λ a b from kind reached link. record {
      position = link.position;
      is_link = link.is_link;
      value = link.value;
      read = (grown.words (a.first_word + link.position) (link_own v a from link.position kind
          (sees_held v root a from reached) link.is_link)).volatile link.value link.read;
      leads = (grown.keeps b link.leads.0, link.leads.1);
    })

-- a link that loads are led to
pub record SeesLink (w : View) (shard at : ℕ) : Type 0 where
  pub holder : Block
  pub from : ℕ
  pub position : ℕ
  pub reached : Reaches w shard holder from
  pub is_link : IsLink from holder.words position node_kind
  pub at_is : at ≡ holder.first_word + position

pub target_sees : (w : View) (shard at value : ℕ) (c : Block) → SeesLink w shard at → w.volatile at ≡ Some value
    → LeadsTo (Contains w.held) value c → Reaches w shard c node_kind
target_sees w shard at value c link seen leads =
    link_sees w shard link.holder c link.from link.position node_kind value link.reached link.is_link
    (subst (λ q. w.volatile q ≡ Some value) link.at_is seen) leads

pub node_link : (w : View) (shard : ℕ) (b : Block) → IsSeat w → Reaches w shard b node_kind → SeesLink w shard b.first_word
node_link w shard b seat reached = record {
  holder = b;
  from = node_kind;
  position = 0;
  reached = reached;
  is_link = in_node b.words (seat.placed b (sees_held w shard b node_kind reached)).some;
  at_is = omega arith;
}

trail_sees : (w : View) (shard : ℕ) → IsSeat w → (at : ℕ) (bs : List Block) → SeesLink w shard at → Trail (IsDurableAt w) w.held at bs
    → SeesLink w shard (link_behind at bs)
trail_sees w shard seat at [] link trail = link
trail_sees w shard seat at (b ∷ bs) link trail =
    trail_sees w shard seat b.first_word bs (node_link w shard b seat
    (target_sees w shard at (pointer_to b) b link trail.1.seen (leads_held w b seat trail.0))) trail.2

-- the link behind a settled trail is one
pub come_sees : (w : View) (key : ℕ) (table : Block) (before : List Block) → IsSeat w → HasCome IsDurableAt w (shard_of key) key table before
    → kind_of w (shard_of key) ≡ table_kind → SeesLink w (shard_of key) (link_behind (table.first_word + bucket_of key) before)
come_sees w key table before seat come root_is = trail_sees w (shard_of key) seat (table.first_word + bucket_of key) before (record {
  holder = table;
  from = kind_of w (shard_of key);
  position = bucket_of key;
  reached = root_sees w (shard_of key) table (kind_of w (shard_of key)) (pointer_to table) come.owned refl come.root.seen
      (leads_held w table seat come.held_table);
  is_link = subst (λ kind. IsLink kind table.words (bucket_of key) node_kind) (sym root_is)
      (in_table table.words (bucket_of key) (let below = bucket_below key in let size = come.size in omega arith));
  at_is = refl;
}) come.trail

-- after a store to a link of the shard all is reached that was, but what is old
module _ (u w : View) (seat : IsSeat u) (shard p x y : ℕ) (small : shard < shards) (may : MayHaveStored p x u w) (kinds : w.kinds ≡ u.kinds)
    (only : ReachesOnlyHeld u) (link : IsLinkOf u shard p node_kind) (publish : MayPublish u shard x node_kind)
    (was : IsDurableAt u p y) (behind : (root : ℕ) → Contains u.roots root → root_word root ≢ p) (old : Block → Type 0)
    (detour : (c : Block) → LeadsTo (Contains u.held) y c → old c ⊎ Reaches w shard c node_kind)
    (from_old : (a c : Block) (value : ℕ) → old a → u.volatile (a.first_word + 0) ≡ Some value → LeadsTo (Contains u.held) value c
    → old c ⊎ Reaches w shard c node_kind)
    (old_kind : (root : ℕ) (a : Block) (kind : ℕ) → old a → Reaches u root a kind → (root ≡ shard) × (kind ≡ node_kind)) where
  as_root : (root k : ℕ) (c : Block) → root ≡ shard → k ≡ node_kind → old c ⊎ Reaches w shard c node_kind → Reaches w root c k ⊎ old c
  as_root root k c is kind (inl gone) = inr gone
  as_root root k c is kind (inr reached) = inl (subst (λ r. Reaches w r c k) (sym is) (subst (λ j. Reaches w shard c j) (sym kind) reached))

  pub sees_after : (root : ℕ) (c : Block) (k : ℕ) → Reaches u root c k → Reaches w root c k ⊎ old c
  sees_after root = closure_least (λ c k. Reaches w root c k ⊎ old c) from_root from_link where
    from_root : (c : Block) (k : ℕ) → RootReaches (Sees u) u root c k → Reaches w root c k ⊎ old c
    from_root c k start = inl (root_sees w root c k start.value (subst (λ (rs : List ℕ). Contains rs root) (sym may.roots) start.owned)
        (start.kind_is ∙ sym (kind_kept u w root kinds))
        ((may.others (root_word root) (in_root root (root_word root) start.owned refl)
        (behind root start.owned)).volatile start.value start.read) (stays_held u w may.held c start.leads.0, start.leads.1))

    from_link : (a c : Block) (from k : ℕ) → Reaches u root a from → Reaches w root a from ⊎ old a → LinkReaches (Sees u) u a from c k
        → Reaches w root c k ⊎ old c
    from_link a c from k reached (inl has) l = elim (cases_eq (a.first_word + l.position) p) as (λ _. Reaches w root c k ⊎ old c) [
      | inl at ↦
          let is = link_at_link u w shard p x node_kind seat small may kinds only link publish root a from l.position k
          (sees_may u root a from reached) l.is_link at in
          let one = seen_value u p l.value y (subst (λ q. u.volatile q ≡ Some l.value) at l.read) was.seen in
          as_root root k c is.0 is.1 (detour c (subst (λ v. LeadsTo (Contains u.held) v c) one l.leads))
      | inr other ↦ inl (link_sees w root a c from l.position k l.value has l.is_link
          ((may.others (a.first_word + l.position) (link_own u a from l.position k (sees_held u root a from reached) l.is_link) other).volatile
          l.value l.read) (stays_held u w may.held c l.leads.0, l.leads.1))
    ]
    from_link a c from k reached (inr gone) l =
        let is = old_kind root a from gone reached in
        let zero = at_first from a.words l.position k l.is_link is.1 in
        as_root root k c is.0 (link_to from a.words l.position k l.is_link)
        (from_old a c l.value gone (subst (λ i. u.volatile (a.first_word + i) ≡ Some l.value) zero l.read) l.leads)

-- after freeing what nothing reaches
pub sees_freed : (w x : View) (b : Block) → IsSeat w → MayHaveFreed b w x → x.kinds ≡ w.kinds → Contains w.held b
    → ((root kind : ℕ) → MayReach w root b kind → ⊥) → (root : ℕ) (c : Block) (k : ℕ) → Reaches w root c k → Reaches x root c k
sees_freed w x b seat may kinds h unreached root = closure_included
    (λ c k start. record {
      owned = subst (λ (rs : List ℕ). Contains rs root) (sym may.roots) start.owned;
      kind_is = start.kind_is ∙ sym (kind_kept w x root kinds);
      value = start.value;
      read = (may.words (root_word root) (in_root root (root_word root) start.owned refl) (λ inside.
          let behind = (seat.placed b h).behind in
          let below = seat.roots_are root start.owned in
          let from = inside.from in omega arith)).volatile start.value start.read;
      leads = (
        may.keeps c start.leads.0 (λ same. unreached root k (subst (λ (d : Block). MayReach w root d k) same
            (sees_may w root c k (root_sees w root c k start.value start.owned start.kind_is start.read start.leads)))),
        start.leads.1,
      );
    })
    (λ a c from k reached l.
    let differs : a ≢ b = λ same. unreached root from (subst (λ (d : Block). MayReach w root d from) same (sees_may w root a from reached)) in
    let a_held = sees_held w root a from reached in
    record {
      position = l.position;
      is_link = l.is_link;
      value = l.value;
      read = (may.words (a.first_word + l.position) (link_own w a from l.position k a_held l.is_link) (λ inside.
          differs (one_holder (Contains w.held) (are_placed w seat) a b (a.first_word + l.position) a_held h
          (link_in a from l.position k l.is_link) inside))).volatile l.value l.read;
      leads = (
        may.keeps c l.leads.0 (λ same. unreached root k (subst (λ (d : Block). MayReach w root d k) same
            (sees_may w root c k (link_sees w root a c from l.position k l.value reached l.is_link l.read l.leads)))),
        l.leads.1,
      );
    })

-- so where all but that was reached, all is
pub all_freed : (w x : View) (b : Block) → IsSeat w → MayHaveFreed b w x → x.kinds ≡ w.kinds → Contains w.held b
    → ((root kind : ℕ) → MayReach w root b kind → ⊥) → (Contains x.held b → ⊥)
    → ReachesAllHeldBut b w → ReachesAllHeld x
all_freed w x b seat may kinds h unreached gone all = record {
  only = only_freed w x b seat may kinds all.only h unreached;
  all = λ c hc.
      let r = all.all c (may.only c hc) (λ same. gone (subst (Contains x.held) same hc)) in
      (r.0, r.1, sees_freed w x b seat may kinds h unreached r.0 c r.1 r.2);
}
