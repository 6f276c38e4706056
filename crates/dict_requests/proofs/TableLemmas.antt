-- Making a table: its size, and what publishing it at the root leaves.
use Rattle.std.proofs.Common.{◌≡◌, ℕ, ◌+◌, ◌*◌, ◌<◌, ◌≤◌, ◌⊎◌, ◌||◌, inl, inr, List, Bool, true, nat_eq, nat_le, None, Contains, refl, subst, sym, ◌∙◌, arith, Some}
use Rattle.std.proofs.lemmas.Bool.{cases_eq, or_cases, leb-true, eqb-true}
use Rattle.heap_model.specs.declared.block.Block.{Block}
use Rattle.heap_model.specs.Image.{Image}
use Rattle.heap_model.specs.Geometry.{root_word}
use Rattle.heap_model.specs.Sizes.{IsClass, IsLeastClassFor, size_of, class_sizes}
use Rattle.heap_model.proofs.SizeLemmas.{at_class}
use Rattle.heap_seat.specs.View.{View, kind_of}
use Rattle.heap_seat.specs.Words.{IsOwn, in_root, in_block, MayRead, MixesOwn, MayHaveStored}
use Rattle.heap_seat.specs.Alloc.{IsSizeFor, of_class, of_superblocks}
use Rattle.heap_seat.specs.Sound.{IsSeat}
use Rattle.heap_seat.proofs.CallerLemmas.{own_same, read_before}
use Rattle.dict_model.specs.Links.{shards}
use Rattle.dict_model.specs.Nodes.{buckets, shard_of}
use Rattle.dict_model.specs.Shards.{Map, LeadsTo, IsMap}
use Rattle.dict_model.proofs.MapLemmas.{table_made}
use Rattle.dict_model.proofs.PlacedLemmas.{held_once}
use Rattle.dict_requests.specs.Maps.{IsMapIn, GivesMap}
use Rattle.dict_requests.specs.Reached.{MayReach, ReachesOnlyHeld, Reaches, ReachesAllHeld}
use Rattle.dict_requests.specs.Trails.{pointer_to, IsDurableAt}
use Rattle.dict_requests.specs.Quiet.{Grown}
use Rattle.dict_requests.specs.Changes.{MayChange}
use Rattle.dict_requests.specs.Puts.{IsMissing}
use Rattle.dict_requests.proofs.GrownLemmas.{stays_held, are_placed, kind_kept, gives_grown, only_grown, others_grown, reached_before, reached_held, link_inside, link_own}
use Rattle.dict_requests.proofs.PublishLemmas.{IsLinkOf, is_root, MayPublish, new, IsFresh, only_after, others_after, others_then, reached_after}
use Rattle.dict_requests.proofs.TrailLemmas.{settled_in, settled_stays, leads_held, same_map}
use Rattle.heap_model.proofs.ReachLemmas.{closure_included, not_null}
use Rattle.dict_requests.proofs.ExactLemmas.{root_sees, sees_held, sees_grown}
use Rattle.dict_requests.proofs.DeleteLemmas.{seen_value}
use Rattle.dict_requests.proofs.PutLemmas.{one_reading}

module _ (v u w : View) (seat : IsSeat u) (seat_w : IsSeat w) (grown : Grown v u) (only_v : ReachesOnlyHeld v) (shard x : ℕ) (table : Block)
    (small : shard < shards) (owned : Contains v.roots shard)
    (held : Contains u.held table) (fresh : Contains v.held table → ⊥) (size : table.words ≡ buckets) (nulls : (i : ℕ) → i < buckets
    → IsDurableAt u (table.first_word + i) 0)
    (points : x ≡ pointer_to table) (may : MayHaveStored (root_word shard) x u w) (empty : (map : Map) → GivesMap v shard map → (key : ℕ)
    → map key ≡ None)
    (kinds : u.kinds ≡ v.kinds) (kinds_w : w.kinds ≡ u.kinds) where
  only_u : ReachesOnlyHeld u
  only_u = only_grown v u grown kinds seat only_v

  owned_u : Contains u.roots shard
  owned_u = subst (λ (rs : List ℕ). Contains rs shard) (sym grown.roots) owned

  own_null : (i : ℕ) → i < buckets → IsOwn u.held u.roots (table.first_word + i)
  own_null i below = in_block table (table.first_word + i) held (record { from = omega arith; until = omega arith })

  is_fresh_table : IsFresh u shard table (kind_of u shard)
  is_fresh_table = record {
    unreached = λ root other reached. fresh (reached_held v root table other (reached_before v u grown kinds seat only_v root table other reached));
    links = λ position to read is may_read. inl (one_reading u (table.first_word + position) 0 read
        (nulls position (let i = link_inside (kind_of u shard) table.words position to is in omega arith)) may_read);
  }

  link : IsLinkOf u shard (root_word shard) (kind_of u shard)
  link = is_root owned_u refl

  publish : MayPublish u shard x (kind_of u shard)
  publish = new table (subst (λ q. LeadsTo (Contains u.held) q table) (sym points) (leads_held u table seat held)) is_fresh_table

  -- every mixture gives the map as before
  pub table_gives : (map : Map) → GivesMap v shard map → GivesMap w shard map
  table_gives map gives = record {
    each = λ image mixes. by_root image mixes (may.stored (image (root_word shard)) (mixes.each (root_word shard)
        (own_same u w (root_word shard) may.held may.roots (in_root shard (root_word shard) owned_u refl))));
  } where
    by_root : (image : Image) → MixesOwn w image → (image (root_word shard) ≡ x) ⊎ MayRead u (root_word shard) (image (root_word shard))
        → IsMapIn w image shard map
    by_root image mixes (inl stored) = table_made (LeadsTo (Contains w.held)) image shard table map
        (subst (λ q. LeadsTo (Contains w.held) q table) (sym (stored ∙ points))
        (leads_held w table seat_w (subst (λ (bs : List Block). Contains bs table) (sym may.held) held))) size
        (λ k below.
        let behind = (seat.placed table held).behind in
        let low = seat.roots_are shard owned_u in
        settled_in w image mixes (table.first_word + k) 0 (own_same u w (table.first_word + k) may.held may.roots (own_null k below))
        (settled_stays u w (table.first_word + k) 0 (may.others (table.first_word + k) (own_null k below) (λ e. omega arith)) (nulls k below)))
        (empty map gives)
    by_root image mixes (inr read) = subst (λ (bs : List Block). IsMap (LeadsTo (Contains bs)) image shard map) (sym may.held)
        ((gives_grown v u grown shard map gives).each image (record {
          each = λ word own. elim (cases_eq word (root_word shard)) as (λ _. MayRead u word (image word)) [
            | inl same ↦ subst (λ q. MayRead u q (image q)) (sym same) read
            | inr other ↦ read_before u w word (image word) (may.others word own other) (mixes.each word (own_same u w word may.held may.roots own))
          ];
        }))

  -- of the old blocks the root reaches no other than before
  pub table_reached : (b : Block) (kind : ℕ) → Contains v.held b → MayReach w shard b kind → MayReach v shard b kind
  table_reached b kind h reached =
      elim (reached_after u w shard (root_word shard) x (kind_of u shard) seat small may kinds_w only_u link publish shard b kind reached) as
      (λ _. MayReach v shard b kind) [
        | inl before ↦ reached_before v u grown kinds seat only_v shard b kind before
        | inr made ↦
            let same = (held_once (Contains u.held) (are_placed u seat)).one x b table made.1.leads
            (subst (λ q. LeadsTo (Contains u.held) q table) (sym points) (leads_held u table seat held)) in
            absurd (fresh (subst (Contains v.held) same h))
      ]

  pub table_left : v.volatile (root_word shard) ≡ Some 0 → (after : Map → Map) → MayChange shard after v w
  table_left null after = record {
    either = λ map gives. record { each = λ image mixes. inl ((table_gives map gives).each image mixes) };
    only = only_after u w shard (root_word shard) x (kind_of u shard) seat small may kinds_w only_u link publish;
    table = record { root = λ y owned seen some. absurd (some (seen_value v (root_word shard) y 0 seen null)) };
    others = others_then shard v u w (λ b kind h reached. reached_before v u grown kinds seat only_v shard b kind reached)
        (others_grown v u grown kinds shard)
        (others_after u w shard (root_word shard) x (kind_of u shard) seat small may kinds_w only_u link publish);
  }

  -- what loads see reached is so still, and the table too
  pub table_all : u.volatile (root_word shard) ≡ Some 0 → w.volatile (root_word shard) ≡ Some x
      → ((a : Block) → Contains u.held a → (a ≡ table) ⊎ Contains v.held a) → ReachesAllHeld v → ReachesAllHeld w
  table_all null seen either all = record {
    only = only_after u w shard (root_word shard) x (kind_of u shard) seat small may kinds_w only_u link publish;
    all = reached;
  } where
    past : (root : ℕ) (c : Block) (k : ℕ) → Reaches u root c k → Reaches w root c k
    past root = closure_included
        (λ c k start. record {
          owned = subst (λ (rs : List ℕ). Contains rs root) (sym may.roots) start.owned;
          kind_is = start.kind_is ∙ sym (kind_kept u w root kinds_w);
          value = start.value;
          read = (may.others (root_word root) (in_root root (root_word root) start.owned refl) (λ e.
              let zero : start.value ≡ 0 = seen_value u (root_word shard) start.value 0
              (subst (λ q. u.volatile q ≡ Some start.value) e start.read) null in
              not_null start.value (8 * c.first_word) start.leads.1 zero)).volatile start.value start.read;
          leads = (stays_held u w may.held c start.leads.0, start.leads.1);
        })
        (λ a c from k before l.
        let a_held = sees_held u root a from before in
        let behind = (seat.placed a a_held).behind in
        let low = seat.roots_are shard owned_u in
        record {
          position = l.position;
          is_link = l.is_link;
          value = l.value;
          read = (may.others (a.first_word + l.position) (link_own u a from l.position k a_held l.is_link) (λ e. omega arith)).volatile l.value l.read;
          leads = (stays_held u w may.held c l.leads.0, l.leads.1);
        })

    reached : (c : Block) → Contains w.held c → (root : ℕ) × (kind : ℕ) × Reaches w root c kind
    reached c h = elim (either c (subst (λ (bs : List Block). Contains bs c) may.held h)) as (λ _. (root : ℕ) × (kind : ℕ) × Reaches w root c kind) [
      | inl same ↦ (
        shard,
        kind_of w shard,
        root_sees w shard c (kind_of w shard) x (subst (λ (rs : List ℕ). Contains rs shard) (sym may.roots) owned_u) refl seen
            (subst (λ (d : Block). LeadsTo (Contains w.held) x d) (sym same)
            (subst (λ q. LeadsTo (Contains w.held) q table) (sym points) (leads_held w table seat_w (stays_held u w may.held table held)))),
      )
      | inr was ↦ let r = all.all c was in (r.0, r.1, past r.0 c r.1 (sees_grown v u grown kinds r.0 c r.1 r.2))
    ]

-- the table has no key
pub table_missing : (v w : View) (key x : ℕ) (table : Block) → IsSeat w → Contains w.roots (shard_of key) → Contains w.held table
    → table.words ≡ buckets → x ≡ pointer_to table
    → IsDurableAt w (root_word (shard_of key)) x → (map₀ : Map) → GivesMap w (shard_of key) map₀ → ((q : ℕ) → map₀ q ≡ None) → IsMissing w key table
table_missing v w key x table seat owned held size points settled map₀ gives₀ empty = record {
  come = record {
    owned = owned;
    in_shard = refl;
    held_table = held;
    size = size;
    root = let at = subst (IsDurableAt w (root_word (shard_of key))) points settled in record { seen = at.seen; coming = inr at.left };
    trail = tt;
  };
  none = λ map gives. same_map w seat (shard_of key) map map₀ gives gives₀ key ∙ empty key;
}

-- of a block for 128 words, the number of words
size_test : ℕ → Bool
size_test class = nat_le (size_of class) 1023 || (nat_le 13 class || nat_eq (size_of class) 1024)

sizes : (class : ℕ) → IsClass class → size_test class ≡ true
unfolding size_test size_of class_sizes
sizes class is = at_class size_test refl class is

twelfth : 1024 ≤ size_of 12
unfolding size_of class_sizes
twelfth = omega arith

class_1024 : (c : ℕ) → IsLeastClassFor 1024 c → size_of c ≡ 1024
unfolding size_test
class_1024 c least =
    let holds = least.holds in
    let low = least.least 12 (record { some = omega arith; last = omega arith }) twelfth in
    elim (or_cases (nat_le (size_of c) 1023) (nat_le 13 c || nat_eq (size_of c) 1024) (sizes c least.is_class)) as (λ _. size_of c ≡ 1024) [
      | inl less ↦ let l = leb-true (size_of c) 1023 less in absurd (omega arith)
      | inr more ↦ elim (or_cases (nat_le 13 c) (nat_eq (size_of c) 1024) more) as (λ _. size_of c ≡ 1024) [
        | inl above ↦ let a = leb-true 13 c above in absurd (omega arith)
        | inr is ↦ eqb-true (size_of c) 1024 is
      ]
    ]

size_1024 : (n : ℕ) → IsSizeFor 1024 n → n ≡ 1024
size_1024 _ (of_class c least) = class_1024 c least
size_1024 _ (of_superblocks large) = absurd (omega arith)

pub table_size : (words : ℕ) → IsSizeFor 1024 (8 * words) → words ≡ 128
table_size words size = let e = size_1024 (8 * words) size in omega arith
