-- Bringing a node to a bucket: what was put in its place, had it not been held before, is brought where it was loose.
use Rattle.std.proofs.Common.{◌≡◌, ℕ, ◌+◌, ◌≤◌, List, Contains, Some, refl, subst, sym, ◌∙◌}
use Rattle.heap_model.specs.declared.block.Block.{Block}
use Rattle.heap_model.specs.Geometry.{root_word}
use Rattle.heap_model.specs.Blocks.{IsIn}
use Rattle.heap_seat.specs.View.{View, word_of}
use Rattle.heap_seat.specs.Words.{IsOwn, in_block, in_root, KeepsWord, KeepsOwn, MayHaveStored}
use Rattle.heap_seat.specs.Free.{MayHaveFreed}
use Rattle.heap_seat.specs.Sound.{IsSeat}
use Rattle.heap_seat.proofs.CallerLemmas.{keeps_word_then}
use Rattle.dict_model.specs.Nodes.{shard_of, bucket_of}
use Rattle.dict_model.specs.Requests.{with_key}
use Rattle.dict_model.specs.Shards.{Map}
use Rattle.dict_requests.specs.declared.walk.Place.{Place}
use Rattle.dict_requests.specs.Reached.{MayReach, ReachesOnlyHeld, ReachesAllHeld, ReachesAllHeldBut}
use Rattle.dict_requests.specs.Trails.{pointer_to, IsDurableAt, IsSettling}
use Rattle.dict_requests.specs.Quiet.{Grown, FollowsLink}
use Rattle.dict_requests.specs.Changes.{MayChange, Changes, IsReadPlace}
use Rattle.dict_requests.specs.Removal.{IsShard, IsLoose}
use Rattle.dict_requests.specs.Moving.{IsNodeOf, MayBring, head_of}
use Rattle.dict_requests.specs.Nodes.{StoresWithin, HasNode, WritesHead}
use Rattle.dict_requests.specs.Puts.{IsMissing, RootIsSet}
use Rattle.dict_requests.proofs.GrownLemmas.{stays_held, kind_kept, grown_keeps, grown_then, gives_grown, only_grown, reached_before}
use Rattle.dict_requests.proofs.TrailLemmas.{settles, bucket_own, bucket_below}
use Rattle.dict_requests.proofs.ExactLemmas.{sees_grown}
use Rattle.dict_requests.proofs.ChangeLemmas.{change_none, table_grown, table_then}
use Rattle.dict_requests.proofs.MovedLemmas.{node_kept}
use Rattle.dict_requests.proofs.LooseLemmas.{less_gone, less_outside, less_keeps, less_follows, less_seat, less_shard, less_all, less_grown, less_missing, less_place, bring_left, brought}
use Rattle.dict_requests.proofs.WithoutLemmas.{without}
use Rattle.dict_requests.proofs.HeadLemmas.{grown_head, head_node}
use Rattle.dict_requests.proofs.FirstLemmas.{first_left, first_done, all_first}
use Rattle.dict_requests.proofs.OverLemmas.{taken_made, over_left, old_still, over_freed, all_over}

-- of the block's words only the link and the key may have been stored to
abbrev KeepsValue : Block → View → View → Type 0
KeepsValue n v w = (word : ℕ) → IsIn n word → (IsIn (head_of n) word → ⊥) → KeepsWord v w word

module _ (v t : View) (seat_v : IsSeat v) (seat_t : IsSeat t) (key : ℕ) (n : Block) (shard : IsShard v (shard_of key)) (loose : IsLoose n v)
    (room : 3 ≤ n.words) (keeps : KeepsOwn v t) (kinds_t : t.kinds ≡ v.kinds) where
  bare : IsShard (without n v) (shard_of key)
  bare = less_shard n v seat_v loose.held loose.unreached shard.only (shard_of key) shard

  held_t : Contains t.held n
  held_t = stays_held v t keeps.held n loose.held

  only_t : ReachesOnlyHeld t
  only_t = only_grown v t (grown_keeps v t keeps) kinds_t seat_t shard.only

  unreached_t : (root kind : ℕ) → MayReach t root n kind → ⊥
  unreached_t root kind reached = loose.unreached root kind (reached_before v t (grown_keeps v t keeps) kinds_t seat_t shard.only root n kind reached)

  bare_keeps : KeepsOwn (without n v) (without n t)
  bare_keeps = less_keeps n v seat_v loose.held t keeps

  left : (after : Map → Map) (w : View) → MayChange (shard_of key) after (without n v) w → Contains w.held n → KeepsValue n v w
      → MayBring n (shard_of key) after v w
  left after w = bring_left n v seat_v loose.held loose.unreached shard.only (shard_of key) after w shard

  done : (after : Map → Map) (w : View) → Changes (shard_of key) after (without n v) w → Changes (shard_of key) after v w
  done after w changes = brought n v seat_v loose.held loose.unreached shard.only (shard_of key) after w shard changes

  pub quiet_left : (after : Map → Map) → MayBring n (shard_of key) after v t
  quiet_left after = left after t (change_none (shard_of key) after (without n v) t
      (less_grown n v seat_v loose.held t (stays_held v t keeps.held) keeps.roots (λ word own out. keeps.words word own)) kinds_t seat_t bare.only)
      held_t (λ word inside behind. keeps.words word (in_block n word loose.held inside))

  module _ (u : View) (seat_u : IsSeat u) (within : StoresWithin (head_of n) 5 t u) where
    grown_u : Grown (without n t) u
    grown_u = grown_head n t seat_t held_t 5 u room within

    kinds_u : u.kinds ≡ t.kinds
    kinds_u = within.calls.goes_on.kinds

    held_u : Contains u.held n
    held_u = stays_held t u within.held n held_t

    value_u : KeepsValue n v u
    value_u word inside behind =
        keeps_word_then v t u word (keeps.words word (in_block n word loose.held inside)) (within.outside word (in_block n word held_t inside) behind)

    -- and so over a store to a word that isn't the block's
    value_w : (at x : ℕ) (w : View) → (IsIn n at → ⊥) → MayHaveStored at x u w → KeepsValue n v w
    value_w at x w apart may word inside behind =
        keeps_word_then v u w word (value_u word inside behind) (may.others word (in_block n word held_u inside)
        (λ same. apart (subst (IsIn n) same inside)))

    pub head_left : (after : Map → Map) → MayBring n (shard_of key) after v u
    head_left after = left after u (change_none (shard_of key) after (without n v) u
        (grown_then (without n v) (without n t) u (grown_keeps (without n v) (without n t) bare_keeps) grown_u) (kinds_u ∙ kinds_t) seat_u bare.only)
        held_u value_u

    module _ (next : ℕ) (writes : WritesHead n key next t u) (value : List ℕ) (node : IsNodeOf v n value) where
      has : HasNode n key next value (without n t) u
      has = head_node n t seat_t held_t 5 u room within key next value
          (node_kept v t n value (λ word inside behind. keeps.words word (in_block n word loose.held inside)) node) writes

      -- a key that wasn't there
      module _ (table : Block) (missing : IsMissing v key table) (follows : FollowsLink (table.first_word + bucket_of key) next v t) (w : View)
          (x : ℕ) (points : x ≡ pointer_to n)
          (may : MayHaveStored (table.first_word + bucket_of key) x u w) (kinds_w : w.kinds ≡ u.kinds) where
        missing' : IsMissing (without n v) key table
        missing' = less_missing n v seat_v loose.held loose.unreached shard.only key shard.kind_is table shard missing

        follows' : FollowsLink (table.first_word + bucket_of key) next (without n v) (without n t)
        follows' = less_follows n v seat_v loose.held t (table.first_word + bucket_of key) next follows

        -- the bucket isn't the block's
        bucket_apart : IsIn n (table.first_word + bucket_of key) → ⊥
        bucket_apart = less_outside n v seat_v loose.held (table.first_word + bucket_of key)
            (bucket_own (without n v) table (bucket_of key) missing'.come.held_table missing'.come.size (bucket_below key))

        pub first_brought : MayBring n (shard_of key) (λ map. with_key map key value) v w
        first_brought = left (λ map. with_key map key value) w
            (first_left (without n v) (without n t) u w (less_seat n t seat_t held_t) seat_u key next x value table n bare missing'
            (less_seat n v seat_v loose.held) bare_keeps follows' grown_u has points may kinds_t kinds_u kinds_w)
            (stays_held u w may.held n held_u) (value_w (table.first_word + bucket_of key) x w bucket_apart may)

        pub first_is_done : IsDurableAt w (table.first_word + bucket_of key) x → Changes (shard_of key) (λ map. with_key map key value) v w
        first_is_done settled = done (λ map. with_key map key value) w
            (first_done (without n v) (without n t) u w (less_seat n t seat_t held_t) seat_u key next x value table n bare missing'
            (less_seat n v seat_v loose.held) bare_keeps follows' grown_u has points may kinds_t kinds_u kinds_w settled)

        pub first_reaches : IsSeat w → IsDurableAt w (table.first_word + bucket_of key) x → ReachesAllHeldBut n v → ReachesAllHeld w
        first_reaches seat_w settled all =
            all_first (without n v) (without n t) u w (less_seat n t seat_t held_t) seat_u key next x value table n bare missing'
            (less_seat n v seat_v loose.held) bare_keeps follows' grown_u has points may kinds_t kinds_u kinds_w seat_w settled
            (less_all n v seat_v loose.held loose.unreached shard.only all)

      -- a key whose node it replaces
      module _ (place : Place) (taken : IsReadPlace IsSettling t key place next) where
        made : (ready : IsReadPlace IsDurableAt u key place next) × Contains (without n t).held ready.table
            × IsOwn (without n t).held t.roots (word_of place.link) × Contains (without n t).held place.node
        made = taken_made (without n t) u key next place (less_seat n t seat_t held_t) grown_u
            (λ word y own settling. settles (without n t) u word y own (grown_u.words word own) has.settles settling)
            (less_place n t seat_t held_t unreached_t only_t key (kind_kept v t (shard_of key) kinds_t ∙ shard.kind_is) place next taken)

        module _ (w : View) (x : ℕ) (points : x ≡ pointer_to n) (may : MayHaveStored (word_of place.link) x u w) (kinds_w : w.kinds ≡ u.kinds) where
          held_w : Contains w.held n
          held_w = stays_held u w may.held n held_u

          value_over : KeepsValue n v w
          value_over = value_w (word_of place.link) x w (less_outside n t seat_t held_t (word_of place.link) made.2) may

          pub over_brought : MayBring n (shard_of key) (λ map. with_key map key value) v w
          over_brought = left (λ map. with_key map key value) w
              (over_left (without n v) (without n t) u w (less_seat n t seat_t held_t)
              seat_u key next x value place n bare bare_keeps made.0 made.1 made.2 made.3 grown_u has points may kinds_t kinds_u kinds_w)
              held_w value_over

          pub replaced_still : Contains w.held place.node
          replaced_still = old_still (without n v) (without n t) u w (less_seat n t seat_t held_t)
              seat_u key next x value place n bare bare_keeps made.0 made.1 made.2 made.3 grown_u has points may kinds_t kinds_u kinds_w

          module _ (seat_w : IsSeat w) (settled : IsDurableAt w (word_of place.link) x) (y : View) (freeing : MayHaveFreed place.node w y)
              (kinds_y : y.kinds ≡ w.kinds) where
            both : Changes (shard_of key) (λ map. with_key map key value) (without n v) y
                × MayChange (shard_of key) (λ map. with_key map key value) (without n v) y
            both = over_freed (without n v) (without n t) u w (less_seat n t seat_t held_t)
                seat_u key next x value place n bare bare_keeps made.0 made.1 made.2 made.3 grown_u has points may kinds_t kinds_u kinds_w
                seat_w settled y freeing kinds_y

            pub over_is_done : Changes (shard_of key) (λ map. with_key map key value) v y
            over_is_done = done (λ map. with_key map key value) y both.0

            pub over_is_left : MayBring n (shard_of key) (λ map. with_key map key value) v y
            over_is_left = left (λ map. with_key map key value) y both.1
                (freeing.keeps n held_w (λ same. less_gone n t seat_t held_t (subst (Contains (without n t).held) (sym same) made.3)))
                (λ word inside behind. keeps_word_then v w y word (value_over word inside behind)
                (freeing.words word (in_block n word held_w inside) (λ in_old. less_outside n t seat_t held_t word
                (in_block place.node word made.3 in_old) inside)))

            pub over_reaches : (Contains y.held place.node → ⊥) → ReachesAllHeldBut n v → ReachesAllHeld y
            over_reaches gone all =
                all_over (without n v) (without n t) u w (less_seat n t seat_t held_t)
                seat_u key next x value place n bare bare_keeps made.0 made.1 made.2 made.3 grown_u has points may kinds_t kinds_u kinds_w
                seat_w settled y freeing kinds_y gone (less_all n v seat_v loose.held loose.unreached shard.only all)

-- over quiet calls before
module _ (v u : View) (n : Block) (seat_u : IsSeat u) (keeps : KeepsOwn v u) (kinds : u.kinds ≡ v.kinds) where
  pub loose_still : ReachesOnlyHeld v → IsLoose n v → IsLoose n u
  loose_still only loose = record {
    held = stays_held v u keeps.held n loose.held;
    unreached = λ root kind reached. loose.unreached root kind (reached_before v u (grown_keeps v u keeps) kinds seat_u only root n kind reached);
  }

  pub node_still : (value : List ℕ) → Contains v.held n → IsNodeOf v n value → IsNodeOf u n value
  node_still value held node = node_kept v u n value (λ word inside behind. keeps.words word (in_block n word held inside)) node

  pub all_but_still : ReachesAllHeldBut n v → ReachesAllHeldBut n u
  all_but_still all = record {
    only = only_grown v u (grown_keeps v u keeps) kinds seat_u all.only;
    all = λ c h differs.
        let r = all.all c (subst (λ (bs : List Block). Contains bs c) keeps.held h) differs in
        (r.0, r.1, sees_grown v u (grown_keeps v u keeps) kinds r.0 c r.1 r.2);
  }

  pub bring_after : (shard : ℕ) (after : Map → Map) (w : View) → ReachesOnlyHeld v → Contains v.held n → MayBring n shard after u w
      → MayBring n shard after v w
  bring_after shard after w only held change =
      let grown = grown_keeps v u keeps in
      record {
        either = λ map gives. change.either map (gives_grown v u grown shard map gives);
        only = change.only;
        table = table_then shard v u w (subst (λ (rs : List ℕ). Contains rs shard) (sym keeps.roots)) (table_grown shard v u grown) change.table;
        others = record {
          roots = change.others.roots ∙ keeps.roots;
          kinds = change.others.kinds ∙ kinds;
          root_words = λ root owned differs. keeps_word_then v u w (root_word root)
              (keeps.words (root_word root) (in_root root (root_word root) owned refl))
              (change.others.root_words root (subst (λ (rs : List ℕ). Contains rs root) (sym keeps.roots) owned) differs);
          blocks = λ a h differs none.
              let r = change.others.blocks a (stays_held v u keeps.held a h) differs
              (λ kind reached. none kind (reached_before v u grown kinds seat_u only shard a kind reached)) in
              (r.0, λ word inside. keeps_word_then v u w word (keeps.words word (in_block a word h inside)) (r.1 word inside));
        };
        stays = change.stays;
        value = λ word inside behind. keeps_word_then v u w word (keeps.words word (in_block n word held inside)) (change.value word inside behind);
      }

  -- a root that is set is so still, and not null
  pub not_null_still : (shard : ℕ) → Contains v.roots shard → RootIsSet v shard → u.volatile (root_word shard) ≡ Some 0 → ⊥
  not_null_still shard owned set null =
      let now = (keeps.words (root_word shard) (in_root shard (root_word shard) owned refl)).volatile set.value set.seen in
      let same : set.value ≡ 0 = cc in set.some same
