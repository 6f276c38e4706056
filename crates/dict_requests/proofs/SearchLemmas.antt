-- What the word of a shard's root tells.
use Rattle.std.proofs.Common.{◌≡◌, ℕ, ◌+◌, ◌*◌, ◌≤◌, List, [], Option, None, Some, IfSome, IfNone, Contains, refl, ap, subst, sym, ◌∙◌, arith}
use Rattle.heap_model.specs.declared.block.Block.{Block}
use Rattle.heap_model.specs.Geometry.{root_word}
use Rattle.heap_model.proofs.ReachLemmas.{not_null}
use Rattle.heap_seat.specs.View.{View}
use Rattle.heap_seat.specs.Words.{IsOwn, in_root, KeepsOwn}
use Rattle.heap_seat.specs.Sound.{IsSeat}
use Rattle.dict_model.specs.Nodes.{buckets, shard_of}
use Rattle.dict_model.specs.Shards.{Map, LeadsTo, is_empty, has_table}
use Rattle.dict_model.proofs.PlacedLemmas.{held_once}
use Rattle.dict_requests.specs.declared.walk.Place.{Place}
use Rattle.dict_requests.specs.declared.search.SearchEnd.TheVariants.{NoTable, Missing, Found}
use Rattle.dict_requests.specs.Maps.{IsMapIn}
use Rattle.dict_requests.specs.Reached.{IsNullOrHeld}
use Rattle.dict_requests.specs.Trails.{IsSettling, HasCome}
use Rattle.dict_requests.specs.Quiet.{IsQuiet, GoesPending, FollowsLink}
use Rattle.dict_requests.specs.Walks.{Walks, IsQuietWalk}
use Rattle.dict_requests.specs.Removal.{IsShard}
use Rattle.dict_requests.specs.Searches.{HasRoot, FindsTable, Searches}
use Rattle.dict_requests.proofs.GrownLemmas.{Grown, are_placed, grown_keeps, own_grown, gives_grown, only_grown}
use Rattle.dict_requests.proofs.TrailLemmas.{now_image, now_completes, come_stays}
use Rattle.dict_requests.proofs.MapPublishLemmas.{seen_read}
use Rattle.dict_requests.proofs.QuietLemmas.{goes_then, quiet_then, still_settling}
use Rattle.dict_requests.proofs.CountLemmas.{lists_later}

module _ (v w : View) (shard word : ℕ) (seat : IsSeat w) (is : IsShard v shard) (keeps : KeepsOwn v w) (kinds : w.kinds ≡ v.kinds)
    (follows : FollowsLink (root_word shard) word v w) where
  grown : Grown v w
  grown = grown_keeps v w keeps

  root_own : IsOwn w.held w.roots (root_word shard)
  root_own = own_grown v w (root_word shard) grown (in_root shard (root_word shard) is.owned refl)

  -- it is null or leads to a held block
  pub root_null_or_held : IsNullOrHeld w word
  root_null_or_held =
      (only_grown v w grown kinds seat is.only).roots shard word (subst (λ (rs : List ℕ). Contains rs shard) (sym keeps.roots) is.owned)
      (seen_read w (root_word shard) word follows.settling.seen)

  root_is : now_image w (root_word shard) ≡ word
  root_is = (now_completes w).seen (root_word shard) word root_own follows.settling.seen

  -- which is a table
  pub root_some : (table : Block) → LeadsTo (Contains w.held) word table → FindsTable shard (Some table) v w
  root_some table leads = record {
    goes = follows.goes;
    some = record {
      owned = subst (λ (rs : List ℕ). Contains rs shard) (sym keeps.roots) is.owned;
      held = leads.0;
      size = by_case ((gives_grown v w grown shard is.map is.gives).each (now_image w) (now_completes w).mixes);
      root = subst (IsSettling w (root_word shard)) leads.1.tagged follows.settling;
    };
    none = tt;
  } where
    by_case : IsMapIn w (now_image w) shard is.map → table.words ≡ buckets
    by_case (is_empty null none) = absurd (not_null word (8 * table.first_word) leads.1 (sym root_is ∙ null))
    by_case (has_table t nodes there chains means) =
        let same = (held_once (Contains w.held) (are_placed w seat)).one word t table
        (subst (λ x. LeadsTo (Contains w.held) x t) root_is there.leads_there) leads in
        ap (λ (b : Block). b.words) (sym same) ∙ there.size

  -- where it is null the shard is empty
  pub root_none : word ≡ 0 → FindsTable shard None v w
  root_none null = record {
    goes = follows.goes;
    some = tt;
    none = record {
      root = subst (IsSettling w (root_word shard)) null follows.settling;
      empty = λ map gives key. by_case map key ((gives_grown v w grown shard map gives).each (now_image w) (now_completes w).mixes);
    };
  } where
    by_case : (map : Map) (key : ℕ) → IsMapIn w (now_image w) shard map → map key ≡ None
    by_case map key (is_empty zero none) = none key
    by_case map key (has_table t nodes there chains means) =
        absurd (not_null (now_image w (root_word shard)) (8 * t.first_word) there.leads_there.1 (root_is ∙ null))

-- in both cases
pub table_found : (v w : View) (shard word : ℕ) → IsSeat w → IsShard v shard → KeepsOwn v w → w.kinds ≡ v.kinds → FollowsLink (root_word shard) word v w
    → (result : Option Block) → IfSome result (LeadsTo (Contains w.held) word) → IfNone result (word ≡ 0) → FindsTable shard result v w
table_found v w shard word seat is keeps kinds follows None some none = root_none v w shard word seat is keeps kinds follows none
table_found v w shard word seat is keeps kinds follows (Some table) some none = root_some v w shard word seat is keeps kinds follows table some

-- a walk begins at the table
pub at_table : (w : View) (key : ℕ) (table : Block) → HasRoot w (shard_of key) table → HasCome IsSettling w (shard_of key) key table []
at_table w key table has = record { owned = has.owned; in_shard = refl; held_table = has.held; size = has.size; root = has.root; trail = tt }

module _ (v u w : View) (key : ℕ) (seat : IsSeat u) (keeps : KeepsOwn v u) (goes : GoesPending v u) (keeps' : KeepsOwn u w) where
  pub searched_found : (place : Place) → Walks key (Some place) u w → Searches key (Found place) v w
  searched_found place walks = record { goes = goes_then v u w goes walks.goes; ends = walks.some }

  pub searched_missing : (table : Block) → HasRoot u (shard_of key) table → Walks key None u w → Searches key (Missing table) v w
  searched_missing table has walks = record {
    goes = goes_then v u w goes walks.goes;
    ends = (
      come_stays IsSettling IsSettling u w (shard_of key) key table [] seat (grown_keeps u w keeps')
          (λ word value own settling. still_settling u w word value own keeps' walks.goes settling) (at_table u key table has),
      λ map gives. walks.none map (gives_grown v u (grown_keeps v u keeps) (shard_of key) map gives),
    );
  }

-- quiet calls, and a walk behind them
pub quiet_then_walk : (more shard : ℕ) (v u w : View) → IsQuiet 2 v u → IsQuietWalk more shard u w → IsQuietWalk (2 + more) shard v w
quiet_then_walk more shard v u w quiet walk = record {
  small = 2 + walk.small;
  quiet = quiet_then 2 walk.small (2 + walk.small) v u w (omega arith) quiet walk.quiet;
  few = λ keys lists. let few = walk.few keys (lists_later v u shard keys (grown_keeps v u quiet.unchanged) lists) in omega arith;
}

pub quiet_alone : (n more shard : ℕ) (v w : View) → n ≤ more → IsQuiet n v w → IsQuietWalk more shard v w
quiet_alone n more shard v w small quiet = record { small = n; quiet = quiet; few = λ keys lists. omega arith }

-- what was done when there is no table
pub searched_none : (v w : View) (key : ℕ) → FindsTable (shard_of key) None v w → Searches key NoTable v w
searched_none v w key finds = record { goes = finds.goes; ends = finds.none }
