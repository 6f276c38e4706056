-- What has been read of a shard: one more node, the end of a chain, and the bad places.
use Rattle.std.proofs.Common.{◌≡◌, ◌≢◌, ℕ, ◌+◌, ◌<◌, List, [], ◌∷◌, ◌++◌, None, Some, cond, refl, sym, subst, ◌∙◌, ap, arith, inl, inr, below_more, length-append, length, zero, suc}
use Rattle.std.specs.Prelude.{nat_eq, IsSome, slice_get}
use Rattle.std.specs.Map.{lookup}
use Rattle.std.specs.BTreeMap.{BTreeMap, get, is_at, IsOrdered}
use Rattle.std.specs.Ordering.{nat_cmp}
use Rattle.std.proofs.lemmas.Bool.{cond-true, cond-false, cond_both, cases_eq, ne_eqb, eq-eqb}
use Rattle.heap_model.specs.declared.block.Block.{Block}
use Rattle.heap_model.specs.Image.{Image}
use Rattle.dict_model.specs.Links.{shards}
use Rattle.dict_model.specs.Nodes.{buckets, shard_of, bucket_of, key_in, value_in, IsNode, find}
use Rattle.dict_model.specs.Shards.{Map, Leading, LeadsOnce, LeadsAstray, HasTable, HasChains, IsBucketChain, IsPath, link_behind, but, map_of, IsMap, MapOf, has_table, IsBadAt, IsNext, at_link, BadShard as IsBadShard}
use Rattle.dict_model.proofs.ShardLemmas.{find_first, find_behind, not_first, not_behind}
use Rattle.dict_model.proofs.FoundLemmas.{chains_with, with_same, with_other}
use Rattle.dictionary.specs.declared.fault.MapFault.{MapFault}
use Rattle.dictionary.specs.declared.fault.MapFault.TheVariants.{BadShard, Memory}
use Rattle.dictionary.specs.Reading.{AddsNode, IsMapUpTo, IsMapBefore, AreMaps, TellsBad, TellsLowest}

-- an empty map has no key
pub no_key : (m : BTreeMap ℕ (List ℕ)) → m.entries ≡ [] → (key : ℕ) → get nat_cmp m key ≡ None
no_key m empty key = ap (λ (es : List (ℕ × List ℕ)). lookup (is_at (nat_cmp key)) es) empty

-- one more node behind a chain
module _ (image : Image) (b : Block) where
  pub find-push_other : (key : ℕ) (bs : List Block) → key_in image b ≢ key → find image key (bs ++ b ∷ []) ≡ find image key bs
  find-push_other key [] other = find_behind image key b [] other
  find-push_other key (x ∷ bs) other = ap (λ v. cond (nat_eq (key_in image x) key) (Some (value_in image x)) v) (find-push_other key bs other)

  find-push_same : (bs : List Block) → find image (key_in image b) bs ≡ None → find image (key_in image b) (bs ++ b ∷ []) ≡ Some (value_in image b)
  find-push_same [] none = find_first image (key_in image b) b [] refl
  find-push_same (x ∷ bs) none =
      find_behind image (key_in image b) x (bs ++ b ∷ []) (not_first image (key_in image b) x bs none)
      ∙ find-push_same bs (not_behind image (key_in image b) x bs none)

  pub link_behind-push : (at : ℕ) (bs : List Block) → link_behind at (bs ++ b ∷ []) ≡ b.first_word
  link_behind-push at [] = refl
  link_behind-push at (x ∷ bs) = link_behind-push x.first_word bs

  pub path-push : (leads : Leading) (shard bucket at : ℕ) (bs : List Block) → IsPath leads image shard bucket at bs
      → leads (image (link_behind at bs)) b
      → IsNode image shard bucket b → find image (key_in image b) bs ≡ None → IsPath leads image shard bucket at (bs ++ b ∷ [])
  path-push leads shard bucket at [] path to is none = (to, is, refl, tt)
  path-push leads shard bucket at (x ∷ bs) path to is none = (
    path.0,
    path.1,
    find-push_other (key_in image x) bs (λ e. not_first image (key_in image b) x bs none (sym e)) ∙ path.2,
    path-push leads shard bucket x.first_word bs path.3 to is (not_behind image (key_in image b) x bs none),
  )

module _ (leads : Leading) (image : Image) (shard : ℕ) (table : Block) where
  -- nothing has been read yet
  pub map_begins : (map : Map) → ((key : ℕ) → map key ≡ None) → IsMapUpTo leads image shard table 0 map
  map_begins map none = record {
    nodes = λ _. [];
    chains = λ k below. absurd (omega arith);
    rest = λ j above. refl;
    means = λ key. none key ∙ cond_both (nat_eq (shard_of key) shard) None None (λ found. None ≡ found) (λ _. refl) (λ _. refl);
  }

  -- all has been read
  pub map_ends : (map : Map) → HasTable leads image shard table → IsMapUpTo leads image shard table buckets map → IsMap leads image shard map
  map_ends map there read = has_table table read.nodes there read.chains read.means

  module _ (k : ℕ) where
    -- a chain begins
    pub chain_begins : (map : Map) → IsMapUpTo leads image shard table k map → IsMapBefore leads image shard table k (table.first_word + k) map
    chain_begins map upto =
        let none : upto.nodes k ≡ [] = upto.rest k (omega arith) in
        record {
          nodes = upto.nodes;
          read = record {
            chains = upto.chains;
            path = subst (λ bs. IsPath (but table leads) image shard k (table.first_word + k) bs) (sym none) tt;
            rest = λ j above. upto.rest j (omega arith);
            means = upto.means;
          };
          at_is = ap (λ bs. link_behind (table.first_word + k) bs) (sym none);
        }

    -- a chain ends
    pub chain_ends : (at : ℕ) (map : Map) → IsMapBefore leads image shard table k at map → image at ≡ 0 → IsMapUpTo leads image shard table (k + 1) map
    chain_ends at map before null = record {
      nodes = before.nodes;
      chains = below_more (λ j. IsBucketChain (but table leads) image shard j (table.first_word + j) (before.nodes j)) k before.read.chains
          (record { path = before.read.path; ends = subst (λ w. image w ≡ 0) before.at_is null });
      rest = λ j above. before.read.rest j (omega arith);
      means = before.read.means;
    }

    -- what the map has at the key of a node of the bucket
    pub at_key : (nodes : ℕ → List Block) (b : Block) → IsNode image shard k b
        → map_of image shard nodes (key_in image b) ≡ find image (key_in image b) (nodes k)
    at_key nodes b is =
        cond-true (nat_eq (shard_of (key_in image b)) shard) (find image (key_in image b) (nodes (bucket_of (key_in image b)))) None
        (eq-eqb (shard_of (key_in image b)) shard is.in_shard)
        ∙ ap (λ j. find image (key_in image b) (nodes j)) is.in_bucket

    -- one more node
    module _ (nodes : ℕ → List Block) (b : Block) where
      unfoldable pub further : ℕ → List Block
      further = chains_with nodes k (nodes k ++ b ∷ [])

      other_key : (key : ℕ) → key_in image b ≢ key → (j : ℕ) → find image key (further j) ≡ find image key (nodes j)
      unfolding further
      other_key key other j = elim (cases_eq j k) as (λ _. find image key (further j) ≡ find image key (nodes j)) [
        | inl is ↦ subst (λ i. find image key (further i) ≡ find image key (nodes i)) (sym is)
            (ap (λ bs. find image key bs) (with_same nodes k (nodes k ++ b ∷ [])) ∙ find-push_other image b key (nodes k) other)
        | inr apart ↦ ap (λ bs. find image key bs) (with_other nodes k (nodes k ++ b ∷ []) j apart)
      ]

      pub more_means : (old new : BTreeMap ℕ (List ℕ)) → IsNode image shard k b → find image (key_in image b) (nodes k) ≡ None
          → ((key : ℕ) → get nat_cmp old key ≡ map_of image shard nodes key)
          → ((key : ℕ) → get nat_cmp new key ≡ cond (nat_eq (key_in image b) key) (Some (value_in image b)) (get nat_cmp old key))
          → (key : ℕ) → get nat_cmp new key ≡ map_of image shard further key
      unfolding further
      more_means old new is none means has key = elim (cases_eq (key_in image b) key) as (λ _. get nat_cmp new key ≡ map_of image shard further key) [
        | inl same ↦ subst (λ q. get nat_cmp new q ≡ map_of image shard further q) same
            (has (key_in image b) ∙ cond-true (nat_eq (key_in image b) (key_in image b)) (Some (value_in image b))
            (get nat_cmp old (key_in image b)) (eq-eqb (key_in image b) (key_in image b) refl)
            ∙ sym (find-push_same image b (nodes k) none) ∙ ap (λ bs. find image (key_in image b) bs)
            (sym (with_same nodes k (nodes k ++ b ∷ []))) ∙ sym (at_key further b is))
        | inr other ↦ has key ∙ cond-false (nat_eq (key_in image b) key) (Some (value_in image b)) (get nat_cmp old key)
            (ne_eqb (key_in image b) key other)
            ∙ means key ∙ ap (λ found. cond (nat_eq (shard_of key) shard) found None) (sym (other_key key other (bucket_of key)))
      ]

      more_chains : HasChains leads image shard table k nodes → HasChains leads image shard table k further
      unfolding further
      more_chains chains j below =
          subst (λ bs. IsBucketChain (but table leads) image shard j (table.first_word + j) bs)
          (sym (with_other nodes k (nodes k ++ b ∷ []) j (λ e. omega arith))) (chains j below)

    pub chain_step : (at : ℕ) (old new : BTreeMap ℕ (List ℕ)) (b : Block) → IsMapBefore leads image shard table k at (get nat_cmp old)
        → but table leads (image at) b → IsNode image shard k b → AddsNode image b old new
        → IsMapBefore leads image shard table k b.first_word (get nat_cmp new)
    unfolding further
    chain_step at old new b before to is adds =
        let none : find image (key_in image b) (before.nodes k) ≡ None = sym (at_key before.nodes b is)
        ∙ sym (before.read.means (key_in image b)) ∙ adds.was_new in
        let this = with_same before.nodes k (before.nodes k ++ b ∷ []) in
        record {
          nodes = further before.nodes b;
          read = record {
            chains = more_chains before.nodes b before.read.chains;
            path = subst (λ bs. IsPath (but table leads) image shard k (table.first_word + k) bs) (sym this)
                (path-push image b (but table leads) shard k (table.first_word + k) (before.nodes k) before.read.path
                (subst (λ w. but table leads (image w) b) before.at_is to) is none);
            rest = λ j above. with_other before.nodes k (before.nodes k ++ b ∷ []) j (λ e. omega arith) ∙ before.read.rest j above;
            means = more_means before.nodes b old new is none before.read.means adds.has;
          };
          at_is = sym (ap (λ bs. link_behind (table.first_word + k) bs) this ∙ link_behind-push image b (table.first_word + k) (before.nodes k));
        }

    -- a link that leads to no node of the bucket, and one that leads to a node whose key was met, lead to no next node
    pub no_node : (word : ℕ) (nodes : ℕ → List Block) → LeadsAstray (but table leads) (IsNode image shard k) word
        → LeadsAstray (but table leads) (IsNext image shard k (nodes k)) word
    no_node word nodes astray = record { not_null = astray.not_null; nowhere = λ b to next. astray.nowhere b to next.node }

    pub no_new_key : (once : LeadsOnce leads) (word : ℕ) (nodes : ℕ → List Block) (map : Map) (b : Block)
        → ((key : ℕ) → map key ≡ map_of image shard nodes key)
        → but table leads word b → IsNode image shard k b → IsSome (map (key_in image b))
        → LeadsAstray (but table leads) (IsNext image shard k (nodes k)) word
    no_new_key once word nodes map b means to is met = record {
      not_null = λ null. once.null b (subst (λ w. leads w b) null to.0);
      nowhere = λ c to_c next.
          let new : find image (key_in image b) (nodes k) ≡ None =
          subst (λ (x : Block). find image (key_in image x) (nodes k) ≡ None) (once.one word c b to_c.0 to.0) next.new in
          let none : map (key_in image b) ≡ None = means (key_in image b) ∙ at_key nodes b is ∙ new in
          let absent : IsSome {T = List ℕ} None = subst (λ o. IsSome o) none met in absurd (cc);
    }

    pub bad_link : (at : ℕ) (map : Map) → HasTable leads image shard table → k < buckets → IsMapBefore leads image shard table k at map
        → LeadsAstray (but table leads) (IsNode image shard k) (image at) → IsBadAt leads image shard at
    bad_link at map there below before astray = at_link table before.nodes k at
        (before.nodes k) there below before.read.chains before.read.path before.at_is
        (no_node (image at) before.nodes astray)

    pub bad_key : (once : LeadsOnce leads) (at : ℕ) (map : Map) (b : Block) → HasTable leads image shard table → k < buckets
        → IsMapBefore leads image shard table k at map
        → but table leads (image at) b → IsNode image shard k b → IsSome (map (key_in image b)) → IsBadAt leads image shard at
    bad_key once at map b there below before to is met = at_link table before.nodes k at
        (before.nodes k) there below before.read.chains before.read.path before.at_is
        (no_new_key once (image at) before.nodes map b before.read.means to is met)

-- maps of one more shard
pub maps_begin : (image : Image) → AreMaps image 0 []
maps_begin image = record { long = refl; each = λ i below. absurd (omega arith) }

get-push_left : (maps : List (BTreeMap ℕ (List ℕ))) (m : BTreeMap ℕ (List ℕ)) (i : ℕ) (x : BTreeMap ℕ (List ℕ)) → slice_get maps i ≡ Some x
    → slice_get (maps ++ m ∷ []) i ≡ Some x
get-push_left [] m i x is = let none : None ≡ Some x = is in absurd (cc)
get-push_left (y ∷ maps) m zero x is = is
get-push_left (y ∷ maps) m (suc i) x is = get-push_left maps m i x is

get-push_last : (maps : List (BTreeMap ℕ (List ℕ))) (m : BTreeMap ℕ (List ℕ)) → slice_get (maps ++ m ∷ []) (length maps) ≡ Some m
get-push_last [] m = refl
get-push_last (y ∷ maps) m = get-push_last maps m

pub maps_push : (image : Image) (n : ℕ) (maps : List (BTreeMap ℕ (List ℕ))) (m : BTreeMap ℕ (List ℕ)) → AreMaps image n maps
    → MapOf image n (get nat_cmp m)
    → IsOrdered nat_cmp m → AreMaps image (n + 1) (maps ++ m ∷ [])
maps_push image n maps m are is ordered = record {
  long = let more = length-append maps (m ∷ []) in let long = are.long in omega arith;
  each = below_more (λ i. (x : BTreeMap ℕ (List ℕ)) × (slice_get (maps ++ m ∷ []) i ≡ Some x) × MapOf image i (get nat_cmp x) × IsOrdered nat_cmp x) n
      (λ i below. let each = are.each i below in (each.0, get-push_left maps m i each.0 each.1, each.2, each.3))
      (m, subst (λ i. slice_get (maps ++ m ∷ []) i ≡ Some m) are.long (get-push_last maps m), is, ordered);
}

-- where the maps of the shards below are there, a bad shard is the lowest
pub tells_lowest : (image : Image) (i : ℕ) (maps : List (BTreeMap ℕ (List ℕ))) (fault : MapFault) → i < shards → AreMaps image i maps
    → TellsBad image i fault → TellsLowest image fault
tells_lowest image i maps (BadShard shard at) below are tells = (
  subst (λ n. n < shards) (sym tells.0) below,
  subst (λ n. IsBadShard image n at) (sym tells.0) tells.1,
  λ j low. let each = are.each j (subst (λ n. j < n) tells.0 low) in (get nat_cmp each.0, each.2),
)
tells_lowest image i maps Memory below are tells = tt
