-- A shard of an image in which a trace finds what it finds in another has the map, or the bad place, that it has there.
use Rattle.std.proofs.Common.{◌≡◌, ◌≢◌, ℕ, zero, suc, ◌+◌, ◌*◌, ◌<◌, ◌≤◌, List, [], ◌∷◌, None, Some, cond, length, take, refl, sym, subst, ◌∙◌, ap, arith, inl, inr}
use Rattle.std.specs.Prelude.{nat_eq, Contains, ◌/◌, ◌-◌}
use Rattle.std.proofs.Math.Nat.{mod-lt}
use Rattle.heap_model.specs.declared.block.Block.{Block}
use Rattle.heap_model.specs.Geometry.{roots, root_word}
use Rattle.heap_model.specs.Header.{kinds_of}
use Rattle.heap_model.specs.Image.{Image, words_from, bytes_of_words}
use Rattle.heap_model.specs.Blocks.{layout_of, IsBlock, IsIn}
use Rattle.heap_model.specs.Pointers.{Leads, LeadsOutside}
use Rattle.heap_model.specs.Reach.{AnyRoot, words_in, Reach, by_start, by_link, IsTracedFrom, is_root, is_linked, IsTraced, TracesAlike}
use Rattle.heap_model.proofs.ImageLemmas.{length-words_from, words_from-agree}
use Rattle.heap_model.proofs.DecisionLemmas.{is_block}
use Rattle.heap_model.proofs.ReachLemmas.{one_block, not_null, more_roots, reach_kept, nothing_more, reach_by_kinds}
use Rattle.dict_model.specs.Links.{all_to_nodes, dict_links, table_kind, shards}
use Rattle.dict_model.specs.Nodes.{largest_value, buckets, shard_of, bucket_of, key_in, length_in, value_in, value_words, IsNode, find}
use Rattle.dict_model.specs.Shards.{Map, link_behind, IsPath, IsBucketChain, HasTable, HasChains, but, IsMap, is_empty, has_table, IsBadAt, at_root, at_link, LeadsAlone}

-- a table links each of its words, a node its first
all_listed : (from : ℕ) (words : List ℕ) (k : ℕ) → k < length words → Contains (all_to_nodes from words) (from + k, 2)
all_listed from [] k below = absurd (omega arith)
all_listed from (w ∷ words) zero below = (zero, omega arith, let same : from ≡ from + 0 = omega arith in ap (λ n. (n, 2)) same)
all_listed from (w ∷ words) (suc k) below =
    let rest = all_listed (from + 1) words k (omega arith) in
    let same : from + 1 + k ≡ from + suc k = omega arith in
    let moved : Contains (all_to_nodes (from + 1) words) (from + suc k, 2) = subst (λ n. Contains (all_to_nodes (from + 1) words) (n, 2)) same rest in
    (suc moved.0, omega (arith, moved.1), moved.2)

table_lists : (image : Image) (table : Block) (k : ℕ) → k < table.words → Contains (dict_links 1 (words_in image table)) (k, 2)
table_lists image table k below =
    let long = length-words_from image table.first_word table.words in
    let listed = all_listed 0 (words_in image table) k (omega arith) in
    let same : 0 + k ≡ k = omega arith in
    subst (λ n. Contains (all_to_nodes 0 (words_in image table)) (n, 2)) same listed

node_lists : (image : Image) (b : Block) (count : ℕ) → b.words ≡ suc count → Contains (dict_links 2 (words_in image b)) (0, 2)
node_lists image b count is = subst (λ n. Contains (dict_links 2 (words_from image b.first_word n)) (0, 2)) (sym is) (zero, omega arith, refl)

module _ (old new : Image) (alike : TracesAlike old new AnyRoot (kinds_of old) dict_links)
    (inside : (at : ℕ) → IsTraced old (kinds_of old) dict_links at → LeadsOutside old (old at) → ⊥)
    (words_same : (b : Block) (kind word : ℕ) → Reach old (kinds_of old) dict_links b kind → IsIn b word → new word ≡ old word)
    (kinds_same : (root : ℕ) → root < roots → kinds_of new root ≡ kinds_of old root) where
  -- the same from some of the roots
  any_root : (chosen : ℕ → Type 0) (at : ℕ) → IsTracedFrom old chosen (kinds_of old) dict_links at → IsTraced old (kinds_of old) dict_links at
  any_root chosen _ (is_root root at below is_chosen is) = is_root root at below tt is
  any_root chosen _ (is_linked a from position kind at reached listed is) =
      is_linked a from position kind at (more_roots old (kinds_of old) dict_links (λ root c. tt) a from reached) listed is

  chosen_alike : (chosen : ℕ → Type 0) → TracesAlike old new chosen (kinds_of old) dict_links
  chosen_alike chosen = record {
    same_words = λ at traced. alike.same_words at (any_root chosen at traced);
    are_blocks = λ b kind reached. alike.are_blocks b kind (more_roots old (kinds_of old) dict_links (λ root c. tt) b kind reached);
    same_links = λ b kind reached. alike.same_links b kind (more_roots old (kinds_of old) dict_links (λ root c. tt) b kind reached);
  }

  -- a word that a trace looks at, and from which it goes on to blocks of the kind
  record IsOnWay (at kind : ℕ) : Type 0 where
    traced : IsTraced old (kinds_of old) dict_links at
    reaches : (b : Block) → Leads old (old at) b → Reach old (kinds_of old) dict_links b kind

  module _ (at kind : ℕ) (way : IsOnWay at kind) where
    to_new : (b : Block) → Leads old (old at) b → Leads new (new at) b
    to_new b leads = record {
      pointer = record { tagged = alike.same_words at way.traced ∙ leads.pointer.tagged; short = leads.pointer.short };
      names = record { begins_at = refl; block = alike.are_blocks b kind (way.reaches b leads) };
    }

    to_old : (b : Block) → Leads new (new at) b → Leads old (old at) b
    to_old b leads =
        let tagged = sym (alike.same_words at way.traced) ∙ leads.pointer.tagged in
        elim (is_block (layout_of old) b) as (λ _. Leads old (old at) b) [
          | inl is ↦ record { pointer = record { tagged = tagged; short = leads.pointer.short }; names = record { begins_at = refl; block = is } }
          | inr not ↦ absurd (inside at way.traced (record {
            not_null = not_null (old at) (8 * b.first_word) (record { tagged = tagged; short = leads.pointer.short });
            nowhere = λ a to_a. not (subst (λ x. IsBlock (layout_of old) x) (one_block new (new at) a b (to_new a to_a) leads) to_a.names.block);
          }))
        ]

    alone_new : (shard : ℕ) (b : Block) → LeadsAlone old shard (old at) b → LeadsAlone new shard (new at) b
    alone_new shard b leads = (
      to_new b leads.0,
      λ k reached. leads.1 k
          (nothing_more old new (λ i. i ≢ shard) (kinds_of old) dict_links (chosen_alike (λ i. i ≢ shard))
          (λ w traced. inside w (any_root (λ i. i ≢ shard) w traced)) b k
          (reach_by_kinds {chosen = λ i. i ≢ shard} new (kinds_of new) (kinds_of old) dict_links kinds_same b k reached)),
    )

    alone_old : (shard : ℕ) (b : Block) → LeadsAlone new shard (new at) b → LeadsAlone old shard (old at) b
    alone_old shard b leads = (
      to_old b leads.0,
      λ k reached. leads.1 k
          (reach_by_kinds {chosen = λ i. i ≢ shard} new (kinds_of old) (kinds_of new) dict_links (λ i below. sym (kinds_same i below)) b k
          (reach_kept old new (λ i. i ≢ shard) (kinds_of old) dict_links (chosen_alike (λ i. i ≢ shard)) b k reached)),
    )

    null_old : new at ≡ 0 → old at ≡ 0
    null_old null = sym (alike.same_words at way.traced) ∙ null

  -- a root of a shard, a word of its table and the first word of a node are on the way
  root_way : (shard : ℕ) → shard < shards → kinds_of old shard ≡ table_kind → IsOnWay (root_word shard) 1
  root_way shard below is = record {
    traced = is_root shard (root_word shard) (omega arith) tt refl;
    reaches = λ b leads. by_start b 1 (record { root = shard; below = omega arith; is_chosen = tt; kind_is = sym is; leads = leads });
  }

  bucket_way : (table : Block) (k : ℕ) → Reach old (kinds_of old) dict_links table 1 → k < table.words → IsOnWay (table.first_word + k) 2
  bucket_way table k reached below = record {
    traced = is_linked table 1 k 2 (table.first_word + k) reached (table_lists old table k below) refl;
    reaches = λ b leads. by_link table b 1 2 reached (record { position = k; listed = table_lists old table k below; leads = leads });
  }

  node_way : (b : Block) (count : ℕ) → b.words ≡ suc count → Reach old (kinds_of old) dict_links b 2 → IsOnWay b.first_word 2
  node_way b count is reached =
      let here : b.first_word ≡ b.first_word + 0 = omega arith in
      record {
        traced = is_linked b 2 0 2 b.first_word reached (node_lists old b count is) here;
        reaches = λ c leads. by_link b c 2 2 reached (record {
          position = 0;
          listed = node_lists old b count is;
          leads = subst (λ at. Leads old (old at) c) here leads;
        });
      }

  -- the words of a reached node are the same
  record IsSameNode (b : Block) : Type 0 where
    key : key_in new b ≡ key_in old b
    count : length_in new b ≡ length_in old b
    value : value_in new b ≡ value_in old b

  same_node : (b : Block) → Reach old (kinds_of old) dict_links b 2 → 3 + value_words (length_in new b) ≤ b.words → IsSameNode b
  same_node b reached fits =
      let word : (w : ℕ) → b.first_word ≤ w → w < b.first_word + b.words
      → new w ≡ old w = λ w low high. words_same b 2 w reached (record { from = low; until = high }) in
      let count = word (b.first_word + 2) (omega arith) (omega arith) in
      record {
        key = word (b.first_word + 1) (omega arith) (omega arith);
        count = count;
        value = ap (λ ws. take (length_in new b) (bytes_of_words ws))
            (words_from-agree new old (b.first_word + 3) (value_words (length_in new b)) (λ w low high. word w (omega arith) (omega arith)))
            ∙ ap (λ n. take n (bytes_of_words (words_from old (b.first_word + 3) (value_words n)))) count;
      }

  node_old : (shard bucket : ℕ) (b : Block) → IsSameNode b → IsNode new shard bucket b → IsNode old shard bucket b
  node_old shard bucket b same is = record {
    in_shard = subst (λ k. shard_of k ≡ shard) same.key is.in_shard;
    in_bucket = subst (λ k. bucket_of k ≡ bucket) same.key is.in_bucket;
    short = subst (λ n. n ≤ largest_value) same.count is.short;
    fits = subst (λ n. 3 + value_words n ≤ b.words) same.count is.fits;
  }

  -- nodes of a path
  abbrev AreSame : List Block → Type 0
  AreSame [] = Unit {0}
  AreSame (b ∷ bs) = IsSameNode b × AreSame bs

  find_same : (key : ℕ) (bs : List Block) → AreSame bs → find new key bs ≡ find old key bs
  find_same key [] same = refl
  find_same key (b ∷ bs) same =
      ap (λ k. cond (nat_eq k key) (Some (value_in new b)) (find new key bs)) same.0.key
      ∙ ap (λ v. cond (nat_eq (key_in old b) key) (Some v) (find new key bs)) same.0.value
      ∙ ap (λ found. cond (nat_eq (key_in old b) key) (Some (value_in old b)) found) (find_same key bs same.1)

  module _ (shard bucket : ℕ) (table : Block) where
    -- a path of the one image is one of the other
    record IsSamePath (at : ℕ) (bs : List Block) : Type 0 where
      path : IsPath (but table (LeadsAlone old shard)) old shard bucket at bs
      same : AreSame bs
      way : IsOnWay (link_behind at bs) 2

    same_path : (at : ℕ) (bs : List Block) → IsOnWay at 2 → IsPath (but table (LeadsAlone new shard)) new shard bucket at bs → IsSamePath at bs
    same_path at [] way path = record { path = tt; same = tt; way = way }
    same_path at (b ∷ bs) way path =
        let leads = alone_old at 2 way shard b path.0.0 in
        let reached = way.reaches b leads.0 in
        let same = same_node b reached path.1.fits in
        let fits = path.1.fits in
        let rest = same_path b.first_word bs (node_way b (b.words - 1) (omega arith) reached) path.3 in
        record {
          path = (
            (leads, path.0.1),
            node_old shard bucket b same path.1,
            sym (find_same (key_in old b) bs rest.same)
                ∙ subst (λ k. find new k bs ≡ None) same.key path.2,
            rest.path,
          );
          same = (same, rest.same);
          way = rest.way;
        }

    record IsSameChain (at : ℕ) (bs : List Block) : Type 0 where
      chain : IsBucketChain (but table (LeadsAlone old shard)) old shard bucket at bs
      same : AreSame bs

    same_chain : (at : ℕ) (bs : List Block) → IsOnWay at 2 → IsBucketChain (but table (LeadsAlone new shard)) new shard bucket at bs → IsSameChain at bs
    same_chain at bs way chain =
        let path = same_path at bs way chain.path in
        record { chain = record { path = path.path; ends = null_old (link_behind at bs) 2 path.way chain.ends }; same = path.same }

  -- where the one image has a node, so has the other
  node_new : (shard bucket : ℕ) (b : Block) → Reach old (kinds_of old) dict_links b 2 → IsNode old shard bucket b → IsSameNode b
      × IsNode new shard bucket b
  node_new shard bucket b reached is =
      let fits = is.fits in
      let count = words_same b 2 (b.first_word + 2) reached (record { from = omega arith; until = omega arith }) in
      let same = same_node b reached (subst (λ n. 3 + value_words n ≤ b.words) (sym count) fits) in (
        same,
        record {
          in_shard = subst (λ k. shard_of k ≡ shard) (sym same.key) is.in_shard;
          in_bucket = subst (λ k. bucket_of k ≡ bucket) (sym same.key) is.in_bucket;
          short = subst (λ n. n ≤ largest_value) (sym same.count) is.short;
          fits = subst (λ n. 3 + value_words n ≤ b.words) (sym same.count) fits;
        },
      )

  module _ (shard : ℕ) (below : shard < shards) (is_table : kinds_of old shard ≡ table_kind) where
    table_old : (table : Block) → HasTable (LeadsAlone new shard) new shard table → HasTable (LeadsAlone old shard) old shard table
    table_old table there = record {
      leads_there = alone_old (root_word shard) 1 (root_way shard below is_table) shard table there.leads_there;
      size = there.size;
    }

    table_reached : (table : Block) → HasTable (LeadsAlone new shard) new shard table → Reach old (kinds_of old) dict_links table 1
    table_reached table there = (root_way shard below is_table).reaches table (table_old table there).leads_there.0

    chain_of : (table : Block) (nodes : ℕ → List Block) (limit k : ℕ) → HasTable (LeadsAlone new shard) new shard table → limit ≤ buckets
        → HasChains (LeadsAlone new shard) new shard table limit nodes → k < limit → IsSameChain shard k table (table.first_word + k) (nodes k)
    chain_of table nodes limit k there few chains low =
        let size = there.size in
        same_chain shard k table (table.first_word + k) (nodes k) (bucket_way table k (table_reached table there) (omega arith)) (chains k low)

    -- the map of the shard
    pub map_old : (map : Map) → IsMap (LeadsAlone new shard) new shard map → IsMap (LeadsAlone old shard) old shard map
    map_old map (is_empty null none) = is_empty (null_old (root_word shard) 1 (root_way shard below is_table) null) none
    map_old map (has_table table nodes there chains means) = has_table table nodes (table_old table there)
        (λ k low. (chain_of table nodes buckets k there (omega arith) chains low).chain)
        (λ key. let low : bucket_of key < buckets = mod-lt (key / 8) (omega arith) in
        means key ∙ ap (λ found. cond (nat_eq (shard_of key) shard) found None)
        (find_same key (nodes (bucket_of key)) (chain_of table nodes buckets (bucket_of key) there (omega arith) chains low).same))

    -- and its first bad place
    pub bad_old : (at : ℕ) → IsBadAt (LeadsAlone new shard) new shard at → IsBadAt (LeadsAlone old shard) old shard at
    bad_old _ (at_root astray) = at_root (record {
      not_null = λ null. astray.not_null (alike.same_words (root_word shard) (root_way shard below is_table).traced ∙ null);
      nowhere = λ b leads size. astray.nowhere b (alone_new (root_word shard) 1 (root_way shard below is_table) shard b leads) size;
    })
    bad_old _ (at_link table nodes k at before there low chains path is astray) =
        let size = there.size in
        let same = same_path shard k table (table.first_word + k) before (bucket_way table k (table_reached table there) (omega arith)) path in
        let way : IsOnWay at 2 = subst (λ w. IsOnWay w 2) (sym is) same.way in
        at_link table nodes k at before (table_old table there) low
        (λ j lower. (chain_of table nodes k j there (omega arith) chains lower).chain) same.path is
        (record {
          not_null = λ null. astray.not_null (alike.same_words at way.traced ∙ null);
          nowhere = λ b leads next.
              let node = node_new shard k b (way.reaches b leads.0.0) next.node in
              astray.nowhere b (alone_new at 2 way shard b leads.0, leads.1) (record {
                node = node.1;
                new = find_same (key_in new b) before same.same ∙ subst (λ key. find old key before ≡ None) (sym node.0.key) next.new;
              });
        })
