-- Two images, of which the one leaves in the other what a trace of the dictionary looks at: they are traced alike, and
-- their shards are the same maps.
use Rattle.std.proofs.Common.{◌≡◌, ℕ, ◌+◌, ◌<◌, ◌↔◌, List, Contains, refl, ap, sym, subst, ◌∙◌, arith}
use Rattle.heap_model.specs.declared.block.Block.{Block}
use Rattle.heap_model.specs.Geometry.{roots, root_word, kind_word, state_word, dirty}
use Rattle.heap_model.specs.Header.{capacity_of, kinds_of}
use Rattle.heap_model.specs.Image.{Image}
use Rattle.heap_model.specs.Blocks.{IsBlock, IsIn, layout_of}
use Rattle.heap_model.specs.Pointers.{Leads, LeadsOutside}
use Rattle.heap_model.specs.Reach.{AnyRoot, Reach, ReachIn, IsReachedIn, IsOutsideIn, IsTraced, is_root, is_linked, TracesAlike, words_in, by_start, by_link}
use Rattle.heap_model.specs.Recovery.{IsKeptWord, is_root as of_root, is_kind}
use Rattle.heap_at_rest.proofs.RecoveredLemmas.{same_capacity}
use Rattle.heap_model.proofs.ImageLemmas.{length-words_from, words_from-agree}
use Rattle.heap_model.proofs.ReachLemmas.{reached_block, reach_kept, nothing_more, reach_by_kinds}
use Rattle.dict_model.specs.Links.{dict_links, shards}
use Rattle.dict_model.specs.Shards.{Map, MapOf, BadShard, at_kind, in_table}
use Rattle.dictionary.specs.Laws.{are_inside}
use Rattle.dictionary.proofs.TracedLemmas.{map_old, bad_old}

-- nothing in the one image is outside, and what is reached there is a block of the other, with the same words, as are
-- header, roots and their kinds
pub record KeepsReached (old new : Image) : Type 0 where
  pub same : (word : ℕ) → IsKeptWord (capacity_of old) word → new word ≡ old word
  pub state : new state_word ≡ dirty
  pub words : (b : Block) (word : ℕ) → IsReachedIn old dict_links b → IsIn b word → new word ≡ old word
  pub blocks : (b : Block) → IsReachedIn old dict_links b → IsBlock (layout_of new) b
  pub none : (at : ℕ) → IsOutsideIn old dict_links at → ⊥

module _ (old new : Image) (keeps : KeepsReached old new) where
  pub kinds_same : (root : ℕ) → root < roots → kinds_of new root ≡ kinds_of old root
  kinds_same root below =
      ap (λ capacity. new (kind_word capacity root)) (same_capacity old new keeps.same)
      ∙ keeps.same (kind_word (capacity_of old) root) (is_kind root (kind_word (capacity_of old) root) below refl)

  pub roots_same : (root : ℕ) → root < roots → new (root_word root) ≡ old (root_word root)
  roots_same root below = keeps.same (root_word root) (of_root root (root_word root) below refl)

  pub reached_words : (b : Block) (kind word : ℕ) → Reach old (kinds_of old) dict_links b kind → IsIn b word → new word ≡ old word
  reached_words b kind word reached inside = keeps.words b word (record { kind = kind; reach = reached }) inside

  traced_words : (at : ℕ) → IsTraced old (kinds_of old) dict_links at → new at ≡ old at
  traced_words _ (is_root root at below chosen is) = subst (λ w. new w ≡ old w) (sym is) (roots_same root below)
  traced_words _ (is_linked a from position kind at reached listed is) =
      let long = length-words_from old a.first_word a.words in
      let inside = are_inside.position from (words_in old a) position kind listed in
      subst (λ w. new w ≡ old w) (sym is)
      (reached_words a from (a.first_word + position) reached (record { from = omega arith; until = omega arith }))

  pub traced_alike : TracesAlike old new AnyRoot (kinds_of old) dict_links
  traced_alike = record {
    same_words = traced_words;
    are_blocks = λ b kind reached. keeps.blocks b (record { kind = kind; reach = reached });
    same_links = λ b kind reached. ap (λ ws. dict_links kind ws)
        (words_from-agree new old b.first_word b.words (λ w low high. reached_words b kind w reached (record { from = low; until = high })));
  }

  pub none_before : (at : ℕ) → IsTraced old (kinds_of old) dict_links at → LeadsOutside old (old at) → ⊥
  none_before at traced outside = keeps.none at (record { traced = traced; outside = outside })

  -- the same is reached
  pub to_new : (b : Block) (kind : ℕ) → ReachIn old dict_links b kind → ReachIn new dict_links b kind
  to_new b kind reach = reach_by_kinds new (kinds_of old) (kinds_of new) dict_links (λ root below. sym (kinds_same root below)) b kind
      (reach_kept old new AnyRoot (kinds_of old) dict_links traced_alike b kind reach)

  pub to_old : (b : Block) (kind : ℕ) → ReachIn new dict_links b kind → ReachIn old dict_links b kind
  to_old b kind reach = nothing_more old new AnyRoot (kinds_of old) dict_links traced_alike none_before b kind
      (reach_by_kinds new (kinds_of new) (kinds_of old) dict_links kinds_same b kind reach)

  pub same_reach : (b : Block) → IsReachedIn old dict_links b ↔ IsReachedIn new dict_links b
  same_reach b = (λ r. record { kind = r.kind; reach = to_new b r.kind r.reach }, λ r. record { kind = r.kind; reach = to_old b r.kind r.reach })

  -- a word that a trace of the old image looks at leads outside in the new one no more than there
  not_there : (at : ℕ) → IsTraced old (kinds_of old) dict_links at → ((b : Block) → Leads old (old at) b → IsReachedIn old dict_links b)
      → LeadsOutside new (new at) → ⊥
  not_there at traced reaches out =
      let same = traced_words at traced in
      none_before at traced (record {
        not_null = λ e. out.not_null (same ∙ e);
        nowhere = λ b leads. out.nowhere b (record {
          pointer = record { tagged = same ∙ leads.pointer.tagged; short = leads.pointer.short };
          names = record { begins_at = refl; block = keeps.blocks b (reaches b leads) };
        });
      })

  listed_before : (a : Block) (from position kind : ℕ) → ReachIn old dict_links a from → Contains (dict_links from (words_in new a)) (position, kind)
      → Contains (dict_links from (words_in old a)) (position, kind)
  listed_before a from position kind reached = subst (λ (ls : List (ℕ × ℕ)). Contains ls (position, kind)) (traced_alike.same_links a from reached)

  pub none_left : (at : ℕ) → IsTraced new (kinds_of new) dict_links at → LeadsOutside new (new at) → ⊥
  none_left _ (is_root root at below chosen same) out =
      not_there at (is_root root at below chosen same) (λ b leads. record {
        kind = kinds_of old root;
        reach = by_start b (kinds_of old root)
            (record { root = root; below = below; is_chosen = chosen; kind_is = refl; leads = subst (λ x. Leads old (old x) b) same leads });
      }) out
  none_left _ (is_linked a from position kind at reached listed same) out =
      let before = to_old a from reached in
      let there = listed_before a from position kind before listed in
      not_there at (is_linked a from position kind at before there same) (λ b leads. record {
        kind = kind;
        reach = by_link a b from kind before (record { position = position; listed = there; leads = subst (λ x. Leads old (old x) b) same leads });
      }) out

  -- so the new image is traced as the old one, and the old one as the new
  traced_before : (at : ℕ) → IsTraced new (kinds_of new) dict_links at → IsTraced old (kinds_of old) dict_links at
  traced_before _ (is_root root at below chosen is) = is_root root at below chosen is
  traced_before _ (is_linked a from position kind at reached listed is) =
      let before = to_old a from reached in is_linked a from position kind at before (listed_before a from position kind before listed) is

  alike_back : TracesAlike new old AnyRoot (kinds_of new) dict_links
  alike_back = record {
    same_words = λ at traced. sym (traced_words at (traced_before at traced));
    are_blocks = λ b kind reached. reached_block old (kinds_of old) dict_links b kind (to_old b kind reached);
    same_links = λ b kind reached. sym (traced_alike.same_links b kind (to_old b kind reached));
  }

  -- and each shard is the same map
  pub map_before : (shard : ℕ) (map : Map) → shard < shards → MapOf new shard map → MapOf old shard map
  map_before shard map below is =
      let kind = sym (kinds_same shard (omega arith)) ∙ is.kind_is in
      record { kind_is = kind; is_map = map_old old new traced_alike none_before reached_words kinds_same shard below kind map is.is_map }

  pub map_after : (shard : ℕ) (map : Map) → shard < shards → MapOf old shard map → MapOf new shard map
  map_after shard map below is =
      let kind = kinds_same shard (omega arith) ∙ is.kind_is in record {
        kind_is = kind;
        is_map = map_old new old alike_back none_left (λ b k word reached inside. sym (reached_words b k word (to_old b k reached) inside))
            (λ root less. sym (kinds_same root less)) shard below kind map is.is_map;
      }

  pub same_map : (shard : ℕ) (map : Map) → shard < shards → MapOf old shard map ↔ MapOf new shard map
  same_map shard map below = (map_after shard map below, map_before shard map below)

  -- and its first bad place
  pub bad_before : (shard at : ℕ) → shard < shards → BadShard new shard at → BadShard old shard at
  bad_before shard _ below (at_kind other) =
      subst (λ capacity. BadShard old shard (kind_word capacity shard)) (sym (same_capacity old new keeps.same))
      (at_kind (λ is. other (kinds_same shard (omega arith) ∙ is)))
  bad_before shard at below (in_table _ is bad) =
      let kind = sym (kinds_same shard (omega arith)) ∙ is in
      in_table at kind (bad_old old new traced_alike none_before reached_words kinds_same shard below kind at bad)
