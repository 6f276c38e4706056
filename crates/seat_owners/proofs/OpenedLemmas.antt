-- The seat of a worker, as it is opened: it has the worker's roots, and holds what they reach.
use Rattle.std.proofs.Common.{◌≡◌, ℕ, ◌+◌, ◌<◌, ◌↔◌, Bool, List, length, map, get_or, slice_index, Contains, None, Some, refl, ap, sym, subst, ◌∙◌, arith}
use Rattle.std.proofs.lemmas.List.{get_or-map, get_or_default}
use Rattle.heap_model.specs.declared.block.Block.{Block}
use Rattle.heap_model.specs.Geometry.{roots, kind_word}
use Rattle.heap_model.specs.Header.{kinds_of}
use Rattle.heap_model.specs.Image.{Image}
use Rattle.heap_model.specs.Reach.{AnyRoot, ReachFrom}
use Rattle.heap_model.specs.Rest.{IsReady}
use Rattle.heap_model.proofs.CountingLemmas.{times_some}
use Rattle.heap_model.proofs.ImageLemmas.{get_or-words_from}
use Rattle.heap_model.proofs.ReachLemmas.{more_roots}
use Rattle.heap_at_rest.proofs.ListLemmas.{times_of}
use Rattle.core_model.specs.Cells.{cell_at}
use Rattle.core_model.specs.Effects.{steps}
use Rattle.core_model.specs.Opening.{IsOwnerOf, picked, tabulate, setup_of, plain_view, opened_view, opened_state}
use Rattle.core_model.specs.View.{Setup, View, times_own}
use Rattle.core_model.proofs.OpenLemmas.{length_tabulate, tabulate_at}
use Rattle.core_model.proofs.OpenedHeldLemmas.{holds_exactly, owns_root}
use Rattle.core_model.proofs.OpenedLemmas.{opened}
use Rattle.core_model.proofs.QuietLemmas.{own_same}
use Rattle.heap_table.specs.Plays.{HasSoundState}
use Rattle.heap_table.proofs.ReachedLemmas.{opened_counted}
use Rattle.heap_rule.proofs.RecordLemmas.{only_at}
use Rattle.heap_rule.proofs.SettleLemmas.{own_below}
use Rattle.heap_seat.specs.Words.{IsOwn}
use Rattle.dict_model.specs.Links.{dict_links}
use Rattle.dict_requests.specs.Trails.{IsDurableAt}
use Rattle.seat_costs.proofs.WordLemmas.{owns_held}
use Rattle.seat_model.specs.CacheState.{CacheState, CallCounts, counts_of, heap_view, heap_view_of, held_blocks}
use Rattle.seat_model.proofs.HeldLemmas.{held_is, word_held}
use Rattle.seat_model.proofs.ListedBlocks.{listed}
use Rattle.run_model.specs.Opened.{IsDictionary, IsOpenedOver, IsReachedFrom}
use Rattle.run_model.specs.Workers.{root_owner}
use Rattle.seat_owners.specs.Owning.{AreOwnersByRoot}
use Rattle.seat_owners.proofs.OwnerLemmas.{reached_by_one}

module _ (words : List ℕ) (held : List Block) (workers budget : ℕ) (block_owners root_owners : List ℕ)
    (by_root : AreOwnersByRoot (slice_index words) held workers block_owners root_owners) (i : ℕ) where
  abbrev k : Setup
  k = setup_of words budget workers

  abbrev image : Image
  image = slice_index words

  abbrev v : View
  v = opened_view k held block_owners root_owners i

  -- the seat has exactly the roots that belong to the worker
  owner_at : (root : ℕ) → root < roots → get_or root_owners root (i + 1) ≡ root_owner workers root
  owner_at root below = ap (λ os. get_or os root (i + 1)) by_root.roots_are ∙ get_or-words_from (root_owner workers) 0 roots root (i + 1) below
      ∙ ap (root_owner workers) (let e : 0 + root ≡ root = omega arith in e)

  pub root_of : (root : ℕ) → Contains v.roots root → root_owner workers root ≡ i
  root_of root there = let owns = (owns_root i roots root_owners root).0 (times_of root v.roots there) in sym (owner_at root owns.0) ∙ owns.1

  pub has_root : (root : ℕ) → root < roots → root_owner workers root ≡ i → Contains v.roots root
  has_root root below is = times_some root v.roots ((owns_root i roots root_owners root).1 (below, owner_at root below ∙ is))

  module _ (ready : IsReady words held) (has : IsDictionary image (Contains held)) (below : i < workers) where
    -- some sound state has its view
    has_state : HasSoundState v
    has_state = record {
      words = (opened_state k held block_owners root_owners workers).words;
      views = tabulate (opened_view k held block_owners root_owners) 0 workers;
      seat = i;
      sound = opened words held budget workers block_owners root_owners ready by_root.fits;
      counted = opened_counted (record {
        words = words;
        held = held;
        block_owners = block_owners;
        root_owners = root_owners;
        seats = workers;
        budget = budget;
      });
      is_seat = refl;
      below = (let l = length_tabulate (opened_view k held block_owners root_owners) 0 workers in omega arith);
      at = tabulate_at (opened_view k held block_owners root_owners) 0 workers i v below
          ∙ ap (opened_view k held block_owners root_owners) (let e : 0 + i ≡ i = omega arith in e);
    }

    -- the owner of a held block that a root reaches
    owner_by : (at root kind : ℕ) (b : Block) → at < length held → get_or held at b ≡ b → root < roots
        → ReachFrom image (λ r. r ≡ root) (kinds_of image) dict_links b kind
        → get_or block_owners at (i + 1) ≡ root_owner workers root
    owner_by at root kind b inside is small reach =
        get_or_default block_owners at (i + 1) workers (let l = by_root.fits.blocks in omega arith)
        ∙ by_root.blocks at root kind b inside is small reach

    reached_of : (b : Block) → IsOwnerOf held block_owners i b → IsReachedFrom image (Contains v.roots) b
    reached_of b o =
        let reached = (has.exact b).0 (o.at, o.inside, o.is) in
        let one = reached_by_one image (kinds_of image) dict_links b reached.kind reached.reach in
        let mine : root_owner workers one.root ≡ i = sym (owner_by o.at one.root reached.kind b o.inside o.is one.below one.reach) ∙ o.owner in
        let owned : (r : ℕ) → r ≡ one.root → Contains v.roots r = λ r is. has_root r (subst (λ n. n < roots) (sym is) one.below)
        (ap (root_owner workers) is ∙ mine) in
        record { kind = reached.kind; reach = more_roots {chosen' = Contains v.roots} image (kinds_of image) dict_links owned b reached.kind one.reach }

    owner_of : (b : Block) → IsReachedFrom image (Contains v.roots) b → IsOwnerOf held block_owners i b
    owner_of b reached =
        let one = reached_by_one image (kinds_of image) dict_links b reached.kind reached.reach in
        let there = (has.exact b).1 (record {
          kind = reached.kind;
          reach =
              more_roots {chosen' = AnyRoot} image (kinds_of image) dict_links (λ r is. tt) b reached.kind one.reach;
        }) in
        record {
          at = there.0;
          inside = there.1;
          is = there.2;
          owner = owner_by there.0 one.root reached.kind b there.1 there.2 one.below one.reach ∙ root_of one.root one.is_chosen;
        }

    -- it holds exactly what its roots reach
    held_exactly : (b : Block) → Contains (held_blocks v) b ↔ IsReachedFrom image (Contains v.roots) b
    held_exactly b =
        let exactly = holds_exactly words held budget workers block_owners root_owners ready by_root.fits i b in
        (λ there. reached_of b (exactly.0 (held_is v has_state b there)), λ reached. listed v b (exactly.1 (owner_of b reached)))

    -- an own word is durable as it stands in the image
    word_known : (values : List ℕ) (word : ℕ) → word < length values
        → get_or (map (λ (value : ℕ). Some value) values) word None ≡ Some (slice_index values word)
    word_known values word inside = get_or-map (λ (value : ℕ). Some value) values word 0 None inside

    word_durable : (marks : List Bool) (counts : CallCounts) (word : ℕ) → IsOwn (held_blocks v) v.roots word
        → IsDurableAt (heap_view_of v marks counts) word (image word)
    word_durable marks counts word own =
        let p = plain_view k (picked i held block_owners) (picked i (steps 0 1 roots) root_owners) in
        let owns = owns_held v word (word_held v has_state word own) in
        let inside : word < length words = let l = ready.formed.length_is in let b = own_below v word owns in omega arith in
        let mine = subst (λ n. 0 < n) (own_same p v refl (cell_at k.capacity word)) owns in
        let here = subst (λ j. 0 < times_own p (cell_at k.capacity j)) (let e : word ≡ 0 + word = omega arith in e) mine in
        record {
          seen = only_at p 0 word p.volatile here ∙ word_known words word inside;
          left = only_at p 0 word p.durable here ∙ word_known words word inside;
        }

    over_image : (marks : List Bool) (counts : CallCounts) → IsOpenedOver image (heap_view_of v marks counts)
    over_image marks counts = record {
      kinds = record {
        each = λ root small. sym (get_or-words_from image (kind_word k.capacity 0) roots root 0 small
            ∙ ap image (let e : kind_word k.capacity 0 + root ≡ kind_word k.capacity root = omega arith in e));
      };
      nothing_outside = has.nothing_outside;
      maps = has.maps;
      exact = held_exactly;
      words = word_durable marks counts;
    }

    pub opened_over : (s : CacheState) → s.view ≡ v → IsOpenedOver image (heap_view s)
    opened_over s is = subst (λ (x : View). IsOpenedOver image (heap_view_of x s.marks (counts_of s))) (sym is) (over_image s.marks (counts_of s))
