-- What a run leaves that wasn't stopped: the anchors hold what the seats hold, and the roots reach exactly that.
use Rattle.std.proofs.Common.{◌≡◌, ◌≢◌, ℕ, ◌+◌, ◌*◌, ◌<◌, ◌↔◌, List, length, slice_index, Option, None, Some, Contains, refl, subst, sym, ap, ◌∙◌, length-append, arith}
use Rattle.std.specs.Prelude.{Bool, true, false}
use Rattle.std.proofs.lemmas.Bool.{false_from_ne_true}
use Rattle.heap_model.specs.declared.block.Block.{Block}
use Rattle.heap_model.specs.Geometry.{root_word}
use Rattle.heap_model.specs.Image.{Image}
use Rattle.heap_model.specs.Pointers.{Leads}
use Rattle.heap_model.specs.Reach.{AnyRoot, ReachIn, IsReachedIn, by_start, by_link}
use Rattle.heap_model.proofs.ReachLemmas.{closure_least}
use Rattle.core_model.specs.Held.{IsHeld, IsHeldBy}
use Rattle.core_model.specs.Opening.{setup_of}
use Rattle.core_model.specs.Sound.{Each}
use Rattle.core_model.specs.View.{Setup, View}
use Rattle.heap_seat.specs.Words.{IsOwn, in_root}
use Rattle.heap_rule.specs.Left.{IsCloseOf}
use Rattle.heap_rule.proofs.ClosedLemmas.{closes}
use Rattle.heap_rule.proofs.CrashLemmas.{close_volatile}
use Rattle.seat_costs.proofs.WordLemmas.{at_cell, owns_held}
use Rattle.seat_model.specs.CacheState.{CacheState, heap_view}
use Rattle.seat_model.proofs.HeldLemmas.{held_is, own_held, seat_law}
use Rattle.seat_model.proofs.ListedBlocks.{listed}
use Rattle.heap_at_rest.specs.Orderly.{IsHeldByAnchors, IsOrderly}
use Rattle.seat_model.specs.Emptied.{KeepsNothing}
use Rattle.seat_model.proofs.ClosedLemmas.{closed_is_orderly, closed_holds}
use Rattle.dict_model.specs.Links.{dict_links, kind_count}
use Rattle.dict_model.specs.Requests.{Request}
use Rattle.dict_model.specs.Shards.{LeadsTo}
use Rattle.dict_requests.specs.Reached.{Reaches}
use Rattle.dict_requests.proofs.ExactLemmas.{sees_held}
use Rattle.dict_requests.proofs.GrownLemmas.{link_own, reached_held}
use Rattle.dict_requests.proofs.SeatsLemmas.{reached_by}
use Rattle.run_model.specs.Workers.{Replies}
use Rattle.dict_requests.proofs.ShardReachLemmas.{block_lists}
use Rattle.run_outcome.specs.Closed.{LeavesOrderly}
use Rattle.run_outcome.specs.Together.{HaveWorked}
use Rattle.run_outcome.proofs.ShareLemmas.{has_state, mixes, share}
use Rattle.run_outcome.proofs.WorkerLemmas.{all_views, below_count, is_seat, view_at}

-- a close leaves each own word as the seat sees it
seen_left : (s : CacheState) (left : Image) → IsCloseOf s.view left → (word value : ℕ) → IsOwn (heap_view s).held (heap_view s).roots word
    → (heap_view s).volatile word ≡ Some value → left word ≡ value
seen_left s left is word value own seen = let has = owns_held s.view word (own_held s word own) in
    (close_volatile s.view left is).each word has value (at_cell s.view word has s.view.volatile ∙ seen)

not_some : {A : Type 0} (o : Option A) → ((o ≢ None) → ⊥) → o ≡ None
not_some None none = refl
not_some (Some x) none = absurd (none (λ e. let both : Some x ≡ None = e in absurd (cc)))

module _ (words : List ℕ) (held : List Block) (workers budget : ℕ) (requests : List Request) (replies : Replies) (now kept left : List ℕ)
    (h : HaveWorked words held workers budget requests replies false now kept left) where
  abbrev k : Setup
  k = setup_of words budget workers

  -- no worker was stopped
  going : (i : ℕ) → i < workers → h.stops i ≡ false
  going i below = false_from_ne_true (h.stops i) (λ e. let stopped : ◌≡◌ {A = Bool} false true = h.stopped_by.1 (i, below, e) in absurd (cc))

  begun : h.halted ≡ false
  begun = false_from_ne_true h.halted (λ e. let stopped : ◌≡◌ {A = Bool} false true = h.halts e in absurd (cc))

  keeps_none : (i : ℕ) → i < workers → KeepsNothing (h.last i).view
  keeps_none i below =
      let part = h.parts i below in
      let runs = not_some (h.last i).view.stopped (λ some. let e : true ≡ false = sym (part.stops.1 some) ∙ going i below in absurd (cc)) in
      record { idle = ((h.last i).between runs).0; empty = (part.emptied begun (going i below)).each }

  -- no carrier is left, and each view is a worker's
  inside : (i : ℕ) → i < length (all_views h) → i < workers
  inside i below = let long = length-append h.views h.carriers in let none = ap length (h.none_left refl) in let count = h.count in omega arith

  all_keep_none : Each (all_views h) KeepsNothing
  all_keep_none i v below at = subst KeepsNothing (sym (view_at h i v (inside i below)) ∙ at) (keeps_none i (inside i below))

  -- what is held by the seats of the workers is held
  held_by : (b : Block) → IsHeldBy (all_views h) b → (i : ℕ) × (i < workers) × Contains (heap_view (h.last i)).held b
  held_by b by = (
    by.seat,
    inside by.seat by.below,
    listed (h.last by.seat).view b (subst (λ (v : View). IsHeld v b) (sym by.at ∙ view_at h by.seat by.view (inside by.seat by.below)) by.holds),
  )

  of_seat : (i : ℕ) (b : Block) → i < workers → Contains (heap_view (h.last i)).held b → IsHeldBy (all_views h) b
  of_seat i b below there = record {
    seat = i;
    view = (h.last i).view;
    below = below_count h i below;
    at = view_at h i (h.last i).view below;
    holds = held_is (h.last i).view (has_state words held workers budget requests replies false now kept left h i below) b there;
  }

  closed_of : (i : ℕ) → i < workers → IsCloseOf (h.last i).view (slice_index left)
  closed_of i below = closes k now kept (all_views h) h.closed (slice_index left) h.left_is i (h.last i).view (below_count h i below)
      (view_at h i (h.last i).view below) (is_seat h i below)

  -- what loads of a seat see reached, the roots of the image reach
  module _ (i : ℕ) (below : i < workers) where
    leads_left : (at value : ℕ) (b : Block) → IsOwn (heap_view (h.last i)).held (heap_view (h.last i)).roots at
        → (heap_view (h.last i)).volatile at ≡ Some value
        → LeadsTo (Contains (heap_view (h.last i)).held) value b → Leads (slice_index left) (slice_index left at) b
    leads_left at value b own seen leads =
        subst (λ w. Leads (slice_index left) w b) (sym (seen_left (h.last i) (slice_index left) (closed_of i below) at value own seen))
        (record { pointer = leads.1; names = (mixes words held workers budget requests replies false now kept left h).names i below b leads.0 })

    reach_left : (root : ℕ) (b : Block) (kind : ℕ) → Reaches (heap_view (h.last i)) root b kind → ReachIn (slice_index left) dict_links b kind
    reach_left root = closure_least (ReachIn (slice_index left) dict_links)
        (λ b kind start.
        let small = (seat_law (h.last i)).roots_are root start.owned in
        by_start b kind (record {
          root = root;
          below = small;
          is_chosen = tt;
          kind_is = start.kind_is ∙ sym ((mixes words held workers budget requests replies false now kept left h).kinds i below root small);
          leads = leads_left (root_word root) start.value b (in_root root (root_word root) start.owned refl) start.read start.leads;
        }))
        (λ a b from kind reached has link. by_link a b from kind has (record {
          position = link.position;
          listed = block_lists (slice_index left) a from link.position kind link.is_link;
          leads = leads_left (a.first_word + link.position) link.value b
              (link_own (heap_view (h.last i)) a from link.position kind (sees_held (heap_view (h.last i)) root a from reached) link.is_link)
              link.read link.leads;
        }))

  reached : (b : Block) → IsHeldBy (all_views h) b → IsReachedIn (slice_index left) dict_links b
  reached b by =
      let one = held_by b by in
      let sees = ((h.parts one.0 one.1).exact (going one.0 one.1)).all b one.2 in
      record { kind = sees.1; reach = reach_left one.0 one.1 sees.0 b sees.1 sees.2 }

  holds : (b : Block) → IsReachedIn (slice_index left) dict_links b → IsHeldBy (all_views h) b
  holds b is =
      let by = reached_by workers (λ i. heap_view (h.last i)) (slice_index left)
      (share words held workers budget requests replies false now kept left h)
      (mixes words held workers budget requests replies false now kept left h) AnyRoot b is.kind is.reach in
      of_seat by.seat b by.below (reached_held (heap_view (h.last by.seat)) by.root b is.kind by.reached)

  orderly : IsOrderly (Some kind_count) (8 * length left) (slice_index left)
  orderly = subst (λ bytes. IsOrderly (Some kind_count) bytes (slice_index left)) (let whole = h.ready.formed.length_is in
      let long = h.left_long in omega arith)
      (closed_is_orderly k now kept (all_views h) h.closed all_keep_none h.ready.formed (Some kind_count) h.dictionary.maps.kinds
      (slice_index left) h.left_is)

  exact : (b : Block) → IsHeldByAnchors (slice_index left) b ↔ IsReachedIn (slice_index left) dict_links b
  exact b = let alike = closed_holds k now kept (all_views h) h.closed all_keep_none (slice_index left) h.left_is b in
      (λ anchored. reached b (alike.0 anchored), λ is. alike.1 (holds b is))

module _ (words : List ℕ) (held : List Block) (workers budget : ℕ) (requests : List Request) (replies : Replies) (stopped : Bool)
    (now kept left : List ℕ)
    (h : HaveWorked words held workers budget requests replies stopped now kept left) where
  -- the same run, of which it is known that it wasn't stopped
  went_on : stopped ≡ false → HaveWorked words held workers budget requests replies false now kept left
  went_on is = subst (λ b. HaveWorked words held workers budget requests replies b now kept left) is h

  pub leaves_orderly : LeavesOrderly stopped (length left) (slice_index left)
  leaves_orderly = record {
    orderly = λ is. orderly words held workers budget requests replies now kept left (went_on is);
    exact = λ is. exact words held workers budget requests replies now kept left (went_on is);
  }
