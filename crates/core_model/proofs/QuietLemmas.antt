-- Exchanges that are lost, and what is so of each step that changes no word and no part of a seat.
use Rattle.std.proofs.Common.{◌≡◌, ◌≢◌, ℕ, suc, ◌+◌, ◌<◌, ◌≤◌, Bool, true, false, not, nat_eq, ◌&&◌, List, [], ◌∷◌, get_or, set, length, Option, None, Some, refl, ap, ap₂, sym, subst, ◌∙◌, eqb-true, eq-eqb, arith}
use Rattle.heap_model.specs.Geometry.{lists, superblock_of}
use Rattle.heap_model.specs.Sizes.{words_of_class}
use Rattle.heap_model.specs.Words.{head_first}
use Rattle.heap_model.specs.Counting.{times, one_if}
use Rattle.heap_model.specs.Chains.{Follows}
use Rattle.core_model.specs.Cells.{Cell, used_cell, head_cell, info_cell, anchor_cell, link_cell, root_cell, data_cell, no_cell}
use Rattle.core_model.specs.Memory.{Memory, used, head, anchor, link}
use Rattle.core_model.specs.View.{Setup, View, Snapshot, LastLook, one_if_some, known, times_own, times_raw, times_classed, times_large, times_in_classes, times_within}
use Rattle.core_model.specs.Effects.{seen, seen_word, seen_of, before, lost}
use Rattle.core_model.specs.Guards.{IsThere}
use Rattle.core_model.specs.Sound.{CoreShape, Tally, tally_of, IsInShape, IsSetUp, HasClaims, HasBlocks, Knows, KnowsWords, IsTicketDrawn, IsTicketed, HasTickets, stale, differs, stale_head, stale_anchor, times_parked, empties, Good}
use Rattle.core_model.proofs.TotalLemmas.{total_same}
use Rattle.core_model.proofs.EventStepLemmas.{IsSeat, seat_at, good_step, Parts, parts, tally_same, adds_step}

-- the counts that such a step leaves
pub record Counts : Type 0 where
  pub taken : ℕ
  pub draws : ℕ
  pub stopped : Option ℕ
  pub gives : ℕ
  pub moves : ℕ
  pub wins : ℕ

abbrev pub counts : View → Counts
counts v = record { taken = v.taken; draws = v.draws; stopped = v.stopped; gives = v.gives; moves = v.moves; wins = v.wins }

-- a step that changes no word, no part and none of these counts
pub quiet : (k : Setup) (m : Memory) (views : List View) (i : ℕ) (v w : View) → i < length views → get_or views i v ≡ v → (good : Good k m views)
    → parts w ≡ parts v → counts w ≡ counts v
    → IsSetUp k w → Knows k.capacity m good.shape w → KnowsWords k.capacity m w → HasTickets k.budget m.drawn w
    → one_if_some w.ticket ≤ one_if_some v.ticket
    → w.losses + stale m w ≤ v.losses + stale m v
    → Good k m (set views i w)
quiet k m views i v w below at good same kept set_up knows words tickets ticket losses =
    good_step k m m views i v w good good.shape below at
    (subst (IsInShape k.capacity m good.shape) (sym tally) good.shaped)
    (record {
      set_up = set_up;
      claims = subst (λ (p : Parts). HasClaims (λ d. m.volatile (info_cell d))
          (λ d. m.volatile (anchor_cell d)) p.raw p.split p.cutting p.classed p.large) (sym same) (good.claims i v below at);
      blocks = subst (λ (p : Parts). HasBlocks p.setup.capacity (λ d. m.volatile (info_cell d))
          (λ d. m.volatile (data_cell d)) p.small p.caches p.batch) (sym same) (good.blocks i v below at);
      knows = knows;
      words = words;
      tickets = tickets;
    })
    (λ j u other b a h. h)
    (adds_step k m m views i v w below at good.adds refl (ap (λ (c : Counts). c.draws) kept) (ap (λ (c : Counts). c.stopped) kept)
    (ap (λ (p : Parts). p.roots) same)
    (omega arith) (let taken = ap (λ (c : Counts). c.taken) kept in omega arith))
    (record { mine = losses; more = let e = ap (λ (c : Counts). c.wins) kept in omega arith })
    (λ j u other b a. let e = ap (λ (c : Counts). c.wins) kept in omega arith)
    (let old = good.moves in
    let gives = total_same (λ (u : View). u.gives) views i v w below at (ap (λ (c : Counts). c.gives) kept) in
    let moves = total_same (λ (u : View). u.moves) views i v w below at (ap (λ (c : Counts). c.moves) kept) in
    let empty = ap (λ t. empties k.capacity (anchor m) (times_parked good.shape t)) tally in omega arith) where
      tally : tally_of (set views i w) ≡ tally_of views
      tally = tally_same views i v w below at same

-- own words depend on the parts alone
pub own_same : (v w : View) → parts w ≡ parts v → (cell : Cell) → times_own w cell ≡ times_own v cell
own_same v w same used_cell = refl
own_same v w same (head_cell list) = refl
own_same v w same (info_cell d) = ap (λ (p : Parts). times d p.raw + times d p.split + times d p.cutting) same
own_same v w same (anchor_cell d) = ap (λ (p : Parts). times d p.raw + times d p.split + times d p.cutting) same
own_same v w same (link_cell d) = ap (λ (p : Parts). times d p.raw + times d p.split + times d p.cutting + times_classed d p.classed) same
own_same v w same (root_cell i) = ap (λ (p : Parts). times i p.roots) same
own_same v w same (data_cell word) = ap (λ (p : Parts). times_in_classes word 0 p.small + times_in_classes word 0 p.caches + times_within
    (words_of_class p.batch.class) word p.batch.blocks
    + times_large (superblock_of p.setup.capacity word) p.large
    + (times (superblock_of p.setup.capacity word) p.raw + times (superblock_of p.setup.capacity word) p.split + times
    (superblock_of p.setup.capacity word) p.cutting)) same
own_same v w same no_cell = refl

pub words_same : (capacity : ℕ) (m : Memory) (v w : View) → parts w ≡ parts v → w.volatile ≡ v.volatile → w.durable ≡ v.durable
    → KnowsWords capacity m v → KnowsWords capacity m w
words_same capacity m v w same volatile durable words = record {
  volatile = λ cell value is knows. let old = words.volatile cell value is (ap (λ values. known values cell) (sym volatile) ∙ knows) in
      (subst (λ n. 0 < n) (sym (own_same v w same cell)) old.0, old.1);
  durable = λ cell value is knows. let old = words.durable cell value is (ap (λ values. known values cell) (sym durable) ∙ knows) in
      (subst (λ n. 0 < n) (sym (own_same v w same cell)) old.0, old.1);
}

-- nothing is there
pub not_there : IsThere {A = ℕ} None → ⊥
not_there e = omega (arith, e)

pub none_drawn : (drawn : ℕ) → IsTicketDrawn drawn None
none_drawn drawn = record { is_drawn = λ e. absurd (not_there e) }

-- a ticket that is used up
pub given_up : (budget : ℕ) (ticket last stopped : Option ℕ) → IsTicketed budget ticket last stopped → IsTicketed budget None last stopped
given_up budget ticket last stopped h = record {
  stopping = λ t e. let o = h.stopping t e in (o.0, o.1, refl);
  in_hand = λ e. absurd (not_there e);
  going = h.going;
}

pub ticket_given_up : (budget : ℕ) (v w : View) → IsTicketed budget v.ticket v.last_ticket v.stopped → w.ticket ≡ None
    → w.last_ticket ≡ v.last_ticket → w.stopped ≡ v.stopped → IsTicketed budget w.ticket w.last_ticket w.stopped
ticket_given_up budget v w state none last stop =
    subst (λ x. IsTicketed budget x w.last_ticket w.stopped) (sym none) (subst (λ x. IsTicketed budget None x w.stopped) (sym last)
    (subst (λ x. IsTicketed budget None v.last_ticket x) (sym stop) (given_up budget v.ticket v.last_ticket v.stopped state)))

-- a snapshot that is no different from the word
pub differs_none : (word : ℕ) → differs (Some word) word ≡ 0
differs_none word = ap (λ t. one_if (not t)) (eq-eqb word word refl)

pub other_one : (a b : ℕ) → a ≢ b → one_if (not (nat_eq a b)) ≡ 1
other_one a b other = by_test (nat_eq a b) refl where
  by_test : (test : Bool) → nat_eq a b ≡ test → one_if (not test) ≡ 1
  by_test true e = absurd (other (eqb-true a b e))
  by_test false e = refl

suc_is : (d : ℕ) → suc d ≡ d + 1
suc_is d = omega arith

-- the first descriptor of a list
pub first_small : (k : Setup) (m : Memory) (g : CoreShape) → (t : Tally) → IsInShape k.capacity m g t → (list : ℕ) → list < lists
    → head_first (head m list) ≤ k.capacity
first_small k m g t shaped list is = by_list (g.lists list) (head_first (head m list)) (shaped.lists.follows list is) where
  by_list : (ds : List ℕ) (from : ℕ) → Follows (link m) k.capacity from ds → from ≤ k.capacity
  by_list [] from f = let e : from ≡ 0 = f in omega arith
  by_list (d ∷ ds) from f = let e : from ≡ d + 1 = f.0 in let l : d < k.capacity = f.1 in omega arith

pub first_listed : (k : Setup) (m : Memory) (g : CoreShape) → (t : Tally) → IsInShape k.capacity m g t → (list : ℕ) → list < lists
    → head_first (head m list) ≢ 0
    → 0 < times (before (head_first (head m list))) (g.lists list)
first_listed k m g t shaped list is some = by_list (g.lists list) (head_first (head m list)) (shaped.lists.follows list is) some where
  by_list : (ds : List ℕ) (from : ℕ) → Follows (link m) k.capacity from ds → from ≢ 0 → 0 < times (before from) ds
  by_list [] from f nonzero = absurd (nonzero f)
  by_list (d ∷ ds) from f nonzero = subst (λ n. 0 < times (before n) (d ∷ ds)) (sym (f.0 ∙ sym (suc_is d)))
      (let e = ap one_if (eq-eqb d d refl) in omega arith)

module _ (k : Setup) (m : Memory) (views : List View) (i : ℕ) (v : View) (below : i < length views) (at : get_or views i v ≡ v)
    (good : Good k m views) (ticket : IsThere v.ticket) where
  pub seat : IsSeat k m good.shape v
  seat = seat_at k m views good i v below at

  -- the ticket is used up
  pub done_tickets : (w : View) → w.ticket ≡ None → w.last_ticket ≡ v.last_ticket → w.used_look ≡ v.used_look → w.head_looks ≡ v.head_looks
      → counts w ≡ counts v → w.cuts ≡ v.cuts
      → w.losses ≤ v.losses + 1 → HasTickets k.budget m.drawn w
  done_tickets w none last used_looks head_looks kept cuts losses = let s = seat.tickets in record {
    state = ticket_given_up k.budget v w s.state none last (ap (λ (c : Counts). c.stopped) kept);
    looked_then = (let l = s.looked_then in let a = ap (λ (x : LastLook). x.taken) used_looks in
        let b = ap (λ (x : LastLook). x.wins) used_looks in let t = ap (λ (c : Counts). c.taken) kept in
        let u = ap (λ (c : Counts). c.wins) kept in let p = l.0 in let q = l.1 in (omega arith, omega arith));
    ticket = subst (IsTicketDrawn m.drawn) (sym none) (none_drawn m.drawn);
    last = subst (IsTicketDrawn m.drawn) (sym last) s.last;
    used_look = subst (λ (l : LastLook). IsTicketDrawn m.drawn l.ticket) (sym used_looks) s.used_look;
    head_looks = λ list is. subst (λ (l : LastLook). IsTicketDrawn m.drawn l.ticket)
        (sym (ap₂ (λ looks (l : LastLook). get_or looks list l) head_looks used_looks)) (s.head_looks list is);
    counts = let c = s.counts in let e = ap (λ (c : Counts). c.wins) kept in let d = ap (λ (c : Counts). c.draws) kept in
        let n = ap one_if_some none in omega arith;
    gives = let c = s.gives in let e = ap (λ (c : Counts). c.wins) kept in let d = ap (λ (c : Counts). c.gives) kept in
        let n = ap (λ (c : Counts). c.moves) kept in omega arith;
    cuts = let c = s.cuts in let d = ap (λ (c : Counts). c.draws) kept in omega arith;
  }

  pub lost_used : (found : ℕ) → IsThere v.seen_used → used m ≢ seen v.seen_used → Good k m (set views i (record (lost v found) { seen_used = None }))
  lost_used found there other = quiet k m views i v (record (lost v found) { seen_used = None }) below at good refl refl
      (let s = seat.set_up in record {
        setup = s.setup;
        roots = s.roots;
        small = s.small;
        caches = s.caches;
        looks = s.looks;
        volatile = s.volatile;
        durable = s.durable;
      })
      (let s = seat.knows in record {
        seen_head = s.seen_head;
        seen_used = λ e. absurd (not_there e);
        looked = s.looked;
        seen_anchor = s.seen_anchor;
        seen_empty = s.seen_empty;
        floor = s.floor;
      })
      (words_same k.capacity m v (record (lost v found) { seen_used = None }) refl refl refl seat.words)
      (done_tickets (record (lost v found) { seen_used = None }) refl refl refl refl refl refl (omega arith))
      (omega arith)
      (let e = stale_used v.seen_used there other in omega arith) where
        stale_used : (s : Option ℕ) → IsThere s → used m ≢ seen s → differs s (used m) ≡ 1
        stale_used None e apart = absurd (not_there e)
        stale_used (Some word) e apart = other_one word (used m) (λ same. apart (sym same))

  pub lost_head : (found : ℕ) → IsThere v.seen_head → head m (seen_of v.seen_head) ≢ seen_word v.seen_head
      → Good k m (set views i (record (lost v found) { seen_head = None }))
  lost_head found there other = quiet k m views i v (record (lost v found) { seen_head = None }) below at good refl refl
      (let s = seat.set_up in record {
        setup = s.setup;
        roots = s.roots;
        small = s.small;
        caches = s.caches;
        looks = s.looks;
        volatile = s.volatile;
        durable = s.durable;
      })
      (let s = seat.knows in record {
        seen_head = λ e. absurd (not_there e);
        seen_used = s.seen_used;
        looked = s.looked;
        seen_anchor = s.seen_anchor;
        seen_empty = s.seen_empty;
        floor = s.floor;
      })
      (words_same k.capacity m v (record (lost v found) { seen_head = None }) refl refl refl seat.words)
      (done_tickets (record (lost v found) { seen_head = None }) refl refl refl refl refl refl (omega arith))
      (omega arith)
      (let e = stale_by v.seen_head there other in omega arith) where
        stale_by : (s : Option Snapshot) → IsThere s → head m (seen_of s) ≢ seen_word s → stale_head m s ≡ 1
        stale_by None e apart = absurd (not_there e)
        stale_by (Some s) e apart = other_one s.word (head m s.of) (λ same. apart (sym same))

  pub lost_anchor : (found : ℕ) → IsThere v.seen_anchor → times_raw (seen_of v.seen_anchor) v ≡ 0
      → anchor m (seen_of v.seen_anchor) ≢ seen_word v.seen_anchor → Good k m (set views i (record (lost v found) { seen_anchor = None }))
  lost_anchor found there not_raw other = quiet k m views i v (record (lost v found) { seen_anchor = None }) below at good refl refl
      (let s = seat.set_up in record {
        setup = s.setup;
        roots = s.roots;
        small = s.small;
        caches = s.caches;
        looks = s.looks;
        volatile = s.volatile;
        durable = s.durable;
      })
      (let s = seat.knows in record {
        seen_head = s.seen_head;
        seen_used = s.seen_used;
        looked = s.looked;
        seen_anchor = λ e. absurd (not_there e);
        seen_empty = λ e. absurd (not_there e);
        floor = s.floor;
      })
      (words_same k.capacity m v (record (lost v found) { seen_anchor = None }) refl refl refl seat.words)
      (done_tickets (record (lost v found) { seen_anchor = None }) refl refl refl refl refl refl (omega arith))
      (omega arith)
      (let e = stale_by v.seen_anchor there not_raw other in omega arith) where
        stale_by : (s : Option Snapshot) → IsThere s → times_raw (seen_of s) v ≡ 0 → anchor m (seen_of s) ≢ seen_word s → stale_anchor m v s ≡ 1
        stale_by None e none apart = absurd (not_there e)
        stale_by (Some s) e none apart = ap (λ t. one_if (t && not (nat_eq s.word (anchor m s.of)))) (eq-eqb (times_raw s.of v) 0 none)
            ∙ other_one s.word (anchor m s.of) (λ same. apart (sym same))
