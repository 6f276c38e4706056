-- Own words: more where a seat has more, and what is known of them alone.
use Rattle.std.proofs.Common.{◌≡◌, ℕ, zero, suc, ◌+◌, ◌<◌, ◌≤◌, Bool, true, false, cond, not, ◌&&◌, nat_eq, nat_lt, nat_le, List, [], ◌∷◌, get_or, length, Option, None, Some, refl, ap, ap₂, sym, subst, ◌∙◌, ltb-true, eqb-true, eq-eqb, le-leb, lt-ltb, true≢false, arith}
use Rattle.heap_model.specs.Sizes.{words_of_class}
use Rattle.heap_model.specs.Counting.{times, one_if}
use Rattle.heap_model.specs.Geometry.{superblock_of}
use Rattle.core_model.specs.Cells.{Cell, used_cell, head_cell, info_cell, anchor_cell, link_cell, root_cell, data_cell, no_cell, is_cell, index_of, cell_at}
use Rattle.core_model.specs.Memory.{Memory, anchor}
use Rattle.core_model.specs.View.{Setup, View, Snapshot, LastLook, one_if_some, known, times_own, times_raw, times_classed, times_claimed, times_large, times_in_classes, times_within}
use Rattle.core_model.specs.Effects.{seen, seen_of, cleared, only_own, trimmed}
use Rattle.core_model.specs.Guards.{IsThere, IsOwn}
use Rattle.core_model.specs.Sound.{KnowsWords, IsTicketDrawn, HasTickets, differs, stale_head, stale_anchor}
use Rattle.core_model.proofs.PlaceLemmas.{cell_at_index, and_is}
pub use Rattle.heap_model.proofs.ListLemmas.{one_at_most}
use Rattle.core_model.proofs.QuietLemmas.{none_drawn, not_there, own_same, ticket_given_up}

-- the parts that are not superblocks
pub record Holdings : Type 0 where
  pub setup : Setup
  pub small : List (List ℕ)
  pub roots : List ℕ
  pub caches : List (List ℕ)
  pub batch_class : ℕ
  pub batch_blocks : List ℕ

abbrev pub holdings : View → Holdings
holdings v = record { setup = v.setup; small = v.small; roots = v.roots; caches = v.caches; batch_class = v.batch.class; batch_blocks = v.batch.blocks }

-- where one has all that the other has, each own word of the other is its own
pub own_grows : (v w : View) → holdings w ≡ holdings v → ((d : ℕ) → times_raw d v ≤ times_raw d w) → ((d : ℕ) → times_claimed d v ≤ times_claimed d w)
    → ((d : ℕ) → times_large d v.large + times_raw d v ≤ times_large d w.large + times_raw d w) → (cell : Cell) → times_own v cell ≤ times_own w cell
own_grows v w same raw claimed large used_cell = omega arith
own_grows v w same raw claimed large (head_cell list) = omega arith
own_grows v w same raw claimed large (info_cell d) = raw d
own_grows v w same raw claimed large (anchor_cell d) = raw d
own_grows v w same raw claimed large (link_cell d) = claimed d
own_grows v w same raw claimed large (root_cell n) = let e = ap (λ (h : Holdings). times n h.roots) same in omega arith
own_grows v w same raw claimed large (data_cell word) =
    let more = large (superblock_of v.setup.capacity word) in
    let blocks = ap (λ (h : Holdings). times_in_classes word 0 h.small + times_in_classes word 0 h.caches + times_within
    (words_of_class h.batch_class) word h.batch_blocks) same in
    let parts_w = ap (λ (h : Holdings). times_large (superblock_of h.setup.capacity word) w.large + times_raw
    (superblock_of h.setup.capacity word) w) same in
    omega arith
own_grows v w same raw claimed large no_cell = omega arith

-- the values of own words alone
pub only_at : (v : View) (index n : ℕ) (values : List (Option ℕ))
    → get_or (only_own v index values) n None ≡ cond (nat_lt 0 (times_own v (cell_at v.setup.capacity (index + n)))) (get_or values n None) None
only_at v index n [] = none (nat_lt 0 (times_own v (cell_at v.setup.capacity (index + n)))) None where
  none : (test : Bool) (x : Option ℕ) → x ≡ cond test x x
  none true x = refl
  none false x = refl
only_at v index zero (value ∷ values) = ap (λ j. cond (nat_lt 0 (times_own v (cell_at v.setup.capacity j))) value None)
    (let e : index ≡ index + 0 = omega arith in e)
only_at v index (suc n) (value ∷ values) =
    only_at v (index + 1) n values ∙ ap (λ j. cond (nat_lt 0 (times_own v (cell_at v.setup.capacity j))) (get_or values n None) None)
    (let e : index + 1 + n ≡ index + suc n = omega arith in e)

pub length_only : (v : View) (index : ℕ) (values : List (Option ℕ)) → length (only_own v index values) ≡ length values
length_only v index [] = refl
length_only v index (value ∷ values) = ap suc (length_only v (index + 1) values)

-- what is still known is of an own word, and was known
pub known_only : (c : ℕ) (v : View) (values : List (Option ℕ)) (cell : Cell) (value : ℕ) → v.setup.capacity ≡ c → is_cell c cell ≡ true
    → known (only_own v 0 values) cell ≡ Some value → IsOwn v cell × (known values cell ≡ Some value)
known_only c v values cell value setup is knows = by_test (nat_lt 0 (times_own v cell)) refl found where
  here : cell_at v.setup.capacity (0 + index_of cell) ≡ cell
  here = ap (λ n. cell_at n (0 + index_of cell)) setup ∙ ap (cell_at c) (let e : 0 + index_of cell ≡ index_of cell = omega arith in e)
      ∙ cell_at_index c cell is

  found : cond (nat_lt 0 (times_own v cell)) (known values cell) None ≡ Some value
  found = ap (λ x. cond (nat_lt 0 (times_own v x)) (known values cell) None) (sym here) ∙ sym (only_at v 0 (index_of cell) values) ∙ knows

  by_test : (test : Bool) → nat_lt 0 (times_own v cell) ≡ test → cond test (known values cell) None ≡ Some value → IsOwn v cell
      × (known values cell ≡ Some value)
  by_test true own e = (ltb-true 0 (times_own v cell) own, e)
  by_test false own e = absurd (not_there (ap one_if_some e))

-- a snapshot that was cleared, or is of a superblock that is the seat's own as before, is no more stale
pub stale_cleared : (m : Memory) (v w : View) (from n : ℕ) (s : Option Snapshot)
    → ((d : ℕ) → (from ≤ d → d < from + n → ⊥) → times_raw d v ≤ times_raw d w) → stale_anchor m w (cleared from n s) ≤ stale_anchor m v s
stale_cleared m v w from n None more = omega arith
stale_cleared m v w from n (Some s) more = by_test (nat_le from s.of && nat_lt s.of (from + n)) refl where
  less : (a b : ℕ) (test : Bool) → a ≤ b → one_if (nat_eq b 0 && test) ≤ one_if (nat_eq a 0 && test)
  less a b test order = by_bool (nat_eq b 0) refl where
    by_bool : (is : Bool) → nat_eq b 0 ≡ is → one_if (is && test) ≤ one_if (nat_eq a 0 && test)
    by_bool true e = subst (λ t. one_if test ≤ one_if (t && test)) (sym (eq-eqb a 0 (let z = eqb-true b 0 e in omega arith))) (omega arith)
    by_bool false e = omega arith

  by_test : (test : Bool) → nat_le from s.of && nat_lt s.of (from + n) ≡ test → stale_anchor m w (cond test None (Some s)) ≤ stale_anchor m v (Some s)
  by_test true e = omega arith
  by_test false e = less (times_raw s.of v) (times_raw s.of w) (not (nat_eq s.word (anchor m s.of)))
      (more s.of (λ low high. true≢false (sym (and_is (nat_le from s.of) (nat_lt s.of (from + n)) (le-leb from s.of low)
      (lt-ltb s.of (from + n) high)) ∙ e)))

-- a snapshot is out of date once at most
pub differs_most : (s : Option ℕ) (word : ℕ) → differs s word ≤ 1
differs_most None word = omega arith
differs_most (Some seen) word = one_at_most (not (nat_eq seen word))

-- and none where it is the word
pub differs_same : (seen word : ℕ) → seen ≡ word → differs (Some seen) word ≡ 0
differs_same seen word same = ap (λ t. one_if (not t)) (eq-eqb seen word same)

pub stale_head_most : (m : Memory) (s : Option Snapshot) → stale_head m s ≤ 1
stale_head_most m None = omega arith
stale_head_most m (Some s) = one_at_most (not (nat_eq s.word (m.volatile (head_cell s.of))))

pub stale_anchor_most : (m : Memory) (v : View) (s : Option Snapshot) → stale_anchor m v s ≤ 1
stale_anchor_most m v None = omega arith
stale_anchor_most m v (Some s) = one_at_most (nat_eq (times_raw s.of v) 0 && not (nat_eq s.word (anchor m s.of)))

-- the tickets of a seat that won an exchange
pub won_tickets : (budget drawn : ℕ) (v w : View) → HasTickets budget drawn v → IsThere v.ticket → w.ticket ≡ None → w.stopped ≡ v.stopped
    → v.taken ≤ w.taken → w.last_ticket ≡ v.last_ticket → w.used_look ≡ v.used_look → w.head_looks ≡ v.head_looks
    → w.wins ≡ v.wins + 1 → w.losses ≡ v.losses → w.draws ≡ v.draws → w.cuts ≡ v.cuts → w.gives + w.moves ≤ v.gives + v.moves + 1
    → HasTickets budget drawn w
won_tickets budget drawn v w s there none stop more last used_look head_looks wins losses draws cuts gives = record {
  ticket = subst (IsTicketDrawn drawn) (sym none) (none_drawn drawn);
  last = subst (IsTicketDrawn drawn) (sym last) s.last;
  used_look = subst (λ (l : LastLook). IsTicketDrawn drawn l.ticket) (sym used_look) s.used_look;
  head_looks = λ list is. subst (λ (l : LastLook). IsTicketDrawn drawn l.ticket)
      (sym (ap₂ (λ looks (l : LastLook). get_or looks list l) head_looks used_look)) (s.head_looks list is);
  counts = let c = s.counts in let n = ap one_if_some none in omega arith;
  state = ticket_given_up budget v w s.state none last stop;
  looked_then = (let l = s.looked_then in let a = ap (λ (x : LastLook). x.taken) used_look in let b = ap (λ (x : LastLook). x.wins) used_look in
      let p = l.0 in let q = l.1 in (omega arith, omega arith));
  gives = let c = s.gives in omega arith;
  cuts = let c = s.cuts in omega arith;
}

-- where a seat has more, what it knows is still right
pub words_grow : (c : ℕ) (m : Memory) (v w : View) → w.volatile ≡ v.volatile → w.durable ≡ v.durable
    → ((cell : Cell) → times_own v cell ≤ times_own w cell) → KnowsWords c m v → KnowsWords c m w
words_grow c m v w volatile durable more words = record {
  volatile = λ cell value is knows. let old = words.volatile cell value is (ap (λ values. known values cell) (sym volatile) ∙ knows) in
      (let e = more cell in let o = old.0 in omega arith, old.1);
  durable = λ cell value is knows. let old = words.durable cell value is (ap (λ values. known values cell) (sym durable) ∙ knows) in
      (let e = more cell in let o = old.0 in omega arith, old.1);
}

-- a snapshot that is still there is of no descriptor of the range
pub cleared_other : (from n : ℕ) (s : Option Snapshot) → IsThere (cleared from n s) → from ≤ seen_of s → seen_of s < from + n → ⊥
cleared_other from n None there low high = not_there there
cleared_other from n (Some s) there low high =
    not_there (subst IsThere (ap (λ t. cond t None (Some s)) (and_is (nat_le from s.of) (nat_lt s.of (from + n)) (le-leb from s.of low)
    (lt-ltb s.of (from + n) high))) there)

-- a view that keeps what it knows of own words alone
pub words_trimmed : (c : ℕ) (m : Memory) (x : View) → x.setup.capacity ≡ c
    → ((cell : Cell) (value : ℕ) → is_cell c cell ≡ true → IsOwn x cell → known x.volatile cell ≡ Some value → m.volatile cell ≡ value)
    → ((cell : Cell) (value : ℕ) → is_cell c cell ≡ true → IsOwn x cell → known x.durable cell ≡ Some value → m.durable cell ≡ value)
    → KnowsWords c m (trimmed x)
words_trimmed c m x setup volatile durable = record {
  volatile = λ cell value is knows. let own = known_only c x x.volatile cell value setup is knows in
      (subst (λ n. 0 < n) (sym (own_same x (trimmed x) refl cell)) own.0, volatile cell value is own.0 own.1);
  durable = λ cell value is knows. let own = known_only c x x.durable cell value setup is knows in
      (subst (λ n. 0 < n) (sym (own_same x (trimmed x) refl cell)) own.0, durable cell value is own.0 own.1);
}

-- the same of a seat's view that keeps what was known, in a memory that keeps the seat's own words
pub words_left : (k : Setup) (m m' : Memory) (v x : View) → v.setup ≡ k → KnowsWords k.capacity m v
    → ((cell : Cell) → IsOwn v cell → m'.volatile cell ≡ m.volatile cell) → ((cell : Cell) → IsOwn v cell → m'.durable cell ≡ m.durable cell)
    → x.setup ≡ v.setup → x.volatile ≡ v.volatile → x.durable ≡ v.durable → KnowsWords k.capacity m' (trimmed x)
words_left k m m' v x set_up words same_volatile same_durable setup volatile durable =
    words_trimmed k.capacity m' x (ap (λ (s : Setup). s.capacity) (setup ∙ set_up))
    (λ cell value is own knows. let old = words.volatile cell value is (ap (λ values. known values cell) (sym volatile) ∙ knows) in
    same_volatile cell old.0 ∙ old.1)
    (λ cell value is own knows. let old = words.durable cell value is (ap (λ values. known values cell) (sym durable) ∙ knows) in
    same_durable cell old.0 ∙ old.1)

-- own words depend on these alone
pub own_equal : (v w : View) → holdings w ≡ holdings v → ((d : ℕ) → times_raw d w ≡ times_raw d v)
    → ((d : ℕ) → times_classed d w.classed ≡ times_classed d v.classed) → ((d : ℕ) → times_large d w.large ≡ times_large d v.large)
    → (cell : Cell) → times_own w cell ≡ times_own v cell
own_equal v w same raw classed large cell =
    let up = own_grows v w same (λ d. let r = raw d in omega arith) (λ d. let r = raw d in let c = classed d in
    omega arith) (λ d. let r = raw d in let l = large d in omega arith) cell in
    let down = own_grows w v (sym same) (λ d. let r = raw d in omega arith) (λ d. let r = raw d in let c = classed d in
    omega arith) (λ d. let r = raw d in let l = large d in omega arith) cell in omega arith
