-- A heap at rest that is opened is sound.
use Rattle.std.proofs.Common.{◌≡◌, ◌≢◌, ℕ, ◌+◌, ◌/◌, ◌<◌, ◌≤◌, inl, inr, true, false, nat_eq, nat_lt, ◌&&◌, List, [], ◌∷◌, ◌++◌, map, replicate, Contains, get_or, length, None, Some, refl, ap, sym, subst, ◌∙◌, lt-ltb, get_or-append-add, length-append, arith}
use Rattle.std.proofs.lemmas.Bool.{cases_lt}
use Rattle.std.proofs.lemmas.List.{get_or_append_left, get_or-map, length-map}
use Rattle.heap_model.specs.declared.block.Block.{Block}
use Rattle.heap_model.specs.Geometry.{lists, roots, head_word, info_word, anchor_word, link_word, superblock_words, image_words, largest_capacity_fits, superblock_of}
use Rattle.heap_model.specs.Words.{head_pops, anchor_state, empty_state, partial_state, large_info}
use Rattle.heap_model.specs.Counting.{times, total, one_if}
use Rattle.heap_model.specs.Rest.{list_numbers, large_part, IsReady}
use Rattle.heap_model.proofs.CountingLemmas.{number_below, total_some}
use Rattle.core_model.specs.Cells.{Cell, used_cell, head_cell, is_cell, index_of}
use Rattle.core_model.specs.Memory.{Memory, table_length, used, head, info, anchor, next}
use Rattle.core_model.specs.View as seen_as
use Rattle.core_model.specs.View.{Setup, View, LastLook, one_if_some, times_large}
use Rattle.core_model.specs.Effects.{seen, steps, span_count}
use Rattle.core_model.specs.Sound.{CoreShape, Tally, times_cut, times_parked, IsSetUp, ClaimsOf, BlocksOf, Knows, KnowsWords, IsTicketDrawn, HasTickets, HasTotals, HasLost, Good, Sound}
use Rattle.core_model.specs.Opening.{picked, is_small, small_blocks, large_blocks, AreOwners, unlooked, plain_view}
use Rattle.core_model.proofs.RootLemmas.{owns_root}
use Rattle.core_model.proofs.PlaceLemmas.{index_within}
use Rattle.core_model.proofs.OwnLemmas.{words_trimmed, length_only}
use Rattle.core_model.proofs.QuietLemmas.{not_there, none_drawn}
use Rattle.core_model.proofs.CountLemmas.{length_steps}
use Rattle.heap_model.proofs.ListLemmas.{follows_small}
use Rattle.core_model.proofs.TableLemmas.{fixed_apart}
use Rattle.core_model.proofs.OpenLemmas.{picked_in, tabulate_sum, length_tabulate, tabulate_at, total_in, total_zero, small_member, large_sum, span_of_block, small_from, span_from, each_tabulate}
use Rattle.core_model.proofs.OpenCountLemmas.{beyond, empty_at, member_at, ones_most, dealt_once, no_walk}
use Rattle.core_model.proofs.OpenedShapeLemmas
use Rattle.core_model.proofs.OpenedPartLemmas

module _ (words : List ℕ) (held : List Block) (budget seats : ℕ) (block_owners root_owners : List ℕ) (ready : IsReady words held)
    (owners : AreOwners held seats block_owners root_owners) where
  abbrev k : Setup
  k = OpenedPartLemmas.k words held budget seats block_owners root_owners ready owners

  abbrev c : ℕ
  c = OpenedPartLemmas.c words held budget seats block_owners root_owners ready owners

  abbrev image : ℕ → ℕ
  image = OpenedPartLemmas.image words held budget seats block_owners root_owners ready owners

  abbrev table : List ℕ
  table = OpenedPartLemmas.table words held budget seats block_owners root_owners ready owners

  abbrev m : Memory
  m = OpenedPartLemmas.m words held budget seats block_owners root_owners ready owners

  abbrev V : ℕ → View
  V = OpenedPartLemmas.V words held budget seats block_owners root_owners ready owners

  abbrev views : List View
  views = OpenedPartLemmas.views words held budget seats block_owners root_owners ready owners

  abbrev long : length words ≡ image_words c
  long = OpenedPartLemmas.long words held budget seats block_owners root_owners ready owners

  abbrev volatile_is : (cell : Cell) → is_cell c cell ≡ true → m.volatile cell ≡ image (index_of cell)
  volatile_is = OpenedPartLemmas.volatile_is words held budget seats block_owners root_owners ready owners

  abbrev durable_is : (cell : Cell) → is_cell c cell ≡ true → m.durable cell ≡ image (index_of cell)
  durable_is = OpenedPartLemmas.durable_is words held budget seats block_owners root_owners ready owners

  abbrev none_drawn_yet : m.drawn ≡ 0
  none_drawn_yet = OpenedPartLemmas.none_drawn_yet words held budget seats block_owners root_owners ready owners

  abbrev used_is : used m ≡ image 8
  used_is = OpenedPartLemmas.used_is words held budget seats block_owners root_owners ready owners

  abbrev info_is : (d : ℕ) → d < c → info m d ≡ image (info_word d)
  info_is = OpenedPartLemmas.info_is words held budget seats block_owners root_owners ready owners

  abbrev anchor_is : (d : ℕ) → d < c → anchor m d ≡ image (anchor_word d)
  anchor_is = OpenedPartLemmas.anchor_is words held budget seats block_owners root_owners ready owners

  abbrev IsLarge : (p : Block) → Type 0
  IsLarge = OpenedPartLemmas.IsLarge words held budget seats block_owners root_owners ready owners

  abbrev in_used : (d : ℕ) → d < image 8 → d < c
  in_used = OpenedPartLemmas.in_used words held budget seats block_owners root_owners ready owners

  abbrev part_takes : (d : ℕ) (p : Block) (l : IsLarge p) → one_if (seen_as.takes d
      (record { first = superblock_of c p.first_word; count = p.words / superblock_words })) ≡ large_part c d p
  part_takes = OpenedPartLemmas.part_takes words held budget seats block_owners root_owners ready owners

  abbrev large_of : (p : Block) → Contains held p → is_small p ≡ false → IsLarge p
  large_of = OpenedPartLemmas.large_of words held budget seats block_owners root_owners ready owners

  abbrev large_is : (d : ℕ) → total (λ (v : View). times_large d v.large) views ≡ total (large_part c d) held
  large_is = OpenedPartLemmas.large_is words held budget seats block_owners root_owners ready owners

  abbrev g : CoreShape
  g = OpenedShapeLemmas.g words held budget seats block_owners root_owners ready owners

  abbrev t : Tally
  t = OpenedShapeLemmas.t words held budget seats block_owners root_owners ready owners

  abbrev placed : (d : ℕ) → 0 < times d (g.lists 0) + times_cut g t d + t.large d → (d < image 8) × (d < c)
  placed = OpenedShapeLemmas.placed words held budget seats block_owners root_owners ready owners

  -- each seat
  held_of : (j : ℕ) (p : Block) → Contains (picked j held block_owners) p → Contains held p
  held_of j p there = picked_in j held block_owners p there

  is_part_of : (j d : ℕ) → 0 < times_large d (V j).large → 0 < total (large_part c d) held
  is_part_of j d some = let s = large_sum c d (picked j held block_owners) (λ p m large. part_takes d p (large_of p (held_of j p m) large))
      (λ p m small. OpenedPartLemmas.small_part words held budget seats block_owners root_owners ready owners d p small) in
      let x = total_some (large_part c d) (picked j held block_owners) (omega arith) in
      let y = member_at (large_part c d) held x.0 (held_of j x.0 x.1) in let z = x.2 in omega arith

  claims : (j : ℕ) → ClaimsOf m (V j)
  claims j = record {
    is_raw = λ d some. absurd (omega (arith, some));
    is_split = λ d some. absurd (omega (arith, some));
    is_cutting = λ d some. absurd (omega (arith, some));
    is_classed = λ d some. absurd (omega (arith, some));
    is_large = λ d some. let s = span_of_block c d (picked j held block_owners) some in let l = large_of s.0 (held_of j s.0 s.1) s.2 in
        is_span d (span_count d (large_blocks c (picked j held block_owners))) s.0 l s.3 s.4;
    is_part = λ d some. let part = is_part_of j d some in let inside = (placed d (let q = large_is d in omega arith)).1 in
        subst (λ w. anchor_state w ≢ partial_state) (sym (anchor_is d inside)) (ready.shaped.in_large d part);
    some = λ span there. let s = span_from c (picked j held block_owners) span there in let l = large_of s.0 (held_of j s.0 s.1) s.2 in
        let e = s.3 in let f = l.size in let o = l.some in omega arith;
  } where
    is_span : (d n : ℕ) (p : Block) (l : IsLarge p) → superblock_of c p.first_word ≡ d → p.words / superblock_words ≡ n
        → (info m d ≡ large_info n) × ((e : ℕ) → d < e → e < d + n → info m e ≡ 0)
    is_span d n p l here words_are =
        let same : l.d ≡ d = sym l.here ∙ here in
        let count : l.count ≡ n = (let f = l.size in omega arith) in
        let fits = l.fits in let some = l.some in (
          info_is d (in_used d (omega arith)) ∙ ap (λ x. image (info_word x)) (sym same) ∙ l.info_at ∙ ap large_info count,
          λ e low high. info_is e (in_used e (omega arith)) ∙ l.others e (omega arith) (omega arith),
        )

  pub small_at_class : (j class : ℕ) → class < lists → get_or (V j).small class [] ≡ small_blocks c (λ d. image (info_word d)) class
      (picked j held block_owners)
  small_at_class j class less = tabulate_at (λ n. small_blocks c (λ d. image (info_word d)) n (picked j held block_owners)) 0 lists class [] less
      ∙ ap (λ n. small_blocks c (λ d. image (info_word d)) n (picked j held block_owners)) (let e : 0 + class ≡ class = omega arith in e)

  blocks : (j : ℕ) → BlocksOf m (V j)
  blocks j = record {
    held = λ class b some. elim (cases_lt class lists) as (λ _. info m (superblock_of c b) ≡ class) [
      | inl less ↦ let here = ap (times b) (small_at_class j class less) in
          let infos = small_member c (λ d. image (info_word d)) class b (picked j held block_owners) (omega arith) in
          let p = small_from c (λ d. image (info_word d)) class b (picked j held block_owners) (omega arith) in
          let s = OpenedPartLemmas.small_of words held budget seats block_owners root_owners ready owners p.0 (held_of j p.0 p.1) p.2 in
          let at : superblock_of c b ≡ s.d = ap (superblock_of c) (sym p.3) ∙ s.here in
          info_is (superblock_of c b) (subst (λ d. d < c) (sym at) (in_used s.d s.taken)) ∙ infos
      | inr past ↦ absurd (let n = beyond (V j).small class b (let e =
          length_tabulate (λ n. small_blocks c (λ d. image (info_word d)) n (picked j held block_owners)) 0 lists in omega arith) in omega arith)
    ];
    cached = λ class b some. absurd (let n = empty_at lists class b in omega arith);
    batched = λ b some. absurd (omega (arith, some));
    cache_linked = λ class. no_walk (next m) (get_or (replicate lists []) class []) (λ b. empty_at lists class b);
    batch_linked = tt;
  }

  knows : (j : ℕ) → Knows c m g (V j)
  knows j = record {
    seen_head = λ e. absurd (not_there e);
    seen_used = λ e. absurd (not_there e);
    looked = (let u = used_is in omega arith);
    seen_anchor = λ e. absurd (not_there e);
    seen_empty = λ e. absurd (not_there e);
    floor = let v = durable_is used_cell refl in omega arith;
  }

  own_words : (j : ℕ) → KnowsWords c m (V j)
  own_words j = words_trimmed c m (plain_view k (picked j held block_owners) (picked j (steps 0 1 roots) root_owners)) refl
      (λ cell value is own knows. volatile_is cell is ∙ sym (ap seen (sym knows ∙ value_at cell is)))
      (λ cell value is own knows. durable_is cell is ∙ sym (ap seen (sym knows ∙ value_at cell is))) where
        value_at : (cell : Cell) → is_cell c cell ≡ true → get_or (map (λ word. Some word) words) (index_of cell) None ≡ Some (image (index_of cell))
        value_at cell is = get_or-map (λ word. Some word) words (index_of cell) 0 None (let w = index_within c cell is in let l = long in omega arith)

  set_up : (j : ℕ) → IsSetUp k (V j)
  set_up j = record {
    setup = refl;
    roots = λ i own. ((owns_root j roots root_owners i).0 own).0;
    small = length_tabulate (λ n. small_blocks c (λ d. image (info_word d)) n (picked j held block_owners)) 0 lists;
    caches = refl;
    looks = length_tabulate (λ list. unlooked (image (head_word list))) 0 lists;
    volatile = length_only (plain_view k (picked j held block_owners) (picked j (steps 0 1 roots) root_owners)) 0
        (map (λ word. Some word) words) ∙ length-map words (λ word. Some word) ∙ long;
    durable = length_only (plain_view k (picked j held block_owners) (picked j (steps 0 1 roots) root_owners)) 0 (map (λ word. Some word) words)
        ∙ length-map words (λ word. Some word) ∙ long;
  }

  tickets : (j : ℕ) → HasTickets k.budget m.drawn (V j)
  tickets j = record {
    ticket = none_drawn m.drawn;
    last = none_drawn m.drawn;
    used_look = none_drawn m.drawn;
    head_looks = λ list is. subst (λ (l : LastLook). IsTicketDrawn m.drawn l.ticket)
        (sym (tabulate_at (λ n. unlooked (image (head_word n))) 0 lists list (unlooked k.used) is)) (none_drawn m.drawn);
    counts = omega arith;
    state = record {
      stopping = λ n e. absurd (let z = ap one_if_some e in omega (arith, z));
      in_hand = λ e. absurd (not_there e);
      going = λ _ e. absurd (not_there e);
    };
    looked_then = (omega arith, omega arith);
    gives = omega arith;
    cuts = omega arith;
  }

  -- a sum of nothing over the seats
  nothing : (f : View → ℕ) → ((j : ℕ) → f (V j) ≡ 0) → total f views ≡ 0
  nothing f none = tabulate_sum f V 0 seats ∙ total_zero (λ j. f (V j)) (steps 0 1 seats) none

  no_pops : total (λ list. head_pops (head m list)) list_numbers ≡ 0
  no_pops = total_in (λ list. head_pops (head m list)) (λ list. 0) list_numbers (λ list there. let less = number_below list there in
      let h = volatile_is (head_cell list) (lt-ltb list lists less) in
      let small = follows_small (λ d. image (link_word d)) c (image (head_word list)) (g.lists list) (ready.shaped.follows list less) in
      let fits = ready.formed.small in let limit = largest_capacity_fits in
      let e : head_pops (head m list) ≡ 0 = omega arith in e) ∙ total_zero (λ (list : ℕ). 0) list_numbers (λ list. refl)

  root_once : (n : ℕ) → total (λ (v : View). times n v.roots) views ≤ 1
  root_once n = subst (λ x. x ≤ 1) (sym (tabulate_sum (λ (v : View). times n v.roots) V 0 seats))
      (dealt_once n roots root_owners seats owners.roots_all owners.root_seats)

  adds : HasTotals k m views
  adds = let none_tickets = nothing (λ (v : View). one_if_some v.ticket) (λ j. refl) in let drawn = none_drawn_yet in let pops = no_pops in record {
    draws = (let n = nothing (λ (v : View). v.draws) (λ j. refl) in omega arith);
    pops = omega arith;
    budget = omega arith;
    stopped = omega arith;
    taken = (let n = nothing (λ (v : View). v.taken) (λ j. refl) in let u = used_is in omega arith);
    roots = root_once;
  }

  good : Good k m views
  good = record {
    small = ready.formed.small;
    shape = g;
    shaped = (OpenedShapeLemmas.shaped words held budget seats block_owners root_owners ready owners);
    set_up = each_tabulate V seats (IsSetUp k) (λ j _. set_up j);
    claims = each_tabulate V seats (ClaimsOf m) (λ j _. claims j);
    blocks = each_tabulate V seats (BlocksOf m) (λ j _. blocks j);
    knows = each_tabulate V seats (Knows c m g) (λ j _. knows j);
    words = each_tabulate V seats (KnowsWords c m) (λ j _. own_words j);
    tickets = each_tabulate V seats (HasTickets k.budget m.drawn) (λ j _. tickets j);
    adds = adds;
    lost = each_tabulate V seats (HasLost m views) (λ j _. omega arith);
    moves = (let n = nothing (λ (v : View). v.moves) (λ j. refl) in
        let e = ones_most (λ d. nat_lt 0 (times_parked g t d) && nat_eq (anchor_state (anchor m d)) empty_state) (steps 0 1 c) in
        let l = length_steps 0 1 c in omega arith);
  }

  pub opened : Sound k table views
  opened = record {
    some = ready.formed.some;
    long = length-append words (words ++ (0 ∷ [])) ∙ (let e = length-append words (0 ∷ []) in let l = long in
        let z : length words + length (words ++ (0 ∷ [])) ≡ table_length c = omega arith in z);
    fixed = λ word is. let inside = (fixed_apart c word used_cell is refl).1 in (
      get_or_append_left words (words ++ (0 ∷ [])) 0 word (let l = long in omega arith),
      ap (λ n. get_or table (n + word) 0) (sym long) ∙ get_or-append-add words (words ++ (0 ∷ [])) word 0
          ∙ get_or_append_left words (0 ∷ []) 0 word (let l = long in omega arith),
    );
    capacity = refl;
    used = refl;
    good = good;
  }
