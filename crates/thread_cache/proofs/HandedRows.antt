-- What an offer and an accept leave of the seat, and of the words that go and come.
use Rattle.std.proofs.Common.{◌≡◌, ◌<◌, ◌≤◌, ℕ, zero, suc, ◌+◌, inl, Bool, true, false, cond, not, nat_eq, List, [], ◌∷◌, get_or, length, Option, None, Some, refl, ap, sym, subst, ◌∙◌, arith}
use Rattle.heap_model.specs.declared.block.Block.{Block}
use Rattle.heap_model.specs.Counting.{times}
use Rattle.heap_model.specs.Geometry.{image_words, superblock_of}
use Rattle.heap_model.specs.Sizes.{words_of_class}
use Rattle.line_memory.specs.Marks.{IsMarked}
use Rattle.core_model.specs.Carriers.{IsCarrier, accepted, carrier_of, either_known, either_of, offered}
use Rattle.core_model.specs.Cells.{Cell, used_cell, head_cell, info_cell, anchor_cell, link_cell, root_cell, data_cell, no_cell, cell_at, index_of, is_cell}
use Rattle.core_model.specs.Memory.{memory_of}
use Rattle.core_model.specs.Splitting.{chosen, chosen_lists}
use Rattle.core_model.specs.View.{Batch, Role, View, times_classed, times_in_classes, times_large, times_own, times_raw, times_within}
use Rattle.core_model.proofs.BothLemmas.{both_within, large_append}
use Rattle.core_model.proofs.ChosenLemmas.{chosen_less, spans_less}
use Rattle.heap_table.specs.Plays.{HasSoundState}
use Rattle.heap_rule.specs.Carried.{Carries, KnowsItsOwn}
use Rattle.heap_rule.specs.Fences.{Owns}
use Rattle.heap_rule.specs.Seated.{KeepsStores, SeatView}
use Rattle.seat_index.proofs.OwnedCarriers.{all_roots}
use Rattle.heap_rule.proofs.RawLemmas.{volatile_long, durable_long}
use Rattle.heap_rule.proofs.SettleLemmas.{own_below, own_index, own_there}
use Rattle.seat_costs.specs.Costs.{one_draw}
use Rattle.seat_costs.specs.Rows.{HasDrawn, Passes, Row, ViewRow}
use Rattle.seat_costs.specs.Words.{IsHeldWord, KeepsWord, times_held}
use Rattle.seat_costs.proofs.RowLemmas.{row_held, row_holds}
use Rattle.seat_costs.proofs.WordLemmas.{owns_held, trimmed_word, word_same, word_then}
use Rattle.thread_cache.specs.Sending.{AcceptRow, ComesWith, GoesWith, OfferRow}
use Rattle.core_model.proofs.HeldOnceLemmas as once

-- words of chosen blocks
within_less : (test : ℕ → Bool) (words word : ℕ) (xs : List ℕ) → times_within words word (chosen test xs) ≤ times_within words word xs
within_less test words word [] = omega arith
within_less test words word (x ∷ xs) = by_test (test x) (within_less test words word xs) where
  by_test : (t : Bool) → times_within words word (chosen test xs) ≤ times_within words word xs
      → times_within words word (cond t (x ∷ chosen test xs) (chosen test xs)) ≤ times_within words word (x ∷ xs)
  by_test true rest = omega arith
  by_test false rest = omega arith

classes_less : (test : ℕ → Bool) (word class : ℕ) (xss : List (List ℕ))
    → times_in_classes word class (chosen_lists test xss) ≤ times_in_classes word class xss
classes_less test word class [] = omega arith
classes_less test word class (xs ∷ xss) = let here = within_less test (words_of_class class) word xs in
    let rest = classes_less test word (class + 1) xss in omega arith

-- what is left after an offer, and what goes
module _ (v : View) (block : ℕ) where
  abbrev place : ℕ
  place = superblock_of v.setup.capacity block

  left_less : (cell : Cell) → times_held (offered v block) cell ≤ times_held v cell
  left_less used_cell = omega arith
  left_less (head_cell list) = omega arith
  left_less (info_cell d) = omega arith
  left_less (anchor_cell d) = omega arith
  left_less (link_cell d) = omega arith
  left_less (root_cell i) = chosen_less (λ n. true) i v.roots
  left_less (data_cell word) = let s = classes_less (λ b. not (nat_eq b block)) word 0 v.small in
      let l = spans_less (λ d. not (nat_eq d place)) (superblock_of v.setup.capacity word) v.large in omega arith
  left_less no_cell = omega arith

  sent_less : (cell : Cell) → times_held (carrier_of v block) cell ≤ times_held v cell
  sent_less used_cell = omega arith
  sent_less (head_cell list) = omega arith
  sent_less (info_cell d) = omega arith
  sent_less (anchor_cell d) = omega arith
  sent_less (link_cell d) = omega arith
  sent_less (root_cell i) = chosen_less (λ n. false) i v.roots
  sent_less (data_cell word) = let s = classes_less (λ b. nat_eq b block) word 0 v.small in
      let l = spans_less (λ d. nat_eq d place) (superblock_of v.setup.capacity word) v.large in omega arith
  sent_less no_cell = omega arith

  left_word : (word : ℕ) → IsHeldWord (offered v block) word → KeepsWord v (offered v block) word
  left_word word held = let p = trimmed_word rest word (owns_held rest word held) in record { volatile = p.volatile; durable = p.durable } where
    rest : View
    rest = record (offered v block) { volatile = v.volatile; durable = v.durable }

  sent_word : (word : ℕ) → IsHeldWord (carrier_of v block) word → KeepsWord v (carrier_of v block) word
  sent_word word held = let p = trimmed_word gone word (owns_held gone word held) in record { volatile = p.volatile; durable = p.durable } where
    gone : View
    gone = record (carrier_of v block) { volatile = v.volatile; durable = v.durable }

  offer_passes : (x : View) → Passes one_draw x v → Passes one_draw (record x { offers = x.offers + 1 }) (offered v block)
  offer_passes x p = record {
    setup = p.setup;
    roots = all_roots v.roots ∙ p.roots;
    role_is = ap (λ (r : Role). record r { offers = r.offers + 1 }) p.role_is;
    floor = p.floor;
    next = p.next;
    tickets = p.tickets;
    more = let m = p.more in record {
      draws = m.draws;
      wins = m.wins;
      losses = m.losses;
      gives = m.gives;
      moves = m.moves;
      cuts = m.cuts;
      taken = m.taken;
    };
    most = let m = p.most in record { draws = m.draws; wins = m.wins; gives = m.gives; cuts = m.cuts; taken = m.taken; moves = m.moves };
    looks = let l = p.looks in record { used = l.used; heads = l.heads; no_less = l.no_less };
  }

-- the marks of a seat that drew, and then offered or accepted
marks_same : (v u w : SeatView) → KeepsStores v u → KeepsStores u w → (word : ℕ) → IsMarked v.marks word → IsMarked w.marks word
marks_same v u w first next word marked = subst (λ m. IsMarked m word) (sym (next.marks ∙ first.marks)) marked

pub offer_row : (v u w : SeatView) (b : Block) → Row one_draw v u → HasDrawn v.view u.view → KeepsStores v u
    → w.view ≡ offered u.view b.first_word → KeepsStores u w → OfferRow v w
offer_row v u w b row drawn first is next = record {
  passes = subst (Passes one_draw (record v.view { offers = v.view.offers + 1 })) (sym is) (offer_passes u.view b.first_word v.view row.view.passes);
  words = λ word held. subst (λ x. KeepsWord (record v.view { offers = v.view.offers + 1 }) x word) (sym is)
      (kept word (subst (λ x. IsHeldWord x word) is held));
  marks = λ word held marked. inl (marks_same v u w first next word marked);
} where
  kept : (word : ℕ) → IsHeldWord (offered u.view b.first_word) word
      → KeepsWord (record v.view { offers = v.view.offers + 1 }) (offered u.view b.first_word) word
  kept word held =
      let less = left_less u.view b.first_word (cell_at u.view.setup.capacity word) in
      let before = row_held v.view u.view row.view word (omega arith) in
      let p = word_then v.view u.view (offered u.view b.first_word) word (drawn.words word (owns_held v.view word before))
      (left_word u.view b.first_word word held) in
      record { volatile = p.volatile; durable = p.durable }

pub offer_sent : (v u : View) (block : ℕ) (x : View) → ViewRow one_draw v u → HasDrawn v u → x ≡ carrier_of u block → GoesWith x v
offer_sent v u block x row drawn is = subst (λ y. GoesWith y v) (sym is) (record { words = kept }) where
  kept : (word : ℕ) → IsHeldWord (carrier_of u block) word → KeepsWord v (carrier_of u block) word
  kept word held =
      let less = sent_less u block (cell_at u.setup.capacity word) in
      let before = row_held v u row word (omega arith) in
      word_then v u (carrier_of u block) word (drawn.words word (owns_held v word before)) (sent_word u block word held)

-- what either of two lists has of a word
either_get : (xs ys : List (Option ℕ)) (n : ℕ) → n < length ys → get_or (either_of xs ys) n None ≡ either_known (get_or xs n None) (get_or ys n None)
either_get [] ys n below = refl
either_get (x ∷ xs) [] n below = absurd (omega arith)
either_get (x ∷ xs) (y ∷ ys) zero below = refl
either_get (x ∷ xs) (y ∷ ys) (suc n) below = either_get xs ys n (omega arith)

second_of : (x y : Option ℕ) → x ≡ None → either_known x y ≡ y
second_of x y none = ap (λ o. either_known o y) none

first_of : (x y : Option ℕ) → y ≡ None → either_known x y ≡ x
first_of None y none = none
first_of (Some n) y none = refl

-- nothing that would be known is so
none_known : (o : Option ℕ) → ((value : ℕ) → o ≡ Some value → ⊥) → o ≡ None
none_known None not = refl
none_known (Some value) not = absurd (not value refl)

-- a seat that accepted
module _ (v u : View) (capacity : v.setup.capacity ≡ u.setup.capacity) (carrier : IsCarrier u) (knows : KnowsItsOwn u) (has : HasSoundState v)
    (after : HasSoundState (accepted v u)) where
  no_raw : (d : ℕ) → times_raw d u ≡ 0
  no_raw d = let c = carrier.claims in ap (λ (p : List ℕ × (List ℕ × List ℕ)). times d p.0 + times d p.1.0 + times d p.1.1)
      (λ i. (c.0 i, (c.1 i, c.2 i)))

  own_both : (cell : Cell) → times_own v cell + times_own u cell ≤ times_own (accepted v u) cell
  own_both used_cell = omega arith
  own_both (head_cell list) = omega arith
  own_both (info_cell d) = let z = no_raw d in omega arith
  own_both (anchor_cell d) = let z = no_raw d in omega arith
  own_both (link_cell d) = let z = no_raw d in let c = ap (times_classed d) carrier.claims.3 in omega arith
  own_both (root_cell i) = let z = ap (times i) carrier.roots in omega arith
  own_both (data_cell word) =
      let s = both_within word 0 u.small v.small in
      let c = ap (times_in_classes word 0) carrier.free.0 in let b =
      ap (λ (x : Batch). times_within (words_of_class x.class) word x.blocks) carrier.free.1 in
      let l = large_append (superblock_of v.setup.capacity word) u.large v.large in let z = no_raw (superblock_of u.setup.capacity word) in
      let p = ap (λ n. times_large (superblock_of n word) u.large) capacity in omega arith
  own_both no_cell = omega arith

  -- no word is own to both
  not_both_own : (word : ℕ) → Owns v word → Owns u word → ⊥
  not_both_own word mine theirs =
      let cell = cell_at v.setup.capacity word in
      let most = once.own_once v.setup (memory_of v.setup.capacity after.words) after.views after.sound.good after.seat
      (accepted v u) after.below after.at cell in
      let sum = own_both cell in let same = ap (λ n. times_own u (cell_at n word)) capacity in omega arith

  -- so of the seat's words the carrier knows nothing, and of the carrier's the seat
  carrier_blank : (word : ℕ) → Owns v word → (get_or u.volatile word None ≡ None) × (get_or u.durable word None ≡ None)
  carrier_blank word mine = (
    none_known (get_or u.volatile word None) (λ value is. not_both_own word mine (knows.volatile word value is)),
    none_known (get_or u.durable word None) (λ value is. not_both_own word mine (knows.durable word value is)),
  )

  -- a word of the carrier's by its cell
  theirs_there : (word : ℕ) → Owns u word → (is_cell v.setup.capacity (cell_at v.setup.capacity word) ≡ true)
      × (index_of (cell_at v.setup.capacity word) ≡ word) × (word < image_words v.setup.capacity)
  theirs_there word theirs = (
    ap (λ n. is_cell n (cell_at n word)) capacity ∙ own_there u word theirs,
    ap (λ n. index_of (cell_at n word)) capacity ∙ own_index u word theirs,
    (let below = own_below u word theirs in omega arith),
  )

  seat_blank : (word : ℕ) → Owns u word → (get_or v.volatile word None ≡ None) × (get_or v.durable word None ≡ None)
  seat_blank word theirs =
      let there = theirs_there word theirs in let words = has.sound.good.words has.seat v has.below has.at in (
        none_known (get_or v.volatile word None) (λ value is. not_both_own word
            (words.volatile (cell_at v.setup.capacity word) value there.0 (ap (λ n. get_or v.volatile n None) there.1 ∙ is)).0 theirs),
        none_known (get_or v.durable word None) (λ value is. not_both_own word
            (words.durable (cell_at v.setup.capacity word) value there.0 (ap (λ n. get_or v.durable n None) there.1 ∙ is)).0 theirs),
      )

  pub kept_word : (word : ℕ) → Owns v word → KeepsWord v (accepted v u) word
  kept_word word mine = let blank = carrier_blank word mine in let below = own_below v word mine in let l = volatile_long v has in
      let k = durable_long v has in
      word_same v (accepted v u) word
      (either_get u.volatile v.volatile word (omega arith) ∙ second_of (get_or u.volatile word None) (get_or v.volatile word None) blank.0)
      (either_get u.durable v.durable word (omega arith) ∙ second_of (get_or u.durable word None) (get_or v.durable word None) blank.1)

  pub came_with : ComesWith u (accepted v u)
  came_with = record {
    seen = λ word held. let theirs = owns_held u word held in let below = (theirs_there word theirs).2 in let l = volatile_long v has in
        either_get u.volatile v.volatile word (omega arith) ∙ first_of (get_or u.volatile word None) (get_or v.volatile word None)
        (seat_blank word theirs).0;
    left = λ word held. let theirs = owns_held u word held in let below = (theirs_there word theirs).2 in let l = durable_long v has in
        either_get u.durable v.durable word (omega arith) ∙ first_of (get_or u.durable word None) (get_or v.durable word None)
        (seat_blank word theirs).1;
  }

  accept_passes : (x : View) → Passes one_draw x v → Passes one_draw (record x { accepts = x.accepts + 1 }) (accepted v u)
  accept_passes x p = record {
    setup = p.setup;
    roots = p.roots;
    role_is = ap (λ (r : Role). record r { accepts = r.accepts + 1 }) p.role_is;
    floor = p.floor;
    next = p.next;
    tickets = p.tickets;
    more = let m = p.more in record {
      draws = m.draws;
      wins = m.wins;
      losses = m.losses;
      gives = m.gives;
      moves = m.moves;
      cuts = m.cuts;
      taken = m.taken;
    };
    most = let m = p.most in record { draws = m.draws; wins = m.wins; gives = m.gives; cuts = m.cuts; taken = m.taken; moves = m.moves };
    looks = let l = p.looks in record { used = l.used; heads = l.heads; no_less = l.no_less };
  }

pub accept_row : (v u w : SeatView) (x : View) (b : Block) → Row one_draw v u → HasDrawn v.view u.view → KeepsStores v u → HasSoundState u.view
    → Carries u.view.setup.capacity x b → w.view ≡ accepted u.view x → KeepsStores u w → HasSoundState w.view
    → AcceptRow v w
accept_row v u w x b row drawn first has carries is next after = record {
  passes = subst (Passes one_draw (record v.view { accepts = v.view.accepts + 1 })) (sym is)
      (accept_passes u.view x (sym carries.capacity_is) carries.carrier carries.knows has (subst HasSoundState is after) v.view row.view.passes);
  words = λ word held. subst (λ y. KeepsWord (record v.view { accepts = v.view.accepts + 1 }) y word) (sym is) (kept word held);
  marks = λ word held marked. inl (marks_same v u w first next word marked);
} where
  kept : (word : ℕ) → IsHeldWord v.view word → KeepsWord (record v.view { accepts = v.view.accepts + 1 }) (accepted u.view x) word
  kept word held =
      let still = row_holds v.view u.view row.view word held in
      let p = word_then v.view u.view (accepted u.view x) word (drawn.words word (owns_held v.view word held))
      (kept_word u.view x (sym carries.capacity_is) carries.carrier carries.knows has (subst HasSoundState is after) word
      (owns_held u.view word still)) in
      record { volatile = p.volatile; durable = p.durable }

pub accept_brought : (u w x : View) (b : Block) → HasSoundState u → Carries u.setup.capacity x b → w ≡ accepted u x → HasSoundState w → ComesWith x w
accept_brought u w x b has carries is after = subst (ComesWith x) (sym is)
    (came_with u x (sym carries.capacity_is) carries.carrier carries.knows has (subst HasSoundState is after))
