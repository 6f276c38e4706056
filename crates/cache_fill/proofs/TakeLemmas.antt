-- What the taking of all free blocks of a superblock leaves.
use Rattle.std.proofs.Common.{◌≡◌, ◌≢◌, ◌<◌, ◌≤◌, ◌-◌, ◌⊎◌, inl, inr, ℕ, Bool, true, false, List, [], length, None, refl, ap, sym, subst, ◌∙◌, arith}
use Rattle.std.specs.Bool.{⊤}
use Rattle.std.specs.Prelude.{Result, Ok, Err}
use Rattle.std.specs.Result.{is_ok}
use Rattle.std.proofs.lemmas.Bool.{cases_eq}
use Rattle.heap_model.specs.Sizes.{blocks_of}
use Rattle.heap_model.specs.Words.{anchor_count, anchor_state}
use Rattle.core_model.specs.declared.event.Event.TheVariants.{TakeAll}
use Rattle.core_model.specs.Effects.{claim_class, lost, seen_word}
use Rattle.core_model.specs.Guards.{MayTakeAll}
use Rattle.core_model.specs.Memory.{Memory, anchor, info, memory_of, next}
use Rattle.core_model.specs.Sound.{IsAnchoredBy, tally_of, times_cut}
use Rattle.core_model.specs.View.{Setup, View, of_class, times_classed}
use Rattle.core_model.proofs.TotalLemmas.{total_at}
use Rattle.heap_rule.specs.Seated.{Tells}
use Rattle.heap_rule.specs.Shown.{Can}
use Rattle.seat_index.proofs.ExchangeLemmas.{chain_length}
use Rattle.heap_rule.proofs.WordsLeftLemmas.{take_all_lost}
use Rattle.seat_index.proofs.OwnedTaken.{cache_taken, taken_blocks, taken_short, took}
use Rattle.heap_table.specs.Plays.{IsEvent}
use Rattle.cache_fill.specs.Takes.{HasNotTaken, HasTakenFree, TakesFree, TakesSeen, with_taken}
use Rattle.superblock_lists.specs.Anchors.{HasSeenAnchor}
use Rattle.superblock_lists.specs.Pushes.{IsClaimOf}
use Rattle.seat_costs.specs.Costs.{Costs, no_costs, one_draw, one_win}
use Rattle.seat_costs.specs.Rows.{HasDrawn, Parts, Stops, ViewRow, parts}
use Rattle.seat_costs.proofs.EventLemmas.{take_all_lost_row}
use Rattle.seat_costs.proofs.StoredLemmas.{drawn_as}
use Rattle.seat_costs.proofs.RowLemmas.{stops_later, view_row_none, view_row_then, view_row_within}

pub can_take : (v u : View) (d : ℕ) → HasDrawn v u → MayTakeAll v d → Can u (TakeAll d)
can_take v u d drawn may = subst (λ (x : View). Can x (TakeAll d)) (sym drawn.left) (record {
  going = drawn.went;
  ticket = refl;
  shown = record { claimed = may.claimed; is_seen = may.is_seen; of = may.of; partial = may.partial; uncached = may.uncached };
})

-- some blocks were free, and not all: so says the anchor that was found
module _ (v w : View) (d found : ℕ) (event : IsEvent (TakeAll d) v found w) (same : found ≡ seen_word v.seen_anchor) where
  abbrev m : Memory
  m = memory_of v.setup.capacity event.before.words

  abbrev cut_class : ℕ
  cut_class = claim_class d v.classed

  abbrev blocks : List ℕ
  blocks = taken_blocks v w d found event same

  word_is : anchor m d ≡ seen_word v.seen_anchor
  word_is = sym event.found_is ∙ same

  cut_there : 0 < times_cut event.before.sound.good.shape (tally_of event.before.views) d
  cut_there = let c = event.may.ready.claimed in let t = total_at
      (λ (x : View). times_classed d x.classed) event.before.views event.before.seat v event.before.below event.before.at in omega arith

  info_is : info m d ≡ cut_class
  info_is = ((event.before.sound.good.claims event.before.seat v event.before.below event.before.at).is_classed d event.may.ready.claimed).1

  anchored : IsAnchoredBy (next m) v.setup.capacity cut_class d (seen_word v.seen_anchor) (event.before.sound.good.shape.chains d)
  anchored = subst (λ a. IsAnchoredBy (next m) v.setup.capacity cut_class d a (event.before.sound.good.shape.chains d)) word_is
      (subst (λ n. IsAnchoredBy (next m) v.setup.capacity n d (anchor m d) (event.before.sound.good.shape.chains d)) info_is
      (event.before.sound.good.shaped.chained.anchored d cut_there))

  count_is : length blocks ≡ length (event.before.sound.good.shape.chains d)
  count_is = chain_length (next m) _ (anchor_count (seen_word v.seen_anchor)) ∙ anchored.count

  pub some_taken : 1 ≤ length blocks
  some_taken = elim (cases_eq (length blocks) 0) [
    | inl none ↦ absurd (let full = ap anchor_state (anchored.full.1 (sym count_is ∙ none)) in let partial = event.may.ready.partial in
        omega (arith, full, partial))
    | inr some ↦ omega (arith, some)
  ]

  pub few_taken : length blocks < blocks_of cut_class
  few_taken = elim (cases_eq (length blocks) (blocks_of cut_class)) [
    | inl all ↦ absurd (let empty = anchored.empty.1 (sym count_is ∙ all) in let partial = event.may.ready.partial in omega (arith, empty, partial))
    | inr apart ↦ let most = subst (λ l. length l ≤ blocks_of cut_class) (cache_taken v w d found event same)
        (taken_short v w d found event same cut_class refl) in omega (arith, apart)
  ]

module _ (v u w : View) (d class found : ℕ) (drawn : HasDrawn v u) (claim : IsClaimOf class d v) (event : IsEvent (TakeAll d) u found w) where
  class_is : claim_class d u.classed ≡ class
  class_is = ap (λ (x : View). claim_class d x.classed) drawn.left ∙ claim.of

  take_wins : found ≡ seen_word u.seen_anchor → HasTakenFree d class v w
  take_wins same = record {
    going = ap (λ (x : View). x.stopped) (took u w d found event same) ∙ ap (λ (x : View). x.stopped) drawn.left ∙ drawn.went;
    blocks = blocks u w d found event same;
    some = some_taken u w d found event same;
    few = subst (λ n. length (blocks u w d found event same) < blocks_of n) class_is (few_taken u w d found event same);
    parts_are = ap parts (took u w d found event same)
        ∙ ap (λ n. with_taken d n (blocks u w d found event same) (parts u)) class_is
        ∙ ap (λ (x : View). with_taken d class (blocks u w d found event same) (parts x)) drawn.left;
  }

  take_loses : ViewRow one_draw v u → found ≢ seen_word u.seen_anchor → HasNotTaken 1 v w
  take_loses row other = record {
    ran = drawn.went;
    going = ap (λ (x : View). x.stopped) left ∙ drawn.went;
    room = drawn.room;
    more = let e = ap (λ (x : View). x.draws) left in omega arith;
    parts_are = ap parts left;
    row = view_row_then v u w row (take_all_lost_row d u w found event other);
  } where
    left : w ≡ record (lost (drawn_as v drawn.ticket u) found) { seen_anchor = None }
    left = take_all_lost d u w found event other ∙ ap (λ (x : View). record (lost x found) { seen_anchor = None }) drawn.left

  pub exchanged : ViewRow one_draw v u → (won : Bool) (result : Result ⊤ ℕ) → Tells (seen_word u.seen_anchor) found result → won ≡ is_ok result
      → TakesSeen d class won v w
  exchanged row won (Ok x) told is = subst (λ b. TakesSeen d class b v w) (sym is) (take_wins told)
  exchanged row won (Err x) told is = subst (λ b. TakesSeen d class b v w) (sym is) (take_loses row told.1)

-- said of an earlier view
pub uncached_still : (v t : View) (class : ℕ) → parts t ≡ parts v → of_class v.caches class ≡ [] → of_class t.caches class ≡ []
uncached_still v t class same none = ap (λ (p : Parts). of_class p.caches class) same ∙ none

pub taken_later : (v t w : View) (d class : ℕ) → parts t ≡ parts v → HasTakenFree d class t w → HasTakenFree d class v w
taken_later v t w d class same taken = record {
  going = taken.going;
  blocks = taken.blocks;
  some = taken.some;
  few = taken.few;
  parts_are = taken.parts_are ∙ ap (with_taken d class taken.blocks) same;
}

pub not_taken_later : (v t w : View) (d found : ℕ) → HasSeenAnchor d found v t → ViewRow one_draw v t → HasNotTaken 1 t w → HasNotTaken 2 v w
not_taken_later v t w d found seen row missed = record {
  ran = seen.ran;
  going = missed.going;
  room = seen.room;
  more = let x = seen.more in let y = missed.more in omega arith;
  parts_are = missed.parts_are ∙ seen.parts_are;
  row = view_row_then v t w row missed.row;
}

-- how far the tries have come
pub record Taking (costs : Costs) (v t : View) : Type 0 where
  pub row : ViewRow costs v t
  pub parts_are : parts t ≡ parts v
  pub both : t.stopped ≡ None → v.stopped ≡ None
  pub fresh : (t ≡ v) ⊎ (t.stopped ≡ None)

pub taking_begins : (v : View) → Taking no_costs v v
taking_begins v = record { row = view_row_none v; parts_are = refl; both = λ ran. ran; fresh = inl refl }

pub taking_on : (v t w : View) → Taking no_costs v t → HasNotTaken 2 t w → Taking no_costs v w
taking_on v t w taking missed = record {
  row = view_row_within no_costs v w (record {
    draws = omega arith;
    wins = omega arith;
    gives = omega arith;
    cuts = omega arith;
    taken = omega arith;
    moves = omega arith;
  }) (view_row_then v t w taking.row missed.row);
  parts_are = missed.parts_are ∙ taking.parts_are;
  both = λ ran. taking.both missed.ran;
  fresh = inr missed.going;
}

pub taking_less : (t w : View) → HasNotTaken 2 t w → w.setup.budget - w.draws < t.setup.budget - t.draws
taking_less t w missed = let same = ap (λ (k : Setup). k.budget) missed.row.passes.setup in let room = missed.room in let more = missed.more in
    omega arith

pub taking_stops : {a : Costs} (v t w : View) (step : ℕ) → Taking a v t → Stops step t w → Stops step v w
taking_stops v t w step taking stop = elim taking.fresh [
  | inl same ↦ subst (λ u. Stops step u w) same stop
  | inr going ↦ stops_later v t w step (taking.both going) going taking.row stop
]

pub taking_row : (v t w : View) → Taking no_costs v t → ViewRow (record one_win { draws = 2 }) t w → ViewRow (record one_win { draws = 2 }) v w
taking_row v t w taking row = view_row_then v t w taking.row row

pub taking_done : (v t w : View) (d class : ℕ) (taken : Bool) → Taking no_costs v t → TakesFree d class taken t w → TakesFree d class taken v w
taking_done v t w d class true taking has = taken_later v t w d class taking.parts_are has
taking_done v t w d class false taking has = record {
  going = has.going;
  parts_are = has.parts_are ∙ taking.parts_are;
  empty = has.empty;
  row = view_row_then v t w taking.row has.row;
}

pub none_row : (v w : View) (d class : ℕ) (taken : Bool) → TakesFree d class taken v w → taken ≡ false → ViewRow one_draw v w
none_row v w d class taken has none = (subst (λ b. TakesFree d class b v w) none has).row
