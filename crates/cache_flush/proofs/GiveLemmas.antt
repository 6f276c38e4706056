-- What giving a batch leaves.
use Rattle.std.proofs.Common.{◌≡◌, ◌≢◌, ◌<◌, ◌≤◌, ℕ, zero, suc, ◌+◌, ◌-◌, ◌*◌, ◌⊎◌, inl, inr, Bool, true, false, cond, nat_eq, nat_le, nat_lt, length, Option, None, Some, refl, ap, sym, subst, ◌∙◌, eq-eqb, le-leb, lt-ltb, arith}
use Rattle.std.specs.Bool.{⊤}
use Rattle.std.specs.Prelude.{Result, Ok, Err}
use Rattle.std.specs.Result.{is_ok}
use Rattle.heap_model.specs.Counting.{times}
use Rattle.heap_model.specs.Geometry.{start_word, superblocks_end}
use Rattle.heap_model.specs.Sizes.{IsClass, words_of_class}
use Rattle.heap_model.specs.Words.{anchor_count, anchor_first, full_anchor}
use Rattle.heap_model.proofs.SizeLemmas.{two_words}
use Rattle.core_model.specs.declared.event.Event.TheVariants.{Give, Store}
use Rattle.core_model.specs.Cells.{data_cell, cell_at}
use Rattle.core_model.specs.Effects.{claimed, drew, given, last_of, lost, seen_of, seen_word, trimmed, used_up, won}
use Rattle.core_model.specs.Guards.{IsOwn}
use Rattle.core_model.specs.Memory.{memory_of, info}
use Rattle.core_model.specs.View.{Setup, Snapshot, View, no_batch, one_if_some, times_block}
use Rattle.core_model.proofs.PlaceLemmas.{and_is, cell_at_index, pick}
use Rattle.seat_state.proofs.EndLemmas.{last_there}
use Rattle.seat_state.proofs.BlockRanges.{within_word}
use Rattle.heap_rule.specs.Fences.{Owns}
use Rattle.heap_table.specs.Plays.{HasSoundState, IsEvent}
use Rattle.heap_rule.specs.Seated.{Tells}
use Rattle.heap_rule.specs.Shown.{Can, CanGive, CanStore, IsShownFor, Shows}
use Rattle.heap_rule.proofs.WordsLeftLemmas.{give_lost, give_won}
use Rattle.seat_index.proofs.ViewBlocks.{block_below, block_class, block_once, block_range}
use Rattle.superblock_lists.specs.Anchors.{anchor_seen}
use Rattle.cache_flush.specs.Gives.{Gives, GivesSeen, HasGiven, HasLinkedLast, HasNotGiven, IsBatchOf, given_parts, with_linked}
use Rattle.seat_costs.specs.Costs.{Costs, no_costs, one_draw, one_give}
use Rattle.seat_costs.specs.Rows.{HasDrawn, Parts, Stops, ViewRow, parts}
use Rattle.seat_costs.specs.Words.{IsHeldWord}
use Rattle.seat_costs.specs.Stores.{HasStored}
use Rattle.seat_costs.proofs.OnceLemmas.{not_held}
use Rattle.seat_costs.proofs.EventLemmas.{give_lost_row}
use Rattle.seat_costs.proofs.StoredLemmas.{drawn_as, may_store, not_held_at, stored_at}
use Rattle.seat_costs.proofs.RowLemmas.{stops_later, view_row_none, view_row_then, view_row_within}

-- the last block of the batch may lead to any other
module _ (v : View) (has : HasSoundState v) (d class last : ℕ) (batch : IsBatchOf d class last v) where
  there : 0 < times last v.batch.blocks
  there = subst (λ b. 0 < times b v.batch.blocks) batch.last_is (last_there v.batch.blocks batch.some)

  had : 0 < times_block last v
  had = let t = there in omega arith

  pub last_cell : cell_at v.setup.capacity last ≡ data_cell last
  last_cell = let range = block_range v has last had in cell_at_index v.setup.capacity (data_cell last)
      (and_is (nat_le (start_word v.setup.capacity 0) last) (nat_lt last (superblocks_end v.setup.capacity))
      (le-leb (start_word v.setup.capacity 0) last range.0) (lt-ltb last (superblocks_end v.setup.capacity) range.1))

  batch_class : IsClass v.batch.class
  batch_class = let of = (has.sound.good.blocks has.seat v has.below has.at).batched last there in
      subst IsClass (ap (info (memory_of v.setup.capacity has.words)) of.0 ∙ of.1) (block_class v has last had)

  pub batch_inside : d < v.setup.capacity
  batch_inside = let of = (has.sound.good.blocks has.seat v has.below has.at).batched last there in
      subst (λ n. n < v.setup.capacity) (of.0 ∙ batch.descriptor) (block_below v has last had)

  last_own : IsOwn v (data_cell last)
  last_own = let two = two_words v.batch.class batch_class in
      let within = within_word (words_of_class v.batch.class) last last v.batch.blocks there (omega arith) (omega arith) in omega arith

  can_last : (value : ℕ) → CanStore v (data_cell last) value
  can_last value = let once = block_once v has last in let t = there in record { uncached = omega arith; in_batch = inr (sym batch.last_is) }

  pub may_link_last : (first : ℕ) → IsShownFor v (Store last first)
  may_link_last first = may_store v last (data_cell last) last_cell first last_own (can_last first)

  pub last_not_held : IsHeldWord v last → ⊥
  last_not_held = not_held_at v last (data_cell last) last_cell (
      let two = two_words v.batch.class batch_class in
      let within = within_word (words_of_class v.batch.class) last last v.batch.blocks there (omega arith) (omega arith) in
      not_held v has last (omega arith)
      )

  pub last_linked : (first : ℕ) (w : View) → HasStored last first v w → HasLinkedLast last first v w
  last_linked first w stored = record {
    ran = stored.ran;
    going = stored.going;
    room = stored.room;
    more = let e = ap (λ (x : View). x.draws) left in omega arith;
    parts_are = ap parts left;
    anchor = ap (λ (x : View). x.seen_anchor) left;
    link = stored.seen;
  } where
    left : w ≡ record (used_up (drew v stored.ticket)) { volatile = w.volatile; durable = w.durable; batch = record v.batch { linked = false } }
    left = stored_at v last (data_cell last) last_cell w first stored ∙ ap (λ l. record (used_up (drew v stored.ticket)) {
      volatile = w.volatile;
      durable = w.durable;
      batch = record v.batch { linked = l };
    }) (pick (nat_eq last (last_of v.batch.blocks)) false v.batch.linked (eq-eqb last (last_of v.batch.blocks) (sym batch.last_is)))

-- the batch is given
pub can_give : (v u : View) (has : HasSoundState v) (d : ℕ) → HasDrawn v u → CanGive v d → Can u (Give d)
can_give v u has d drawn can = subst (λ (x : View). Can x (Give d)) (sym drawn.left) (record {
  going = drawn.went;
  ticket = refl;
  shown = record {
    batch = can.batch;
    some = can.some;
    is_seen = can.is_seen;
    of = can.of;
    linked = λ more. (drawn.words (last_of v.batch.blocks) (owned more)).volatile _ (can.linked more);
  };
}) where
  owned : anchor_count (seen_word v.seen_anchor) ≢ 0 → Owns v (last_of v.batch.blocks)
  owned more = let b : IsBatchOf d v.batch.class (last_of v.batch.blocks) v = record {
    descriptor = can.batch;
    class_is = refl;
    some = can.some;
    last_is = refl;
  } in
      subst (IsOwn v) (sym (last_cell v has d v.batch.class (last_of v.batch.blocks) b)) (last_own v has d v.batch.class (last_of v.batch.blocks) b)

given_from : (test : Bool) (class d ticket : ℕ) (v u w : View) → v.stopped ≡ None
    → w ≡ trimmed (cond test (claimed (record (won (drawn_as v ticket u)) { batch = no_batch; seen_anchor = None; gives = v.gives + 1 })
    d class) (record (won (drawn_as v ticket u)) { batch = no_batch; seen_anchor = None; gives = v.gives + 1 }))
    → HasGiven d class test v w
given_from true zero d ticket v u w going after = subst (HasGiven d zero true v) (sym after)
    (record { going = going; gave = omega arith; wins = refl; parts_are = refl; durable = λ _. omega arith })
given_from true (suc class) d ticket v u w going after = subst (HasGiven d (suc class) true v) (sym after)
    (record { going = going; gave = omega arith; wins = refl; parts_are = refl; durable = λ _. omega arith })
given_from false class d ticket v u w going after = subst (HasGiven d class false v) (sym after)
    (record { going = going; gave = omega arith; wins = refl; parts_are = refl; durable = λ no. absurd (cc) })

module _ (v u w : View) (d found : ℕ) (drawn : HasDrawn v u) (row : ViewRow one_draw v u) (event : IsEvent (Give d) u found w) where
  give_wins : found ≡ seen_word u.seen_anchor → HasGiven d v.batch.class (nat_eq (seen_word v.seen_anchor) full_anchor) v w
  give_wins same = given_from (nat_eq (seen_word v.seen_anchor) full_anchor) v.batch.class d drawn.ticket v u w drawn.went
      (give_won d u w found event same ∙ ap (λ (x : View). given x d) drawn.left)

  give_loses : found ≢ seen_word u.seen_anchor → HasNotGiven 1 v w
  give_loses other = record {
    ran = drawn.went;
    going = ap (λ (x : View). x.stopped) left ∙ drawn.went;
    room = drawn.room;
    more = let e = ap (λ (x : View). x.draws) left in omega arith;
    linked = v.batch.linked;
    parts_are = ap parts left;
    row = view_row_then v u w row (give_lost_row d u w found event other);
  } where
    left : w ≡ record (lost (drawn_as v drawn.ticket u) found) { seen_anchor = None }
    left = give_lost d u w found event other ∙ ap (λ (x : View). record (lost x found) { seen_anchor = None }) drawn.left

  pub exchanged : (won : Bool) (result : Result ⊤ ℕ) → Tells (seen_word u.seen_anchor) found result → won ≡ is_ok result → GivesSeen d won v w
  exchanged won (Ok x) told is = subst (λ b. GivesSeen d b v w) (sym is) (give_wins told)
  exchanged won (Err x) told is = subst (λ b. GivesSeen d b v w) (sym is) (give_loses told.1)

-- the same batch, by its parts
pub batch_still : (linked : Bool) (v w : View) (d class last : ℕ) → parts w ≡ with_linked linked (parts v) → IsBatchOf d class last v
    → IsBatchOf d class last w
batch_still linked v w d class last same batch = record {
  descriptor = ap (λ (p : Parts). p.batch.descriptor) same ∙ batch.descriptor;
  class_is = ap (λ (p : Parts). p.batch.class) same ∙ batch.class_is;
  some = subst (λ (p : Parts). 1 ≤ length p.batch.blocks) (sym same) batch.some;
  last_is = ap (λ (p : Parts). last_of p.batch.blocks) same ∙ batch.last_is;
}

-- no block was free
pub can_give_full : (v : View) (d class last found : ℕ) → IsBatchOf d class last v → v.seen_anchor ≡ anchor_seen d found → found ≡ full_anchor
    → CanGive v d
can_give_full v d class last found batch sees full = record {
  batch = batch.descriptor;
  some = batch.some;
  is_seen = ap one_if_some sees;
  of = ap seen_of sees;
  linked = λ more. absurd (more (ap anchor_count (ap seen_word sees ∙ full)));
}

-- some were, and the last one of the batch leads to the first of them
pub can_give_some : (v x : View) (d class last found first : ℕ) → IsBatchOf d class last v → v.seen_anchor ≡ anchor_seen d found
    → HasLinkedLast last first v x
    → first ≡ start_word v.setup.capacity d + anchor_first found * words_of_class class → CanGive x d
can_give_some v x d class last found first batch sees linked at = let b = batch_still false v x d class last linked.parts_are batch in record {
  batch = b.descriptor;
  some = b.some;
  is_seen = ap one_if_some (linked.anchor ∙ sees);
  of = ap seen_of (linked.anchor ∙ sees);
  linked = λ _. subst (λ n. Shows x (data_cell n) (start_word x.setup.capacity d + anchor_first
      (seen_word x.seen_anchor) * words_of_class x.batch.class)) (sym b.last_is)
      (subst (Shows x (data_cell last)) (at ∙ sym place) linked.link);
} where
  place : start_word x.setup.capacity d + anchor_first (seen_word x.seen_anchor)
      * words_of_class x.batch.class ≡ start_word v.setup.capacity d + anchor_first found * words_of_class class
  place = ap (λ (p : Parts). start_word p.setup.capacity d + anchor_first (seen_word x.seen_anchor) * words_of_class p.batch.class) linked.parts_are
      ∙ ap (λ (s : Option Snapshot). start_word v.setup.capacity d + anchor_first (seen_word s) * words_of_class v.batch.class) (linked.anchor ∙ sees)
      ∙ ap (λ n. start_word v.setup.capacity d + anchor_first found * words_of_class n) batch.class_is

-- the parts after a give don't tell how the batch was linked
given_linked : (linked full : Bool) (d class : ℕ) (p : Parts) → given_parts full d class (with_linked linked p) ≡ given_parts full d class p
given_linked linked true d class p = refl
given_linked linked false d class p = refl

pub given_later : {a : Costs} (linked : Bool) (v t w : View) (d class : ℕ) (full : Bool) → parts t ≡ with_linked linked (parts v) → a.wins ≡ 0
    → a.moves ≡ 0 → ViewRow a v t → HasGiven d class full t w → HasGiven d class full v w
given_later linked v t w d class full same unwon still row has = record {
  going = has.going;
  gave = let g = has.gave in
      let few = row.passes.more.gives in omega arith;
  wins = let e = has.wins in let least = row.passes.more.wins in
      let most = row.passes.most.wins in let moves = row.passes.most.moves in omega arith;
  parts_are = has.parts_are ∙ ap (given_parts full d class) same ∙ given_linked linked full d class (parts v);
  durable = has.durable;
}

pub not_given_later : {n : ℕ} (m : ℕ) (linked : Bool) (v t w : View) → v.stopped ≡ None → v.draws < v.setup.budget
    → parts t ≡ with_linked linked (parts v) → ViewRow (record no_costs { draws = n }) v t → HasNotGiven m t w → HasNotGiven (n + m) v w
not_given_later m linked v t w ran room same row has = record {
  ran = ran;
  going = has.going;
  room = room;
  more = let a = row.passes.more.draws in let b = has.more in omega arith;
  linked = has.linked;
  parts_are = has.parts_are ∙ ap (with_linked has.linked) same;
  row = view_row_then v t w row has.row;
}

pub gives_later : {n : ℕ} (m : ℕ) (linked : Bool) (v t w : View) (d class : ℕ) (answer : Option Bool) → v.stopped ≡ None
    → v.draws < v.setup.budget → parts t ≡ with_linked linked (parts v) → ViewRow (record no_costs { draws = n }) v t
    → Gives d class m answer t w → Gives d class (n + m) answer v w
gives_later m linked v t w d class None ran room same row has = not_given_later m linked v t w ran room same row has
gives_later m linked v t w d class (Some full) ran room same row has = given_later linked v t w d class full same refl refl row has

-- how far the tries have come
pub record Giving (d class last : ℕ) (v t : View) : Type 0 where
  pub row : ViewRow no_costs v t
  pub linked : Bool
  pub parts_are : parts t ≡ with_linked linked (parts v)
  pub both : t.stopped ≡ None → v.stopped ≡ None
  pub fresh : (t ≡ v) ⊎ (t.stopped ≡ None)
  pub batch : IsBatchOf d class last t

pub giving_begins : (v : View) (d class last : ℕ) → IsBatchOf d class last v → Giving d class last v v
giving_begins v d class last batch = record {
  row = view_row_none v;
  linked = v.batch.linked;
  parts_are = refl;
  both = λ ran. ran;
  fresh = inl refl;
  batch = batch;
}

pub giving_on : (v t w : View) (d class last : ℕ) → Giving d class last v t → HasNotGiven 3 t w → Giving d class last v w
giving_on v t w d class last giving missed = record {
  row = view_row_within no_costs v w (record {
    draws = omega arith;
    wins = omega arith;
    gives = omega arith;
    cuts = omega arith;
    taken = omega arith;
    moves = omega arith;
  }) (view_row_then v t w giving.row missed.row);
  linked = missed.linked;
  parts_are = missed.parts_are ∙ ap (with_linked missed.linked) giving.parts_are;
  both = λ ran. giving.both missed.ran;
  fresh = inr missed.going;
  batch = batch_still missed.linked t w d class last missed.parts_are giving.batch;
}

pub giving_less : (t w : View) → HasNotGiven 3 t w → w.setup.budget - w.draws < t.setup.budget - t.draws
giving_less t w missed = let same = ap (λ (k : Setup). k.budget) missed.row.passes.setup in let room = missed.room in let more = missed.more in
    omega arith

pub giving_stops : (v t w : View) (step d class last : ℕ) → Giving d class last v t → Stops step t w → Stops step v w
giving_stops v t w step d class last giving stop = elim giving.fresh [
  | inl same ↦ subst (λ u. Stops step u w) same stop
  | inr going ↦ stops_later v t w step (giving.both going) going giving.row stop
]

pub giving_row : (v t w : View) (d class last : ℕ) → Giving d class last v t → ViewRow (record one_give { draws = 3 }) t w
    → ViewRow (record one_give { draws = 3 }) v w
giving_row v t w d class last giving row = view_row_then v t w giving.row row

pub giving_done : (v t w : View) (d class last : ℕ) (full : Bool) → Giving d class last v t → HasGiven d class full t w → HasGiven d class full v w
giving_done v t w d class last full giving has = given_later giving.linked v t w d class full giving.parts_are refl refl giving.row has

-- what the anchor that was seen says
pub given_seen : (full : Bool) (v w : View) (d class last found : ℕ) → IsBatchOf d class last v → v.seen_anchor ≡ anchor_seen d found
    → nat_eq found full_anchor ≡ full → HasGiven d v.batch.class (nat_eq (seen_word v.seen_anchor) full_anchor) v w → HasGiven d class full v w
given_seen full v w d class last found batch sees is has =
    subst (λ test. HasGiven d class test v w) (ap (λ (s : Option Snapshot). nat_eq (seen_word s) full_anchor) sees ∙ is)
    (subst (λ n. HasGiven d n (nat_eq (seen_word v.seen_anchor) full_anchor) v w) batch.class_is has)
