-- A block that goes from a cache into the batch.
use Rattle.std.proofs.Common.{◌≡◌, ◌<◌, ◌≤◌, ℕ, ◌+◌, ◌-◌, ◌/◌, true, length, None, Some, refl, ap, sym, subst, ◌∙◌, arith}
use Rattle.std.specs.Bool.{⊤}
use Rattle.std.specs.Prelude.{Result, Ok, Err, OnOk, IfErr}
use Rattle.heap_model.specs.Geometry.{start_word, superblock_of}
use Rattle.heap_model.specs.Sizes.{IsClass}
use Rattle.heap_model.proofs.SizeLemmas.{two_words}
use Rattle.line_memory.specs.declared.memory.Stopped.{Stopped}
use Rattle.core_model.specs.declared.event.Event.TheVariants.{Load, Tick}
use Rattle.core_model.specs.declared.event.Shift.TheVariants.{Lift}
use Rattle.core_model.specs.Cells.{Cell, cell_at, data_cell}
use Rattle.core_model.specs.Effects.{drew, first_of, last_of, learn, rest_of, used_up}
use Rattle.core_model.specs.ViewAfter.{after_lift}
use Rattle.core_model.specs.Guards.{IsOwn}
use Rattle.core_model.specs.Memory.{memory_of, next}
use Rattle.core_model.specs.View.{View, Setup, of_class, times_block}
use Rattle.core_model.proofs.OwnerLemmas.{in_lists_total}
use Rattle.core_model.proofs.PlaceLemmas.{cell_at_index}
use Rattle.core_model.proofs.BlockLemmas.{first_there}
use Rattle.core_model.proofs.ClassListLemmas.{first_rest}
use Rattle.seat_state.proofs.EndLemmas.{last_there, rest_first}
use Rattle.seat_state.proofs.BlockRanges.{in_classes_word}
use Rattle.heap_rule.specs.Fences.{Owns}
use Rattle.heap_table.specs.Plays.{HasSoundState, IsEvent}
use Rattle.heap_rule.specs.Seated.{TellsDraw}
use Rattle.heap_rule.specs.Shown.{Can, CanLift, Shows}
use Rattle.heap_rule.proofs.RawLemmas.{load_shown}
use Rattle.seat_index.proofs.ViewBlocks.{block_cell, block_range}
use Rattle.seat_costs.specs.Draws.{Settles}
use Rattle.seat_costs.specs.Costs.{one_draw}
use Rattle.seat_costs.specs.Rows.{HasDrawn, Parts, Stops, ViewRow, parts}
use Rattle.seat_costs.specs.Words.{KeepsWord}
use Rattle.seat_costs.proofs.DrawLemmas.{early_words, shifted_is, stops}
use Rattle.seat_costs.proofs.StoreLemmas.{load_row}
use Rattle.seat_costs.proofs.RowLemmas.{stops_later, view_row_then}
use Rattle.seat_costs.proofs.WordLemmas.{learned_word, word_then}
use Rattle.superblock_lists.proofs.PopLemmas.{still_owns}
use Rattle.seat_costs.proofs.StoredLemmas.{drawn_as}
use Rattle.cache_flush.specs.Lifts.{HasLifted, with_lifted}

module _ (v : View) (has : HasSoundState v) (class : ℕ) (can : CanLift v class) where
  abbrev b : ℕ
  b = first_of (of_class v.caches class)

  cached : 0 < times_block b v
  cached = let t = in_lists_total b class v.caches (first_there (of_class v.caches class) can.cached) in omega arith

  pub first_cell : cell_at v.setup.capacity b ≡ data_cell b
  first_cell = cell_at_index v.setup.capacity (data_cell b) (block_cell v has b cached)

  pub first_own : Owns v b
  first_own = subst (IsOwn v) (sym first_cell)
      (let plus : class ≡ 0 + class = omega arith in let two = two_words (0 + class) (subst IsClass plus can.is_class) in
      let in_cache = in_classes_word b b 0 class v.caches (omega arith) (omega arith) (first_there (of_class v.caches class) can.cached) in omega arith)

  pub first_next : (s : HasSoundState v) → 1 ≤ length (rest_of (of_class v.caches class))
      → (memory_of v.setup.capacity s.words).volatile (cell_at v.setup.capacity b) ≡ first_of (rest_of (of_class v.caches class))
  first_next s some = ap (λ (cell : Cell). (memory_of v.setup.capacity s.words).volatile cell) first_cell
      ∙ sym (rest_first (next (memory_of v.setup.capacity s.words)) (of_class v.caches class)
      ((s.sound.good.blocks s.seat v s.below s.at).cache_linked class) some)

  last_shown : 1 ≤ length v.batch.blocks → Owns v (last_of v.batch.blocks)
  last_shown some = let there = last_there v.batch.blocks some in
      let is = block_cell v has (last_of v.batch.blocks) (omega arith) in
      subst (IsOwn v) (sym (cell_at_index v.setup.capacity (data_cell (last_of v.batch.blocks)) is))
      ((has.sound.good.words has.seat v has.below has.at).volatile (data_cell (last_of v.batch.blocks)) b is (can.linked some)).0

  -- it may still be lifted
  pub lift_still : (w : View) → parts w ≡ parts v → ((k : ℕ) → Owns v k → KeepsWord v w k) → CanLift w class
  lift_still w same words = record {
    is_class = can.is_class;
    cached = subst (λ (p : Parts). 1 ≤ length (of_class p.caches class)) (sym same) can.cached;
    same = subst (λ (p : Parts). 1 ≤ length p.batch.blocks → p.batch.descriptor ≡ superblock_of p.setup.capacity
        (first_of (of_class p.caches class))) (sym same) can.same;
    unchanged = subst (λ (p : Parts). 1 ≤ length p.batch.blocks → p.batch.linked ≡ true) (sym same) can.unchanged;
    linked = subst (λ (p : Parts). 1 ≤ length p.batch.blocks → Shows w (data_cell (last_of p.batch.blocks))
        (first_of (of_class p.caches class))) (sym same)
        (λ some. (words (last_of v.batch.blocks) (last_shown some)).volatile b (can.linked some));
  }

-- the load of the first block's first word
module _ (v u x : View) (has : HasSoundState v) (class found : ℕ) (can : CanLift v class) (drawn : HasDrawn v u) (row : ViewRow one_draw v u)
    (event : IsEvent (Load (first_of (of_class v.caches class))) u found x) where
  abbrev at : ℕ
  at = first_of (of_class v.caches class)

  u_parts : parts u ≡ parts v
  u_parts = ap parts drawn.left

  can_u : CanLift u class
  can_u = lift_still v has class can u u_parts drawn.words

  x_is : x ≡ record (used_up (drawn_as v drawn.ticket u)) { volatile = learn u.volatile at found }
  x_is = event.after ∙ ap (λ (y : View). record (used_up y) { volatile = learn u.volatile at found }) drawn.left

  pub x_parts : parts x ≡ parts v
  x_parts = ap parts x_is

  pub x_going : x.stopped ≡ None
  x_going = ap (λ (y : View). y.stopped) x_is ∙ drawn.went

  x_words : (k : ℕ) → Owns v k → KeepsWord v x k
  x_words k own = subst (λ y. KeepsWord v y k) (sym event.after) (word_then v u (record (used_up u) { volatile = learn u.volatile at found }) k
      (drawn.words k own)
      (let p = learned_word u event.before at found event.may.ready event.found_is k in record { volatile = p.volatile; durable = p.durable }))

  pub x_can : CanLift x class
  x_can = lift_still v has class can x x_parts x_words

  pub x_row : ViewRow one_draw v x
  x_row = view_row_then v u x row (load_row at u x found event)

  -- the word leads to the next block
  pub x_link : 1 ≤ length (rest_of (of_class v.caches class)) → Shows x (data_cell at) (first_of (rest_of (of_class v.caches class)))
  x_link some = subst (λ (cell : Cell). Shows x cell (first_of (rest_of (of_class v.caches class)))) here
      (load_shown at found u x event ∙ ap Some is) where
        same_cache : of_class u.caches class ≡ of_class v.caches class
        same_cache = ap (λ (p : Parts). of_class p.caches class) u_parts

        here : cell_at u.setup.capacity at ≡ data_cell at
        here = ap (λ (k : Setup). cell_at k.capacity at) (ap (λ (p : Parts). p.setup) u_parts) ∙ first_cell v has class can

        is : found ≡ first_of (rest_of (of_class v.caches class))
        is = event.found_is
            ∙ ap (λ n. (memory_of u.setup.capacity event.before.words).volatile (cell_at u.setup.capacity n)) (ap first_of (sym same_cache))
            ∙ first_next u event.before class can_u event.before (subst (λ bs. 1 ≤ length (rest_of bs)) (sym same_cache) some)
            ∙ ap (λ bs. first_of (rest_of bs)) same_cache

  -- the draw with the change
  module _ (early w : View) (ticket : ℕ) (settles : Settles x early) (shift : IsEvent (Tick (Some (Lift class))) early ticket w) where
    w_is : w.stopped ≡ None → w ≡ after_lift (record (drew x ticket) { volatile = early.volatile; durable = early.durable }) class
    w_is going = shifted_is x early settles (Some (Lift class)) w ticket shift going

    pub lifted : w.stopped ≡ None → HasLifted class at v w
    lifted going = record {
      ran = drawn.went;
      going = going;
      room = drawn.room;
      more = let a = ap (λ (y : View). y.draws) (w_is going) in let c = ap (λ (y : View). y.draws) x_is in omega arith;
      parts_are = ap parts (w_is going)
          ∙ ap (λ (p : Parts). with_lifted class (first_of (of_class p.caches class)) p) x_parts;
      link = λ some. subst (λ y. Shows y (data_cell at) (first_of (rest_of (of_class v.caches class)))) (sym (w_is going))
          ((early_words x early settles at (still_owns v x x_parts at (first_own v has class can))).volatile
          (first_of (rest_of (of_class v.caches class))) (x_link some));
    }

    pub lift_told : (result : Result ⊤ Stopped) → TellsDraw w result → OnOk result (HasLifted class at v w)
    lift_told (Ok y) going = lifted going
    lift_told (Err e) told = tt

    pub lift_stopped : (result : Result ⊤ Stopped) → TellsDraw w result → IfErr result (λ e. Stops e.step v w)
    lift_stopped (Ok y) going = tt
    lift_stopped (Err e) told = stops_later v x w e.step drawn.went x_going x_row
        (stops x early settles (Some (Lift class)) w ticket shift e.step x_going told)

-- what the calls ask
pub can_load : (v u : View) (has : HasSoundState v) (class first : ℕ) → CanLift v class → HasDrawn v u
    → first ≡ first_of (of_class v.caches class) → Can u (Load first)
can_load v u has class first can drawn is = subst (λ y. Can y (Load first)) (sym drawn.left) (record {
  going = drawn.went;
  ticket = refl;
  shown = subst (λ n. IsOwn (drawn_as v drawn.ticket u) (cell_at v.setup.capacity n)) (sym is)
      (still_owns v (drawn_as v drawn.ticket u) refl (first_of (of_class v.caches class)) (first_own v has class can));
})

-- a cached block lies among the words of superblocks
pub above : (v : View) → HasSoundState v → (class : ℕ) → 1 ≤ length (of_class v.caches class)
    → start_word v.setup.capacity 0 ≤ first_of (of_class v.caches class)
above v has class some = (block_range v has (first_of (of_class v.caches class))
    (let t = in_lists_total (first_of (of_class v.caches class)) class v.caches (first_there (of_class v.caches class) some) in omega arith)).0

pub at_superblock : (c word start : ℕ) → start ≡ start_word c 0 → (word - start) / 8192 ≡ superblock_of c word
at_superblock c word start is = ap (λ s. (word - s) / 8192) is
