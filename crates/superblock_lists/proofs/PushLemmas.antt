-- What a push on a list leaves.
use Rattle.std.proofs.Common.{◌≡◌, ◌≢◌, ◌<◌, ◌≤◌, ℕ, ◌+◌, ◌-◌, ◌⊎◌, inl, inr, Bool, true, false, cond, nat_eq, nat_lt, Option, None, Some, refl, ap, sym, subst, ◌∙◌, lt-ltb, arith}
use Rattle.std.specs.Bool.{⊤}
use Rattle.std.specs.Prelude.{Result, Ok, Err}
use Rattle.std.specs.Result.{is_ok}
use Rattle.heap_model.specs.Counting.{times, without}
use Rattle.heap_model.specs.Geometry.{anchor_word, link_word}
use Rattle.heap_model.specs.Words.{anchor_state, head_first}
use Rattle.core_model.specs.declared.event.Event.TheVariants.{Push, Store}
use Rattle.core_model.specs.Cells.{Cell, anchor_cell, link_cell, cell_at}
use Rattle.core_model.specs.Effects.{claim_class, drew, lost, pushed, pushed_raw, pushed_classed, seen_of, seen_word, stored, used_up, without_claim, won}
use Rattle.core_model.specs.Guards.{IsFreelyClaimed, IsOwn, IsThere}
use Rattle.core_model.specs.Memory.{memory_of, used}
use Rattle.core_model.specs.View.{Setup, Snapshot, View, times_raw, times_classed}
use Rattle.core_model.proofs.OwnLemmas.{one_at_most}
use Rattle.core_model.proofs.SoundLemmas.{taken}
use Rattle.core_model.proofs.TotalLemmas.{total_at}
use Rattle.heap_rule.specs.Fences.{Owns}
use Rattle.heap_table.specs.Plays.{HasSoundState, IsEvent}
use Rattle.heap_rule.specs.Seated.{Tells}
use Rattle.heap_rule.specs.Shown.{Can, CanList, IsShownFor, Shows, ShowsEmpty, by_claim, by_anchor, by_look, as_free, of_its_class}
use Rattle.heap_rule.proofs.WordsLeftLemmas.{push_won, push_lost}
use Rattle.superblock_lists.specs.Pops.{SeesHead}
use Rattle.superblock_lists.specs.Pushes.{HasMissed, HasPushed, HasSetLink, Pushes, SeesLinked, moved_by, without_claim_of}
use Rattle.superblock_lists.proofs.PopLemmas.{still_owns}
use Rattle.seat_costs.specs.Costs.{no_costs, one_draw, one_push}
use Rattle.seat_costs.specs.Rows.{HasDrawn, Parts, Stops, ViewRow, parts}
use Rattle.seat_costs.specs.Words.{IsHeldWord, KeepsWord, seen_at}
use Rattle.seat_costs.proofs.EventLemmas.{move_row, push_lost_row, push_row}
use Rattle.seat_costs.proofs.RowLemmas.{stops_later, view_row_none, view_row_then, view_row_within}
use Rattle.seat_costs.proofs.StoredLemmas.{drawn_as, may_store, not_held_at, stored_at}
use Rattle.seat_costs.proofs.WordLemmas.{anchor_at, link_at, word_then}
use Rattle.seat_costs.specs.Stores.{HasStored}

-- a superblock that may be listed is claimed, and its blocks are not being made
pub freely : (v : View) → HasSoundState v → (d list : ℕ) → CanList v d list → IsFreelyClaimed v d
freely v s d list (as_free free empty) = free
freely v s d list (of_its_class class is classed of) =
    let raw = total_at (times_raw d) s.views s.seat v s.below s.at in
    let mine = total_at (λ (x : View). times_classed d x.classed) s.views s.seat v s.below s.at in
    let p = s.sound.good.shaped.placed.one_place d in
    let one = one_at_most (nat_lt d (used (memory_of v.setup.capacity s.words))) in record { claimed = omega arith; not_cutting = omega arith }

module _ (v : View) (has : HasSoundState v) (d : ℕ) (free : IsFreelyClaimed v d) where
  pub inside : d < v.setup.capacity
  inside = taken v.setup (memory_of v.setup.capacity has.words) has.views has.seat v has.below has.at has.sound.good d free.claimed

  pub link_is : cell_at v.setup.capacity (link_word d) ≡ link_cell d
  link_is = link_at v.setup.capacity d inside

  -- its link is stored to
  module _ (word : ℕ) (at : word ≡ link_word d) where
    is_link : cell_at v.setup.capacity word ≡ link_cell d
    is_link = ap (cell_at v.setup.capacity) at ∙ link_is

    pub may_link : (first : ℕ) → IsShownFor v (Store word first)
    may_link first = may_store v word (link_cell d) is_link first free.claimed free.not_cutting

    pub link_not_held : IsHeldWord v word → ⊥
    link_not_held = not_held_at v word (link_cell d) is_link refl

    pub link_set : (first : ℕ) (w : View) → HasStored word first v w → HasSetLink d first v w
    link_set first w stored = record {
      ran = stored.ran;
      going = stored.going;
      parts_are = ap parts left;
      losses = ap (λ (x : View). x.losses) left;
      head = ap (λ (x : View). x.seen_head) left;
      anchor = ap (λ (x : View). x.seen_anchor) left;
      floor = ap (λ (x : View). x.floor) left;
      link = subst (λ n. seen_at w n ≡ Some first) at stored.seen;
      words = λ k other own. stored.words k (λ is. other (is ∙ at)) own;
    } where
      left : w ≡ record (used_up (drew v stored.ticket)) { volatile = w.volatile; durable = w.durable }
      left = stored_at v word (link_cell d) is_link w first stored

  -- what is known of the anchor is known of an own word, and is known as long as that is kept
  anchor_shown : (x : ℕ) → Shows v (anchor_cell d) x → Owns v (anchor_word d)
  anchor_shown x shows = subst (λ (cell : Cell). IsOwn v cell) (sym (anchor_at v.setup.capacity d inside))
      ((has.sound.good.words has.seat v has.below has.at).volatile (anchor_cell d) x (lt-ltb d v.setup.capacity inside) shows).0

  still_empty : (w : View) → parts w ≡ parts v → w.seen_anchor ≡ v.seen_anchor → ((k : ℕ) → k ≢ link_word d → Owns v k → KeepsWord v w k)
      → ShowsEmpty v d → ShowsEmpty w d
  still_empty w same anchor words (by_claim raw) = by_claim (subst (λ (p : Parts). 0 < times d p.raw) (sym same) raw)
  still_empty w same anchor words (by_anchor x shows empty) = by_anchor x
      ((words (anchor_word d) (λ e. omega (arith, e)) (anchor_shown x shows)).volatile x shows) empty
  still_empty w same anchor words (by_look classed is_seen of empty) = by_look
      (subst (λ (p : Parts). 0 < times_classed d p.classed) (sym same) classed)
      (subst (λ (s : Option Snapshot). IsThere s) (sym anchor) is_seen)
      (ap seen_of anchor ∙ of)
      (ap (λ (s : Option Snapshot). anchor_state (seen_word s)) anchor ∙ empty)

pub freely_still : (v w : View) (d : ℕ) → parts w ≡ parts v → IsFreelyClaimed v d → IsFreelyClaimed w d
freely_still v w d same free = record {
  claimed = subst (λ (p : Parts). 0 < times d p.raw + times d p.split + times d p.cutting + times_classed d p.classed) (sym same) free.claimed;
  not_cutting = subst (λ (p : Parts). times d p.cutting ≡ 0) (sym same) free.not_cutting;
}

-- it may still be listed
pub can_still : (v w : View) → HasSoundState v → (d list : ℕ) → parts w ≡ parts v → w.seen_anchor ≡ v.seen_anchor
    → ((k : ℕ) → k ≢ link_word d → Owns v k → KeepsWord v w k) → CanList v d list → CanList w d list
can_still v w has d list same anchor words (as_free free empty) =
    as_free (freely_still v w d same free) (still_empty v has d free w same anchor words empty)
can_still v w has d list same anchor words (of_its_class class is classed of) = of_its_class class is
    (subst (λ (p : Parts). 0 < times_classed d p.classed) (sym same) classed)
    (ap (λ (p : Parts). claim_class d p.classed) same ∙ of)

-- after the head and the link
pub sees_linked : (v t u : View) (list d head first : ℕ) → SeesHead list head v t → first ≡ head_first head → HasSetLink d first t u
    → SeesLinked list d u
sees_linked v t u list d head first seen is link = record { head = head; is_seen = link.head ∙ seen.is_seen; link = link.link ∙ ap Some is }

pub can_later : (v t u : View) → HasSoundState v → (list d head first : ℕ) → SeesHead list head v t → HasSetLink d first t u → CanList v d list
    → CanList u d list
can_later v t u has list d head first seen link can = can_still v u has d list (link.parts_are ∙ seen.goes_on.parts_are) (link.anchor
    ∙ seen.goes_on.anchor)
    (λ k other own. word_then v t u k (seen.goes_on.words k own) (link.words k other (still_owns v t seen.goes_on.parts_are k own))) can

module _ (v : View) (has : HasSoundState v) (d : ℕ) where
  drawn_pushes : (ticket list : ℕ) (u : View) → v.stopped ≡ None → ((k : ℕ) → Owns v k → KeepsWord v u k) → d < v.floor → SeesLinked list d v
      → CanList v d list → Can (drawn_as v ticket u) (Push d)
  drawn_pushes ticket list u going words durable sees can = record {
    going = going;
    ticket = refl;
    shown = record {
      is_seen = subst (λ (s : Option Snapshot). IsThere s) (sym sees.is_seen) refl;
      durable = durable;
      linked = (words (link_word d) owned).volatile (head_first (seen_word v.seen_head)) (sees.link
          ∙ ap (λ (s : Option Snapshot). Some (head_first (seen_word s))) (sym sees.is_seen));
      listed = subst (CanList (drawn_as v ticket u) d) (sym (ap seen_of sees.is_seen))
          (can_still v (drawn_as v ticket u) has d list refl refl (λ k other own. let p = words k own in
          record { volatile = p.volatile; durable = p.durable }) can);
    };
  } where
    free : IsFreelyClaimed v d
    free = freely v has d list can

    owned : Owns v (link_word d)
    owned = subst (λ (cell : Cell). IsOwn v cell) (sym (link_is v has d free)) free.claimed

  pub can_push : (u : View) (list : ℕ) → HasDrawn v u → d < v.floor → SeesLinked list d v → CanList v d list → Can u (Push d)
  can_push u list drawn durable sees can = subst (λ (x : View). Can x (Push d)) (sym drawn.left)
      (drawn_pushes drawn.ticket list u drawn.went drawn.words durable sees can)

  module _ (u w : View) (list found : ℕ) (drawn : HasDrawn v u) (row : ViewRow one_draw v u) (sees : SeesLinked list d v)
      (event : IsEvent (Push d) u found w) where
    pushed_parts : (test : Bool) (x : View) → x ≡ cond test (pushed_raw (drawn_as v drawn.ticket u) d) (pushed_classed (drawn_as v drawn.ticket u) d)
        → (x.stopped ≡ v.stopped) × (parts x ≡ cond test (record (parts v) { raw = without d v.raw; split = without d v.split })
        (record (parts v) { classed = without_claim d v.classed }))
    pushed_parts true x is = (ap (λ (y : View). y.stopped) is, ap parts is)
    pushed_parts false x is = (ap (λ (y : View). y.stopped) is, ap parts is)

    moves_by : (free : Bool) (n : ℕ) → cond free (n + 1) n ≡ n + cond free 1 0
    moves_by true n = refl
    moves_by false n = omega arith

    pushed_moves : (test : Bool) (x : View) → x ≡ cond test (pushed_raw (drawn_as v drawn.ticket u) d) (pushed_classed (drawn_as v drawn.ticket u) d)
        → x.moves ≡ v.moves + cond test 0 (cond (nat_eq list 0) 1 0)
    pushed_moves true x is = ap (λ (y : View). y.moves) is ∙ (let e : v.moves ≡ v.moves + 0 = omega arith in e)
    pushed_moves false x is = ap (λ (y : View). y.moves) is
        ∙ ap (λ i. cond (nat_eq i 0) (v.moves + 1) v.moves) (ap seen_of sees.is_seen) ∙ moves_by (nat_eq list 0) v.moves

    pub push_wins : found ≡ seen_word u.seen_head → HasPushed list d 1 v w
    push_wins same = record {
      going = shape.0 ∙ drawn.went;
      parts_are = shape.1;
      moves = pushed_moves (nat_lt 0 (times d v.raw + times d v.split)) w (won_is ∙ ap (λ (x : View). pushed x d) drawn.left);
      row = view_row_then v u w row (push_row d u w found event);
      moved = λ free none. view_row_then v u w row (move_row d u w won_is
          (let e = ap (λ (x : View). times d x.raw + times d x.split) drawn.left in omega arith)
          (ap (λ (x : View). seen_of x.seen_head) drawn.left ∙ ap seen_of sees.is_seen ∙ free));
    } where
      won_is : w ≡ pushed u d
      won_is = push_won d u w found event same

      shape : (w.stopped ≡ v.stopped) × (parts w ≡ without_claim_of d (parts v))
      shape = pushed_parts (nat_lt 0 (times d v.raw + times d v.split)) w (won_is ∙ ap (λ (x : View). pushed x d) drawn.left)

    pub push_loses : HasSoundState v → CanList v d list → found ≢ seen_word u.seen_head → HasMissed list d 1 v w
    push_loses has can other = record {
      ran = drawn.went;
      going = ap (λ (x : View). x.stopped) left ∙ drawn.went;
      room = drawn.room;
      more = let e = ap (λ (x : View). x.draws) left in omega arith;
      parts_are = ap parts left;
      row = view_row_then v u w row (push_lost_row d u w found event other);
      can = can_still v w has d list (ap parts left) (ap (λ (x : View). x.seen_anchor) left)
          (λ k else own. subst (λ x. KeepsWord v x k) (sym left) (let p = drawn.words k own in
          record { volatile = p.volatile; durable = p.durable })) can;
    } where
      left : w ≡ record (lost (drawn_as v drawn.ticket u) found) { seen_head = None }
      left = push_lost d u w found event other ∙ ap (λ (x : View). record (lost x found) { seen_head = None }) drawn.left

    pub exchanged : HasSoundState v → CanList v d list → (won : Bool) (result : Result ⊤ ℕ) → Tells (seen_word u.seen_head) found result
        → won ≡ is_ok result → Pushes list d 1 won v w
    exchanged has can won (Ok x) told is = subst (λ b. Pushes list d 1 b v w) (sym is) (push_wins told)
    exchanged has can won (Err x) told is = subst (λ b. Pushes list d 1 b v w) (sym is) (push_loses has can told.1)

-- said of an earlier view
pub pushes_later : {n : ℕ} (m : ℕ) (won : Bool) (v t w : View) (list d : ℕ) → v.stopped ≡ None → v.draws ≤ t.draws → t.setup ≡ v.setup
    → v.draws < v.setup.budget → parts t ≡ parts v → ViewRow (record no_costs { draws = n }) v t → Pushes list d m won t w
    → Pushes list d (n + m) won v w
pushes_later m true v t w list d ran more setup room same row has = record {
  going = has.going;
  parts_are = has.parts_are ∙ ap (without_claim_of d) same;
  moves = has.moves ∙ (let e = ap (moved_by list d) same in let least = row.passes.more.moves in let most = row.passes.most.moves in omega arith);
  row = view_row_then v t w row has.row;
  moved = λ free none. view_row_then v t w row (has.moved free (ap (λ (p : Parts). times d p.raw + times d p.split) same ∙ none));
}
pushes_later m false v t w list d ran more setup room same row missed = record {
  ran = ran;
  going = missed.going;
  room = room;
  more = let x = missed.more in omega arith;
  parts_are = missed.parts_are ∙ same;
  row = view_row_then v t w row missed.row;
  can = missed.can;
}

-- how far the tries have come
pub record Pushing (list d : ℕ) (v t : View) : Type 0 where
  pub row : ViewRow no_costs v t
  pub parts_are : parts t ≡ parts v
  pub both : t.stopped ≡ None → v.stopped ≡ None
  pub fresh : (t ≡ v) ⊎ (t.stopped ≡ None)
  pub can : CanList t d list
  pub durable : d < t.floor

pub pushing_begins : (v : View) (list d : ℕ) → CanList v d list → d < v.floor → Pushing list d v v
pushing_begins v list d can durable = record {
  row = view_row_none v;
  parts_are = refl;
  both = λ ran. ran;
  fresh = inl refl;
  can = can;
  durable = durable;
}

pub pushing_on : (v t w : View) (list d : ℕ) → Pushing list d v t → HasMissed list d 3 t w → Pushing list d v w
pushing_on v t w list d pushing missed = record {
  row = view_row_within no_costs v w (record {
    draws = omega arith;
    wins = omega arith;
    gives = omega arith;
    cuts = omega arith;
    taken = omega arith;
    moves = omega arith;
  }) (view_row_then v t w pushing.row missed.row);
  parts_are = missed.parts_are ∙ pushing.parts_are;
  both = λ ran. pushing.both missed.ran;
  fresh = inr missed.going;
  can = missed.can;
  durable = let x = missed.row.passes.floor in let y = pushing.durable in omega arith;
}

pub pushing_less : (t w : View) (list d : ℕ) → HasMissed list d 3 t w → w.setup.budget - w.draws < t.setup.budget - t.draws
pushing_less t w list d missed = let same = ap (λ (k : Setup). k.budget) missed.row.passes.setup in let room = missed.room in
    let more = missed.more in omega arith

pub pushing_stops : (v t w : View) (step list d : ℕ) → Pushing list d v t → Stops step t w → Stops step v w
pushing_stops v t w step list d pushing stop = elim pushing.fresh [
  | inl same ↦ subst (λ u. Stops step u w) same stop
  | inr going ↦ stops_later v t w step (pushing.both going) going pushing.row stop
]

pub pushing_row : (v t w : View) (list d : ℕ) → Pushing list d v t → ViewRow (record one_push { draws = 3 }) t w
    → ViewRow (record one_push { draws = 3 }) v w
pushing_row v t w list d pushing row = view_row_then v t w pushing.row row

pub pushing_done : (v t w : View) (list d : ℕ) → Pushing list d v t → HasPushed list d 3 t w → HasPushed list d 3 v w
pushing_done v t w list d pushing pushed = record {
  going = pushed.going;
  parts_are = pushed.parts_are ∙ ap (without_claim_of d) pushing.parts_are;
  moves = pushed.moves ∙ (let e = ap (moved_by list d) pushing.parts_are in let least = pushing.row.passes.more.moves in
      let most = pushing.row.passes.most.moves in omega arith);
  row = view_row_then v t w pushing.row pushed.row;
  moved = λ free none. view_row_then v t w pushing.row (pushed.moved free (ap (λ (p : Parts). times d p.raw + times d p.split) pushing.parts_are
      ∙ none));
}
