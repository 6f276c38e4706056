-- What a look at a list, and a pop from it, leave.
use Rattle.std.proofs.Common.{◌≡◌, ◌≢◌, ◌<◌, ℕ, zero, suc, ◌+◌, ◌-◌, Bool, get_or, length, set, Option, None, Some, refl, ap, sym, subst, ◌∙◌, arith}
use Rattle.std.specs.Bool.{⊤}
use Rattle.std.specs.Prelude.{Result, Ok, Err}
use Rattle.std.specs.Result.{is_ok}
use Rattle.std.proofs.lemmas.List.{get_or-set_other, get_or-set_same}
use Rattle.heap_model.specs.Geometry.{lists}
use Rattle.heap_model.specs.Words.{head_first}
use Rattle.core_model.specs.declared.event.Event.TheVariants.{LookHead, LookLink, Pop}
use Rattle.core_model.specs.Effects.{before, claimed, cleared, drew, look, lost, popped, seen_of, seen_word, used_up, won}
use Rattle.core_model.specs.View.{Setup, Snapshot, View}
use Rattle.core_model.specs.Cells.{cell_at}
use Rattle.core_model.specs.View.{times_own}
use Rattle.core_model.proofs.QuietLemmas.{own_same}
use Rattle.core_model.proofs.EventStepLemmas.{Parts as CoreParts}
use Rattle.heap_rule.specs.Fences.{Owns}
use Rattle.heap_table.specs.Plays.{IsEvent}
use Rattle.heap_rule.specs.Seated.{Tells}
use Rattle.heap_rule.proofs.WordsLeftLemmas.{pop_won, pop_lost}
use Rattle.superblock_lists.specs.Pops.{Exchanges, GoesOn, HasLost, HasPopped, KeepsOtherLooks, SeesFirst, SeesHead, SeesLink, list_head, with_claim}
use Rattle.seat_costs.specs.Costs.{Costs, no_costs, one_draw}
use Rattle.seat_costs.specs.Rows.{HasDrawn, Parts, ViewRow, parts}
use Rattle.seat_costs.proofs.EventLemmas.{pop_lost_row}
use Rattle.seat_costs.proofs.WordLemmas.{word_then}
use Rattle.seat_costs.proofs.StoredLemmas.{drawn_as}
use Rattle.seat_costs.proofs.RowLemmas.{view_row_then}

-- the parts as the core's lemmas name them
abbrev as_core : Parts → CoreParts
as_core p = record {
  setup = p.setup;
  small = p.small;
  large = p.large;
  roots = p.roots;
  caches = p.caches;
  batch = p.batch;
  raw = p.raw;
  split = p.split;
  cutting = p.cutting;
  classed = p.classed;
}

-- the same parts own the same words
pub still_owns : (v w : View) → parts w ≡ parts v → (k : ℕ) → Owns v k → Owns w k
still_owns v w same k own =
    let cell = own_same v w (ap as_core same) (cell_at w.setup.capacity k) in
    let at = ap (λ (p : Parts). times_own v (cell_at p.setup.capacity k)) same in omega arith

-- after the head and the link
pub sees_first : (v t u : View) (list head first : ℕ) → SeesHead list head v t → SeesLink t u → first ≡ head_first head → first ≢ 0
    → SeesFirst list (first - 1) u
sees_first v t u list head first seen link is some = record { head = head; is_seen = link.head ∙ seen.is_seen; first = omega arith; link = link.link }

-- looks that stay
pub same_looks : (list : ℕ) (v w : View) → w.used_look ≡ v.used_look → w.head_looks ≡ v.head_looks → KeepsOtherLooks list v w
same_looks list v w used heads = record {
  used = used;
  heads = λ other apart. ap (λ looks. get_or looks other w.used_look) heads
      ∙ ap (get_or v.head_looks other) used;
}

pub others_then : (list : ℕ) (v t w : View) → KeepsOtherLooks list v t → KeepsOtherLooks list t w → KeepsOtherLooks list v w
others_then list v t w p q = record { used = q.used ∙ p.used; heads = λ other apart. q.heads other apart ∙ p.heads other apart }

pub goes_then : (v t u : View) → GoesOn v t → GoesOn t u → GoesOn v u
goes_then v t u p q = record {
  ran = p.ran;
  going = q.going;
  room = p.room;
  more = let x = p.more in let y = q.more in omega arith;
  parts_are = q.parts_are ∙ p.parts_are;
  wins = q.wins ∙ p.wins;
  losses = q.losses ∙ p.losses;
  taken = q.taken ∙ p.taken;
  cuts = q.cuts ∙ p.cuts;
  anchor = q.anchor ∙ p.anchor;
  words = λ k own. word_then v t u k (p.words k own)
      (q.words k (still_owns v t p.parts_are k own));
}

-- the exchange
won_parts : (list d : ℕ) (v w : View) (ticket : ℕ) (volatile durable : _) → v.stopped ≡ None → v.draws < v.setup.budget
    → w ≡ claimed (record (won (record (drew v ticket) { volatile = volatile; durable = durable })) {
      seen_head = None;
      seen_link = None;
      seen_anchor = cleared d 1 v.seen_anchor;
    }) d list → HasPopped list d v w
won_parts zero d v w ticket volatile durable going room after = subst (HasPopped zero d v) (sym after)
    (record {
      ran = going;
      going = going;
      room = room;
      more = omega arith;
      parts_are = refl;
      durable = omega arith;
      wins = refl;
      others = record { used = refl; heads = λ other apart. refl };
    })
won_parts (suc class) d v w ticket volatile durable going room after =
    subst (HasPopped (suc class) d v) (sym after) (record {
      ran = going;
      going = going;
      room = room;
      more = omega arith;
      parts_are = refl;
      durable = omega arith;
      wins = refl;
      others = record { used = refl; heads = λ other apart. refl };
    })

add-one : (d : ℕ) → d + 1 ≡ suc d
add-one d = omega arith

pub pop_wins : (v u w : View) (list d found : ℕ) → HasDrawn v u → SeesFirst list d v → IsEvent Pop u found w → found ≡ seen_word u.seen_head
    → HasPopped list d v w
pop_wins v u w list d found drawn sees event same = won_parts list d v w drawn.ticket u.volatile u.durable drawn.went drawn.room
    (pop_won u w found event same
    ∙ ap (λ (x : View). popped x (before (head_first (seen_word x.seen_head)))) drawn.left
    ∙ ap (λ n. popped (drawn_as v drawn.ticket u) n) (ap (λ (s : Option Snapshot). before (head_first (seen_word s))) sees.is_seen
    ∙ ap before (sees.first ∙ add-one d))
    ∙ ap (λ (s : Option Snapshot). claimed (record (won (drawn_as v drawn.ticket u)) {
      seen_head = None;
      seen_link = None;
      seen_anchor = cleared d 1 v.seen_anchor;
    }) d (seen_of s)) sees.is_seen)

pub pop_loses : (list : ℕ) (v u w : View) (found : ℕ) → HasDrawn v u → ViewRow one_draw v u → IsEvent Pop u found w
    → found ≢ seen_word u.seen_head → HasLost list 1 v w
pop_loses list v u w found drawn row event other = record {
  ran = drawn.went;
  going = ap (λ (x : View). x.stopped) left ∙ drawn.went;
  room = drawn.room;
  more = let e = ap (λ (x : View). x.draws) left in omega arith;
  parts_are = ap parts left;
  wins = ap (λ (x : View). x.wins) left;
  losses = ap (λ (x : View). x.losses) left;
  taken = ap (λ (x : View). x.taken) left;
  cuts = ap (λ (x : View). x.cuts) left;
  others = same_looks list v w (ap (λ (x : View). x.used_look) left) (ap (λ (x : View). x.head_looks) left);
  row = view_row_then v u w row (pop_lost_row u w found event other);
  unseen = ap (λ (x : View). x.seen_head) left;
} where
  left : w ≡ record (lost (drawn_as v drawn.ticket u) found) { seen_head = None }
  left = pop_lost u w found event other ∙ ap (λ (x : View). record (lost x found) { seen_head = None }) drawn.left

pub exchanged : (v u w : View) (list d found : ℕ) (won : Bool) (result : Result ⊤ ℕ) → HasDrawn v u → ViewRow one_draw v u → SeesFirst list d v
    → IsEvent Pop u found w → Tells (seen_word u.seen_head) found result
    → won ≡ is_ok result → Exchanges list d won v w
exchanged v u w list d found won (Ok x) drawn row sees event told is =
    subst (λ b. Exchanges list d b v w) (sym is) (pop_wins v u w list d found drawn sees event told)
exchanged v u w list d found won (Err x) drawn row sees event told is =
    subst (λ b. Exchanges list d b v w) (sym is) (pop_loses list v u w found drawn row event told.1)

-- said of an earlier view
pub claims_alike : (list d : ℕ) (p q : Parts) → p ≡ q → with_claim list d p ≡ with_claim list d q
claims_alike list d p q same = ap (with_claim list d) same

pub popped_later : {a : Costs} (v t w : View) (list d : ℕ) → v.stopped ≡ None → parts t ≡ parts v → t.wins ≡ v.wins → KeepsOtherLooks list v t
    → ViewRow a v t → HasPopped list d t w → HasPopped list d v w
popped_later v t w list d ran same wins others row popped = record {
  ran = ran;
  going = popped.going;
  room = let r = popped.room in let d = row.passes.more.draws in let k = ap (λ (s : Setup). s.budget) row.passes.setup in omega arith;
  more = let m = popped.more in let d = row.passes.more.draws in omega arith;
  parts_are = popped.parts_are ∙ ap (with_claim list d) same;
  durable = popped.durable;
  wins = popped.wins ∙ ap (λ n. n + 1) wins;
  others = others_then list v t w others popped.others;
}

pub lost_later : {n m : ℕ} (list : ℕ) (v t w : View) → GoesOn v t → KeepsOtherLooks list v t → ViewRow (record no_costs { draws = n }) v t
    → HasLost list m t w → HasLost list (n + m) v w
lost_later list v t w p others row lost = record {
  ran = p.ran;
  going = lost.going;
  room = p.room;
  more = let x = p.more in let y = lost.more in
      omega arith;
  parts_are = lost.parts_are ∙ p.parts_are;
  wins = lost.wins ∙ p.wins;
  losses = lost.losses ∙ ap (λ n. n + 1) p.losses;
  taken = lost.taken ∙ p.taken;
  cuts = lost.cuts ∙ p.cuts;
  others = others_then list v t w others lost.others;
  row = view_row_then v t w row lost.row;
  unseen = lost.unseen;
}

-- the head is seen
pub head_seen : (v u w : View) (list head : ℕ) → list < lists → HasDrawn v u → IsEvent (LookHead list) u head w → SeesHead list head v w
head_seen v u w list head less drawn event = subst (SeesHead list head v) (sym left) (record {
  goes_on = record {
    ran = drawn.went;
    going = drawn.went;
    room = drawn.room;
    more = omega arith;
    parts_are = refl;
    wins = refl;
    losses = refl;
    taken = refl;
    cuts = refl;
    anchor = refl;
    words = λ k own. let p = drawn.words k own in record { volatile = p.volatile; durable = p.durable };
  };
  is_seen = refl;
  look = get_or-set_same v.head_looks list (record { word = head; ticket = Some drawn.ticket; wins = v.wins; taken = v.taken }) v.used_look
      (let long = (event.before.sound.good.set_up event.before.seat u event.before.below event.before.at).looks in
      let same = ap (λ (x : View). length x.head_looks) drawn.left in omega arith);
  others = record {
    used = refl;
    heads = λ other apart. get_or-set_other v.head_looks list other
        (record { word = head; ticket = Some drawn.ticket; wins = v.wins; taken = v.taken }) v.used_look apart;
  };
  later = let x = drawn.later in omega arith;
}) where
  left : w ≡ record (drawn_as v drawn.ticket u) {
    ticket = None;
    seen_head = list_head list head;
    seen_link = None;
    head_looks = set v.head_looks list (record { word = head; ticket = Some drawn.ticket; wins = v.wins; taken = v.taken });
  }
  left = event.after ∙ ap (λ (x : View). record (used_up x) {
    seen_head = list_head list head;
    seen_link = None;
    head_looks = set x.head_looks list (look x head);
  }) drawn.left

pub link_seen : (v u w : View) (link : ℕ) → HasDrawn v u → IsEvent LookLink u link w → SeesLink v w
link_seen v u w link drawn event = subst (SeesLink v) (sym left) (record {
  goes_on = record {
    ran = drawn.went;
    going = drawn.went;
    room = drawn.room;
    more = omega arith;
    parts_are = refl;
    wins = refl;
    losses = refl;
    taken = refl;
    cuts = refl;
    anchor = refl;
    words = λ k own. let p = drawn.words k own in record { volatile = p.volatile; durable = p.durable };
  };
  head = refl;
  link = refl;
  others = λ list. record { used = refl; heads = λ other apart. refl };
}) where
  left : w ≡ record (drawn_as v drawn.ticket u) { ticket = None; seen_link = Some link }
  left = event.after ∙ ap (λ (x : View). record (used_up x) { seen_link = Some link }) drawn.left
