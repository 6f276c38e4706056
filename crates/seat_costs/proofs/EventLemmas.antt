-- What each event of a seat costs, and what it leaves of held words.
use Rattle.std.proofs.Common.{◌≡◌, ◌≢◌, ◌≤◌, ℕ, ◌+◌, max, set, Bool, true, false, cond, nat_eq, nat_lt, None, refl, ap, ◌∙◌, eq-eqb, arith}
use Rattle.heap_model.specs.Counting.{times, without}
use Rattle.heap_model.specs.Words.{full_anchor, head_first}
use Rattle.core_model.specs.declared.event.Event.TheVariants.{Give, KeepUsed, LookAnchor, LookLink, Pop, Push, TakeAll, TakeFresh}
use Rattle.core_model.specs.Effects.{anchored_blocks, before, claim_class, claimed, cleared, given, lost, popped, pushed, pushed_raw, pushed_classed, seen, seen_of, seen_word, taken_all, trimmed, without_claim, won}
use Rattle.core_model.specs.Memory.{Memory, memory_of}
use Rattle.core_model.specs.View.{View, no_batch}
use Rattle.core_model.proofs.PlaceLemmas.{skip, not-lt}
use Rattle.heap_table.specs.Plays.{IsEvent}
use Rattle.heap_rule.proofs.WordsLeftLemmas.{fresh_lost, give_lost, pop_lost, push_lost, take_all_lost}
use Rattle.seat_costs.specs.Costs.{Costs, no_costs, one_give, one_loss, one_move, one_push, one_win}
use Rattle.seat_costs.specs.Rows.{ViewRow}
use Rattle.seat_costs.proofs.AlikeLemmas.{claimed_row, gave_row, lost_row, moved_row, raised_row, recording, row_alike, row_as, trimmed_row, won_row}
use Rattle.seat_costs.proofs.RowLemmas.{view_row_none, view_row_within}

-- looks whose words no last look keeps, and the mark
pub look_link_row : (v w : View) (found : ℕ) → IsEvent LookLink v found w → ViewRow no_costs v w
look_link_row v w found e = row_alike v v w (ap recording e.after) (view_row_none v)

pub look_anchor_row : (d : ℕ) (v w : View) (found : ℕ) → IsEvent (LookAnchor d) v found w → ViewRow no_costs v w
look_anchor_row d v w found e = row_alike v v w (ap recording e.after) (view_row_none v)

-- an exchange that is lost
pub pop_lost_row : (v w : View) (found : ℕ) → IsEvent Pop v found w → found ≢ seen_word v.seen_head → ViewRow one_loss v w
pop_lost_row v w found e other = row_alike v (lost v found) w (ap recording (pop_lost v w found e other)) (lost_row v found)

pub push_lost_row : (d : ℕ) (v w : View) (found : ℕ) → IsEvent (Push d) v found w → found ≢ seen_word v.seen_head → ViewRow one_loss v w
push_lost_row d v w found e other = row_alike v (lost v found) w (ap recording (push_lost d v w found e other)) (lost_row v found)

pub give_lost_row : (d : ℕ) (v w : View) (found : ℕ) → IsEvent (Give d) v found w → found ≢ seen_word v.seen_anchor → ViewRow one_loss v w
give_lost_row d v w found e other = row_alike v (lost v found) w (ap recording (give_lost d v w found e other)) (lost_row v found)

pub take_all_lost_row : (d : ℕ) (v w : View) (found : ℕ) → IsEvent (TakeAll d) v found w → found ≢ seen_word v.seen_anchor → ViewRow one_loss v w
take_all_lost_row d v w found e other = row_alike v (lost v found) w (ap recording (take_all_lost d v w found e other)) (lost_row v found)

pub fresh_lost_row : (n : ℕ) (v w : View) (found : ℕ) → IsEvent (TakeFresh n) v found w → found ≢ seen v.seen_used → ViewRow one_loss v w
fresh_lost_row n v w found e other = row_alike v (lost v found) w (ap recording (fresh_lost n v w found e other)) (lost_row v found)

-- where it is not told that it was lost
pub either_row : {a : Costs} (v w : View) (found : ℕ) → a.credit ≤ a.draws + 4 → a.refund ≤ a.wins → recording w ≡ recording (lost v found)
    → ViewRow a v w
either_row {a} v w found few less after = view_row_within a v w (record {
  draws = omega arith;
  wins = omega arith;
  gives = omega arith;
  cuts = omega arith;
  taken = omega arith;
  moves = omega arith;
}) (row_alike v (lost v found) w after (lost_row v found))

pub pop_row : (v w : View) (found : ℕ) → IsEvent Pop v found w → ViewRow one_win v w
pop_row v w found e = by_test (nat_eq found (seen_word v.seen_head)) e.after where
  by_test : (test : Bool) → w ≡ cond test (popped v (before (head_first (seen_word v.seen_head)))) (record (lost v found) { seen_head = None })
      → ViewRow one_win v w
  by_test true after = let u : View = record (won v) {
    seen_head = None;
    seen_link = None;
    seen_anchor = cleared (before (head_first (seen_word v.seen_head))) 1 v.seen_anchor;
  } in
      row_as v (popped v (before (head_first (seen_word v.seen_head)))) w after
      (claimed_row (seen_of v.seen_head) (before (head_first (seen_word v.seen_head))) v u (row_alike v (won v) u refl (won_row v)))
  by_test false after = either_row v w found (omega arith) (omega arith) (ap recording after)

-- after a push the superblock is not claimed any more
no_move : (v : View) → ViewRow one_push v (won v)
no_move v = view_row_within one_push v (won v) (record {
  draws = omega arith;
  wins = omega arith;
  gives = omega arith;
  cuts = omega arith;
  taken = omega arith;
  moves = omega arith;
}) (won_row v)

pub push_row : (d : ℕ) (v w : View) (found : ℕ) → IsEvent (Push d) v found w → ViewRow one_push v w
push_row d v w found e = by_test (nat_eq found (seen_word v.seen_head)) e.after where
  by_list : (test : Bool) → ViewRow one_push v (record (won v) {
    classed = without_claim d v.classed;
    seen_head = None;
    seen_anchor = cleared d 1 v.seen_anchor;
    moves = cond test (v.moves + 1) v.moves;
  })
  by_list true = let u : View = record (won v) { moves = v.moves + 1 } in
      row_alike v u (record (won v) {
        classed = without_claim d v.classed;
        seen_head = None;
        seen_anchor = cleared d 1 v.seen_anchor;
        moves = v.moves + 1;
      }) refl
      (view_row_within one_push v u (record {
        draws = omega arith;
        wins = omega arith;
        gives = omega arith;
        cuts = omega arith;
        taken = omega arith;
        moves = omega arith;
      }) (moved_row v))
  by_list false = row_alike v (won v) (record (won v) {
    classed = without_claim d v.classed;
    seen_head = None;
    seen_anchor = cleared d 1 v.seen_anchor;
  }) refl (no_move v)

  by_raw : (test : Bool) → ViewRow one_push v (cond test (pushed_raw v d) (pushed_classed v d))
  by_raw true = let u : View = record (won v) {
    raw = without d v.raw;
    split = without d v.split;
    seen_head = None;
    seen_anchor = cleared d 1 v.seen_anchor;
  } in trimmed_row v u (row_alike v (won v) u refl (no_move v))
  by_raw false = trimmed_row v (record (won v) {
    classed = without_claim d v.classed;
    seen_head = None;
    seen_anchor = cleared d 1 v.seen_anchor;
    moves = cond (nat_eq (seen_of v.seen_head) 0) (v.moves + 1) v.moves;
  }) (by_list (nat_eq (seen_of v.seen_head) 0))

  by_test : (test : Bool) → w ≡ cond test (pushed v d) (record (lost v found) { seen_head = None }) → ViewRow one_push v w
  by_test true after = row_as v (pushed v d) w after (by_raw (nat_lt 0 (times d v.raw + times d v.split)))
  by_test false after = either_row v w found (omega arith) (omega arith) (ap recording after)

-- a superblock of a class that goes to the list of the free ones is moved there
abbrev moved : ℕ → View → View
moved d v = record (won v) { classed = without_claim d v.classed; seen_head = None; seen_anchor = cleared d 1 v.seen_anchor; moves = v.moves + 1 }

pub move_row : (d : ℕ) (v w : View) → w ≡ pushed v d → times d v.raw + times d v.split ≡ 0 → seen_of v.seen_head ≡ 0 → ViewRow one_move v w
move_row d v w after none free = row_as v (trimmed (moved d v)) w is
    (trimmed_row v (moved d v) (row_alike v (record (won v) { moves = v.moves + 1 }) (moved d v) refl (moved_row v))) where
      is : w ≡ trimmed (moved d v)
      is = after
          ∙ skip (nat_lt 0 (times d v.raw + times d v.split)) (pushed_raw v d) (pushed_classed v d)
          (not-lt 0 (times d v.raw + times d v.split) (omega arith))
          ∙ ap (λ t. trimmed (record (won v) {
            classed = without_claim d v.classed;
            seen_head = None;
            seen_anchor = cleared d 1 v.seen_anchor;
            moves = cond t (v.moves + 1) v.moves;
          })) (eq-eqb (seen_of v.seen_head) 0 free)

-- all free blocks of a superblock are cached
pub take_all_row : (d : ℕ) (v w : View) (found : ℕ) → IsEvent (TakeAll d) v found w → ViewRow one_win v w
take_all_row d v w found e = by_test (nat_eq found (seen_word v.seen_anchor)) e.after where
  by_test : (test : Bool) → w ≡ cond test (taken_all (memory_of v.setup.capacity e.before.words) v d)
      (record (lost v found) { seen_anchor = None }) → ViewRow one_win v w
  by_test true after = let m : Memory = memory_of v.setup.capacity e.before.words in
      let u : View = record (won v) {
        caches = set v.caches (claim_class d v.classed)
            (anchored_blocks m v.setup.capacity (claim_class d v.classed) d (seen_word v.seen_anchor));
        classed = without_claim d v.classed;
        seen_anchor = None;
      } in
      row_as v (taken_all m v d) w after (trimmed_row v u (row_alike v (won v) u refl (won_row v)))
  by_test false after = either_row v w found (omega arith) (omega arith) (ap recording after)

-- a batch that is given; where its superblock had no free block, that is claimed
abbrev gave : View → View
gave v = record (won v) { batch = no_batch; seen_anchor = None; gives = v.gives + 1 }

pub give_row : (d : ℕ) (v w : View) (found : ℕ) → IsEvent (Give d) v found w → ViewRow one_give v w
give_row d v w found e = by_test (nat_eq found (seen_word v.seen_anchor)) e.after where
  plain : ViewRow one_give v (gave v)
  plain = row_alike v (record (won v) { gives = v.gives + 1 }) (gave v) refl (gave_row v)

  by_full : (full : Bool) → ViewRow one_give v (cond full (claimed (gave v) d v.batch.class) (gave v))
  by_full true = claimed_row v.batch.class d v (gave v) plain
  by_full false = plain

  by_test : (test : Bool) → w ≡ cond test (given v d) (record (lost v found) { seen_anchor = None }) → ViewRow one_give v w
  by_test true after = row_as v (given v d) w after (trimmed_row v _ (by_full (nat_eq (seen_word v.seen_anchor) full_anchor)))
  by_test false after = either_row v w found (omega arith) (omega arith) (ap recording after)

-- the mark becomes durable as far as it was read
pub keep_used_row : (v w : View) (found : ℕ) → IsEvent KeepUsed v found w → ViewRow no_costs v w
keep_used_row v w found e = row_alike v (record v { floor = max v.floor (seen v.seen_used) }) w (ap recording e.after)
    (raised_row v (max v.floor (seen v.seen_used)) (omega arith))
