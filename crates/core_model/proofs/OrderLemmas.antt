-- Soundness does not depend on the order of the seats.
use Rattle.std.proofs.Common.{◌≡◌, ℕ, List, ap, sym, subst, arith}
use Rattle.heap_model.specs.Counting.{times}
use Rattle.core_model.specs.Memory.{Memory, memory_of, anchor}
use Rattle.core_model.specs.Orders.{AreReordered}
use Rattle.core_model.specs.View.{Setup, View, one_if_some, times_raw, times_classed, times_large, times_block}
use Rattle.core_model.specs.Sound.{Tally, tally_of, IsInShape, Each, IsSetUp, ClaimsOf, BlocksOf, Knows, KnowsWords, HasTickets, HasLost, times_parked, empties, Good, Sound}

module _ (k : Setup) (m : Memory) (old new : List View) (same : AreReordered old new) where
  each_of : (P : View → Type 0) → Each old P → Each new P
  each_of P all = λ i v below at. let found = same.members v (i, below, at) in all found.0 v found.1 found.2

  tally : tally_of new ≡ tally_of old
  tally = λ j. record {
    raw = λ d. (same.sums (times_raw d)) j;
    classed = λ d. (same.sums (λ (v : View). times_classed d v.classed)) j;
    large = λ d. (same.sums (λ (v : View). times_large d v.large)) j;
    blocks = λ b. (same.sums (times_block b)) j;
  }

  good_of : Good k m old → Good k m new
  good_of good = record {
    small = good.small;
    shape = good.shape;
    shaped = subst (IsInShape k.capacity m good.shape) (sym tally) good.shaped;
    set_up = each_of (IsSetUp k) good.set_up;
    claims = each_of (ClaimsOf m) good.claims;
    blocks = each_of (BlocksOf m) good.blocks;
    knows = each_of (Knows k.capacity m good.shape) good.knows;
    words = each_of (KnowsWords k.capacity m) good.words;
    tickets = each_of (HasTickets k.budget m.drawn) good.tickets;
    adds = (let x = good.adds in let drawn = same.sums (λ (v : View). v.draws) in let tickets = same.sums (λ (v : View). one_if_some v.ticket) in
        let stopped = same.sums (λ (v : View). one_if_some v.stopped) in let taken = same.sums (λ (v : View). v.taken) in
        let p = x.draws in let q = x.pops in let r = x.budget in let s = x.stopped in let t = x.taken in
        record {
          draws = omega arith;
          pops = omega arith;
          budget = omega arith;
          stopped = omega arith;
          taken = omega arith;
          roots = λ i. let before = x.roots i in let now = same.sums (λ (v : View). times i v.roots) in omega arith;
        });
    lost = each_of (HasLost m new) (λ i v below at. let before = good.lost i v below at in let wins = same.sums (λ (v : View). v.wins) in omega arith);
    moves = (let before = good.moves in let moves = same.sums (λ (v : View). v.moves) in let gives = same.sums (λ (v : View). v.gives) in
        let counted = ap (λ (t : Tally). empties k.capacity (anchor m) (times_parked good.shape t)) tally in omega arith);
  }

-- the words of the table and the same seats in another order are sound
pub reordered : (k : Setup) (words : List ℕ) (old new : List View) → AreReordered old new → Sound k words old → Sound k words new
reordered k words old new same sound = record {
  some = sound.some;
  long = sound.long;
  fixed = sound.fixed;
  capacity = sound.capacity;
  used = sound.used;
  good = good_of k (memory_of k.capacity words) old new same sound.good;
}
