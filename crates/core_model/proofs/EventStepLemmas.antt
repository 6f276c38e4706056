-- What a step of one seat owes, and that memory and seats then fit together again.
use Rattle.std.proofs.Common.{◌≡◌, ◌≢◌, ℕ, ◌+◌, ◌<◌, ◌≤◌, List, get_or, set, length, ap, subst, ◌∙◌, arith}
use Rattle.heap_model.specs.Counting.{times, total}
use Rattle.heap_model.specs.Rest.{list_numbers}
use Rattle.heap_model.specs.Words.{head_pops}
use Rattle.core_model.specs.Memory.{Memory, used, head, anchor}
pub use Rattle.core_model.specs.View.{Parts, parts}
use Rattle.core_model.specs.View.{Setup, View, one_if_some, times_raw, times_classed, times_large, times_block}
use Rattle.core_model.specs.Sound.{CoreShape, tally_of, IsInShape, IsSetUp, ClaimsOf, BlocksOf, Knows, KnowsWords, HasTickets, HasTotals, HasLost, stale, times_parked, empties, Good}
use Rattle.core_model.proofs.TotalLemmas.{total_set, total_same, each_set}

-- what is so of one seat
pub record IsSeat (k : Setup) (m : Memory) (g : CoreShape) (v : View) : Type 0 where
  pub set_up : IsSetUp k v
  pub claims : ClaimsOf m v
  pub blocks : BlocksOf m v
  pub knows : Knows k.capacity m g v
  pub words : KnowsWords k.capacity m v
  pub tickets : HasTickets k.budget m.drawn v

pub seat_at : (k : Setup) (m : Memory) (views : List View) (good : Good k m views) (i : ℕ) (v : View) → i < length views → get_or views i v ≡ v
    → IsSeat k m good.shape v
seat_at k m views good i v below at = record {
  set_up = good.set_up i v below at;
  claims = good.claims i v below at;
  blocks = good.blocks i v below at;
  knows = good.knows i v below at;
  words = good.words i v below at;
  tickets = good.tickets i v below at;
}

-- a seat is set up the same where its lists are as long
pub set_up_kept : (k : Setup) (v w : View) → IsSetUp k v → w.setup ≡ v.setup → w.roots ≡ v.roots → w.small ≡ v.small → w.caches ≡ v.caches
    → w.head_looks ≡ v.head_looks
    → length w.volatile ≡ length v.volatile → length w.durable ≡ length v.durable → IsSetUp k w
set_up_kept k v w s setup roots_same small caches looks volatile durable = record {
  setup = setup ∙ s.setup;
  roots = λ i own. s.roots i (subst (λ rs. 0 < times i rs) roots_same own);
  small = ap length small ∙ s.small;
  caches = ap length caches ∙ s.caches;
  looks = ap length looks ∙ s.looks;
  volatile = volatile ∙ s.volatile;
  durable = durable ∙ s.durable;
}

-- what a step owes on the lost exchanges: of its own seat, and of each other
pub record Loses (m m' : Memory) (v w : View) : Type 0 where
  pub mine : w.losses + stale m' w ≤ v.losses + stale m v
  pub more : v.wins ≤ w.wins

pub good_step : (k : Setup) (m m' : Memory) (views : List View) (i : ℕ) (v w : View) (good : Good k m views) (g : CoreShape)
    → i < length views → get_or views i v ≡ v
    → IsInShape k.capacity m' g (tally_of (set views i w))
    → IsSeat k m' g w
    → ((j : ℕ) (u : View) → j ≢ i → j < length views → get_or views j u ≡ u → IsSeat k m good.shape u → IsSeat k m' g u)
    → HasTotals k m' (set views i w)
    → Loses m m' v w
    → ((j : ℕ) (u : View) → j ≢ i → j < length views → get_or views j u ≡ u → stale m' u + v.wins ≤ stale m u + w.wins)
    → empties k.capacity (anchor m') (times_parked g (tally_of (set views i w))) + total (λ (u : View). u.moves) (set views i w) ≤ total
    (λ (u : View). u.gives) (set views i w) + k.capacity
    → Good k m' (set views i w)
good_step k m m' views i v w good g below at shaped mine others adds loses theirs moves = record {
  small = good.small;
  shape = g;
  shaped = shaped;
  set_up = each_set views i w (IsSetUp k) below (λ j u other b a. (seat j u other b a).set_up) mine.set_up;
  claims = each_set views i w (ClaimsOf m') below (λ j u other b a. (seat j u other b a).claims) mine.claims;
  blocks = each_set views i w (BlocksOf m') below (λ j u other b a. (seat j u other b a).blocks) mine.blocks;
  knows = each_set views i w (Knows k.capacity m' g) below (λ j u other b a. (seat j u other b a).knows) mine.knows;
  words = each_set views i w (KnowsWords k.capacity m') below (λ j u other b a. (seat j u other b a).words) mine.words;
  tickets = each_set views i w (HasTickets k.budget m'.drawn) below (λ j u other b a. (seat j u other b a).tickets) mine.tickets;
  adds = adds;
  lost = each_set views i w (HasLost m' (set views i w)) below
      (λ j u other b a. let old = good.lost j u b a in let step = theirs j u other b a in
      let wins = total_set (λ (x : View). x.wins) views i v w below at in omega arith)
      (let old = good.lost i v below at in let own = loses.mine in let wins = total_set (λ (x : View). x.wins) views i v w below at in omega arith);
  moves = moves;
} where
  seat : (j : ℕ) (u : View) → j ≢ i → j < length views → get_or views j u ≡ u → IsSeat k m' g u
  seat j u other b a = others j u other b a (seat_at k m views good j u b a)

-- where a seat's parts stay, so do the sums of all
pub tally_same : (views : List View) (i : ℕ) (v w : View) → i < length views → get_or views i v ≡ v → parts w ≡ parts v
    → tally_of (set views i w) ≡ tally_of views
tally_same views i v w below at same = λ j. record {
  raw = λ d. (total_same (times_raw d) views i v w below at (ap (λ (p : Parts). times d p.raw + times d p.split + times d p.cutting) same)) j;
  classed = λ d. (total_same (λ (u : View). times_classed d u.classed) views i v w below at (ap (λ (p : Parts). times_classed d p.classed) same)) j;
  large = λ d. (total_same (λ (u : View). times_large d u.large) views i v w below at (ap (λ (p : Parts). times_large d p.large) same)) j;
  blocks = λ b. (total_same (times_block b) views i v w below at (ap
      (λ (p : Parts). total (times b) p.small + total (times b) p.caches + times b p.batch.blocks) same)) j;
}

-- a step without a draw changes the sums by what the words and the counts change
pub adds_step : (k : Setup) (m m' : Memory) (views : List View) (i : ℕ) (v w : View) → i < length views → get_or views i v ≡ v → HasTotals k m views
    → m'.drawn ≡ m.drawn → w.draws ≡ v.draws → w.stopped ≡ v.stopped → w.roots ≡ v.roots
    → total (λ list. head_pops (head m' list)) list_numbers + one_if_some w.ticket ≤ total
    (λ list. head_pops (head m list)) list_numbers + one_if_some v.ticket
    → used m' + v.taken ≡ used m + w.taken
    → HasTotals k m' (set views i w)
adds_step k m m' views i v w below at adds drawn draws stopped roots pops taken =
    let a = adds.draws in let b = adds.pops in let c = adds.budget in let d = adds.stopped in let e = adds.taken in
    let tickets = total_set (λ (x : View). one_if_some x.ticket) views i v w below at in
    let takes = total_set (λ (x : View). x.taken) views i v w below at in
    let draws_same = total_same (λ (x : View). x.draws) views i v w below at draws in
    let stopped_same = total_same (λ (x : View). one_if_some x.stopped) views i v w below at (ap one_if_some stopped) in
    record {
      draws = omega arith;
      pops = omega arith;
      budget = omega arith;
      stopped = omega arith;
      taken = omega arith;
      roots = λ n. let same = total_same (λ (x : View). times n x.roots) views i v w below at (ap (times n) roots) in let old = adds.roots n in
          omega arith;
    }
