-- Requests of a class from an opening on draw few tickets.
use Rattle.std.proofs.Common.{◌≡◌, ℕ, suc, ◌+◌, ◌*◌, ◌-◌, ◌<◌, ◌≤◌, ◌^◌, inl, inr, List, length, refl, ap, ◌∙◌, arith}
use Rattle.std.proofs.Math.Nat.{mul-le-mul_right}
use Rattle.std.proofs.lemmas.Bool.{cases_lt}
use Rattle.heap_model.specs.Geometry.{largest_capacity_fits}
use Rattle.heap_model.specs.Rest.{IsReady}
use Rattle.heap_model.specs.Sizes.{IsClass, blocks_of, size_of}
use Rattle.heap_model.proofs.SizeLemmas.{few_blocks}
use Rattle.core_model.specs.Opening.{AreOwners}
use Rattle.core_model.specs.View.{Setup, View}
use Rattle.heap_table.specs.Plays.{HasReached, HasSoundState}
use Rattle.heap_table.specs.Rule.{Opening, opened_view_of, setup_for}
use Rattle.seat_costs.specs.Rows.{Passes}
use Rattle.thread_cache.specs.Requests.{request_costs}
use Rattle.drain_laws.specs.Drains.{GrantsAll, no_request, one_more}
use Rattle.drain_laws.proofs.CutLemmas.{few_cuts, few_given}
use Rattle.drain_laws.proofs.OnlyLemmas.{only_losses, only_moves}
use Rattle.drain_laws.proofs.OpenedLemmas.{Leaves, leaves, opened_good}

-- each granted request draws ten tickets, and 4,108 where it cuts a superblock, but for lost exchanges and moves
spent : (class : ℕ) (v : View) (firsts : List ℕ) (w : View) → GrantsAll class v firsts w
    → w.draws + 4 * v.losses + 16 * v.moves + 4108 * v.cuts ≤ v.draws + 10 * length firsts + 4108 * w.cuts + 4 * w.losses + 16 * w.moves
spent class v _ _ no_request = omega arith
spent class v _ _ (one_more firsts u w b before grants) = let so_far = spent class v firsts u before in
    elim (cases_lt u.cuts w.cuts) as (λ _. w.draws + 4 * v.losses + 16 * v.moves + 4108 * v.cuts
    ≤ v.draws + 10 * suc (length firsts) + 4108 * w.cuts + 4 * w.losses + 16 * w.moves) [
      | inl rose ↦ let more = grants.costs.most.draws in omega (arith, so_far, more, rose)
      | inr same ↦
          let never = grants.costs.more.cuts in
          let more = (grants.uncut (omega (arith, same, never))).most.draws in omega (arith, so_far, more, never)
    ]

module _ (o : Opening) (class : ℕ) (firsts : List ℕ) (u w : View) (ready : IsReady o.words o.held)
    (owners : AreOwners o.held o.seats o.block_owners o.root_owners) (one : o.seats ≡ 1) (is : IsClass class)
    (grants : GrantsAll class (opened_view_of o 0) firsts u) (has : HasReached o u) (s : HasSoundState w)
    (last : Passes (request_costs (size_of class) (w.moves - u.moves)) u w) where
  abbrev v : View
  v = opened_view_of o 0

  abbrev c : ℕ
  c = (setup_for o).capacity

  so : Leaves class v firsts u
  so = leaves class v firsts u (let below = is.last in let l = ((opened_good o ready owners one).set_up 0 v (omega arith) refl).small in
      omega (arith, below, l)) grants

  setup : w.setup ≡ setup_for o
  setup = last.setup ∙ so.setup

  alone : w.setup.seats ≡ 1
  alone = ap (λ (k : Setup). k.seats) setup ∙ one

  small : c ≤ 4096
  small = let room = (opened_good o ready owners one).small in omega (arith, room, largest_capacity_fits)

  few_moves : w.moves ≤ c
  few_moves = let moves = only_moves w alone s in let given = last.most.gives in let none = so.gives in
      let same = ap (λ (k : Setup). k.capacity) setup in omega (arith, moves, given, none, same)

  few_firsts : length firsts ≤ 4096 * 4096
  few_firsts =
      let given = few_given o class firsts u ready owners one is grants has in
      let by_class : blocks_of class * c ≤ 4096 * c = mul-le-mul_right c (few_blocks class is) in
      let room = small in omega (arith, given, by_class, room)

  pub few_tickets : w.draws < 2 ^ 32
  few_tickets =
      let sum = spent class v firsts u grants in
      let more = last.most.draws in
      let cuts = few_cuts o class firsts u ready owners one is grants has in
      let lost = only_losses w alone s in
      let moves = few_moves in
      let blocks = few_firsts in
      let room = small in
      omega (arith, sum, more, cuts, lost, moves, blocks, room)
