-- A draw: a ticket comes into the hand, or the seat stops.
use Rattle.std.proofs.Common.{◌≡◌, ℕ, ◌+◌, ◌<◌, ◌≤◌, List, get_or, set, length, Option, None, Some, refl, ap, sym, subst, arith}
use Rattle.heap_model.specs.Words.{head_pops}
use Rattle.heap_model.specs.Rest.{list_numbers}
use Rattle.heap_model.specs.Counting.{times, total}
use Rattle.core_model.specs.Memory.{Memory, tickets, head, anchor, write}
use Rattle.core_model.specs.View.{Setup, View, one_if_some}
use Rattle.core_model.specs.Effects.{seen, drew, stopped}
use Rattle.core_model.specs.Sound.{tally_of, IsInShape, IsSetUp, HasClaims, HasBlocks, Knows, IsTicketDrawn, HasTickets, stale, times_parked, empties, Good}
use Rattle.core_model.proofs.TotalLemmas.{total_set, total_same}
use Rattle.core_model.proofs.QuietLemmas.{words_same, none_drawn, not_there}
use Rattle.core_model.proofs.EventStepLemmas.{IsSeat, seat_at, good_step, Parts, parts, tally_same}
use Rattle.core_model.specs.Cells.{info_cell, anchor_cell, data_cell}

drawn_later : (drawn : ℕ) (ticket : Option ℕ) → IsTicketDrawn drawn ticket → IsTicketDrawn (drawn + 1) ticket
drawn_later drawn ticket d = record { is_drawn = λ there. let l = d.is_drawn there in omega arith }

module _ (k : Setup) (m : Memory) (views : List View) (i : ℕ) (v : View) (below_i : i < length views) (at : get_or views i v ≡ v)
    (good : Good k m views) (going : one_if_some v.stopped ≡ 0) where
  seat : IsSeat k m good.shape v
  seat = seat_at k m views good i v below_i at

  abbrev m' : Memory
  m' = write m tickets (m.drawn + 1)

  others : (u : View) → IsSeat k m good.shape u → IsSeat k m' good.shape u
  others u h = record {
    set_up = h.set_up;
    claims = h.claims;
    blocks = h.blocks;
    knows = (let s = h.knows in record {
      seen_head = s.seen_head;
      seen_used = s.seen_used;
      looked = s.looked;
      seen_anchor = s.seen_anchor;
      seen_empty = s.seen_empty;
      floor = s.floor;
    });
    words = (let w = h.words in record { volatile = w.volatile; durable = w.durable });
    tickets = (let t = h.tickets in record {
      ticket = drawn_later m.drawn u.ticket t.ticket;
      last = drawn_later m.drawn u.last_ticket t.last;
      used_look = drawn_later m.drawn u.used_look.ticket t.used_look;
      head_looks = λ list is. drawn_later m.drawn (get_or u.head_looks list u.used_look).ticket (t.head_looks list is);
      counts = t.counts;
      state = t.state;
      looked_then = t.looked_then;
      gives = t.gives;
      cuts = t.cuts;
    });
  }

  -- the seat has one draw more, and a ticket or a stop
  after_draw : (w : View) → parts w ≡ parts v → IsSetUp k w → Knows k.capacity m' good.shape w → w.volatile ≡ v.volatile → w.durable ≡ v.durable
      → HasTickets k.budget m'.drawn w
      → w.draws ≡ v.draws + 1 → w.taken ≡ v.taken → w.gives ≡ v.gives → w.moves ≡ v.moves → w.wins ≡ v.wins → w.losses ≡ v.losses
      → stale m' w ≤ stale m v
      → one_if_some w.ticket + one_if_some w.stopped ≡ 1 → (one_if_some w.ticket ≡ 1 → m.drawn < k.budget)
      → Good k m' (set views i w)
  after_draw w same set_up knows volatile durable has draws taken gives moves wins losses stales one room =
      good_step k m m' views i v w good good.shape below_i at
      (subst (IsInShape k.capacity m' good.shape) (sym tally) (let s = good.shaped in record {
        lists = s.lists;
        placed = s.placed;
        untaken = record { blank = λ e past below_c. let b = s.untaken.blank e past below_c in record { volatile = b.volatile; durable = b.durable } };
        listed = s.listed;
        chained = s.chained;
        durable = s.durable;
      }))
      (record {
        set_up = set_up;
        claims = subst (λ (p : Parts). HasClaims (λ d. m.volatile (info_cell d))
            (λ d. m.volatile (anchor_cell d)) p.raw p.split p.cutting p.classed p.large) (sym same) seat.claims;
        blocks = subst (λ (p : Parts). HasBlocks p.setup.capacity (λ d. m.volatile (info_cell d))
            (λ d. m.volatile (data_cell d)) p.small p.caches p.batch) (sym same) seat.blocks;
        knows = knows;
        words = words_same k.capacity m' v w same volatile durable (let w = seat.words in record { volatile = w.volatile; durable = w.durable });
        tickets = has;
      })
      (λ j u other b a h. others u h)
      (record {
        draws = (let a = good.adds.draws in let s = total_set (λ (x : View). x.draws) views i v w below_i at in omega arith);
        pops = (let a = good.adds.pops in let s = total_set (λ (x : View). one_if_some x.ticket) views i v w below_i at in omega arith);
        budget = by_ticket w.ticket refl;
        stopped = (let a = good.adds.stopped in let s = total_set (λ (x : View). one_if_some x.stopped) views i v w below_i at in
            by_stop w.ticket refl s a);
        taken = (let a = good.adds.taken in let s = total_same (λ (x : View). x.taken) views i v w below_i at taken in omega arith);
        roots = λ n. let s = total_same (λ (x : View). times n x.roots) views i v w below_i at (ap (λ (p : Parts). times n p.roots) same) in
            let a = good.adds.roots n in omega arith;
      })
      (record { mine = omega arith; more = omega arith })
      (λ j u other b a. omega arith)
      (let old = good.moves in let g = total_same (λ (x : View). x.gives) views i v w below_i at gives in
      let n = total_same (λ (x : View). x.moves) views i v w below_i at moves in
      let empty = ap (λ t. empties k.capacity (anchor m) (times_parked good.shape t)) tally in omega arith) where
        tally : tally_of (set views i w) ≡ tally_of views
        tally = tally_same views i v w below_i at same

        by_ticket : (t : Option ℕ) → w.ticket ≡ t → total (λ list. head_pops (head m list)) list_numbers + total
            (λ (x : View). one_if_some x.ticket) (set views i w) ≤ k.budget
        by_ticket None e = let a = good.adds.budget in let s = total_set (λ (x : View). one_if_some x.ticket) views i v w below_i at in
            let n = ap one_if_some e in omega arith
        by_ticket (Some t) e = let a = good.adds.pops in let s = total_set (λ (x : View). one_if_some x.ticket) views i v w below_i at in
            let n = ap one_if_some e in let r = room n in omega arith

        by_stop : (t : Option ℕ) → w.ticket ≡ t → total (λ (x : View). one_if_some x.stopped) (set views i w) + one_if_some v.stopped ≡ total
            (λ (x : View). one_if_some x.stopped) views + one_if_some w.stopped
            → m.drawn ≤ k.budget + total (λ (x : View). one_if_some x.stopped) views
            → m.drawn + 1 ≤ k.budget + total (λ (x : View). one_if_some x.stopped) (set views i w)
        by_stop None e s a = let n = ap one_if_some e in omega arith
        by_stop (Some t) e s a = let n = ap one_if_some e in let r = room n in omega arith

  pub draw : m.drawn < v.setup.budget → Good k m' (set views i (drew v m.drawn))
  draw room = after_draw (drew v m.drawn) refl
      (let s = seat.set_up in record {
        setup = s.setup;
        roots = s.roots;
        small = s.small;
        caches = s.caches;
        looks = s.looks;
        volatile = s.volatile;
        durable = s.durable;
      })
      (let s = seat.knows in record {
        seen_head = s.seen_head;
        seen_used = s.seen_used;
        looked = s.looked;
        seen_anchor = s.seen_anchor;
        seen_empty = s.seen_empty;
        floor = s.floor;
      }) refl refl
      (let t = seat.tickets in record {
        ticket = record { is_drawn = λ _. omega arith };
        last = record { is_drawn = λ _. omega arith };
        used_look = drawn_later m.drawn v.used_look.ticket t.used_look;
        head_looks = λ list is. drawn_later m.drawn (get_or v.head_looks list v.used_look).ticket (t.head_looks list is);
        counts = (let c = t.counts in omega arith);
        state = record {
          stopping = λ n e. absurd (let s = ap one_if_some e in omega arith);
          in_hand = λ _. (refl, let e = ap (λ (s : Setup). s.budget) seat.set_up.setup in omega arith);
          going = λ _ _. let e = ap (λ (s : Setup). s.budget) seat.set_up.setup in omega arith;
        };
        looked_then = t.looked_then;
        gives = t.gives;
        cuts = let c = t.cuts in omega arith;
      })
      refl refl refl refl refl refl (omega arith) (omega arith) (λ _. let e = ap (λ (s : Setup). s.budget) seat.set_up.setup in omega arith)

  pub stop : v.setup.budget ≤ m.drawn → Good k m' (set views i (stopped v m.drawn))
  stop spent = after_draw (stopped v m.drawn) refl
      (let s = seat.set_up in record {
        setup = s.setup;
        roots = s.roots;
        small = s.small;
        caches = s.caches;
        looks = s.looks;
        volatile = s.volatile;
        durable = s.durable;
      })
      (let s = seat.knows in record {
        seen_head = s.seen_head;
        seen_used = s.seen_used;
        looked = s.looked;
        seen_anchor = s.seen_anchor;
        seen_empty = s.seen_empty;
        floor = s.floor;
      }) refl refl
      (let t = seat.tickets in record {
        ticket = none_drawn (m.drawn + 1);
        last = record { is_drawn = λ _. omega arith };
        used_look = drawn_later m.drawn v.used_look.ticket t.used_look;
        head_looks = λ list is. drawn_later m.drawn (get_or v.head_looks list v.used_look).ticket (t.head_looks list is);
        counts = (let c = t.counts in omega arith);
        state = record {
          stopping = λ n e. (let b = ap (λ (s : Setup). s.budget) seat.set_up.setup in let d = ap seen e in omega arith, e, refl);
          in_hand = λ e. absurd (not_there e);
          going = λ e. absurd (let s = ap one_if_some e in omega arith);
        };
        looked_then = t.looked_then;
        gives = t.gives;
        cuts = let c = t.cuts in omega arith;
      })
      refl refl refl refl refl refl (omega arith) (omega arith) (λ e. absurd (omega (arith, e)))
