-- Making the mark durable keeps memory and seats fitting together.
use Rattle.std.proofs.Common.{◌≡◌, ℕ, ◌<◌, max, List, get_or, set, length, refl, ap, sym, subst, arith}
use Rattle.core_model.specs.Cells.{used_cell}
use Rattle.core_model.specs.Memory.{Memory, durable_at, durable_used, anchor, write}
use Rattle.core_model.specs.View.{Setup, View}
use Rattle.core_model.specs.Effects.{seen, used_up}
use Rattle.core_model.specs.Guards.{IsThere}
use Rattle.core_model.specs.Sound.{tally_of, IsInShape, times_parked, empties, Good}
use Rattle.core_model.proofs.TotalLemmas.{total_same}
use Rattle.core_model.proofs.FrameLemmas.{untouched, words_frame}
use Rattle.core_model.proofs.EventStepLemmas.{IsSeat, good_step, adds_step, tally_same}
use Rattle.core_model.proofs.QuietLemmas.{done_tickets, words_same}
use Rattle.core_model.proofs.FreshLemmas

module _ (k : Setup) (m : Memory) (views : List View) (i : ℕ) (v : View) (below_i : i < length views) (at : get_or views i v ≡ v)
    (good : Good k m views) where
  abbrev seat : IsSeat k m good.shape v
  seat = FreshLemmas.seat k m views i v below_i at good

  -- the mark becomes durable
  pub keep_used : IsThere v.ticket → IsThere v.seen_used
      → Good k (write m (durable_at used_cell) (max (durable_used m) (seen v.seen_used)))
      (set views i (record (used_up v) { floor = max v.floor (seen v.seen_used) }))
  keep_used ticket there = good_step k m m' views i v w good good.shape below_i at
      (subst (IsInShape k.capacity m' good.shape) (sym tally) (let s = good.shaped in record {
        lists = s.lists;
        placed = s.placed;
        untaken = record { blank = λ d past below_c. let b = s.untaken.blank d past below_c in record { volatile = b.volatile; durable = b.durable } };
        listed = s.listed;
        chained = s.chained;
        durable = let d = s.durable in let old = d.behind in let known_used = seat.knows.seen_used there in record {
          behind = omega arith;
          room = d.room;
          below = λ e some. let less = d.below e some in omega arith;
          infos = d.infos;
        };
      }))
      (let s = seat.set_up in record {
        set_up = record {
          setup = s.setup;
          roots = s.roots;
          small = s.small;
          caches = s.caches;
          looks = s.looks;
          volatile = s.volatile;
          durable = s.durable;
        };
        claims = seat.claims;
        blocks = seat.blocks;
        knows = (let n = seat.knows in record {
          seen_head = n.seen_head;
          seen_used = n.seen_used;
          looked = n.looked;
          seen_anchor = n.seen_anchor;
          seen_empty = n.seen_empty;
          floor = let f = n.floor in omega arith;
        });
        words = words_frame k.capacity m m' w (λ cell own. refl) (λ cell own. untouched w m.durable used_cell
            (max (durable_used m) (seen v.seen_used)) cell refl own) (words_same k.capacity m v w refl refl refl seat.words);
        tickets = done_tickets k m views i v below_i at good ticket w refl refl refl refl refl refl (omega arith);
      })
      (λ j u other b a h. record {
        set_up = h.set_up;
        claims = h.claims;
        blocks = h.blocks;
        knows = (let n = h.knows in record {
          seen_head = n.seen_head;
          seen_used = n.seen_used;
          looked = n.looked;
          seen_anchor = n.seen_anchor;
          seen_empty = n.seen_empty;
          floor = let f = n.floor in omega arith;
        });
        words = words_frame k.capacity m m' u (λ cell own. refl) (λ cell own. untouched u m.durable used_cell
            (max (durable_used m) (seen v.seen_used)) cell refl own) h.words;
        tickets = h.tickets;
      })
      (adds_step k m m' views i v w below_i at good.adds refl refl refl refl (omega arith) (omega arith))
      (record { mine = omega arith; more = omega arith })
      (λ j u other b a. omega arith)
      (let old = good.moves in let gives = total_same (λ (u : View). u.gives) views i v w below_i at refl in
      let moves = total_same (λ (u : View). u.moves) views i v w below_i at refl in
      let empty = ap (λ t. empties k.capacity (anchor m) (times_parked good.shape t)) tally in omega arith) where
        m' : Memory
        m' = write m (durable_at used_cell) (max (durable_used m) (seen v.seen_used))

        w : View
        w = record (used_up v) { floor = max v.floor (seen v.seen_used) }

        tally : tally_of (set views i w) ≡ tally_of views
        tally = tally_same views i v w below_i at refl
