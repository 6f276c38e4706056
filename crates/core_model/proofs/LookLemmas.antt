-- A look at the mark, a head, a link or an anchor keeps memory and seats fitting together.
use Rattle.std.proofs.Common.{◌≡◌, ℕ, ◌+◌, ◌<◌, ◌≤◌, inl, inr, Bool, true, false, not, nat_eq, ◌&&◌, List, get_or, set, length, None, Some, refl, ap, sym, subst, ◌∙◌, eq-eqb, length-set, arith}
use Rattle.std.proofs.lemmas.Bool.{cases_eq}
use Rattle.std.proofs.lemmas.List.{get_or-set_other, get_or_default}
use Rattle.heap_model.specs.Geometry.{lists}
use Rattle.heap_model.specs.Words.{head_first}
use Rattle.heap_model.specs.Counting.{one_if}
use Rattle.std.proofs.lemmas.Grind.{get_or-set_at}
use Rattle.core_model.specs.Memory.{Memory, used, head, anchor, link}
use Rattle.core_model.specs.View.{Setup, View, LastLook, times_raw}
use Rattle.core_model.specs.Effects.{seen_word, before, used_up, look}
use Rattle.core_model.specs.Guards.{IsThere, MayLink, MayLookAt}
use Rattle.core_model.specs.Sound.{tally_of, IsTicketDrawn, HasTickets, stale_head, Good}
use Rattle.core_model.proofs.EventStepLemmas.{IsSeat}
use Rattle.core_model.proofs.QuietLemmas.{quiet, words_same, given_up, none_drawn, differs_none, first_small, first_listed, not_there, counts}
use Rattle.core_model.proofs.QuietLemmas

module _ (k : Setup) (m : Memory) (views : List View) (i : ℕ) (v : View) (below : i < length views) (at : get_or views i v ≡ v)
    (good : Good k m views) (ticket : IsThere v.ticket) where
  abbrev seat : IsSeat k m good.shape v
  seat = QuietLemmas.seat k m views i v below at good ticket

  abbrev done_tickets : (w : View) → w.ticket ≡ None → w.last_ticket ≡ v.last_ticket → w.used_look ≡ v.used_look → w.head_looks ≡ v.head_looks
      → counts w ≡ counts v → w.cuts ≡ v.cuts
      → w.losses ≤ v.losses + 1 → HasTickets k.budget m.drawn w
  done_tickets = QuietLemmas.done_tickets k m views i v below at good ticket

  pub look_used : Good k m (set views i (record (used_up v) { seen_used = Some (used m); used_look = look v (used m) }))
  look_used = quiet k m views i v (record (used_up v) { seen_used = Some (used m); used_look = look v (used m) }) below at good refl refl
      (let s = seat.set_up in record {
        setup = s.setup;
        roots = s.roots;
        small = s.small;
        caches = s.caches;
        looks = s.looks;
        volatile = s.volatile;
        durable = s.durable;
      })
      (let s = seat.knows in record {
        seen_head = s.seen_head;
        seen_used = λ _. omega arith;
        looked = omega arith;
        seen_anchor = s.seen_anchor;
        seen_empty = s.seen_empty;
        floor = s.floor;
      })
      (words_same k.capacity m v (record (used_up v) { seen_used = Some (used m); used_look = look v (used m) }) refl refl refl seat.words)
      (let s = seat.tickets in record {
        state = given_up k.budget v.ticket v.last_ticket v.stopped s.state;
        looked_then = (omega arith, omega arith);
        ticket = none_drawn m.drawn;
        last = s.last;
        used_look = s.ticket;
        head_looks = λ list is. looks list is;
        counts = let c = s.counts in omega arith;
        gives = s.gives;
        cuts = s.cuts;
      })
      (omega arith)
      (let e = differs_none (used m) in omega arith) where
        looks : (list : ℕ) → list < lists → IsTicketDrawn m.drawn (get_or v.head_looks list (look v (used m))).ticket
        looks list is = subst (λ (l : LastLook). IsTicketDrawn m.drawn l.ticket)
            (get_or_default v.head_looks list v.used_look (look v (used m)) (let e = seat.set_up.looks in omega arith))
            (seat.tickets.head_looks list is)

  pub look_head : (list : ℕ) → list < lists
      → Good k m (set views i (record (used_up v) {
        seen_head = Some (record { of = list; word = head m list });
        seen_link = None;
        head_looks = set v.head_looks list (look v (head m list));
      }))
  look_head list is = quiet k m views i v (record (used_up v) {
    seen_head = Some (record { of = list; word = head m list });
    seen_link = None;
    head_looks = set v.head_looks list (look v (head m list));
  })
      below at good refl refl
      (let s = seat.set_up in record {
        setup = s.setup;
        roots = s.roots;
        small = s.small;
        caches = s.caches;
        looks = length-set v.head_looks list (look v (head m list)) ∙ s.looks;
        volatile = s.volatile;
        durable = s.durable;
      })
      (let s = seat.knows in record {
        seen_head = λ _. record {
          is_list = is;
          small = first_small k m good.shape (tally_of views) good.shaped list is;
          pops = omega arith;
          listed = λ _ some. first_listed k m good.shape (tally_of views) good.shaped list is some;
          linked = λ e. absurd (not_there e);
        };
        seen_used = s.seen_used;
        looked = s.looked;
        seen_anchor = s.seen_anchor;
        seen_empty = s.seen_empty;
        floor = s.floor;
      })
      (words_same k.capacity m v (record (used_up v) {
        seen_head = Some (record { of = list; word = head m list });
        seen_link = None;
        head_looks = set v.head_looks list (look v (head m list));
      }) refl refl refl seat.words)
      (let s = seat.tickets in record {
        state = given_up k.budget v.ticket v.last_ticket v.stopped s.state;
        looked_then = s.looked_then;
        ticket = none_drawn m.drawn;
        last = s.last;
        used_look = s.used_look;
        head_looks = looks;
        counts = let c = s.counts in omega arith;
        gives = s.gives;
        cuts = s.cuts;
      })
      (omega arith)
      (let e : stale_head m (Some (record { of = list; word = head m list })) ≡ 0 =
      ap (λ t. one_if (not t)) (eq-eqb (head m list) (head m list) refl) in omega arith) where
        looks : (other : ℕ) → other < lists → IsTicketDrawn m.drawn (get_or (set v.head_looks list (look v (head m list))) other v.used_look).ticket
        looks other below_lists = elim (cases_eq other list) [
          | inl same ↦ subst (λ (l : LastLook). IsTicketDrawn m.drawn l.ticket)
              (sym (get_or-set_at v.head_looks list other (look v (head m list)) v.used_look same (let e = seat.set_up.looks in omega arith)))
              seat.tickets.ticket
          | inr apart ↦ subst (λ (l : LastLook). IsTicketDrawn m.drawn l.ticket)
              (sym (get_or-set_other v.head_looks list other (look v (head m list)) v.used_look apart)) (seat.tickets.head_looks other below_lists)
        ]

  pub look_link : MayLink v → Good k m (set views i (record (used_up v) { seen_link = Some (link m (before (head_first (seen_word v.seen_head)))) }))
  look_link may = quiet k m views i v (record (used_up v) { seen_link = Some (link m (before (head_first (seen_word v.seen_head)))) })
      below at good refl refl
      (let s = seat.set_up in record {
        setup = s.setup;
        roots = s.roots;
        small = s.small;
        caches = s.caches;
        looks = s.looks;
        volatile = s.volatile;
        durable = s.durable;
      })
      (let s = seat.knows in record {
        seen_head = λ there. let h = s.seen_head there in record {
          is_list = h.is_list;
          small = h.small;
          pops = h.pops;
          listed = h.listed;
          linked = λ _. (may.some, λ _. refl);
        };
        seen_used = s.seen_used;
        looked = s.looked;
        seen_anchor = s.seen_anchor;
        seen_empty = s.seen_empty;
        floor = s.floor;
      })
      (words_same k.capacity m v (record (used_up v) { seen_link = Some (link m (before (head_first (seen_word v.seen_head)))) })
      refl refl refl seat.words)
      (done_tickets (record (used_up v) { seen_link = Some (link m (before (head_first (seen_word v.seen_head)))) })
      refl refl refl refl refl refl (omega arith))
      (omega arith) (omega arith)

  pub look_anchor : (d : ℕ) → MayLookAt v d → Good k m (set views i (record (used_up v) { seen_anchor = Some (record { of = d; word = anchor m d }) }))
  look_anchor d may = quiet k m views i v (record (used_up v) { seen_anchor = Some (record { of = d; word = anchor m d }) }) below at good refl refl
      (let s = seat.set_up in record {
        setup = s.setup;
        roots = s.roots;
        small = s.small;
        caches = s.caches;
        looks = s.looks;
        volatile = s.volatile;
        durable = s.durable;
      })
      (let s = seat.knows in record {
        seen_head = s.seen_head;
        seen_used = s.seen_used;
        looked = s.looked;
        seen_anchor = λ _. elim may [ inl free ↦ inl free.claimed | inr batch ↦ inr batch ];
        seen_empty = λ _ _ empty. empty;
        floor = s.floor;
      })
      (words_same k.capacity m v (record (used_up v) { seen_anchor = Some (record { of = d; word = anchor m d }) }) refl refl refl seat.words)
      (done_tickets (record (used_up v) { seen_anchor = Some (record { of = d; word = anchor m d }) }) refl refl refl refl refl refl (omega arith))
      (omega arith)
      (let e = fresh_anchor (nat_eq (times_raw d v) 0) (anchor m d) in omega arith) where
        fresh_anchor : (test : Bool) (word : ℕ) → one_if (test && not (nat_eq word word)) ≡ 0
        fresh_anchor true word = ap (λ t. one_if (not t)) (eq-eqb word word refl)
        fresh_anchor false word = refl
