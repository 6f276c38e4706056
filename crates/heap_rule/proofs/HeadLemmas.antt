-- What is kept of a seat after an exchange of a list's head.
use Rattle.std.proofs.Common.{◌≡◌, ◌≢◌, ℕ, zero, suc, ◌-◌, ◌<◌, Bool, true, false, Option, None, cond, nat_lt, ◌+◌, refl, ap, sym, ◌∙◌, arith}
use Rattle.heap_model.specs.Counting.{times}
use Rattle.heap_model.specs.Rest.{list_numbers}
use Rattle.heap_model.specs.Words.{head_first, head_pops}
use Rattle.core_model.specs.declared.event.Event.TheVariants.{Pop, Push}
use Rattle.core_model.specs.Memory.{memory_of, head}
use Rattle.core_model.specs.View.{View, one_if_some}
use Rattle.core_model.specs.Effects.{seen_word, seen_of, before, cleared, claimed, popped, pushed, pushed_raw, pushed_classed}
use Rattle.core_model.specs.Guards.{IsThere}
use Rattle.core_model.proofs.TotalLemmas.{total_at}
use Rattle.core_model.proofs.ListLemmas.{number_once}
use Rattle.seat_state.specs.declared.notes.SeatNotes.{SeatNotes}
use Rattle.seat_state.specs.declared.notes.Seen.{Seen}
use Rattle.seat_state.specs.Notes.{snapshot}
use Rattle.seat_state.proofs.CountLemmas.{total_member}
use Rattle.heap_table.specs.Plays.{HasSoundState, IsEvent}
use Rattle.heap_rule.specs.Seated.{Fits, IsKeptOf}
use Rattle.heap_rule.proofs.SeatLemmas.{keep_fits}
use Rattle.seat_index.proofs.ExchangeLemmas.{hit, missed, before_is}

-- a head that was seen may count one pop more
pub pops_below : (v : View) → HasSoundState v → v.setup.budget < 1099511627776 → IsThere v.ticket → IsThere v.seen_head
    → head_pops (seen_word v.seen_head) < 1099511627775
pops_below v s low ticket some =
    let knows = (s.sound.good.knows s.seat v s.below s.at).seen_head some in
    let b = s.sound.good.adds.budget in
    let tickets = total_at (λ (x : View). one_if_some x.ticket) s.views s.seat v s.below s.at in
    let one = total_member (λ l. head_pops (head (memory_of v.setup.capacity s.words) l)) (seen_of v.seen_head) list_numbers
    (let n = number_once (seen_of v.seen_head) knows.is_list in omega arith) in
    let p = knows.pops in omega arith

-- what is kept of a seat that claims a descriptor
pub claims : (notes : SeatNotes) (v : View) (d list : ℕ) → Fits notes v → Fits notes (claimed v d list)
claims notes v d zero f = record {
  notes_are = record {
    ticket = f.notes_are.ticket;
    stopped = f.notes_are.stopped;
    seen_used = f.notes_are.seen_used;
    seen_head = f.notes_are.seen_head;
    seen_link = f.notes_are.seen_link;
    seen_anchor = f.notes_are.seen_anchor;
  };
  caches = f.caches;
  batch = f.batch;
}
claims notes v d (suc class) f = record {
  notes_are = record {
    ticket = f.notes_are.ticket;
    stopped = f.notes_are.stopped;
    seen_used = f.notes_are.seen_used;
    seen_head = f.notes_are.seen_head;
    seen_link = f.notes_are.seen_link;
    seen_anchor = f.notes_are.seen_anchor;
  };
  caches = f.caches;
  batch = f.batch;
}

pub head_popped : (notes : SeatNotes) (v w : View) (found head_word first d : ℕ) (anchor : Option Seen) → IsKeptOf notes v
    → IsEvent Pop v found w → HasSoundState w → seen_word v.seen_head ≡ head_word → found ≡ head_word
    → first ≡ head_first head_word → d ≡ first - 1 → snapshot anchor ≡ cleared d 1 (snapshot notes.seen_anchor)
    → IsKeptOf (record notes { ticket = None; seen_head = None; seen_link = None; seen_anchor = anchor }) w
head_popped notes v w found head_word first d anchor kept event has is same first_is d_is cleared_is =
    keep_fits _ _ w (event.after ∙ hit found (seen_word v.seen_head) (popped v (before (head_first (seen_word v.seen_head)))) _ (same ∙ sym is)) has
    (claims _ _ (before (head_first (seen_word v.seen_head))) (seen_of v.seen_head) (record {
      notes_are = record {
        ticket = refl;
        stopped = kept.notes_are.stopped;
        seen_used = kept.notes_are.seen_used;
        seen_head = refl;
        seen_link = refl;
        seen_anchor = ap (cleared (before (head_first (seen_word v.seen_head))) 1) kept.notes_are.seen_anchor
            ∙ ap (λ e. cleared e 1 (snapshot notes.seen_anchor)) (before_is (head_first (seen_word v.seen_head)) ∙ ap (λ x. head_first x - 1) is
            ∙ ap (λ x. x - 1) (sym first_is) ∙ sym d_is) ∙ sym cleared_is;
      };
      caches = kept.caches;
      batch = kept.batch;
    }))

pub pop_lost : (notes : SeatNotes) (v w : View) (found head_word : ℕ) → IsKeptOf notes v → IsEvent Pop v found w → HasSoundState w
    → seen_word v.seen_head ≡ head_word → found ≢ head_word
    → IsKeptOf (record notes { ticket = None; seen_head = None }) w
pop_lost notes v w found head_word kept event has is other =
    keep_fits _ _ w (event.after ∙ missed found (seen_word v.seen_head) (popped v (before (head_first (seen_word v.seen_head)))) _
    (λ e. other (e ∙ is))) has (record {
      notes_are = record {
        ticket = refl;
        stopped = kept.notes_are.stopped;
        seen_used = kept.notes_are.seen_used;
        seen_head = refl;
        seen_link = kept.notes_are.seen_link;
        seen_anchor = kept.notes_are.seen_anchor;
      };
      caches = kept.caches;
      batch = kept.batch;
    })

pub head_pushed : (notes : SeatNotes) (v w : View) (d found head_word : ℕ) (anchor : Option Seen) → IsKeptOf notes v
    → IsEvent (Push d) v found w → HasSoundState w → seen_word v.seen_head ≡ head_word → found ≡ head_word
    → snapshot anchor ≡ cleared d 1 (snapshot notes.seen_anchor) → IsKeptOf (record notes { ticket = None; seen_head = None; seen_anchor = anchor }) w
head_pushed notes v w d found head_word anchor kept event has is same cleared_is =
    keep_fits _ _ w (event.after ∙ hit found (seen_word v.seen_head) (pushed v d) _ (same ∙ sym is)) has
    (by_claim (nat_lt 0 (times d v.raw + times d v.split))) where
      by_claim : (raw : Bool) → Fits (record notes { ticket = None; seen_head = None; seen_anchor = anchor })
          (cond raw (pushed_raw v d) (pushed_classed v d))
      by_claim true = record {
        notes_are = record {
          ticket = refl;
          stopped = kept.notes_are.stopped;
          seen_used = kept.notes_are.seen_used;
          seen_head = refl;
          seen_link = kept.notes_are.seen_link;
          seen_anchor = ap (cleared d 1) kept.notes_are.seen_anchor ∙ sym cleared_is;
        };
        caches = kept.caches;
        batch = kept.batch;
      }
      by_claim false = record {
        notes_are = record {
          ticket = refl;
          stopped = kept.notes_are.stopped;
          seen_used = kept.notes_are.seen_used;
          seen_head = refl;
          seen_link = kept.notes_are.seen_link;
          seen_anchor = ap (cleared d 1) kept.notes_are.seen_anchor ∙ sym cleared_is;
        };
        caches = kept.caches;
        batch = kept.batch;
      }

pub push_lost : (notes : SeatNotes) (v w : View) (d found head_word : ℕ) → IsKeptOf notes v → IsEvent (Push d) v found w → HasSoundState w
    → seen_word v.seen_head ≡ head_word → found ≢ head_word
    → IsKeptOf (record notes { ticket = None; seen_head = None }) w
push_lost notes v w d found head_word kept event has is other = keep_fits _ _ w (event.after
    ∙ missed found (seen_word v.seen_head) (pushed v d) _ (λ e. other (e ∙ is))) has (record {
      notes_are = record {
        ticket = refl;
        stopped = kept.notes_are.stopped;
        seen_used = kept.notes_are.seen_used;
        seen_head = refl;
        seen_link = kept.notes_are.seen_link;
        seen_anchor = kept.notes_are.seen_anchor;
      };
      caches = kept.caches;
      batch = kept.batch;
    })
