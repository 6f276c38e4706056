-- What is kept of a heap at rest, as it is opened for some seats.
use Rattle.std.proofs.Common.{◌≡◌, ◌≢◌, ℕ, zero, suc, ◌+◌, ◌<◌, ◌≤◌, nat_eq, List, [], ◌∷◌, ◌++◌, Contains, get_or, length, replicate, slice_index, refl, ap, sym, subst, ◌∙◌, arith}
use Rattle.std.proofs.lemmas.List.{get_or-replicate, length-replicate}
use Rattle.heap_model.specs.declared.block.Block.{Block}
use Rattle.heap_model.specs.Geometry.{roots, capacity_word}
use Rattle.heap_model.specs.Counting.{one_if, total}
use Rattle.heap_model.specs.Rest.{IsReady}
use Rattle.core_model.specs.Opening.{AreOwners, picked, plain_view, tabulate, setup_of, opened_view, opened_state}
use Rattle.core_model.specs.Effects.{steps, trimmed}
use Rattle.core_model.specs.View.{Setup, View, one_if_some}
use Rattle.core_model.proofs.OpenedSeats.{seats_counted}
use Rattle.core_model.proofs.PlaceLemmas.{not-eq, skip}
use Rattle.heap_model.proofs.MemberLemmas.{in_head, in_rest}
use Rattle.core_model.specs.Sound.{Sound}
use Rattle.core_model.proofs.OpenLemmas.{length_tabulate, tabulate_at}
use Rattle.core_model.proofs.OpenedLemmas.{opened}
use Rattle.crash_core.specs.declared.state.CoreState.{CoreState}
use Rattle.crash_core.specs.OpenedOwners.{AreBlockOwners}
use Rattle.seat_state.specs.OpenedSuperblocks.{AreSuperblockOwners}
use Rattle.crash_core.specs.Standing.{IsKept, nobody, Represents}
use Rattle.seat_state.proofs.PickedLemmas.{roots_of}
use Rattle.seat_state.proofs.NewSeat.{new_seat, no_caches}

-- a seat past the last owner gets nothing
picked_none : {A : Type 0} (j : ℕ) (xs : List A) (owners : List ℕ) → ((o : ℕ) → Contains owners o → o ≢ j) → picked j xs owners ≡ []
picked_none j [] owners apart = refl
picked_none j (x ∷ xs) [] apart = refl
picked_none j (x ∷ xs) (o ∷ owners) apart = skip (nat_eq o j) (x ∷ picked j xs owners) (picked j xs owners)
    (not-eq o j (apart o (in_head o owners))) ∙ picked_none j xs owners (λ p there. apart p (in_rest o p owners there))

-- what a core has that keeps an opened heap
pub record IsOpened (c : CoreState) (words : List ℕ) (held : List Block) (budget seats : ℕ) (block_owners root_owners : List ℕ) : Type 0 where
  pub words_are : c.words.items ≡ words ++ (words ++ (0 ∷ []))
  pub capacity : c.geometry.capacity ≡ slice_index words capacity_word
  pub budget_is : c.budget ≡ budget
  pub seats_are : c.seats.items ≡ replicate seats new_seat
  pub no_carriers : c.carriers ≡ 0
  pub blocks : AreBlockOwners words held block_owners c.blocks.items
  pub superblocks : AreSuperblockOwners words held block_owners c.superblocks.items
  pub roots_are : c.roots.items ≡ root_owners

pub stands : (c : CoreState) (words : List ℕ) (held : List Block) (budget seats : ℕ) (block_owners root_owners : List ℕ)
    → IsOpened c words held budget seats block_owners root_owners
    → IsReady words held → AreOwners held seats block_owners root_owners → seats ≤ 8 → budget < 1099511627776
    → Represents c (setup_of words budget seats) (opened_state (setup_of words budget seats) held block_owners root_owners seats)
stands c words held budget seats block_owners root_owners is ready owners few low = record {
  words = is.words_are;
  keeps = record {
    sound = subst (λ ws. Sound k ws views) (sym is.words_are) (opened words held budget seats block_owners root_owners ready owners);
    capacity = sym is.capacity;
    budget = sym is.budget_is;
    opened = sym long;
    low = low;
    few = (let l = length_tabulate V 0 seats in omega arith);
    seats = (let l = length_tabulate V 0 seats in let n = long in let none = is.no_carriers in omega arith);
    blocks = is.blocks.long;
    superblocks = is.superblocks.long;
    roots = ap length is.roots_are ∙ owners.roots_all;
    each = λ i t v below at_t at. let less : i < seats = (let l = length_tabulate V 0 seats in omega arith) in
        subst (IsKept c i t) (sym (tabulate_at V 0 seats i v less) ∙ at)
        (subst (λ s. IsKept c i s (V (0 + i))) (sym (get_or-replicate seats i new_seat t less) ∙ ap (λ l. get_or l i t) (sym is.seats_are)
        ∙ at_t.at) (subst (λ j. IsKept c i new_seat (V j)) (let e : i ≡ 0 + i = omega arith in e) (kept i)));
    carried = λ j u past below at. absurd (let l = length_tabulate V 0 seats in let n = long in omega (arith, l, n, past, below));
    none = λ j past. let far : seats ≤ j = (let l = length_tabulate V 0 seats in omega (arith, l, past)) in kept_none j far;
  };
  order = record {
    counted = seats_counted k V (λ i. refl) 0 seats;
    few = few;
    all = (let l = length_tabulate V 0 seats in omega arith);
    first = λ i v less at. ap (λ (x : View). x.carries) (sym (sym (tabulate_at V 0 seats i v less) ∙ at));
    behind = λ j u past below at. absurd (let l = length_tabulate V 0 seats in omega (arith, l, past, below));
  };
  made = (let l = length_tabulate V 0 seats in let z = no_tickets 0 seats in omega arith);
} where
  k : Setup
  k = setup_of words budget seats

  V : ℕ → View
  V = opened_view k held block_owners root_owners

  views : List View
  views = (opened_state k held block_owners root_owners seats).views

  kept : (i : ℕ) → IsKept c i new_seat (V i)
  kept i = record {
    notes = record { ticket = refl; stopped = refl; seen_used = refl; seen_head = refl; seen_link = refl; seen_anchor = refl };
    caches = no_caches;
    batch = record { descriptor = refl; class = refl; first = refl; last = refl; count = refl; linked = refl };
    blocks = is.blocks.each i;
    superblocks = is.superblocks.each i;
    roots = record {
      is_owned = λ n. roots_of i roots root_owners owners.roots_all n
          ∙ ap (λ os. one_if (nat_eq (get_or os n (i + 1)) i)) (sym is.roots_are);
    };
  }

  long : length c.seats.items ≡ seats
  long = ap length is.seats_are ∙ length-replicate seats new_seat

  kept_none : (j : ℕ) → seats ≤ j → IsKept c j new_seat (nobody k)
  kept_none j far =
      let h = subst (λ (p : List Block × List ℕ). IsKept c j new_seat (trimmed (plain_view k p.0 p.1)))
      (λ i. (
        picked_none j held block_owners (λ o there. let l = owners.block_seats o there in omega (arith, l, far)) i,
        picked_none j (steps 0 1 roots) root_owners (λ o there. let l = owners.root_seats o there in omega (arith, l, far)) i,
      )) (kept j) in
      record {
        notes = (let n = h.notes in record {
          ticket = n.ticket;
          stopped = n.stopped;
          seen_used = n.seen_used;
          seen_head = n.seen_head;
          seen_link = n.seen_link;
          seen_anchor = n.seen_anchor;
        });
        caches = h.caches;
        batch = h.batch;
        blocks = h.blocks;
        superblocks = h.superblocks;
        roots = h.roots;
      }

  no_tickets : (i n : ℕ) → total (λ (v : View). one_if_some v.ticket) (tabulate V i n) ≡ 0
  no_tickets i zero = refl
  no_tickets i (suc n) = let rest = no_tickets (i + 1) n in omega arith
