-- The core after a seat's offer stands for the state with one carrier more.
use Rattle.std.proofs.Common.{◌≡◌, ◌≢◌, ℕ, zero, suc, ◌+◌, ◌<◌, ◌≤◌, inl, inr, List, [], ◌∷◌, ◌++◌, get_or, set, length, None, refl, ap, sym, subst, ◌∙◌, length-set, length-append, nat_eq, true, arith}
use Rattle.std.proofs.lemmas.Bool.{cases_eq, cases_lt}
use Rattle.std.proofs.lemmas.List.{get_or-set_same, get_or-set_other, get_or_append_left}
use Rattle.heap_model.specs.Counting.{one_if, times}
use Rattle.heap_model.specs.declared.block.Block.{Block}
use Rattle.core_model.specs.Carriers.{carrier_of, offered}
use Rattle.core_model.specs.Handing.{after_offer, MayOffer}
use Rattle.core_model.specs.Held.{IsHeld}
use Rattle.core_model.specs.Memory.{memory_of}
use Rattle.core_model.specs.Sound.{Sound}
use Rattle.core_model.specs.Splitting.{chosen}
use Rattle.core_model.specs.Steps.{TableState}
use Rattle.core_model.specs.View.{Setup, View, one_if_some}
use Rattle.core_model.proofs.OfferLemmas.{carries_block, offer_sound, offers_one, stopped_few}
use Rattle.core_model.proofs.ChosenLemmas.{total_behind}
use Rattle.core_model.proofs.TotalLemmas.{total_at, total_set}
use Rattle.seat_state.specs.declared.notes.SeatNotes.{SeatNotes}
use Rattle.seat_state.specs.declared.notes.TheConstants.{NEW_SEAT}
use Rattle.seat_state.specs.Superblocks.{HasSuperblocks}
use Rattle.seat_state.proofs.NewSeat.{no_caches}
use Rattle.crash_core.specs.declared.state.CoreState.{CoreState}
use Rattle.crash_core.specs.Standing.{AreInOrder, HasBlocksOf, IsKept, IsLaden, IsSeatAt, KeepsViews, nobody, Represents}
use Rattle.crash_core.proofs.StandingLemmas.{among}

-- what stays, and what a seat's offer changes beside the owners
pub record IsHanded (c c' : CoreState) (i : ℕ) (t : SeatNotes) : Type 0 where
  pub words : c'.words.items ≡ c.words.items
  pub capacity : c'.geometry.capacity ≡ c.geometry.capacity
  pub budget : c'.budget ≡ c.budget
  pub seats : c'.seats.items ≡ set c.seats.items i (record t { ticket = None })
  pub carriers : c'.carriers ≡ c.carriers + 1
  pub blocks : length c'.blocks.items ≡ length c.blocks.items
  pub superblocks : length c'.superblocks.items ≡ length c.superblocks.items
  pub roots : c'.roots.items ≡ c.roots.items

-- whose small blocks and superblocks they are
pub record HasOwn (c : CoreState) (i : ℕ) (u : View) : Type 0 where
  pub blocks : HasBlocksOf c.blocks.items i u.small u.caches u.batch.blocks
  pub superblocks : HasSuperblocks c.superblocks.items i u.raw u.split u.cutting u.classed u.large

last_there : (xs : List View) (b u : View) (j : ℕ) → j ≡ length xs → get_or (xs ++ b ∷ []) j u ≡ b
last_there [] b u zero same = refl
last_there [] b u (suc j) same = absurd (omega (arith, same))
last_there (x ∷ xs) b u zero same = absurd (omega (arith, same))
last_there (x ∷ xs) b u (suc j) same = last_there xs b u j (omega (arith, same))

module _ (c c' : CoreState) (k : Setup) (s : TableState) (i : ℕ) (v : View) (t : SeatNotes) (block : ℕ) (stands : Represents c k s)
    (at : get_or s.views i v ≡ v) (at_t : IsSeatAt c i t) (may : MayOffer v block)
    (handed : IsHanded c c' i t) (mine : HasOwn c' i (offered v block)) (new : HasOwn c' (length s.views) (carrier_of v block))
    (laden : (b : Block) × IsHeld (carrier_of v block) b)
    (others : (j : ℕ) (u : View) → j ≢ i → j ≢ length s.views → HasOwn c j u → HasOwn c' j u) where
  keeps : KeepsViews c k s.views
  keeps = stands.keeps

  below : i < length s.views
  below = among keeps at_t.less

  abbrev a : View
  a = offered v block

  abbrev b : View
  b = carrier_of v block

  abbrev seated : List View
  seated = set s.views i a

  abbrev views' : List View
  views' = seated ++ b ∷ []

  long : length views' ≡ length s.views + 1
  long = let l = length-append seated (b ∷ []) in let n = length-set s.views i a in omega arith

  same_seats : length c'.seats.items ≡ length c.seats.items
  same_seats = ap length handed.seats ∙ length-set c.seats.items i (record t { ticket = None })

  kept : IsKept c i t v
  kept = keeps.each i t v below at_t at

  kept_mine : IsKept c' i (record t { ticket = None }) a
  kept_mine = let n = kept.notes in record {
    notes = record {
      ticket = refl;
      stopped = n.stopped;
      seen_used = n.seen_used;
      seen_head = n.seen_head;
      seen_link = n.seen_link;
      seen_anchor = n.seen_anchor;
    };
    caches = kept.caches;
    batch = kept.batch;
    blocks = mine.blocks;
    superblocks = mine.superblocks;
    roots = record {
      is_owned = λ n. all_roots n v.roots ∙ kept.roots.is_owned n
          ∙ ap (λ os. one_if (nat_eq (get_or os n (i + 1)) i)) (sym handed.roots);
    };
  } where
    all_roots : (n : ℕ) (roots : List ℕ) → times n (chosen (λ (x : ℕ). true) roots) ≡ times n roots
    all_roots n [] = refl
    all_roots n (x ∷ roots) = ap (λ m. one_if (nat_eq x n) + m) (all_roots n roots)

  kept_new : IsKept c' (length s.views) NEW_SEAT b
  kept_new = record {
    notes = record { ticket = refl; stopped = refl; seen_used = refl; seen_head = refl; seen_link = refl; seen_anchor = refl };
    caches = no_caches;
    batch = record { descriptor = refl; class = refl; first = refl; last = refl; count = refl; linked = refl };
    blocks = new.blocks;
    superblocks = new.superblocks;
    roots = record {
      is_owned = λ n. ap (times n) (carries_block v block).roots ∙ (keeps.none (length s.views) (omega arith)).roots.is_owned n
          ∙ ap (λ os. one_if (nat_eq (get_or os n (length s.views + 1)) (length s.views))) (sym handed.roots);
    };
  }

  kept_other : (j : ℕ) (r : SeatNotes) (u : View) → j ≢ i → j ≢ length s.views → IsKept c j r u → IsKept c' j r u
  kept_other j r u apart old h = let o = others j u apart old (record { blocks = h.blocks; superblocks = h.superblocks }) in record {
    notes = h.notes;
    caches = h.caches;
    batch = h.batch;
    blocks = o.blocks;
    superblocks = o.superblocks;
    roots = record { is_owned = λ n. h.roots.is_owned n ∙ ap (λ os. one_if (nat_eq (get_or os n (j + 1)) j)) (sym handed.roots) };
  }

  -- the view at an index that was there
  old_view : (j : ℕ) (u : View) → j < length s.views → get_or views' j u ≡ u → get_or seated j u ≡ u
  old_view j u less at_u = sym (get_or_append_left seated (b ∷ []) u j (let l = length-set s.views i a in omega arith)) ∙ at_u

  fits : length s.views + 1 < 4611686018427387904
  fits = let m = stands.made in let f = stands.order.few in let o = keeps.low in
      let p = total_at (λ (x : View). one_if_some x.ticket) s.views i v below at in let one = may.may.ticket in
      let w = ap (λ ws. (memory_of k.capacity ws).drawn) stands.words in let d = keeps.sound.good.adds.stopped in
      let most = stopped_few k s.views stands.order.counted in omega arith

  keeps' : KeepsViews c' k views'
  keeps' = record {
    sound = subst (λ ws. Sound k ws views') (sym handed.words) (offer_sound k c.words.items s.views i v block below at keeps.sound);
    capacity = keeps.capacity ∙ sym handed.capacity;
    budget = keeps.budget ∙ sym handed.budget;
    opened = keeps.opened ∙ sym same_seats;
    low = keeps.low;
    few = (let f = fits in let l = long in omega arith);
    seats = (let l = long in let n = keeps.seats in let s' = same_seats in let m = handed.carriers in omega arith);
    blocks = handed.blocks ∙ keeps.blocks;
    superblocks = handed.superblocks ∙ keeps.superblocks;
    roots = ap length handed.roots ∙ keeps.roots;
    each = λ j r u below_j at_r at_u.
        let less_seats : j < length c.seats.items = subst (λ n. j < n) same_seats at_r.less in
        let less : j < length s.views = among keeps less_seats in
        let at_old = old_view j u less at_u in elim (cases_eq j i) [
          | inl here ↦
              let is_a : a ≡ u = sym (get_or-set_same s.views i a u below) ∙ subst (λ n. get_or seated n u ≡ u) here at_old in
              let is_t : record t { ticket = None } ≡ r = sym (get_or-set_same c.seats.items i (record t { ticket = None }) r at_t.less)
              ∙ subst (λ n. get_or (set c.seats.items i (record t { ticket = None })) n r ≡ r) here
              (subst (λ l. get_or l j r ≡ r) handed.seats at_r.at) in
              subst (λ n. IsKept c' n r u) (sym here) (subst (λ x. IsKept c' i x u) is_t
              (subst (λ x. IsKept c' i (record t { ticket = None }) x) is_a kept_mine))
          | inr other ↦ kept_other j r u other (λ e. omega (arith, e, less)) (keeps.each j r u less
              (record {
                less = less_seats;
                at = sym (get_or-set_other c.seats.items i j (record t { ticket = None }) r other)
                    ∙ subst (λ l. get_or l j r ≡ r) handed.seats at_r.at;
              })
              (sym (get_or-set_other s.views i j a u other) ∙ at_old))
        ];
    carried = λ j u past below_j at_u. elim (cases_lt j (length s.views)) [
      | inl less ↦
          let apart : j ≢ i = (λ e. let p = past in let n = same_seats in let l = at_t.less in omega (arith, e, p, n, l)) in
          kept_other j NEW_SEAT u apart (λ e. omega (arith, e, less)) (keeps.carried j u (subst (λ n. n ≤ j) same_seats past) less
          (sym (get_or-set_other s.views i j a u apart) ∙ old_view j u less at_u))
      | inr last ↦
          let is_j : length s.views ≡ j = (let l = long in omega (arith, l, below_j, last)) in
          subst (λ n. IsKept c' n NEW_SEAT u) is_j (subst (IsKept c' (length s.views) NEW_SEAT)
          (sym (last_there seated b u j (let l = length-set s.views i a in omega arith)) ∙ at_u) kept_new)
    ];
    none = λ j past. kept_other j NEW_SEAT (nobody k) (λ e. let l = long in omega (arith, e, l, past, below)) (λ e. let l = long in
        omega (arith, e, l, past)) (keeps.none j (let l = long in omega arith));
  }

  seat_below : i < k.seats
  seat_below = subst (λ n. i < n) (sym keeps.opened) at_t.less

  order' : AreInOrder k views'
  order' = record {
    counted = offers_one k s.views i v a below at stands.order.counted block may.may.seat refl;
    few = stands.order.few;
    all = (let l = long in let o = stands.order.all in omega arith);
    first = λ j u less at_u. let there : j < length s.views = (let o = stands.order.all in omega arith) in
        let at_old = old_view j u there at_u in elim (cases_eq j i) [
          | inl here ↦ ap (λ (x : View). x.carries) (sym (sym (get_or-set_same s.views i a u below)
              ∙ subst (λ n. get_or seated n u ≡ u) here at_old)) ∙ may.may.seat
          | inr other ↦ stands.order.first j u less (sym (get_or-set_other s.views i j a u other) ∙ at_old)
        ];
    behind = λ j u past below_j at_u. elim (cases_lt j (length s.views)) [
      | inl less ↦ stands.order.behind j u past less (sym (get_or-set_other s.views i j a u (λ e. omega (arith, e, past, seat_below)))
          ∙ old_view j u less at_u)
      | inr last ↦ inl (subst IsLaden (sym (last_there seated b u j (let l = length-set s.views i a in let n = long in omega arith)) ∙ at_u)
          (record { carrier = carries_block v block; block = laden.0; holds = laden.1 }))
    ];
  }

  pub offer_stands : Represents c' k (after_offer s i v block)
  offer_stands = record {
    words = handed.words ∙ stands.words;
    keeps = keeps';
    order = order';
    made = (let l = long in let m = stands.made in let one = may.may.ticket in
        let t' = total_set (λ (x : View). one_if_some x.ticket) s.views i v a below at in
        let b' = total_behind (λ (x : View). one_if_some x.ticket) seated b in omega arith);
  }
