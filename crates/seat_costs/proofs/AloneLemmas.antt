-- A seat that is alone: it loses nothing, and what its last looks say from the opening of a heap on.
use Rattle.std.proofs.Common.{◌≡◌, ◌<◌, ℕ, zero, suc, ◌+◌, inl, inr, nat_eq, nat_lt, get_or, set, length, length-set, slice_index, List, [], ◌∷◌, ◌++◌, Contains, refl, ap, sym, subst, ◌∙◌, lt-ltb, arith, length-append}
use Rattle.std.proofs.lemmas.List.{get_or_append_left, get_or-set_same}
use Rattle.heap_model.specs.declared.block.Block.{Block}
use Rattle.heap_model.specs.Counting.{one_if, total}
use Rattle.heap_model.specs.Geometry.{lists, head_word, used_word}
use Rattle.heap_model.specs.Rest.{IsReady}
use Rattle.core_model.specs.declared.event.Event.{Event}
use Rattle.core_model.specs.Effects.{before, place_of}
use Rattle.core_model.specs.ViewAfter.{shifted}
use Rattle.core_model.specs.Memory.{Memory, head, used, memory_of}
use Rattle.core_model.specs.Opening.{AreOwners, opened_view, unlooked}
use Rattle.core_model.specs.Sound.{Good, Sound}
use Rattle.core_model.specs.Steps.{TableState, found_by, seat_after, words_after}
use Rattle.core_model.specs.Carriers.{AreSeatsAndCarriers, carrier_of, offered, one_if_carrier}
use Rattle.core_model.specs.View.{Role, Setup, View}
use Rattle.core_model.proofs.RoleLemmas.{role_after}
use Rattle.core_model.proofs.TotalLemmas.{total_at}
use Rattle.core_model.proofs.OpenLemmas.{length_tabulate, tabulate_at}
use Rattle.core_model.proofs.OpenedLemmas.{opened}
use Rattle.core_model.proofs.PlaceLemmas.{pick}
use Rattle.core_model.proofs.QuietLemmas.{not_there}
use Rattle.core_model.proofs.SoundLemmas.{in_table}
use Rattle.core_model.proofs.TableLemmas.{memory_set}
use Rattle.heap_model.proofs.MemberLemmas.{head_or_rest, in_head, in_none}
use Rattle.heap_table.specs.AtTable.{IsClosedReached}
use Rattle.heap_table.specs.Plays.{IsEvent}
use Rattle.heap_table.specs.Reached.{IsReached, at_opening, by_event, by_record, by_offer, by_accept, in_another_order, learned}
use Rattle.heap_table.specs.Rule.{Opening, opened_view_of, setup_for, state_of}
use Rattle.heap_table.proofs.DealLemmas.{length_total}
use Rattle.heap_table.proofs.ReachedLemmas.{opened_counted, reached_counted, reached_sound}
use Rattle.seat_costs.specs.Alone.{IsSteady, Steady}
use Rattle.seat_costs.proofs.SteadyLemmas.{keeps_steady, looks_say}

-- no other seat has won an exchange
pub none_lost : (k : Setup) (m : Memory) (v : View) → Good k m (v ∷ []) → v.losses ≡ 0
none_lost k m v good = let all = good.lost 0 v (omega arith) refl in omega arith

pub event_won : (event : Event) (v w : View) (found : ℕ) → (e : IsEvent event v found w) → e.before.views ≡ v ∷ [] → w.losses ≡ 0
event_won event v w found e only = none_lost v.setup (memory_of v.setup.capacity (words_after v.setup e.before.words v event)) w
    (subst (λ views. Good v.setup (memory_of v.setup.capacity (words_after v.setup e.before.words v event)) views) alone e.kept.good) where
      first : e.before.seat ≡ 0
      first = let below = e.before.below in let one = ap length only in omega arith

      alone : set e.before.views e.before.seat w ≡ w ∷ []
      alone = ap (λ l. set l e.before.seat w) only ∙ ap (λ n. set (v ∷ []) n w) first

-- nothing was looked at yet
unlooked_steady : (v : View) (word now : ℕ) → IsSteady v (unlooked word) now
unlooked_steady v word now = record { least = omega arith; same = λ there e. absurd (not_there there) }

pub opened_steady : (k : Setup) (held : List Block) (block_owners root_owners : List ℕ) (i : ℕ) (m : Memory)
    → Steady m (opened_view k held block_owners root_owners i)
opened_steady k held block_owners root_owners i m = record {
  used_is = unlooked_steady v k.used (used m);
  heads = λ list less. subst (λ l. IsSteady v l (head m list)) (sym
      (tabulate_at (λ n. unlooked (slice_index k.opened (head_word n))) 0 lists list (unlooked k.used) less))
      (unlooked_steady v (slice_index k.opened (head_word (0 + list))) (head m list));
} where
  v : View
  v = opened_view k held block_owners root_owners i

-- the views of a heap with one seat
pub one_at : (views : List View) (i : ℕ) (v : View) → length views ≡ 1 → i < length views → get_or views i v ≡ v → views ≡ v ∷ []
one_at [] i v one below at = absurd (omega arith)
one_at (u ∷ []) zero v one below at = ap (λ x. x ∷ []) at
one_at (u ∷ []) (suc i) v one below at = absurd (omega arith)
one_at (u ∷ w ∷ views) i v one below at = absurd (omega arith)

pub one_of : (views : List View) (v : View) → length views ≡ 1 → Contains views v → views ≡ v ∷ []
one_of [] v one has = absurd (omega arith)
one_of (u ∷ []) v one has = elim (head_or_rest u v [] has) as (λ _. u ∷ [] ≡ v ∷ [])
    [ inl same ↦ ap (λ x. x ∷ []) same | inr rest ↦ absurd (in_none v rest) ]
one_of (u ∷ w ∷ views) v one has = absurd (omega arith)

-- the view that was set is the one that is there
pub one_set : (views : List View) (i : ℕ) (w v : View) → i < length views → set views i w ≡ v ∷ [] → w ≡ v
one_set views i w v below only = sym (get_or-set_same views i w w below) ∙ ap (λ l. get_or l i w) only ∙ ap (λ n. get_or (v ∷ []) n w) first where
  first : i ≡ 0
  first = let e = length-set views i w in let one = ap length only in omega (arith, e, one)

-- of what a heap comes to whose one seat is steady and has offered nothing, it is steady
reached_steady : (k : Setup) (start : TableState) → Sound k start.words start.views → AreSeatsAndCarriers k start.views
    → ((v : View) → start.views ≡ v ∷ [] → Steady (memory_of k.capacity start.words) v)
    → (words : List ℕ) (views : List View) → IsReached k start words views → (v : View) → views ≡ v ∷ [] → v.offers ≡ 0
    → Steady (memory_of k.capacity words) v
reached_steady k start sound counted begins _ _ at_opening v only none = begins v only
reached_steady k start sound counted begins _ _ (by_event words views i u event before below at seat may) v only none =
    subst (Steady (memory_of k.capacity (words_after k words u event))) (one_set views i (seat_after m u event) v below only)
    (subst (λ n. Steady n (seat_after m u event)) (sym (memory_set k.capacity words (place_of u event) _ so_far.long
    (in_table k m views i u below at so_far.good event may)))
    (looks_say k m u event (subst (Good k m) alone so_far.good) may
    (reached_steady k start sound counted begins words views before u alone
    (ap (λ (r : Role). r.offers) (sym (role_after m u event (found_by m u event)))
    ∙ ap (λ (x : View). x.offers) (one_set views i (seat_after m u event) v below only) ∙ none)))) where
      m : Memory
      m = memory_of k.capacity words

      so_far : Sound k words views
      so_far = reached_sound k start sound words views before

      alone : views ≡ u ∷ []
      alone = one_at views i u (sym (length-set views i (seat_after m u event)) ∙ ap length only) below at
reached_steady k start sound counted begins _ _ (by_record words views i u word before below at own) v only none =
    subst (Steady (memory_of k.capacity words)) (one_set views i (learned u word (get_or words word 0)) v below only)
    (keeps_steady (memory_of k.capacity words) (memory_of k.capacity words) u (learned u word (get_or words word 0))
    (record { used_look = refl; head_looks = refl; wins = omega arith }) (λ e. refl) (λ list e. refl)
    (reached_steady k start sound counted begins words views before u
    (one_at views i u (sym (length-set views i (learned u word (get_or words word 0))) ∙ ap length only) below at)
    (ap (λ (x : View). x.offers) (one_set views i (learned u word (get_or words word 0)) v below only) ∙ none)))
reached_steady k start sound counted begins _ _ (by_offer words views i u b before below at may held) v only none =
    absurd (let l = ap length only in let a = length-append (set views i (offered u b.first_word)) (carrier_of u b.first_word ∷ []) in
    let n = length-set views i (offered u b.first_word) in omega (arith, l, a, n, below))
reached_steady k start sound counted begins _ _ (by_accept words old new u c before has_u has_c may carries less) v only none = absurd
    (let s = less.sums (λ (x : View). x.offers) in let t = ap (total (λ (x : View). x.offers)) only in
    let are = reached_counted k start counted words old before in
    let held = are.carriers in let one = total_at one_if_carrier old has_c.0 c has_c.1 has_c.2 in
    let is = ap (λ n. one_if (nat_eq n 1)) carries.is_one in let h = carries.handed.0 in omega (arith, s, t, held, one, is, h, none))
reached_steady k start sound counted begins _ _ (in_another_order words old new before same) v only none =
    reached_steady k start sound counted begins words old before v
    (one_of old v (length_total old ∙ sym (same.sums (λ (u : View). 1)) ∙ sym (length_total new) ∙ ap length only)
    (same.members v (subst (λ l. Contains l v) (sym only) (in_head v [])))) none

pub left_steady : (o : Opening) (now kept : List ℕ) (v : View) → IsReady o.words o.held → AreOwners o.held o.seats o.block_owners o.root_owners
    → IsClosedReached o now kept (v ∷ [])
    → v.offers ≡ 0 → IsSteady v v.used_look (slice_index now used_word)
    × ((list : ℕ) → list < lists → IsSteady v (get_or v.head_looks list v.used_look) (slice_index now (head_word list)))
left_steady o now kept v ready owners closed none = (
  subst (IsSteady v v.used_look) (at_now used_word (let l = closed.now_long in omega (arith, l))) steady.used_is,
  λ list less. subst (IsSteady v (get_or v.head_looks list v.used_look)) (pick (nat_lt list lists) _ 0 (lt-ltb list lists less)
      ∙ at_now (head_word list) (let l = closed.now_long in omega (arith, l, less))) (steady.heads list less),
) where
  at_now : (n : ℕ) → n < length now → get_or (now ++ (kept ++ (closed.drawn ∷ []))) n 0 ≡ slice_index now n
  at_now n less = get_or_append_left now (kept ++ (closed.drawn ∷ [])) 0 n less

  opened_one : (u : View) → (state_of o).views ≡ u ∷ [] → Steady (memory_of (setup_for o).capacity (state_of o).words) u
  opened_one u only = subst (Steady (memory_of (setup_for o).capacity (state_of o).words))
      (sym (tabulate_at (opened_view_of o) 0 o.seats 0 u one) ∙ ap (λ l. get_or l 0 u) only)
      (opened_steady (setup_for o) o.held o.block_owners o.root_owners 0 (memory_of (setup_for o).capacity (state_of o).words)) where
        one : 0 < o.seats
        one = let e = length_tabulate (opened_view_of o) 0 o.seats in let l = ap length only in omega (arith, e, l)

  steady : Steady (memory_of (setup_for o).capacity (now ++ (kept ++ (closed.drawn ∷ [])))) v
  steady = reached_steady (setup_for o) (state_of o) (opened o.words o.held o.budget o.seats o.block_owners o.root_owners ready owners)
      (opened_counted o) opened_one _ (v ∷ []) closed.reached v refl none
