-- A seat that offers a block, or takes in what a carrier has, keeps the rule; and what it then has.
use Rattle.std.proofs.Common.{◌≡◌, ℕ, zero, suc, ◌+◌, ◌<◌, inl, inr, List, [], ◌∷◌, ◌++◌, Contains, get_or, length, length-append, length-set, set, refl, ap, sym, subst, ◌∙◌, append_assoc, arith}
use Rattle.std.proofs.lemmas.List.{get_or-set_same, get_or_append_left, set-get_or}
use mathlib.Core.Option.{some, some-ne-none}
use lib.ListN.{get_elem?}
use Rattle.heap_model.specs.declared.block.Block.{Block}
use Rattle.heap_model.specs.Counting.{total}
use Rattle.heap_model.proofs.MemberLemmas.{head_or_rest, in_head, in_none, in_rest}
use Rattle.atomic_table.specs.Seated.{TableId}
use Rattle.atomic_table.specs.Table.{Allows, Me, Splits, State, keeps}
use Rattle.atomic_table.proofs.Lists.{set_again}
use Rattle.core_model.specs.Carriers.{accepted, AreOneLess, AreSeatsAndCarriers, carrier_of, IsCarrier, MayHand, offered}
use Rattle.core_model.specs.Held.{IsHeld}
use Rattle.core_model.specs.Sound.{Sound}
use Rattle.core_model.specs.View.{View}
use Rattle.core_model.proofs.CarrierLemmas.{join_sound}
use Rattle.core_model.proofs.OfferLemmas.{accepts_one, offer_sound, offers_one}
use Rattle.heap_table.specs.AtTable.{IsAt, SharedView}
use Rattle.heap_table.specs.Plays.{AreInOneState, DidAccept, DidReadBoth, HasSoundState}
use Rattle.heap_table.specs.Reached.{IsReached, by_offer, by_accept}
use Rattle.heap_table.specs.Rule.{HasAllSeats, Opening, Holds, setup_for, state_of}
use Rattle.heap_table.specs.SeatViews.{SeatViews, IsSingle, all_views, view_in}
use Rattle.heap_table.proofs.DealLemmas.{in_all, of_set, total_set_group}
use Rattle.heap_table.proofs.RuleLemmas.{state_with}
use Rattle.heap_table.proofs.SeatViewsLemmas.{offset, offset_below, at_offset, set_offset, group_at, group_below}

all_last : (groups : List SeatViews) (v : View) → all_views (groups ++ (v ∷ []) ∷ []) ≡ all_views groups ++ v ∷ []
all_last [] v = refl
all_last (j ∷ groups) v = ap (λ vs. j ++ vs) (all_last groups v) ∙ sym (append_assoc j (all_views groups) (v ∷ []))

-- a seat that offers a block keeps the rule
pub offers : (o : Opening) (id : ℕ) (group : SeatViews) (v : View) (b : Block) → IsSingle group v → MayHand v → IsHeld v b
    → Splits (Holds o) id group (offered v b.first_word ∷ []) (carrier_of v b.first_word ∷ [])
offers o id group v b single may held s holds at = record {
  reached = subst (IsReached (setup_for o) (state_of o) s.words) (sym same)
      (by_offer s.words (all_views s.views) i v b holds.reached below is may held);
  sound = subst (Sound (setup_for o) s.words) (sym same) (offer_sound (setup_for o) s.words (all_views s.views) i v b.first_word below is holds.sound);
  counted = subst (AreSeatsAndCarriers (setup_for o)) (sym same) (offers_one (setup_for o) (all_views s.views) i v
      (offered v b.first_word) below is holds.counted b.first_word may.seat refl);
  few = holds.few;
  low = holds.low;
} where
  i : ℕ
  i = offset id s.views

  below : i < length (all_views s.views)
  below = offset_below s.views id group v at single

  is : get_or (all_views s.views) i v ≡ v
  is = at_offset s.views id group v at single

  same : all_views (set s.views id (offered v b.first_word ∷ []) ++ (carrier_of v b.first_word ∷ []) ∷ []) ≡ set (all_views s.views) i
      (offered v b.first_word) ++ carrier_of v b.first_word ∷ []
  same = all_last (set s.views id (offered v b.first_word ∷ [])) (carrier_of v b.first_word)
      ∙ ap (λ vs. vs ++ carrier_of v b.first_word ∷ []) (set_offset s.views id group v (offered v b.first_word) at single)

-- the same sound state, after the offer
pub has_offered : (v : View) (block : ℕ) → HasSoundState v → HasSoundState (offered v block)
has_offered v block s = record {
  words = s.words;
  views = set s.views s.seat (offered v block) ++ carrier_of v block ∷ [];
  seat = s.seat;
  sound = offer_sound v.setup s.words s.views s.seat v block s.below s.at s.sound;
  counted = offers_one v.setup s.views s.seat v (offered v block) s.below s.at s.counted block s.is_seat refl;
  is_seat = s.is_seat;
  below = let l = length-append (set s.views s.seat (offered v block)) (carrier_of v block ∷ []) in
      let n = length-set s.views s.seat (offered v block) in let b = s.below in omega arith;
  at = get_or_append_left (set s.views s.seat (offered v block)) (carrier_of v block ∷ []) (offered v block) s.seat
      (let n = length-set s.views s.seat (offered v block) in let b = s.below in omega arith)
      ∙ get_or-set_same s.views s.seat (offered v block) (offered v block) s.below;
}

at_again : (groups : List SeatViews) (id : ℕ) (old new : SeatViews) → get_elem? groups id ≡ some old → get_elem? (set groups id new) id ≡ some new
at_again [] id old new at = absurd (some-ne-none old (sym at))
at_again (j ∷ groups) zero old new at = refl
at_again (j ∷ groups) (suc id) old new at = at_again groups id old new at

-- where two views stand, of a seat of the table that stands for both
module _ (o : Opening) (s : State ℕ SeatViews) (holds : Holds o s) (id : ℕ) (group : SeatViews) (v u : View) (both : group ≡ u ∷ v ∷ [])
    (at : get_elem? s.views id ≡ some group) where
  abbrev all : List View
  all = all_views s.views

  first_below : offset id s.views < length all
  first_below = let b = group_below s.views id group 0 at (let l = ap length both in omega arith) in omega arith

  first_at : get_or all (offset id s.views) u ≡ u
  first_at = ap (λ n. get_or all n u) (let e : offset id s.views ≡ offset id s.views + 0 = omega arith in e)
      ∙ group_at s.views id group 0 u at (let l = ap length both in omega arith) ∙ ap (λ vs. get_or vs 0 u) both

  second_below : offset id s.views + 1 < length all
  second_below = group_below s.views id group 1 at (let l = ap length both in omega arith)

  second_at : get_or all (offset id s.views + 1) v ≡ v
  second_at = group_at s.views id group 1 v at (let l = ap length both in omega arith) ∙ ap (λ vs. get_or vs 1 v) both

  -- both are of the heap that was opened
  setup_is : u.setup ≡ setup_for o
  setup_is = (holds.sound.good.set_up (offset id s.views) u first_below first_at).setup

  together : v.setup ≡ setup_for o → AreInOneState v u
  together setup = record {
    words = s.words;
    views = all;
    sound = subst (λ k. Sound k s.words all) (sym setup) holds.sound;
    counted = subst (λ k. AreSeatsAndCarriers k all) (sym setup) holds.counted;
    one = offset id s.views + 1;
    other = offset id s.views;
    apart = λ same. omega arith;
    below = second_below;
    at = second_at;
    other_below = first_below;
    other_at = first_at;
  }

  -- the seat accepts
  abbrev w : View
  w = accepted v u

  abbrev new : List View
  new = all_views (set s.views id (w ∷ []))

  has_v : Contains all v
  has_v = in_all s.views id group v at (subst (λ (l : SeatViews). Contains l v) (sym both) (in_rest u v (v ∷ []) (in_head v [])))

  has_u : Contains all u
  has_u = in_all s.views id group u at (subst (λ (l : SeatViews). Contains l u) (sym both) (in_head u (v ∷ [])))

  less : AreOneLess all new v u w
  less = record {
    sums = λ f. let a = total_set_group f s.views id group (w ∷ []) at in let c = ap (total f) both in omega arith;
    members = λ x there. elim (of_set s.views id (w ∷ []) x there) [
      | inr old ↦ inr old
      | inl own ↦ elim (head_or_rest w x [] own) [ inl same ↦ inl same | inr none ↦ absurd (in_none x none) ]
    ];
  }

  accepts : MayHand v → IsCarrier u → HasAllSeats o s.words (set s.views id (w ∷ []))
  accepts may carries = record {
    reached = by_accept s.words all new v u holds.reached has_v has_u may carries less;
    sound = join_sound (setup_for o) s.words all new v u has_v has_u carries less holds.sound;
    counted = accepts_one (setup_for o) all new v u may.seat carries less holds.counted;
    few = holds.few;
    low = holds.low;
  }

-- a read by a seat of the table that stands for two views
pub allowed_both : (o : Opening) (count id : ℕ) (group : SeatViews) (slots : List (ℕ × ℕ)) (v u : View) (place : ℕ) → group ≡ u ∷ v ∷ []
    → v.setup ≡ setup_for o
    → Allows (Holds o) count id (group, slots) place (λ n. n) (λ found after. DidReadBoth (group, slots) after)
allowed_both o count id group slots v u place both setup s holds none at fits = (
  group,
  keeps,
  tt,
  subst (λ ws. HasAllSeats o ws (set s.views id group)) (sym (set-get_or s.words place 0))
      (subst (λ js. HasAllSeats o s.words js) (sym (set_again s.views id group at)) holds),
  record { same = refl; one = v; other = u; group = both; together = together o s holds id group v u both at setup },
)

-- a read by which a seat of the table that stands for a carrier and a seat accepts
pub allowed_accept : (o : Opening) (count id : ℕ) (group : SeatViews) (slots : List (ℕ × ℕ)) (v u : View) (place : ℕ) → group ≡ u ∷ v ∷ []
    → v.setup ≡ setup_for o → MayHand v → IsCarrier u
    → Allows (Holds o) count id (group, slots) place (λ n. n) (λ found after. DidAccept (group, slots) after)
allowed_accept o count id group slots v u place both setup may carries s holds none at fits = (
  accepted v u ∷ [],
  keeps,
  tt,
  subst (λ ws. HasAllSeats o ws (set s.views id (accepted v u ∷ []))) (sym (set-get_or s.words place 0)) kept,
  record {
    seat = v;
    carrier = u;
    group = both;
    now = refl;
    setup = setup_is o s holds id group v u both at ∙ sym setup;
    has = state_with o s.words (set s.views id (accepted v u ∷ [])) id (accepted v u ∷ []) (accepted v u) setup may.seat kept
        (at_again s.views id group (accepted v u ∷ []) at) refl;
  },
) where
  kept : HasAllSeats o s.words (set s.views id (accepted v u ∷ []))
  kept = accepts o s holds id group v u both at may carries

-- the seat after the offer
pub at_offered : (shared : SharedView) (table table' : TableId) (me me' : Me ℕ SeatViews) (block : ℕ) → IsAt shared table me (view_in me.0)
    → table' ≡ table → me' ≡ (offered (view_in me.0) block ∷ [], me.1)
    → IsAt shared table' me' (view_in me'.0)
at_offered shared table table' me me' block at same left = subst (λ (m : Me ℕ SeatViews). IsAt shared table' m (view_in m.0)) (sym left) record {
  table_is = same ∙ at.table_is;
  single = refl;
  no_slots = at.no_slots;
  setup = at.setup;
  has = has_offered (view_in me.0) block at.has;
}
