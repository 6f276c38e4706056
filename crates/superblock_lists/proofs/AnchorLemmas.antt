-- What a look at an anchor leaves, and what a superblock that is claimed with a class may do.
use Rattle.std.proofs.Common.{◌≡◌, ◌<◌, ℕ, zero, suc, ◌+◌, inl, cond, nat_lt, ◌∷◌, None, refl, ap, sym, subst, ◌∙◌, eq-eqb, arith}
use Rattle.heap_model.specs.Counting.{times}
use Rattle.heap_model.specs.Sizes.{IsClass}
use Rattle.heap_model.specs.Words.{anchor_state}
use Rattle.core_model.specs.declared.event.Event.TheVariants.{LookAnchor}
use Rattle.core_model.specs.Effects.{claim_class, used_up, without_claim}
use Rattle.core_model.specs.Guards.{IsFreelyClaimed, MayLookAt}
use Rattle.core_model.specs.Memory.{memory_of, used}
use Rattle.core_model.specs.View.{View, times_classed, times_raw}
use Rattle.core_model.proofs.OwnLemmas.{one_at_most}
use Rattle.core_model.proofs.PlaceLemmas.{not-lt, skip}
use Rattle.core_model.proofs.TotalLemmas.{eq-eqb-one, total_at}
use Rattle.heap_table.specs.Plays.{HasSoundState, IsEvent}
use Rattle.superblock_lists.specs.Anchors.{HasSeenAnchor, anchor_seen}
use Rattle.superblock_lists.specs.Pops.{with_claim}
use Rattle.superblock_lists.specs.Pushes.{HasPushed, IsClaimOf, without_claim_of}
use Rattle.seat_costs.proofs.StoredLemmas.{drawn_as}
use Rattle.seat_costs.specs.Rows.{HasDrawn, Parts, parts}

pub anchor_looked : (v u w : View) (d anchor : ℕ) → HasDrawn v u → IsEvent (LookAnchor d) u anchor w → HasSeenAnchor d anchor v w
anchor_looked v u w d anchor drawn event = subst (HasSeenAnchor d anchor v) (sym left)
    (record { ran = drawn.went; going = drawn.went; room = drawn.room; more = omega arith; parts_are = refl; is_seen = refl }) where
      left : w ≡ record (drawn_as v drawn.ticket u) { ticket = None; seen_anchor = anchor_seen d anchor }
      left = event.after ∙ ap (λ (x : View). record (used_up x) { seen_anchor = anchor_seen d anchor }) drawn.left

pub anchor_of_class : (v u w : View) (d found : ℕ) → HasDrawn v u → IsEvent (LookAnchor d) u found w → 0 < times_classed d v.classed
    → anchor_state found < 2
anchor_of_class v u w d found drawn event some =
    let of = (event.before.sound.good.claims event.before.seat u event.before.below event.before.at).is_classed d
    (subst (λ (x : View). 0 < times_classed d x.classed) (sym drawn.left) some) in
    subst (λ n. anchor_state n < 2) (sym event.found_is) of.2

-- a superblock that is claimed with a class is claimed without one by no seat
module _ (v : View) (has : HasSoundState v) (class d : ℕ) (claim : IsClaimOf class d v) where
  pub raw_none : times_raw d v ≡ 0
  raw_none =
      let raw = total_at (times_raw d) has.views has.seat v has.below has.at in
      let mine = total_at (λ (x : View). times_classed d x.classed) has.views has.seat v has.below has.at in
      let p = has.sound.good.shaped.placed.one_place d in
      let one = one_at_most (nat_lt d (used (memory_of v.setup.capacity has.words))) in
      let some = claim.claimed in omega arith

  pub claim_free : IsFreelyClaimed v d
  claim_free = let none = raw_none in let some = claim.claimed in record { claimed = omega arith; not_cutting = omega arith }

  pub claim_look : MayLookAt v d
  claim_look = inl claim_free

  -- it is claimed no more once it is pushed
  pub claim_pushed : (t w : View) (list : ℕ) → parts t ≡ parts v → HasPushed list d 3 t w
      → parts w ≡ record (parts v) { classed = without_claim d v.classed }
  claim_pushed t w list same pushed = pushed.parts_are ∙ ap (without_claim_of d) same
      ∙ skip (nat_lt 0 (times d v.raw + times d v.split)) _ _ (not-lt 0 (times d v.raw + times d v.split) (let none = raw_none in omega arith))

-- it is still claimed with the class
pub claim_still : (v t : View) (d class : ℕ) → parts t ≡ parts v → IsClaimOf class d v → IsClaimOf class d t
claim_still v t d class same claim = record {
  is_class = claim.is_class;
  claimed = subst (λ (p : Parts). 0 < times_classed d p.classed) (sym same) claim.claimed;
  of = ap (λ (p : Parts). claim_class d p.classed) same ∙ claim.of;
}

-- with a class, it is claimed with that
pub claim_added : (class d : ℕ) (p : Parts) → IsClass class → with_claim class d p ≡
    record p { classed = record { descriptor = d; class = class } ∷ p.classed }
claim_added zero d p is = absurd (let f = is.some in omega arith)
claim_added (suc class) d p is = refl

pub claim_of_class : (class d : ℕ) (p : Parts) (x : View) → IsClass class → parts x ≡ with_claim class d p → IsClaimOf class d x
claim_of_class class d p x is same = record {
  is_class = is;
  claimed = subst (λ (q : Parts). 0 < times_classed d q.classed) (sym added) (let one = eq-eqb-one d d refl in omega arith);
  of = ap (λ (q : Parts). claim_class d q.classed) added ∙ ap (λ test. cond test class (claim_class d p.classed)) (eq-eqb d d refl);
} where
  added : parts x ≡ record p { classed = record { descriptor = d; class = class } ∷ p.classed }
  added = same ∙ claim_added class d p is
