-- A superblock that was popped off a list is in one hand.
use Rattle.std.proofs.Common.{◌≡◌, ◌≢◌, ◌<◌, ◌+◌, ◌∙◌, ℕ, zero, suc, inl, inr, cond, nat_lt, get_or, length, refl, ap, subst, sym, lt-ltb, arith}
use Rattle.std.proofs.lemmas.Bool.{cases_lt}
use Rattle.heap_model.specs.Counting.{times, without}
use Rattle.core_model.specs.Effects.{without_claim}
use Rattle.core_model.specs.Memory.{memory_of, used}
use Rattle.core_model.specs.View.{View, times_claimed, times_classed, times_raw}
use Rattle.core_model.proofs.CountLemmas.{times_without_claim}
use Rattle.core_model.proofs.FrameLemmas.{times_without, without_none}
use Rattle.core_model.proofs.OwnLemmas.{one_at_most}
use Rattle.core_model.proofs.PlaceLemmas.{not-lt}
use Rattle.core_model.proofs.TotalLemmas.{eq-eqb-one, total_at}
use Rattle.heap_rule.specs.Shown.{CanList}
use Rattle.heap_table.specs.Plays.{HasSoundState}
use Rattle.superblock_lists.specs.declared.pops.Pop.{Pop}
use Rattle.superblock_lists.specs.declared.pops.Pop.TheVariants.{Got, Empty}
use Rattle.superblock_lists.specs.Hands.{IsInThisHandAlone}
use Rattle.superblock_lists.specs.Pops.{HasPopped, Pops}
use Rattle.superblock_lists.specs.Pushes.{HasPushed, without_claim_of}
use Rattle.superblock_lists.proofs.PushLemmas.{freely}
use Rattle.seat_costs.specs.Rows.{Parts, parts}

-- how often a superblock is claimed, by the parts
abbrev claims : ℕ → Parts → ℕ
claims d p = times d p.raw + times d p.split + times d p.cutting + times_classed d p.classed

popped_claim : (list d : ℕ) (v w : View) → HasPopped list d v w → 0 < times_claimed d w
popped_claim zero d v w is = subst (λ p. 0 < claims d p) (sym is.parts_are) (let here = eq-eqb-one d d refl in omega arith)
popped_claim (suc class) d v w is = subst (λ p. 0 < claims d p) (sym is.parts_are) (let here = eq-eqb-one d d refl in omega arith)

pub alone : ((v : View) (s : HasSoundState v) (d : ℕ) → 0 < times_claimed d v → (j : ℕ) (u : View) → j ≢ s.seat → j < length s.views
    → get_or s.views j u ≡ u → times_claimed d u ≡ 0)
    → (list : ℕ) (v w : View) (pop : Pop) → Pops list pop v w → IsInThisHandAlone pop w
alone one list v w (Empty head) is = tt
alone one list v w (Got d) is = let claimed = popped_claim list d v w is in (claimed, λ s. one w s d claimed)

-- a superblock that is claimed is claimed once
module _ (v : View) (has : HasSoundState v) (d : ℕ) (claimed : 0 < times_claimed d v) where
  once : times_claimed d v ≡ 1
  once =
      let raw = total_at (times_raw d) has.views has.seat v has.below has.at in
      let mine = total_at (λ (x : View). times_classed d x.classed) has.views has.seat v has.below has.at in
      let p = has.sound.good.shaped.placed.one_place d in
      let one = one_at_most (nat_lt d (used (memory_of v.setup.capacity has.words))) in omega arith

  none_raw : 0 < times d v.raw + times d v.split → times d (without d v.raw) + times d
      (without d v.split) + times d v.cutting + times_classed d v.classed ≡ 0
  none_raw some = elim (cases_lt 0 (times d v.raw)) [
    | inl raw ↦ let o = once in let one = eq-eqb-one d d refl in let less = times_without d d v.raw raw in
        let same = without_none d d v.split (omega arith) in omega arith
    | inr none ↦ let o = once in let one = eq-eqb-one d d refl in let less = times_without d d v.split (omega arith) in
        let same = without_none d d v.raw (omega arith) in omega arith
  ]

  none_classed : times d v.raw + times d v.split ≡ 0 → times d v.cutting ≡ 0
      → times d v.raw + times d v.split + times d v.cutting + times_classed d (without_claim d v.classed) ≡ 0
  none_classed none whole = let o = once in let one = eq-eqb-one d d refl in let less = times_without_claim d d v.classed (omega arith) in omega arith

  pub none_left : (w : View) → times d v.cutting ≡ 0 → parts w ≡ without_claim_of d (parts v) → times_claimed d w ≡ 0
  none_left w whole same = ap (claims d) same ∙ elim (cases_lt 0 (times d v.raw + times d v.split)) as
      (λ _. claims d (without_claim_of d (parts v)) ≡ 0) [
        | inl some ↦ ap (λ test. claims d (cond test raw_off class_off)) (lt-ltb 0 (times d v.raw + times d v.split) some) ∙ none_raw some
        | inr none ↦ ap (λ test. claims d (cond test raw_off class_off)) (not-lt 0 (times d v.raw + times d v.split) none)
            ∙ none_classed (omega arith) whole
      ] where
        raw_off : Parts
        raw_off = record (parts v) { raw = without d v.raw; split = without d v.split }

        class_off : Parts
        class_off = record (parts v) { classed = without_claim d v.classed }

-- one that was pushed is claimed no more
pub pushed_free : (v w : View) → HasSoundState v → (d list : ℕ) → CanList v d list → HasPushed list d 3 v w → times_claimed d w ≡ 0
pushed_free v w has d list can pushed = let free = freely v has d list can in none_left v has d free.claimed w free.not_cutting pushed.parts_are
