-- What a seat keeps to tell its own words, after it claimed superblocks, or a claim went to a list.
use Rattle.std.proofs.Common.{◌≡◌, ◌≢◌, ℕ, zero, suc, ◌+◌, ◌-◌, ◌<◌, inl, inr, Bool, true, false, cond, nat_lt, ◌∷◌, ◌++◌, get_or, set, length, refl, ap, sym, subst, ◌∙◌, length-set, ltb-true, lt-ltb, true≢false, Vec, Global, arith}
use Rattle.std.proofs.lemmas.Bool.{cases_lt}
use Rattle.heap_model.specs.Words.{head_first, head_pops}
use Rattle.heap_model.specs.Counting.{times, without}
use Rattle.core_model.specs.declared.event.Event.TheVariants.{TakeFresh, Pop, Push}
use Rattle.core_model.specs.Memory.{Memory, memory_of, head, link}
use Rattle.core_model.specs.View.{View, times_raw, times_classed, times_large}
use Rattle.core_model.specs.Effects.{steps, seen, seen_word, seen_of, before, claimed, taken_fresh, popped, pushed, pushed_raw, pushed_classed, without_claim}
use Rattle.core_model.specs.Guards.{MayList, as_free, of_its_class}
use Rattle.core_model.specs.Sound.{KnowsHead}
use Rattle.seat_index.specs.declared.owned.Ownership.{Ownership}
use Rattle.seat_index.specs.declared.owned.Ownership.TheVariants as ownership
use Rattle.seat_index.specs.declared.owned.Owned.{Owned}
use Rattle.seat_index.specs.Owned.{listed, OwnedParts, parts_of, IsOwnership, HaveOwnership, HasOwned}
use Rattle.heap_table.specs.Plays.{IsEvent}
use Rattle.seat_index.proofs.ExchangeLemmas.{hit, before_is}
use Rattle.seat_index.proofs.OwnershipLemmas.{fresh_ownerships, with_claim, claim_ownerships, raw_ownerships, classed_ownerships}
use Rattle.seat_index.proofs.OwnedViews.{with_ownerships, untaken, in_list, taken_below}

-- superblocks are taken that were never taken
pub fresh_owned : (o : Owned) (ownerships : Vec Ownership Global) (v w : View) (n found u : ℕ) → HasOwned o (parts_of v)
    → IsEvent (TakeFresh n) v found w → seen v.seen_used ≡ u → found ≡ u
    → HaveOwnership o.ownerships.items ownerships.items u n ownership.Unclassed → HasOwned (record o { ownerships = ownerships }) (parts_of w)
fresh_owned o ownerships v w n found u own event is same owning = subst (HasOwned (record o { ownerships = ownerships })) (sym (ap parts_of w_is))
    (with_ownerships o ownerships (parts_of v) (v.raw ++ steps (seen v.seen_used) 1 n) v.split v.cutting v.classed v.large own owning.long
    (subst (λ y. (e : ℕ) → IsOwnership e (get_or ownerships.items e ownership.Nothing) (record (parts_of v) { raw = v.raw ++ steps y 1 n })) (sym is)
    (fresh_ownerships o.ownerships.items ownerships.items (parts_of v) u n owning own.ownerships
    (λ e low high. untaken v event.before e (let f = event.found_is in omega (arith, f, same, low)))))) where
      w_is : w ≡ taken_fresh v n
      w_is = event.after ∙ hit found (seen v.seen_used) (taken_fresh v n) _ (same ∙ sym is)

-- where what is owned of one is another
pub set_long : (ownerships were : Vec Ownership Global) (d : ℕ) (x : Ownership) → ownerships.items ≡ set were.items d x
    → length ownerships.items ≡ length were.items
set_long ownerships were d x items = ap length items ∙ length-set were.items d x

-- a claim from a list
pub claimed_parts : (v : View) (d list : ℕ) → parts_of (claimed v d list) ≡ with_claim (parts_of v) d list
claimed_parts v d zero = refl
claimed_parts v d (suc class) = refl

pub claim_owned : (o : Owned) (ownerships : Vec Ownership Global) (p : OwnedParts) (d list : ℕ) (x : Ownership) → HasOwned o p → x ≡ listed list
    → ownerships.items ≡ set o.ownerships.items d x → d < p.capacity
    → (times d p.raw + times d p.split + times d p.cutting ≡ 0) × (times_classed d p.classed ≡ 0) × (times_large d p.large ≡ 0)
    → HasOwned (record o { ownerships = ownerships }) (with_claim p d list)
claim_owned o ownerships p d list x own x_is items less none = by list
    (claim_ownerships o.ownerships.items p d list x x_is (let l = own.ownerships_long in omega arith) own.ownerships none) where
      by : (list : ℕ) → ((e : ℕ) → IsOwnership e (get_or (set o.ownerships.items d x) e ownership.Nothing) (with_claim p d list))
          → HasOwned (record o { ownerships = ownerships }) (with_claim p d list)
      by zero are = with_ownerships o ownerships p (d ∷ p.raw) p.split p.cutting p.classed p.large own (set_long ownerships o.ownerships d x items)
          (subst (λ l. (e : ℕ) → IsOwnership e (get_or l e ownership.Nothing) (with_claim p d 0)) (sym items) are)
      by (suc n) are = with_ownerships o ownerships p p.raw p.split p.cutting (record { descriptor = d; class = suc n } ∷ p.classed) p.large own
          (set_long ownerships o.ownerships d x items) (subst (λ l. (e : ℕ) → IsOwnership e (get_or l e ownership.Nothing) (with_claim p d (suc n)))
          (sym items) are)

-- what is claimed lies in the image
pub popped_below : (v w : View) (found head_word first d : ℕ) → IsEvent Pop v found w → seen_word v.seen_head ≡ head_word
    → first ≡ head_first head_word → d ≡ first - 1 → d < v.setup.capacity
popped_below v w found head_word first d event is first_is d_is =
    let knows = (event.before.sound.good.knows event.before.seat v event.before.below event.before.at).seen_head event.may.ready.is_seen in
    let some = (knows.linked event.may.ready.link).0 in let s = knows.small in let e = ap head_first is in omega (arith, some)

pub popped_owned : (o : Owned) (ownerships : Vec Ownership Global) (v w : View) (found head_word of first d : ℕ) (x : Ownership)
    → HasOwned o (parts_of v) → IsEvent Pop v found w → seen_word v.seen_head ≡ head_word → seen_of v.seen_head ≡ of → found ≡ head_word
    → first ≡ head_first head_word → d ≡ first - 1 → x ≡ listed of → ownerships.items ≡ set o.ownerships.items d x
    → HasOwned (record o { ownerships = ownerships }) (parts_of w)
popped_owned o ownerships v w found head_word of first d x own event is of_is same first_is d_is x_is items =
    subst (HasOwned (record o { ownerships = ownerships })) (sym (ap parts_of w_is ∙ claimed_parts _ d (seen_of v.seen_head)))
    (claim_owned o ownerships (parts_of v) d (seen_of v.seen_head) x own (x_is ∙ ap listed (sym of_is)) items less
    (in_list v event.before (seen_of v.seen_head) d knows.is_list there)) where
      m0 : Memory
      m0 = memory_of v.setup.capacity event.before.words

      knows : KnowsHead v.setup.capacity (head m0) (link m0) event.before.sound.good.shape.lists (seen_of v.seen_head)
          (seen_word v.seen_head) v.seen_link
      knows = (event.before.sound.good.knows event.before.seat v event.before.below event.before.at).seen_head event.may.ready.is_seen

      d_before : before (head_first (seen_word v.seen_head)) ≡ d
      d_before = before_is (head_first (seen_word v.seen_head)) ∙ ap (λ n. head_first n - 1) is ∙ ap (λ n. n - 1) (sym first_is) ∙ sym d_is

      w_is : w ≡ popped v d
      w_is = event.after ∙ hit found (seen_word v.seen_head) (popped v (before (head_first (seen_word v.seen_head)))) _ (same ∙ sym is)
          ∙ ap (popped v) d_before

      some : head_first (seen_word v.seen_head) ≢ 0
      some = (knows.linked event.may.ready.link).0

      there : 0 < times d (event.before.sound.good.shape.lists (seen_of v.seen_head))
      there = subst (λ n. 0 < times n (event.before.sound.good.shape.lists (seen_of v.seen_head))) d_before
          (knows.listed (ap head_pops (is ∙ sym same ∙ event.found_is)) some)

      less : d < v.setup.capacity
      less = let s = knows.small in let e = before_is (head_first (seen_word v.seen_head)) in let b = d_before in omega (arith, some)

-- a claim goes to a list
pub pushed_owned : (o : Owned) (ownerships : Vec Ownership Global) (v w : View) (d found head_word : ℕ) → HasOwned o (parts_of v)
    → IsEvent (Push d) v found w → seen_word v.seen_head ≡ head_word → found ≡ head_word
    → ownerships.items ≡ set o.ownerships.items d ownership.Nothing → HasOwned (record o { ownerships = ownerships }) (parts_of w)
pushed_owned o ownerships v w d found head_word own event is same items =
    subst (HasOwned (record o { ownerships = ownerships })) (sym (ap parts_of w_is)) (by_claim (nat_lt 0 (times d v.raw + times d v.split)) refl) where
      w_is : w ≡ pushed v d
      w_is = event.after ∙ hit found (seen_word v.seen_head) (pushed v d) _ (same ∙ sym is)

      some : (list : ℕ) → MayList (memory_of v.setup.capacity event.before.words) v d list
          → 0 < times_raw d v + times_classed d v.classed + times_large d v.large
      some list (as_free l zero_l claimed_d empty) = let c = claimed_d.claimed in omega arith
      some list (of_its_class l apart classed class_is state) = omega arith

      less : d < length o.ownerships.items
      less = let t = taken_below v event.before d (some (seen_of v.seen_head) event.may.ready.listed) in let l = own.ownerships_long in omega arith

      not_raw : nat_lt 0 (times d v.raw + times d v.split) ≡ false → times d v.raw + times d v.split ≡ 0
      not_raw e = elim (cases_lt 0 (times d v.raw + times d v.split)) [
        | inl more ↦ absurd (true≢false (sym (lt-ltb 0 (times d v.raw + times d v.split) more) ∙ e))
        | inr none ↦ omega arith
      ]

      classed_some : (list : ℕ) → MayList (memory_of v.setup.capacity event.before.words) v d list → times d v.raw + times d v.split ≡ 0
          → 0 < times_classed d v.classed
      classed_some list (as_free l zero_l claimed_d empty) none = let c = claimed_d.claimed in let n = claimed_d.not_cutting in omega arith
      classed_some list (of_its_class l apart classed class_is state) none = classed

      by_claim : (raw : Bool) → nat_lt 0 (times d v.raw + times d v.split) ≡ raw
          → HasOwned (record o { ownerships = ownerships }) (parts_of (cond raw (pushed_raw v d) (pushed_classed v d)))
      by_claim true e = with_ownerships o ownerships (parts_of v) (without d v.raw) (without d v.split) v.cutting v.classed v.large own
          (set_long ownerships o.ownerships d ownership.Nothing items)
          (subst (λ l. (n : ℕ) → IsOwnership n (get_or l n ownership.Nothing)
          (record (parts_of v) { raw = without d v.raw; split = without d v.split })) (sym items)
          (raw_ownerships o.ownerships.items (parts_of v) d less (ltb-true 0 (times d v.raw + times d v.split) e) own.ownerships))
      by_claim false e = with_ownerships o ownerships (parts_of v) v.raw v.split v.cutting (without_claim d v.classed) v.large own
          (set_long ownerships o.ownerships d ownership.Nothing items)
          (subst (λ l. (n : ℕ) → IsOwnership n (get_or l n ownership.Nothing) (record (parts_of v) { classed = without_claim d v.classed })) (sym items)
          (classed_ownerships o.ownerships.items (parts_of v) d less (classed_some (seen_of v.seen_head) event.may.ready.listed (not_raw e))
          own.ownerships))
