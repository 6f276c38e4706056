-- A row of queues and passes: the pass in one place, and the row once that pass changes.
use Rattle.std.proofs.Common.{◌≡◌, ℕ, zero, suc, ◌<◌, List, [], ◌∷◌, Result, Ok, Err, MatchResult, length, get_or, set, refl, ap, sym, subst, ◌∙◌, arith}
use Rattle.atomic_table.specs.Seated.{TableId}
use Rattle.parcel_queue.specs.Account.{Account, PassView, QueueView, with_put, joined}
use Rattle.parcel_queue.specs.Row.{IsPassOf, ArePassesOf, IsOfPlace, having_put, having_joined, changed_at}

module _ {T : Type 0} where
  -- as many passes as queues
  pub as_many : (qs : List QueueView) (ps : List (PassView T)) → ArePassesOf qs ps → length ps ≡ length qs
  as_many [] [] all = refl
  as_many [] (p ∷ ps) all = absurd all
  as_many (q ∷ qs) [] all = absurd all
  as_many (q ∷ qs) (p ∷ ps) all = ap suc (as_many qs ps all.1)

  in_place : (qs : List QueueView) (ps : List (PassView T)) (i : ℕ) (q : QueueView) (p : PassView T) → ArePassesOf qs ps → i < length qs
      → IsPassOf (get_or qs i q) (get_or ps i p)
  in_place [] ps i q p all inside = absurd (omega (arith, inside))
  in_place (q' ∷ qs) [] i q p all inside = absurd all
  in_place (q' ∷ qs) (p' ∷ ps) zero q p all inside = all.0
  in_place (q' ∷ qs) (p' ∷ ps) (suc i) q p all inside = in_place qs ps i q p all.1 (omega (arith, inside))

  pub still_passes : (qs : List QueueView) (ps : List (PassView T)) (i : ℕ) (q : QueueView) (p : PassView T) → ArePassesOf qs ps → i < length qs
      → IsPassOf (get_or qs i q) p → ArePassesOf qs (set ps i p)
  still_passes [] ps i q p all inside now = absurd (omega (arith, inside))
  still_passes (q' ∷ qs) [] i q p all inside now = absurd all
  still_passes (q' ∷ qs) (p' ∷ ps) zero q p all inside now = (now, all.1)
  still_passes (q' ∷ qs) (p' ∷ ps) (suc i) q p all inside now = (all.0, still_passes qs ps i q p all.1 (omega (arith, inside)) now)

  -- the queue and the pass at a place
  pub at_place : (qs : List QueueView) (ps : List (PassView T)) (i : ℕ) (q : QueueView) (p : PassView T) → ArePassesOf qs ps → i < length qs
      → q ≡ get_or qs i q → p ≡ get_or ps i p → IsPassOf q p
  at_place qs ps i q p all inside is_q is_p = let end = in_place qs ps i q p all inside in record {
    same = ap (λ (a : PassView T). a.queue) is_p ∙ end.same ∙ ap (λ (a : QueueView). a.queue) (sym is_q);
    more = subst (λ (a : PassView T). 0 < a.account.parts) (sym is_p) end.more;
  }

  pub same_fields : (p p' : PassView T) → p.queue ≡ p'.queue → p.account ≡ p'.account → p ≡ p'
  same_fields p p' q a =
      ap (λ (t : TableId). record { queue = t; account = p.account }) q ∙ ap (λ (b : Account T). record { queue = p'.queue; account = b }) a

  -- the row with another pass in one place
  pub is_changed : (f : PassView T → PassView T) (ps : List (PassView T)) (i : ℕ) (d p : PassView T) → i < length ps → p ≡ f (get_or ps i d)
      → set ps i p ≡ changed_at f i ps
  is_changed f [] i d p inside now = absurd (omega (arith, inside))
  is_changed f (p' ∷ ps) zero d p inside now = ap (λ (a : PassView T). a ∷ ps) now
  is_changed f (p' ∷ ps) (suc i) d p inside now = ap (λ (l : List (PassView T)). p' ∷ l) (is_changed f ps i d p (omega (arith, inside)) now)

  is_same : (ps : List (PassView T)) (i : ℕ) (d p : PassView T) → i < length ps → p ≡ get_or ps i d → set ps i p ≡ ps
  is_same [] i d p inside now = absurd (omega (arith, inside))
  is_same (p' ∷ ps) zero d p inside now = ap (λ (a : PassView T). a ∷ ps) now
  is_same (p' ∷ ps) (suc i) d p inside now = ap (λ (l : List (PassView T)). p' ∷ l) (is_same ps i d p (omega (arith, inside)) now)

  -- a pass to the same queue with this account
  is_now : (q : QueueView) (old new : PassView T) (a : Account T) → IsPassOf q old → new.queue ≡ q.queue → new.account ≡ a
      → new ≡ record old { account = a }
  is_now q old new a end same now = same_fields new (record old { account = a }) (same ∙ sym end.same) now

  -- what a put leaves of its pass, as a pass in the row
  pub still_one : (q : QueueView) (old new : PassView T) (x : T) (r : Result Unit T) → IsPassOf q old → new.queue ≡ q.queue
      → MatchResult r (λ _. new.account ≡ with_put old.account x) (λ back. (back ≡ x) × (new.account ≡ old.account)) → IsPassOf q new
  still_one q old new x (Ok done) end same now =
      record { same = same; more = subst (λ (a : Account T). 0 < a.parts) (sym now) end.more }
  still_one q old new x (Err back) end same now =
      record { same = same; more = subst (λ (a : Account T). 0 < a.parts) (sym now.1) end.more }

  pub row_after : (ps : List (PassView T)) (i : ℕ) (q : QueueView) (old new : PassView T) (x : T) (r : Result Unit T) → i < length ps
      → old ≡ get_or ps i old
      → IsPassOf q old → new.queue ≡ q.queue
      → MatchResult r (λ _. new.account ≡ with_put old.account x) (λ back. (back ≡ x) × (new.account ≡ old.account))
      → MatchResult r (λ _. set ps i new ≡ changed_at (having_put x) i ps) (λ back. (back ≡ x) × (set ps i new ≡ ps))
  row_after ps i q old new x (Ok done) inside at end same now =
      is_changed (having_put x) ps i old new inside (is_now q old new (with_put old.account x) end same now ∙ ap (having_put x) at)
  row_after ps i q old new x (Err back) inside at end same now =
      (now.0, is_same ps i old new inside (is_now q old new old.account end same now.1 ∙ at))

  -- the same of a pass that took in another
  pub joined_one : (q : QueueView) (old new other : PassView T) → IsPassOf q old → new.queue ≡ q.queue
      → new.account ≡ joined old.account other.account → IsPassOf q new
  joined_one q old new other end same now = let more = end.more in
      record { same = same; more = subst (λ (a : Account T). 0 < a.parts) (sym now) (omega (arith, more)) }

  pub row_joined : (ps : List (PassView T)) (i : ℕ) (q : QueueView) (old new other : PassView T) → i < length ps → old ≡ get_or ps i old
      → IsPassOf q old → new.queue ≡ q.queue → new.account ≡ joined old.account other.account → set ps i new ≡ changed_at (having_joined other) i ps
  row_joined ps i q old new other inside at end same now =
      is_changed (having_joined other) ps i old new inside (is_now q old new (joined old.account other.account) end same now
      ∙ ap (having_joined other) at)

  -- the queue at a place is that of a pass of this place
  pub of_place : (qs : List QueueView) (i : ℕ) (q : QueueView) (p : PassView T) → IsOfPlace qs i p → q ≡ get_or qs i q → p.queue ≡ q.queue
  of_place qs i q p is at = found qs i is ∙ ap (λ (a : QueueView). a.queue) (sym at) where
    found : (l : List QueueView) (n : ℕ) → IsOfPlace l n p → p.queue ≡ (get_or l n q).queue
    found [] n h = absurd h
    found (k ∷ l) zero h = h
    found (k ∷ l) (suc n) h = found l n h
