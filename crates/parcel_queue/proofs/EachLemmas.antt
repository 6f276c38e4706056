-- The passes of a row take in others, of which the last one comes first.
use Rattle.std.proofs.Common.{◌≡◌, ℕ, ◌<◌, List, [], ◌∷◌, ◌++◌, length, refl, ap, sym, ◌∙◌, arith}
use Rattle.std.specs.Prelude.{⊤}
use Rattle.parcel_queue.specs.Account.{PassView, QueueView}
use Rattle.parcel_queue.specs.Row.{ArePassesOf, IsOfPlace, having_joined, changed_at, each_joined}

module _ {T : Type 0} where
  -- each of these passes, as far as there are some, is one to the queue in its place
  abbrev pub Lead : List QueueView → List (PassView T) → Type 0
  Lead qs [] = ⊤
  Lead [] (p ∷ ps) = ⊥
  Lead (q ∷ qs) (p ∷ ps) = (p.queue ≡ q.queue) × Lead qs ps

  pub all_lead : (qs : List QueueView) (ps : List (PassView T)) → ArePassesOf qs ps → Lead qs ps
  all_lead [] [] all = tt
  all_lead [] (p ∷ ps) all = absurd all
  all_lead (q ∷ qs) [] all = absurd all
  all_lead (q ∷ qs) (p ∷ ps) all = (all.0.same, all_lead qs ps all.1)

  pub last_leads : (qs : List QueueView) (ps : List (PassView T)) (p : PassView T) → Lead qs (ps ++ p ∷ []) → IsOfPlace qs (length ps) p
  last_leads [] [] p lead = absurd lead
  last_leads [] (p' ∷ ps) p lead = absurd lead
  last_leads (q ∷ qs) [] p lead = lead.0
  last_leads (q ∷ qs) (p' ∷ ps) p lead = last_leads qs ps p lead.1

  pub others_lead : (qs : List QueueView) (ps : List (PassView T)) (p : PassView T) → Lead qs (ps ++ p ∷ []) → Lead qs ps
  others_lead qs [] p lead = tt
  others_lead [] (p' ∷ ps) p lead = absurd lead
  others_lead (q ∷ qs) (p' ∷ ps) p lead = (lead.0, others_lead qs ps p lead.1)

  pub has_place : (qs : List QueueView) (ps : List (PassView T)) (p : PassView T) → Lead qs (ps ++ p ∷ []) → length ps < length qs
  has_place [] [] p lead = absurd lead
  has_place [] (p' ∷ ps) p lead = absurd lead
  has_place (q ∷ qs) [] p lead = omega arith
  has_place (q ∷ qs) (p' ∷ ps) p lead = let rest = has_place qs ps p lead.1 in omega (arith, rest)

  -- the last one is taken in before the others, or behind them
  pub last_first : (os ps : List (PassView T)) (p : PassView T) → length ps < length os
      → each_joined (changed_at (having_joined p) (length ps) os) ps ≡ each_joined os (ps ++ p ∷ [])
  last_first [] ps p inside = absurd (omega (arith, inside))
  last_first (o ∷ os) [] p inside = refl
  last_first (o ∷ os) (p' ∷ ps) p inside = ap (λ (l : List (PassView T)). having_joined p' o ∷ l) (last_first os ps p (omega (arith, inside)))

  pub joins_last : (os ps : List (PassView T)) (p : PassView T) {now all left : List (PassView T)} {n : ℕ} → each_joined os all ≡ left
      → all ≡ ps ++ p ∷ []
      → n ≡ length ps → length ps < length os → now ≡ changed_at (having_joined p) n os → each_joined now ps ≡ left
  joins_last os ps p so is at inside now = ap (λ (l : List (PassView T)). each_joined l ps) (now ∙ ap (λ n. changed_at (having_joined p) n os) at)
      ∙ last_first os ps p inside ∙ ap (each_joined os) (sym is) ∙ so
