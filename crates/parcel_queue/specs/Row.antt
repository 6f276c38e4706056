-- A row of queues, and one pass to each of them, in the same places.
use Rattle.std.specs.Prelude.{◌≡◌, ℕ, zero, suc, ◌<◌, List, [], ◌∷◌}
use Rattle.std.specs.List.{AllZip}
use Rattle.parcel_queue.specs.Account.{PassView, QueueView, unused, less_a_part, with_put, joined}

-- a pass to this queue with more than so many parts
pub record IsPassWith {T : Type 0} (parts : ℕ) (queue : QueueView) (pass : PassView T) : Type 0 where
  pub same : pass.queue ≡ queue.queue
  pub more : parts < pass.account.parts

module _ {T : Type 0} where
  -- one that may be used, and one of which another may be made
  abbrev pub IsPassOf : QueueView → PassView T → Type 0
  IsPassOf queue pass = IsPassWith 0 queue pass

  abbrev pub IsOwnerOf : QueueView → PassView T → Type 0
  IsOwnerOf queue pass = IsPassWith 1 queue pass

  -- to each of the queues a pass with more than so many parts
  abbrev pub ArePassesWith : ℕ → List QueueView → List (PassView T) → Type 0
  ArePassesWith parts queues passes = AllZip (IsPassWith parts) queues passes

  abbrev pub ArePassesOf : List QueueView → List (PassView T) → Type 0
  ArePassesOf queues passes = ArePassesWith 0 queues passes

  -- the pass is one to the queue at this place
  abbrev pub IsOfPlace : List QueueView → ℕ → PassView T → Type 0
  IsOfPlace [] n p = ⊥
  IsOfPlace (q ∷ queues) zero p = p.queue ≡ q.queue
  IsOfPlace (q ∷ queues) (suc n) p = IsOfPlace queues n p

  -- of the pass at this place another one may be made
  abbrev pub IsOwnedAt : List QueueView → List (PassView T) → ℕ → Type 0
  IsOwnedAt [] passes n = ⊥
  IsOwnedAt (q ∷ queues) [] n = ⊥
  IsOwnedAt (q ∷ queues) (p ∷ passes) zero = IsOwnerOf q p
  IsOwnedAt (q ∷ queues) (p ∷ passes) (suc n) = IsOwnedAt queues passes n

  -- the pass once this parcel was put with it
  abbrev pub having_put : T → PassView T → PassView T
  having_put x p = record p { account = with_put p.account x }

  -- the pass once it took in another one
  abbrev pub having_joined : PassView T → PassView T → PassView T
  having_joined other p = record p { account = joined p.account other.account }

  -- the pass once another one was made of it, and that one
  abbrev pub giving_a_part : PassView T → PassView T
  giving_a_part p = record p { account = less_a_part p.account }

  abbrev pub with_a_part : PassView T → PassView T
  with_a_part p = record p { account = unused 1 }

  -- the passes, of which the one at a place has changed
  abbrev pub changed_at : (PassView T → PassView T) → ℕ → List (PassView T) → List (PassView T)
  changed_at f n [] = []
  changed_at f zero (p ∷ ps) = f p ∷ ps
  changed_at f (suc n) (p ∷ ps) = p ∷ changed_at f n ps

  -- the passes, each of which took in the other one in its place
  abbrev pub each_joined : List (PassView T) → List (PassView T) → List (PassView T)
  each_joined passes [] = passes
  each_joined [] (other ∷ others) = []
  each_joined (p ∷ passes) (other ∷ others) = having_joined other p ∷ each_joined passes others

-- what contracts see of a worker's senders: the queues, and its passes to them
pub record SendersView (T : Type 0) : Type 0 where
  pub queues : List QueueView
  pub passes : List (PassView T)
