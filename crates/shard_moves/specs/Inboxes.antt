-- What has arrived: the next of the nodes that are left.
use Rattle.std.specs.Prelude.{◌≡◌, ℕ, List, [], ◌∷◌, Option, None, Some}
use Rattle.heap_model.specs.declared.block.Block.{Block}
use Rattle.heap_seat.specs.Handing.{Accepts}
use Rattle.heap_seat.specs.View.{View}
use Rattle.dict_requests.specs.Moving.{IsNodeOf}
use Rattle.run_model.specs.Sending.{Sent}

-- the first of those that were left has come, with its key, as a block that has its value
pub record TakesFirst (key : ℕ) (node : Block) (old new : List Sent) (v w : View) : Type 0 where
  pub first : Sent
  pub left_are : old ≡ first ∷ new
  pub key_is : first.key ≡ key
  pub accepts : Accepts node v w
  pub node_is : IsNodeOf w node first.value

-- what the next answer is: the first that is left; or nothing is left, and nothing changes
abbrev pub TakesNext : {S : Type 0} → (S → View) → Option (ℕ × Block) → List Sent → List Sent → S → S → Type 0
TakesNext view (Some arrived) old new s t = TakesFirst arrived.0 arrived.1 old new (view s) (view t)
TakesNext view None old new s t = (old ≡ []) × (new ≡ []) × (t ≡ s)

-- something is left
pub record IsLeft (left : List Sent) : Type 0 where
  pub first : Sent
  pub others : List Sent
  pub left_are : left ≡ first ∷ others
