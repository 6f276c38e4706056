-- What is noted of a pass: which part of the right to see the whole it has, and what went through it.
use Rattle.std.specs.Prelude.{ℕ, ◌+◌, ◌-◌, List, [], ◌∷◌, ◌++◌}
use Rattle.atomic_table.specs.Seated.{TableId}

-- its parts, and the parcels that were put and taken with it, the first one first
pub record Account (T : Type 0) : Type 0 where
  pub parts : ℕ
  pub put : List T
  pub taken : List T

-- what contracts see of a pass: whose queue it is of, and its account
pub record PassView (T : Type 0) : Type 0 where
  pub queue : TableId
  pub account : Account T

-- what they see of a queue: which one it is, and for how many parcels it has room
pub record QueueView : Type 0 where
  pub queue : TableId
  pub room : ℕ

-- all passes of a queue have so many parts together
abbrev pub all_parts : ℕ
all_parts = 1024

module _ {T : Type 0} where
  -- nothing has gone through a pass with so many parts
  abbrev pub unused : ℕ → Account T
  unused parts = record { parts = parts; put = []; taken = [] }

  -- the account once another pass was made of this one: it has one part less
  abbrev pub less_a_part : Account T → Account T
  less_a_part a = record a { parts = a.parts - 1 }

  -- the account once this parcel was put
  abbrev pub with_put : Account T → T → Account T
  with_put a x = record a { put = a.put ++ x ∷ [] }

  -- the account once this parcel was taken
  abbrev pub with_taken : Account T → T → Account T
  with_taken a x = record a { taken = a.taken ++ x ∷ [] }

  -- the account once these parcels were taken
  abbrev pub with_all_taken : Account T → List T → Account T
  with_all_taken a xs = record a { taken = a.taken ++ xs }

  -- two accounts as one
  abbrev pub joined : Account T → Account T → Account T
  joined a b = record { parts = a.parts + b.parts; put = a.put ++ b.put; taken = a.taken ++ b.taken }

  -- an account with those of these passes
  abbrev pub all_joined : Account T → List (PassView T) → Account T
  all_joined a [] = a
  all_joined a (p ∷ ps) = all_joined (joined a p.account) ps
