-- Worked examples by computation: accounts of passes, and what is delivered. A parcel is its number here.
use Rattle.std.specs.Prelude.{◌≡◌, ℕ, List, [], ◌∷◌, refl}
use Rattle.std.proofs.Common.{arith}
use Rattle.parcel_queue.specs.Account.{Account, PassView, all_parts, unused, less_a_part, with_put, with_taken, with_all_taken, joined, all_joined}
use Rattle.parcel_queue.specs.Delivery.{AreDelivered, IsDelivered}
use Rattle.parcel_queue.specs.Rule.{all_put, all_taken}

-- an account with so many parts, and these parcels put and taken
abbrev pub account : ℕ → List ℕ → List ℕ → Account ℕ
account parts put taken = record { parts = parts; put = put; taken = taken }

-- the owner's pass as it is made, and after two other passes were made of it
made : unused all_parts ≡ account 1024 [] []
made = refl

shared : less_a_part (less_a_part (unused all_parts)) ≡ account 1022 [] []
shared = refl

-- parcels that are put or taken stand behind the others
puts_behind : with_put (with_put (unused 1) 7) 5 ≡ account 1 (7 ∷ 5 ∷ []) []
puts_behind = refl

takes_behind : with_taken (account 1024 (7 ∷ 5 ∷ []) (7 ∷ [])) 5 ≡ account 1024 (7 ∷ 5 ∷ []) (7 ∷ 5 ∷ [])
takes_behind = refl

takes_some : with_all_taken (account 1024 (7 ∷ 5 ∷ []) (7 ∷ [])) (5 ∷ []) ≡ account 1024 (7 ∷ 5 ∷ []) (7 ∷ 5 ∷ [])
takes_some = refl

-- two accounts as one: the sums of the parts, and the lists one behind the other
as_one : joined (account 1023 (4 ∷ []) []) (account 1 (7 ∷ 5 ∷ []) []) ≡ account 1024 (4 ∷ 7 ∷ 5 ∷ []) []
as_one = refl

-- the pass of some queue that has this account
abbrev pub pass_with : Account ℕ → PassView ℕ
pass_with a = record {
  queue = record { words = 0; slots = 0; views_name = 0; atom = 0; block = 0; offset = 0; slot_names = [] };
  account = a;
}

-- the passes of two senders as one with the owner's, the first sender's parcels first
all_as_one : all_joined (account 1022 [] []) (pass_with (account 1 (7 ∷ 5 ∷ []) []) ∷ pass_with (account 1 (6 ∷ []) []) ∷ [])
    ≡ account 1024 (7 ∷ 5 ∷ 6 ∷ []) []
all_as_one = refl

-- what all passes put, and what they took
put_by_all : all_put (account 1023 [] (7 ∷ []) ∷ account 1 (7 ∷ 5 ∷ []) [] ∷ []) ≡ 7 ∷ 5 ∷ []
put_by_all = refl

taken_by_all : all_taken (account 1023 [] (7 ∷ []) ∷ account 1 (7 ∷ 5 ∷ []) [] ∷ []) ≡ 7 ∷ []
taken_by_all = refl

-- no sender, or none that put anything
nothing_sent : AreDelivered {T = ℕ} [] []
nothing_sent = record { same = record { moves = []; below = tt; is = refl } }

nothing_put : AreDelivered {T = ℕ} ([] ∷ [] ∷ []) []
nothing_put = record { same = record { moves = []; below = tt; is = refl } }

-- one sender's parcels, in their order
one_sender : AreDelivered {T = ℕ} ((7 ∷ 5 ∷ []) ∷ []) (7 ∷ 5 ∷ [])
one_sender = record { same = record { moves = []; below = tt; is = refl } }

-- those of two, of which one came between the other's
two_senders : AreDelivered {T = ℕ} ((7 ∷ 5 ∷ []) ∷ (6 ∷ []) ∷ []) (7 ∷ 6 ∷ 5 ∷ [])
two_senders = record { same = record { moves = (1, 2) ∷ []; below = (omega arith, omega arith, tt); is = refl } }

-- a parcel that two senders put comes twice
put_twice : AreDelivered {T = ℕ} ((7 ∷ []) ∷ (7 ∷ []) ∷ []) (7 ∷ 7 ∷ [])
put_twice = record { same = record { moves = []; below = tt; is = refl } }

-- the whole account of an owner that took what its senders put
owner_took_all : IsDelivered (account 1024 (7 ∷ 5 ∷ 6 ∷ []) (6 ∷ 7 ∷ 5 ∷ []))
owner_took_all = record {
  same = record {
    moves = (1, 2) ∷ (0, 2) ∷ [];
    below = (omega arith, omega arith, (omega arith, omega arith, tt));
    is = refl;
  };
}
