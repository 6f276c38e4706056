-- Worked examples by computation: what a seat's last look says, and how many numbers chance was asked for.
use Rattle.std.specs.Prelude.{◌≡◌, ℕ, ◌+◌, Some, refl}
use Rattle.std.proofs.Common.{arith}
use Rattle.core_model.specs.View.{View}
use Rattle.heap_table.specs.SeatViews.{nobody}
use Rattle.seat_costs.specs.Alone.{IsSteady}
use Rattle.seat_costs.specs.Asked.{AsksFor, HasAsked}

-- a seat that has won two exchanges, and looked at the mark since, which was 3
abbrev pub looked : View
looked = record nobody { wins = 2; used_look = record { word = 3; ticket = Some 7; wins = 2; taken = 0 } }

-- then the word is 3
pub says_the_word : IsSteady looked looked.used_look 4 → ⊥
says_the_word steady = let three : ℕ = 3 in let e : 4 ≡ three = steady.same refl refl in omega arith

-- once it has won again the word may be any
pub says_nothing_then : IsSteady (record looked { wins = 3 }) looked.used_look 4
says_nothing_then = record { least = omega arith; same = λ there e. absurd (let two : ℕ = 2 in let f : two ≡ 3 = e in omega arith) }

-- a look is never of more wins than the seat has
pub looks_at_no_later_win : IsSteady (record looked { wins = 1 }) looked.used_look 3 → ⊥
looks_at_no_later_win steady = let least = steady.least in omega arith

-- a chance that counts the numbers that it has given
abbrev pub counts : ℕ → ℕ → ℕ → Type 0
counts old number new = new ≡ old + 1

pub two_numbers : AsksFor counts 2 5 7
two_numbers = (6, (0, refl), (7, (0, refl), refl))

-- it was asked for two, and neither for one nor for none
pub not_one : AsksFor counts 1 5 7 → ⊥
not_one asks = let first = asks.1.1 in let last = asks.2 in omega arith

pub not_none : AsksFor counts 0 5 7 → ⊥
not_none same = let five : ℕ = 5 in let e : 7 ≡ five = same in omega arith

-- a seat that has drawn two tickets more
pub two_tickets : HasAsked counts (record nobody { draws = 3 }) (record nobody { draws = 5 }) 5 7
two_tickets = record { drew = omega arith; asks = two_numbers }

-- and a chance that gave one number alone
pub asked_too_little : HasAsked counts (record nobody { draws = 3 }) (record nobody { draws = 5 }) 5 6 → ⊥
asked_too_little has = let first = has.asks.1.1 in let next = has.asks.2.1.1 in let last = has.asks.2.2 in omega arith
