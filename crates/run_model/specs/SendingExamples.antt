-- Worked examples by computation: numbered requests, what each kind of request sends, what a trace sends, and what of it comes to whom.
use Rattle.std.specs.Prelude.{◌≡◌, ℕ, List, [], ◌∷◌, flat_map, map, replicate, None, Some, refl}
use Rattle.dict_model.specs.Requests.{Request, put, get, del, move, done, full, none, found, with_key}
use Rattle.dict_model.specs.Shards.{Map, no_keys}
use Rattle.run_model.specs.Runs.{answered}
use Rattle.run_model.specs.Arrivals.{arrivals}
use Rattle.run_model.specs.Sending.{Sent, put_of, puts_of, numbered, worker_numbered, sends, all_sent, coming}
use Rattle.run_model.specs.Workers.{Replies, worker_replies, worker_numbers}

-- by the request of this number, to this key, this value
abbrev pub sent : ℕ → ℕ → List ℕ → Sent
sent number key value = record { number = number; key = key; value = value }

-- keys 5 and 13 are of shard 5, keys 6 and 14 of shard 6: each value goes to the other shard
abbrev pub crossing : List Request
crossing = put 5 (97 ∷ []) ∷ move 5 6 ∷ put 6 (98 ∷ []) ∷ move 6 13 ∷ put 5 (99 ∷ []) ∷ move 5 14 ∷ []

-- each of these six requests is told that it is done
abbrev pub all_done : Replies
all_done = replicate 6 (Some done)

-- the first one has the number that is given
counted_from_three : numbered 3 (get 5 ∷ del 6 ∷ []) ≡ (3, get 5) ∷ (4, del 6) ∷ []
counted_from_three = refl

-- a worker's requests keep the numbers that they have in the trace
first_of_two : worker_numbered 2 0 crossing ≡ (2, put 6 (98 ∷ [])) ∷ (3, move 6 13) ∷ []
first_of_two = refl

second_of_two : worker_numbered 2 1 crossing ≡ (0, put 5 (97 ∷ [])) ∷ (1, move 5 6) ∷ (4, put 5 (99 ∷ [])) ∷ (5, move 5 14) ∷ []
second_of_two = refl

one_alone : worker_numbered 1 0 crossing ≡ numbered 0 crossing
one_alone = refl

as_put : put_of (sent 3 13 (98 ∷ [])) ≡ (put 13 (98 ∷ []), done)
as_put = refl

-- a map with one key
abbrev pub with_five : Map
with_five = with_key no_keys 5 (97 ∷ [])

-- a move that is done sends what its key had, an empty value too
sent_by_move : sends with_five 2 (move 5 6) done ∷ sends (with_key no_keys 5 []) 2 (move 5 6) done ∷ [] ≡ (sent 2 6 (97 ∷ []) ∷ []) ∷
    (sent 2 6 [] ∷ []) ∷ []
sent_by_move = refl

-- to the same key too
sent_to_itself : sends with_five 2 (move 5 5) done ≡ sent 2 5 (97 ∷ []) ∷ []
sent_to_itself = refl

-- nothing where there is nothing, however it is answered, and nothing where it isn't done
nothing_by_move : map (λ reply. sends no_keys 2 (move 5 6) reply) (done ∷ full ∷ none ∷ found [] ∷ []) ≡ [] ∷ [] ∷ [] ∷ [] ∷ []
nothing_by_move = refl

nothing_undone : map (λ reply. sends with_five 2 (move 5 6) reply) (full ∷ none ∷ found (97 ∷ []) ∷ []) ≡ [] ∷ [] ∷ [] ∷ []
nothing_undone = refl

-- no other request sends anything
nothing_by_others : map (λ request. sends with_five 2 request done) (put 5 (98 ∷ []) ∷ get 5 ∷ del 5 ∷ []) ≡ [] ∷ [] ∷ [] ∷ []
nothing_by_others = refl

-- each move sends what its key has at that moment
three_sent : all_sent no_keys (numbered 0 crossing) all_done ≡ sent 1 6 (97 ∷ []) ∷ sent 3 13 (98 ∷ []) ∷ sent 5 14 (99 ∷ []) ∷ []
three_sent = refl

-- a value goes no further in the same trace: the key that is to have it has none yet
abbrev pub chain : List Request
chain = move 5 6 ∷ move 6 13 ∷ move 13 14 ∷ []

one_step : all_sent with_five (numbered 0 chain) (Some done ∷ Some none ∷ Some none ∷ []) ≡ sent 0 6 (97 ∷ []) ∷ []
one_step = refl

-- nor where the later moves are told to be done all the same; a value that the next key has goes on itself
wrong_replies : all_sent with_five (numbered 0 chain) (Some done ∷ Some done ∷ Some done ∷ []) ≡ sent 0 6 (97 ∷ []) ∷ []
wrong_replies = refl

each_one_on : all_sent (with_key with_five 6 (98 ∷ [])) (numbered 0 chain) (Some done ∷ Some done ∷ Some none ∷ []) ≡ sent 0 6
    (97 ∷ []) ∷ sent 1 13 (98 ∷ []) ∷ []
each_one_on = refl

-- a move that was refused leaves the value for the next one
refused_first : all_sent with_five (numbered 0 (move 5 6 ∷ move 5 13 ∷ [])) (Some full ∷ Some done ∷ []) ≡ sent 1 13 (97 ∷ []) ∷ []
refused_first = refl

-- so does one that is unanswered; where the replies end early the rest is unanswered, and those behind the last request say nothing
unanswered_first : all_sent with_five (numbered 0 (move 5 6 ∷ move 5 13 ∷ [])) (None ∷ Some done ∷ []) ≡ sent 1 13 (97 ∷ []) ∷ []
unanswered_first = refl

too_few_replies : all_sent no_keys (numbered 0 crossing) (Some done ∷ Some done ∷ Some done ∷ []) ≡ sent 1 6 (97 ∷ []) ∷ []
too_few_replies = refl

too_many_replies : all_sent with_five (numbered 7 (move 5 6 ∷ [])) (Some done ∷ Some done ∷ []) ≡ sent 7 6 (97 ∷ []) ∷ []
too_many_replies = refl

-- to one worker alone comes all that is sent, and to each of two what is sent to its shards
to_one_alone : coming 1 0 no_keys crossing all_done ≡ all_sent no_keys (numbered 0 crossing) all_done
to_one_alone = refl

to_two : map (λ worker. coming 2 worker no_keys crossing all_done) (0 ∷ 1 ∷ 2 ∷ []) ≡ (sent 1 6 (97 ∷ []) ∷ sent 5 14 (99 ∷ []) ∷ []) ∷
    (sent 3 13 (98 ∷ []) ∷ []) ∷ [] ∷ []
to_two = refl

-- what each of two workers sends of its own requests, one after the other: the same values in another order
put_together : flat_map (λ worker. all_sent no_keys (worker_numbered 2 worker crossing) (worker_replies 2 worker crossing all_done)) (worker_numbers 2)
    ≡ sent 3 13 (98 ∷ []) ∷ sent 1 6 (97 ∷ []) ∷ sent 5 14 (99 ∷ []) ∷ []
put_together = refl

-- as puts it is what arrives
same_as_arrivals : puts_of (all_sent no_keys (numbered 0 crossing) all_done) ≡ (put 6 (97 ∷ []), done) ∷ (put 13 (98 ∷ []), done) ∷
    (put 14 (99 ∷ []), done) ∷ []
same_as_arrivals = refl

arrives_so : arrivals no_keys (answered crossing all_done) ≡ puts_of (all_sent no_keys (numbered 0 crossing) all_done)
arrives_so = refl
