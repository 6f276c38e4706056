-- Worked examples by computation: what is a worker's of a trace and of its replies, what traces need, bounds of steps,
-- runs that answer a first part, what workers took, what one map answers, the room for a get, and what arrives by
-- moves.
use Rattle.std.specs.Prelude.{◌≡◌, List, [], ◌∷◌, ◌++◌, length, map, sum_by, None, Some, refl}
use Rattle.std.proofs.Common.{arith}
use Rattle.heap_model.specs.Image.{Image}
use Rattle.heap_model.specs.Sizes.{span_of}
use Rattle.dict_model.specs.Nodes.{node_bytes}
use Rattle.dict_model.specs.Requests.{Request, put, get, del, move, Reply, done, full, none, found, after, AreReplies, put_done, get_none, del_none, move_done, move_none}
use Rattle.dict_model.specs.Shards.{no_keys}
use Rattle.run_model.specs.Arrivals.{arrivals, worker_arrivals, arrived_for}
use Rattle.run_model.specs.Needs.{superblocks_needed, tables_needed, step_bound}
use Rattle.run_model.specs.Runs.{answered, unanswered, of_shard, AnswersInOrder, span_taken, first_span, worker_answered, worker_unanswered, worker_span, spans_beside}
use Rattle.run_model.specs.Workers.{Replies, root_owner, worker_requests, worker_replies, worker_numbers}
use Rattle.run_model.specs.Working.{IsLengthFor, of_trace}

-- a put, a get, a del and a get of one key
abbrev pub four : List Request
four = put 5 (97 ∷ 98 ∷ []) ∷ get 5 ∷ del 5 ∷ get 5 ∷ []

-- keys 5 and 13 are of shard 5, keys 6 and 14 of shard 6
abbrev pub mixed : List Request
mixed = put 5 (97 ∷ 98 ∷ []) ∷ get 6 ∷ put 14 [] ∷ del 13 ∷ []

-- of two workers the second has shard 5, and the first has shard 6
second_of_two : worker_requests 2 1 mixed ≡ put 5 (97 ∷ 98 ∷ []) ∷ del 13 ∷ []
second_of_two = refl

first_of_two : worker_requests 2 0 mixed ≡ get 6 ∷ put 14 [] ∷ []
first_of_two = refl

-- of eight each has the shard of its number
of_eight : map (λ worker. worker_requests 8 worker mixed) (0 ∷ 5 ∷ 6 ∷ []) ≡ [] ∷ (put 5 (97 ∷ 98 ∷ []) ∷ del 13 ∷ []) ∷ (get 6 ∷ put 14 [] ∷ []) ∷ []
of_eight = refl

-- a move is of the worker whose shard it takes the value from
moved_by : worker_requests 2 1 (move 5 6 ∷ move 6 5 ∷ []) ≡ move 5 6 ∷ []
moved_by = refl

-- one alone has all
of_one : worker_requests 1 0 mixed ≡ mixed
of_one = refl

eight_numbers : worker_numbers 8 ≡ 0 ∷ 1 ∷ 2 ∷ 3 ∷ 4 ∷ 5 ∷ 6 ∷ 7 ∷ []
eight_numbers = refl

-- a root that is no shard's is the first worker's
owners : root_owner 2 5 ∷ root_owner 2 6 ∷ root_owner 2 9 ∷ root_owner 8 7 ∷ root_owner 8 9 ∷ [] ≡ 1 ∷ 0 ∷ 0 ∷ 7 ∷ 0 ∷ []
owners = refl

-- one superblock for the node and one for the table; of the mixed trace two nodes and two tables, whoever works it off
needed : superblocks_needed four ∷ superblocks_needed mixed ∷ superblocks_needed (get 5 ∷ del 5 ∷ []) ∷ [] ≡ 2 ∷ 4 ∷ 0 ∷ []
needed = refl

-- keys 5 and 13 share a table
two_shards : tables_needed (put 5 [] ∷ put 13 [] ∷ put 6 [] ∷ get 7 ∷ []) ≡ 2
two_shards = refl

-- the shard that a move brings a value to needs a table, and the one that it takes it from none; and one superblock
-- more is needed where there is a move
moved_need : superblocks_needed (move 5 6 ∷ []) ∷ superblocks_needed (put 5 [] ∷ move 5 6 ∷ []) ∷ superblocks_needed
    (put 5 [] ∷ move 5 13 ∷ move 13 5 ∷ []) ∷ [] ≡ 2 ∷ 4 ∷ 3 ∷ []
moved_need = refl

-- the shards that each of two workers puts into; where nothing moves these are those of the trace
shards_of_two : map (λ worker. tables_needed (worker_requests 2 worker mixed)) (0 ∷ 1 ∷ []) ≡ 1 ∷ 1 ∷ []
shards_of_two = refl

-- the node of the longest value takes three superblocks, that of 65,513 bytes two, and one byte less fits one
spans : span_of (node_bytes 131072) ∷ span_of (node_bytes 65513) ∷ span_of (node_bytes 65512) ∷ [] ≡ 3 ∷ 2 ∷ 1 ∷ []
spans = refl

-- no request, and one on an empty image; two workers and eight
bounds : step_bound 0 0 1 ∷ step_bound 1 0 1 ∷ step_bound 4 1 2 ∷ step_bound 1 5 8 ∷ [] ≡ 2097152 ∷ 5308424 ∷ 33816736 ∷ 159449136 ∷ []
bounds = refl

-- two of four requests are answered
abbrev pub two_answered : Replies
two_answered = Some done ∷ Some (found (97 ∷ 98 ∷ [])) ∷ None ∷ None ∷ []

answers : answered four two_answered ≡ (put 5 (97 ∷ 98 ∷ []), done) ∷ (get 5, found (97 ∷ 98 ∷ [])) ∷ []
answers = refl

rest : unanswered four two_answered ≡ del 5 ∷ get 5 ∷ []
rest = refl

first_part : AnswersInOrder four two_answered
first_part = record { first = refl; then_none = refl }

-- no reply comes behind one that is missing
not_behind : AnswersInOrder four (Some done ∷ None ∷ Some done ∷ None ∷ []) → ⊥
not_behind is = let e = is.then_none in absurd (cc)

-- nor is one too many or one too few
not_more : AnswersInOrder (get 5 ∷ []) (Some none ∷ Some none ∷ []) → ⊥
not_more is = let e = is.then_none in absurd (cc)

not_fewer : AnswersInOrder (get 5 ∷ []) [] → ⊥
not_fewer is = let e = is.then_none in absurd (cc)

-- of the mixed trace a put is unanswered, and the del behind it is answered
abbrev pub one_missing : Replies
one_missing = Some done ∷ Some none ∷ None ∷ Some done ∷ []

-- so the second of two workers has answered all, and the first has one left
all_of_second : worker_replies 2 1 mixed one_missing ≡ Some done ∷ Some done ∷ []
all_of_second = refl

some_of_first : worker_replies 2 0 mixed one_missing ≡ Some none ∷ None ∷ []
some_of_first = refl

answered_by_first : worker_answered 2 0 mixed one_missing ≡ (get 6, none) ∷ []
answered_by_first = refl

left_to_each : map (λ worker. worker_unanswered 2 worker mixed one_missing) (0 ∷ 1 ∷ []) ≡ (put 14 [] ∷ []) ∷ [] ∷ []
left_to_each = refl

-- the requests to shard 5 of a mixed trace
one_shard : of_shard 5 ((put 5 [], done) ∷ (get 6, none) ∷ (del 13, none) ∷ []) ≡ (put 5 [], done) ∷ (del 13, none) ∷ []
one_shard = refl

-- what the puts before took: those that were done, and no others
taken : sum_by span_taken ((put 5 [], done) ∷ (put 6 [], full) ∷ (get 5, found []) ∷ (put 13 [], done) ∷ []) ≡ 2
taken = refl

-- the first of those that are left may have taken some
taken_by_first : first_span (put 14 [] ∷ put 6 [] ∷ []) ∷ first_span (get 6 ∷ put 6 [] ∷ []) ∷ first_span [] ∷ [] ≡ 1 ∷ 0 ∷ 0 ∷ []
taken_by_first = refl

-- each of two workers took one superblock for a node at most, of eight the two that have requests
taken_by_each : worker_span 2 0 mixed one_missing ∷ worker_span 2 1 mixed one_missing ∷ worker_span 8 0 mixed one_missing ∷ worker_span 8 6
    mixed one_missing ∷ [] ≡ 1 ∷ 1 ∷ 0 ∷ 1 ∷ []
taken_by_each = refl

-- beside one alone none is taken, beside one of two what the other took, and beside one of eight that has no request all
taken_beside : spans_beside 1 0 mixed one_missing ∷ spans_beside 2 0 mixed one_missing ∷ spans_beside 8 3 mixed one_missing ∷ spans_beside 8 5
    mixed one_missing ∷ [] ≡ 0 ∷ 1 ∷ 2 ∷ 1 ∷ []
taken_beside = refl

-- the mixed trace, of two shards, as one map without keys answers it
abbrev pub all_told : Replies
all_told = Some done ∷ Some none ∷ Some done ∷ Some none ∷ []

one_map : AreReplies no_keys (answered mixed all_told)
one_map = (put_done 5 (97 ∷ 98 ∷ []), (get_none 6 refl, (put_done 14 [], (del_none 13 refl, tt))))

-- and that map after it, which has keys of both shards
both_shards : map (after no_keys (answered mixed all_told)) (5 ∷ 14 ∷ 13 ∷ []) ≡ Some (97 ∷ 98 ∷ []) ∷ Some [] ∷ None ∷ []
both_shards = refl

-- a trace that puts two values under one key; a get of it may answer the longer one
abbrev pub two_puts : List Request
two_puts = put 5 (97 ∷ 98 ∷ []) ∷ get 5 ∷ put 5 [] ∷ []

pub two_bytes : (image : Image) → IsLengthFor image two_puts 5 2
two_bytes image = of_trace (97 ∷ 98 ∷ []) (0, omega arith, refl)

-- a value that is moved away arrives at the end; not one of a key that is missing, nor one that has no room
abbrev pub two_values : List (Request × Reply)
two_values = (put 5 (97 ∷ []), done) ∷ (put 6 (98 ∷ []), done) ∷ []

arrives : arrivals no_keys (two_values ++ (move 5 9, done) ∷ (move 7 1, none) ∷ (move 6 2, full) ∷ []) ≡ (put 9 (97 ∷ []), done) ∷ []
arrives = refl

-- what is put under the key later is not moved, and what is put before is
as_it_was : arrivals no_keys ((put 5 (97 ∷ []), done) ∷ (move 5 9, done) ∷ (put 5 (98 ∷ []), done) ∷ []) ≡ (put 9 (97 ∷ []), done) ∷ []
as_it_was = refl

as_put_again : arrivals no_keys ((put 5 (97 ∷ []), done) ∷ (put 5 (98 ∷ []), done) ∷ (move 5 9, done) ∷ []) ≡ (put 9 (98 ∷ []), done) ∷ []
as_put_again = refl

-- a value that has not arrived cannot go on: only the first of two moves that follow each other finds it
no_chain : AreReplies no_keys ((put 5 (97 ∷ []), done) ∷ (move 5 9, done) ∷ (move 9 2, none) ∷ [])
no_chain = (put_done 5 (97 ∷ []), (move_done 5 9 (97 ∷ []) refl, (move_none 9 2 refl, tt)))

-- after all of it the value is under the other key alone
abbrev pub moved_once : List (Request × Reply)
moved_once = (put 5 (97 ∷ []), done) ∷ (move 5 9, done) ∷ []

there_at_last : map (after no_keys (moved_once ++ arrivals no_keys moved_once)) (5 ∷ 9 ∷ []) ≡ None ∷ Some (97 ∷ []) ∷ []
there_at_last = refl

-- a move of a key to itself takes it out, and it is back at the end
abbrev pub moved_to_itself : List (Request × Reply)
moved_to_itself = (put 5 (97 ∷ []), done) ∷ (move 5 5, done) ∷ (get 5, none) ∷ []

back_at_last : after no_keys (moved_to_itself ++ arrivals no_keys moved_to_itself) 5 ≡ Some (97 ∷ [])
back_at_last = refl

-- of two moves to one key the later one is left, and so it is where the key has a value of its own
abbrev pub moved_both : List (Request × Reply)
moved_both = two_values ++ (move 5 9, done) ∷ (move 6 9, done) ∷ (put 9 (99 ∷ []), done) ∷ []

last_one_stays : map (after no_keys (moved_both ++ arrivals no_keys moved_both)) (5 ∷ 6 ∷ 9 ∷ []) ≡ None ∷ None ∷ Some (98 ∷ []) ∷ []
last_one_stays = refl

-- of two workers each has what comes to its shards, in the order of the trace
abbrev pub moved_across : List (Request × Reply)
moved_across = two_values ++ (move 5 2, done) ∷ (move 6 9, done) ∷ []

comes_to_each : map (λ worker. worker_arrivals 2 worker no_keys moved_across) (0 ∷ 1 ∷ []) ≡ ((put 2 (97 ∷ []), done) ∷ []) ∷
    ((put 9 (98 ∷ []), done) ∷ []) ∷ []
comes_to_each = refl

-- so many have arrived for a shard as its worker has brought in
come_so_far : map (λ count. length (arrived_for 1 2 no_keys moved_across (λ worker. count))) (0 ∷ 1 ∷ 2 ∷ []) ≡ 0 ∷ 1 ∷ 2 ∷ []
come_so_far = refl

-- and it is the first part of what comes to that worker, in the order of the trace
abbrev pub moved_to_one : List (Request × Reply)
moved_to_one = two_values ++ (move 5 3, done) ∷ (move 6 9, done) ∷ []

come_first : arrived_for 2 3 no_keys moved_to_one (λ worker. worker) ≡ (put 3 (97 ∷ []), done) ∷ []
come_first = refl
