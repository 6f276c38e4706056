-- Worked examples by computation: whose a root is, and what of a trace and of its replies is a worker's.
use Rattle.std.specs.Prelude.{◌≡◌, List, [], ◌∷◌, map, None, Some, refl}
use Rattle.dict_model.specs.Requests.{Request, put, get, del, done, none}
use Rattle.run_model.specs.Workers.{Replies, root_owner, shard_asked, worker_numbers, worker_replies, worker_requests}

-- one worker has each root
one_worker : map (root_owner 1) (0 ∷ 7 ∷ 8 ∷ 1023 ∷ []) ≡ 0 ∷ 0 ∷ 0 ∷ 0 ∷ []
one_worker = refl

-- of two, the second has the shards of odd number; the roots that are no shard's, odd or not, are the first one's
two_workers : map (root_owner 2) (0 ∷ 1 ∷ 6 ∷ 7 ∷ 8 ∷ 9 ∷ 1023 ∷ []) ≡ 0 ∷ 1 ∷ 0 ∷ 1 ∷ 0 ∷ 0 ∷ 0 ∷ []
two_workers = refl

-- of three, the last has two shards, and the others three
three_workers : map (root_owner 3) (0 ∷ 1 ∷ 2 ∷ 3 ∷ 4 ∷ 5 ∷ 6 ∷ 7 ∷ 8 ∷ 1022 ∷ 1023 ∷ []) ≡ 0 ∷ 1 ∷ 2 ∷ 0 ∷ 1 ∷ 2 ∷ 0 ∷ 1 ∷ 0 ∷ 0 ∷ 0 ∷ []
three_workers = refl

-- of eight, each has one
eight_workers : map (root_owner 8) (0 ∷ 3 ∷ 7 ∷ 8 ∷ 15 ∷ 1023 ∷ []) ≡ 0 ∷ 3 ∷ 7 ∷ 0 ∷ 0 ∷ 0 ∷ []
eight_workers = refl

numbers_of_three : worker_numbers 3 ≡ 0 ∷ 1 ∷ 2 ∷ []
numbers_of_three = refl

-- a trace about the shards 1, 2, 1 and 0
abbrev trace : List Request
trace = put 1 (97 ∷ []) ∷ get 2 ∷ del 9 ∷ get 0 ∷ []

shards_of_trace : map shard_asked trace ≡ 1 ∷ 2 ∷ 1 ∷ 0 ∷ []
shards_of_trace = refl

-- the second of two workers has the first and the third request, and the first one the others
of_second : worker_requests 2 1 trace ≡ put 1 (97 ∷ []) ∷ del 9 ∷ []
of_second = refl

of_first : worker_requests 2 0 trace ≡ get 2 ∷ get 0 ∷ []
of_first = refl

-- of three workers each is asked, and of eight the last is asked nothing
of_third : worker_requests 3 2 trace ≡ get 2 ∷ []
of_third = refl

of_eighth : worker_requests 8 7 trace ≡ []
of_eighth = refl

-- the second one stopped in the del, and the first one answered one request
abbrev told : Replies
told = Some done ∷ Some none ∷ None ∷ None ∷ []

replies_of_second : worker_replies 2 1 trace told ≡ Some done ∷ None ∷ []
replies_of_second = refl

replies_of_first : worker_replies 2 0 trace told ≡ Some none ∷ None ∷ []
replies_of_first = refl

-- of one worker they are all
replies_of_one : worker_replies 1 0 trace told ≡ told
replies_of_one = refl
