-- Requests to a map, one after the other, each with its reply.
use Rattle.std.specs.Prelude.{◌≡◌, ℕ, List, [], ◌∷◌, None, Some, cond, nat_eq, refl}
use Rattle.dict_model.specs.Shards.{Map, no_keys}

-- what is asked of a map: to put, get or delete a key, or to move it
pub data Request : Type 0 where
  put : (key : ℕ) (value : List ℕ) → Request
  get : (key : ℕ) → Request
  del : (key : ℕ) → Request
  -- the key's value goes to another key, where it arrives once all requests are answered
  move : (key to : ℕ) → Request

-- what is answered: that it was done, that there is no room, that the key is missing, or the value that was found
pub data Reply : Type 0 where
  done : Reply
  full : Reply
  none : Reply
  found : (value : List ℕ) → Reply

-- the map with another value for the key
abbrev pub with_key : Map → ℕ → List ℕ → Map
with_key map key value k = cond (nat_eq key k) (Some value) (map k)

-- the map without the key
abbrev pub without_key : Map → ℕ → Map
without_key map key k = cond (nat_eq key k) None (map k)

-- the map after one request with its reply: a put sets the key or finds no room, a del takes the key out, and so does a move
abbrev pub after_one : Map → Request → Reply → Map
after_one map (put key value) done = with_key map key value
after_one map (del key) done = without_key map key
after_one map (move key to) done = without_key map key
after_one map request reply = map

-- the reply is right for the map: that there is no room may be told of any put, and of a move of any key that is there
pub data IsReply (map : Map) : Request → Reply → Type 0 where
  put_done : (key : ℕ) (value : List ℕ) → IsReply map (put key value) done
  put_full : (key : ℕ) (value : List ℕ) → IsReply map (put key value) full
  get_found : (key : ℕ) (value : List ℕ) → map key ≡ Some value → IsReply map (get key) (found value)
  get_none : (key : ℕ) → map key ≡ None → IsReply map (get key) none
  del_done : (key : ℕ) (value : List ℕ) → map key ≡ Some value → IsReply map (del key) done
  del_none : (key : ℕ) → map key ≡ None → IsReply map (del key) none
  move_done : (key to : ℕ) (value : List ℕ) → map key ≡ Some value → IsReply map (move key to) done
  move_full : (key to : ℕ) (value : List ℕ) → map key ≡ Some value → IsReply map (move key to) full
  move_none : (key to : ℕ) → map key ≡ None → IsReply map (move key to) none

-- the map after the requests in order, each with its reply
abbrev pub after : Map → List (Request × Reply) → Map
after map [] = map
after map (r ∷ rs) = after (after_one map r.0 r.1) rs

-- each of the replies is right for the map of its moment
abbrev pub AreReplies : Map → List (Request × Reply) → Type 0
AreReplies map [] = Unit {0}
AreReplies map (r ∷ rs) = IsReply map r.0 r.1 × AreReplies (after_one map r.0 r.1) rs

-- a value is put, read, taken out, and then not there
abbrev four_requests : List (Request × Reply)
four_requests = (put 5 (97 ∷ 98 ∷ []), done) ∷ (get 5, found (97 ∷ 98 ∷ [])) ∷ (del 5, done) ∷ (get 5, none) ∷ []

four_replies : AreReplies no_keys four_requests
four_replies =
    (put_done 5 (97 ∷ 98 ∷ []), (get_found 5 (97 ∷ 98 ∷ []) refl, (del_done 5 (97 ∷ 98 ∷ []) refl, (get_none 5 refl, tt))))

gone_again : after no_keys four_requests 5 ≡ None
gone_again = refl

-- a put without room changes nothing
no_room : after no_keys ((put 1 (7 ∷ []), full) ∷ []) 1 ≡ None
no_room = refl

-- a moved key is gone at once, and the other key has its value only when that arrives
abbrev moved_away : List (Request × Reply)
moved_away = (put 5 (97 ∷ []), done) ∷ (move 5 6, done) ∷ (get 5, none) ∷ (move 5 6, none) ∷ []

moved_replies : AreReplies no_keys moved_away
moved_replies = (put_done 5 (97 ∷ []), (move_done 5 6 (97 ∷ []) refl, (get_none 5 refl, (move_none 5 6 refl, tt))))

not_there_yet : (after no_keys moved_away 5 ≡ None) × (after no_keys moved_away 6 ≡ None)
not_there_yet = (refl, refl)

-- a move without room changes nothing; of a key that is missing it is not told
moved_nowhere : after no_keys ((put 1 (7 ∷ []), done) ∷ (move 1 2, full) ∷ []) 1 ≡ Some (7 ∷ [])
moved_nowhere = refl

full_of_nothing : IsReply no_keys (move 1 2) full → ⊥
full_of_nothing (move_full key to value there) = absurd (cc)

-- a move that is done of a key that is missing
done_of_nothing : IsReply no_keys (move 1 2) done → ⊥
done_of_nothing (move_done key to value there) = absurd (cc)

-- nor is a key that is there told to be missing
none_of_something : IsReply (with_key no_keys 1 []) (move 1 2) none → ⊥
none_of_something (move_none key to missing) = absurd (cc)
