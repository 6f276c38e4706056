-- The reply to one request, from what the dictionary's call answers.
use Rattle.std.proofs.Common.{◌≡◌, ℕ, ◌+◌, ◌≤◌, inl, inr, List, length, None, Some, true, false, refl, subst, sym, ap, ◌++◌, take, drop, ◌∙◌, arith}
use Rattle.std.proofs.Math.Seq.{take-append_seam}
use Rattle.std.proofs.lemmas.List.{take_all}
use Rattle.heap_seat.specs.View.{View}
use Rattle.dict_model.specs.Nodes.{shard_of, value_words, node_bytes, table_bytes}
use Rattle.dict_model.specs.Requests.{Request, put, get, del, move, done, full, none, found, get_found, get_none, put_done, put_full, del_done, del_none, with_key, without_key, IsReply}
use Rattle.dict_model.specs.Shards.{Map}
use Rattle.dict_requests.specs.Answers.{Deletes, MakesFew}
use Rattle.dict_requests.specs.Changes.{Changes}
use Rattle.dict_requests.specs.Maps.{GivesMap}
use Rattle.dict_requests.proofs.DelLemmas.{gives_same, without_missing}
use Rattle.shard_moves.proofs.AwayLemmas.{there_or_not}
use Rattle.run_model.specs.Spending.{TakesFew, for_node as only_node, with_table, HadNoRoom}
use Rattle.run_model.specs.Workers.{shard_asked}
use Rattle.run_model.specs.Working.{Fits, Replied, AsksFor, WasRefused, words_copied}
use Rattle.dict_requests.specs.Gets.{IsAnswer, Gets, ReadsFew, words_of}
use Rattle.dict_requests.specs.Puts.{IsRefused, PutRefused, WasTurnedDown, of_node, of_node_behind_table, of_table, PutTakes, for_node, for_both}
use Rattle.dict_requests.specs.Removal.{IsShard}
use Rattle.heap_model.specs.Sizes.{span_of}
use Rattle.heap_seat.specs.declared.fault.Looks.{Looks}
use Rattle.worker_run.specs.Said.{IsShort}
use Rattle.worker_run.specs.Taking.{MayTake, for_node as may_node, with_table as may_table}
use Rattle.worker_run.proofs.KeyLemmas.{takes_none}
use Rattle.worker_run.proofs.TakenLemmas.{key_has_table}
use Rattle.std.specs.Prelude.{nat_eq}
use Rattle.std.proofs.lemmas.Bool.{cond-true, eq-eqb}

-- a put that was done made a table where its shard had none
put_takes : (key : ℕ) (value : List ℕ) (v w : View) → IsShard v (shard_of key) → Changes (shard_of key) (λ m. with_key m key value) v w
    → PutTakes (node_bytes (length value)) (shard_of key) v w → TakesFew (put key value) done v w
put_takes key value v w shard changes (for_node few) = only_node few
put_takes key value v w shard changes (for_both null few) =
    with_table tt null (key_has_table w (shard_of key) (with_key shard.map key value) key value (changes.gives shard.map shard.gives)
    (cond-true (nat_eq key key) (Some value) (shard.map key) (eq-eqb key key refl))) few

pub replied_put : (key : ℕ) (value : List ℕ) (v w : View) → IsShard v (shard_of key) → Changes (shard_of key) (λ m. with_key m key value) v w
    → PutTakes (node_bytes (length value)) (shard_of key) v w → Replied (put key value) (Some done) v w
replied_put key value v w shard changes takes = record {
  reply = done;
  told_is = refl;
  answers = record { right = λ m gives. put_done key value; gives = λ m gives. changes.gives m gives };
  takes = put_takes key value v w shard changes takes;
  room = λ is_put e. absurd (cc);
}

-- wherever it ended
pub put_spends : (key : ℕ) (value : List ℕ) (v w : View) → PutTakes (node_bytes (length value)) (shard_of key) v w → MayTake (put key value) v w
put_spends key value v w (for_node few) = may_node few
put_spends key value v w (for_both null few) = may_table tt null few

-- another request takes none
pub none_spent : (q : Request) (v w : View) → w.taken ≤ v.taken + 0 → MayTake q v w
none_spent q v w takes_none = may_node (omega arith)

-- a put that was told full had one request for a block refused
refused_once : (bytes shard : ℕ) (looks : Looks) (v w : View) → PutRefused bytes shard looks v w → w.refusals ≡ v.refusals + 1
refused_once bytes shard looks v w (of_node set refused) = refused.count
refused_once bytes shard looks v w (of_node_behind_table null set refused) = refused.count
refused_once bytes shard looks v w (of_table null refused) = refused.count

-- of the bytes of its node where its shard has a table, and of a table where it has none
asks_for : (key : ℕ) (value : List ℕ) (looks : Looks) (v w : View) → PutRefused (node_bytes (length value)) (shard_of key) looks v w
    → AsksFor (put key value) w.refused_bytes w
asks_for key value looks v w (of_node set refused) = inl (set, refused.bytes_are)
asks_for key value looks v w (of_node_behind_table null set refused) = inl (set, refused.bytes_are)
asks_for key value looks v w (of_table null refused) = inr (null, refused.bytes_are)

pub was_refused : {S : Type 0} (view : S → View) (keeps : S → S → Type 0) (has_none : S → S → ℕ → Looks → Type 0) (key : ℕ) (value : List ℕ)
    (looks : Looks) (s t : S)
    → PutRefused (node_bytes (length value)) (shard_of key) looks (view s) (view t)
    → WasTurnedDown keeps has_none (view t).refused_bytes (view t).refused_looks s t
    → WasRefused view keeps has_none (put key value) s t
was_refused view keeps has_none key value looks s t refused down = record {
  once = refused_once (node_bytes (length value)) (shard_of key) looks (view s) (view t) refused;
  asked = asks_for key value looks (view s) (view t) refused;
  none = down;
}

-- what was refused was so over what goes on besides
pub refused_over : {S : Type 0} (view : S → View) (keeps goes : S → S → Type 0) (has_none : S → S → ℕ → Looks → Type 0) (q : Request) (s t : S)
    → ((x y : S) → keeps x y → goes x y)
    → WasRefused view keeps has_none q s t → WasRefused view goes has_none q s t
refused_over view keeps goes has_none q s t over was = record {
  once = was.once;
  asked = was.asked;
  none = let none = was.none in
      record {
        before = none.before;
        after = none.after;
        kept_before = over s none.before none.kept_before;
        none = none.none;
        kept_after = over none.after t none.kept_after;
      };
}

-- one that was refused may have made one too
full_takes : (key : ℕ) (value : List ℕ) (looks : Looks) (v w : View) → PutRefused (node_bytes (length value)) (shard_of key) looks v w
    → TakesFew (put key value) full v w
full_takes key value looks v w (of_node set refused) = only_node refused.taken
full_takes key value looks v w (of_node_behind_table null set refused) = with_table tt null set (let few = refused.taken in omega arith)
full_takes key value looks v w (of_table null refused) = only_node refused.taken

refused_room : (bytes most : ℕ) (looks : Looks) (key : ℕ) (value : List ℕ) (v w : View) → span_of bytes ≤ span_of (node_bytes (length value))
    → IsRefused bytes most looks v w
    → HadNoRoom (put key value) w
refused_room bytes most looks key value v w least refused = record {
  past = let past = refused.found.past in let seen = refused.found.used.is in omega (arith, least);
  now = refused.found.used.taken;
}

full_room : (key : ℕ) (value : List ℕ) (looks : Looks) (v w : View) → PutRefused (node_bytes (length value)) (shard_of key) looks v w
    → HadNoRoom (put key value) w
full_room key value looks v w (of_node set refused) = refused_room (node_bytes (length value)) 0 looks key value v w (omega arith) refused
full_room key value looks v w (of_node_behind_table null set refused) =
    refused_room (node_bytes (length value)) (span_of table_bytes) looks key value v w (omega arith) refused
full_room key value looks v w (of_table null refused) = refused_room table_bytes 0 looks key value v w (omega arith) refused

pub replied_full : (key : ℕ) (value : List ℕ) (looks : Looks) (v w : View) → PutRefused (node_bytes (length value)) (shard_of key) looks v w
    → ((m : Map) → GivesMap v (shard_of key) m → GivesMap w (shard_of key) m) → Replied (put key value) (Some full) v w
replied_full key value looks v w refused same = record {
  reply = full;
  told_is = refl;
  answers = record { right = λ m gives. put_full key value; gives = same };
  takes = full_takes key value looks v w refused;
  room = λ is_put e. full_room key value looks v w refused;
}

pub replied_gone : (key : ℕ) (v w : View) → IsShard v (shard_of key) → MakesFew 0 0 (shard_of key) v w → Deletes key true v w
    → Replied (del key) (Some done) v w
replied_gone key v w shard few deletes = record {
  reply = done;
  told_is = refl;
  answers = record {
    right = λ m gives. elim (there_or_not (m key)) as (λ _. IsReply m (del key) done) [
      | inl nothing ↦ absurd ((deletes.tells m gives).0 refl nothing)
      | inr value ↦ del_done key value.0 value.1
    ];
    gives = deletes.gives;
  };
  takes = only_node (takes_none 0 (shard_of key) shard.map v w shard.gives few);
  room = λ is_put e. absurd (is_put);
}

pub replied_none : (key : ℕ) (v w : View) → IsShard v (shard_of key) → MakesFew 0 0 (shard_of key) v w → Deletes key false v w
    → Replied (del key) (Some none) v w
replied_none key v w shard few deletes = record {
  reply = none;
  told_is = refl;
  answers = record {
    right = λ m gives. del_none key (missing m gives);
    gives = λ m gives. gives_same w (shard_of key) (without_key m key) m (λ q. sym (without_missing m key (missing m gives) q)) (deletes.gives m gives);
  };
  takes = only_node (takes_none 0 (shard_of key) shard.map v w shard.gives few);
  room = λ is_put e. absurd (is_put);
} where
  missing : (m : Map) → GivesMap v (shard_of key) m → m key ≡ None
  missing m gives = elim (there_or_not (m key)) as (λ _. m key ≡ None) [
    | inl nothing ↦ nothing
    | inr value ↦ absurd (let yes : false ≡ true = (deletes.tells m gives).1 (λ nothing. let e : None ≡ Some value.0 = sym nothing ∙ value.1 in
        absurd (cc)) in cc)
  ]

-- the words that a request copies are few
pub copies_few : (q : Request) (v : View) (room : ℕ) → IsShort q → Fits v q room → (map : Map) → GivesMap v (shard_asked q) map
    → words_copied q map ≤ 16384
copies_few (put key value) v room short fits map gives = omega (arith, short)
copies_few (del key) v room short fits map gives = omega arith
copies_few (move key to) v room short fits map gives = omega arith
copies_few (get key) v room short fits map gives = elim (there_or_not (map key)) as (λ _. words_of (map key) ≤ 16384) [
  | inl nothing ↦ subst (λ o. words_of o ≤ 16384) (sym nothing) (let none : 0 ≤ 16384 = omega arith in none)
  | inr value ↦ subst (λ o. words_of o ≤ 16384) (sym value.1)
      (let most = fits.0 in let long = fits.1 map value.0 gives value.1 in let few : value_words (length value.0) ≤ 16384 = omega arith in few)
]

pub replied_missing : (key : ℕ) (old new : List ℕ) (v w : View) → IsShard v (shard_of key) → ReadsFew key v w
    → Changes (shard_of key) (λ m. m) v w → Gets key None old new v w
    → Replied (get key) (Some none) v w
replied_missing key old new v w shard few same got = record {
  reply = none;
  told_is = refl;
  answers = record {
    right = λ m gives. get_none key (elim (there_or_not (m key)) as (λ _. m key ≡ None) [
      | inl nothing ↦ nothing
      | inr value ↦
          let is : IsAnswer (Some value.0) None old new = subst (λ o. IsAnswer o None old new) value.1 (got.tells m gives) in
          let e : None ≡ Some (length value.0) = is.0 in
          absurd (cc)
    ]);
    gives = same.gives;
  };
  takes = only_node (takes_none (words_of (shard.map key)) (shard_of key) shard.map v w shard.gives (few shard.map shard.gives));
  room = λ is_put e. absurd (is_put);
}

-- what was read is the value, where it fits
read_is : (value old new rest : List ℕ) (len n : ℕ) → n ≡ length value → len ≡ length new → length new ≡ length old → length value ≤ length old
    → new ≡ take (length old) value ++ drop (length value) old → take n (take len (new ++ rest)) ≡ value
read_is value old new rest len n count long same fits is =
    let all : take len (new ++ rest) ≡ new = subst (λ k. take k (new ++ rest) ≡ new) (sym long) (take-append_seam new rest) in
    let whole : new ≡ value ++ drop (length value) old = is ∙ ap (λ xs. xs ++ drop (length value) old) (take_all (length old) value fits) in
    ap (take n) (all ∙ whole) ∙ subst (λ k. take k (value ++ drop (length value) old) ≡ value) (sym count)
    (take-append_seam value (drop (length value) old))

pub replied_found : (key room n len : ℕ) (old new rest told : List ℕ) (v w : View) → Fits v (get key) room → room ≡ length old
    → len ≡ length new → length new ≡ length old
    → told ≡ take n (take len (new ++ rest)) → IsShard v (shard_of key) → ReadsFew key v w → Changes (shard_of key) (λ m. m) v w
    → Gets key (Some n) old new v w → Replied (get key) (Some (found told)) v w
replied_found key room n len old new rest told v w fits is_room long same_long told_is shard few same got = record {
  reply = found told;
  told_is = refl;
  answers = record {
    right = λ m gives. get_found key told (elim (there_or_not (m key)) as (λ _. m key ≡ Some told) [
      | inl nothing ↦
          let is : IsAnswer None (Some n) old new = subst (λ o. IsAnswer o (Some n) old new) nothing (got.tells m gives) in
          let e : Some n ≡ None = is.0 in
          absurd (cc)
      | inr value ↦
          let is : IsAnswer (Some value.0) (Some n) old new = subst (λ o. IsAnswer o (Some n) old new) value.1 (got.tells m gives) in
          let e : Some n ≡ Some (length value.0) = is.0 in
          let count : n ≡ length value.0 = cc in
          value.1 ∙ ap Some (sym (told_is ∙ read_is value.0 old new rest len n count long same_long
          (subst (λ k. length value.0 ≤ k) is_room (fits.1 m value.0 gives value.1)) is.1))
    ]);
    gives = same.gives;
  };
  takes = only_node (takes_none (words_of (shard.map key)) (shard_of key) shard.map v w shard.gives (few shard.map shard.gives));
  room = λ is_put e. absurd (is_put);
}
