-- How many superblocks requests take, and how many tables they make: each shard that is put into gets one at most.
use Rattle.std.proofs.Common.{◌≡◌, ◌≢◌, ℕ, ◌+◌, ◌*◌, ◌≤◌, inl, inr, List, [], ◌∷◌, ◌++◌, sum_by, Option, None, Some, Bool, true, false, not, Contains, refl, subst, sym, ap, ◌∙◌, arith}
use Rattle.std.specs.Prelude.{◌&&◌}
use Rattle.std.proofs.lemmas.Bool.{cases_eq, and_parts, and_from, and_left, and_right, eq-eqb, or_left, or_right}
use Rattle.std.proofs.lemmas.List.Sums.{sum_by-cons, sum_by-append}
use Rattle.heap_model.specs.Geometry.{root_word}
use Rattle.heap_model.specs.Image.{words_from}
use Rattle.heap_model.proofs.MemberLemmas.{in_none, head_or_rest}
use Rattle.heap_model.proofs.ReachLemmas.{not_null}
use Rattle.heap_seat.specs.View.{View}
use Rattle.heap_seat.specs.Words.{MayBe}
use Rattle.dict_model.specs.Links.{shards}
use Rattle.dict_model.specs.Requests.{Request, put, get, del, move, Reply}
use Rattle.dict_model.specs.Shards.{Map, is_empty, has_table}
use Rattle.dict_requests.specs.Maps.{IsMapIn, GivesMap}
use Rattle.dict_requests.specs.Puts.{RootIsSet}
use Rattle.run_model.specs.Needs.{is_to, put_into}
use Rattle.run_model.specs.Progress.{MayAnswer}
use Rattle.run_model.specs.Runs.{span_taken}
use Rattle.run_model.proofs.CountLemmas.{count_rises, count_gains, set_value, value_set, null_unset}
use Rattle.run_model.specs.Spending.{sees_table, tables_made, tables_missing, IsPut, TakesFew, for_node as answered_node, with_table as answered_table, HasTakenFew}
use Rattle.worker_run.specs.Taking.{MayTake, for_node, with_table}
use Rattle.run_model.specs.Workers.{shard_asked}
use Rattle.run_model.proofs.OneMapLemmas.{small_shard}
use Rattle.heap_model.proofs.ListLemmas.{in_numbers}

-- no more superblocks were taken than those of the nodes, and one for each table that was made of the shards that are
-- put into; and none of their tables went away
pub record HasTaken (requests : List Request) (rs : List (Request × Reply)) (v w : View) : Type 0 where
  pub taken : w.taken ≤ v.taken + sum_by span_taken rs + tables_made (put_into requests) v w
  pub sees : (shard : ℕ) → put_into requests shard ≡ true → sees_table v shard ≡ true → sees_table w shard ≡ true

pub tables_few : (requests : List Request) (v w : View) → tables_made (put_into requests) v w ≤ tables_missing (put_into requests) v
tables_few requests v w =
    count_rises (λ shard. put_into requests shard && (sees_table w shard && not (sees_table v shard)))
    (λ shard. put_into requests shard && not (sees_table v shard)) (words_from (λ i. i) 0 shards)
    (λ x h all.
    let parts = and_parts (put_into requests x) (sees_table w x && not (sees_table v x)) all in
    and_from (put_into requests x) (not (sees_table v x)) parts.0 (and_parts (sees_table w x) (not (sees_table v x)) parts.1).1)

-- where none has gone away, a shard that has none had none
none_before : (v u : View) (shard : ℕ) → (sees_table v shard ≡ true → sees_table u shard ≡ true) → sees_table u shard ≡ false
    → not (sees_table v shard) ≡ true
none_before v u shard sees none = by_case (sees_table v shard) refl where
  by_case : (b : Bool) → sees_table v shard ≡ b → not (sees_table v shard) ≡ true
  by_case true is = let e : true ≡ false = sym (sees is) ∙ none in absurd (cc)
  by_case false is = ap not is

pub taken_none : (requests : List Request) (v : View) → HasTaken requests [] v v
taken_none requests v = record { taken = omega arith; sees = λ shard is sees. sees }

-- a shard keeps its table over a request
pub table_kept : (v w : View) (request : Request) (shard : ℕ) → Contains v.roots shard → MayAnswer request v w
    → sees_table v shard ≡ true → sees_table w shard ≡ true
table_kept v w request shard owned may sees =
    let was = set_value (v.volatile (root_word shard)) sees in
    elim (cases_eq shard (shard_asked request)) as (λ _. sees_table w shard ≡ true) [
      | inl same ↦
          let now = may.table.root was.0 (subst (Contains v.roots) same owned) (subst (λ n. v.volatile (root_word n) ≡ Some was.0) same was.1) was.2 in
          value_set (w.volatile (root_word shard)) was.0 (subst (λ n. w.volatile (root_word n) ≡ Some was.0) (sym same) now) was.2
      | inr other ↦ value_set (w.volatile (root_word shard)) was.0 ((may.others.root_words shard owned other).volatile was.0 was.1) was.2
    ]

-- a shard is put into where one of the requests is such a put
pub put_into_has : (requests : List Request) (request : Request) → IsPut request → Contains requests request
    → put_into requests (shard_asked request) ≡ true
put_into_has [] request is h = absurd (in_none request h)
put_into_has (put key value ∷ rest) request is h = elim (head_or_rest (put key value) request rest h) as
    (λ _. put_into (put key value ∷ rest) (shard_asked request) ≡ true) [
      | inl same ↦ or_left (is_to (shard_asked request) (put key value)) (put_into rest (shard_asked request))
          (eq-eqb (shard_asked (put key value)) (shard_asked request) (ap shard_asked same))
      | inr later ↦ or_right (is_to (shard_asked request) (put key value)) (put_into rest (shard_asked request)) (put_into_has rest request is later)
    ]
put_into_has (get key ∷ rest) request is h = elim (head_or_rest (get key) request rest h) as
    (λ _. put_into (get key ∷ rest) (shard_asked request) ≡ true) [
      | inl same ↦ absurd (subst IsPut (sym same) is)
      | inr later ↦ put_into_has rest request is later
    ]
put_into_has (move key to ∷ rest) request is h = elim (head_or_rest (move key to) request rest h) as
    (λ _. put_into (move key to ∷ rest) (shard_asked request) ≡ true) [
      | inl same ↦ absurd (subst IsPut (sym same) is)
      | inr later ↦ put_into_has rest request is later
    ]
put_into_has (del key ∷ rest) request is h = elim (head_or_rest (del key) request rest h) as
    (λ _. put_into (del key ∷ rest) (shard_asked request) ≡ true) [
      | inl same ↦ absurd (subst IsPut (sym same) is)
      | inr later ↦ put_into_has rest request is later
    ]

-- whether a shard that is put into got a table from the one view to the other
abbrev made_from : List Request → View → View → ℕ → Bool
made_from requests v x shard = put_into requests shard && (sees_table x shard && not (sees_table v shard))

-- one request more
pub taken_next : (requests : List Request) (rs : List (Request × Reply)) (request : Request) (reply : Reply) (v u w : View) → Contains requests request
    → ((shard : ℕ) → put_into requests shard ≡ true → Contains u.roots shard) → MayAnswer request u w → HasTaken requests rs v u
    → TakesFew request reply u w
    → HasTaken requests (rs ++ ((request, reply) ∷ [])) v w
taken_next requests rs request reply v u w h owns may was takes = record {
  taken = by_case takes;
  sees = λ shard is sees. kept shard is (was.sees shard is sees);
} where
  kept : (shard : ℕ) → put_into requests shard ≡ true → sees_table u shard ≡ true → sees_table w shard ≡ true
  kept shard is sees = table_kept u w request shard (owns shard is) may sees

  stays : (shard : ℕ) → Contains (words_from (λ i. i) 0 shards) shard → made_from requests v u shard ≡ true → made_from requests v w shard ≡ true
  stays shard among all =
      let parts = and_parts (put_into requests shard) (sees_table u shard && not (sees_table v shard)) all in
      let both = and_parts (sees_table u shard) (not (sees_table v shard)) parts.1 in
      and_from (put_into requests shard) (sees_table w shard && not (sees_table v shard)) parts.0
      (and_from (sees_table w shard) (not (sees_table v shard)) (kept shard parts.0 both.0) both.1)

  sums : sum_by span_taken (rs ++ ((request, reply) ∷ [])) ≡ sum_by span_taken rs + span_taken (request, reply)
  sums = let both = sum_by-append span_taken rs ((request, reply) ∷ []) in let one = sum_by-cons span_taken (request, reply) [] in omega arith

  by_case : TakesFew request reply u w → w.taken ≤ v.taken + sum_by span_taken (rs ++ ((request, reply) ∷ [])) + tables_made (put_into requests) v w
  by_case (answered_node few) =
      let more = count_rises (made_from requests v u) (made_from requests v w) (words_from (λ i. i) 0 shards) stays in
      let all_sums = sums in let before = was.taken in omega arith
  by_case (answered_table is null now few) =
      let shard = shard_asked request in
      let into = put_into_has requests request is h in
      let none = null_unset (u.volatile (root_word shard)) null in
      let more = count_gains (made_from requests v u) (made_from requests v w) (words_from (λ i. i) 0 shards) shard
      (in_numbers 0 shards shard (omega arith) (let small = small_shard request in omega arith))
      (and_right (put_into requests shard) (sees_table u shard && not (sees_table v shard))
      (and_left (sees_table u shard) (not (sees_table v shard)) none))
      (and_from (put_into requests shard) (sees_table w shard && not (sees_table v shard)) into
      (and_from (sees_table w shard) (not (sees_table v shard)) (value_set (w.volatile (root_word shard)) now.value now.seen now.some)
      (none_before v u shard (was.sees shard into) none))) stays in
      let all_sums = sums in let before = was.taken in omega arith

-- a request that may not have been answered
pub taken_stopped : (requests : List Request) (rs : List (Request × Reply)) (request : Request) (others : List Request) (v u w : View)
    → Contains requests request → HasTaken requests rs v u → MayTake request u w
    → HasTakenFew (tables_missing (put_into requests) v) rs (request ∷ others) v w
taken_stopped requests rs request others v u w h was (for_node few) = record {
  taken = let tables = tables_few requests v u in
      let before = was.taken in omega arith;
}
taken_stopped requests rs request others v u w h was (with_table is null few) = record {
  taken = let shard = shard_asked request in
      let into = put_into_has requests request is h in
      let none = null_unset (u.volatile (root_word shard)) null in
      let tables = count_gains (λ x. put_into requests x && (sees_table u x && not (sees_table v x)))
      (λ x. put_into requests x && not (sees_table v x)) (words_from (λ i. i) 0 shards) shard
      (in_numbers 0 shards shard (omega arith) (let small = small_shard request in omega arith))
      (and_right (put_into requests shard) (sees_table u shard && not (sees_table v shard))
      (and_left (sees_table u shard) (not (sees_table v shard)) none))
      (and_from (put_into requests shard) (not (sees_table v shard)) into (none_before v u shard (was.sees shard into) none))
      (λ x among all.
      let parts = and_parts (put_into requests x) (sees_table u x && not (sees_table v x)) all in
      and_from (put_into requests x) (not (sees_table v x)) parts.0 (and_parts (sees_table u x) (not (sees_table v x)) parts.1).1) in
      let before = was.taken in
      omega arith;
}

-- where all were answered
pub taken_ended : (requests : List Request) (rs : List (Request × Reply)) (v w : View) → HasTaken requests rs v w
    → HasTakenFew (tables_missing (put_into requests) v) rs [] v w
taken_ended requests rs v w was = record { taken = let tables = tables_few requests v w in let before = was.taken in omega arith }

-- a shard that has a key in every mixture has a table, as loads see it
seen_or_null : Option ℕ → ℕ
seen_or_null None = 0
seen_or_null (Some x) = x

may_seen : (known : Option ℕ) → MayBe known (seen_or_null known)
unfolding seen_or_null
may_seen None = tt
may_seen (Some x) = refl

some_seen : (known : Option ℕ) → seen_or_null known ≢ 0 → (x : ℕ) × (known ≡ Some x) × (x ≢ 0)
unfolding seen_or_null
some_seen None some = absurd (some refl)
some_seen (Some x) some = (x, refl, some)

pub key_has_table : (w : View) (shard : ℕ) (map : Map) (key : ℕ) (value : List ℕ) → GivesMap w shard map → map key ≡ Some value → RootIsSet w shard
key_has_table w shard map key value gives is = by_map (gives.each (λ word. seen_or_null (w.volatile word))
    (record { each = λ word own. inl (may_seen (w.volatile word)) })) where
      by_map : IsMapIn w (λ word. seen_or_null (w.volatile word)) shard map → RootIsSet w shard
      by_map (is_empty null none) = let e : None ≡ Some value = sym (none key) ∙ is in absurd (cc)
      by_map (has_table table nodes there chains means) =
          let some = some_seen (w.volatile (root_word shard)) (not_null (seen_or_null (w.volatile (root_word shard)))
          (8 * table.first_word) there.leads_there.1) in
          record { value = some.0; seen = some.1; some = some.2 }
