-- What all workers send, put together, is what the trace sends: each request is one worker's, and changes keys of that worker alone.
use Rattle.std.proofs.Common.{◌≡◌, ◌≢◌, ℕ, zero, suc, ◌+◌, ◌-◌, ◌<◌, ◌≤◌, inl, inr, Bool, true, false, cond, nat_eq, List, [], ◌∷◌, ◌++◌, length, filter, replicate, None, Some, refl, subst, sym, ap, ◌∙◌, arith, append_assoc}
use Rattle.std.specs.Prelude.{flat_map}
use Rattle.std.specs.List.Sorted.{IsPermutation}
use Rattle.std.proofs.Math.Nat.{mod-lt}
use Rattle.std.proofs.lemmas.Bool.{cases_eq, eq-eqb, eqb-true, ne_eqb}
use Rattle.std.proofs.lemmas.List.Elements.{filter-append}
use Rattle.std.proofs.lemmas.List.Sorted.{IsPermutation-refl, IsPermutation-trans, IsPermutation-append_left, IsPermutation-append_right, IsPermutation-append_comm}
use Rattle.heap_model.specs.Image.{words_from}
use Rattle.dict_model.specs.Nodes.{shard_of}
use Rattle.dict_model.specs.Requests.{Request, put, get, del, move, Reply, done, full, none, found, after_one}
use Rattle.dict_model.specs.Shards.{Map}
use Rattle.run_model.specs.Sending.{Sent, numbered, worker_numbered, on_its_way, sends, all_sent}
use Rattle.run_model.specs.Workers.{Replies, key_of, shard_asked, worker_of, is_of_worker, worker_requests, worker_replies, worker_numbers}
use Rattle.run_model.proofs.OneMapLemmas.{one_alike, one_beside}

-- lists that are the same up to order, beside equal ones
from_equal : {xs ys zs : List Sent} → xs ≡ ys → IsPermutation ys zs → IsPermutation xs zs
from_equal {xs} {ys} {zs} same order = subst (λ (l : List Sent). IsPermutation l zs) (sym same) order

to_equal : {xs ys zs : List Sent} → IsPermutation xs ys → ys ≡ zs → IsPermutation xs zs
to_equal {xs} order same = subst (IsPermutation xs) same order

change_places : (xs ys rest : List Sent) → IsPermutation (xs ++ (ys ++ rest)) (ys ++ (xs ++ rest))
change_places xs ys rest = from_equal (sym (append_assoc xs ys rest))
    (to_equal (IsPermutation-append_left rest (xs ++ ys) (ys ++ xs) (IsPermutation-append_comm xs ys)) (append_assoc ys xs rest))

-- what all of so many have, from one on, put together
abbrev all_of : (ℕ → List Sent) → ℕ → ℕ → List Sent
all_of f from count = flat_map f (words_from (λ i. i) from count)

all_same : (f g : ℕ → List Sent) (from count : ℕ) → ((i : ℕ) → from ≤ i → i < from + count → f i ≡ g i) → all_of f from count ≡ all_of g from count
all_same f g from zero same = refl
all_same f g from (suc count) same =
    ap (λ xs. xs ++ all_of f (from + 1) count) (same from (omega arith) (omega arith))
    ∙ ap (λ xs. g from ++ xs) (all_same f g (from + 1) count (λ i low high. same i (omega arith) (omega arith)))

all_none : (from count : ℕ) → all_of (λ i. []) from count ≡ []
all_none from zero = refl
all_none from (suc count) = all_none (from + 1) count

-- what one of them has in front of its own may stand in front of all
abbrev with_front : ℕ → List Sent → (ℕ → List Sent) → ℕ → List Sent
with_front owner xs f i = cond (nat_eq owner i) xs [] ++ f i

front_of_other : (owner : ℕ) (xs : List Sent) (f : ℕ → List Sent) (i : ℕ) → owner ≢ i → with_front owner xs f i ≡ f i
front_of_other owner xs f i other = ap (λ b. cond b xs [] ++ f i) (ne_eqb owner i other)

front_of_one : (owner : ℕ) (xs : List Sent) (f : ℕ → List Sent) (from count : ℕ) → from ≤ owner → owner < from + count
    → IsPermutation (all_of (with_front owner xs f) from count) (xs ++ all_of f from count)
front_of_one owner xs f from zero low high = absurd (omega arith)
front_of_one owner xs f from (suc count) low high = elim (cases_eq owner from) as
    (λ _. IsPermutation (all_of (with_front owner xs f) from (suc count)) (xs ++ all_of f from (suc count))) [
      | inl same ↦
          from_equal (ap (λ ys. ys ++ all_of (with_front owner xs f) (from + 1) count) (ap (λ b. cond b xs [] ++ f from) (eq-eqb owner from same))
          ∙ ap (λ ys. (xs ++ f from) ++ ys) (all_same (with_front owner xs f) f (from + 1) count
          (λ i above below. front_of_other owner xs f i (λ e. omega arith)))
          ∙ append_assoc xs (f from) (all_of f (from + 1) count)) (IsPermutation-refl (xs ++ all_of f from (suc count)))
      | inr other ↦
          from_equal (ap (λ ys. ys ++ all_of (with_front owner xs f) (from + 1) count) (front_of_other owner xs f from other))
          (IsPermutation-trans (f from ++ all_of (with_front owner xs f) (from + 1) count) (f from ++ (xs ++ all_of f (from + 1) count))
          (xs ++ (f from ++ all_of f (from + 1) count))
          (IsPermutation-append_right (f from) (all_of (with_front owner xs f) (from + 1) count) (xs ++ all_of f (from + 1) count)
          (front_of_one owner xs f (from + 1) count (omega arith) (omega arith)))
          (change_places (f from) xs (all_of f (from + 1) count)))
    ]

-- what a worker sends, by the map of the whole trace
abbrev sent_by : ℕ → ℕ → Map → ℕ → List Request → Replies → List Sent
sent_by workers worker whole number [] replies = []
sent_by workers worker whole number (q ∷ qs) [] = []
sent_by workers worker whole number (q ∷ qs) (None ∷ replies) = sent_by workers worker whole (number + 1) qs replies
sent_by workers worker whole number (q ∷ qs) (Some a ∷ replies) =
    cond (is_of_worker workers worker q) (sends whole number q a) [] ++ sent_by workers worker (after_one whole q a) (number + 1) qs replies

-- all of them together, of what passes a test
together : (p : Sent → Bool) (workers : ℕ) (whole : Map) (number : ℕ) (qs : List Request) (replies : Replies) → 1 ≤ workers
    → IsPermutation (all_of (λ worker. filter p (sent_by workers worker whole number qs replies)) 0 workers)
    (filter p (all_sent whole (numbered number qs) replies))
together p workers whole number [] replies some = from_equal (all_none 0 workers) (IsPermutation-refl [])
together p workers whole number (q ∷ qs) [] some = from_equal (all_none 0 workers) (IsPermutation-refl [])
together p workers whole number (q ∷ qs) (None ∷ replies) some = together p workers whole (number + 1) qs replies some
together p workers whole number (q ∷ qs) (Some a ∷ replies) some =
    let owner = worker_of workers (shard_asked q) in
    let first = sends whole number q a in
    let later = all_sent (after_one whole q a) (numbered (number + 1) qs) replies in
    from_equal (all_same (λ worker. filter p (sent_by workers worker whole number (q ∷ qs) (Some a ∷ replies)))
    (with_front owner (filter p first) own) 0 workers
    (λ worker low high. filter-append p (cond (is_of_worker workers worker q) first [])
    (sent_by workers worker (after_one whole q a) (number + 1) qs replies)
    ∙ ap (λ xs. xs ++ own worker) (passes first (is_of_worker workers worker q))))
    (IsPermutation-trans (all_of (with_front owner (filter p first) own) 0 workers) (filter p first ++ all_of own 0 workers) (filter p (first ++ later))
    (front_of_one owner (filter p first) own 0 workers (omega arith) (let small : owner < workers = mod-lt (shard_asked q) some in
    omega (arith, small)))
    (to_equal (IsPermutation-append_right (filter p first) (all_of own 0 workers) (filter p later)
    (together p workers (after_one whole q a) (number + 1) qs replies some))
    (sym (filter-append p first later)))) where
      own : ℕ → List Sent
      own worker = filter p (sent_by workers worker (after_one whole q a) (number + 1) qs replies)

      passes : (xs : List Sent) (b : Bool) → filter p (cond b xs []) ≡ cond b (filter p xs) []
      passes xs true = refl
      passes xs false = refl

-- a map has in a worker's shards what the whole has
record IsFor (workers worker : ℕ) (part whole : Map) : Type 0 where
  same : (key : ℕ) → worker_of workers (shard_of key) ≡ worker → part key ≡ whole key

-- where the key asked has the same, the same is sent
pub sends_alike : (part whole : Map) (number : ℕ) (q : Request) (a : Reply) → part (key_of q) ≡ whole (key_of q)
    → sends part number q a ≡ sends whole number q a
sends_alike part whole number (put key value) a same = refl
sends_alike part whole number (get key) a same = refl
sends_alike part whole number (del key) a same = refl
sends_alike part whole number (move key to) done same = ap (λ o. on_its_way o number to) same
sends_alike part whole number (move key to) full same = refl
sends_alike part whole number (move key to) none same = refl
sends_alike part whole number (move key to) (found v) same = refl

pub none_told : (part : Map) (ns : List (ℕ × Request)) → all_sent part ns [] ≡ []
none_told part [] = refl
none_told part (n ∷ ns) = refl

-- so a worker sends the same by its own requests alone
sent_alone : (workers worker number : ℕ) (part whole : Map) (qs : List Request) (replies : Replies) → IsFor workers worker part whole
    → all_sent part (filter (λ n. is_of_worker workers worker n.1) (numbered number qs))
    (worker_replies workers worker qs replies) ≡ sent_by workers worker whole number qs replies
sent_alone workers worker number part whole [] replies is = refl
sent_alone workers worker number part whole (q ∷ qs) [] is = none_told part (filter (λ n. is_of_worker workers worker n.1) (numbered number (q ∷ qs)))
sent_alone workers worker number part whole (q ∷ qs) (None ∷ replies) is =
    by_case (is_of_worker workers worker q) (sent_alone workers worker (number + 1) part whole qs replies is) where
      ns : List (ℕ × Request)
      ns = filter (λ n. is_of_worker workers worker n.1) (numbered (number + 1) qs)

      rest : Replies
      rest = worker_replies workers worker qs replies

      by_case : (b : Bool) → all_sent part ns rest ≡ sent_by workers worker whole (number + 1) qs replies
          → all_sent part (cond b ((number, q) ∷ ns) ns) (cond b (None ∷ rest) rest) ≡ sent_by workers worker whole (number + 1) qs replies
      by_case true later = later
      by_case false later = later
sent_alone workers worker number part whole (q ∷ qs) (Some a ∷ replies) is =
    by_case (is_of_worker workers worker q) refl (λ p agrees. sent_alone workers worker (number + 1) p (after_one whole q a) qs replies agrees) where
      ns : List (ℕ × Request)
      ns = filter (λ n. is_of_worker workers worker n.1) (numbered (number + 1) qs)

      rest : Replies
      rest = worker_replies workers worker qs replies

      sent_later : List Sent
      sent_later = sent_by workers worker (after_one whole q a) (number + 1) qs replies

      by_case : (b : Bool) → is_of_worker workers worker q ≡ b → ((p : Map) → IsFor workers worker p (after_one whole q a)
          → all_sent p ns rest ≡ sent_later)
          → all_sent part (cond b ((number, q) ∷ ns) ns) (cond b (Some a ∷ rest) rest) ≡ cond b (sends whole number q a) [] ++ sent_later
      by_case true own later =
          ap (λ xs. xs ++ all_sent (after_one part q a) ns rest) (sends_alike part whole number q a
          (is.same (key_of q) (eqb-true (worker_of workers (shard_asked q)) worker own)))
          ∙ ap (λ xs. sends whole number q a ++ xs) (later (after_one part q a)
          (record { same = λ key of. one_alike part whole q a key (is.same key of) }))
      by_case false other later = later part (record {
        same = λ key of. is.same key of
            ∙ sym (one_beside whole q a key (λ e. not_own (ap (λ k. worker_of workers (shard_of k)) e ∙ of)));
      }) where
        not_own : worker_of workers (shard_asked q) ≢ worker
        not_own e = let no : true ≡ false = sym (eq-eqb (worker_of workers (shard_asked q)) worker e) ∙ other in absurd (cc)

-- replies that are missing send nothing
blanks_send_none : (part : Map) (ns : List (ℕ × Request)) (count : ℕ) → all_sent part ns (replicate count None) ≡ []
blanks_send_none part ns zero = none_told part ns
blanks_send_none part [] (suc count) = refl
blanks_send_none part (n ∷ ns) (suc count) = blanks_send_none part ns count

before_blanks : (part : Map) (ns : List (ℕ × Request)) (told : Replies) (count : ℕ)
    → all_sent part ns (told ++ replicate count None) ≡ all_sent part ns told
before_blanks part ns [] count = blanks_send_none part ns count ∙ sym (none_told part ns)
before_blanks part [] (a ∷ told) count = refl
before_blanks part (n ∷ ns) (None ∷ told) count = before_blanks part ns told count
before_blanks part (n ∷ ns) (Some a ∷ told) count = ap (λ xs. sends part n.0 n.1 a ++ xs) (before_blanks (after_one part n.1 a) ns told count)

module _ (workers : ℕ) (whole : Map) (requests : List Request) (replies : Replies) (told : ℕ → Replies) (some : 1 ≤ workers)
    (each : (worker : ℕ) → worker < workers → worker_replies workers worker requests replies
    ≡ told worker ++ replicate (length (worker_requests workers worker requests) - length (told worker)) None) where
  told_alone : (worker : ℕ) → worker < workers → all_sent whole (worker_numbered workers worker requests)
      (told worker) ≡ sent_by workers worker whole 0 requests replies
  told_alone worker below =
      sym (before_blanks whole (worker_numbered workers worker requests) (told worker)
      (length (worker_requests workers worker requests) - length (told worker)))
      ∙ ap (all_sent whole (worker_numbered workers worker requests)) (sym (each worker below))
      ∙ sent_alone workers worker 0 whole whole requests replies (record { same = λ key of. refl })

  pub filtered_together : (p : Sent → Bool) → IsPermutation (flat_map
      (λ worker. filter p (all_sent whole (worker_numbered workers worker requests) (told worker))) (worker_numbers workers))
      (filter p (all_sent whole (numbered 0 requests) replies))
  filtered_together p = from_equal
      (all_same (λ worker. filter p (all_sent whole (worker_numbered workers worker requests) (told worker)))
      (λ worker. filter p (sent_by workers worker whole 0 requests replies)) 0 workers
      (λ worker low high. ap (filter p) (told_alone worker (omega (arith, high)))))
      (together p workers whole 0 requests replies some)

  all_pass : (xs : List Sent) → filter (λ s. true) xs ≡ xs
  all_pass [] = refl
  all_pass (x ∷ xs) = ap (λ ys. x ∷ ys) (all_pass xs)

  pub all_together : IsPermutation (flat_map (λ worker. all_sent whole (worker_numbered workers worker requests) (told worker))
      (worker_numbers workers))
      (all_sent whole (numbered 0 requests) replies)
  all_together = from_equal
      (all_same (λ worker. all_sent whole (worker_numbered workers worker requests) (told worker))
      (λ worker. filter (λ s. true) (all_sent whole (worker_numbered workers worker requests) (told worker))) 0 workers
      (λ worker low high. sym (all_pass (all_sent whole (worker_numbered workers worker requests) (told worker)))))
      (to_equal (filtered_together (λ s. true)) (all_pass (all_sent whole (numbered 0 requests) replies)))
