-- What the first of two workers needs for its three requests, and what it begins with.
use Rattle.std.proofs.Common.{◌≡◌, ℕ, Bool, true, false, inl, inr, List, [], ◌∷◌, length, map, Contains, refl, ap, sym, subst, ◌∙◌, arith}
use Rattle.std.specs.Prelude.{◌||◌, nat_eq}
use Rattle.std.proofs.lemmas.Bool.{and_parts, eqb-true}
use Rattle.heap_model.proofs.MemberLemmas.{head_or_rest, in_none}
use Rattle.dict_model.specs.Requests.{Request, get, move, put}
use Rattle.run_model.specs.Needs.{is_target_of}
use Rattle.run_model.specs.Workers.{worker_of, worker_requests}
use Rattle.parcel_queue.specs.Account.{Account, PassView, QueueView, unused}
use Rattle.parcel_queue.specs.Row.{with_a_part}
use Rattle.seat_parcels.specs.declared.parcel.Parcel.{Parcel}
use Rattle.seat_parcels.specs.Boxes.{ArePutRightly, HaveParts, all_put}
use Rattle.seat_parcels.proofs.RowLemmas.{new_parts, new_rightly, none_put}
use Rattle.worker_run.specs.Said.{IsShort, ValuesAreShort}
use Rattle.worker_run.specs.Sending.{rooms_needed}
use Rattle.run_rows.specs.Posts.{ArePassesTo}
use Rattle.post_tests.specs.Begun.{AreUnused, move_among_others}

or_none : (b : Bool) → (b || false) ≡ true → b ≡ true
or_none true is = refl
or_none false is = absurd (cc)

-- the move is to no shard of the first worker
none_aimed : (shard : ℕ) → is_target_of 2 0 move_among_others shard ≡ true → ⊥
none_aimed shard is =
    let parts = and_parts (nat_eq (worker_of 2 shard) 0) (nat_eq 1 shard || false) is in
    let one : 1 ≡ shard = eqb-true 1 shard (or_none (nat_eq 1 shard) parts.1) in
    let odd : false ≡ true = subst (λ s. nat_eq (worker_of 2 s) 0 ≡ true) (sym one) parts.0 in
    absurd (cc)

needs_one : rooms_needed (worker_requests 2 0 move_among_others) ≡ 1
needs_one = refl

all_three : length (worker_requests 2 0 move_among_others) ≡ 3
all_three = refl

module _ (workers number : ℕ) (requests : List Request) (two : workers ≡ 2) (none : number ≡ 0) (trace : requests ≡ move_among_others) where
  of_these : (P : ℕ → ℕ → List Request → Type 0) → P 2 0 move_among_others → P workers number requests
  of_these P p = subst (λ w. P w number requests) (sym two) (subst (λ n. P 2 n requests) (sym none) (subst (λ qs. P 2 0 qs) (sym trace) p))

  pub no_target : (shard : ℕ) → is_target_of workers number requests shard ≡ true → ⊥
  no_target = of_these (λ w n qs. (shard : ℕ) → is_target_of w n qs shard ≡ true → ⊥) none_aimed

  pub one_room : rooms_needed (worker_requests workers number requests) ≡ 1
  one_room = of_these (λ w n qs. rooms_needed (worker_requests w n qs) ≡ 1) needs_one

  pub three_requests : length (worker_requests workers number requests) ≡ 3
  three_requests = of_these (λ w n qs. length (worker_requests w n qs) ≡ 3) all_three

-- its one value is empty
each_short : (request : Request) → Contains move_among_others request → IsShort request
each_short request member = elim (head_or_rest (put 0 []) request (move 0 1 ∷ get 0 ∷ []) member) as (λ _. IsShort request) [
  | inl same ↦ subst IsShort same (omega arith)
  | inr later ↦ elim (head_or_rest (move 0 1) request (get 0 ∷ []) later) as (λ _. IsShort request) [
    | inl same ↦ subst IsShort same tt
    | inr last ↦ elim (head_or_rest (get 0) request [] last) as (λ _. IsShort request) [
      | inl same ↦ subst IsShort same tt
      | inr none ↦ absurd (in_none request none)
    ]
  ]
]

pub all_short : (requests : List Request) → requests ≡ move_among_others → ValuesAreShort requests
all_short requests trace = subst ValuesAreShort (sym trace) (record { each = each_short })

-- a pass to each of two queues, as it was made
module _ (one two : QueueView) (p q : PassView Parcel) (to_one : p.queue ≡ one.queue) (new_one : p.account ≡ unused 1)
    (to_two : q.queue ≡ two.queue) (new_two : q.account ≡ unused 1) where
  are_new : p ∷ q ∷ [] ≡ map with_a_part (p ∷ q ∷ [])
  are_new =
      ap (λ (a : Account Parcel). record p { account = a } ∷ q ∷ []) new_one
      ∙ ap (λ (a : Account Parcel). with_a_part p ∷ record q { account = a } ∷ []) new_two

  pub new_pair : (queues : List QueueView) (passes : List (PassView Parcel)) → queues ≡ one ∷ two ∷ []
      → passes ≡ p ∷ q ∷ [] → AreUnused queues passes
  new_pair queues passes queues_are passes_are =
      let are = passes_are ∙ are_new in
      let part_one : p.account.parts ≡ 1 = ap (λ (a : Account Parcel). a.parts) new_one in
      let part_two : q.account.parts ≡ 1 = ap (λ (a : Account Parcel). a.parts) new_two in
      record {
        two = ap length queues_are;
        to_them = subst (λ qs. ArePassesTo 1 qs passes) (sym queues_are) (subst (ArePassesTo 1 (one ∷ two ∷ [])) (sym passes_are) (record {
          passes_are = (record { same = to_one; more = omega arith }, (record { same = to_two; more = omega arith }, tt));
          parts_are = subst (λ ps. HaveParts 1 ps) (sym are_new) (new_parts (p ∷ q ∷ []));
          rightly = subst (ArePutRightly 2 0) (sym are_new) (new_rightly 2 0 (p ∷ q ∷ []));
        }));
        nothing = ap all_put are ∙ none_put (p ∷ q ∷ []);
      }
