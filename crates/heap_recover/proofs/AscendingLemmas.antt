-- Lists in ascending order of a key that have exactly the members of a set: how they grow.
use Rattle.std.proofs.Common.{◌≡◌, ℕ, ◌-◌, ◌<◌, ◌⊎◌, inl, inr, List, [], ◌∷◌, ◌++◌, length, get_or, refl, ap, sym, subst, ◌∙◌, arith, length-append}
use Rattle.std.specs.List.{Contains, AllPairs}
use Rattle.std.proofs.Math.ListN.{get_or-append}
use Rattle.std.proofs.lemmas.Bool.{cases_lt}
use Rattle.std.proofs.Math.Seq.{get_or-append_right}
use Rattle.std.proofs.lemmas.List.Elements.{Contains-get_or, Contains-append_left, Contains-append_right, Contains-append_cases, Contains-push_cases, Contains-push}
use Rattle.std.proofs.lemmas.List.Quantifiers.{all_pairs_push}
use Rattle.heap_model.specs.Recovered.{AreAscending}
use Rattle.heap_model.proofs.MemberLemmas.{in_none, in_head, in_rest, head_or_rest, order_head, order_rest}

-- no member, no element
pub ascending_none : {A : Type 0} (key : A → ℕ) (is : A → Type 0) → ((x : A) → is x → ⊥) → AreAscending key is []
ascending_none key is none = record {
  sound = λ x has. absurd (let below = has.1 in omega arith);
  complete = λ x here. absurd (none x here);
  ascending = λ i j d less below. absurd (omega arith);
}

-- the same members
pub ascending_same : {A : Type 0} (key : A → ℕ) (is is' : A → Type 0) (xs : List A) → ((x : A) → is x → is' x) → ((x : A) → is' x → is x)
    → AreAscending key is xs → AreAscending key is' xs
ascending_same key is is' xs to from old = record {
  sound = λ x has. to x (old.sound x has);
  complete = λ x here. old.complete x (from x here);
  ascending = old.ascending;
}

-- one member more, behind the others
pub ascending_push : {A : Type 0} (key : A → ℕ) (is is' : A → Type 0) (xs : List A) (x : A) → AreAscending key is xs
    → ((y : A) → is y → key y < key x) → ((y : A) → is y → is' y) → is' x → ((y : A) → is' y → is y ⊎ (y ≡ x)) → AreAscending key is' (xs ++ x ∷ [])
ascending_push {A} key is is' xs x old before to here from = record {
  sound = λ y has. elim (Contains-push_cases xs x y has) as (λ _. is' y) [ inl old_one ↦ to y (old.sound y old_one) | inr same ↦ subst is' same here ];
  complete = λ y is_y. elim (from y is_y) as (λ _. Contains (xs ++ x ∷ []) y) [
    | inl old_one ↦ Contains-append_left xs (x ∷ []) y (old.complete y old_one)
    | inr same ↦ subst (λ z. Contains (xs ++ x ∷ []) z) (sym same) (Contains-push xs x)
  ];
  ascending = all_pairs_push (λ (a b : A). key a < key b) xs x old.ascending
      (λ k d below. before (get_or xs k d) (old.sound (get_or xs k d) (Contains-get_or xs k d below)));
}

-- what holds of the pairs of each list, and of one of the first with one of the second, holds of the pairs of both
pub all_pairs_append : {A : Type 0} (R : A → A → Type 0) (xs ys : List A) → AllPairs R xs → AllPairs R ys
    → ((x y : A) → Contains xs x → Contains ys y → R x y) → AllPairs R (xs ++ ys)
all_pairs_append {A} R xs ys in_xs in_ys across i j d less below =
    let long = length-append xs ys in
    elim (cases_lt j (length xs)) as (λ _. R (get_or (xs ++ ys) i d) (get_or (xs ++ ys) j d)) [
      | inl first ↦ rw (get_or-append xs ys d i (omega arith), get_or-append xs ys d j first) (in_xs i j d less first)
      | inr past ↦ elim (cases_lt i (length xs)) as (λ _. R (get_or (xs ++ ys) i d) (get_or (xs ++ ys) j d)) [
        | inl first ↦ rw (get_or-append xs ys d i first, get_or-append_right xs ys j d past)
            (across (get_or xs i d) (get_or ys (j - length xs) d) (Contains-get_or xs i d first) (Contains-get_or ys (j - length xs) d (omega arith)))
        | inr also ↦ rw (get_or-append_right xs ys i d also, get_or-append_right xs ys j d past)
            (in_ys (i - length xs) (j - length xs) d (omega arith) (omega arith))
      ]
    ]

-- two lists of members, one behind the other
pub ascending_append : {A : Type 0} (key : A → ℕ) (is is' both : A → Type 0) (xs ys : List A) → AreAscending key is xs → AreAscending key is' ys
    → ((x y : A) → is x → is' y → key x < key y) → ((x : A) → is x → both x) → ((x : A) → is' x → both x) → ((x : A) → both x → is x ⊎ is' x)
    → AreAscending key both (xs ++ ys)
ascending_append {A} key is is' both xs ys in_xs in_ys across to to' from = record {
  sound = λ x has. elim (Contains-append_cases xs ys x has) as (λ _. both x)
      [ inl first ↦ to x (in_xs.sound x first) | inr second ↦ to' x (in_ys.sound x second) ];
  complete = λ x here. elim (from x here) as (λ _. Contains (xs ++ ys) x)
      [ inl first ↦ Contains-append_left xs ys x (in_xs.complete x first) | inr second ↦ Contains-append_right xs ys x (in_ys.complete x second) ];
  ascending = all_pairs_append (λ (a b : A). key a < key b) xs ys in_xs.ascending in_ys.ascending
      (λ x y in_x in_y. across x y (in_xs.sound x in_x) (in_ys.sound y in_y));
}

-- of two ascending lists, each of which has the other's head, the heads are one
same_head : {A : Type 0} (key : A → ℕ) (x y : A) (xs ys : List A) → AllPairs (λ a b. key a < key b) (x ∷ xs) → AllPairs (λ a b. key a < key b) (y ∷ ys)
    → Contains (y ∷ ys) x → Contains (x ∷ xs) y → x ≡ y
same_head key x y xs ys up up' has has' = elim (head_or_rest y x ys has) as (λ _. x ≡ y) [
  | inl same ↦ sym same
  | inr later ↦ elim (head_or_rest x y xs has') as (λ _. x ≡ y) [
    | inl same ↦ same
    | inr later' ↦ absurd (let a = order_head (λ a b. key a < key b) y x ys up' later in
        let b = order_head (λ a b. key a < key b) x y xs up later' in omega arith)
  ]
]

-- and what stands behind the head in one does in the other
in_later : {A : Type 0} (key : A → ℕ) (x y z : A) (xs ys : List A) → AllPairs (λ a b. key a < key b) (x ∷ xs) → x ≡ y → Contains xs z
    → Contains (y ∷ ys) z → Contains ys z
in_later key x y z xs ys up first has there = elim (head_or_rest y z ys there) as (λ _. Contains ys z) [
  | inl same ↦ absurd (let greater = order_head (λ a b. key a < key b) x z xs up has in let e = ap key (first ∙ same) in omega arith)
  | inr later ↦ later
]

-- ascending lists with the same members are one
same_members : {A : Type 0} (key : A → ℕ) (xs ys : List A) → AllPairs (λ a b. key a < key b) xs → AllPairs (λ a b. key a < key b) ys
    → ((x : A) → Contains xs x → Contains ys x) → ((x : A) → Contains ys x → Contains xs x) → xs ≡ ys
same_members key [] [] up up' to from = refl
same_members key [] (y ∷ ys) up up' to from = absurd (in_none y (from y (in_head y ys)))
same_members key (x ∷ xs) [] up up' to from = absurd (in_none x (to x (in_head x xs)))
same_members key (x ∷ xs) (y ∷ ys) up up' to from =
    let first = same_head key x y xs ys up up' (to x (in_head x xs)) (from y (in_head y ys)) in
    let rest = same_members key xs ys (order_rest (λ a b. key a < key b) x xs up) (order_rest (λ a b. key a < key b) y ys up')
    (λ z has. in_later key x y z xs ys up first has (to z (in_rest x z xs has)))
    (λ z has. in_later key y x z ys xs up' (sym first) has (from z (in_rest y z ys has))) in
    ap (λ z. z ∷ xs) first ∙ ap (λ zs. y ∷ zs) rest

pub ascending_one : {A : Type 0} (key : A → ℕ) (is is' : A → Type 0) (xs ys : List A) → ((x : A) → is x → is' x) → ((x : A) → is' x → is x)
    → AreAscending key is xs → AreAscending key is' ys → xs ≡ ys
ascending_one key is is' xs ys to from a b = same_members key xs ys a.ascending b.ascending
    (λ x has. b.complete x (to x (a.sound x has))) (λ x has. a.complete x (from x (b.sound x has)))
