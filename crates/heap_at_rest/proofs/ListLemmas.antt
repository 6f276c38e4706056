-- Members and images of lists, and lists and walks along links.
use Rattle.std.proofs.Common.{◌≡◌, ℕ, ◌<◌, inl, inr, nat_eq, List, [], ◌∷◌, ◌++◌, length, map, get_or, Contains, refl, ap, sym, subst, ◌∙◌, arith}
use Rattle.std.specs.Prelude.{AllPairs}
use Rattle.std.proofs.lemmas.Bool.{eq-eqb}
use Rattle.std.proofs.lemmas.List.{get_or_default}
use Rattle.std.proofs.lemmas.List.Kept.{AllPairs-cons}
use Rattle.heap_model.specs.Chains.{Follows, Walks}
use Rattle.heap_model.specs.Counting.{times}
use Rattle.heap_model.proofs.MemberLemmas.{in_none, in_head, in_rest, head_or_rest, order_head, order_rest}
use Rattle.heap_model.proofs.CountingLemmas.{one_if_true}

-- a member stands in the list
pub times_of : (n : ℕ) (xs : List ℕ) → Contains xs n → 0 < times n xs
times_of n [] p = absurd (in_none n p)
times_of n (x ∷ xs) p = elim (head_or_rest x n xs p) as (λ _. 0 < times n (x ∷ xs)) [
  | inl same ↦ let here = one_if_true (nat_eq x n) (eq-eqb x n same) in omega arith
  | inr later ↦ let rest = times_of n xs later in omega arith
]

-- a member of the list of images is the image of a member
pub in_map : {X : Type 0} (f : X → ℕ) (xs : List X) (y : ℕ) → Contains (map f xs) y → (x : X) × Contains xs x × (f x ≡ y)
in_map f [] y p = absurd (in_none y p)
in_map f (x ∷ xs) y p = elim (head_or_rest (f x) y (map f xs) p) [
  | inl same ↦ (x, in_head x xs, same)
  | inr later ↦ let rest = in_map f xs y later in (rest.0, in_rest x rest.0 xs rest.1, rest.2)
]

-- the numbers of a list in order of them ascend
pub order_map : {X : Type 0} (f : X → ℕ) (xs : List X) → AllPairs (λ x y. f x < f y) xs → AllPairs (λ a b. a < b) (map f xs)
order_map f [] pairs = λ i j d less within. absurd (omega arith)
order_map f (x ∷ xs) pairs = AllPairs-cons (λ a b. a < b) (f x) (map f xs)
    (λ k d within. let at : ℕ = get_or (map f xs) k d in
    let p : Contains (map f xs) at = (k, within, get_or_default (map f xs) k at d within) in
    let found = in_map f xs at p in
    subst (λ n. f x < n) found.2 (order_head (λ y z. f y < f z) x found.0 xs pairs found.1))
    (order_map f xs (order_rest (λ y z. f y < f z) x xs pairs))

-- a list reads the links of its members alone
pub follows_same : (link new : ℕ → ℕ) (capacity from : ℕ) (ds : List ℕ)
    → ((d : ℕ) → Contains ds d → new d ≡ link d) → Follows link capacity from ds → Follows new capacity from ds
follows_same link new capacity from [] same follows = follows
follows_same link new capacity from (d ∷ ds) same follows = (
  follows.0,
  follows.1,
  subst (λ x. Follows new capacity x ds) (sym (same d (in_head d ds)))
      (follows_same link new capacity (link d) ds (λ e p. same e (in_rest d e ds p)) follows.2),
)

-- the members of a list are superblocks
pub follows_below : (link : ℕ → ℕ) (capacity from : ℕ) (ds : List ℕ) (d : ℕ) → Follows link capacity from ds → Contains ds d → d < capacity
follows_below link capacity from [] d follows p = absurd (in_none d p)
follows_below link capacity from (e ∷ ds) d follows p = elim (head_or_rest e d ds p) [
  | inl same ↦ subst (λ x. x < capacity) same follows.1
  | inr later ↦ follows_below link capacity (link e) ds d follows.2 later
]

-- a list that a link leads along is the only one
pub one_following : (link : ℕ → ℕ) (capacity from : ℕ) (ds es : List ℕ) → Follows link capacity from ds → Follows link capacity from es → ds ≡ es
one_following link capacity from [] [] is_ds is_es = refl
one_following link capacity from [] (e ∷ es) is_ds is_es = absurd (let none : from ≡ 0 = is_ds in let first = is_es.0 in omega arith)
one_following link capacity from (d ∷ ds) [] is_ds is_es = absurd (let none : from ≡ 0 = is_es in let first = is_ds.0 in omega arith)
one_following link capacity from (d ∷ ds) (e ∷ es) is_ds is_es =
    let first_d = is_ds.0 in
    let first_e = is_es.0 in
    let same : d ≡ e = omega arith in
    let rest : ds ≡ es = one_following link capacity (link d) ds es is_ds.2 (subst (λ x. Follows link capacity (link x) es) (sym same) is_es.2) in
    ap (λ x. x ∷ ds) same ∙ ap (λ xs. e ∷ xs) rest

-- a walk reads its members alone
pub walks_same : (image new : ℕ → ℕ) (from : ℕ) (ws : List ℕ) → ((w : ℕ) → Contains ws w → new w ≡ image w) → Walks image from ws → Walks new from ws
walks_same image new from [] same walks = tt
walks_same image new from (w ∷ ws) same walks =
    (walks.0, subst (λ x. Walks new x ws) (sym (same w (in_head w ws))) (walks_same image new (image w) ws (λ v p. same v (in_rest w v ws p)) walks.1))

-- behind some numbers a walk goes on from where the last of them leads
pub walk_behind : (next : ℕ → ℕ) (from : ℕ) (before : List ℕ) (last : ℕ) (rest : List ℕ)
    → Walks next from ((before ++ last ∷ []) ++ rest) → Walks next (next last) rest
walk_behind next from [] last rest walks = walks.1
walk_behind next from (x ∷ before) last rest walks = walk_behind next (next x) before last rest walks.1

-- walks along as many blocks from one block are one
pub one_walk : (next : ℕ → ℕ) (from : ℕ) (xs ys : List ℕ) → Walks next from xs → Walks next from ys → length xs ≡ length ys → xs ≡ ys
one_walk next from [] [] a b long = refl
one_walk next from [] (y ∷ ys) a b long = absurd (omega arith)
one_walk next from (x ∷ xs) [] a b long = absurd (omega arith)
one_walk next from (x ∷ xs) (y ∷ ys) a b long =
    let same : x ≡ y = sym a.0 ∙ b.0 in
    let rest : xs ≡ ys = one_walk next (next x) xs ys a.1 (subst (λ z. Walks next (next z) ys) (sym same) b.1) (omega arith) in
    ap (λ z. z ∷ xs) same ∙ ap (λ zs. y ∷ zs) rest
