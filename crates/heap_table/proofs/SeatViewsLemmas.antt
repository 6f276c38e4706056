-- Where the view of a single seat stands among the views of all.
use Rattle.std.proofs.Common.{◌≡◌, ℕ, zero, suc, ◌+◌, ◌<◌, List, [], ◌∷◌, ◌++◌, length, get_or, set, length-append, length-set, ap, sym, ◌∙◌, arith}
use Rattle.std.proofs.lemmas.List.{get_or_append_left}
use mathlib.Core.Option.{some, some-injective, some-ne-none}
use lib.ListN.{get_elem?}
use Rattle.core_model.specs.View.{View}
use Rattle.heap_table.specs.SeatViews.{SeatViews, all_views, IsSingle}

abbrev pub offset : ℕ → List SeatViews → ℕ
offset zero groups = 0
offset (suc id) [] = 0
offset (suc id) (group ∷ groups) = length group + offset id groups

get_behind : (front back : List View) (i : ℕ) (v : View) → get_or (front ++ back) (length front + i) v ≡ get_or back i v
get_behind [] back i v = ap (λ n. get_or back n v) (let e : 0 + i ≡ i = omega arith in e)
get_behind (x ∷ front) back i v = ap (λ n. get_or (x ∷ front ++ back) n v)
    (let e : suc (length front) + i ≡ suc (length front + i) = omega arith in e) ∙ get_behind front back i v

set_behind : (front back : List View) (i : ℕ) (w : View) → set (front ++ back) (length front + i) w ≡ front ++ set back i w
set_behind [] back i w = ap (λ n. set back n w) (let e : 0 + i ≡ i = omega arith in e)
set_behind (x ∷ front) back i w = ap (λ n. set (x ∷ front ++ back) n w)
    (let e : suc (length front) + i ≡ suc (length front + i) = omega arith in e) ∙ ap (λ vs. x ∷ vs) (set_behind front back i w)

pub offset_below : (groups : List SeatViews) (id : ℕ) (group : SeatViews) (v : View) → get_elem? groups id ≡ some group → IsSingle group v
    → offset id groups < length (all_views groups)
offset_below [] id group v at single = absurd (some-ne-none group (sym at))
offset_below (j ∷ groups) zero group v at single =
    let same : j ≡ v ∷ [] = some-injective j group at ∙ single in
    let long = ap (λ vs. length (vs ++ all_views groups)) same in omega arith
offset_below (j ∷ groups) (suc id) group v at single = let rest = offset_below groups id group v at single in
    let long = length-append j (all_views groups) in omega arith

pub at_offset : (groups : List SeatViews) (id : ℕ) (group : SeatViews) (v : View) → get_elem? groups id ≡ some group → IsSingle group v
    → get_or (all_views groups) (offset id groups) v ≡ v
at_offset [] id group v at single = absurd (some-ne-none group (sym at))
at_offset (j ∷ groups) zero group v at single = ap (λ vs. get_or (vs ++ all_views groups) 0 v) (some-injective j group at ∙ single)
at_offset (j ∷ groups) (suc id) group v at single = get_behind j (all_views groups) (offset id groups) v ∙ at_offset groups id group v at single

pub set_offset : (groups : List SeatViews) (id : ℕ) (group : SeatViews) (v w : View) → get_elem? groups id ≡ some group → IsSingle group v
    → all_views (set groups id (w ∷ [])) ≡ set (all_views groups) (offset id groups) w
set_offset [] id group v w at single = absurd (some-ne-none group (sym at))
set_offset (j ∷ groups) zero group v w at single = ap (λ vs. set (vs ++ all_views groups) 0 w) (sym (some-injective j group at ∙ single))
set_offset (j ∷ groups) (suc id) group v w at single = ap (λ vs. j ++ vs) (set_offset groups id group v w at single)
    ∙ sym (set_behind j (all_views groups) (offset id groups) w)

-- as many seats, where one changes its view
pub same_seats : (groups : List SeatViews) (id : ℕ) (group : SeatViews) (v w : View) → get_elem? groups id ≡ some group → IsSingle group v
    → length (all_views (set groups id (w ∷ []))) ≡ length (all_views groups)
same_seats groups id group v w at single = ap length (set_offset groups id group v w at single) ∙ length-set (all_views groups) (offset id groups) w

-- the views of a group stand one behind another
pub group_below : (groups : List SeatViews) (id : ℕ) (group : SeatViews) (k : ℕ) → get_elem? groups id ≡ some group → k < length group
    → offset id groups + k < length (all_views groups)
group_below [] id group k at less = absurd (some-ne-none group (sym at))
group_below (j ∷ groups) zero group k at less = let same = ap length (some-injective j group at) in
    let long = length-append j (all_views groups) in omega arith
group_below (j ∷ groups) (suc id) group k at less = let rest = group_below groups id group k at less in
    let long = length-append j (all_views groups) in omega arith

pub group_at : (groups : List SeatViews) (id : ℕ) (group : SeatViews) (k : ℕ) (v : View) → get_elem? groups id ≡ some group → k < length group
    → get_or (all_views groups) (offset id groups + k) v ≡ get_or group k v
group_at [] id group k v at less = absurd (some-ne-none group (sym at))
group_at (j ∷ groups) zero group k v at less = ap (λ n. get_or (j ++ all_views groups) n v) (let e : 0 + k ≡ k = omega arith in e)
    ∙ get_or_append_left j (all_views groups) v k (let same = ap length (some-injective j group at) in omega arith)
    ∙ ap (λ vs. get_or vs k v) (some-injective j group at)
group_at (j ∷ groups) (suc id) group k v at less = ap (λ n. get_or (j ++ all_views groups) n v)
    (let e : length j + offset id groups + k ≡ length j + (offset id groups + k) = omega arith in e)
    ∙ get_behind j (all_views groups) (offset id groups + k) v ∙ group_at groups id group k v at less
