-- The free list, as it is followed.
use Rattle.std.proofs.Common.{◌≡◌, ℕ, ◌+◌, ◌%◌, ◌<◌, ◌≤◌, inl, inr, Bool, true, false, List, [], ◌∷◌, ◌++◌, set, length, get_or, replicate, Contains, Option, refl, ap, sym, subst, ◌∙◌, arith, length-append}
use Rattle.std.proofs.lemmas.List.Elements.{Contains-append_right, Contains-push_cases}
use Rattle.heap_model.specs.Geometry.{link_word, head_word, anchor_word}
use Rattle.heap_model.specs.Image.{Image}
use Rattle.heap_model.specs.Header.{capacity_of, used_of}
use Rattle.heap_model.specs.Words.{anchor_state, empty_state}
use Rattle.heap_model.specs.Chains.{Follows}
use Rattle.heap_model.proofs.MemberLemmas.{in_none, in_head, head_or_rest}
use Rattle.heap_at_rest.proofs.ListLemmas.{one_following}
use Rattle.heap_at_rest.specs.Orderly.{IsOrderly}
use Rattle.quick_recover.specs.Anchored.{IsDisorderly, IsInFreeList, HasFreeList, Leads, IsListTo}
use Rattle.quick_recover.proofs.MarkLemmas.{marks_none, marks_push, counted_none, counted_push, counted_low}

-- one more descriptor
leads_push : (link : ℕ → ℕ) (capacity from : ℕ) (seen : List ℕ) (d : ℕ) → Leads link capacity from seen (d + 1) → d < capacity
    → Leads link capacity from (seen ++ d ∷ []) (link d)
leads_push link capacity from [] d leads below = (leads, below, refl)
leads_push link capacity from (x ∷ seen) d leads below = (leads.0, leads.1, leads_push link capacity (link x) seen d leads.2 below)

-- at 0 the list ends
leads_end : (link : ℕ → ℕ) (capacity from : ℕ) (seen : List ℕ) → Leads link capacity from seen 0 → Follows link capacity from seen
leads_end link capacity from [] leads = leads
leads_end link capacity from (x ∷ seen) leads = (leads.0, leads.1, leads_end link capacity (link x) seen leads.2)

-- a whole list goes on behind its first descriptors
record GoesOn (link : ℕ → ℕ) (capacity to : ℕ) (seen ds : List ℕ) : Type 0 where
  rest : List ℕ
  is : ds ≡ seen ++ rest
  follows : Follows link capacity to rest

goes_on : (link : ℕ → ℕ) (capacity from to : ℕ) (seen ds : List ℕ) → Leads link capacity from seen to → Follows link capacity from ds
    → GoesOn link capacity to seen ds
goes_on link capacity from to [] ds leads follows = record { rest = ds; is = refl; follows = subst (λ x. Follows link capacity x ds) leads follows }
goes_on link capacity from to (x ∷ seen) [] leads follows = absurd (let first = leads.0 in let none : from ≡ 0 = follows in omega arith)
goes_on link capacity from to (x ∷ seen) (d ∷ ds) leads follows =
    let first = leads.0 in
    let first' = follows.0 in
    let same : d ≡ x = omega arith in
    let rest = goes_on link capacity (link x) to seen ds leads.2 (subst (λ y. Follows link capacity (link y) ds) same follows.2) in
    record { rest = rest.rest; is = ap (λ y. y ∷ ds) same ∙ ap (λ ys. x ∷ ys) rest.is; follows = rest.follows }

-- behind a descriptor its link leads along the rest
behind : (link : ℕ → ℕ) (capacity from d : ℕ) (xs rest : List ℕ) → Follows link capacity from (xs ++ d ∷ rest) → Follows link capacity (link d) rest
behind link capacity from d [] rest follows = follows.2
behind link capacity from d (x ∷ xs) rest follows = behind link capacity (link x) d xs rest follows.2

-- so no descriptor comes again
no_return : (link : ℕ → ℕ) (capacity from d : ℕ) (xs rest : List ℕ) → Follows link capacity from (xs ++ d ∷ rest) → Contains xs d → ⊥
no_return link capacity from d [] rest follows p = in_none d p
no_return link capacity from d (x ∷ xs) rest follows p = elim (head_or_rest x d xs p) as (λ _. ⊥) [
  | inl same ↦
      let later = subst (λ y. Follows link capacity (link y) (xs ++ d ∷ rest)) same follows.2 in
      let equal = one_following link capacity (link d) (xs ++ d ∷ rest) rest later (behind link capacity (link x) d xs rest follows.2) in
      omega (arith, ap length equal, length-append xs (d ∷ rest))
  | inr there ↦ no_return link capacity (link x) d xs rest follows.2 there
]

-- nothing followed yet
pub list_none : (image : Image) (marks : List Bool) → marks ≡ replicate (used_of image) false → (to : ℕ) → to ≡ image (head_word 0) % 16777216
    → IsListTo image 0 to marks
list_none image marks are to is = record {
  seen = [];
  leads = sym is;
  each = λ d p. absurd (in_none d p);
  marked = marks_none (λ d. d) (used_of image) marks are;
  counted = counted_none (used_of image) marks are;
}

-- one more
pub list_push : (image : Image) (count to d next : ℕ) (marks new : List Bool) → used_of image ≤ capacity_of image
    → IsListTo image count to marks → to ≡ d + 1 → d < used_of image
    → anchor_state (image (anchor_word d)) ≡ empty_state → get_or marks d false ≡ false → new ≡ set marks d true → next ≡ image (link_word d)
    → IsListTo image (count + 1) next new
list_push image count to d next marks new fits old here below empty unmarked are next_is = record {
  seen = old.seen ++ d ∷ [];
  leads = subst (Leads (λ e. image (link_word e)) (capacity_of image) (image (head_word 0) % 16777216) (old.seen ++ d ∷ [])) (sym next_is)
      (leads_push (λ e. image (link_word e)) (capacity_of image) (image (head_word 0) % 16777216) old.seen d
      (subst (Leads (λ e. image (link_word e)) (capacity_of image) (image (head_word 0) % 16777216) old.seen) here old.leads) (omega arith));
  each = λ e p. elim (Contains-push_cases old.seen d e p) as (λ _. IsInFreeList image e) [
    | inl before ↦ old.each e before
    | inr same ↦ subst (IsInFreeList image) same (record { taken = below; empty = empty })
  ];
  marked = marks_push (λ e. e) old.seen (used_of image) d marks new are below (λ m less same. same) old.marked;
  counted = counted_push d count marks new are (let long = old.marked.long in omega arith) unmarked old.counted;
}

-- the end
pub list_end : (image : Image) (count : ℕ) (marks : List Bool) → IsListTo image count 0 marks → HasFreeList image marks
list_end image count marks old = record {
  free = old.seen;
  is = record {
    listed = leads_end (λ e. image (link_word e)) (capacity_of image) (image (head_word 0) % 16777216) old.seen old.leads;
    each = old.each;
    marked = old.marked;
  };
}

-- what comes next is in the free list of an orderly image, and was not there before
record IsNext (image : Image) (seen : List ℕ) (d : ℕ) : Type 0 where
  taken : d < used_of image
  empty : anchor_state (image (anchor_word d)) ≡ empty_state
  new : Contains seen d → ⊥

comes_next : (image : Image) (count d : ℕ) (marks : List Bool) (old : IsListTo image count (d + 1) marks) (limit : Option ℕ) (bytes : ℕ)
    → IsOrderly limit bytes image → IsNext image old.seen d
comes_next image count d marks old limit bytes orderly =
    let on = goes_on (λ e. image (link_word e)) (capacity_of image) (image (head_word 0) % 16777216)
    (d + 1) old.seen orderly.free old.leads orderly.listed in
    in_rest on.rest on.follows on.is
  where
    in_rest : (rest : List ℕ) → Follows (λ e. image (link_word e)) (capacity_of image) (d + 1) rest → orderly.free ≡ old.seen ++ rest
        → IsNext image old.seen d
    in_rest [] follows is = absurd (let none : d + 1 ≡ 0 = follows in omega arith)
    in_rest (e ∷ rest) follows is =
        let first = follows.0 in
        let same : e ≡ d = omega arith in
        let whole = is ∙ ap (λ x. old.seen ++ x ∷ rest) same in
        let are = orderly.free_are d (subst (λ ds. Contains ds d) (sym whole) (Contains-append_right old.seen (d ∷ rest) d (in_head d rest))) in
        record {
          taken = are.0;
          empty = are.1;
          new = no_return (λ x. image (link_word x)) (capacity_of image) (image (head_word 0) % 16777216) d old.seen rest
              (subst (Follows (λ x. image (link_word x)) (capacity_of image) (image (head_word 0) % 16777216)) whole orderly.listed);
        }

-- so an image whose list goes on otherwise is not orderly
pub not_next : (image : Image) (count to d : ℕ) (marks : List Bool) → IsListTo image count to marks → to ≡ d + 1
    → (d < used_of image → anchor_state (image (anchor_word d)) ≡ empty_state → get_or marks d false ≡ false → ⊥) → IsDisorderly image
not_next image count to d marks old here other = record { never = never } where
  at : IsListTo image count (d + 1) marks
  at = subst (λ t. IsListTo image count t marks) here old

  never : (limit : Option ℕ) (bytes : ℕ) → IsOrderly limit bytes image → ⊥
  never limit bytes orderly =
      let next = comes_next image count d marks at limit bytes orderly in
      other next.taken next.empty (unmarked (get_or marks d false) refl next)
    where
      unmarked : (mark : Bool) → get_or marks d false ≡ mark → IsNext image at.seen d → get_or marks d false ≡ false
      unmarked true is next = absurd (next.new (at.marked.marked d next.taken is))
      unmarked false is next = is

-- nor is one whose list is longer than there are superblocks
pub too_long : (image : Image) (count to : ℕ) (marks : List Bool) → used_of image < count → IsListTo image count to marks → IsDisorderly image
too_long image count to marks more old = absurd (let low = counted_low marks in let counted = old.counted in let long = old.marked.long in omega arith)
