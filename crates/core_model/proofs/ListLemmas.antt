-- Lists of descriptors when one loses or gets its first descriptor.
use Rattle.std.proofs.Common.{◌≡◌, ◌≢◌, ℕ, zero, suc, ◌+◌, ◌-◌, ◌<◌, ◌≤◌, inl, inr, true, cond, nat_eq, List, [], ◌∷◌, get_or, set, length, Option, None, refl, ap, sym, subst, ◌∙◌, eq-eqb, eqb-true, ne_eqb, arith}
use Rattle.std.proofs.lemmas.Bool.{cases_eq, agree_below_at}
use Rattle.std.proofs.lemmas.List.{get_or_default}
use Rattle.heap_model.specs.Geometry.{lists}
use Rattle.heap_model.specs.Sizes.{IsClass, last_class}
use Rattle.heap_model.specs.Words.{head_of, head_first, head_pops}
use Rattle.heap_model.specs.Chains.{Follows}
use Rattle.heap_model.specs.Counting.{times, total}
use Rattle.heap_model.specs.Rest.{list_numbers}
use Rattle.heap_model.proofs.CountingLemmas.{times_once, is_number, numbers_ascend}
use Rattle.core_model.specs.Cells.{head_cell}
use Rattle.core_model.specs.Memory.{Memory, volatile_at, head, link, write}
use Rattle.core_model.specs.View.{Setup, View, one_if_some}
use Rattle.core_model.specs.Effects.{before, seen, seen_word, seen_of}
use Rattle.core_model.specs.Guards.{IsThere}
use Rattle.core_model.specs.Sound.{CoreShape, AreLists, KnowsHead, HasTotals, class_numbers}
use Rattle.core_model.proofs.TotalLemmas.{total_change, ne-eqb-none}
use Rattle.core_model.proofs.FrameLemmas.{untouched, words_frame}
use Rattle.core_model.proofs.EventStepLemmas.{IsSeat, adds_step}

-- the lists, but another one at one number
abbrev pub relist : (ℕ → List ℕ) → ℕ → List ℕ → ℕ → List ℕ
relist descriptors list ds n = cond (nat_eq n list) ds (descriptors n)

pub relist_same : (descriptors : ℕ → List ℕ) (list : ℕ) (ds : List ℕ) (n : ℕ) → n ≡ list → relist descriptors list ds n ≡ ds
relist_same descriptors list ds n same = ap (λ t. cond t ds (descriptors n)) (eq-eqb n list same)

pub relist_other : (descriptors : ℕ → List ℕ) (list : ℕ) (ds : List ℕ) (n : ℕ) → n ≢ list → relist descriptors list ds n ≡ descriptors n
relist_other descriptors list ds n other = ap (λ t. cond t ds (descriptors n)) (ne_eqb n list other)

-- a descriptor is one less than what leads to it
pub before_is : (n : ℕ) → n ≢ 0 → before n ≡ n - 1
before_is zero some = absurd (some refl)
before_is (suc n) some = omega arith

-- the rest of a list that is not empty
pub record IsFirst (links : ℕ → ℕ) (capacity from : ℕ) (ds : List ℕ) : Type 0 where
  pub rest : List ℕ
  pub is : ds ≡ before from ∷ rest
  pub from_is : from ≡ before from + 1
  pub less : before from < capacity
  pub follows : Follows links capacity (links (before from)) rest

pub first_is : (links : ℕ → ℕ) (capacity from : ℕ) (ds : List ℕ) → Follows links capacity from ds → from ≢ 0 → IsFirst links capacity from ds
first_is links capacity from [] f some = absurd (some f)
first_is links capacity from (d ∷ ds) f some = record {
  rest = ds;
  is = ap (λ x. x ∷ ds) (sym here);
  from_is = f.0 ∙ ap (λ x. x + 1) (sym here);
  less = subst (λ x. x < capacity) (sym here) f.1;
  follows = subst (λ x. Follows links capacity (links x) ds) (sym here) f.2;
} where
  here : before from ≡ d
  here = ap before (f.0 ∙ (let e : d + 1 ≡ suc d = omega arith in e))

-- the parts of a head
pub head_parts : (first pops : ℕ) → first < 16777216 → (head_first (head_of first pops) ≡ first) × (head_pops (head_of first pops) ≡ pops)
head_parts first pops small = (omega arith, omega arith)

-- one list changes with its head
pub lists_set : (capacity : ℕ) (heads links : ℕ → ℕ) (descriptors : ℕ → List ℕ) (list word : ℕ) (ds : List ℕ)
    → AreLists capacity heads links descriptors
    → Follows links capacity (head_first word) ds → AreLists capacity (λ n. cond (nat_eq n list) word (heads n)) links (relist descriptors list ds)
lists_set capacity heads links descriptors list word ds old new = record {
  follows = λ n is. elim (cases_eq n list) [
    | inl same ↦ subst (λ t. Follows links capacity (head_first (cond t word (heads n))) (cond t ds (descriptors n))) (sym (eq-eqb n list same)) new
    | inr other ↦ subst (λ t. Follows links capacity (head_first (cond t word (heads n))) (cond t ds (descriptors n)))
        (sym (ne_eqb n list other)) (old.follows n is)
  ];
}

-- a list number stands once among the numbers
pub number_once : (list : ℕ) → list < lists → times list list_numbers ≡ 1
number_once list is = times_once list list_numbers numbers_ascend (is_number list is)

-- a class stands once among the classes, and 0 does not
pub class_once : (class : ℕ) → class < lists → class ≢ 0 → times class class_numbers ≡ 1
class_once class is some = let all = number_once class is in let none = ne-eqb-none 0 class (λ e. some (sym e)) in omega arith

-- the pops of all heads, where one head changes
pub pops_set : (heads : ℕ → ℕ) (list word : ℕ) → list < lists
    → total (λ n. head_pops (cond (nat_eq n list) word (heads n))) list_numbers + head_pops (heads list) ≡ total
    (λ n. head_pops (heads n)) list_numbers + head_pops word
pops_set heads list word is =
    let step = total_change (λ n. head_pops (heads n)) (λ n. head_pops (cond (nat_eq n list) word (heads n))) list list_numbers
    (λ n other. ap (λ t. head_pops (cond t word (heads n))) (ne_eqb n list other)) (number_once list is) in
    let here : head_pops (cond (nat_eq list list) word (heads list)) ≡ head_pops word =
    ap (λ t. head_pops (cond t word (heads list))) (eq-eqb list list refl) in
    omega arith

-- the class lists, where the list of a class changes
pub in_lists_set : (d : ℕ) (descriptors : ℕ → List ℕ) (class : ℕ) (ds : List ℕ) → class < lists → class ≢ 0
    → total (λ n. times d (relist descriptors class ds n)) class_numbers + times d (descriptors class) ≡ total
    (λ n. times d (descriptors n)) class_numbers + times d ds
in_lists_set d descriptors class ds is some =
    let step = total_change (λ n. times d (descriptors n)) (λ n. times d (relist descriptors class ds n)) class class_numbers
    (λ n other. ap (times d) (relist_other descriptors class ds n other)) (class_once class is some) in
    let here = ap (times d) (relist_same descriptors class ds class refl) in
    omega arith

-- a descriptor of the list of a class
pub in_lists_at : (d : ℕ) (descriptors : ℕ → List ℕ) (class : ℕ) → class < lists → class ≢ 0
    → times d (descriptors class) ≤ total (λ n. times d (descriptors n)) class_numbers
in_lists_at d descriptors class is some = let step = in_lists_set d descriptors class [] is some in omega arith

-- a pop makes what others saw of the list's head out of date, and leaves the rest
pub knows_pop : (capacity : ℕ) (heads links : ℕ → ℕ) (descriptors : ℕ → List ℕ) (at word : ℕ) (ds : List ℕ)
    → head_pops (heads at) < head_pops word → (list seen_word : ℕ) (next : Option ℕ)
    → KnowsHead capacity heads links descriptors list seen_word next
    → KnowsHead capacity (λ n. cond (nat_eq n at) word (heads n)) links (relist descriptors at ds) list seen_word next
knows_pop capacity heads links descriptors at word ds more list seen_word next h = elim (cases_eq list at) [
  | inl same ↦
      let now : head_pops (cond (nat_eq list at) word (heads list)) ≡ head_pops word =
      ap (λ t. head_pops (cond t word (heads list))) (eq-eqb list at same) in
      let before_it = h.pops in let was = ap (λ n. head_pops (heads n)) same in
      record {
        is_list = h.is_list;
        small = h.small;
        pops = omega arith;
        listed = λ e. absurd (omega (arith, e));
        linked = λ there. ((h.linked there).0, λ e. absurd (omega (arith, e)));
      }
  | inr other ↦
      let now : cond (nat_eq list at) word (heads list) ≡ heads list = ap (λ t. cond t word (heads list)) (ne_eqb list at other) in
      let same_list = relist_other descriptors at ds list other in
      record {
        is_list = h.is_list;
        small = h.small;
        pops = subst (λ x. head_pops seen_word ≤ head_pops x) (sym now) h.pops;
        listed = subst (λ x. head_pops seen_word ≡ head_pops x → head_first seen_word ≢ 0
            → 0 < times (before (head_first seen_word)) (relist descriptors at ds list)) (sym now)
            (subst (λ xs. head_pops seen_word ≡ head_pops (heads list) → head_first seen_word ≢ 0
            → 0 < times (before (head_first seen_word)) xs) (sym same_list) h.listed);
        linked = subst (λ x. IsThere next → (head_first seen_word ≢ 0)
            × (head_pops seen_word ≡ head_pops x → links (before (head_first seen_word)) ≡ seen next)) (sym now) h.linked;
      }
]

-- any seat, where one head changes with its list
pub others_at_head : (k : Setup) (m : Memory) (g : CoreShape) (at word : ℕ) (ds : List ℕ)
    → ((list seen_word : ℕ) (next : Option ℕ) → KnowsHead k.capacity (head m) (link m) g.lists list seen_word next
    → KnowsHead k.capacity (λ n. cond (nat_eq n at) word (head m n)) (link m) (relist g.lists at ds) list seen_word next)
    → (x : View) → IsSeat k m g x → IsSeat k (write m (volatile_at (head_cell at)) word) (record g { lists = relist g.lists at ds }) x
others_at_head k m g at word ds knows x h = record {
  set_up = h.set_up;
  claims = h.claims;
  blocks = h.blocks;
  knows = (let s = h.knows in record {
    seen_head = λ t. knows (seen_of x.seen_head) (seen_word x.seen_head) x.seen_link (s.seen_head t);
    seen_used = s.seen_used;
    looked = s.looked;
    seen_anchor = s.seen_anchor;
    seen_empty = s.seen_empty;
    floor = s.floor;
  });
  words = words_frame k.capacity m (write m (volatile_at (head_cell at)) word) x
      (λ cell own. untouched x m.volatile (head_cell at) word cell refl own) (λ cell own. refl) h.words;
  tickets = h.tickets;
}

-- a seat that wins an exchange on a head gives its ticket up
pub adds_at_head : (k : Setup) (m : Memory) (views : List View) (i : ℕ) (v w : View) → i < length views → get_or views i v ≡ v
    → HasTotals k m views → (list word : ℕ) → list < lists
    → head_pops word ≤ head_pops (head m list) + one_if_some v.ticket → w.ticket ≡ None → w.draws ≡ v.draws → w.stopped ≡ v.stopped
    → w.roots ≡ v.roots → w.taken ≡ v.taken
    → HasTotals k (write m (volatile_at (head_cell list)) word) (set views i w)
adds_at_head k m views i v w below at adds list word is pops none draws stopped roots taken =
    adds_step k m (write m (volatile_at (head_cell list)) word) views i v w below at adds refl draws stopped roots
    (let p = pops_set (head m) list word is in let n = ap one_if_some none in omega arith) (omega arith)

-- the numbers of classes are classes
pub class_of : (i n : ℕ) → i < last_class → get_or class_numbers i n ≡ n → IsClass n
class_of i n below at = subst IsClass (sym (at_index i below) ∙ at) (record { some = omega arith; last = omega arith }) where
  at_index : (j : ℕ) → j < last_class → get_or class_numbers j n ≡ j + 1
  at_index j less = get_or_default class_numbers j n 0 less ∙ eqb-true (get_or class_numbers j 0) (j + 1)
      (agree_below_at (λ y. nat_eq (get_or class_numbers y 0) (y + 1)) (λ _. true) last_class j refl less)
