-- The lists of superblocks: their members by role, and the links that a list leads along.
use Rattle.std.proofs.Common.{◌≡◌, ◌≢◌, ℕ, zero, suc, ◌+◌, ◌<◌, ◌≤◌, ◌⊎◌, inl, inr, Option, Some, None, true, false, List, [], ◌∷◌, ◌++◌, nat_eq, length, set, get_or, slice_index, refl, ap, sym, subst, ◌∙◌, arith}
use Rattle.std.specs.List.{All}
use Rattle.std.proofs.lemmas.Bool.{cases_lt, eqb-true, eqb-false}
use Rattle.std.specs.Option.{option_eq}
use Rattle.std.proofs.lemmas.List.{get_or_default, get_or-set_same, get_or-set_other}
use Rattle.std.proofs.lemmas.List.Elements.{Contains-get_or}
use Rattle.heap_model.specs.Geometry.{head_word, link_word, image_words, lists}
use Rattle.heap_model.specs.Image.{Image}
use Rattle.heap_model.specs.Recovered.{AreAscending}
use Rattle.heap_model.specs.Recovery.{first_number}
use Rattle.heap_model.specs.Chains.{Follows}
use Rattle.heap_at_rest.proofs.ListLemmas.{follows_same}
use Rattle.heap_recover.specs.declared.roles.Role.{Role}
use Rattle.heap_recover.specs.declared.roles.Role.TheVariants.{Large}
use Rattle.heap_recover.specs.Roles.{list_of, number_at, IsMember}
use Rattle.heap_recover.specs.Rebuilt.{IsLinked, IsList, AreListed}
use Rattle.heap_recover.proofs.AscendingLemmas.{ascending_none, ascending_same, ascending_push}
use Rattle.heap_recover.proofs.WritingLemmas.{AreWritten}

-- a member among the first `count` superblocks
pub record IsMemberAmong (roles : List Role) (list count d : ℕ) : Type 0 where
  pub member : IsMember roles list d
  pub among : d < count

module _ (roles : List Role) (list : ℕ) where
  -- none yet
  pub members_none : AreAscending (λ d. d) (IsMemberAmong roles list 0) []
  members_none = ascending_none (λ d. d) (IsMemberAmong roles list 0) (λ d is. let among = is.among in omega arith)

  more : (count d : ℕ) → IsMemberAmong roles list count d → IsMemberAmong roles list (count + 1) d
  more count d is = record { member = is.member; among = (let among = is.among in omega arith) }

  -- one more
  pub members_push : (ds : List ℕ) (count : ℕ) → IsMember roles list count → AreAscending (λ d. d) (IsMemberAmong roles list count) ds
      → AreAscending (λ d. d) (IsMemberAmong roles list (count + 1)) (ds ++ count ∷ [])
  members_push ds count here old = ascending_push (λ d. d) (IsMemberAmong roles list count) (IsMemberAmong roles list (count + 1)) ds count old
      (λ d is. is.among) (more count) (record { member = here; among = omega arith })
      (λ d is. elim (cases_lt d count) as (λ _. IsMemberAmong roles list count d ⊎ (d ≡ count)) [
        | inl before ↦ inl (record { member = is.member; among = before })
        | inr past ↦ inr (let among = is.among in omega arith)
      ])

  -- one passed over
  pub members_skip : (ds : List ℕ) (count : ℕ) → (IsMember roles list count → ⊥) → AreAscending (λ d. d) (IsMemberAmong roles list count) ds
      → AreAscending (λ d. d) (IsMemberAmong roles list (count + 1)) ds
  members_skip ds count away old = ascending_same (λ d. d) (IsMemberAmong roles list count) (IsMemberAmong roles list (count + 1)) ds (more count)
      (λ d is. elim (cases_lt d count) as (λ _. IsMemberAmong roles list count d) [
        | inl before ↦ record { member = is.member; among = before }
        | inr past ↦ absurd (away (subst (IsMember roles list) (let among = is.among in omega arith) is.member))
      ])
      old

  -- all of them
  pub members_all : (ds : List ℕ) (count : ℕ) → length roles ≤ count → AreAscending (λ d. d) (IsMemberAmong roles list count) ds
      → AreAscending (λ d. d) (IsMember roles list) ds
  members_all ds count all old = ascending_same (λ d. d) (IsMemberAmong roles list count) (IsMember roles list) ds (λ d is. is.member)
      (λ d is. record { member = is; among = (let below = is.below in omega arith) }) old

-- the number of the first of a list
pub first_of : (ds : List ℕ) → number_at ds 0 ≡ first_number ds
first_of [] = refl
first_of (d ∷ ds) = refl

-- which is small, as the superblocks of the list are
pub first_small : (ds : List ℕ) (n : ℕ) → All (λ d. d < n) ds → number_at ds 0 ≤ n
first_small [] n below = omega arith
first_small (d ∷ ds) n below = let first : d < n = below 0 d (omega arith) in omega arith

-- the number at an index, of which there is one
pub number_inside : (ds : List ℕ) (i : ℕ) → i < length ds → number_at ds i ≡ slice_index ds i + 1
number_inside [] i below = absurd (omega arith)
number_inside (d ∷ ds) zero below = refl
number_inside (d ∷ ds) (suc i) below = number_inside ds i (omega arith)

pub number_past : (ds : List ℕ) (i : ℕ) → length ds ≤ i → number_at ds i ≡ 0
number_past [] i past = refl
number_past (d ∷ ds) zero past = absurd (omega arith)
number_past (d ∷ ds) (suc i) past = number_past ds i (omega arith)

-- links that hold the numbers lead along the list
pub follows_from : (link : ℕ → ℕ) (capacity : ℕ) (ds : List ℕ) → All (λ d. d < capacity) ds
    → ((j : ℕ) → j < length ds → link (slice_index ds j) ≡ number_at ds (suc j))
    → Follows link capacity (first_number ds) ds
follows_from link capacity [] below links = refl
follows_from link capacity (d ∷ ds) below links = (
  refl,
  below 0 0 (omega arith),
  subst (λ n. Follows link capacity n ds) (sym (links 0 (omega arith) ∙ first_of ds))
      (follows_from link capacity ds (λ k x less. below (suc k) x (omega arith)) (λ j less. links (suc j) (omega arith))),
)

-- the answer of a comparison with a list
pub option_is : (o : Option ℕ) (n : ℕ) → option_eq nat_eq o (Some n) ≡ true → o ≡ Some n
option_is None n test = absurd (cc)
option_is (Some m) n test = ap Some (eqb-true m n test)

pub option_not : (o : Option ℕ) (n : ℕ) → option_eq nat_eq o (Some n) ≡ false → o ≡ Some n → ⊥
option_not None n test same = absurd (cc)
option_not (Some m) n test same = let is : m ≡ n = cc in eqb-false m n test is

-- a superblock is a member or not by its role, whatever stands behind the last one
pub member_here : (roles : List Role) (list d : ℕ) (other : Role) → d < length roles → list_of (get_or roles d other) ≡ Some list
    → IsMember roles list d
member_here roles list d other below same = record { below = below; in_list = ap list_of (get_or_default roles d Large other below) ∙ same }

pub no_member : (roles : List Role) (list d : ℕ) (other : Role) → d < length roles → (list_of (get_or roles d other) ≡ Some list → ⊥)
    → IsMember roles list d → ⊥
no_member roles list d other below away is = away (ap list_of (get_or_default roles d other Large below) ∙ is.in_list)

-- a superblock is in one list
pub one_list : (roles : List Role) (i j d : ℕ) → IsMember roles i d → IsMember roles j d → i ≡ j
one_list roles i j d in_i in_j = let same : Some i ≡ Some j = sym in_i.in_list ∙ in_j.in_list in cc

-- links and head are written
pub linked : (old mid : List ℕ) (capacity list : ℕ) (ds : List ℕ) → list < lists → length old ≡ image_words capacity → All (λ d. d < capacity) ds
    → AreWritten (λ j. link_word (slice_index ds j)) (λ j. number_at ds (suc j)) old mid (length ds)
    → IsLinked (slice_index old) (slice_index (set mid (16 + list) (number_at ds 0))) capacity list ds
linked old mid capacity list ds few long inside written = record {
  head = get_or-set_same mid (16 + list) (number_at ds 0) 0 (let same = written.long in omega arith) ∙ first_of ds;
  follows = follows_from (λ d. slice_index new (link_word d)) capacity ds inside
      (λ j below. away (link_word (slice_index ds j)) (λ same. omega arith) ∙ written.written j below);
  others = λ word no_head no_link. away word no_head ∙ written.others word
      (λ j below same. no_link (slice_index ds j) (Contains-get_or ds j 0 below) same);
} where
  new : List ℕ
  new = set mid (16 + list) (number_at ds 0)

  away : (word : ℕ) → word ≢ 16 + list → slice_index (set mid (16 + list) (number_at ds 0)) word ≡ slice_index mid word
  away word other = get_or-set_other mid (16 + list) word (number_at ds 0) 0 other

-- no list yet
pub listed_none : (old : Image) (capacity : ℕ) (roles : List Role) → AreListed old old capacity roles 0
listed_none old capacity roles = record { each = λ j below. absurd (omega arith); others = λ word no_head no_link. refl }

-- one list more
pub listed_more : (old mid new : Image) (capacity : ℕ) (roles : List Role) (list : ℕ) (ds : List ℕ) → AreAscending (λ d. d) (IsMember roles list) ds
    → AreListed old mid capacity roles list → IsLinked mid new capacity list ds → list < lists → AreListed old new capacity roles (list + 1)
listed_more old mid new capacity roles list ds members first next few = record { each = each; others = others } where
  kept : (j d : ℕ) → j < list → IsMember roles j d → new (link_word d) ≡ mid (link_word d)
  kept j d less in_j = next.others (link_word d) (λ same. omega arith) (λ e has same.
      let is_e : d ≡ e = omega arith in
      let one : j ≡ list = one_list roles j list d in_j (subst (IsMember roles list) (sym is_e) (members.sound e has)) in omega arith)

  each : (j : ℕ) → j < list + 1 → IsList new capacity roles j
  each j below = elim (cases_lt j list) as (λ _. IsList new capacity roles j) [
    | inl less ↦ let was = first.each j less in record {
      members = was.members;
      are_members = was.are_members;
      head = next.others (head_word j) (λ same. omega arith) (λ d has same. omega arith) ∙ was.head;
      follows = follows_same (λ d. mid (link_word d)) (λ d. new (link_word d)) capacity (first_number was.members) was.members
          (λ d has. kept j d less (was.are_members.sound d has)) was.follows;
    }
    | inr past ↦ let same : list ≡ j = omega arith in
        subst (λ i. IsList new capacity roles i) same (record { members = ds; are_members = members; head = next.head; follows = next.follows })
  ]

  others : (word : ℕ) → ((j : ℕ) → j < list + 1 → word ≢ head_word j) → ((d j : ℕ) → j < list + 1 → IsMember roles j d → word ≢ link_word d)
      → new word ≡ old word
  others word no_head no_link =
      next.others word (no_head list (omega arith)) (λ d has. no_link d list (omega arith) (members.sound d has))
      ∙ first.others word (λ j less. no_head j (omega arith)) (λ d j less. no_link d j (omega arith))

-- members are superblocks of the image
pub members_inside : (roles : List Role) (list capacity : ℕ) (ds : List ℕ) → length roles ≤ capacity
    → AreAscending (λ d. d) (IsMember roles list) ds → All (λ d. d < capacity) ds
members_inside roles list capacity ds few members k x less = let below = (members.sound (get_or ds k x) (Contains-get_or ds k x less)).below in
    omega arith
