-- Worked examples by computation: a cache that is given back, run by run.
use Rattle.std.proofs.Common.{◌≡◌, ◌≢◌, ◌≤◌, ◌+◌, ◌*◌, ◌++◌, ◌⊎◌, ℕ, zero, suc, Bool, List, [], ◌∷◌, Option, None, Some, get_or, set, true, false, replicate, length, All, inl, inr, refl, ap, sym, subst, ◌∙◌, arith}
use Rattle.std.specs.Prelude.{nat_eq}
use Rattle.std.proofs.lemmas.Bool.{cond-true, eq-eqb}
use Rattle.std.proofs.lemmas.List.{append-nil, length-append}
use Rattle.heap_model.specs.Words.{anchor_of, empty_state, partial_state}
use Rattle.heap_model.specs.Geometry.{superblock_of}
use Rattle.core_model.specs.Effects.{first_of, without_claim}
use Rattle.core_model.specs.View.{Claim, Parts, Setup, View, no_batch, of_class}
use Rattle.superblock_lists.specs.Anchors.{anchor_seen}
use Rattle.seat_costs.specs.Rows.{ViewRow}
use Rattle.seat_costs.specs.Words.{MayBe}
use Rattle.cache_flush.specs.Flushes.{GivesRun, GivesRuns, HasListedBy, ListsBehind, gave_more, gave_none}
use Rattle.cache_flush.specs.Gives.{HasGiven}
use Rattle.cache_flush.specs.Lifts.{HasLiftedPrefix, lift_costs}
use Rattle.cache_examples.specs.Seats.{before, counts_of, later, passed, with_cached}

-- two blocks of superblock 0 and then two of superblock 1, the second of which leads to the third
abbrev pub two_runs : List ℕ
two_runs = 1080 ∷ 2872 ∷ 9272 ∷ 11064 ∷ []

-- the two of superblock 1
abbrev pub one_run : List ℕ
one_run = 9272 ∷ 11064 ∷ []

-- a seat that has them all cached
abbrev pub full_cache : View
full_cache = record (with_cached two_runs (later 1 0 0 before)) { volatile = replicate 2872 None ++ (Some 9272 ∷ []) }

-- with these blocks in the batch
abbrev pub batch_of : ℕ → List ℕ → View → View
batch_of d blocks v = record v { batch = record { descriptor = d; class = 20; blocks = blocks; linked = true } }

-- the run of superblock 0 is lifted
abbrev pub first_lifted : View
first_lifted = batch_of 0 (1080 ∷ 2872 ∷ []) (with_cached one_run (later 4 0 0 full_cache))

-- the first batch is given
abbrev pub first_given : View
first_given = record (later 3 1 1 first_lifted) { batch = no_batch }

-- so is that of superblock 1
abbrev pub second_lifted : View
second_lifted = batch_of 1 one_run (with_cached [] (later 4 0 0 first_given))

-- the second one too: the cache is empty
abbrev pub all_given : View
all_given = record (later 3 1 1 second_lifted) { batch = no_batch }

in_first : All (λ block. superblock_of 2 block ≡ 0) (1080 ∷ 2872 ∷ [])
in_first zero d less = refl
in_first (suc zero) d less = refl
in_first (suc (suc k)) d less = absurd (omega (arith, less))

in_second : All (λ block. superblock_of 2 block ≡ 1) one_run
in_second zero d less = refl
in_second (suc zero) d less = refl
in_second (suc (suc k)) d less = absurd (omega (arith, less))

-- n blocks by two tickets each
lifts : (n : ℕ) (v w : View) → 1 ≤ n → counts_of w ≡ counts_of (later (2 * n) 0 0 v) → w.small ≡ v.small → w.large ≡ v.large
    → w.volatile ≡ v.volatile → w.durable ≡ v.durable → ViewRow (lift_costs n) v w
lifts n v w some counts small large volatile durable = record {
  passes = passed (lift_costs n) (2 * n) 0 0 v w counts (omega arith) (omega arith) (omega arith) (omega arith);
  small = small;
  large = large;
  words = λ word held. record {
    volatile = λ value seen. ap (λ (known : List (Option ℕ)). get_or known word None) volatile ∙ seen;
    durable = λ value may. inr (subst (λ (known : List (Option ℕ)). MayBe (get_or known word None) value) durable may);
  };
}

-- each in a batch of its own, both to superblocks that had free blocks already
gives_first : GivesRun 20 full_cache first_given
gives_first = record {
  d = 0;
  last = 2872;
  full = false;
  lifted = first_lifted;
  given = first_given;
  lifts = record {
    lifting = record {
      ran = refl;
      going = refl;
      room = omega arith;
      more = omega arith;
      lifted = 1080 ∷ 2872 ∷ [];
      rest = one_run;
      both = refl;
      parts_are = refl;
      some = omega arith;
      together = in_first;
      last_is = refl;
      link = λ some. refl;
      row = lifts 2 full_cache first_lifted (omega arith) refl refl refl refl refl;
    };
    longest = λ some same. let e : 1 ≡ 0 = same in omega (arith, e);
  };
  gives = record { going = refl; gave = omega arith; wins = refl; parts_are = refl; durable = λ full. absurd (cc) };
  lists = refl;
}

gives_second : GivesRun 20 first_given all_given
gives_second = record {
  d = 1;
  last = 11064;
  full = false;
  lifted = second_lifted;
  given = all_given;
  lifts = record {
    lifting = record {
      ran = refl;
      going = refl;
      room = omega arith;
      more = omega arith;
      lifted = one_run;
      rest = [];
      both = refl;
      parts_are = refl;
      some = omega arith;
      together = in_second;
      last_is = refl;
      link = λ some. absurd (omega (arith, some));
      row = lifts 2 first_given second_lifted (omega arith) refl refl refl refl refl;
    };
    longest = λ some. omega (arith, some);
  };
  gives = record { going = refl; gave = omega arith; wins = refl; parts_are = refl; durable = λ full. absurd (cc) };
  lists = refl;
}

pub gives_both : GivesRuns 20 full_cache all_given
gives_both = gave_more first_given all_given (gave_more full_cache first_given (gave_none full_cache refl) gives_first) gives_second

-- the cache of the class behind a run that was given
cache_left : (d last : ℕ) (full : Bool) (v lifted given w : View) (lifts : HasLiftedPrefix 20 d last v lifted) → HasGiven d 20 full lifted given
    → ListsBehind full d given w
    → of_class w.caches 20 ≡ of_class (set v.caches 20 lifts.lifting.rest) 20
cache_left d last true v lifted given w lifts gives lists =
    ap (λ (p : Parts). of_class p.caches 20) lists.parts_are ∙ ap (λ (p : Parts). of_class p.caches 20) gives.parts_are
    ∙ ap (λ (p : Parts). of_class p.caches 20) lifts.lifting.parts_are
cache_left d last false v lifted given w lifts gives lists =
    ap (λ (u : View). of_class u.caches 20) lists ∙ ap (λ (p : Parts). of_class p.caches 20) gives.parts_are
    ∙ ap (λ (p : Parts). of_class p.caches 20) lifts.lifting.parts_are

run_leaves : (v w : View) (run : GivesRun 20 v w) → of_class w.caches 20 ≡ of_class (set v.caches 20 run.lifts.lifting.rest) 20
run_leaves v w run = cache_left run.d run.last run.full v run.lifted run.given w run.lifts run.gives run.lists

-- a run is of one superblock: two of them don't go in one batch
pub one_batch_of_two : GivesRun 20 (with_cached (2872 ∷ 9272 ∷ []) before) before → ⊥
one_batch_of_two run =
    let none : [] ≡ run.lifts.lifting.rest = run_leaves (with_cached (2872 ∷ 9272 ∷ []) before) before run in
    let both : 2872 ∷ 9272 ∷ [] ≡ run.lifts.lifting.lifted =
    run.lifts.lifting.both ∙ ap (λ rest. run.lifts.lifting.lifted ++ rest) (sym none) ∙ append-nil run.lifts.lifting.lifted in
    let together = subst (All (λ block. superblock_of 2 block ≡ run.d)) (sym both) run.lifts.lifting.together in
    let first : 0 ≡ run.d = together 0 0 (omega arith) in
    let second : 1 ≡ run.d = together 1 0 (omega arith) in
    omega (arith, first, second)

-- and it is the whole run: none of its blocks stays behind
pub a_block_behind : GivesRun 20 full_cache (with_cached (2872 ∷ 9272 ∷ 11064 ∷ []) before) → ⊥
a_block_behind run =
    let rest : 2872 ∷ 9272 ∷ 11064 ∷ [] ≡ run.lifts.lifting.rest = run_leaves full_cache (with_cached (2872 ∷ 9272 ∷ 11064 ∷ []) before) run in
    first_alone run.lifts.lifting.lifted run.lifts.lifting.some run.lifts.lifting.together
    (run.lifts.lifting.both ∙ ap (λ blocks. run.lifts.lifting.lifted ++ blocks) (sym rest))
    (subst (λ blocks. superblock_of 2 (first_of blocks) ≢ run.d) (sym rest)
    (run.lifts.longest (subst (λ blocks. 1 ≤ length blocks) rest (omega arith)))) where
      first_alone : (lifted : List ℕ) → 1 ≤ length lifted → All (λ block. superblock_of 2 block ≡ run.d) lifted
          → two_runs ≡ lifted ++ (2872 ∷ 9272 ∷ 11064 ∷ []) → 0 ≢ run.d → ⊥
      first_alone [] some together both apart = omega (arith, some)
      first_alone (x ∷ []) some together both apart =
          let first : 1080 ≡ x = ap first_of both in
          apart (subst (λ block. superblock_of 2 block ≡ run.d) (sym first) (together 0 0 (omega arith)))
      first_alone (x ∷ y ∷ lifted) some together both apart =
          let long : 4 ≡ suc (suc (length (lifted ++ (2872 ∷ 9272 ∷ 11064 ∷ [])))) = ap length both in
          let more : length (lifted ++ (2872 ∷ 9272 ∷ 11064 ∷ [])) ≡ length lifted + 3 = length-append lifted (2872 ∷ 9272 ∷ 11064 ∷ []) in
          omega (arith, long, more)

-- a seat without a ticket left gives no run
abbrev pub without_tickets : View
without_tickets = record before { setup = record before.setup { budget = 0 } }

setup_left : (d class : ℕ) (full : Bool) (lifted given w : View) → HasGiven d class full lifted given → ListsBehind full d given w
    → w.setup ≡ lifted.setup
setup_left d class false lifted given w gives lists = ap (λ (u : View). u.setup) lists ∙ ap (λ (p : Parts). p.setup) gives.parts_are
setup_left d zero true lifted given w gives lists = ap (λ (p : Parts). p.setup) lists.parts_are ∙ ap (λ (p : Parts). p.setup) gives.parts_are
setup_left d (suc class) true lifted given w gives lists = ap (λ (p : Parts). p.setup) lists.parts_are ∙ ap (λ (p : Parts). p.setup) gives.parts_are

pub no_run : (class : ℕ) (v w : View) → w.setup.budget ≡ 0 → GivesRuns class v w → w ≡ v
no_run class v _ none (gave_none w same) = same
no_run class v _ none (gave_more t w runs run) =
    let setup = setup_left run.d class run.full run.lifted run.given w run.gives run.lists ∙ ap (λ (p : Parts). p.setup) run.lifts.lifting.parts_are in
    let budget : w.setup.budget ≡ t.setup.budget = ap (λ (k : Setup). k.budget) setup in
    let room = run.lifts.lifting.room in
    absurd (omega (arith, none, budget, room))

-- by no run all stays as it is
pub nothing_given : GivesRuns 20 without_tickets (record without_tickets { gives = 1 }) → ⊥
nothing_given runs = let e : 1 ≡ 0 = ap (λ (u : View). u.gives) (no_run 20 without_tickets (record without_tickets { gives = 1 }) refl runs) in
    omega (arith, e)

-- the block of a superblock that had none free is cached
abbrev pub one_cached : View
one_cached = with_cached (1080 ∷ []) before

-- the block is lifted
abbrev one_lifted : View
one_lifted = batch_of 0 (1080 ∷ []) (with_cached [] (later 2 0 0 one_cached))

-- superblock 0, claimed with class 20
abbrev claim : Claim
claim = record { descriptor = 0; class = 20 }

-- the block is given, and its superblock is claimed
abbrev one_given : View
one_given = record (later 3 1 1 one_lifted) { batch = no_batch; classed = claim ∷ [] }

-- the anchor is seen, with one free block
abbrev one_looked : View
one_looked = record (later 1 0 0 one_given) { seen_anchor = anchor_seen 0 (anchor_of partial_state 0 1) }

-- the superblock is in the list of its class
abbrev pub one_listed : View
one_listed = record (later 2 1 0 one_looked) { classed = [] }

gives_one : GivesRun 20 one_cached one_listed
gives_one = record {
  d = 0;
  last = 1080;
  full = true;
  lifted = one_lifted;
  given = one_given;
  lifts = record {
    lifting = record {
      ran = refl;
      going = refl;
      room = omega arith;
      more = omega arith;
      lifted = 1080 ∷ [];
      rest = [];
      both = refl;
      parts_are = refl;
      some = omega arith;
      together = alone;
      last_is = refl;
      link = λ some. absurd (omega (arith, some));
      row = lifts 1 one_cached one_lifted (omega arith) refl refl refl refl refl;
    };
    longest = λ some. omega (arith, some);
  };
  gives = record { going = refl; gave = omega arith; wins = refl; parts_are = refl; durable = λ full. omega arith };
  lists = record {
    anchor = anchor_of partial_state 0 1;
    at = one_looked;
    seen = record { ran = refl; going = refl; room = omega arith; more = omega arith; parts_are = refl; is_seen = refl };
    low = omega arith;
    by = record { going = refl; parts_are = refl; wins = omega arith; empty = λ e. omega (arith, e); partial = λ e. refl };
    parts_are = refl;
    wins = omega arith;
    empty = λ e. omega (arith, e);
    partial = λ e. refl;
  };
} where
  alone : All (λ block. superblock_of 2 block ≡ 0) (1080 ∷ [])
  alone zero d less = refl
  alone (suc k) d less = absurd (omega (arith, less))

pub gives_the_one : GivesRuns 20 one_cached one_listed
gives_the_one = gave_more one_cached one_listed (gave_none one_cached refl) gives_one

-- it doesn't stay claimed
pub stays_claimed : GivesRun 20 one_cached (record one_listed { classed = claim ∷ [] }) → ⊥
stays_claimed run = elim (claims run.d run.full run.lifted run.given run.lifts run.gives run.lists) [
  | inl none ↦ let e : 1 ≡ 0 = ap length none in omega (arith, e)
  | inr listed ↦ let e : 1 ≡ 0 = ap length (listed ∙ cond-true (nat_eq run.d run.d) [] (record { descriptor = run.d; class = 20 } ∷ [])
      (eq-eqb run.d run.d refl)) in omega (arith, e)
] where
  claims : (d : ℕ) (full : Bool) (lifted given : View) → HasLiftedPrefix 20 d run.last one_cached lifted → HasGiven d 20 full lifted given
      → ListsBehind full d given (record one_listed { classed = claim ∷ [] })
      → (claim ∷ [] ≡ []) ⊎ (claim ∷ [] ≡ without_claim d (record { descriptor = d; class = 20 } ∷ []))
  claims d false lifted given lifts gives lists =
      inl (ap (λ (u : View). u.classed) lists ∙ ap (λ (p : Parts). p.classed) gives.parts_are ∙ ap (λ (p : Parts). p.classed) lifts.lifting.parts_are)
  claims d true lifted given lifts gives lists = inr (ap (λ (p : Parts). p.classed) lists.parts_are
      ∙ ap (λ claims. without_claim d claims) (ap (λ (p : Parts). p.classed) gives.parts_are
      ∙ ap (λ (p : Parts). record { descriptor = d; class = 20 } ∷ p.classed) lifts.lifting.parts_are))

-- one whose blocks are all free goes to the list of the free ones, which counts as a move, and one with some free blocks does not
pub moved : HasListedBy 0 (anchor_of empty_state 0 4) one_looked (record one_listed { moves = 1 })
moved = record { going = refl; parts_are = refl; wins = omega arith; empty = λ e. refl; partial = λ e. omega (arith, e) }

pub not_moved : HasListedBy 0 (anchor_of empty_state 0 4) one_looked one_listed → ⊥
not_moved by = let e : 0 ≡ 1 = by.empty refl in omega (arith, e)

pub moved_with_held_blocks : HasListedBy 0 (anchor_of partial_state 0 1) one_looked (record one_listed { moves = 1 }) → ⊥
moved_with_held_blocks by = let e : 1 ≡ 0 = by.partial refl in omega (arith, e)

pub listed_by_two_exchanges : HasListedBy 0 (anchor_of partial_state 0 1) one_looked (record one_listed { wins = 3 }) → ⊥
listed_by_two_exchanges by = let wins : 3 ≤ 2 = by.wins in omega (arith, wins)
