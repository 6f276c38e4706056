-- What flushing a cache leaves.
use Rattle.std.proofs.Common.{◌≡◌, ◌≢◌, ◌<◌, ◌≤◌, ℕ, ◌+◌, inl, inr, Bool, true, false, cond, nat_eq, List, ◌∷◌, length, set, None, refl, ap, sym, subst, ◌∙◌, eq-eqb, ne_eqb, length-append, arith}
use Rattle.std.proofs.lemmas.Bool.{cases_eq}
use Rattle.heap_model.specs.Counting.{times}
use Rattle.heap_model.specs.Sizes.{IsClass}
use Rattle.heap_model.specs.Words.{anchor_state, empty_state, partial_state}
use Rattle.core_model.specs.Effects.{last_of, seen_of, seen_word, without_claim}
use Rattle.core_model.specs.View.{Batch, Claim, View, no_batch, of_class, one_if_some}
use Rattle.core_model.proofs.PlaceLemmas.{not-lt}
use Rattle.heap_table.specs.Plays.{HasSoundState}
use Rattle.heap_rule.specs.Shown.{CanList, as_free, by_look, of_its_class}
use Rattle.superblock_lists.specs.Pushes.{HasPushed, IsClaimOf}
use Rattle.superblock_lists.proofs.AnchorLemmas.{claim_added, claim_free, claim_of_class, claim_pushed, raw_none}
use Rattle.cache_flush.specs.Flushes.{GivesRun, HasFlushedPrefix, HasListed, HasListedBy, cache_costs, cache_runs, flush_costs, with_cache}
use Rattle.superblock_lists.specs.Anchors.{HasSeenAnchor, anchor_seen}
use Rattle.cache_flush.specs.Gives.{HasGiven, IsBatchOf, given_parts}
use Rattle.cache_flush.specs.Lifts.{HasLiftedPrefix}
use Rattle.cache_flush.specs.Runs.{runs_of}
use Rattle.cache_flush.proofs.LiftingLemmas.{lifting_batch}
use Rattle.cache_flush.proofs.RunLemmas.{first_run}
use Rattle.seat_costs.specs.Costs.{Costs, IsWithin, no_costs}
use Rattle.seat_costs.specs.Rows.{Parts, ViewRow, parts}
use Rattle.seat_costs.proofs.RowLemmas.{view_row_then, view_row_within}

module _ (v : View) (has : HasSoundState v) (class d : ℕ) (claim : IsClaimOf class d v) where
  -- by what was seen of its anchor
  pub claim_lists : (list found : ℕ) → v.seen_anchor ≡ anchor_seen d found → anchor_state found < 2
      → (anchor_state found ≡ partial_state → list ≡ class) → (anchor_state found ≢ partial_state → list ≡ 0) → CanList v d list
  claim_lists list found seen low partial other = elim (cases_eq (anchor_state found) partial_state) as (λ _. CanList v d list) [
    | inl is ↦ subst (CanList v d) (sym (partial is)) (of_its_class class claim.is_class claim.claimed claim.of)
    | inr not ↦ subst (CanList v d) (sym (other not)) (as_free (claim_free v has class d claim)
        (by_look claim.claimed (ap one_if_some seen) (ap seen_of seen)
        (ap (λ s. anchor_state (seen_word s)) seen ∙ (let e : anchor_state found ≡ empty_state = omega (arith, not) in e))))
  ]

  moved : {w : View} (list : ℕ) → HasPushed list d 3 v w → w.moves ≡ v.moves + cond (nat_eq list 0) 1 0
  moved list pushed = pushed.moves ∙ ap (λ (test : Bool). v.moves + cond test 0 (cond (nat_eq list 0) 1 0))
      (not-lt 0 (times d v.raw + times d v.split) (let none = raw_none v has class d claim in omega arith))

  won_once : {w : View} (list : ℕ) → HasPushed list d 3 v w → w.wins ≤ v.wins + 1
  won_once {w} list pushed = elim (cases_eq list 0) as (λ _. w.wins ≤ v.wins + 1) [
    | inl free ↦ let most = (pushed.moved free (let none = raw_none v has class d claim in omega arith)).passes.most in let wins = most.wins in
        let moves = most.moves in omega arith
    | inr other ↦ let wins = pushed.row.passes.most.wins in let same = moved list pushed
        ∙ ap (λ (test : Bool). v.moves + cond test 1 0) (ne_eqb list 0 other) in omega arith
  ]

  pub listed_by : (w : View) (list found : ℕ) → (anchor_state found ≡ partial_state → list ≡ class) → (anchor_state found ≢ partial_state → list ≡ 0)
      → HasPushed list d 3 v w → HasListedBy d found v w
  listed_by w list found partial other pushed = record {
    going = pushed.going;
    parts_are = claim_pushed v has class d claim v w list refl pushed;
    wins = won_once list pushed;
    empty = λ is. moved list pushed ∙ ap (λ (test : Bool). v.moves + cond test 1 0) (eq-eqb list 0 (other (λ same. omega (arith, is, same))));
    partial = λ is. moved list pushed ∙ ap (λ (test : Bool). v.moves + cond test 1 0)
        (ne_eqb list 0 (λ zero_list. let some = claim.is_class.some in let at = partial is in omega (arith, zero_list)))
        ∙ (let e : v.moves + 0 ≡ v.moves = omega arith in e);
  }

  -- and so after a look
  pub listed : {a : Costs} (t w : View) (found : ℕ) → HasSeenAnchor d found v t → anchor_state found < 2 → a.moves ≡ 0 → a.wins ≡ 0
      → ViewRow a v t → HasListedBy d found t w → HasListed d v w
  listed t w found seen low none unwon row by = record {
    anchor = found;
    at = t;
    seen = seen;
    low = low;
    by = by;
    parts_are = by.parts_are ∙ ap (λ (p : Parts). record p { classed = without_claim d p.classed }) seen.parts_are;
    wins = let once = by.wins in let most = row.passes.most.wins in let moves = row.passes.most.moves in omega arith;
    empty = λ is. let e = by.empty is in let least = row.passes.more.moves in let most = row.passes.most.moves in omega arith;
    partial = λ is. let e = by.partial is in let least = row.passes.more.moves in let most = row.passes.most.moves in omega arith;
  }

  pub list_below : (list found : ℕ) → (anchor_state found ≡ partial_state → list ≡ class) → (anchor_state found ≢ partial_state → list ≡ 0) → list < 21
  list_below list found partial other = let last = claim.is_class.last in elim (cases_eq (anchor_state found) partial_state) [
    | inl is ↦ let e = partial is in omega arith
    | inr not ↦ let e = other not in omega arith
  ]

-- the batch that was lifted
pub lifted_batch : (v t : View) (has : HasSoundState v) (class d last : ℕ) (is : IsClass class) → HasLiftedPrefix class d last v t
    → IsBatchOf d class last t
lifted_batch v t has class d last is prefix = let b = lifting_batch v has class is t d last prefix.lifting in record {
  descriptor = ap (λ (x : Batch). x.descriptor) b;
  class_is = ap (λ (x : Batch). x.class) b;
  some = subst (λ (x : Batch). 1 ≤ length x.blocks) (sym b) prefix.lifting.some;
  last_is = ap (λ (x : Batch). last_of x.blocks) b ∙ prefix.lifting.last_is;
}

module _ (v t x : View) (has : HasSoundState v) (class d last : ℕ) (is : IsClass class) (none : v.batch ≡ no_batch)
    (prefix : HasLiftedPrefix class d last v t) where
  abbrev lifted : List ℕ
  lifted = prefix.lifting.lifted

  abbrev rest : List ℕ
  rest = prefix.lifting.rest

  full_parts : HasGiven d class true t x → parts x ≡ record (parts v) {
    caches = set v.caches class rest;
    batch = no_batch;
    classed = record { descriptor = d; class = class } ∷ v.classed;
  }
  full_parts given = given.parts_are ∙ ap (given_parts true d class) prefix.lifting.parts_are
      ∙ claim_added class d (record (parts v) { caches = set v.caches class rest; batch = no_batch }) is

  pub given_claimed : HasGiven d class true t x → IsClaimOf class d x
  given_claimed given = claim_of_class class d _ x is given.parts_are

  same_batch : (classed : List Claim) → record (parts v) {
    caches = set v.caches class rest;
    batch = no_batch;
    classed = classed;
  } ≡ record (parts v) { caches = set v.caches class rest; classed = classed }
  same_batch classed = ap (λ (b : Batch). record (parts v) { caches = set v.caches class rest; batch = b; classed = classed }) (sym none)

  pub given_free : HasGiven d class false t x → parts x ≡ with_cache class rest (parts v)
  given_free given = given.parts_are ∙ ap (given_parts false d class) prefix.lifting.parts_are ∙ same_batch v.classed

  pub given_listed : (w : View) → HasGiven d class true t x → HasListed d x w → parts w ≡ with_cache class rest (parts v)
  given_listed w given listed = listed.parts_are
      ∙ ap (λ (p : Parts). record p { classed = without_claim d p.classed }) (full_parts given)
      ∙ ap (λ test. record (parts v) {
        caches = set v.caches class rest;
        batch = no_batch;
        classed = cond test v.classed (record { descriptor = d; class = class } ∷ without_claim d v.classed);
      }) (eq-eqb d d refl)
      ∙ same_batch v.classed

  -- what was done with the first run
  pub gave_free : HasGiven d class false t x → GivesRun class v x
  gave_free given = record { d = d; last = last; full = false; lifted = t; given = x; lifts = prefix; gives = given; lists = refl }

  pub gave_full : (w : View) → HasGiven d class true t x → HasListed d x w → GivesRun class v w
  gave_full w given listed = record { d = d; last = last; full = true; lifted = t; given = x; lifts = prefix; gives = given; lists = listed }

  few : length lifted ≤ length (of_class v.caches class)
  few = let all = ap length prefix.lifting.both in let sum = length-append lifted rest in omega arith

  one_run : cache_runs v class ≡ 1 + runs_of v.setup.capacity rest
  one_run = ap (runs_of v.setup.capacity) prefix.lifting.both ∙ first_run v.setup.capacity d lifted rest prefix.lifting.some
      prefix.lifting.together prefix.longest

  pub prefix_row : {a : Costs} (w : View) → IsWithin a (record no_costs { draws = 7; wins = 2; gives = 1; moves = 1 }) → ViewRow a t w
      → ViewRow (cache_costs v class) v w
  prefix_row w less row = let f = few in let r = one_run in
      view_row_within (cache_costs v class) v w (record {
        draws = let l = less.draws in omega arith;
        wins = let l = less.wins in omega arith;
        gives = let l = less.gives in omega arith;
        cuts = let l = less.cuts in omega arith;
        taken = let l = less.taken in omega arith;
        moves = let l = less.moves in omega arith;
      }) (view_row_then v t w prefix.lifting.row row)

  pub prefix_done : {a : Costs} (w : View) → IsWithin a (record no_costs { draws = 7; wins = 2; gives = 1; moves = 1 }) → ViewRow a t w
      → w.stopped ≡ None → t.gives < w.gives → parts w ≡ with_cache class rest (parts v) → GivesRun class v w → HasFlushedPrefix class v w
  prefix_done w less row going gave same by = record {
    ran = prefix.lifting.ran;
    going = going;
    room = prefix.lifting.room;
    more = let d = row.passes.more.draws in let m = prefix.lifting.more in omega arith;
    gives = let least = prefix.lifting.row.passes.more.gives in let none = prefix.lifting.row.passes.most.gives in let l = less.gives in
        let most = row.passes.most.gives in omega arith;
    flushed = lifted;
    rest = rest;
    both = prefix.lifting.both;
    some = prefix.lifting.some;
    runs = one_run;
    parts_are = same;
    by = by;
    row = view_row_within (flush_costs (length lifted) 1) v w (record {
      draws = let l = less.draws in omega arith;
      wins = let l = less.wins in
          omega arith;
      gives = let l = less.gives in omega arith;
      cuts = let l = less.cuts in omega arith;
      taken = let l = less.taken in
          omega arith;
      moves = let l = less.moves in omega arith;
    }) (view_row_then v t w prefix.lifting.row row);
  }
