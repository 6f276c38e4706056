-- Tables that are made one after the other, and what of the earlier ones stands.
use Rattle.std.proofs.Common.{◌≡◌, ◌≢◌, ℕ, zero, suc, ◌+◌, ◌-◌, ◌*◌, ◌<◌, ◌≤◌, ◌⊎◌, inl, inr, Bool, true, false, not, List, [], ◌∷◌, Contains, length, set, refl, subst, sym, ap, ◌∙◌, arith}
use Rattle.std.specs.Prelude.{count_by, ◌&&◌}
use Rattle.std.proofs.lemmas.Bool.{cases_eq, and_parts, and_from, and_right}
use Rattle.heap_model.proofs.ListLemmas.{in_numbers, numbers_below}
use Rattle.heap_model.specs.Geometry.{root_word}
use Rattle.heap_model.specs.Image.{Image, words_from}
use Rattle.heap_model.specs.Sizes.{span_of}
use Rattle.heap_seat.specs.declared.fault.Looks.{Looks}
use Rattle.heap_seat.specs.Rows.{IsRow}
use Rattle.heap_seat.specs.Sound.{IsSeat}
use Rattle.heap_seat.specs.Tickets.{Runs}
use Rattle.heap_seat.specs.View.{View}
use Rattle.heap_seat.proofs.RowLemmas.{row_none, row_then, row_more, runs_then}
use Rattle.dict_model.specs.Links.{shards}
use Rattle.dict_model.specs.Nodes.{table_bytes}
use Rattle.dict_model.specs.Requests.{Request, Reply}
use Rattle.dict_model.specs.Shards.{Map}
use Rattle.dict_requests.specs.Changes.{MayChange, Changes}
use Rattle.dict_requests.specs.Maps.{IsMapIn}
use Rattle.dict_requests.specs.Moving.{TableTakes, for_none, for_table}
use Rattle.dict_requests.specs.Puts.{WasNull}
use Rattle.dict_requests.specs.Reached.{ReachesAllHeld}
use Rattle.dict_requests.specs.Removal.{IsShard}
use Rattle.dict_requests.proofs.OthersLemmas.{shard_on}
use Rattle.run_model.specs.Progress.{HasAnswered}
use Rattle.run_model.specs.Spending.{sees_table, tables_made, tables_missing}
use Rattle.run_model.proofs.CountLemmas.{count_rises, count_gains, value_set, null_unset}
use Rattle.run_model.proofs.GoesOnLemmas.{stays_on}
use Rattle.shard_moves.specs.Tables.{is_flagged, flag_count, TellsTable}
use Rattle.shard_moves.proofs.ToldLemmas.{HasTried, sees_on, tells_on, tells_from}
use Rattle.shard_moves.proofs.FlagLemmas.{count_set, count_unset, made_missing}

-- a change to the same map is none
pub same_change : (shard : ℕ) (v w : View) → MayChange shard (λ m. m) v w → Changes shard (λ m. m) v w
same_change shard v w may = record {
  gives = λ map gives. record { each = λ image mixes. one image map ((may.either map gives).each image mixes) };
} where
  one : (image : Image) (map : Map) → IsMapIn w image shard map ⊎ IsMapIn w image shard map → IsMapIn w image shard map
  one image map (inl is) = is
  one image map (inr is) = is

-- so many calls as flags of shards below the number
pub record HasCalled (flags : List Bool) (number : ℕ) (v w : View) : Type 0 where
  pub count : ℕ
  pub row : IsRow (512 * count) count count v w
  pub left : count + count_by (is_flagged flags) (words_from (λ i. i) number (shards - number)) ≡ flag_count flags

-- how far the tables of the flagged shards are made: those below the number
pub record HasMade {S : Type 0} (view : S → View) (keeps : S → S → Type 0) (has_none : S → S → ℕ → Looks → Type 0)
    (flags before tables : List Bool) (number : ℕ) (s t : S) : Type 0 where
  pub each : (k : ℕ) → k < shards → is_flagged flags k ≡ true → IsShard (view t) k
  pub told : (k : ℕ) → k < number → k < shards → is_flagged flags k ≡ true → TellsTable view keeps has_none k (is_flagged tables k) s t
  pub others : (k : ℕ) → is_flagged flags k ≡ false → is_flagged tables k ≡ is_flagged before k
  pub sees : (k : ℕ) → k < shards → is_flagged flags k ≡ true → sees_table (view s) k ≡ true → sees_table (view t) k ≡ true
  pub taken : (view t).taken ≤ (view s).taken + tables_made (is_flagged flags) (view s) (view t)
  pub calls : HasCalled flags number (view s) (view t)
  pub exact : ReachesAllHeld (view s) → ReachesAllHeld (view t)
  pub done : (view t ≡ view s) ⊎ Runs (view s) (view t)
  pub answered : (image : Image) (rs : List (Request × Reply)) → HasAnswered image rs (view s) → HasAnswered image rs (view t)
  pub roots : (view t).roots ≡ (view s).roots
  pub kept : keeps s t

-- the flag that is set is the one that is told, and the others stay
pub flag_set : (flags : List Bool) (n : ℕ) (b : Bool) → n < length flags → is_flagged (set flags n b) n ≡ b
flag_set [] n b inside = absurd (omega arith)
flag_set (x ∷ xs) zero b inside = refl
flag_set (x ∷ xs) (suc n) b inside = flag_set xs n b (omega arith)

pub flag_stays : (flags : List Bool) (n k : ℕ) (b : Bool) → k ≢ n → is_flagged (set flags n b) k ≡ is_flagged flags k
flag_stays [] n k b other = refl
flag_stays (x ∷ xs) zero zero b other = absurd (other refl)
flag_stays (x ∷ xs) zero (suc k) b other = refl
flag_stays (x ∷ xs) (suc n) zero b other = refl
flag_stays (x ∷ xs) (suc n) (suc k) b other = flag_stays xs n k b (λ e. other (ap suc e))

-- nothing is made yet
pub made_none : {S : Type 0} (view : S → View) (keeps : S → S → Type 0) (has_none : S → S → ℕ → Looks → Type 0) (flags tables : List Bool)
    (s : S) → keeps s s
    → ((k : ℕ) → k < shards → is_flagged flags k ≡ true → IsShard (view s) k) → HasMade view keeps has_none flags tables tables 0 s s
made_none view keeps has_none flags tables s same each = record {
  each = each;
  told = λ k below small flagged. absurd (omega arith);
  others = λ k unflagged. refl;
  sees = λ k small flagged sees. sees;
  taken = omega arith;
  calls = record { count = 0; row = row_none (view s); left = omega arith };
  exact = λ all. all;
  done = inl refl;
  answered = λ image rs has. has;
  roots = refl;
  kept = same;
}

module _ {S : Type 0} (view : S → View) (keeps : S → S → Type 0) (has_none : S → S → ℕ → Looks → Type 0) (flags before tables : List Bool)
    (n : ℕ) (s t : S) (small : n < shards)
    (made : HasMade view keeps has_none flags before tables n s t) where
  -- a shard that is not flagged
  pub made_past : is_flagged flags n ≡ false → HasMade view keeps has_none flags before tables (n + 1) s t
  made_past unflagged = record {
    each = made.each;
    told = λ k below small_k flagged. elim (cases_eq k n) as (λ _. TellsTable view keeps has_none k (is_flagged tables k) s t) [
      | inl same ↦ absurd (let e : true ≡ false = sym flagged ∙ ap (is_flagged flags) same ∙ unflagged in cc)
      | inr other ↦ made.told k (omega arith) small_k flagged
    ];
    others = made.others;
    sees = made.sees;
    taken = made.taken;
    calls = record {
      count = made.calls.count;
      row = made.calls.row;
      left = let first = count_unset (is_flagged flags) n small unflagged in
          let left = made.calls.left in omega arith;
    };
    exact = made.exact;
    done = made.done;
    answered = made.answered;
    roots = made.roots;
    kept = made.kept;
  }

  -- one that is, whose table was tried
  module _ (u : S) (row : (x y z : S) → keeps x y → keeps y z → keeps x z) (seat : IsSeat (view t)) (flagged : is_flagged flags n ≡ true)
      (tried : HasTried view keeps n t u) where
    pub answered_on : (image : Image) (rs : List (Request × Reply)) → HasAnswered image rs (view s) → HasAnswered image rs (view u)
    answered_on image rs has = stays_on image rs (view t) (view u) n (λ m. m) small seat (made.answered image rs has) tried.change tried.maps

    pub called_on : HasCalled flags (n + 1) (view s) (view u)
    called_on = record {
      count = made.calls.count + 1;
      row = row_more (512 * made.calls.count + 512) (made.calls.count + 1) (made.calls.count + 1) (512 * (made.calls.count + 1))
          (made.calls.count + 1) (made.calls.count + 1) (view s) (view u)
          (omega arith) (omega arith) (omega arith)
          (row_then (512 * made.calls.count) made.calls.count made.calls.count 512 1 (span_of table_bytes) (view s) (view t)
          (view u) made.calls.row tried.calls);
      left = let first = count_set (is_flagged flags) n small flagged in
          let left = made.calls.left in omega arith;
    }

    pub calls_most : IsRow (512 * flag_count flags) (flag_count flags) (flag_count flags) (view s) (view u)
    calls_most =
        let calls = called_on in
        let few : calls.count ≤ flag_count flags = let left = calls.left in omega arith in
        row_more (512 * calls.count) calls.count calls.count (512 * flag_count flags) (flag_count flags) (flag_count flags) (view s) (view u)
        (omega arith) few few calls.row

    pub roots_on : (view u).roots ≡ (view s).roots
    roots_on = tried.change.others.roots ∙ made.roots

    pub kept_on : keeps s u
    kept_on = row s t u made.kept tried.kept

    -- the flagged shards that loads saw no table of at first
    missing : ℕ → Bool
    missing k = is_flagged flags k && not (sees_table (view s) k)

    shown : View → ℕ → Bool
    shown x k = is_flagged flags k && (sees_table x k && not (sees_table (view s) k))

    shown_missing : (x : View) (k : ℕ) → shown x k ≡ true → missing k ≡ true
    unfolding shown missing
    shown_missing x k both =
        let parts = and_parts (is_flagged flags k) (sees_table x k && not (sees_table (view s) k)) both in
        and_from (is_flagged flags k) (not (sees_table (view s) k)) parts.0 (and_parts (sees_table x k) (not (sees_table (view s) k)) parts.1).1

    -- where the root was null it was so at first
    null_first : WasNull (view t) n → not (sees_table (view s) n) ≡ true
    null_first null = by_case (sees_table (view s) n) refl where
      by_case : (b : Bool) → sees_table (view s) n ≡ b → not (sees_table (view s) n) ≡ true
      by_case true is = absurd (let e : true ≡ false = sym (made.sees n small flagged is) ∙ null_unset ((view t).volatile (root_word n)) null in cc)
      by_case false is = ap not is

    hidden : WasNull (view t) n → shown (view t) n ≡ false
    unfolding shown
    hidden null = and_right (is_flagged flags n) (sees_table (view t) n && not (sees_table (view s) n))
        (ap (λ b. b && not (sees_table (view s) n)) (null_unset ((view t).volatile (root_word n)) null))

    numbered : Contains (words_from (λ i. i) 0 shards) n
    numbered = in_numbers 0 shards n (omega arith) (omega arith)

    pub most_on : (view u).taken ≤ (view s).taken + tables_missing (is_flagged flags) (view s)
    unfolding shown missing
    most_on = by_case tried.takes where
      by_case : TableTakes n (view t) (view u) → (view u).taken ≤ (view s).taken + tables_missing (is_flagged flags) (view s)
      by_case (for_none none) =
          let few = made_missing flags (view s) (view t) in
          let was = made.taken in omega arith
      by_case (for_table null few) =
          let gain = count_gains (shown (view t)) missing (words_from (λ i. i) 0 shards) n numbered (hidden null)
          (and_from (is_flagged flags n) (not (sees_table (view s) n)) flagged (null_first null)) (λ k h both. shown_missing (view t) k both) in
          let was = made.taken in omega arith

    -- what loads saw shown they see
    shown_on : (k : ℕ) → Contains (words_from (λ i. i) 0 shards) k → shown (view t) k ≡ true → shown (view u) k ≡ true
    unfolding shown
    shown_on k h both =
        let parts = and_parts (is_flagged flags k) (sees_table (view t) k && not (sees_table (view s) k)) both in
        let more = and_parts (sees_table (view t) k) (not (sees_table (view s) k)) parts.1 in
        let below = numbers_below 0 shards k h in
        and_from (is_flagged flags k) (sees_table (view u) k && not (sees_table (view s) k)) parts.0
        (and_from (sees_table (view u) k) (not (sees_table (view s) k))
        (sees_on (view t) (view u) n k (λ m. m) tried.change (made.each k (omega arith) parts.0) more.0) more.1)

    module _ (has : Bool) (tells : TellsTable view keeps has_none n has t u) (none : has ≡ false → (view u).taken ≤ (view t).taken) where
      taken_on : (view u).taken ≤ (view s).taken + tables_made (is_flagged flags) (view s) (view u)
      unfolding shown
      taken_on = by_case has refl tells tried.takes where
        rises : tables_made (is_flagged flags) (view s) (view t) ≤ tables_made (is_flagged flags) (view s) (view u)
        rises = count_rises (shown (view t)) (shown (view u)) (words_from (λ i. i) 0 shards) shown_on

        by_case : (b : Bool) → has ≡ b → TellsTable view keeps has_none n b t u → TableTakes n (view t) (view u)
            → (view u).taken ≤ (view s).taken + tables_made (is_flagged flags) (view s) (view u)
        by_case false is told takes = let few = none is in let more = rises in let was = made.taken in omega arith
        by_case true is told (for_none same) = let more = rises in let was = made.taken in omega arith
        by_case true is told (for_table null few) =
            let gain = count_gains (shown (view t)) (shown (view u)) (words_from (λ i. i) 0 shards) n numbered (hidden null)
            (and_from (is_flagged flags n) (sees_table (view u) n && not (sees_table (view s) n)) flagged
            (and_from (sees_table (view u) n) (not (sees_table (view s) n))
            (value_set ((view u).volatile (root_word n)) told.value told.seen told.some) (null_first null))) shown_on in
            let was = made.taken in omega arith

      pub made_on : (now : List Bool) → is_flagged now n ≡ has → ((k : ℕ) → k ≢ n → is_flagged now k ≡ is_flagged tables k) → Runs (view t) (view u)
          → (ReachesAllHeld (view t) → ReachesAllHeld (view u)) → HasMade view keeps has_none flags before now (n + 1) s u
      made_on now is_has same runs exact = record {
        each = λ k small_k flagged_k. shard_on (view t) (view u) n (λ m. m) seat small tried.change (λ m. m) k
            (made.each k small_k flagged_k) tried.maps;
        told = λ k below small_k flagged_k. elim (cases_eq k n) as (λ _. TellsTable view keeps has_none k (is_flagged now k) s u) [
          | inl is ↦ subst (λ j. TellsTable view keeps has_none j (is_flagged now j) s u) (sym is)
              (subst (λ b. TellsTable view keeps has_none n b s u) (sym is_has)
              (tells_from view keeps has_none row n has s t u made.kept (made.sees n small flagged) tells))
          | inr other ↦ subst (λ b. TellsTable view keeps has_none k b s u) (sym (same k other))
              (tells_on view keeps has_none row n k (is_flagged tables k) s t u other (made.each k small_k flagged_k) tried
              (made.told k (omega arith) small_k flagged_k))
        ];
        others = λ k unflagged. same k (λ e. let clash : true ≡ false = sym flagged ∙ ap (is_flagged flags) (sym e) ∙ unflagged in absurd (cc))
            ∙ made.others k unflagged;
        sees = λ k small_k flagged_k sees. sees_on (view t) (view u) n k (λ m. m) tried.change (made.each k small_k flagged_k)
            (made.sees k small_k flagged_k sees);
        taken = taken_on;
        calls = called_on;
        exact = λ all. exact (made.exact all);
        done = inr (elim made.done as (λ _. Runs (view s) (view u)) [
          | inl same ↦ subst (λ x. Runs x (view u)) same runs
          | inr ran ↦ runs_then
              (view s) (view t) (view u) ran runs
        ]);
        answered = answered_on;
        roots = roots_on;
        kept = kept_on;
      }
