-- Worked examples by computation: what is sent and what comes, what moves are told, which tables were made and why one
-- was not, and how far values are brought in.
use Rattle.std.specs.Prelude.{◌≡◌, ℕ, List, [], ◌∷◌, ◌++◌, Option, None, Some, Bool, true, false, slice_index, cond, nat_eq, ⊤, refl}
use Rattle.std.proofs.Common.{arith, ap, subst, sym, inl, inr, ◌∙◌}
use Rattle.std.specs.List.Sorted.{IsPermutation}
use Rattle.std.proofs.lemmas.List.Sorted.{IsPermutation-refl, sum_by-IsPermutation}
use Rattle.heap_model.specs.declared.block.Block.{Block}
use Rattle.heap_model.specs.Geometry.{root_word}
use Rattle.heap_model.proofs.MemberLemmas.{in_head, in_none, head_or_rest}
use Rattle.heap_seat.specs.Examples.{look_with, seat_with}
use Rattle.heap_seat.specs.View.{View}
use Rattle.dict_model.specs.Nodes.{table_bytes}
use Rattle.dict_model.specs.Requests.{put, done, full, none}
use Rattle.dict_requests.specs.MovingExamples.{is_node, node, seeing, stored}
use Rattle.dict_requests.specs.Moving.{IsNodeOf}
use Rattle.shard_moves.specs.declared.away.MoveAnswer.TheVariants.{Done, Full, Missing}
use Rattle.run_model.specs.Sending.{Sent, puts_of}
use Rattle.run_model.specs.Spending.{tables_made, tables_missing}
use Rattle.shard_moves.specs.Arriving.{HaveTables, ListAllKeys, ArrivesNext, HasArrived, StopsAtFirst, StopsInOne}
use Rattle.shard_moves.specs.Inboxes.{IsLeft, TakesFirst, TakesNext}
use Rattle.shard_moves.specs.Moves.{reply_of, SendsFor}
use Rattle.shard_moves.specs.Outboxes.{AddsNode}
use Rattle.shard_moves.specs.Tables.{flag_count, HadNoTableRoom, is_flagged, TellsTable, WasRefusedTable}

-- request 3 sends "ab" to key 9
abbrev third : Sent
third = record { number = 3; key = 9; value = 97 ∷ 98 ∷ [] }

-- request 5 sends an empty value to key 1
abbrev fifth : Sent
fifth = record { number = 5; key = 1; value = [] }

-- the number of the first of a list
abbrev first_number : List Sent → ℕ
first_number [] = 0
first_number (s ∷ rest) = s.number

-- the key of the first
abbrev first_key : List Sent → ℕ
first_key [] = 0
first_key (s ∷ rest) = s.key

-- the number of the second
abbrev second_number : List Sent → ℕ
second_number [] = 0
second_number (s ∷ rest) = first_number rest

-- as requests they are puts that are done
two_puts : puts_of (third ∷ fifth ∷ []) ≡ (put 9 (97 ∷ 98 ∷ []), done) ∷ (put 1 [], done) ∷ []
two_puts = refl

-- a node of "ab" has that value alone
one_value : (value : List ℕ) → IsNodeOf (seeing 0 0 0 0) node value → value ≡ 97 ∷ 98 ∷ []
one_value value is = sym (is.each (stored 0 0) (λ word inside. inl refl)) ∙ is_node.0.each (stored 0 0) (λ word inside. inl refl)

-- it is sent besides what was sent before, in whatever order; not with another key or number, and not as nothing
sends_node : AddsNode 3 9 node (seeing 0 0 0 0) (fifth ∷ []) (fifth ∷ third ∷ []) × AddsNode 3 9 node (seeing 0 0 0 0) (fifth ∷ []) (third ∷ fifth ∷ [])
sends_node = (
  record {
    added = λ value is. subst (λ v. IsPermutation (record { number = 3; key = 9; value = v } ∷ fifth ∷ []) (fifth ∷ third ∷ []))
        (sym (one_value value is)) (record { moves = (0, 1) ∷ []; below = (omega arith, omega arith, tt); is = refl });
  },
  record {
    added = λ value is. subst (λ v. IsPermutation (record { number = 3; key = 9; value = v } ∷ fifth ∷ []) (third ∷ fifth ∷ []))
        (sym (one_value value is)) (IsPermutation-refl (third ∷ fifth ∷ []));
  },
)

sends_not : (AddsNode 3 9 node (seeing 0 0 0 0) (fifth ∷ []) (third ∷ []) → ⊥) × (AddsNode 3 8 node (seeing 0 0 0 0) [] (third ∷ []) → ⊥)
    × (AddsNode 4 9 node (seeing 0 0 0 0) [] (third ∷ []) → ⊥) × (AddsNode 3 9 node (seeing 0 0 0 0) (fifth ∷ []) (fifth ∷ []) → ⊥)
sends_not = (
  λ adds. let e = sum_by-IsPermutation (λ s. s.number) _ _ (adds.added (97 ∷ 98 ∷ []) is_node.0) in let n : 3 ≡ 8 = e in omega (arith, n),
  λ adds. let e = sum_by-IsPermutation (λ s. s.key) _ _ (adds.added (97 ∷ 98 ∷ []) is_node.0) in let n : 9 ≡ 8 = e in omega (arith, n),
  λ adds. let e = sum_by-IsPermutation (λ s. s.number) _ _ (adds.added (97 ∷ 98 ∷ []) is_node.0) in let n : 3 ≡ 4 = e in omega (arith, n),
  λ adds. let e = sum_by-IsPermutation (λ s. s.number) _ _ (adds.added (97 ∷ 98 ∷ []) is_node.0) in let n : 5 ≡ 8 = e in omega (arith, n),
)

-- what a move is told, as a reply
replies : reply_of Done ∷ reply_of Full ∷ reply_of Missing ∷ [] ≡ done ∷ full ∷ none ∷ []
replies = refl

-- a move that finds no table, or no key, sends nothing; and one that is told done sends a value
sends_nothing : (v : View) → SendsFor 3 5 9 Full (fifth ∷ []) (fifth ∷ []) v × SendsFor 3 5 9 Missing [] [] v
sends_nothing v = (refl, refl)

sends_wrong : (v : View) → (SendsFor 3 5 9 Full [] (third ∷ []) v → ⊥) × (SendsFor 3 5 9 Missing [] (third ∷ []) v → ⊥)
    × (SendsFor 3 5 9 Done [] [] v → ⊥) × (SendsFor 3 5 8 Done [] (third ∷ []) v → ⊥)
sends_wrong v = (
  λ sends. let e : third ∷ [] ≡ [] = sends in absurd (cc),
  λ sends. let e : third ∷ [] ≡ [] = sends in absurd (cc),
  λ sends. let e = sum_by-IsPermutation (λ s. s.key) _ _ sends.2 in let n : 0 ≡ 9 = e in omega (arith, n),
  λ sends. let e = sum_by-IsPermutation (λ s. s.key) _ _ sends.2 in let n : 9 ≡ 8 = e in omega (arith, n),
)

-- something is left, or nothing
something_left : IsLeft (third ∷ fifth ∷ []) × (IsLeft [] → ⊥)
something_left = (
  record { first = third; others = fifth ∷ []; left_are = refl },
  λ left. let e : [] ≡ left.first ∷ left.others =
      left.left_are in absurd (cc),
)

-- nothing comes where nothing is left, and else the first comes: not the last, and not with another key
nothing_comes : (v : View) → TakesNext (λ (w : View). w) None [] [] v v × (TakesNext (λ (w : View). w) None (third ∷ []) [] v v → ⊥)
nothing_comes v = ((refl, refl, refl), λ none. let e : third ∷ [] ≡ [] = none.0 in absurd (cc))

comes_not : (b : Block) (v w : View) → (TakesFirst 1 b (third ∷ fifth ∷ []) (third ∷ []) v w → ⊥) × (TakesFirst 8 b (third ∷ []) [] v w → ⊥)
    × (TakesFirst 9 b [] [] v w → ⊥)
comes_not b v w = (
  λ takes. let e : third ∷ fifth ∷ [] ≡ takes.first ∷ third ∷ [] = takes.left_are in let n : 5 ≡ 3 = ap second_number e in omega arith,
  λ takes. let e : 9 ≡ takes.first.key = ap first_key takes.left_are in let k = takes.key_is in omega arith,
  λ takes. let e : [] ≡ takes.first ∷ [] = takes.left_are in absurd (cc),
)

-- flags of shards: the first and the third, and none behind the list
flags : is_flagged (true ∷ false ∷ true ∷ []) 0 ∷ is_flagged (true ∷ false ∷ true ∷ []) 1 ∷ is_flagged
    (true ∷ false ∷ true ∷ []) 7 ∷ [] ≡ true ∷ false ∷ false ∷ []
flags = refl

two_flags : flag_count (true ∷ false ∷ true ∷ []) ≡ 2
two_flags = refl

-- what loads see of a root, by its place in a list
abbrev value_at : ℕ → List ℕ → Option ℕ
value_at i values = Some (slice_index values i)

-- shards 0 and 2 are wanted; shard 0 has a table at first, shard 2 gets one, and so does shard 3, which isn't wanted
abbrev tables_of : List ℕ → View
tables_of values = record (seat_with (look_with 0 0) 7) {
  volatile =
      λ word. cond (nat_eq word 40) (value_at 0 values) (cond (nat_eq word 42) (value_at 1 values) (cond (nat_eq word 43) (value_at 2 values) None));
}

made_one : tables_made (is_flagged (true ∷ false ∷ true ∷ [])) (tables_of (9 ∷ 0 ∷ 0 ∷ [])) (tables_of (9 ∷ 9 ∷ 9 ∷ [])) ≡ 1
made_one = refl

missing_one : tables_missing (is_flagged (true ∷ false ∷ true ∷ [])) (tables_of (9 ∷ 0 ∷ 0 ∷ [])) ≡ 1
missing_one = refl

-- of two superblocks both were taken when the mark was last read, and the seat took none since; not where one was left, nor where it took one since
no_room : HadNoTableRoom (seat_with (look_with 2 1) 7) × (HadNoTableRoom (seat_with (look_with 1 1) 7) → ⊥)
    × (HadNoTableRoom (seat_with (look_with 2 0) 7) → ⊥)
no_room = (record { past = omega arith; now = refl }, λ had. let past = had.past in omega arith, λ had. let now : 0 ≡ 1 = had.now in omega arith)

-- of the same superblocks, where loads see this in the roots of three shards
abbrev full_with : List ℕ → View
full_with values = record (seat_with (look_with 2 1) 7) { volatile = (tables_of values).volatile }

-- a shard without a table is told so of such a moment, where the heap turned down a table's bytes
abbrev refused_from : ℕ → View → View → Type 0
refused_from shard v w = WasRefusedTable (λ (x : View). x) (λ _ _. ⊤) (λ _ _ bytes looks. bytes ≡ table_bytes) shard v w

refused : refused_from 0 (full_with (0 ∷ 9 ∷ 0 ∷ [])) (full_with (0 ∷ 9 ∷ 0 ∷ []))
refused = record {
  at = full_with (0 ∷ 9 ∷ 0 ∷ []);
  before = tt;
  behind = tt;
  null = refl;
  knows = omega arith;
  until = omega arith;
  room = record { past = omega arith; now = refl };
  looks = record { class_head = 0; free_head = 0; used = 2 };
  none = record { before = full_with []; after = full_with []; kept_before = tt; none = refl; kept_after = tt };
}

-- not where the heap turned down another number of bytes; nor where the shard had a table at that moment
refused_not : (WasRefusedTable (λ (x : View). x) (λ _ _. ⊤) (λ _ _ bytes looks. bytes ≡ 16) 0 (full_with []) (full_with []) → ⊥)
    × (WasRefusedTable (λ (x : View). x) (λ _ x. full_with (9 ∷ 9 ∷ 9 ∷ []) ≡ x) (λ _ _ _ _. ⊤) 0 (full_with []) (full_with []) → ⊥)
refused_not = (
  λ was. let e : table_bytes ≡ 16 = was.none.none in omega arith,
  λ was. let e : ◌≡◌ {A = Option ℕ} (Some 9) (Some 0) = ap (λ (v : View). v.volatile (root_word 0)) was.before ∙ was.null in
      let n : ◌≡◌ {A = ℕ} 9 0 = cc in omega (arith, n),
)

-- nor is it told to have none where it got one meanwhile or had one before, or to have one where its root is null
abbrev tells : Bool → View → View → Type 0
tells has v w = TellsTable (λ (x : View). x) (λ _ _. ⊤) (λ _ _ _ _. ⊤) 0 has v w

tells_not : (tells false (full_with (0 ∷ 0 ∷ 0 ∷ [])) (full_with (9 ∷ 0 ∷ 0 ∷ [])) → ⊥)
    × (tells false (full_with (9 ∷ 0 ∷ 0 ∷ [])) (full_with (0 ∷ 0 ∷ 0 ∷ [])) → ⊥)
    × (tells true (full_with (0 ∷ 0 ∷ 0 ∷ [])) (full_with (0 ∷ 0 ∷ 0 ∷ [])) → ⊥)
tells_not = (
  λ none. let e : ◌≡◌ {A = Option ℕ} (Some 9) (Some 0) = none.1 in let n : ◌≡◌ {A = ℕ} 9 0 = cc in omega (arith, n),
  λ none. let n : ◌≡◌ {A = ℕ} 9 0 = none.0 9 refl in omega (arith, n),
  λ set. let e : Some 0 ≡ Some set.value = set.seen in let z : 0 ≡ set.value = cc in set.some (sym z),
)

has_one : tells true (full_with []) (full_with (9 ∷ 0 ∷ 0 ∷ []))
has_one = record { value = 9; seen = refl; some = λ e. omega (arith, e) }

-- nothing that is left needs no table, and no keys
nothing_needed : (v : View) → HaveTables [] v × ListAllKeys [] v []
nothing_needed v = (
  record { shard = λ s h. absurd (in_none s h); table = λ s h. absurd (in_none s h) },
  record { there = λ s h. absurd (in_none s h); coming = λ s h. absurd (in_none s h) },
)

-- a key that arrives is to be among the keys
not_listed : (v : View) → ListAllKeys (third ∷ []) v (1 ∷ []) → ⊥
not_listed v lists = elim (head_or_rest 1 9 [] (lists.coming third (in_head third []))) as
    (λ _. ⊥) [ inl same ↦ omega (arith, same) | inr rest ↦ in_none 9 rest ]

none_stops : (xs : List Sent) (x : Sent) (ys : List Sent) → [] ≡ xs ++ (x ∷ ys) → ⊥
none_stops [] x ys e = absurd (cc)
none_stops (z ∷ xs) x ys e = absurd (cc)

-- none is brought in where none is left; the last is not brought in before the first; and no stop is at one of none
brought_not : (v w : View) → ArrivesNext (λ (x : View). x) false [] [] v v × (ArrivesNext (λ (x : View). x) false (third ∷ []) [] v w → ⊥)
    × (HasArrived (third ∷ fifth ∷ []) (third ∷ []) v w → ⊥)
    × (StopsAtFirst [] [] v w → ⊥) × (StopsInOne (λ (x : View). x) (λ _ _. ⊤) (λ _ _ _ _. ⊤) [] [] v w → ⊥)
brought_not v w = (
  (refl, refl, refl),
  λ none. let e : third ∷ [] ≡ [] = none.0 in absurd (cc),
  λ arrived. let e : third ∷ fifth ∷ [] ≡ arrived.first ∷ third ∷ [] = arrived.left_are in let n : 5 ≡ 3 = ap second_number e in omega arith,
  λ stops. let e : [] ≡ stops.first ∷ stops.others = stops.left_are in absurd (cc),
  λ stops. none_stops stops.brought stops.next stops.others stops.left_are,
)
