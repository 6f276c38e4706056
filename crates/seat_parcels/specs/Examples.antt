-- Worked examples by computation: what parcels bring, to whom they go, and what a box and a tray have.
use Rattle.std.specs.Prelude.{◌≡◌, ℕ, ◌+◌, List, [], ◌∷◌, All, length, Option, None, Some, take, refl}
use Rattle.std.proofs.Common.{arith, ap, inr, subst, sym, ◌∙◌}
use Rattle.std.proofs.lemmas.List.Elements.{All-cons, All-head, All-nil}
use Rattle.heap_model.specs.declared.block.Block.{Block}
use Rattle.heap_model.specs.Image.{Image, bytes_of_words, words_from}
use Rattle.dict_model.specs.Nodes.{value_in, value_words}
use Rattle.dict_requests.specs.MovingExamples.{one_of}
use Rattle.atomic_table.specs.Seated.{TableId}
use Rattle.core_model.specs.Examples.{idle}
use Rattle.heap_rule.specs.Carried.{CarrierView}
use Rattle.parcel_queue.specs.Account.{PassView, QueueView, unused}
use Rattle.seat_model.specs.CacheState.{CacheState, CacheValue}
use Rattle.seat_parcels.specs.declared.parcel.Parcel.{Parcel}
use Rattle.seat_parcels.specs.Boxes.{ArePutRightly, BoxView, HasParts, HaveParts, IsInStep, IsPostBox, goes_to, parcels_for, parcels_of, sent_by}
use Rattle.seat_parcels.specs.Going.{AcceptsAtMost, OffersAtMost}
use Rattle.seat_parcels.specs.Parcels.{IsParcelOf, carried_value, or_zero, sent_of}
use Rattle.seat_parcels.specs.Trays.{IsInStepWith}

-- a table
abbrev table : TableId
table = record { words = 0; slots = 0; views_name = 0; atom = 0; block = 0; offset = 0; slot_names = [] }

-- another table
abbrev other_table : TableId
other_table = record table { atom = 1 }

-- a block of five words, from word 1 on: a link, key 9, two bytes, the value "ab", and a word more
abbrev node : Block
node = record { first_word = 1; words = 5 }

-- what is known of the words up to its end
abbrev words : List (Option ℕ)
words = None ∷ Some 0 ∷ Some 9 ∷ Some 2 ∷ Some 25185 ∷ None ∷ []

-- a carrier that has the block, with what is known of its words durable
abbrev carrier : CarrierView
carrier = record { table = table; view = record idle { volatile = words; durable = words }; block = node }

-- one of whose words a crash may leave any value
abbrev volatile : CarrierView
volatile = record carrier { view = record idle { volatile = words } }

-- one where nothing is known of its words
abbrev unknown : CarrierView
unknown = record carrier { view = idle }

-- request 3 sends it to key 10
abbrev third : Parcel
third = record { number = 3; key = 10; carrier = carrier }

-- request 4 sends it to key 12
abbrev fourth : Parcel
fourth = record { number = 4; key = 12; carrier = carrier }

-- request 5 sends it to key 7
abbrev fifth : Parcel
fifth = record { number = 5; key = 7; carrier = carrier }

-- its value goes to the new key, not to the one in the node; of unknown words it is empty
sends_value : sent_of third ≡ record { number = 3; key = 10; value = 97 ∷ 98 ∷ [] }
sends_value = refl

sends_nothing : carried_value unknown ≡ []
sends_nothing = refl

-- what an image has in the length's word and the value's is its value
value_of : (image : Image) → image 3 ≡ 2 → image 4 ≡ 25185 → value_in image node ≡ 97 ∷ 98 ∷ []
value_of image two word = ap (λ n. take n (bytes_of_words (words_from image 4 (value_words n)))) two ∙ ap (λ w. take 2 (bytes_of_words (w ∷ []))) word

-- it is a parcel of this table's heap, whatever its number and its key are
brought : (number key : ℕ) → IsParcelOf table (record { number = number; key = key; carrier = carrier })
brought number key = record {
  at_table = refl;
  node = record {
    short = omega arith;
    fits = omega arith;
    each = λ image mixes. value_of image (one_of (mixes 3 (record { from = omega arith; until = omega arith })))
        (one_of (mixes 4 (record { from = omega arith; until = omega arith })));
  };
}

-- it is none if a crash may leave another value
not_brought : IsParcelOf table (record third { carrier = volatile }) → ⊥
not_brought is = let e : 0 ≡ 2 = ap length (is.node.each (λ word. 0) (λ word inside. inr tt)) in omega (arith, e)

zeros : or_zero None ∷ or_zero (Some 7) ∷ [] ≡ 0 ∷ 7 ∷ []
zeros = refl

-- a carrier of another table is no parcel of this one
of_another : IsParcelOf other_table third → ⊥
of_another is = let e : 0 ≡ 1 = ap (λ (t : TableId). t.atom) is.at_table in omega (arith, e)

-- keys 10, 12 and 7 are of shards 2, 4 and 7: of three workers, and of one
to_workers : goes_to 3 third ∷ goes_to 3 fourth ∷ goes_to 3 fifth ∷ goes_to 1 fifth ∷ [] ≡ 2 ∷ 1 ∷ 1 ∷ 0 ∷ []
to_workers = refl

-- of two workers, what goes to the second one
for_second : parcels_for 2 1 (fifth ∷ fourth ∷ third ∷ fifth ∷ []) ≡ fifth ∷ fifth ∷ []
for_second = refl

-- a pass with which these parcels were put
abbrev pass_with : List Parcel → PassView Parcel
pass_with parcels = record { queue = table; account = record (unused 1) { put = parcels } }

-- each to its worker, and not to the next one
put_rightly : ArePutRightly 3 0 (pass_with [] ∷ pass_with (fourth ∷ fifth ∷ []) ∷ pass_with (third ∷ []) ∷ [])
put_rightly = (
  All-nil to_first,
  (
    All-cons to_second fourth (fifth ∷ []) refl (All-cons to_second fifth [] refl (All-nil to_second)),
    (All-cons to_third third [] refl (All-nil to_third), tt),
  ),
) where
  to_first : Parcel → Type 0
  to_first x = goes_to 3 x ≡ 0

  to_second : Parcel → Type 0
  to_second x = goes_to 3 x ≡ 1

  to_third : Parcel → Type 0
  to_third x = goes_to 3 x ≡ 2

put_wrongly : ArePutRightly 3 0 (pass_with (third ∷ []) ∷ pass_with [] ∷ pass_with [] ∷ []) → ⊥
put_wrongly rightly = let e : 2 ≡ 0 = All-head (λ x. goes_to 3 x ≡ 0) third [] rightly.0 in omega (arith, e)

-- a queue of one worker
abbrev queues : List QueueView
queues = record { queue = table; room = 4 } ∷ []

-- its box with these parcels put and kept
abbrev box_with : List Parcel → List Parcel → BoxView
box_with put kept = record {
  queues = queues;
  passes = pass_with put ∷ [];
  kept = kept;
  spare = 2;
  workers = 1;
}

-- what is kept was sent too
has_all : parcels_of (box_with (fourth ∷ []) (third ∷ [])) ≡ fourth ∷ third ∷ []
has_all = refl

sent_all : sent_by (box_with (fifth ∷ []) (third ∷ []))
    ≡ record { number = 5; key = 7; value = 97 ∷ 98 ∷ [] } ∷ record { number = 3; key = 10; value = 97 ∷ 98 ∷ [] } ∷ []
sent_all = refl

-- its pass has one part, and nothing was taken with it
one_part : (put : List Parcel) → HaveParts 1 (pass_with put ∷ [])
one_part put = All-cons (HasParts 1) (pass_with put) [] (record { parts_are = refl; none_taken = refl }) (All-nil (HasParts 1))

not_two : HaveParts 2 (pass_with [] ∷ []) → ⊥
not_two have = let e : 1 ≡ 2 = (All-head (HasParts 2) (pass_with []) [] have).parts_are in omega (arith, e)

-- boxes to these queues, one of which has sent nothing; it is none to others, or without a worker, with a pass too few,
-- or with a carrier of another table
new_box : IsPostBox table queues (box_with [] [])
new_box = record {
  queues_are = refl;
  some = omega arith;
  queue_each = refl;
  pass_each = refl;
  parts = one_part [];
  rightly = (All-nil _, tt);
  kept = All-nil _;
}

sent_box : IsPostBox table queues (box_with (fourth ∷ []) (third ∷ []))
sent_box = record {
  queues_are = refl;
  some = omega arith;
  queue_each = refl;
  pass_each = refl;
  parts = one_part (fourth ∷ []);
  rightly = (All-cons to_it fourth [] refl (All-nil to_it), tt);
  kept = All-cons (IsParcelOf table) third [] (brought 3 10) (All-nil (IsParcelOf table));
} where
  to_it : Parcel → Type 0
  to_it x = goes_to 1 x ≡ 0

no_box : (IsPostBox table (record { queue = other_table; room = 4 } ∷ []) (box_with [] []) → ⊥)
    × (IsPostBox table [] (record (box_with [] []) { queues = []; passes = []; workers = 0 }) → ⊥)
    × (IsPostBox table queues (record (box_with [] []) { passes = [] }) → ⊥)
    × (IsPostBox other_table queues (box_with [] (third ∷ [])) → ⊥)
no_box = (
  λ box. let e : 0 ≡ 1 = ap first_atom box.queues_are in omega (arith, e),
  λ box. let some = box.some in omega (arith, some),
  λ box. let e : 0 ≡ 1 = box.pass_each in omega (arith, e),
  λ box. of_another (All-head (IsParcelOf other_table) third [] box.kept),
) where
  first_atom : List QueueView → ℕ
  first_atom [] = 0
  first_atom (q ∷ qs) = q.queue.atom

-- a seat that has offered nothing is not in step with a box that sent something, kept or not
out_of_step : (s : CacheState) → s.view.offers ≡ 0
    → (IsInStep table (box_with (fourth ∷ []) []) s → ⊥) × (IsInStep table (box_with [] (third ∷ [])) s → ⊥)
out_of_step s none = (
  λ step. let e : 0 ≡ 1 = sym none ∙ step.offered in omega (arith, e),
  λ step. let e : 0 ≡ 1 = sym none ∙ step.offered in omega (arith, e),
)

in_step : (s : CacheState) → s.table ≡ table → s.view.offers ≡ 2 → IsInStep table (box_with (fourth ∷ []) (third ∷ [])) s
in_step s at two = record { at_table = at; offered = two }

-- of a tray with two parcels, one that came is brought in: a seat that accepted one may accept the other, and one that accepted none may not
one_left : (s : CacheState) → s.view.accepts ≡ 0 → IsInStepWith 2 (fourth ∷ []) s → ⊥
one_left s none step = let a = step.counted in omega (arith, a, none)

one_accepted : (s : CacheState) → s.table ≡ table → s.view.accepts ≡ 1 → IsInStepWith 2 (fourth ∷ []) s
one_accepted s at one = record {
  each = subst (λ (id : TableId). All (IsParcelOf id) (fourth ∷ [])) (sym at)
      (All-cons (IsParcelOf table) fourth [] (brought 4 12) (All-nil (IsParcelOf table)));
  counted = omega (arith, one);
}

none_left : (s : CacheState) → s.view.accepts ≡ 2 → IsInStepWith 2 [] s
none_left s two = record { each = All-nil _; counted = omega (arith, two) }

-- a seat that sends accepts nothing, and one that brings in offers nothing
hands_over_not : {C : Type 0} (gives : C → ℕ → C → Type 0) (s t : CacheValue C)
    → (t.state.view.accepts ≡ s.state.view.accepts + 1 → OffersAtMost gives s t → ⊥)
    × (t.state.view.offers ≡ s.state.view.offers + 1 → AcceptsAtMost gives s t → ⊥)
hands_over_not gives s t = (
  λ more goes. let same = goes.accepts in omega (arith, more, same),
  λ more goes. let same = goes.offers in omega (arith, more, same),
)
