-- How what one call leaves and what the next one leaves go together, for callers of a seat.
use Rattle.std.proofs.Common.{◌≡◌, ◌≢◌, ℕ, ◌+◌, ◌⊎◌, List, Contains, refl, sym, ◌∙◌, subst, arith, inl, inr, None, Some, Option}
use Rattle.heap_model.specs.declared.block.Block.{Block}
use Rattle.heap_model.specs.Blocks.{IsIn}
use Rattle.heap_model.specs.Geometry.{root_word}
use Rattle.heap_seat.specs.declared.spot.Spot.{Spot}
use Rattle.heap_seat.specs.declared.spot.Spot.TheVariants.{InBlock, Root}
use Rattle.heap_seat.specs.View.{View, word_of}
use Rattle.heap_seat.specs.Words.{IsOwn, in_block, in_root, IsOwnSpot, MayBe, MayRead, MixesOwn, KeepsWord, KeepsOwn, MayHaveStored, IsDurable, KeepsPending}
use Rattle.heap_model.specs.Image.{Image}
use Rattle.heap_seat.specs.Alloc.{Adds}
use Rattle.heap_seat.specs.Free.{MayHaveFreed}
use Rattle.heap_seat.specs.Calls.{IsWrittenWith, Stores, WritesBack, Fences}
use Rattle.heap_seat.specs.Rows.{Settles}
use Rattle.std.proofs.lemmas.Bool.{cases_eq}

-- own words are the same where blocks and roots are
pub own_same : (v w : View) (word : ℕ) → w.held ≡ v.held → w.roots ≡ v.roots → IsOwn v.held v.roots word → IsOwn w.held w.roots word
own_same v w word h r own =
    let one : IsOwn w.held v.roots word = subst (λ (held : List Block). IsOwn held v.roots word) (sym h) own in
    subst (λ (roots : List ℕ). IsOwn w.held roots word) (sym r) one

-- what may be read of a known value that stays
known_stays : (known kept : Option ℕ) (value : ℕ) → ((x : ℕ) → known ≡ Some x → kept ≡ Some x) → MayBe kept value → MayBe known value
known_stays None kept value stays may = tt
known_stays (Some x) None value stays may = let e : None ≡ Some x = stays x refl in absurd (cc)
known_stays (Some x) (Some y) value stays may = let e : Some y ≡ Some x = stays x refl in cc

-- what may be read of a word that keeps its value could be read before
pub read_before : (v w : View) (word value : ℕ) → KeepsWord v w word → MayRead w word value → MayRead v word value
read_before v w word value keeps may =
    elim may [
      | inl loaded ↦ inl (known_stays (v.volatile word) (w.volatile word) value keeps.volatile loaded)
      | inr left ↦ keeps.durable value left
    ]

pub keeps_word_then : (v u w : View) (word : ℕ) → KeepsWord v u word → KeepsWord u w word → KeepsWord v w word
keeps_word_then v u w word a b =
    record {
      volatile = λ value e. b.volatile value (a.volatile value e);
      durable = λ value may. read_before v u word value a (b.durable value may);
    }

pub keeps_own_then : (v u w : View) → KeepsOwn v u → KeepsOwn u w → KeepsOwn v w
keeps_own_then v u w a b =
    record {
      held = b.held ∙ a.held;
      roots = b.roots ∙ a.roots;
      words = λ word own. keeps_word_then v u w word (a.words word own) (b.words word (own_same v u word a.held a.roots own));
    }

-- a store, and then a call that stores nothing
pub store_then : (word value : ℕ) (v u w : View) → IsOwn v.held v.roots word → MayHaveStored word value v u → KeepsOwn u w
    → MayHaveStored word value v w
store_then word value v u w owns a b =
    record {
      held = b.held ∙ a.held;
      roots = b.roots ∙ a.roots;
      others = λ other own differs. keeps_word_then v u w other (a.others other own differs) (b.words other (own_same v u other a.held a.roots own));
      stored = λ read may. a.stored read (read_before u w word read (b.words word (own_same v u word a.held a.roots owns)) may);
    }

-- a held block is held in a view that holds the same
pub held_in : (v w : View) (b : Block) → w.held ≡ v.held → Contains v.held b → Contains w.held b
held_in v w b e h = subst (λ (held : List Block). Contains held b) (sym e) h

-- own words stay own where a block is added, and those outside it where one is freed
pub own_added : (b : Block) (v w : View) (word : ℕ) → Adds b v w → IsOwn v.held v.roots word → IsOwn w.held w.roots word
own_added b v w _ adds (in_block a word holds inside) = in_block a word (adds.keeps a holds) inside
own_added b v w _ adds (in_root i word has at) = in_root i word (subst (λ (roots : List ℕ). Contains roots i) (sym adds.roots) has) at

pub own_left : (b : Block) (v w : View) (word : ℕ) → MayHaveFreed b v w → (IsIn b word → ⊥) → IsOwn v.held v.roots word → IsOwn w.held w.roots word
own_left b v w _ frees outside (in_block a word holds inside) =
    in_block a word (frees.keeps a holds (λ same. outside (subst (λ (x : Block). IsIn x word) same inside))) inside
own_left b v w _ frees outside (in_root i word has at) = in_root i word (subst (λ (roots : List ℕ). Contains roots i) (sym frees.roots) has) at

-- so do spots
pub spot_same : (v w : View) (s : Spot) → w.held ≡ v.held → w.roots ≡ v.roots → IsOwnSpot v s → IsOwnSpot w s
spot_same v w (InBlock b index) held roots own = (held_in v w b held own.0, own.1)
spot_same v w (Root i) held roots own = subst (λ (xs : List ℕ). Contains xs i) (sym roots) own

pub spot_added : (b : Block) (v w : View) (s : Spot) → Adds b v w → IsOwnSpot v s → IsOwnSpot w s
spot_added b v w (InBlock a index) adds own = (adds.keeps a own.0, own.1)
spot_added b v w (Root i) adds own = subst (λ (roots : List ℕ). Contains roots i) (sym adds.roots) own

-- the word of a spot is own
pub own_spot : (v : View) (s : Spot) → IsOwnSpot v s → IsOwn v.held v.roots (word_of s)
own_spot v (InBlock b index) h = in_block b (b.first_word + index) h.0 (record { from = omega arith; until = omega (arith, h.1) })
own_spot v (Root i) h = in_root i (root_word i) h refl

-- a write-back of a spot makes its word pending
pub spot_written : (v : View) (s : Spot) → IsOwnSpot v s → IsWrittenWith s (word_of s)
spot_written v (InBlock b index) h = (record { from = omega arith; until = omega (arith, h.1) }, refl)
spot_written v (Root i) h = refl

-- what loads see stays
pub seen_then : (v w : View) (word value : ℕ) → IsOwn v.held v.roots word → KeepsOwn v w → v.volatile word ≡ Some value → w.volatile word ≡ Some value
seen_then v w word value owns keeps seen = (keeps.words word owns).volatile value seen

-- no two numbers are one
two_numbers : (x : ℕ) → 0 ≡ x → 1 ≡ x → ⊥
two_numbers x a b = omega arith

-- a word with one value, whatever is read, is known
one_value : (known : Option ℕ) (x : ℕ) → ((value : ℕ) → MayBe known value → value ≡ x) → known ≡ Some x
one_value None x all = absurd (two_numbers x (all 0 tt) (all 1 tt))
one_value (Some y) x all = let e = all y refl in cc

-- what may be read of a word that is known
pub may_be_known : (known : Option ℕ) (x value : ℕ) → known ≡ Some x → MayBe known value → value ≡ x
may_be_known None x value e may = absurd (cc)
may_be_known (Some y) x value e may = let s : y ≡ x = cc in may ∙ s

-- a durable value that isn't stored to stays durable
pub stays_durable : (v w : View) (word x : ℕ) → KeepsWord v w word → v.volatile word ≡ Some x → v.durable word ≡ Some x → w.durable word ≡ Some x
stays_durable v w word x keeps seen left =
    one_value (w.durable word) x
    (λ value may.
    elim (keeps.durable value may) [
      | inl m ↦ may_be_known (v.volatile word) x value seen m
      | inr m ↦ may_be_known (v.durable word) x value left m
    ])

-- a block that is held isn't one that isn't
pub not_new : (v : View) (a b : Block) → Contains v.held a → (Contains v.held b → ⊥) → a ≢ b
not_new v a b has new e = new (subst (λ (x : Block). Contains v.held x) e has)

-- a store that is written back and fenced settles its own word, and what was pending before it
pub publish_settles : (s : Spot) (value : ℕ) (v u t w : View) → IsOwnSpot v s → MayHaveStored (word_of s) value v u
    → Stores (word_of s) value v u → KeepsOwn u t → WritesBack s u t
    → Fences t w → Settles v w
publish_settles s value v u t w at may stored keeps written fenced = record {
  each = λ word own pending. fenced.durable word
      (own_same u t word keeps.held keeps.roots (own_same v u word may.held may.roots own))
      (elim (cases_eq word (word_of s)) as (λ _. Contains t.pending word) [
        | inl same ↦ written.line word (subst (IsWrittenWith s) (sym same) (spot_written v s at))
        | inr other ↦ written.pending word (stored.pending word other pending)
      ]);
}

-- a word that is durable as loads see it stays so, where it isn't stored to
pub durable_then : (v w : View) (word : ℕ) → KeepsWord v w word → IsDurable v word → IsDurable w word
durable_then v w word keeps durable = record {
  value = durable.value;
  seen = keeps.volatile durable.value durable.seen;
  left = stays_durable v w word durable.value keeps durable.seen durable.left;
}

-- a pending write-back over two calls
pub pending_then : (v u w : View) (word : ℕ) → KeepsPending v u word → KeepsWord u w word → KeepsPending u w word → KeepsPending v w word
pending_then v u w word a keeps b = λ was. elim (a was) as (λ _. Contains w.pending word ⊎ IsDurable w word) [
  | inl still ↦ b still
  | inr durable ↦ inr (durable_then u w word keeps durable)
]

-- what is durable as loads see it has that value in every image
pub durable_in : (v : View) (word value : ℕ) (image : Image) → IsOwn v.held v.roots word → v.volatile word ≡ Some value
    → v.durable word ≡ Some value → MixesOwn v image → image word ≡ value
durable_in v word value image own seen left mixes =
    elim (mixes.each word own) as (λ _. image word ≡ value) [
      | inl may ↦ may_be_known (v.volatile word) value (image word) seen may
      | inr may ↦ may_be_known (v.durable word) value (image word) left may
    ]
