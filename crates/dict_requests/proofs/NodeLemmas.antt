-- How the stores to a node go together.
use Rattle.std.proofs.Common.{◌≡◌, ◌≢◌, ℕ, ◌+◌, ◌*◌, ◌<◌, ◌≤◌, inl, inr, List, length, Contains, refl, subst, sym, ◌∙◌, arith}
use Rattle.std.proofs.lemmas.Bool.{cases_eq}
use Rattle.heap_model.specs.declared.block.Block.{Block}
use Rattle.heap_model.specs.Image.{image_of_bytes}
use Rattle.heap_model.specs.Blocks.{IsIn}
use Rattle.heap_seat.specs.declared.spot.Spot.TheVariants.{InBlock}
use Rattle.heap_seat.specs.View.{View}
use Rattle.heap_seat.specs.Words.{IsOwn, IsOwnSpot, in_block, KeepsOwn, MayHaveStored}
use Rattle.heap_seat.specs.Calls.{Stores, WritesBack, Fences, SameRefusals}
use Rattle.heap_seat.specs.Rows.{IsRow}
use Rattle.heap_seat.proofs.CallerLemmas.{own_same, keeps_word_then, spot_written}
use Rattle.heap_seat.proofs.RowLemmas.{row_none, row_then, row_more, runs_then, same_refusals_then}
use Rattle.dict_model.specs.Nodes.{value_words}
use Rattle.dict_requests.specs.Trails.{IsDurableAt, IsSettling}
use Rattle.dict_requests.specs.Tables.{IsClearing}
use Rattle.dict_requests.specs.Nodes.{StoresWithin, KeepsPendingBut, Writes, WritesValue, WritesNode, WritesHead, IsWriting}
use Rattle.dict_requests.proofs.GrownLemmas.{keeps_none}
use Rattle.dict_requests.proofs.TrailLemmas.{settles, settling_stays}

-- a store, then its write-back
pub writes : (b : Block) (index value : ℕ) (v u w : View) → IsOwnSpot v (InBlock b index) → MayHaveStored (b.first_word + index) value v u
    → Stores (b.first_word + index) value v u
    → KeepsOwn u w → WritesBack (InBlock b index) u w → Writes (b.first_word + index) value v w
writes b index value v u w own may stored keeps written =
    let word = b.first_word + index in
    let own_v : IsOwn v.held v.roots word = in_block b word own.0 (record { from = omega arith; until = let below = own.1 in omega arith }) in
    let own_u = own_same v u word may.held may.roots own_v in
    record {
      runs = runs_then v u w stored.runs written.runs;
      pending = λ other differs h. written.pending other (stored.pending other differs h);
      settling = record {
        seen = (keeps.words word own_u).volatile value stored.seen;
        coming = inl (written.line word (spot_written u (InBlock b index) (subst (λ (bs : List Block). Contains bs b) (sym may.held) own.0, own.1)));
      };
    }

pub within_none : (b : Block) (v : View) → StoresWithin b 0 v v
within_none b v = record {
  held = refl;
  roots = refl;
  outside = λ word own out. keeps_none v word;
  calls = row_none v;
  refusals = record { count = refl; bytes = refl; looks = refl };
}

pub within_then : (b : Block) (m n k : ℕ) (v u w : View) → m + n ≤ k → StoresWithin b m v u → StoresWithin b n u w → StoresWithin b k v w
within_then b m n k v u w few p q = record {
  held = q.held ∙ p.held;
  roots = q.roots ∙ p.roots;
  outside = λ word own out. keeps_word_then v u w word (p.outside word own out) (q.outside word (own_same v u word p.held p.roots own) out);
  calls = row_more (m + n) 0 0 k 0 0 v w few (omega arith) (omega arith) (row_then m 0 0 n 0 0 v u w p.calls q.calls);
  refusals = same_refusals_then v u w p.refusals q.refusals;
}

-- a word of the block that may be stored to
pub within_word : (b : Block) (word value : ℕ) (v w : View) → IsIn b word → MayHaveStored word value v w → IsRow 2 0 0 v w → SameRefusals v w
    → StoresWithin b 2 v w
within_word b word value v w inside may row refusals = record {
  held = may.held;
  roots = may.roots;
  outside = λ other own out. may.others other own (λ e. out (subst (IsIn b) (sym e) inside));
  calls = row;
  refusals = refusals;
}

pub pending_word : (b : Block) (word value : ℕ) (v w : View) → IsIn b word → Writes word value v w → KeepsPendingBut b v w
pending_word b word value v w inside writes = record {
  runs = writes.runs;
  pending = λ other out h. writes.pending other (λ e. out (subst (IsIn b) (sym e) inside)) h;
}

pub pending_then : (b : Block) (v u w : View) → KeepsPendingBut b v u → KeepsPendingBut b u w → KeepsPendingBut b v w
pending_then b v u w p q = record { runs = runs_then v u w p.runs q.runs; pending = λ word out h. q.pending word out (p.pending word out h) }

-- what was settling before another word was written is so still
pub settling_over : (v w : View) (word value other stored : ℕ) → word ≢ other → IsOwn v.held v.roots word → MayHaveStored other stored v w
    → Writes other stored v w → IsSettling v word value → IsSettling w word value
settling_over v w word value other stored differs own may writes settling =
    settling_stays v w word value (may.others word own differs) (λ h. inl (writes.pending word differs h)) settling

-- one more word of a value
module _ (b : Block) (value : List ℕ) (count : ℕ) (v u w : View) (held : Contains u.held b) (inside : 3 + count < b.words)
    (may : MayHaveStored (b.first_word + (3 + count)) (image_of_bytes value count) u w) where
  is_in : IsIn b (b.first_word + (3 + count))
  is_in = record { from = omega arith; until = omega arith }

  pub within_more : (m k : ℕ) → m + 2 ≤ k → StoresWithin b m v u → IsRow 2 0 0 u w → SameRefusals u w → StoresWithin b k v w
  within_more m k few before row refusals =
      within_then b m 2 k v u w few before (within_word b (b.first_word + (3 + count)) (image_of_bytes value count) u w is_in may row refusals)

  pub writing_more : IsWriting b value count v u → Writes (b.first_word + (3 + count)) (image_of_bytes value count) u w → IsRow 2 0 0 u w
      → SameRefusals u w
      → IsWriting b value (count + 1) v w
  writing_more writing write row refusals = record {
    within = within_more (2 * count) (2 * (count + 1)) (omega arith) writing.within row refusals;
    done = inr (elim writing.done as (λ _. KeepsPendingBut b v w) [
      | inl same ↦ subst (λ (s : View). KeepsPendingBut b s w) same now
      | inr before ↦ pending_then b v u w before now
    ]);
    words = λ i below. elim (cases_eq i count) as (λ _. IsSettling w (b.first_word + (3 + i)) (image_of_bytes value i)) [
      | inl last ↦ subst (λ j. IsSettling w (b.first_word + (3 + j)) (image_of_bytes value j)) (sym last) write.settling
      | inr other ↦
          let less : i < count = omega arith in
          settling_over u w (b.first_word + (3 + i)) (image_of_bytes value i) (b.first_word + (3 + count)) (image_of_bytes value count)
          (λ e. other (omega arith))
          (in_block b (b.first_word + (3 + i)) held (record { from = omega arith; until = omega arith })) may write (writing.words i less)
    ];
  } where
    now : KeepsPendingBut b u w
    now = pending_word b (b.first_word + (3 + count)) (image_of_bytes value count) u w is_in write

pub writing_start : (b : Block) (value : List ℕ) (v : View) → IsWriting b value 0 v v
writing_start b value v = record { within = within_none b v; done = inl refl; words = λ i below. absurd (omega arith) }

-- the head of a node behind its value: length, key and link, one after the other
module _ (b : Block) (key next : ℕ) (value : List ℕ) (v u t s w : View) (held : Contains v.held b) (room : 3 + value_words (length value) ≤ b.words)
    (within : StoresWithin b (2 * value_words (length value)) v u) (may_length : MayHaveStored (b.first_word + 2) (length value) u t) where
  own_at : (x : View) → x.held ≡ v.held → x.roots ≡ v.roots → (i : ℕ) → i < 3 + value_words (length value) → IsOwn x.held x.roots (b.first_word + i)
  own_at x h r i less = in_block b (b.first_word + i) (subst (λ (bs : List Block). Contains bs b) (sym h) held)
      (record { from = omega arith; until = omega arith })

  in_at : (i : ℕ) → i < 3 → IsIn b (b.first_word + i)
  in_at i less = record { from = omega arith; until = omega arith }

  pub within_length : IsRow 2 0 0 u t → SameRefusals u t → StoresWithin b (2 * value_words (length value) + 2) v t
  within_length row refusals = within_then b (2 * value_words (length value)) 2 (2 * value_words (length value) + 2) v u t (omega arith) within
      (within_word b (b.first_word + 2) (length value) u t (in_at 2 (omega arith)) may_length row refusals)

  module _ (may_key : MayHaveStored (b.first_word + 1) key t s) (within_t : StoresWithin b (2 * value_words (length value) + 2) v t) where
    pub within_key : IsRow 2 0 0 t s → SameRefusals t s → StoresWithin b (2 * value_words (length value) + 4) v s
    within_key row refusals = within_then b (2 * value_words (length value) + 2) 2 (2 * value_words (length value) + 4) v t s (omega arith) within_t
        (within_word b (b.first_word + 1) key t s (in_at 1 (omega arith)) may_key row refusals)

    module _ (may_next : MayHaveStored (b.first_word + 0) next s w) (within_s : StoresWithin b (2 * value_words (length value) + 4) v s) where
      pub within_next : IsRow 2 0 0 s w → SameRefusals s w → StoresWithin b (2 * value_words (length value) + 6) v w
      within_next row refusals = within_then b (2 * value_words (length value) + 4) 2 (2 * value_words (length value) + 6) v s w (omega arith) within_s
          (within_word b (b.first_word + 0) next s w (in_at 0 (omega arith)) may_next row refusals)

      pub node_written : WritesValue b value v u → Writes (b.first_word + 2) (length value) u t → Writes (b.first_word + 1) key t s
          → Writes (b.first_word + 0) next s w
          → WritesNode b key next value v w
      node_written first second third last = record {
        done = pending_then b v s w
            (pending_then b v t s
            (elim first.done as (λ _. KeepsPendingBut b v t) [
              | inl same ↦ subst (λ (x : View). KeepsPendingBut b x t) same
                  (pending_word b (b.first_word + 2) (length value) u t (in_at 2 (omega arith)) second)
              | inr before ↦ pending_then b v u t before (pending_word b (b.first_word + 2) (length value) u t (in_at 2 (omega arith)) second)
            ])
            (pending_word b (b.first_word + 1) key t s (in_at 1 (omega arith)) third))
            (pending_word b (b.first_word + 0) next s w (in_at 0 (omega arith)) last);
        written = record {
          next_is = last.settling;
          key_is = over_next 1 key (omega arith) (omega arith) third.settling;
          length_is = over_next 2 (length value) (omega arith) (omega arith) (over_key 2 (length value) (omega arith) (omega arith) second.settling);
          words = λ i less.
              over_next (3 + i) (image_of_bytes value i) (omega arith) (omega arith)
              (over_key (3 + i) (image_of_bytes value i) (omega arith) (omega arith)
              (settling_over u t (b.first_word + (3 + i)) (image_of_bytes value i) (b.first_word + 2) (length value) (λ e. omega arith)
              (own_at u within.held within.roots (3 + i) (omega arith)) may_length second (first.words i less)));
        };
      } where
        over_key : (i x : ℕ) → 2 ≤ i → i < 3 + value_words (length value) → IsSettling t (b.first_word + i) x → IsSettling s (b.first_word + i) x
        over_key i x from less settling =
            settling_over t s (b.first_word + i) x (b.first_word + 1) key (λ e. omega arith)
            (own_at t within_t.held within_t.roots i less) may_key third settling

        over_next : (i x : ℕ) → 1 ≤ i → i < 3 + value_words (length value) → IsSettling s (b.first_word + i) x → IsSettling w (b.first_word + i) x
        over_next i x from less settling =
            settling_over s w (b.first_word + i) x (b.first_word + 0) next (λ e. omega arith)
            (own_at s within_s.held within_s.roots i less) may_next last settling

-- one more null word of a block
module _ (b : Block) (count : ℕ) (v u w : View) (held : Contains u.held b) (inside : count < b.words)
    (may : MayHaveStored (b.first_word + count) 0 u w) where
  pub clear_more : (k : ℕ) → 2 * count + 2 ≤ k → IsClearing b count v u → IsRow 2 0 0 u w → SameRefusals u w → StoresWithin b k v w
  clear_more k few before row refusals = within_then b (2 * count) 2 k v u w few before.within
      (within_word b (b.first_word + count) 0 u w (record { from = omega arith; until = omega arith }) may row refusals)

  pub clearing_more : IsClearing b count v u → Writes (b.first_word + count) 0 u w → IsRow 2 0 0 u w → SameRefusals u w → IsClearing b (count + 1) v w
  clearing_more clearing write row refusals = record {
    within = clear_more (2 * (count + 1)) (omega arith) clearing row refusals;
    done = inr (elim clearing.done as (λ _. KeepsPendingBut b v w) [
      | inl same ↦ subst (λ (s : View). KeepsPendingBut b s w) same now
      | inr before ↦ pending_then b v u w before now
    ]);
    nulls = λ i below. elim (cases_eq i count) as (λ _. IsSettling w (b.first_word + i) 0) [
      | inl last ↦ subst (λ j. IsSettling w (b.first_word + j) 0) (sym last) write.settling
      | inr other ↦
          let less : i < count = omega arith in
          settling_over u w (b.first_word + i) 0 (b.first_word + count) 0 (λ e. other (omega arith))
          (in_block b (b.first_word + i) held (record { from = omega arith; until = omega arith })) may write (clearing.nulls i less)
    ];
  } where
    now : KeepsPendingBut b u w
    now = pending_word b (b.first_word + count) 0 u w (record { from = omega arith; until = omega arith }) write

pub clearing_start : (b : Block) (v : View) → IsClearing b 0 v v
clearing_start b v = record { within = within_none b v; done = inl refl; nulls = λ i below. absurd (omega arith) }

-- link and key of a node that is there, and a fence behind them
module _ (b : Block) (key next : ℕ) (v t s w : View) (held : Contains v.held b) (room : 3 ≤ b.words)
    (may_key : MayHaveStored (b.first_word + 1) key v t)
    (may_next : MayHaveStored (b.first_word + 0) next t s) (keeps : KeepsOwn s w) where
  own_in : (x : View) → x.held ≡ v.held → (i : ℕ) → i < 2 → IsOwn x.held x.roots (b.first_word + i)
  own_in x h i less = in_block b (b.first_word + i) (subst (λ (bs : List Block). Contains bs b) (sym h) held)
      (record { from = omega arith; until = omega arith })

  pub head_written : Writes (b.first_word + 1) key v t → Writes (b.first_word + 0) next t s → Fences s w → WritesHead b key next v w
  head_written first second fences = record {
    runs = runs_then v s w (runs_then v t s first.runs second.runs) fences.runs;
    settles = λ word own out pending.
        let one = first.pending word (λ e. out (record { from = omega arith; until = omega arith })) pending in
        let both = second.pending word (λ e. out (record { from = omega arith; until = omega arith })) one in
        fences.durable word (own_same t s word may_next.held may_next.roots (own_same v t word may_key.held may_key.roots own)) both;
    next_is = settled 0 next (omega arith) second.settling;
    key_is = settled 1 key (omega arith)
        (settling_over t s (b.first_word + 1) key (b.first_word + 0) next (λ e. omega arith)
        (own_in t may_key.held 1 (omega arith)) may_next second first.settling);
  } where
    settled : (i x : ℕ) → i < 2 → IsSettling s (b.first_word + i) x → IsDurableAt w (b.first_word + i) x
    settled i x less settling =
        let own = own_in s (may_next.held ∙ may_key.held) i less in
        settles s w (b.first_word + i) x own (keeps.words (b.first_word + i) own) (record { each = fences.durable }) settling
