-- The links of the blocks of a claimed superblock, and its anchor that becomes full.
use Rattle.std.proofs.Common.{◌≡◌, ◌≢◌, ◌≤◌, ◌<◌, ℕ, zero, suc, ◌+◌, ◌-◌, ◌*◌, inl, inr, false, cond, nat_eq, nat_le, nat_lt, ◌∷◌, length, suc-mul, None, refl, ap, sym, subst, ◌∙◌, le-leb, lt-ltb, arith}
use Rattle.std.proofs.lemmas.Bool.{cases_lt}
use Rattle.heap_model.specs.Counting.{times, without}
use Rattle.heap_model.specs.Geometry.{start_word, superblocks_end, info_word, anchor_word, superblock_of}
use Rattle.heap_model.specs.Sizes.{IsClass, words_of_class, blocks_of}
use Rattle.heap_model.specs.Words.{full_anchor}
use Rattle.heap_model.proofs.BlockLemmas.{block_step}
use Rattle.heap_model.proofs.SizeLemmas.{two_words}
use Rattle.core_model.specs.declared.event.Event.TheVariants.{Store}
use Rattle.core_model.specs.Cells.{anchor_cell, data_cell, info_cell, cell_at}
use Rattle.core_model.specs.Effects.{drew, last_of, steps, stored_anchor, used_up}
use Rattle.core_model.specs.Guards.{IsOwn}
use Rattle.core_model.specs.Sound.{IsCutBlock}
use Rattle.core_model.specs.View.{Batch, View, times_raw}
use Rattle.core_model.proofs.BlockLemmas.{inside_of, superblock_is}
use Rattle.core_model.proofs.PlaceLemmas.{and_is, cell_at_index, not-eq, skip}
use Rattle.seat_state.proofs.BlockRanges.{cut_range}
use Rattle.seat_state.proofs.EndLemmas.{last_there}
use Rattle.heap_rule.specs.Fences.{Owns}
use Rattle.heap_rule.specs.Shown.{Shows, ShowsLinks, by_claim, as_full, CanAnchor, IsShownFor}
use Rattle.heap_rule.proofs.RawLemmas.{no_block, raw_blank, raw_inside, raw_once}
use Rattle.heap_rule.proofs.StoredLemmas.{of_none}
use Rattle.heap_table.specs.Plays.{HasSoundState}
use Rattle.seat_costs.specs.Costs.{no_costs, one_draw}
use Rattle.seat_costs.specs.Rows.{Parts, SameLooks, Stops, ViewRow, parts}
use Rattle.seat_costs.specs.Words.{IsHeldWord, KeepsWord}
use Rattle.seat_costs.specs.Stores.{HasStored}
use Rattle.seat_costs.proofs.OnceLemmas.{own_once}
use Rattle.seat_costs.proofs.RowLemmas.{stops_later, view_row_none, view_row_then, view_row_within}
use Rattle.seat_costs.proofs.WordLemmas.{anchor_at, durable_then}
use Rattle.seat_costs.proofs.StoredLemmas.{may_store, not_held_at, stored_at}
use Rattle.cache_fill.specs.Cuts.{HasDurableInfo, HasFilledAnchor, HasLink, Leads}

pub same_looks_then : (v t w : View) → SameLooks v t → SameLooks t w → SameLooks v w
same_looks_then v t w first next = record { used = next.used ∙ first.used; heads = next.heads ∙ first.heads }

-- what is known of an info that is not stored to
pub info_kept : (v w : View) (d info : ℕ) → KeepsWord v w (info_word d) → HasDurableInfo d info v → HasDurableInfo d info w
info_kept v w d info keeps is = let x = durable_then v w (info_word d) keeps (record { value = info; seen = is.seen; left = is.left }) in record {
  seen = keeps.volatile info is.seen;
  left = x.left ∙ sym x.seen ∙ keeps.volatile info is.seen;
}

pub info_owned : (v : View) (d : ℕ) → d < v.setup.capacity → 0 < times_raw d v → Owns v (info_word d)
info_owned v d inside raw = subst (IsOwn v) (sym (cell_at_index v.setup.capacity (info_cell d) (lt-ltb d v.setup.capacity inside))) raw

pub raw_claimed : (v : View) (d : ℕ) → 0 < times d v.raw → 0 < times_raw d v
raw_claimed v d claimed = omega (arith, claimed)

-- a word of a claimed superblock leads to another
module _ (v : View) (has : HasSoundState v) (word : ℕ) (from : start_word v.setup.capacity 0 ≤ word)
    (until : word < superblocks_end v.setup.capacity) (raw : 0 < times_raw (superblock_of v.setup.capacity word) v) where
  word_is : cell_at v.setup.capacity word ≡ data_cell word
  word_is = cell_at_index v.setup.capacity (data_cell word) (and_is (nat_le (start_word v.setup.capacity 0) word)
      (nat_lt word (superblocks_end v.setup.capacity))
      (le-leb (start_word v.setup.capacity 0) word from) (lt-ltb word (superblocks_end v.setup.capacity) until))

  pub may_link : (value : ℕ) → IsShownFor v (Store word value)
  may_link value = may_store v word (data_cell word) word_is value (omega (arith, raw)) (raw_blank v has word raw)

  pub word_not_held : IsHeldWord v word → ⊥
  word_not_held = not_held_at v word (data_cell word) word_is (let one = own_once v has word in omega (arith, raw))

  -- the word is not the last one of the batch
  not_last : word ≢ last_of v.batch.blocks
  not_last same = elim (cases_lt 0 (length v.batch.blocks)) [
    | inl some ↦ absurd (let none = no_block v has word raw in let there =
        subst (λ n. 0 < times n v.batch.blocks) (sym same) (last_there v.batch.blocks (omega arith)) in omega arith)
    | inr none ↦ let zero_last = of_none v.batch.blocks (omega arith) in omega (arith, same, zero_last, from)
  ]

  batch_is : record v.batch { linked = cond (nat_eq word (last_of v.batch.blocks)) false v.batch.linked } ≡ v.batch
  batch_is = ap (λ l. record v.batch { linked = l }) (skip (nat_eq word (last_of v.batch.blocks)) false v.batch.linked
      (not-eq word (last_of v.batch.blocks) not_last))

  pub word_linked : (value : ℕ) (w : View) → HasStored word value v w → HasLink word value v w
  word_linked value w stored = record {
    going = stored.going;
    parts_are = ap parts left ∙ ap (λ (b : Batch). record (parts v) { batch = b }) batch_is;
    link = stored.seen;
    words = stored.words;
    looks = record { used = ap (λ (x : View). x.used_look) left; heads = ap (λ (x : View). x.head_looks) left };
  } where
    left : w ≡ record (used_up (drew v stored.ticket)) {
      volatile = w.volatile;
      durable = w.durable;
      batch = record v.batch { linked = cond (nat_eq word (last_of v.batch.blocks)) false v.batch.linked };
    }
    left = stored_at v word (data_cell word) word_is w value stored

-- links that are known are known as long as the words are kept
pub leads_kept : (v w : View) (from apart n : ℕ) → ((j : ℕ) → j < n → KeepsWord v w (from + j * apart)) → Leads v from apart n → Leads w from apart n
leads_kept v w from apart n keeps leads j less = (keeps j less).volatile (from + (j + 1) * apart) (leads j less)

leads_more : (v w : View) (from apart n : ℕ) → Leads v from apart n → ((j : ℕ) → j < n → KeepsWord v w (from + j * apart))
    → Shows w (data_cell (from + n * apart)) (from + (n + 1) * apart) → Leads w from apart (n + 1)
leads_more v w from apart n before keeps shows j less = elim (cases_lt j n) [
  | inl low ↦ leads_kept v w from apart n keeps before j low
  | inr high ↦ let last : n ≡ j = omega arith in subst (λ i. Shows w (data_cell (from + i * apart)) (from + (i + 1) * apart)) last shows
]

pub links_of : (v : View) (from apart n : ℕ) → ((j : ℕ) → j + 1 < n → Shows v (data_cell (from + j * apart)) (from + (j + 1) * apart))
    → ShowsLinks v (steps from apart n)
links_of v from apart zero leads = tt
links_of v from apart (suc zero) leads = tt
links_of v from apart (suc (suc n)) leads = (first, links_of v (from + apart) apart (suc n) rest) where
  first : Shows v (data_cell from) (from + apart)
  first = subst (λ b. Shows v (data_cell from) b) (let e : from + (0 + 1) * apart ≡ from + apart = omega arith in e)
      (subst (λ b. Shows v (data_cell b) (from + (0 + 1) * apart)) (let e : from + 0 * apart ≡ from = omega arith in e) (leads 0 (omega arith)))

  rest : (j : ℕ) → j + 1 < suc n → Shows v (data_cell (from + apart + j * apart)) (from + apart + (j + 1) * apart)
  rest j less = subst (λ b. Shows v (data_cell (from + apart + j * apart)) b)
      (let e : from + (suc j + 1) * apart ≡ from + apart + (j + 1) * apart = (let s = suc-mul (j + 1) apart in omega arith) in e)
      (subst (λ b. Shows v (data_cell b) (from + (suc j + 1) * apart))
      (let e : from + suc j * apart ≡ from + apart + j * apart = (let s = suc-mul j apart in omega arith) in e) (leads (suc j) (omega arith)))

-- where block j of a superblock lies
module _ (capacity class d j : ℕ) (is : IsClass class) (below : j < blocks_of class) where
  abbrev place : ℕ
  place = start_word capacity d + j * words_of_class class

  at : IsCutBlock capacity class d place
  at = record { index = j; below = below; at = refl }

  pub block_from : d < capacity → start_word capacity 0 ≤ place
  block_from less = (cut_range capacity class d place is less at).0

  pub block_until : d < capacity → place < superblocks_end capacity
  block_until less = (cut_range capacity class d place is less at).1

  pub block_in : superblock_of capacity place ≡ d
  block_in = superblock_is capacity class d place is at

  pub block_end : place + words_of_class class ≤ start_word capacity (d + 1)
  block_end = (inside_of capacity class d place is at).1

pub block_owned : (v : View) (class d j : ℕ) → IsClass class → d < v.setup.capacity → 0 < times_raw d v → j < blocks_of class
    → Owns v (start_word v.setup.capacity d + j * words_of_class class)
block_owned v class d j is inside raw below =
    let b = start_word v.setup.capacity d + j * words_of_class class in
    subst (IsOwn v) (sym (cell_at_index v.setup.capacity (data_cell b)
    (and_is (nat_le (start_word v.setup.capacity 0) b) (nat_lt b (superblocks_end v.setup.capacity))
    (le-leb (start_word v.setup.capacity 0) b (block_from v.setup.capacity class d j is below inside))
    (lt-ltb b (superblocks_end v.setup.capacity) (block_until v.setup.capacity class d j is below inside)))))
    (let here = subst (λ e. 0 < times_raw e v) (sym (block_in v.setup.capacity class d j is below)) raw in omega (arith, here))

-- how many blocks lead to the next
pub record Linking (d class n : ℕ) (v t : View) : Type 0 where
  pub ran : v.stopped ≡ None
  pub going : t.stopped ≡ None
  pub parts_are : parts t ≡ parts v
  pub info_is : HasDurableInfo d class t
  pub links : Leads t (start_word v.setup.capacity d) (words_of_class class) n
  pub row : ViewRow (record no_costs { draws = n }) v t
  pub looks : SameLooks v t

pub linking_begins : (v : View) (d class : ℕ) → v.stopped ≡ None → HasDurableInfo d class v → Linking d class 0 v v
linking_begins v d class going info = record {
  ran = going;
  going = going;
  parts_are = refl;
  info_is = info;
  links = λ j less. absurd (omega (arith, less));
  row = view_row_none v;
  looks = record { used = refl; heads = refl };
}

module _ (v t : View) (has : HasSoundState v) (d class n : ℕ) (is : IsClass class) (raw : 0 < times_raw d v) (linking : Linking d class n v t) where
  same_capacity : t.setup.capacity ≡ v.setup.capacity
  same_capacity = ap (λ (p : Parts). p.setup.capacity) linking.parts_are

  pub raw_still : 0 < times_raw d t
  raw_still = subst (λ (p : Parts). 0 < times d p.raw + times d p.split + times d p.cutting) (sym linking.parts_are) raw

  pub linking_row : (w : View) → ViewRow one_draw t w → n + 1 ≤ blocks_of class - 1 → ViewRow (record no_costs { draws = blocks_of class - 1 }) v w
  linking_row w row few = view_row_within (record no_costs { draws = blocks_of class - 1 }) v w
      (record {
        draws = omega (arith, few);
        wins = omega arith;
        gives = omega arith;
        cuts = omega arith;
        taken = omega arith;
        moves = omega arith;
      }) (view_row_then v t w linking.row row)

  pub linking_stops : (w : View) (step : ℕ) → Stops step t w → Stops step v w
  linking_stops w step stop = stops_later v t w step linking.ran linking.going linking.row stop

  module _ (block : ℕ) (below : n < blocks_of class) (at_block : block ≡ start_word v.setup.capacity d + n * words_of_class class) where
    pub link_from : start_word t.setup.capacity 0 ≤ block
    link_from = let f = block_from v.setup.capacity class d n is below (raw_inside v has d raw) in let c = same_capacity in omega (arith, at_block)

    pub link_until : block < superblocks_end t.setup.capacity
    link_until = let f = block_until v.setup.capacity class d n is below (raw_inside v has d raw) in let c = same_capacity in omega (arith, at_block)

    pub link_raw : 0 < times_raw (superblock_of t.setup.capacity block) t
    link_raw = subst (λ e. 0 < times_raw e t) (sym (block_in v.setup.capacity class d n is below)
        ∙ ap (superblock_of v.setup.capacity) (sym at_block) ∙ ap (λ c. superblock_of c block) (sym same_capacity)) raw_still

    pub link_end : block + words_of_class class ≤ start_word v.setup.capacity (d + 1)
    link_end = let e = block_end v.setup.capacity class d n is below in omega (arith, at_block)

    pub link_next : block + words_of_class class ≡ start_word v.setup.capacity d + (n + 1) * words_of_class class
    link_next = let m = suc-mul n (words_of_class class) in omega (arith, at_block)

    pub linking_on : (w : View) → HasLink block (block + words_of_class class) t w → ViewRow one_draw t w → Linking d class (n + 1) v w
    linking_on w linked row = record {
      ran = linking.ran;
      going = linked.going;
      parts_are = linked.parts_are ∙ linking.parts_are;
      info_is = info_kept t w d class (linked.words (info_word d) (λ same. let low =
          block_from v.setup.capacity class d n is below (raw_inside v has d raw) in let i = raw_inside v has d raw in omega (arith, same, at_block))
          (info_owned t d (subst (λ c. d < c) (sym same_capacity) (raw_inside v has d raw)) raw_still)) linking.info_is;
      links = leads_more t w (start_word v.setup.capacity d) (words_of_class class) n linking.links
          (λ j less. linked.words (start_word v.setup.capacity d + j * words_of_class class)
          (λ same. let step = block_step j n (words_of_class class) less in let two = two_words class is in omega (arith, same, step, at_block))
          (subst (λ c. Owns t (start_word c d + j * words_of_class class)) same_capacity
          (block_owned t class d j is (subst (λ c. d < c) (sym same_capacity) (raw_inside v has d raw)) raw_still (omega (arith, less, below)))))
          (subst (λ b. Shows w (data_cell (start_word v.setup.capacity d + n * words_of_class class)) b) link_next
          (subst (λ a. Shows w (data_cell a) (block + words_of_class class)) at_block linked.link));
      row = view_row_then v t w linking.row row;
      looks = same_looks_then v t w linking.looks linked.looks;
    }

-- the anchor of a claimed superblock becomes full
module _ (v : View) (has : HasSoundState v) (d : ℕ) (raw : 0 < times d v.raw) (word : ℕ) (at : word ≡ anchor_word d) where
  is_anchor : cell_at v.setup.capacity word ≡ anchor_cell d
  is_anchor = ap (cell_at v.setup.capacity) at ∙ anchor_at v.setup.capacity d (raw_inside v has d (omega (arith, raw)))

  pub anchor_not_held : IsHeldWord v word → ⊥
  anchor_not_held = not_held_at v word (anchor_cell d) is_anchor refl

  module _ (value : ℕ) (full : value ≡ full_anchor) where
    pub may_fill : IsShownFor v (Store word value)
    may_fill = may_store v word (anchor_cell d) is_anchor value (omega (arith, raw)) (subst (CanAnchor v d) (sym full)
        (as_full (let once = raw_once v has d in omega (arith, once, raw)) (inl (by_claim raw))))

    pub anchor_filled : (w : View) → HasStored word value v w → HasFilledAnchor d v w
    anchor_filled w stored = record {
      going = stored.going;
      parts_are = ap parts left;
      words = λ k other own. stored.words k (λ is. other (is ∙ at)) own;
      looks = record { used = ap (λ (x : View). x.used_look) left; heads = ap (λ (x : View). x.head_looks) left };
    } where
      left : w ≡ record (used_up (drew v stored.ticket)) {
        volatile = w.volatile;
        durable = w.durable;
        raw = without d v.raw;
        split = without d v.split;
        cutting = d ∷ without d v.cutting;
      }
      left = stored_at v word (anchor_cell d) is_anchor w value stored ∙ ap (λ n. record (stored_anchor (used_up (drew v stored.ticket)) d n) {
        volatile = w.volatile;
        durable = w.durable;
      }) full
