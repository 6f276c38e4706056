-- What a seat keeps to tell its own words, and what of superblocks and blocks is so in each sound state that has its view.
use Rattle.std.proofs.Common.{◌≡◌, ℕ, zero, suc, ◌+◌, ◌<◌, ◌≤◌, inl, inr, nat_lt, List, get_or, length, ap, sym, subst, ◌∙◌, Vec, Global, arith}
use Rattle.std.proofs.lemmas.Bool.{cases_lt}
use Rattle.heap_model.specs.Geometry.{lists, superblock_of}
use Rattle.heap_model.specs.Counting.{times, total}
use Rattle.core_model.specs.Memory.{Memory, memory_of, used, info}
use Rattle.core_model.specs.View.{View, Claim, Span, times_raw, times_classed, times_large, times_block}
use Rattle.core_model.specs.Sound.{Good}
use Rattle.core_model.proofs.FrameLemmas.{below_not}
use Rattle.core_model.proofs.ListLemmas.{in_lists_at}
use Rattle.core_model.proofs.OwnLemmas.{one_at_most}
use Rattle.core_model.proofs.OwnerLemmas.{which_class}
use Rattle.core_model.proofs.TotalLemmas.{total_at}
use Rattle.seat_index.specs.declared.owned.Ownership.{Ownership}
use Rattle.seat_index.specs.declared.owned.Ownership.TheVariants as ownership
use Rattle.seat_index.specs.declared.owned.Owned.{Owned}
use Rattle.seat_index.specs.Owned.{OwnedParts, parts_of, IsOwnership, HasOwned}
use Rattle.heap_table.specs.Plays.{HasSoundState}

-- where nothing has changed that tells own words
pub quiet : (o : Owned) (v w : View) → parts_of w ≡ parts_of v → HasOwned o (parts_of v) → HasOwned o (parts_of w)
quiet o v w same own = subst (HasOwned o) (sym same) own

-- where what is owned of superblocks alone is another
pub with_ownerships : (o : Owned) (ownerships : Vec Ownership Global) (p : OwnedParts) (raw split cutting : List ℕ) (classed : List Claim)
    (large : List Span) → HasOwned o p → length ownerships.items ≡ length o.ownerships.items
    → ((e : ℕ) → IsOwnership e (get_or ownerships.items e ownership.Nothing)
    (record p { raw = raw; split = split; cutting = cutting; classed = classed; large = large }))
    → HasOwned (record o { ownerships = ownerships }) (record p { raw = raw; split = split; cutting = cutting; classed = classed; large = large })
with_ownerships o ownerships p raw split cutting classed large own long are = record {
  words_long = own.words_long;
  classes_long = own.classes_long;
  ownerships_long = long ∙ own.ownerships_long;
  roots_long = own.roots_long;
  blocks = own.blocks;
  classes = record { held = own.classes.held; cached = own.classes.cached; batched = own.classes.batched };
  ownerships = are;
  roots_are = own.roots_are;
  batch = own.batch;
  room = own.room;
  stacks = own.stacks;
}

module _ (v : View) (s : HasSoundState v) where
  abbrev m : Memory
  m = memory_of v.setup.capacity s.words

  abbrev good : Good v.setup m s.views
  good = s.sound.good

  -- of a superblock that is in none of the seats' hands this one has nothing
  pub none_of : (d : ℕ) → total (times_raw d) s.views + total (λ (u : View). times_classed d u.classed) s.views + total
      (λ (u : View). times_large d u.large) s.views ≡ 0
      → (times_raw d v ≡ 0) × (times_classed d v.classed ≡ 0) × (times_large d v.large ≡ 0)
  none_of d none = let a = total_at (times_raw d) s.views s.seat v s.below s.at in
      let b = total_at (λ (u : View). times_classed d u.classed) s.views s.seat v s.below s.at in
      let c = total_at (λ (u : View). times_large d u.large) s.views s.seat v s.below s.at in (omega arith, omega arith, omega arith)

  pub untaken : (d : ℕ) → used m ≤ d → (times_raw d v ≡ 0) × (times_classed d v.classed ≡ 0) × (times_large d v.large ≡ 0)
  untaken d past = none_of d (let p = good.shaped.placed.one_place d in let z = below_not d (used m) past in omega arith)

  pub in_list : (list d : ℕ) → list < lists → 0 < times d (good.shape.lists list) → (times_raw d v ≡ 0) × (times_classed d v.classed ≡ 0)
      × (times_large d v.large ≡ 0)
  in_list zero d is some = none_of d (let p = good.shaped.placed.one_place d in let most = one_at_most (nat_lt d (used m)) in omega arith)
  in_list (suc n) d is some = none_of d (let p = good.shaped.placed.one_place d in let most = one_at_most (nat_lt d (used m)) in
      let l = in_lists_at d good.shape.lists (suc n) is (λ e. absurd (omega (arith, e))) in omega arith)

  pub taken_below : (d : ℕ) → 0 < times_raw d v + times_classed d v.classed + times_large d v.large → d < v.setup.capacity
  taken_below d some = elim (cases_lt d (used m)) [
    | inl less ↦ let r = good.shaped.durable.room in omega arith
    | inr past ↦ absurd (let z = untaken d past in let a = z.0 in let b = z.1 in let c = z.2 in omega arith)
  ]

  -- the class that is kept of a block's superblock is that of its info
  pub class_kept : (o : Owned) → HasOwned o (parts_of v) → (b : ℕ) → 0 < times_block b v
      → get_or o.classes.items (superblock_of v.setup.capacity b) 0 ≡ info m (superblock_of v.setup.capacity b)
  class_kept o own b some = let h = good.blocks s.seat v s.below s.at in elim (cases_lt 0 (total (times b) v.small)) [
    | inl small ↦ let c = which_class b v.small small in own.classes.held c.n b c.there ∙ sym (h.held c.n b c.there)
    | inr not_small ↦ elim (cases_lt 0 (total (times b) v.caches)) [
      | inl cached ↦ let c = which_class b v.caches cached in own.classes.cached c.n b c.there ∙ sym (h.cached c.n b c.there)
      | inr not_cached ↦ let q = h.batched b (omega arith) in own.classes.batched b (omega arith) ∙ sym (ap (info m) q.0 ∙ q.1)
    ]
  ]
