-- What the filling of an empty cache leaves.
use Rattle.std.proofs.Common.{◌≡◌, ◌<◌, ◌≤◌, ◌+◌, ℕ, cond, [], ◌∷◌, get_or, length, set, refl, ap, sym, subst, ◌∙◌, eq-eqb, arith}
use Rattle.std.proofs.lemmas.List.{get_or_default}
use Rattle.heap_model.specs.Counting.{times, without}
use Rattle.heap_model.specs.Geometry.{lists}
use Rattle.heap_model.specs.Words.{head_first}
use Rattle.heap_model.specs.Sizes.{IsClass, blocks_of}
use Rattle.heap_model.proofs.SizeLemmas.{four_blocks}
use Rattle.core_model.specs.Effects.{class_blocks}
use Rattle.core_model.specs.View.{LastLook, Setup, View, of_class}
use Rattle.core_model.proofs.CountLemmas.{length_steps}
use Rattle.core_model.proofs.TotalLemmas.{eq-eqb-one}
use Rattle.heap_table.specs.Plays.{HasSoundState}
use Rattle.heap_seat.specs.declared.fault.Looks.{Looks}
use Rattle.large_block.specs.Fresh.{HasTakenFresh, IsPast}
use Rattle.cache_fill.specs.Cuts.{HasCut, with_cut}
use Rattle.cache_fill.specs.Refills.{HasFilled, HasFound, HasSeenEmpty, IsFilledInOrder, KeepsClassLooks, IsFull, IsLook, IsNoneOfClass, IsNothingFree}
use Rattle.superblock_lists.specs.Pops.{IsEmptyList, looked, with_claim}
use Rattle.seat_costs.specs.Costs.{Costs, no_costs}
use Rattle.seat_costs.specs.Idle.{IsIdle}
use Rattle.seat_costs.specs.Rows.{Parts, SameLooks, ViewRow, head_look, next_of, parts}
use Rattle.cache_fill.proofs.FillRowLemmas.{look_later, looked_is, looks_long}

-- a look at an empty list
abbrev seen_empty : (list word : ℕ) (v t w : View) (look : LastLook) → head_look w list ≡ look → (is : IsLook look word t) → head_first word ≡ 0
    → t.taken ≡ v.taken → next_of v ≤ is.ticket → is.ticket < next_of w → HasSeenEmpty list v w
seen_empty list word v t w look same is none taken since below = record {
  made = record {
    ticket = is.ticket;
    by = ap (λ (l : LastLook). l.ticket) same ∙ is.by;
    since = since;
    below = below;
    taken_least = let a = ap (λ (l : LastLook). l.taken) same in let b = is.taken in omega (arith, a, b, taken);
    taken_most = let a = ap (λ (l : LastLook). l.taken) same in let b = is.taken in omega (arith, a, b, taken);
  };
  empty = ap head_first (ap (λ (l : LastLook). l.word) same ∙ is.word_is) ∙ none;
}

-- the list of the free ones had none
module _ (v t w : View) (head d : ℕ) (has : HasSoundState w) (empty : IsEmptyList 0 head v t) (got : HasTakenFresh 1 d t w) where
  pub fresh_behind : next_of t ≤ next_of w → HasSeenEmpty 0 v w
  fresh_behind next =
      let long = looks_long w has in
      let free : head_look w 0 ≡ looked head t = get_or_default w.head_looks 0 w.used_look t.used_look (omega arith)
      ∙ ap (λ looks. get_or looks 0 t.used_look) got.heads ∙ empty.look in
      let first = looked_is t (looked head t) head (next_of v) refl empty.later in
      seen_empty 0 head v t w (looked head t) free first.0 empty.none empty.taken first.1 (let l = first.2 in omega (arith, next, l))

  pub fresh_others : KeepsClassLooks v w
  fresh_others list less apart = let long = looks_long w has in
      get_or_default w.head_looks list w.used_look t.used_look (omega arith) ∙ ap (λ looks. get_or looks list t.used_look) got.heads
      ∙ empty.others.heads list apart

pub past_others : (v t w : View) (head used : ℕ) → HasSoundState w → IsEmptyList 0 head v t → IsPast 1 used t w → KeepsClassLooks v w
past_others v t w head used has empty past list less apart = let long = looks_long w has in
    get_or_default w.head_looks list w.used_look t.used_look (omega arith) ∙ ap (λ looks. get_or looks list t.used_look) past.heads
    ∙ empty.others.heads list apart

-- neither list nor mark gave a superblock
pub nothing_free : (v t w : View) (head used : ℕ) → HasSoundState w → ViewRow (record no_costs { draws = 6 }) v w → IsEmptyList 0 head v t
    → IsPast 1 used t w → IsNothingFree head used v w
nothing_free v t w head used has row empty past =
    let kept : (list : ℕ) → list < lists → head_look w list ≡ head_look t list = λ list less. let long = looks_long w has in
    get_or_default w.head_looks list w.used_look t.used_look (omega arith) ∙ ap (λ looks. get_or looks list t.used_look) past.heads in
    let first = looked_is t (looked head t) head (next_of v) refl empty.later in
    let second = looked_is w w.used_look used (next_of t) past.look past.later in record {
      going = past.going;
      parts_are = past.parts_are ∙ empty.parts_are;
      wins = past.wins ∙ empty.wins;
      taken = past.taken ∙ empty.taken;
      none = empty.none;
      past = subst (λ (k : Setup). k.capacity < used + 1) (ap (λ (p : Parts). p.setup) empty.parts_are) past.past;
      free_look = look_later (looked head t) (head_look w 0) head t w (kept 0 (omega arith) ∙ empty.look) past.wins past.taken first.0;
      used_look = second.0;
      since = first.1;
      order = let a = first.2 in let b = second.1 in omega arith;
      last = second.2;
      others = past_others v t w head used has empty past;
      row = row;
    }

-- a superblock without a class was found
module _ (v t x : View) (class head d : ℕ) (idle : IsIdle v) (none : IsNoneOfClass class head v t) (found : HasFound d t x) where
  found_parts : parts x ≡ with_claim 0 d (parts v)
  found_parts = found.parts_are ∙ ap (with_claim 0 d) none.parts_are

  pub found_claimed : 0 < times d x.raw
  found_claimed = subst (λ (p : Parts). 0 < times d p.raw) (sym found_parts) (let here = eq-eqb-one d d refl in omega arith)

  pub found_uncached : of_class v.caches class ≡ [] → of_class x.caches class ≡ []
  found_uncached uncached = ap (λ (p : Parts). of_class p.caches class) found_parts ∙ uncached

  pub cut_fills : (w : View) → IsClass class → HasCut d class x w → HasFilled class v w
  cut_fills w is done = record {
    going = done.going;
    blocks = class_blocks v.setup.capacity class d;
    some = let four = four_blocks class is in let all = count in omega arith;
    most = let all = count in omega arith;
    whole = λ _. count;
    parts_are = done.parts_are ∙ ap (with_cut d class) found_parts
        ∙ ap (λ test. record cached { raw = cond test v.raw (d ∷ without d v.raw); split = without d v.split; cutting = without d v.cutting })
        (eq-eqb d d refl)
        ∙ ap (λ l. record cached { split = without d l; cutting = without d v.cutting }) idle.split
        ∙ ap (λ l. record cached { split = l; cutting = without d v.cutting }) (sym idle.split)
        ∙ ap (λ l. record cached { cutting = without d l }) idle.cutting
        ∙ ap (λ l. record cached { cutting = l }) (sym idle.cutting);
  } where
    cached : Parts
    cached = record (parts v) { caches = set v.caches class (class_blocks v.setup.capacity class d) }

    count : length (class_blocks v.setup.capacity class d) ≡ blocks_of class
    count = length_steps _ _ (blocks_of class)

pub nothing_left : (v t w : View) (class class_head free_head used : ℕ) → IsClass class → IsNoneOfClass class class_head v t
    → IsNothingFree free_head used t w
    → IsFull class (record { class_head = class_head; free_head = free_head; used = used }) v w
nothing_left v t w class class_head free_head used is none nothing = record {
  going = nothing.going;
  parts_are = nothing.parts_are ∙ none.parts_are;
  cuts = let a = none.row.passes.more.cuts in let b = none.row.passes.most.cuts in let c = nothing.row.passes.more.cuts in
      let d = nothing.row.passes.most.cuts in omega arith;
  taken = let a = none.row.passes.more.taken in let b = none.row.passes.most.taken in let c = nothing.taken in omega arith;
  class_look = look_later (head_look t class) (head_look w class) class_head t w
      (nothing.others class (let last = is.last in omega arith) (λ zero_class. let some = is.some in omega arith)) nothing.wins nothing.taken none.look;
  free_look = nothing.free_look;
  used_look = nothing.used_look;
  since = none.since;
  class_first = let a = none.last in let b = nothing.since in omega arith;
  free_second = nothing.order;
  last = nothing.last;
  class_empty = none.none;
  free_empty = nothing.none;
  past = subst (λ (k : Setup). k.capacity < used + 1) (ap (λ (p : Parts). p.setup) none.parts_are) nothing.past;
}

-- a filling that cuts nothing takes nothing
pub order_uncut : {a : Costs} (class : ℕ) (v w : View) → a.cuts ≡ 0 → a.taken ≡ 0 → ViewRow a v w → IsFilledInOrder class v w
order_uncut class v w none_cut none_taken row = let taken = row.passes.most.taken in let more = row.passes.more.taken in
    let cuts = row.passes.most.cuts in record {
      cut = λ rose. absurd (omega (arith, cuts, rose, none_cut));
      claimed = λ rose. absurd (omega (arith, cuts, rose, none_cut));
      uncut = λ same. omega (arith, taken, more, none_taken);
      fresh = λ rose. absurd (omega (arith, taken, rose, none_taken));
    }

pub order_full : (class : ℕ) (looks : Looks) (v w : View) → IsFull class looks v w → IsFilledInOrder class v w
order_full class looks v w full = let taken = full.taken in let cuts = full.cuts in record {
  cut = λ rose. absurd (omega (arith, cuts, rose));
  claimed = λ rose. absurd (omega (arith, cuts, rose));
  uncut = λ same. taken;
  fresh = λ rose. absurd (omega (arith, taken, rose));
}

-- a superblock is cut behind looks at the lists
module _ {a : Costs} {n : ℕ} (class head : ℕ) (v t x w : View) (none : IsNoneOfClass class head v t) (same : SameLooks x w)
    (row : ViewRow (record no_costs { draws = n; cuts = 1 }) x w) (found : ViewRow a t x) where
  t_taken : t.taken ≡ v.taken
  t_taken = let least = none.row.passes.more.taken in let most = none.row.passes.most.taken in omega (arith, least, most)

  kept : (list : ℕ) → head_look w list ≡ head_look x list
  kept list = ap (λ l. get_or l list w.used_look) same.heads ∙ ap (λ u. get_or x.head_looks list u) same.used

  class_kept : IsClass class → KeepsClassLooks t x → head_look w class ≡ head_look t class
  class_kept is others = kept class ∙ others class (let last = is.last in omega (arith, last)) (λ zero_class. let some = is.some in
      omega (arith, some, zero_class))

  abbrev class_empty : IsClass class → KeepsClassLooks t x → HasSeenEmpty class v w
  class_empty is others = seen_empty class head v t w (head_look t class) (class_kept is others) none.look none.none t_taken none.since
      (let l = none.last in let p = row.passes.next in let q = found.passes.next in omega (arith, l, p, q))

  abbrev free_empty : HasSeenEmpty 0 t x → HasSeenEmpty 0 v w
  free_empty free = record {
    made = let m = free.made in record {
      ticket = m.ticket;
      by = ap (λ (l : LastLook). l.ticket) (kept 0) ∙ m.by;
      since = let s = m.since in let l = none.last in let b = none.since in omega (arith, s, l, b);
      below = let b = m.below in let p = row.passes.next in omega (arith, b, p);
      taken_least = let e = ap (λ (l : LastLook). l.taken) (kept 0) in let l = m.taken_least in let b = t_taken in omega (arith, e, l, b);
      taken_most = let e = ap (λ (l : LastLook). l.taken) (kept 0) in let l = m.taken_most in let b = t_taken in omega (arith, e, l, b);
    };
    empty = ap head_first (ap (λ (l : LastLook). l.word) (kept 0)) ∙ free.empty;
  }

  pub order_cut : IsClass class → x.wins ≡ t.wins + 1 → (t.taken < x.taken → HasSeenEmpty 0 t x) → KeepsClassLooks t x → v.cuts < w.cuts
      → IsFilledInOrder class v w
  order_cut is won seen others more = record {
    cut = λ _. class_empty is others;
    claimed = λ _. let e = ap (λ (l : LastLook). l.wins) (class_kept is others) in let k = none.look.wins in let least = row.passes.more.wins in
        let most = row.passes.most.wins in let moved = row.passes.most.moves in omega (arith, won, e, k, least, most, moved);
    uncut = λ uncut. absurd (omega (arith, uncut, more));
    fresh = λ rose. let free = seen (let most = row.passes.most.taken in let b = t_taken in omega (arith, most, b, rose)) in record {
      of_class = class_empty is others;
      free = free_empty free;
      order = let s = free.made.since in let l = none.last in omega (arith, s, l);
    };
  }
