-- An opened heap with one seat, and what draining a class of it gives.
use Rattle.std.proofs.Common.{◌≡◌, ◌≢◌, ℕ, ◌+◌, ◌*◌, ◌<◌, ◌≤◌, inl, inr, nat_lt, List, [], ◌∷◌, ◌++◌, Contains, get_or, set, take, drop, length, length-append, length-drop, length-set, slice_index, refl, ap, sym, subst, ◌∙◌, lt-ltb, arith}
use Rattle.std.proofs.lemmas.Bool.{cases_lt, cases_eq}
use Rattle.std.proofs.lemmas.List.{get_or_append_left, get_or_default, length-take-le}
use Rattle.heap_model.specs.declared.block.Block.{Block}
use Rattle.heap_model.specs.Chains.{Follows}
use Rattle.heap_model.specs.Counting.{times}
use Rattle.heap_model.specs.Geometry.{lists, head_word, image_words, info_word, link_word, used_word}
use Rattle.heap_model.specs.Image.{Image}
use Rattle.heap_model.specs.Recovered.{HasPartIn, IsFreeSuperblock, beside, freed, fresh}
use Rattle.heap_model.specs.Rest.{IsReady}
use Rattle.heap_model.specs.Sizes.{IsClass, words_of_class}
use Rattle.heap_model.specs.Words.{head_first}
use Rattle.heap_model.proofs.ListLemmas.{times_append}
use Rattle.heap_model.proofs.PartLemmas.{same_fields}
use Rattle.heap_model.proofs.SizeLemmas.{few_words}
use Rattle.heap_at_rest.proofs.ListLemmas.{follows_below, follows_same, times_of}
use Rattle.core_model.specs.Held.{IsHeld, a_large, a_small}
use Rattle.core_model.specs.Memory.{Memory, head, info, link, used, memory_of}
use Rattle.core_model.specs.Opening.{AreOwners, tabulate}
use Rattle.core_model.specs.Sound.{BlocksOf, Good, IsCutBlock, Sound}
use Rattle.core_model.specs.View.{Parts, Role, Setup, View, of_class}
use Rattle.core_model.proofs.BlockLemmas.{of_class_other, of_class_same}
use Rattle.core_model.proofs.OpenedHeldLemmas.{holds_exactly}
use Rattle.core_model.proofs.OpenedLemmas.{opened}
use Rattle.core_model.proofs.TotalLemmas.{total_at}
use Rattle.core_model.proofs.PlaceLemmas.{pick}
use Rattle.heap_table.specs.Reached.{IsReached}
use Rattle.heap_table.specs.Rule.{Opening, opened_view_of, setup_for, state_of}
use Rattle.heap_table.proofs.ClosingLemmas.{three_parts}
use Rattle.heap_table.proofs.ReachedLemmas.{opened_counted, reached_sound}
use Rattle.seat_costs.specs.Alone.{IsSteady, Steady}
use Rattle.seat_costs.specs.Idle.{IsIdle}
use Rattle.seat_costs.proofs.AloneLemmas.{left_steady}
use Rattle.seat_costs.proofs.IdleLemmas.{none_cached}
use Rattle.heap_at_rest.specs.Draining.{IsDrainable, IsToDrain, layout_at}
use Rattle.drain_laws.specs.Drains.{GivesExactly, Grants, GrantsAll, HasDrained, IsDrainRow, no_request, one_more}
use Rattle.drain_laws.proofs.OnlyLemmas.{alone}
use Rattle.drain_laws.specs.Gains.{HoldsMore, IsDrainableNow, IsDry, IsGiven, IsToGive, NoneCame, layout_now}
use Rattle.drain_laws.specs.Spent.{IsSpent}
use Rattle.drain_laws.proofs.CameLemmas.{reached_came}
use Rattle.drain_laws.proofs.GivenLemmas.{has_given, lies, was_to_drain}
use Rattle.drain_laws.proofs.SpentLemmas.{spent_by_looks}

-- what granted requests leave
pub record Leaves (class : ℕ) (v : View) (firsts : List ℕ) (w : View) : Type 0 where
  pub setup : w.setup ≡ v.setup
  pub large : w.large ≡ v.large
  pub batch : w.batch ≡ v.batch
  pub raw : w.raw ≡ v.raw
  pub split : w.split ≡ v.split
  pub cutting : w.cutting ≡ v.cutting
  pub classed : w.classed ≡ v.classed
  pub gives : w.gives ≡ v.gives
  pub offers : w.offers ≡ v.offers
  pub long : length w.small ≡ length v.small
  pub mine : of_class w.small class ≡ firsts ++ of_class v.small class
  pub others : (c : ℕ) → c ≢ class → of_class w.small c ≡ of_class v.small c
  pub caches : (c : ℕ) → c ≢ class → of_class w.caches c ≡ of_class v.caches c

grant : (class : ℕ) (v : View) (firsts : List ℕ) (u w : View) (b : Block) → class < length v.small → Leaves class v firsts u → Grants class b u w
    → Leaves class v (b.first_word ∷ firsts) w
grant class v firsts u w b less so_far grants = let has = grants.allocated in record {
  setup = ap (λ (p : Parts). p.setup) has.parts_are ∙ so_far.setup;
  large = ap (λ (p : Parts). p.large) has.parts_are ∙ so_far.large;
  batch = ap (λ (p : Parts). p.batch) has.parts_are ∙ so_far.batch;
  raw = ap (λ (p : Parts). p.raw) has.parts_are ∙ so_far.raw;
  split = ap (λ (p : Parts). p.split) has.parts_are ∙ so_far.split;
  cutting = ap (λ (p : Parts). p.cutting) has.parts_are ∙ so_far.cutting;
  classed = ap (λ (p : Parts). p.classed) has.parts_are ∙ so_far.classed;
  gives = grants.gives ∙ so_far.gives;
  offers = ap (λ (r : Role). r.offers) grants.costs.role_is ∙ so_far.offers;
  long = ap length small ∙ length-set u.small class (b.first_word ∷ of_class u.small class) ∙ so_far.long;
  mine = ap (λ l. of_class l class) small ∙ of_class_same u.small class (b.first_word ∷ of_class u.small class) class refl
      (let long = so_far.long in omega arith) ∙ ap (λ l. b.first_word ∷ l) so_far.mine;
  others = λ c other. ap (λ l. of_class l c) small ∙ of_class_other u.small class (b.first_word ∷ of_class u.small class) c other
      ∙ so_far.others c other;
  caches = λ c other. ap (λ (p : Parts). of_class p.caches c) has.parts_are ∙ of_class_other u.caches class has.cache c other ∙ so_far.caches c other;
} where
  small : w.small ≡ set u.small class (b.first_word ∷ of_class u.small class)
  small = ap (λ (p : Parts). p.small) grants.allocated.parts_are

pub leaves : (class : ℕ) (v : View) (firsts : List ℕ) (w : View) → class < length v.small → GrantsAll class v firsts w → Leaves class v firsts w
leaves class v _ _ less no_request = record {
  setup = refl;
  large = refl;
  batch = refl;
  raw = refl;
  split = refl;
  cutting = refl;
  classed = refl;
  gives = refl;
  offers = refl;
  long = refl;
  mine = refl;
  others = λ c other. refl;
  caches = λ c other. refl;
}
leaves class v _ _ less (one_more firsts u w b before grants) = grant class v firsts u w b less (leaves class v firsts u less before) grants

module _ (o : Opening) (ready : IsReady o.words o.held) (owners : AreOwners o.held o.seats o.block_owners o.root_owners) (one : o.seats ≡ 1) where
  abbrev k : Setup
  k = setup_for o

  abbrev c : ℕ
  c = k.capacity

  abbrev image : Image
  image = slice_index o.words

  abbrev v : View
  v = opened_view_of o 0

  abbrev m : Memory
  m = memory_of c (state_of o).words

  sound : Sound k (state_of o).words (state_of o).views
  sound = opened o.words o.held o.budget o.seats o.block_owners o.root_owners ready owners

  only : (state_of o).views ≡ v ∷ []
  only = ap (λ n. tabulate (opened_view_of o) 0 n) one

  pub opened_good : Good k m (v ∷ [])
  opened_good = subst (Good k m) only sound.good

  pub opened_idle : IsIdle v
  opened_idle = record { batch = refl; raw = refl; split = refl; cutting = refl; classed = refl }

  -- its words
  long : length o.words ≡ image_words c
  long = let l = sound.long in let a = length-append o.words (o.words ++ (0 ∷ [])) in let b = length-append o.words (0 ∷ []) in omega (arith, l, a, b)

  at_word : (n : ℕ) → n < image_words c → get_or (state_of o).words n 0 ≡ image n
  at_word n less = get_or_append_left o.words (o.words ++ (0 ∷ [])) 0 n (let l = long in omega arith)

  used_is : used m ≡ image used_word
  used_is = at_word used_word (omega arith)

  info_is : (d : ℕ) → d < c → info m d ≡ image (info_word d)
  info_is d less = pick (nat_lt d c) _ 0 (lt-ltb d c less) ∙ at_word (info_word d) (omega arith)

  link_is : (d : ℕ) → d < c → link m d ≡ image (link_word d)
  link_is d less = pick (nat_lt d c) _ 0 (lt-ltb d c less) ∙ at_word (link_word d) (omega arith)

  head_is : (list : ℕ) → list < lists → head m list ≡ image (head_word list)
  head_is list less = pick (nat_lt list lists) _ 0 (lt-ltb list lists less) ∙ at_word (head_word list) (omega arith)

  -- its seat holds what the image has
  holds : (b : Block) → IsHeld v b → Contains o.held b
  holds b h = let own = (holds_exactly o.words o.held o.budget o.seats o.block_owners o.root_owners ready owners 0 b).0 h in
      (own.at, own.inside, own.is)

  held : (b : Block) → Contains o.held b → IsHeld v b
  held b there = (holds_exactly o.words o.held o.budget o.seats o.block_owners o.root_owners ready owners 0 b).1 (record {
    at = there.0;
    inside = there.1;
    is = there.2;
    owner = let least = owners.block_seats (get_or o.block_owners there.0 1) (
      there.0,
      (let l = owners.blocks in let less = there.1 in omega arith),
      get_or_default o.block_owners there.0
          (get_or o.block_owners there.0 1) 1 (let l = owners.blocks in let less = there.1 in omega arith),
    ) in omega (arith, least, one);
  })

  part_same : (d : ℕ) → ((b : Block) → IsHeld v b → HasPartIn c b d → ⊥) → (b : Block) → Contains o.held b → HasPartIn c b d → ⊥
  part_same d none b there part = none b (held b there) part

  room : used m ≤ c
  room = opened_good.shaped.durable.room

  drainable_now : (class : ℕ) → IsDrainable c image o.held class → IsDrainableNow c m v class
  drainable_now class drainable = record {
    each = λ d taken none. elim (drainable.each d (let u = used_is in omega (arith, taken, u)) (part_same d none)) [
      | inl now ↦ inl (info_is d (let r = room in omega arith) ∙ now)
      | inr free ↦ inr (record {
        descriptors = free.free;
        leads = subst (λ h. Follows (link m) c (head_first h) free.free) (sym (head_is 0 (omega arith)))
            (follows_same (λ e. image (link_word e)) (link m) c (head_first (image (head_word 0))) free.free
            (λ e there. link_is e (follows_below (λ x. image (link_word x)) c
            (head_first (image (head_word 0))) free.free e free.leads there)) free.leads);
        has = times_of d free.free free.has;
      })
    ];
  }

  free_now : (d : ℕ) → IsFreeSuperblock (layout_at c image) (Contains o.held) d → IsFreeSuperblock (layout_now c m) (IsHeld v) d
  free_now d free = record { taken = let t = free.taken in let u = used_is in omega (arith, t, u); empty = λ b h part. free.empty b (holds b h) part }

  free_then : (d : ℕ) → IsFreeSuperblock (layout_now c m) (IsHeld v) d → IsFreeSuperblock (layout_at c image) (Contains o.held) d
  free_then d free = record { taken = let t = free.taken in let u = used_is in omega (arith, t, u); empty = λ b h part. free.empty b (held b h) part }

  give_now : (class : ℕ) (b : Block) → IsToDrain c image o.held class b → IsToGive c m v class b
  give_now class b (beside _ d index is taken now of unkept not_free) = let u = used_is in
      beside b d index is (omega (arith, taken, u)) (info_is d (let r = room in omega (arith, taken, u, r)) ∙ now) of (λ h. unkept (holds b h))
      (λ free. not_free (free_then d free))
  give_now class b (freed _ d index is free of) = freed b d index is (free_now d free) of
  give_now class b (fresh _ d index is past within of) = let u = used_is in fresh b d index is (omega (arith, past, u)) within of

  give_then : (class : ℕ) (b : Block) → IsToGive c m v class b → IsToDrain c image o.held class b
  give_then class b (beside _ d index is taken now of unkept not_free) = let u = used_is in
      beside b d index is (omega (arith, taken, u)) (sym (info_is d (let r = room in omega (arith, taken, r))) ∙ now) of (λ h. unkept (held b h))
      (λ free. not_free (free_now d free))
  give_then class b (freed _ d index is free of) = freed b d index is (free_then d free) of
  give_then class b (fresh _ d index is past within of) = let u = used_is in fresh b d index is (omega (arith, past, u)) within of

  -- its last looks say what the words are
  reached_steady : (words : List ℕ) (w : View) → IsReached k (state_of o) words (w ∷ []) → w.offers ≡ 0 → Steady (memory_of c words) w
  reached_steady words w reached none = record {
    used_is = subst (IsSteady w w.used_look) (sym (at_now used_word (omega arith))) steady.0;
    heads = λ list less. subst (IsSteady w (get_or w.head_looks list w.used_look))
        (sym (pick (nat_lt list lists) _ 0 (lt-ltb list lists less) ∙ at_now (head_word list) (omega (arith, less)))) (steady.1 list less);
  } where
    n : ℕ
    n = image_words c

    words_long : length words ≡ 2 * n + 1
    words_long = (reached_sound k (state_of o) sound words (w ∷ []) reached).long

    now_long : length (take n words) ≡ n
    now_long = length-take-le n words (omega (arith, words_long))

    steady : IsSteady w w.used_look (slice_index (take n words) used_word) × ((list : ℕ) → list < lists
        → IsSteady w (get_or w.head_looks list w.used_look) (slice_index (take n words) (head_word list)))
    steady = left_steady o (take n words) (take n (drop n words)) w ready owners (record {
      now_long = now_long;
      kept_long = length-take-le n (drop n words) (let l = length-drop n words in omega (arith, words_long, l));
      drawn = get_or (drop n (drop n words)) 0 0;
      reached = subst (λ ws. IsReached k (state_of o) ws (w ∷ [])) (three_parts words n words_long) reached;
    }) none

    at_now : (x : ℕ) → x < n → get_or words x 0 ≡ slice_index (take n words) x
    at_now x less = ap (λ ws. get_or ws x 0) (three_parts words n words_long) ∙ get_or_append_left (take n words)
        (take n (drop n words) ++ (get_or (drop n (drop n words)) 0 0 ∷ [])) 0 x (omega (arith, now_long, less))

  module _ (class : ℕ) (is : IsClass class) (firsts : List ℕ) (w : View) (drained : HasDrained o class firsts w) where
    abbrev row : IsDrainRow class v firsts w
    row = drained.row

    abbrev words : List ℕ
    words = drained.has.words

    abbrev n : Memory
    n = memory_of c words

    so : Leaves class v firsts row.between
    so = leaves class v firsts row.between (let last = is.last in let l = (opened_good.set_up 0 v (omega arith) refl).small in
        omega (arith, last, l)) row.grants

    offers_none : w.offers ≡ 0
    offers_none = ap (λ (r : Role). r.offers) row.costs.role_is ∙ so.offers

    reached : IsReached k (state_of o) words (w ∷ [])
    reached = subst (IsReached k (state_of o) words) (alone o w one offers_none drained.has) drained.has.reached

    end : Good k n (w ∷ [])
    end = (reached_sound k (state_of o) sound words (w ∷ []) reached).good

    idle_now : IsIdle w
    idle_now = record {
      batch = ap (λ (p : Parts). p.batch) row.refused.parts_are ∙ so.batch;
      raw = ap (λ (p : Parts). p.raw) row.refused.parts_are ∙ so.raw;
      split = ap (λ (p : Parts). p.split) row.refused.parts_are ∙ so.split;
      cutting = ap (λ (p : Parts). p.cutting) row.refused.parts_are ∙ so.cutting;
      classed = ap (λ (p : Parts). p.classed) row.refused.parts_are ∙ so.classed;
    }

    small_same : w.small ≡ row.between.small
    small_same = ap (λ (p : Parts). p.small) row.refused.parts_are

    mine : of_class w.small class ≡ firsts ++ of_class v.small class
    mine = ap (λ l. of_class l class) small_same ∙ so.mine

    more : HoldsMore class v w
    more = record {
      setup = ap (λ (p : Parts). p.setup) row.refused.parts_are ∙ so.setup;
      large = ap (λ (p : Parts). p.large) row.refused.parts_are ∙ so.large;
      others = λ x other. ap (λ l. of_class l x) small_same ∙ so.others x other;
      kept = λ b there. let all = ap (times b) mine ∙ times_append b firsts (of_class v.small class) in omega arith;
    }

    no_caches : (x : ℕ) → of_class v.caches x ≡ []
    no_caches x = none_cached lists x

    dry : IsDry c n class w
    dry = record {
      spent = subst (λ x. IsSpent x n class w) (ap (λ (s : Setup). s.capacity) so.setup)
          (spent_by_looks class row.looks n row.between w is row.refused row.cache idle_now (reached_steady words w reached offers_none));
      caches = λ x x_is. ap (λ (p : Parts). of_class p.caches x) row.refused.parts_are
          ∙ elim (cases_eq x class) as (λ _. of_class row.between.caches x ≡ []) [
            | inl same ↦ ap (of_class row.between.caches) same ∙ row.cache
            | inr other ↦ so.caches x other ∙ no_caches x
          ];
    }

    -- each block of the class stands once in its list
    held_once : (b : ℕ) → times b (of_class w.small class) ≤ 1
    held_once b = elim (cases_lt 0 (times b (of_class w.small class))) as (λ _. times b (of_class w.small class) ≤ 1) [
      | inl there ↦
          let l = lies k n w end idle_now class b there in
          let one_owner = end.shaped.chained.owned l.d b l.cut (subst (λ x. IsCutBlock c x l.d b) (sym l.info_is)
          (record { index = l.index; below = l.of.below; at = l.of.at })) in
          let last = is.last in
          let lists_long = (end.set_up 0 w (omega arith) refl).small in
          let most = total_at (times b) w.small class (of_class w.small class) (omega (arith, last, lists_long))
          (get_or_default w.small class (of_class w.small class) [] (omega (arith, last, lists_long))) in
          omega (arith, one_owner, most)
      | inr never ↦ omega arith
    ]

    blocks : BlocksOf n w
    blocks = end.blocks 0 w (omega arith) refl

    -- what was granted is new
    not_before : (a : Block) → a.words ≡ words_of_class class → 0 < times a.first_word firsts → IsHeld v a → ⊥
    not_before a size there (a_small other first was) =
        let all = ap (times first) mine ∙ times_append first firsts (of_class v.small class) in
        let once = held_once first in
        let now : 0 < times first (of_class w.small other) = still_there other first was in
        let same : other ≡ class = sym (blocks.held other first now) ∙ blocks.held class first (omega arith) in
        let mine_too : 0 < times first (of_class v.small class) = subst (λ x. 0 < times first (of_class v.small x)) same was in
        omega arith where
          still_there : (x b : ℕ) → 0 < times b (of_class v.small x) → 0 < times b (of_class w.small x)
          still_there x b t = elim (cases_eq x class) as (λ _. 0 < times b (of_class w.small x)) [
            | inl same ↦ subst (λ y. 0 < times b (of_class w.small y)) (sym same) (more.kept b (subst (λ y. 0 < times b (of_class v.small y)) same t))
            | inr differs ↦ subst (λ bs. 0 < times b bs) (sym (more.others x differs)) t
          ]
    not_before a size there (a_large d many some count) = let few = few_words class is in omega arith

    given : (b : Block) → b.words ≡ words_of_class class → 0 < times b.first_word firsts → IsGiven class v w b
    given b size there = record {
      words = size;
      now = let all = ap (times b.first_word) mine ∙ times_append b.first_word firsts (of_class v.small class) in omega arith;
      new = λ h. not_before b size there h;
    }

    granted : (b : Block) → IsGiven class v w b → 0 < times b.first_word firsts
    granted b g = elim (cases_lt 0 (times b.first_word (of_class v.small class))) as (λ _. 0 < times b.first_word firsts) [
      | inl was ↦ absurd (g.new (subst (IsHeld v) (same_fields (record { first_word = b.first_word; words = words_of_class class }) b refl
          (sym g.words)) (a_small class b.first_word was)))
      | inr never ↦ let all = ap (times b.first_word) mine ∙ times_append b.first_word firsts (of_class v.small class) in
          let now = g.now in omega arith
    ]

    pub gives_exactly : IsDrainable c image o.held class → GivesExactly c class image o.held firsts
    gives_exactly drainable = record {
      sound = λ first there. give_then class (record { first_word = first; words = words_of_class class })
          (was_to_drain k m n v w opened_good opened_idle end class is dry more (record { first_word = first; words = words_of_class class })
          (given (record { first_word = first; words = words_of_class class }) refl there));
      complete = λ b to_give. granted b (has_given k m n v w opened_good opened_idle end class is dry more came (drainable_now class drainable) b
          (give_now class b to_give));
      once = λ first. let all = ap (times first) mine ∙ times_append first firsts (of_class v.small class) in
          let most = held_once first in omega arith;
    } where
      came : NoneCame c m n
      came = (reached_came k (state_of o) v sound (opened_counted o) only opened_idle words (w ∷ []) reached w refl offers_none
          (row.gives ∙ so.gives)).listed
