-- What a seat keeps to tell its own words, after it offered or accepted a small block.
use Rattle.std.proofs.Common.{◌≡◌, ◌≢◌, ℕ, ◌+◌, ◌<◌, ◌≤◌, inl, inr, Bool, true, false, cond, not, nat_eq, nat_lt, List, [], ◌∷◌, ◌++◌, Contains, get_or, set, length, refl, ap, sym, subst, ◌∙◌, ne_eqb, eqb-true, length-set, Vec, Global, arith}
use Rattle.std.proofs.lemmas.Bool.{cases_eq, cases_lt}
use Rattle.std.proofs.lemmas.List.{get_or-set_same, get_or-set_other, get_or_default}
use Rattle.heap_model.specs.declared.block.Block.{Block}
use Rattle.heap_model.specs.Geometry.{image_words, start_word, superblock_of}
use Rattle.heap_model.specs.Counting.{times, total, one_if}
use Rattle.heap_model.proofs.MemberLemmas.{head_or_rest, in_head, in_rest}
use Rattle.core_model.specs.Carriers.{accepted, both_lists, carrier_of, offered}
use Rattle.core_model.specs.Memory.{Memory, memory_of, info, used}
use Rattle.core_model.specs.Sound.{Good}
use Rattle.core_model.specs.Splitting.{chosen, chosen_lists, chosen_spans}
use Rattle.core_model.specs.View.{View, Span, of_class, takes, times_block, times_large}
use Rattle.core_model.proofs.BothLemmas.{both_class, both_times}
use Rattle.core_model.proofs.HeldOnceLemmas.{held_once}
use Rattle.core_model.proofs.RangeLemmas.{range_is}
use Rattle.core_model.proofs.OwnLemmas.{one_at_most}
use Rattle.core_model.proofs.OwnerLemmas.{in_lists_total}
use Rattle.core_model.proofs.ChosenLemmas.{lists_all, lists_less, lists_only}
use Rattle.core_model.proofs.TotalLemmas.{total_at, total_where, eq-eqb-one, ne-eqb-none}
use Rattle.heap_table.specs.Plays.{HasSoundState}
use Rattle.seat_index.proofs.ViewBlocks.{block_below, block_range}
use Rattle.seat_index.specs.Holdings.{HoldsOneSmall, HoldsSmall}
use Rattle.seat_index.specs.declared.owned.Owned.{Owned}
use Rattle.seat_index.specs.Owned.{AreClasses, HasOwned, IsMarking, parts_of, times_had}
use Rattle.seat_index.proofs.BlockMarks.{marked_less, marked_more}

-- the list without the block, and the block alone
without_it : (b n : ℕ) (xs : List ℕ) → n ≢ b → times n (chosen (λ x. not (nat_eq x b)) xs) ≡ times n xs
without_it b n [] other = refl
without_it b n (x ∷ xs) other = by_test (nat_eq x b) refl (without_it b n xs other) where
  by_test : (t : Bool) → nat_eq x b ≡ t → times n (chosen (λ y. not (nat_eq y b)) xs) ≡ times n xs
      → times n (cond (not t) (x ∷ chosen (λ y. not (nat_eq y b)) xs) (chosen (λ y. not (nat_eq y b)) xs)) ≡ one_if (nat_eq x n) + times n xs
  by_test true e rest = let z = ne-eqb-none x n (λ same. other (sym same ∙ eqb-true x b e)) in omega arith
  by_test false e rest = omega arith

none_of_it : (b : ℕ) (xs : List ℕ) → times b (chosen (λ x. not (nat_eq x b)) xs) ≡ 0
none_of_it b [] = refl
none_of_it b (x ∷ xs) = by_test (nat_eq x b) refl (none_of_it b xs) where
  by_test : (t : Bool) → nat_eq x b ≡ t → times b (chosen (λ y. not (nat_eq y b)) xs) ≡ 0
      → times b (cond (not t) (x ∷ chosen (λ y. not (nat_eq y b)) xs) (chosen (λ y. not (nat_eq y b)) xs)) ≡ 0
  by_test true e rest = rest
  by_test false e rest = let z = ap one_if e in omega arith

lists_without : (b n : ℕ) (xss : List (List ℕ)) → n ≢ b → total (times n) (chosen_lists (λ x. not (nat_eq x b)) xss) ≡ total (times n) xss
lists_without b n [] other = refl
lists_without b n (xs ∷ xss) other = let here = without_it b n xs other in let rest = lists_without b n xss other in omega arith

lists_none : (b : ℕ) (xss : List (List ℕ)) → total (times b) (chosen_lists (λ x. not (nat_eq x b)) xss) ≡ 0
lists_none b [] = refl
lists_none b (xs ∷ xss) = let here = none_of_it b xs in let rest = lists_none b xss in omega arith

pub all_roots : (roots : List ℕ) → chosen (λ i. true) roots ≡ roots
all_roots [] = refl
all_roots (x ∷ roots) = ap (λ l. x ∷ l) (all_roots roots)

pub all_spans : (test : ℕ → Bool) (spans : List Span) → ((span : Span) → Contains spans span → test span.first ≡ true) → chosen_spans test spans ≡ spans
all_spans test [] each = refl
all_spans test (span ∷ spans) each = ap (λ t. cond t (span ∷ chosen_spans test spans) (chosen_spans test spans))
    (each span (in_head span spans)) ∙ ap (λ l. span ∷ l) (all_spans test spans (λ s there. each s (in_rest span s spans there)))

-- a span of the list takes its first superblock
pub span_takes : (spans : List Span) (span : Span) → ((s : Span) → Contains spans s → 1 ≤ s.count) → Contains spans span
    → 0 < times_large span.first spans
span_takes [] span counted there = absurd (let l = there.1 in omega arith)
span_takes (s ∷ spans) span counted there = elim (head_or_rest s span spans there) as (λ _. 0 < times_large span.first (s ∷ spans)) [
  | inl same ↦ let r = range_is s.first s.count s.first (omega arith) (let c = counted s (in_head s spans) in omega arith) in
      let e = ap (λ (x : Span). one_if (takes x.first s)) same in omega arith
  | inr later ↦ let rest = span_takes spans span (λ t at. counted t (in_rest s t spans at)) later in omega arith
]

module _ (v : View) (s : HasSoundState v) (b : Block) (class : ℕ) (small : HoldsSmall v b class) where
  abbrev m : Memory
  m = memory_of v.setup.capacity s.words

  abbrev good : Good v.setup m s.views
  good = s.sound.good

  in_lists : total (times b.first_word) v.small ≡ 1
  in_lists = let t = in_lists_total b.first_word class v.small small.held in
      let all = total_at (times_block b.first_word) s.views s.seat v s.below s.at in
      let once = (held_once v.setup s.words s.views s.sound).small b.first_word in omega arith

  no_other : (total (times b.first_word) v.caches ≡ 0) × (times b.first_word v.batch.blocks ≡ 0)
  no_other = let t = in_lists in let all = total_at (times_block b.first_word) s.views s.seat v s.below s.at in
      let once = (held_once v.setup s.words s.views s.sound).small b.first_word in (omega arith, omega arith)

  -- no large block takes the superblock of a small one
  no_span : times_large (superblock_of v.setup.capacity b.first_word) v.large ≡ 0
  no_span = let d = superblock_of v.setup.capacity b.first_word in let t = in_lists in
      let all = total_at (times_block b.first_word) s.views s.seat v s.below s.at in
      let cut = (good.shaped.chained.inside b.first_word (omega arith)).0 in let p = good.shaped.placed.one_place d in
      let most = one_at_most (nat_lt d (used m)) in
      let large = total_at (λ (u : View). times_large d u.large) s.views s.seat v s.below s.at in omega arith

  large_same : chosen_spans (λ d. not (nat_eq d (superblock_of v.setup.capacity b.first_word))) v.large ≡ v.large
  large_same = all_spans (λ d. not (nat_eq d (superblock_of v.setup.capacity b.first_word))) v.large
      (λ span there. elim (cases_eq span.first (superblock_of v.setup.capacity b.first_word)) [
        | inl here ↦ absurd (let t = span_takes v.large span (good.claims s.seat v s.below s.at).some there in let z = no_span in
            let e = ap (λ d. times_large d v.large) here in omega arith)
        | inr other ↦ ap not (ne_eqb span.first (superblock_of v.setup.capacity b.first_word) other)
      ])

  pub offer_owned : (o : Owned) (blocks : List Bool) → HasOwned o (parts_of v) → IsMarking o.blocks blocks (b.first_word ∷ []) false
      → HasOwned (record o { blocks = blocks }) (parts_of (offered v b.first_word))
  offer_owned o blocks own marking = subst (λ (x : List Span × List ℕ). HasOwned (record o { blocks = blocks })
      (record (parts_of v) { small = left; large = x.0; roots = x.1 })) (λ i. (sym large_same i, sym (all_roots v.roots) i)) (record {
        words_long = marking.long ∙ own.words_long;
        classes_long = own.classes_long;
        ownerships_long = own.ownerships_long;
        roots_long = own.roots_long;
        blocks = marked_less o.blocks blocks (λ n. times_had n (parts_of v)) (λ n. times_had n (record (parts_of v) { small = left }))
            (b.first_word ∷ []) marking share once own.blocks;
        classes = let c = own.classes in record {
          held = λ class n there. c.held class n (let l = lists_less (λ x. not (nat_eq x b.first_word)) n class v.small in omega arith);
          cached = c.cached;
          batched = c.batched;
        };
        ownerships = λ e. let x = own.ownerships e in record {
          unclassed = x.unclassed;
          is_classed = x.is_classed;
          class = x.class;
          is_large = x.is_large;
          count = x.count;
        };
        roots_are = own.roots_are;
        batch = own.batch;
        room = own.room;
        stacks = own.stacks;
      }) where
        left : List (List ℕ)
        left = chosen_lists (λ x. not (nat_eq x b.first_word)) v.small

        once : (n : ℕ) → times_had n (parts_of v) ≤ 1
        once n = let all = total_at (times_block n) s.views s.seat v s.below s.at in let h = (held_once v.setup s.words s.views s.sound).small n in
            omega arith

        share : (n : ℕ) → times_had n (record (parts_of v) { small = left }) + times n (b.first_word ∷ []) ≡ times_had n (parts_of v)
        share n = elim (cases_eq n b.first_word) as (λ _. times_had n (record (parts_of v) { small = left }) + times n
            (b.first_word ∷ []) ≡ times_had n (parts_of v)) [
              | inl same ↦ subst (λ x. times_had x (record (parts_of v) { small = left }) + times x (b.first_word ∷ []) ≡ times_had x (parts_of v)) (sym same)
                  (let z = lists_none b.first_word v.small in let one = in_lists in let e = eq-eqb-one b.first_word b.first_word refl in omega arith)
              | inr other ↦ let z = lists_without b.first_word n v.small other in let e = ne-eqb-none b.first_word n (λ x. other (sym x)) in omega arith
            ]

-- a seat that accepts a small block, whatever it has of its superblock
module _ (v u : View) (b : Block) (class : ℕ) (alone : HoldsOneSmall u b class) (s : HasSoundState (accepted v u)) where
  abbrev after : Good v.setup (memory_of v.setup.capacity s.words) s.views
  after = s.sound.good

  abbrev d : ℕ
  d = superblock_of v.setup.capacity b.first_word

  -- its class is that of the superblock
  class_is : info (memory_of v.setup.capacity s.words) d ≡ class
  class_is = let found = total_where (times b.first_word) u.small (let o = alone.once b.first_word in
      let e = eq-eqb-one b.first_word b.first_word refl in omega arith) in
      let has : 0 < times b.first_word (of_class u.small found.0) = subst (λ l. 0 < times b.first_word l)
      (sym (get_or_default u.small found.0 [] found.1 found.2 ∙ found.3)) found.4 in
      let of_class_is : found.0 ≡ class = alone.in_class found.0 b.first_word has in
      (after.blocks s.seat (accepted v u) s.below s.at).held class b.first_word (let both = both_class b.first_word class u.small v.small in
      let e = ap (λ c. times b.first_word (of_class u.small c)) of_class_is in omega arith)

  same_class : (of n : ℕ) → info (memory_of v.setup.capacity s.words) (superblock_of v.setup.capacity n) ≡ of
      → superblock_of v.setup.capacity n ≡ d → of ≡ class
  same_class of n is here = sym is ∙ ap (info (memory_of v.setup.capacity s.words)) here ∙ class_is

  there : (classes : List ℕ) (of n : ℕ) → d < length classes → info (memory_of v.setup.capacity s.words) (superblock_of v.setup.capacity n) ≡ of
      → get_or classes (superblock_of v.setup.capacity n) 0 ≡ of
      → get_or (set classes d class) (superblock_of v.setup.capacity n) 0 ≡ of
  there classes of n less is old = elim (cases_eq (superblock_of v.setup.capacity n) d) as
      (λ _. get_or (set classes d class) (superblock_of v.setup.capacity n) 0 ≡ of) [
        | inl here ↦ ap (λ e. get_or (set classes d class) e 0) here ∙ get_or-set_same classes d class 0 less ∙ sym (same_class of n is here)
        | inr other ↦ get_or-set_other classes d (superblock_of v.setup.capacity n) class 0 other ∙ old
      ]

  pub accept_owned : (o : Owned) (blocks : List Bool) (classes : Vec ℕ Global) → HasOwned o (parts_of v) → d < length o.classes.items
      → IsMarking o.blocks blocks (b.first_word ∷ []) true → classes.items ≡ set o.classes.items d class
      → HasOwned (record o { blocks = blocks; classes = classes }) (parts_of (accepted v u))
  accept_owned o blocks classes own less marking classes_are = subst
      (λ l. HasOwned (record o { blocks = blocks; classes = classes })
      (record (parts_of v) { small = both_lists u.small v.small; large = l ++ v.large })) (sym alone.none_large) (record {
        words_long = marking.long ∙ own.words_long;
        classes_long = ap length classes_are ∙ length-set o.classes.items d class ∙ own.classes_long;
        ownerships_long = own.ownerships_long;
        roots_long = own.roots_long;
        blocks = marked_more o.blocks blocks (λ n. times_had n (parts_of v))
            (λ n. times_had n (record (parts_of v) { small = both_lists u.small v.small })) (b.first_word ∷ []) marking
            (λ n. let t = both_times n u.small v.small in let one = alone.once n in omega arith) own.blocks;
        classes = subst (λ l. AreClasses l (record (parts_of v) { small = both_lists u.small v.small })) (sym classes_are)
            (record { held = held; cached = cached; batched = batched });
        ownerships = λ e. let x = own.ownerships e in record {
          unclassed = x.unclassed;
          is_classed = x.is_classed;
          class = x.class;
          is_large = x.is_large;
          count = x.count;
        };
        roots_are = own.roots_are;
        batch = own.batch;
        room = own.room;
        stacks = own.stacks;
      }) where
        held : (of n : ℕ) → 0 < times n (of_class (both_lists u.small v.small) of)
            → get_or (set o.classes.items d class) (superblock_of v.setup.capacity n) 0 ≡ of
        held of n some = elim (cases_lt 0 (times n (of_class u.small of))) as
            (λ _. get_or (set o.classes.items d class) (superblock_of v.setup.capacity n) 0 ≡ of) [
              | inl theirs ↦ let here = it_is n (let t = in_lists_total n of u.small theirs in let one = alone.once n in omega arith) in
                  ap (λ x. get_or (set o.classes.items d class) (superblock_of v.setup.capacity x) 0) here
                  ∙ get_or-set_same o.classes.items d class 0 less ∙ sym (alone.in_class of n theirs)
              | inr none ↦ let both = both_class n of u.small v.small in there o.classes.items of n less
                  ((after.blocks s.seat (accepted v u) s.below s.at).held of n some) (own.classes.held of n (omega arith))
            ] where
              it_is : (x : ℕ) → 0 < times x (b.first_word ∷ []) → x ≡ b.first_word
              it_is x there_is = elim (cases_eq b.first_word x) [
                | inl same ↦ sym same
                | inr other ↦ absurd (let z = ne-eqb-none b.first_word x other in
                    omega arith)
              ]

        cached : (of n : ℕ) → 0 < times n (of_class v.caches of) → get_or (set o.classes.items d class) (superblock_of v.setup.capacity n) 0 ≡ of
        cached of n some = there o.classes.items of n less ((after.blocks s.seat (accepted v u) s.below s.at).cached of n some)
            (own.classes.cached of n some)

        batched : (n : ℕ) → 0 < times n v.batch.blocks → get_or (set o.classes.items d class) (superblock_of v.setup.capacity n) 0 ≡ v.batch.class
        batched n some = let q = (after.blocks s.seat (accepted v u) s.below s.at).batched n some in
            there o.classes.items v.batch.class n less (ap (info (memory_of v.setup.capacity s.words)) q.0 ∙ q.1) (own.classes.batched n some)

pub one_marked : (old : List Bool) (n : ℕ) (mark : Bool) → n < length old → IsMarking old (set old n mark) (n ∷ []) mark
one_marked old n mark less = record {
  long = length-set old n mark;
  inside = λ x here. elim (cases_eq n x) as (λ _. get_or (set old n mark) x false ≡ mark) [
    | inl same ↦ ap (λ y. get_or (set old n mark) y false) (sym same) ∙ get_or-set_same old n mark false less
    | inr other ↦ absurd (let z = ne-eqb-none n x other in omega arith)
  ];
  outside = λ x out. get_or-set_other old n x mark false (λ same. let e = eq-eqb-one n x (sym same) in omega (arith, e, out));
}

-- where a block that is a seat's stands
pub block_there : (v : View) (s : HasSoundState v) (b : ℕ) → 0 < times_block b v → (start_word v.setup.capacity 0 ≤ b)
    × (b < image_words v.setup.capacity) × (superblock_of v.setup.capacity b < v.setup.capacity)
block_there v s b own = let r = block_range v s b own in let p = r.0 in let q = r.1 in (p, omega arith, block_below v s b own)

pub small_own : (v : View) (b : Block) (class : ℕ) → HoldsSmall v b class → 0 < times_block b.first_word v
small_own v b class small = let t = in_lists_total b.first_word class v.small small.held in omega arith

pub alone_own : (v u : View) (b : Block) (class : ℕ) → HoldsOneSmall u b class → 0 < times_block b.first_word (accepted v u)
alone_own v u b class alone = let t = both_times b.first_word u.small v.small in let o = alone.once b.first_word in
    let e = eq-eqb-one b.first_word b.first_word refl in omega arith

-- the carrier of a small block
pub no_spans : (test : ℕ → Bool) (spans : List Span) → ((span : Span) → Contains spans span → test span.first ≡ false) → chosen_spans test spans ≡ []
no_spans test [] each = refl
no_spans test (span ∷ spans) each = ap (λ t. cond t (span ∷ chosen_spans test spans) (chosen_spans test spans)) (each span (in_head span spans))
    ∙ no_spans test spans (λ s there. each s (in_rest span s spans there))

pub carrier_alone : (v : View) (s : HasSoundState v) (b : Block) (class : ℕ) → HoldsSmall v b class → HoldsOneSmall (carrier_of v b.first_word) b class
carrier_alone v s b class small = record {
  is = small.is;
  once = λ n. elim (cases_eq n b.first_word) as (λ _. total (times n) (chosen_lists (λ x. nat_eq x b.first_word) v.small) ≡ times n
      (b.first_word ∷ [])) [
        | inl here ↦ subst (λ x. total (times x) (chosen_lists (λ y. nat_eq y b.first_word) v.small) ≡ times x (b.first_word ∷ [])) (sym here)
            (let a = lists_all b.first_word v.small in let one = in_lists v s b class small in let e = eq-eqb-one b.first_word b.first_word refl in
            omega arith)
        | inr other ↦ let z = lists_only b.first_word n v.small other in let e = ne-eqb-none b.first_word n (λ x. other (sym x)) in omega arith
      ];
  in_class = λ of n there. elim (cases_eq n b.first_word) [
    | inl here ↦ let has : 0 < times b.first_word (of_class v.small of) =
        (let l = lists_less (λ x. nat_eq x b.first_word) b.first_word of v.small in
        let e = ap (λ x. times x (of_class (chosen_lists (λ y. nat_eq y b.first_word) v.small) of)) here in omega arith) in
        sym ((s.sound.good.blocks s.seat v s.below s.at).held of b.first_word has)
        ∙ (s.sound.good.blocks s.seat v s.below s.at).held class b.first_word small.held
    | inr other ↦ absurd (let t = in_lists_total n of (chosen_lists (λ x. nat_eq x b.first_word) v.small) there in
        let z = lists_only b.first_word n v.small other in omega arith)
  ];
  none_large = no_spans (λ d. nat_eq d (superblock_of v.setup.capacity b.first_word)) v.large
      (λ span there. ne_eqb span.first (superblock_of v.setup.capacity b.first_word)
      (λ here. let t = span_takes v.large span (s.sound.good.claims s.seat v s.below s.at).some there in let z = no_span v s b class small in
      let e = ap (λ d. times_large d v.large) here in omega (arith, t, z, e)));
}
