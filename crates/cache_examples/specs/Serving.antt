-- Worked examples by computation: what calls that are light, requests and freed blocks leave, and what they may cost.
use Rattle.std.proofs.Common.{◌≡◌, ◌≤◌, ◌+◌, ◌*◌, ◌/◌, ℕ, [], ◌∷◌, length, refl, ap, subst, arith}
use Rattle.std.specs.Prelude.{nat_le}
use Rattle.std.proofs.lemmas.Bool.{leb-true}
use Rattle.heap_model.specs.declared.block.Block.{Block}
use Rattle.heap_model.specs.Sizes.{IsLeastClassFor, class_sizes, size_of, blocks_of, words_of_class}
use Rattle.heap_model.proofs.SizeLemmas.{at_class}
use Rattle.core_model.specs.View.{View, of_class}
use Rattle.seat_costs.specs.Costs.{one_draw}
use Rattle.seat_costs.specs.Rows.{Passes}
use Rattle.thread_cache.specs.Requests.{by_class, by_span, light_free_costs, light_request, most_free_costs, of_a_class, request_costs}
use Rattle.thread_cache.specs.Small.{block_of}
use Rattle.thread_cache.specs.Serving.{IsLight, IsPutBack, IsServed}
use Rattle.cache_examples.specs.Blocks.{all_flushed, holds_fourth}
use Rattle.cache_examples.specs.Runs.{all_given}
use Rattle.cache_examples.specs.Seats.{before, heads, later, look_at, passed, with_cached, with_held}

-- what calls cost at most: of freeing a block, of putting it into its cache alone, of a request, and of one that cuts nothing
pub most_of_a_free : most_free_costs ≡ record { draws = 36866; credit = 0; wins = 8192; refund = 0; gives = 4096; cuts = 0; taken = 0; moves = 4096 }
most_of_a_free = refl

pub most_of_a_light_free : light_free_costs ≡ record { draws = 2; credit = 0; wins = 0; refund = 0; gives = 0; cuts = 0; taken = 0; moves = 0 }
most_of_a_light_free = refl

pub most_of_a_request : request_costs 100000 3 ≡ record { draws = 4108; credit = 0; wins = 2; refund = 0; gives = 0; cuts = 1; taken = 2; moves = 3 }
most_of_a_request = refl

pub most_of_a_light_request : light_request 100000 3 ≡ record {
  draws = 10;
  credit = 0;
  wins = 2;
  refund = 0;
  gives = 0;
  cuts = 0;
  taken = 2;
  moves = 3;
}
most_of_a_light_request = refl

-- 64 tickets are light, and 65 aren't
pub draws_64 : IsLight before (later 64 0 0 before)
draws_64 cuts gives taken large = omega arith

pub draws_65 : IsLight before (later 65 0 0 before) → ⊥
draws_65 light = let e : 69 ≤ 68 = light refl refl refl refl in omega (arith, e)

-- unless one exchange was lost, or one superblock moved: either pays for 16 and no more
pub lost_one : IsLight before (record (later 80 0 0 before) { losses = 1 }) × (IsLight before (record (later 81 0 0 before) { losses = 1 }) → ⊥)
lost_one = (λ cuts gives taken large. omega arith, λ light. let e : 85 ≤ 84 = light refl refl refl refl in omega (arith, e))

pub moved_one : IsLight before (record (later 80 0 0 before) { moves = 1 }) × (IsLight before (record (later 81 0 0 before) { moves = 1 }) → ⊥)
moved_one = (λ cuts gives taken large. omega arith, λ light. let e : 85 ≤ 84 = light refl refl refl refl in omega (arith, e))

-- of a call that cuts, gives or takes something, or holds a large block, IsLight says nothing
pub cuts_one : IsLight before (record (later 4000 0 0 before) { cuts = 1 })
cuts_one cuts gives taken large = let e : 1 ≡ 0 = cuts in omega (arith, e)

pub gives_one : IsLight before (later 4000 1 1 before)
gives_one cuts gives taken large = let e : 1 ≡ 0 = gives in omega (arith, e)

pub takes_one : IsLight before (record (later 4000 0 0 before) { taken = 1 })
takes_one cuts gives taken large = let e : 1 ≡ 0 = taken in omega (arith, e)

pub holds_one_more : IsLight before (record (later 4000 0 0 before) { large = record { first = 0; count = 1 } ∷ [] })
holds_one_more cuts gives taken large = let e : 1 ≡ 0 = ap length large in omega (arith, e)

-- class 20 is the least for 14,000 bytes
pub least_for_these : IsLeastClassFor 14000 20
unfolding size_of class_sizes
least_for_these = record {
  is_class = record { some = omega arith; last = omega arith };
  holds = omega arith;
  least = λ other is holds.
      let most : size_of other ≤ 12288 + 2048 * (other / 20) = leb-true (size_of other) (12288 + 2048 * (other / 20))
      (at_class (λ c. nat_le (size_of c) (12288 + 2048 * (c / 20))) refl other is) in
      omega (arith, is.last);
}

-- and no other class is
pub is_last : (class : ℕ) → IsLeastClassFor 14000 class → class ≡ 20
is_last class least =
    let low = least.least 20 least_for_these.is_class least_for_these.holds in
    let high = least_for_these.least class least.is_class least.holds in omega arith

-- the first of two cached blocks is given by one ticket
abbrev two_cached : View
two_cached = with_cached (1080 ∷ 2872 ∷ []) before

-- the seat that holds the first of them
abbrev gave_first : View
gave_first = with_held (1080 ∷ []) (with_cached (2872 ∷ []) (later 1 0 0 before))

pub served : IsServed 14000 two_cached gave_first
unfolding blocks_of class_sizes
served = record {
  light = λ cuts gives taken large. omega arith;
  block = block_of 20 1080;
  granted = by_class 20 least_for_these (record {
    going = refl;
    size = refl;
    cache = 2872 ∷ [];
    first = λ some. refl;
    short = omega arith;
    cut = λ cut. absurd (omega (arith, cut));
    parts_are = refl;
  });
  gives = refl;
  order = λ class least. record {
    cut = λ cut. absurd (omega (arith, cut));
    claimed = λ cut. omega (arith, cut);
    uncut = λ e. refl;
    fresh = λ taken. absurd (omega (arith, taken));
  };
  cached = λ class least some. passed one_draw 1 0 0 two_cached gave_first refl (omega arith) (omega arith) (omega arith) (omega arith);
  costs = passed (request_costs 14000 0) 1 0 0 two_cached gave_first refl (omega arith) (omega arith) (omega arith) (omega arith);
  uncut = λ uncut. passed (light_request 14000 0) 1 0 0 two_cached gave_first refl (omega arith) (omega arith) (omega arith) (omega arith);
  large = λ big. absurd (omega (arith, big));
}

-- not by two, and nor is the only one
pub served_by_two : IsServed 14000 two_cached (with_held (1080 ∷ []) (with_cached (2872 ∷ []) (later 2 0 0 before))) → ⊥
served_by_two is = let most : 6 ≤ 5 = (is.cached 20 least_for_these (omega arith)).most.draws in omega (arith, most)

pub only_one_by_two : IsServed 14000 (with_cached (1080 ∷ []) before) (with_held (1080 ∷ []) (later 2 0 0 before)) → ⊥
only_one_by_two is = let most : 6 ≤ 5 = (is.cached 20 least_for_these (omega arith)).most.draws in omega (arith, most)

-- an empty cache that was filled without a cut: ten tickets, and not eleven
abbrev filled_by : ℕ → View
filled_by draws = with_held (1080 ∷ []) (with_cached (4664 ∷ 2872 ∷ []) (later draws 2 0 before))

pub filled_by_ten : IsServed 14000 before (filled_by 10)
unfolding blocks_of class_sizes
filled_by_ten = record {
  light = λ cuts gives taken large. omega arith;
  block = block_of 20 1080;
  granted = by_class 20 least_for_these (record {
    going = refl;
    size = refl;
    cache = 4664 ∷ 2872 ∷ [];
    first = λ some. absurd (omega (arith, some));
    short = omega arith;
    cut = λ cut. absurd (omega (arith, cut));
    parts_are = refl;
  });
  gives = refl;
  order = λ class least. record {
    cut = λ cut. absurd (omega (arith, cut));
    claimed = λ cut. omega (arith, cut);
    uncut = λ e. refl;
    fresh = λ taken. absurd (omega (arith, taken));
  };
  cached = λ class least some. absurd (none_cached class least some);
  costs = passed (request_costs 14000 0) 10 2 0 before (filled_by 10) refl (omega arith) (omega arith) (omega arith) (omega arith);
  uncut = λ uncut. passed (light_request 14000 0) 10 2 0 before (filled_by 10) refl (omega arith) (omega arith) (omega arith) (omega arith);
  large = λ big. absurd (omega (arith, big));
} where
  none_cached : (class : ℕ) → IsLeastClassFor 14000 class → 1 ≤ length (of_class before.caches class) → ⊥
  none_cached class least some =
      let long : 1 ≤ length (of_class before.caches 20) = subst (λ c. 1 ≤ length (of_class before.caches c)) (is_last class least) some in
      omega (arith, long)

pub filled_by_eleven : IsServed 14000 before (filled_by 11) → ⊥
filled_by_eleven is = let most : 15 ≤ 14 = (is.uncut refl).most.draws in omega (arith, most)

-- nor with a cut by more than the most, nor with a give, nor with a cut where the list of the class had a superblock
pub filled_by_too_many : IsServed 14000 before (record (filled_by 4109) { cuts = 1 }) → ⊥
filled_by_too_many is = let most : 4113 ≤ 4112 = is.costs.most.draws in omega (arith, most)

pub filled_by_a_give : IsServed 14000 before (record (filled_by 10) { gives = 1 }) → ⊥
filled_by_a_give is = let e : 1 ≡ 0 = is.gives in omega (arith, e)

pub cut_beside_one : IsServed 14000 before (record (filled_by 10) { cuts = 1; wins = 1; head_looks = heads (look_at 2 5) (look_at 0 6) }) → ⊥
cut_beside_one is = let e : 2 ≡ 0 = ((is.order 20 least_for_these).cut (omega arith)).empty in omega (arith, e)

-- nor by a block that none asked for: 14,000 bytes take one of class 20
pub given_another : (b : Block) → b.words ≡ words_of_class 19 → (is : IsServed 14000 two_cached gave_first) → is.block ≡ b → ⊥
unfolding words_of_class class_sizes
given_another b words is same = elim is.granted [
  | by_class class least held ↦
      let size : is.block.words ≡ words_of_class class = held.size in
      let twenty : words_of_class class ≡ 1792 = ap words_of_class (is_last class least) in
      let short : b.words ≡ 1536 = words in
      let words_same : is.block.words ≡ b.words = ap (λ (c : Block). c.words) same in
      omega (arith, size, twenty, short, words_same)
  | by_span big held ↦ omega (arith, big)
]

-- a freed block goes into its cache by two tickets, and not by three
abbrev holds_one : View
holds_one = with_held (1080 ∷ []) (with_cached (2872 ∷ 4664 ∷ []) before)

-- the seat that has it cached, by so many tickets
abbrev freed_by : ℕ → View
freed_by draws = with_cached (1080 ∷ 2872 ∷ 4664 ∷ []) (later draws 0 0 before)

pub freed : IsPutBack (block_of 20 1080) holds_one (freed_by 2)
unfolding blocks_of class_sizes
freed = record {
  light = λ cuts gives taken large. omega arith;
  cuts = refl;
  costs = passed most_free_costs 2 0 0 holds_one (freed_by 2) refl (omega arith) (omega arith) (omega arith) (omega arith);
  cached = λ gives large. passed light_free_costs 2 0 0 holds_one (freed_by 2) refl (omega arith) (omega arith) (omega arith) (omega arith);
  given = of_a_class 20 (record { is_class = record { some = omega arith; last = omega arith }; words = refl; there = omega arith }) (record {
    going = refl;
    cache = 1080 ∷ 2872 ∷ 4664 ∷ [];
    kept = λ short. refl;
    flushed = λ long. absurd (omega (arith, long));
    gave = λ long. omega (arith, long);
    gives = λ long. omega (arith, long);
    by = λ long. absurd (omega (arith, long));
    short = omega arith;
    parts_are = refl;
  });
}

pub freed_by_three : IsPutBack (block_of 20 1080) holds_one (freed_by 3) → ⊥
freed_by_three is = let most : 7 ≤ 6 = (is.cached refl refl).most.draws in omega (arith, most)

-- nor with a cut, or with a superblock taken: a free costs neither
pub freed_by_a_cut : IsPutBack (block_of 20 1080) holds_one (record (freed_by 2) { cuts = 1 }) → ⊥
freed_by_a_cut is = let e : 1 ≡ 0 = is.cuts in omega (arith, e)

pub costs_of_a_cut : Passes most_free_costs holds_one (record (freed_by 2) { cuts = 1 }) → ⊥
costs_of_a_cut passes = let most : 1 ≤ 0 = passes.most.cuts in omega (arith, most)

pub costs_of_a_take : Passes most_free_costs holds_one (record (freed_by 2) { taken = 1 }) → ⊥
costs_of_a_take passes = let most : 1 ≤ 0 = passes.most.taken in omega (arith, most)

-- nor by more than the most tickets
pub freed_by_too_many : IsPutBack (block_of 20 1080) holds_one (record (freed_by 36867) { gives = 1 }) → ⊥
freed_by_too_many is = let most : 36871 ≤ 36870 = is.costs.most.draws in omega (arith, most)

-- the fourth block flushes the cache by fifteen tickets, two exchanges and two batches
pub freed_by_a_flush : IsPutBack (block_of 20 1080) holds_fourth all_given
freed_by_a_flush = record {
  light = λ cuts gives taken large. let e : 2 ≡ 0 = gives in omega (arith, e);
  cuts = refl;
  costs = passed most_free_costs 15 2 2 holds_fourth all_given refl (omega arith) (omega arith) (omega arith) (omega arith);
  cached = λ gives. let e : 2 ≡ 0 = gives in absurd (omega (arith, e));
  given = of_a_class 20 (record { is_class = record { some = omega arith; last = omega arith }; words = refl; there = omega arith }) all_flushed;
}
