-- Too few superblocks for a large block: only `used` was looked at.
use Rattle.std.proofs.Common.{◌≡◌, ℕ, ◌+◌, ◌-◌, ◌<◌, ◌≤◌, Option, None, MatchOption, get_or, set, refl, ap, sym, subst, ◌∙◌, arith}
use Rattle.heap_model.specs.Geometry.{used_word}
use Rattle.line_memory.specs.View.{View, volatile_at, durable_at}
use Rattle.heap_seat.specs.declared.look.Look.{Look}
use Rattle.block_heap.specs.declared.superblocks.Fresh.{Fresh}
use Rattle.block_heap.specs.Accounts.{AreAccounted}
use Rattle.block_heap.specs.Links.{IsFresh}
use Rattle.block_heap.specs.Medium.{StoresOnly}
use Rattle.block_heap.specs.Parts.{Parts, OnlyLooks, image_of, held_in}
use Rattle.block_heap.specs.Large.{JoinsAs}
use Rattle.block_heap.specs.Steps.{IsLook}
use Rattle.block_heap.specs.Running.{IsRunning, LeavesHeld}
use Rattle.block_heap.proofs.AccountLemmas.{accounted_same}
use Rattle.block_heap.proofs.RunningLemmas.{running_words}
use Rattle.block_heap.proofs.LookLemmas.{IsNextLook, looked_at_used}
use Rattle.block_heap.proofs.StableLemmas.{as_allocator_of}

-- what was found where too few superblocks were left
fresh_none : (capacity count : ℕ) (fresh : Fresh) (v w : View) → IsFresh capacity count fresh v w → fresh.first ≡ None
    → (w.volatile ≡ v.volatile) × (capacity < fresh.used + count) × StoresOnly (λ _. ⊥) v w
fresh_none capacity count fresh v w is none =
    subst (λ (first : Option ℕ). MatchOption first ((w.volatile ≡ v.volatile) × (capacity < fresh.used + count) × StoresOnly (λ _. ⊥) v w)
    (λ d. (d ≡ fresh.used) × (fresh.used + count ≤ capacity)
    × (w.volatile ≡ set v.volatile used_word (fresh.used + count)) × (durable_at w used_word ≡ fresh.used + count))) none is.words

-- parts that looked at `used` and took nothing
pub running_looked : (p : Parts) (count : ℕ) (fresh : Fresh) (u : View) (look : Look) → IsRunning p → IsFresh p.capacity count fresh p.words u
    → fresh.first ≡ None
    → look.seen ≡ fresh.used → look.taken ≡ p.taken → IsRunning (record p { words = u; used_look = look })
running_looked p count fresh u look run is none seen when =
    let got = fresh_none p.capacity count fresh p.words u is none in
    let now = running_words p u (λ _. ⊥) run is.runs_within.running got.0 got.2 (λ d below t. t) (λ t. t) is.runs_within.below in
    let same : volatile_at u used_word ≡ image_of p used_word = ap (λ xs. get_or xs used_word 0) got.0 in
    let used = is.used in
    record {
      words_open = now.words_open;
      below = now.below;
      bounded = now.bounded;
      caches_long = now.caches_long;
      looks_long = now.looks_long;
      shape = now.shape;
      is = now.is;
      caches = now.caches;
      sizes = now.sizes;
      settled = now.settled;
      pops = now.pops;
      knows = omega arith;
      few = now.few;
    }

-- and no superblock is lost
pub looked_accounted : (p : Parts) (count : ℕ) (fresh : Fresh) (u : View) (look : Look) → IsFresh p.capacity count fresh p.words u → fresh.first ≡ None
    → AreAccounted p → AreAccounted (record p { words = u; used_look = look })
looked_accounted p count fresh u look is none =
    accounted_same p (record p { words = u; used_look = look }) refl (fresh_none p.capacity count fresh p.words u is none).0 refl

-- nor is anything stored
pub looked_only : (p : Parts) (count : ℕ) (fresh : Fresh) (u : View) (look : Look) → IsFresh p.capacity count fresh p.words u → fresh.first ≡ None
    → u.drawn ≡ p.words.drawn + 1 → OnlyLooks 1 p (record p { words = u; used_look = look })
looked_only p count fresh u look is none one =
    let got = fresh_none p.capacity count fresh p.words u is none in
    record { volatile = got.0; stores = got.2; capacity = refl; caches = refl; blocks = refl; taken = refl; drawn = one }

pub looked_is : (p : Parts) (count : ℕ) (fresh : Fresh) (u : View) (look : Look) → IsFresh p.capacity count fresh p.words u → fresh.first ≡ None
    → look.seen ≡ fresh.used → IsNextLook p look → u.drawn ≡ p.words.drawn + 1
    → IsLook p.words.drawn (record p { words = u; used_look = look }) look (volatile_at u used_word)
looked_is p count fresh u look is none seen next one =
    let same : volatile_at u used_word ≡ image_of p used_word =
    ap (λ xs. get_or xs used_word 0) (fresh_none p.capacity count fresh p.words u is none).0 in
    record {
      seen_is = seen ∙ is.used ∙ sym same;
      ticket = p.words.drawn;
      by = next.by;
      since = omega arith;
      until = omega arith;
      taken_is = next.taken;
    }

pub looked_joins : (p : Parts) (count : ℕ) (fresh : Fresh) (u : View) (look : Look) → IsFresh p.capacity count fresh p.words u → fresh.first ≡ None
    → look.seen ≡ fresh.used → IsNextLook p look → u.drawn ≡ p.words.drawn + 1
    → JoinsAs count None p (record p { words = u; used_look = look })
looked_joins p count fresh u look is none seen next one =
    let got = fresh_none p.capacity count fresh p.words u is none in
    let used = is.used in (
      refl,
      omega (arith, got.1),
      ap (λ xs. get_or xs used_word 0) got.0,
      looked_is p count fresh u look is none seen next one,
      refl,
      looked_only p count fresh u look is none one,
    )

pub leaves_held_looked : (p : Parts) (count : ℕ) (fresh : Fresh) (u : View) (look : Look) → IsRunning p
    → IsFresh p.capacity count fresh p.words u → fresh.first ≡ None
    → look.seen ≡ fresh.used → look.taken ≡ p.taken → IsNextLook p look → LeavesHeld (held_in p) p (record p { words = u; used_look = look })
leaves_held_looked p count fresh u look run is none seen when next =
    let got = fresh_none p.capacity count fresh p.words u is none in
    let knows = run.knows in
    let used = is.used in
    record {
      capacity = refl;
      as_allocator = (as_allocator_of p.capacity (held_in p) (λ _. ⊥) p.words u (λ word t. absurd t) (λ t. t) got.2 run.settled.used).0;
      knows = omega arith;
      taken = omega arith;
      looks = looked_at_used p (record p { words = u; used_look = look }) look next is.runs_within.drew (omega arith) refl refl;
    }
