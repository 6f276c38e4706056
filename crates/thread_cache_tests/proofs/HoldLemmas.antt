-- What the seats of the tests are at first, and what each call leaves of what they hold.
use Rattle.std.proofs.Common.{inl, inr, ◌≡◌, ◌<◌, ◌%◌, ◌+◌, ℕ, List, [], ◌∷◌, ◌++◌, Contains, length, get_or, ap, sym, subst, ◌∙◌, arith}
use Rattle.std.specs.List.{swap_remove}
use Rattle.std.specs.List.Sorted.{IsPermutation}
use Rattle.std.proofs.lemmas.List.Elements.{All-contains, Contains-push_cases}
use Rattle.std.proofs.lemmas.List.Sorted.{Contains-permutation, IsPermutation-swap_remove, IsPermutation-sym}
use Rattle.heap_model.specs.declared.block.Block.{Block}
use Rattle.heap_model.proofs.MemberLemmas.{in_rest}
use Rattle.heap_seat.specs.View.{View}
use Rattle.heap_seat.specs.Alloc.{Adds}
use Rattle.heap_seat.specs.Free.{MayHaveFreed}
use Rattle.heap_rule.specs.Seated.{SeatView}
use Rattle.seat_model.specs.CacheState.{CacheValue, held_blocks}
use Rattle.seat_model.proofs.ListedBlocks.{listed}
use Rattle.thread_cache.specs.Keeps.{KeepsSeat}
use Rattle.thread_cache_tests.specs.Holding.{AreRootsOf, HasRootsOf, Holds, IsNoneOf, OwnsRoots, anything}
use Rattle.std.proofs.lemmas.List.{get_or_append_left, length-append}
use Rattle.std.proofs.Math.Seq.{get_or-append_seam}
use Rattle.heap_model.specs.Counting.{times}
use Rattle.heap_model.specs.Geometry.{roots}
use Rattle.heap_model.specs.Rest.{IsReady}
use Rattle.heap_model.proofs.CountingLemmas.{times_some}
use Rattle.core_model.specs.Opening.{AreOwners, opened_view, setup_of}
use Rattle.core_model.specs.View.{Setup, View as CoreView}
use Rattle.core_model.proofs.OpenedHeldLemmas.{holds_exactly}
use Rattle.core_model.proofs.RootLemmas.{owns_root}

-- one of them is freed
pub holds_less : (given left : List Block) (b : Block) (i : ℕ) (v w : View) → MayHaveFreed b v w → IsNoneOf b left → i < length given
    → b ≡ get_or given i b → left ≡ swap_remove given i b
    → Holds v.held given → Holds w.held left
holds_less given left b i v w frees none less at is holds = record {
  each = λ a has. frees.keeps a (holds.each a (Contains-permutation (b ∷ left) given a (IsPermutation-sym given (b ∷ left) moves)
      (in_rest b a left has))) (none a has);
} where
  moves : IsPermutation given (b ∷ left)
  moves = subst (λ l. IsPermutation given (b ∷ l)) (sym is) (IsPermutation-swap_remove given i b less at)

-- one more of the held blocks is given
pub holds_also : (held given more : List Block) (b : Block) → Contains held b → more ≡ given ++ b ∷ [] → Holds held given → Holds held more
holds_also held given more b has is holds = record {
  each = λ a there. elim (Contains-push_cases given b a (subst (λ l. Contains l a) is there)) [
    | inl old ↦ holds.each a old
    | inr same ↦ subst (Contains held) same has
  ];
}

-- the blocks that were held are, and one that is new too
pub holds_still : (given : List Block) (b : Block) (v w : View) → Adds b v w → Holds v.held given → Holds w.held given
holds_still given b v w adds holds = record { each = λ a has. adds.keeps a (holds.each a has) }

pub holds_more : (given more : List Block) (b : Block) (v w : View) → Adds b v w → more ≡ given ++ b ∷ [] → Holds v.held given → Holds w.held more
holds_more given more b v w adds is holds = holds_also w.held given more b adds.has is (holds_still given b v w adds holds)

-- a seat of an opened heap has the roots that are its own
pub has_roots : (setup : Setup) (held : List Block) (block_owners root_owners : List ℕ) (i : ℕ) (v : CoreView) (root : ℕ)
    → v ≡ opened_view setup held block_owners root_owners i → root < roots → get_or root_owners root (i + 1) ≡ i → Contains v.roots root
has_roots setup held block_owners root_owners i v root is inside owner = times_some root v.roots
    (subst (λ (w : CoreView). 0 < times root w.roots) (sym is) ((owns_root i roots root_owners root).1 (inside, owner)))

-- and it holds the blocks that are its own
pub has_blocks : (words : List ℕ) (held : List Block) (budget seats : ℕ) (block_owners root_owners : List ℕ) → IsReady words held
    → AreOwners held seats block_owners root_owners
    → (i at : ℕ) (v : CoreView) (b : Block) → v ≡ opened_view (setup_of words budget seats) held block_owners root_owners i → at < length held
    → get_or held at b ≡ b → get_or block_owners at (i + 1) ≡ i → Contains (held_blocks v) b
has_blocks words held budget seats block_owners root_owners ready owners i at v b is inside here owner =
    subst (λ (w : CoreView). Contains (held_blocks w) b) (sym is)
    (listed (opened_view (setup_of words budget seats) held block_owners root_owners i) b
    ((holds_exactly words held budget seats block_owners root_owners ready owners i b).1
    (record { at = at; inside = inside; is = here; owner = owner })))

-- of the seats but the last, and of the last: what is so of each by its number
module _ (P : ℕ → SeatView → Type 0) (all rest : List SeatView) (last : SeatView) (split : all ≡ rest ++ last ∷ [])
    (have : (i : ℕ) (seat : SeatView) → i < length all → get_or all i seat ≡ seat → P i seat) where
  long : length all ≡ length rest + 1
  long = ap length split ∙ length-append rest (last ∷ [])

  pub of_rest : (i : ℕ) (seat : SeatView) → i < length rest → get_or rest i seat ≡ seat → P i seat
  of_rest = λ i seat less at. have i seat (let l = long in omega (arith, l, less)) (ap (λ l. get_or l i seat) split
      ∙ get_or_append_left rest (last ∷ []) seat i less ∙ at)

  pub of_last : P (length rest) last
  of_last = have (length rest) last (let l = long in omega (arith, l)) (ap (λ l. get_or l (length rest) last) split
      ∙ get_or-append_seam rest last [] last)

-- roots of a seat are its own
pub owns : (number count : ℕ) (owned : List ℕ) (seat : SeatView) → AreRootsOf number count owned → HasRootsOf number count seat
    → OwnsRoots owned seat.view.roots
owns number count owned seat are has = record {
  each = λ root in_owned. let r =
      All-contains (λ root. (root < roots) × (root % count ≡ number)) owned root are in_owned in has root r.0 r.1;
}

-- so are they behind each call
pub still_owns : {C : Type 0} (owned : List ℕ) (s t : CacheValue C) → KeepsSeat anything s t → OwnsRoots owned s.state.view.roots
    → OwnsRoots owned t.state.view.roots
still_owns owned s t kept own = subst (OwnsRoots owned) (sym kept.heap.1.roots) own
