-- Facts on the loops of a trace, over the roots and over the links of a block, and on what it has reached in the end.
use Rattle.std.proofs.Common.{◌≡◌, ℕ, ◌+◌, ◌*◌, ◌<◌, ◌≤◌, Bool, false, List, [], ◌∷◌, ◌++◌, length, take, get_or, refl, sym, subst, ◌∙◌, ap, arith, inl, inr, below_more, take_all}
use Rattle.std.specs.Prelude.{Contains, Some, None, cond}
use Rattle.std.specs.List.{slice_get, All}
use Rattle.std.proofs.lemmas.Option.{slice_get_within, get_or_from_slice_get}
use Rattle.std.proofs.lemmas.List.{take_more, get_or_past}
use Rattle.std.proofs.lemmas.List.Sums.{sum_by-le}
use Rattle.std.proofs.lemmas.Nat.{row_fits}
use Rattle.std.proofs.lemmas.List.Elements.{All-contains, Contains-push_cases}
use Rattle.std.proofs.lemmas.Bool.{cases_lt, false≢true}
use Rattle.heap_model.specs.declared.block.Block.{Block}
use Rattle.heap_model.specs.Geometry.{roots, root_word}
use Rattle.heap_model.specs.Image.{Image}
use Rattle.heap_model.specs.Blocks.{layout_of, IsBlock}
use Rattle.heap_model.specs.Header.{IsWellFormed}
use Rattle.heap_model.proofs.BlockLemmas.{block_words}
use Rattle.heap_model.proofs.ReachLemmas.{closure_least}
use Rattle.heap_model.specs.Pointers.{LeadsOutside}
use Rattle.heap_model.specs.Reach.{Links, AnyRoot, RootLeads, Reach, IsOutside, by_start, by_link, words_in, AreInside, IsTraced, is_root, is_linked}
use Rattle.filter_trace.specs.declared.fault.TraceFault.{TraceFault}
use Rattle.filter_trace.specs.declared.fault.TraceFault.TheVariants.{Outside, Memory}
use Rattle.filter_trace.specs.Reached.{TellsOutside, AreReached}
use Rattle.filter_trace.specs.Walks.{IsExtended}
use Rattle.filter_trace.specs.Trace.{Follows, IsFollowedWord, FollowsRoots, FollowsLinks, TellsOfWord, TellsOfRoots, IsFollowedBlock, HasRoots}
use Rattle.filter_trace.specs.Pairs.{HasMarks, AreMarked}
use Rattle.filter_trace.proofs.WalkLemmas.{more_and_more, given_here, none_past}
use Rattle.filter_trace.proofs.TraceStepLemmas.{follow_marked, follow_each, follow_grows, follow_followed, follow_long, still_followed, block_within}

-- one more root
pub roots_step : (image : Image) (kinds : ℕ → ℕ) (count n : ℕ) (pairs pairs' : List (Block × ℕ)) (marks marks' : List Bool)
    → FollowsRoots image kinds count n pairs marks → n < roots → kinds n < count
    → Follows image count (root_word n) (kinds n) pairs pairs' marks marks' → FollowsRoots image kinds count (n + 1) pairs' marks'
roots_step image kinds count n pairs pairs' marks marks' was below kind follows =
    let grown = follow_grows image count (root_word n) (kinds n) pairs pairs' marks marks' follows in
    record {
      marked = follow_marked image count (root_word n) (kinds n) pairs pairs' marks marks' was.marked kind follows;
      rooted = follow_each (RootLeads image AnyRoot kinds) image count (root_word n) (kinds n) pairs pairs' marks marks' was.rooted
          (λ b leads. record { root = n; below = below; is_chosen = tt; kind_is = refl; leads = leads }) follows;
      followed = below_more (λ i. IsFollowedWord image pairs' (root_word i) (kinds i)) n
          (λ i low. still_followed image pairs pairs' (root_word i) (kinds i) grown (was.followed i low))
          (follow_followed image count (root_word n) (kinds n) pairs pairs' marks marks' was.marked kind follows);
    }

-- one more link
pub links_step : (image : Image) (kinds : ℕ → ℕ) (links : Links) (count : ℕ) (a : Block) (from : ℕ) (upto : List (ℕ × ℕ)) (position kind : ℕ)
    → (pairs pairs' pairs'' : List (Block × ℕ)) (marks marks' marks'' : List Bool)
    → FollowsLinks image kinds links count a upto pairs pairs' marks marks' → Reach image kinds links a from
    → Contains (links from (words_in image a)) (position, kind) → kind < count
    → Follows image count (a.first_word + position) kind pairs' pairs'' marks' marks''
    → FollowsLinks image kinds links count a (upto ++ (position, kind) ∷ []) pairs pairs'' marks marks''
links_step image kinds links count a from upto position kind pairs pairs' pairs'' marks marks' marks'' was reached listed below follows =
    let at : ℕ = a.first_word + position in
    let grown = follow_grows image count at kind pairs' pairs'' marks' marks'' follows in
    let here = follow_followed image count at kind pairs' pairs'' marks' marks'' was.found.marked below follows in
    record {
      long = follow_long image count at kind pairs' pairs'' marks' marks'' follows ∙ was.long;
      found = record {
        marked = follow_marked image count at kind pairs' pairs'' marks' marks'' was.found.marked below follows;
        reached = follow_each (Reach image kinds links) image count at kind pairs' pairs'' marks' marks'' was.found.reached
            (λ b leads. by_link a b from kind reached (record { position = position; listed = listed; leads = leads })) follows;
      };
      grown = more_and_more pairs pairs' pairs'' was.grown grown;
      followed = λ p k in_upto. elim (Contains-push_cases upto (position, kind) (p, k) in_upto) as
          (λ _. IsFollowedWord image pairs'' (a.first_word + p) k) [
            | inl old ↦ still_followed image pairs' pairs'' (a.first_word + p) k grown (was.followed p k old)
            | inr same ↦ subst (λ (l : ℕ × ℕ). IsFollowedWord image pairs'' (a.first_word + l.0) l.1) same here
          ];
    }

-- link number `at` is one of the links, and the links up to it are those before and it
pub link_at : (links : List (ℕ × ℕ)) (at position kind : ℕ) → slice_get links at ≡ Some (position, kind)
    → (at < length links) × Contains links (position, kind) × (take (at + 1) links ≡ take at links ++ (position, kind) ∷ [])
link_at links at position kind is =
    let below = slice_get_within links at (position, kind) is in
    let read = get_or_from_slice_get links at (position, kind) (position, kind) is in
    (below, given_here links at (position, kind) is, take_more links at (position, kind) below ∙ ap (λ (l : ℕ × ℕ). take at links ++ l ∷ []) read)

-- where no link is given, all have been
pub links_past : (links : List (ℕ × ℕ)) (at : ℕ) → slice_get links at ≡ None → take at links ≡ links
links_past links at none = take_all at links (none_past links at none)

-- a link lies in the block, and has a kind that there is
pub link_within : (links : Links) (count from : ℕ) (words : List ℕ) (at position kind : ℕ) → AreInside count links
    → slice_get (links from words) at ≡ Some (position, kind) → (position < length words) × (kind < count)
link_within links count from words at position kind inside is =
    let listed = (link_at (links from words) at position kind is).1 in
    (inside.position from words position kind listed, inside.kind from words position kind listed)

-- a fault that tells of a linked word tells of a word that is outside
pub tells_link : (image : Image) (kinds : ℕ → ℕ) (links : Links) (a : Block) (from position kind : ℕ) (fault : TraceFault)
    → Reach image kinds links a from → Contains (links from (words_in image a)) (position, kind)
    → TellsOfWord image (a.first_word + position) fault → TellsOutside image kinds links fault
tells_link image kinds links a from position kind (Outside at value) reached listed tells = (
  record {
    traced = is_linked a from position kind at reached listed tells.0;
    outside = rw (tells.0) tells.1;
  },
  rw (tells.0) tells.2,
)
tells_link image kinds links a from position kind Memory reached listed tells = tt

-- and so does one that tells of a root
pub tells_root : (image : Image) (kinds : ℕ → ℕ) (links : Links) (fault : TraceFault) → TellsOfRoots image fault → TellsOutside image kinds links fault
tells_root image kinds links (Outside at value) tells = (
  record { traced = is_root tells.0 at tells.1 tt tells.2; outside = tells.3 },
  tells.4,
)
tells_root image kinds links Memory tells = tt

-- no pair, and no mark
pub nothing_marked : (image : Image) (n count : ℕ) (marks : List Bool) → IsWellFormed (8 * n) image → HasMarks n count marks
    → All (λ mark. mark ≡ false) marks
    → AreMarked (layout_of image) count [] marks
nothing_marked image n count marks formed room clear =
    let fits : (b : Block) → IsBlock (layout_of image) b → b.first_word * count + count ≤ length marks
    = λ b is.
    let within = block_within image n b formed is in
    let some = block_words (layout_of image) b is in
    let row = row_fits b.first_word count n count (omega arith) (omega arith) in
    let long = room.long in omega arith
    in record {
      blocks = λ b kind here. let none = here.1 in absurd (omega arith);
      marked = λ b kind here. let none = here.1 in absurd (omega arith);
      only = λ at set. absurd (false≢true (sym (elim (cases_lt at (length marks)) as (λ _. get_or marks at false ≡ false) [
        | inl inside ↦ clear at false inside
        | inr past ↦ get_or_past marks at false past
      ]) ∙ set));
      room = fits;
      short = room.short;
      once = let none = sum_by-le (λ (mark : Bool). cond mark 1 0) 0 marks (λ k d below. rw (clear k d below) (omega arith)) in omega arith;
    }

-- when the roots have been followed, what they lead to is there
pub roots_end : (image : Image) (kinds : ℕ → ℕ) (links : Links) (count : ℕ) (pairs : List (Block × ℕ)) (marks : List Bool)
    → FollowsRoots image kinds count roots pairs marks → HasRoots image kinds links count pairs marks
roots_end image kinds links count pairs marks roots_done = record {
  found = record {
    marked = roots_done.marked;
    reached = record { each = λ b kind here. by_start b kind (roots_done.rooted.each b kind here) };
  };
  roots_followed = roots_done.followed;
}

-- and it stays there, as what links lead to
pub roots_kept : (image : Image) (kinds : ℕ → ℕ) (links : Links) (count : ℕ) (a : Block) (upto : List (ℕ × ℕ)) (pairs pairs' : List (Block × ℕ))
    (marks marks' : List Bool)
    → HasRoots image kinds links count pairs marks → FollowsLinks image kinds links count a upto pairs pairs' marks marks'
    → HasRoots image kinds links count pairs' marks'
roots_kept image kinds links count a upto pairs pairs' marks marks' was follows = record {
  found = follows.found;
  roots_followed = λ i low. still_followed image pairs pairs' (root_word i) (kinds i) follows.grown (was.roots_followed i low);
}

pub block_kept : (image : Image) (links : Links) (pairs pairs' : List (Block × ℕ)) (a : Block) (from : ℕ) → IsExtended pairs pairs'
    → IsFollowedBlock image links pairs a from → IsFollowedBlock image links pairs' a from
block_kept image links pairs pairs' a from grown was = record {
  each = λ position kind listed. still_followed image pairs pairs' (a.first_word + position) kind grown (was.each position kind listed);
}

-- when the links of all pairs have been followed, the pairs are those that are reached
module _ (image : Image) (kinds : ℕ → ℕ) (links : Links) (count : ℕ) (pairs : List (Block × ℕ)) (marks : List Bool)
    (work : HasRoots image kinds links count pairs marks) (all : All (λ (p : Block × ℕ). IsFollowedBlock image links pairs p.0 p.1) pairs) where
  followed_block : (a : Block) (from : ℕ) → Contains pairs (a, from) → IsFollowedBlock image links pairs a from
  followed_block a from here = All-contains (λ (p : Block × ℕ). IsFollowedBlock image links pairs p.0 p.1) pairs (a, from) all here

  complete : (b : Block) (kind : ℕ) → Reach image kinds links b kind → Contains pairs (b, kind)
  complete = closure_least (λ b kind. Contains pairs (b, kind))
      (λ b kind start. subst (λ k. Contains pairs (b, k)) (sym start.kind_is) ((work.roots_followed start.root start.below).here b start.leads))
      (λ a b from kind reached here link. ((followed_block a from here).each link.position kind link.listed).here b link.leads)

  pub trace_ends : AreReached image kinds links pairs
  trace_ends = record { each = λ b kind. (work.found.reached.each b kind, complete b kind) }

  -- and no word is outside
  inside_all : (at : ℕ) → IsTraced image kinds links at → LeadsOutside image (image at) → ⊥
  inside_all _ (is_root i at below chosen is) outside =
      (work.roots_followed i below).inside (subst (λ n. LeadsOutside image (image n)) is outside)
  inside_all _ (is_linked a from position kind at reached listed is) outside =
      ((followed_block a from (complete a from reached)).each position kind listed).inside (subst (λ n. LeadsOutside image (image n)) is outside)

  pub none_outside : (at : ℕ) → IsOutside image kinds links at → ⊥
  none_outside at outside = inside_all at outside.traced outside.outside
