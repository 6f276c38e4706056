-- Facts on following a word as one of a mode, and on following words one by one.
use Rattle.std.proofs.Common.{◌≡◌, ℕ, ◌+◌, ◌<◌, ◌⊎◌, Bool, List, [], ◌∷◌, ◌++◌, length, refl, sym, subst, ◌∙◌, ap, arith, inl, inr}
use Rattle.std.specs.Prelude.{Contains}
use Rattle.std.proofs.lemmas.Bool.{cases_lt}
use Rattle.std.proofs.lemmas.List.Elements.{Contains-push_cases}
use Rattle.heap_model.specs.declared.block.Block.{Block}
use Rattle.heap_model.specs.Geometry.{root_word}
use Rattle.heap_model.specs.Image.{Image}
use Rattle.heap_model.specs.Blocks.{layout_of}
use Rattle.heap_model.specs.Pointers.{Leads}
use Rattle.heap_model.specs.Reach.{Links, words_in, AreInside}
use Rattle.filter_trace.specs.Pairs.{AreMarked}
use Rattle.filter_trace.specs.Trace.{Each}
use Rattle.filter_trace.specs.Walks.{IsExtended}
use Rattle.filter_trace.proofs.WalkLemmas.{no_more, more_and_more, kept}
use Rattle.filter_trace.proofs.TraceStepLemmas.{still_followed, follow_marked, follow_grows, follow_long, follow_each, follow_followed}
use Rattle.mixed_trace.specs.declared.mode.Mode.{Mode}
use Rattle.mixed_trace.specs.declared.mode.Mode.TheVariants.{Kind, All}
use Rattle.mixed_trace.specs.Reach.{FitsBelow, CountsAs, ReachMixed}
use Rattle.mixed_trace.specs.Codes.{code}
use Rattle.mixed_trace.specs.Steps.{Passes, followed, nowhere, FollowsAs, HasTarget, IsFollowedAs, IsFoundAs, AreFoundMixed, FollowsEach, IsRootAmong, IsLinkAmong, IsWordAmong, IsCounted}

-- the number of a mode is at most the limit
pub code_below : (limit : ℕ) (mode : Mode) → FitsBelow limit mode → code limit mode < limit + 1
code_below limit (Kind kind) fits = omega arith
code_below limit All fits = omega arith

-- and stands for one mode
pub code_one : (limit : ℕ) (mode other : Mode) → FitsBelow limit mode → FitsBelow limit other → code limit mode ≡ code limit other → mode ≡ other
code_one limit (Kind kind) (Kind other) fits fits' same = ap (λ k. Kind k) same
code_one limit (Kind kind) All fits fits' same = absurd (omega arith)
code_one limit All (Kind other) fits fits' same = absurd (omega arith)
code_one limit All All fits fits' same = refl

-- a word that counts makes a mode that fits
pub counts_fit : (image : Image) (links : Links) (limit : ℕ) (a : Block) (from mode : Mode) (position : ℕ) → AreInside limit links
    → CountsAs image links a from position mode → FitsBelow limit mode
counts_fit image links limit a (Kind from) (Kind kind) position inside listed = inside.kind from (words_in image a) position kind listed
counts_fit image links limit a (Kind from) All position inside counts = absurd counts
counts_fit image links limit a All (Kind kind) position inside counts = absurd counts
counts_fit image links limit a All All position inside counts = tt

-- what following a word leaves that may lead nowhere
module _ (image : Image) (count at kind : ℕ) (pairs pairs' : List (Block × ℕ)) (marks marks' : List Bool) where
  passes_marked : AreMarked (layout_of image) count pairs marks → kind < count → Passes image count at kind pairs pairs' marks marks'
      → AreMarked (layout_of image) count pairs' marks'
  passes_marked work below (followed follows) = follow_marked image count at kind pairs pairs' marks marks' work below follows
  passes_marked work below (nowhere out same_pairs same_marks) =
      subst (λ ps. AreMarked (layout_of image) count ps marks') (sym same_pairs)
      (subst (λ ms. AreMarked (layout_of image) count pairs ms) (sym same_marks) work)

  passes_grows : Passes image count at kind pairs pairs' marks marks' → IsExtended pairs pairs'
  passes_grows (followed follows) = follow_grows image count at kind pairs pairs' marks marks' follows
  passes_grows (nowhere out same_pairs same_marks) = no_more pairs pairs' same_pairs

  passes_long : Passes image count at kind pairs pairs' marks marks' → length marks' ≡ length marks
  passes_long (followed follows) = follow_long image count at kind pairs pairs' marks marks' follows
  passes_long (nowhere out same_pairs same_marks) = ap (λ (ms : List Bool). length ms) same_marks

  passes_each : (holds : Block → ℕ → Type 0) → Each holds pairs → ((b : Block) → Leads image (image at) b → holds b kind)
      → Passes image count at kind pairs pairs' marks marks' → Each holds pairs'
  passes_each holds was this (followed follows) = follow_each holds image count at kind pairs pairs' marks marks' was this follows
  passes_each holds was this (nowhere out same_pairs same_marks) = subst (λ ps. Each holds ps) (sym same_pairs) was

  passes_has : AreMarked (layout_of image) count pairs marks → kind < count → Passes image count at kind pairs pairs' marks marks'
      → HasTarget image pairs' at kind
  passes_has work below (followed follows) = record {
    here = λ b leads. (follow_followed image count at kind pairs pairs' marks marks' work below follows).here b leads;
  }
  passes_has work below (nowhere out same_pairs same_marks) = record { here = λ b leads. absurd (out.nowhere b leads) }

-- and following it as one of a mode
module _ (image : Image) (limit at : ℕ) (pairs pairs' : List (Block × ℕ)) (marks marks' : List Bool) where
  as_marked : (mode : Mode) → FitsBelow limit mode → AreMarked (layout_of image) (limit + 1) pairs marks
      → FollowsAs image limit at mode pairs pairs' marks marks' → AreMarked (layout_of image) (limit + 1) pairs' marks'
  as_marked (Kind kind) fits work follows = follow_marked image (limit + 1) at kind pairs pairs' marks marks' work (omega arith) follows
  as_marked All fits work follows = passes_marked image (limit + 1) at limit pairs pairs' marks marks' work (omega arith) follows

  as_grows : (mode : Mode) → FollowsAs image limit at mode pairs pairs' marks marks' → IsExtended pairs pairs'
  as_grows (Kind kind) follows = follow_grows image (limit + 1) at kind pairs pairs' marks marks' follows
  as_grows All follows = passes_grows image (limit + 1) at limit pairs pairs' marks marks' follows

  as_long : (mode : Mode) → FollowsAs image limit at mode pairs pairs' marks marks' → length marks' ≡ length marks
  as_long (Kind kind) follows = follow_long image (limit + 1) at kind pairs pairs' marks marks' follows
  as_long All follows = passes_long image (limit + 1) at limit pairs pairs' marks marks' follows

  as_each : (holds : Block → ℕ → Type 0) (mode : Mode) → Each holds pairs → ((b : Block) → Leads image (image at) b → holds b (code limit mode))
      → FollowsAs image limit at mode pairs pairs' marks marks' → Each holds pairs'
  as_each holds (Kind kind) was this follows = follow_each holds image (limit + 1) at kind pairs pairs' marks marks' was this follows
  as_each holds All was this follows = passes_each image (limit + 1) at limit pairs pairs' marks marks' holds was this follows

  as_followed : (mode : Mode) → FitsBelow limit mode → AreMarked (layout_of image) (limit + 1) pairs marks
      → FollowsAs image limit at mode pairs pairs' marks marks' → IsFollowedAs image limit pairs' at mode
  as_followed (Kind kind) fits work follows = follow_followed image (limit + 1) at kind pairs pairs' marks marks' work (omega arith) follows
  as_followed All fits work follows = passes_has image (limit + 1) at limit pairs pairs' marks marks' work (omega arith) follows

-- what was followed is still, when pairs are added
pub still_as : (image : Image) (limit : ℕ) (pairs pairs' : List (Block × ℕ)) (at : ℕ) (mode : Mode) → IsExtended pairs pairs'
    → IsFollowedAs image limit pairs at mode → IsFollowedAs image limit pairs' at mode
still_as image limit pairs pairs' at (Kind kind) grown was = still_followed image pairs pairs' at kind grown was
still_as image limit pairs pairs' at All grown was = record { here = λ b leads. kept pairs pairs' (b, limit) grown (was.here b leads) }

-- what a followed word leads to is there
pub as_has : (image : Image) (limit : ℕ) (pairs : List (Block × ℕ)) (at : ℕ) (mode : Mode) (b : Block) → IsFollowedAs image limit pairs at mode
    → Leads image (image at) b → Contains pairs (b, code limit mode)
as_has image limit pairs at (Kind kind) b was leads = was.here b leads
as_has image limit pairs at All b was leads = was.here b leads

-- words followed one by one
module _ (image : Image) (modes : ℕ → Mode) (links : Links) (limit : ℕ) where
  pub none_yet : (which : ℕ → Mode → Type 0) (pairs : List (Block × ℕ)) (marks : List Bool) → AreFoundMixed image modes links limit pairs marks
      → ((at : ℕ) (mode : Mode) → which at mode → ⊥) → FollowsEach image modes links limit which pairs pairs marks marks
  none_yet which pairs marks found none = record {
    long = refl;
    found = found;
    grown = no_more pairs pairs refl;
    followed = λ at mode this. absurd (none at mode this);
  }

  pub one_more : (which which' : ℕ → Mode → Type 0) (at : ℕ) (mode : Mode) (pairs pairs' pairs'' : List (Block × ℕ)) (marks marks' marks'' : List Bool)
      → FollowsEach image modes links limit which pairs pairs' marks marks' → FitsBelow limit mode
      → ((b : Block) → Leads image (image at) b → ReachMixed image modes links b mode)
      → ((n : ℕ) (m : Mode) → which' n m → which n m ⊎ ((n ≡ at) × (m ≡ mode)))
      → FollowsAs image limit at mode pairs' pairs'' marks' marks''
      → FollowsEach image modes links limit which' pairs pairs'' marks marks''
  one_more which which' at mode pairs pairs' pairs'' marks marks' marks'' was fits reach cases follows =
      let grown = as_grows image limit at pairs' pairs'' marks' marks'' mode follows in
      let here = as_followed image limit at pairs' pairs'' marks' marks'' mode fits was.found.marked follows in
      record {
        long = as_long image limit at pairs' pairs'' marks' marks'' mode follows ∙ was.long;
        found = record {
          marked = as_marked image limit at pairs' pairs'' marks' marks'' mode fits was.found.marked follows;
          reached = as_each image limit at pairs' pairs'' marks' marks'' (IsFoundAs image modes links limit) mode was.found.reached
              (λ b leads. record { mode = mode; fits = fits; code_is = refl; reach = reach b leads }) follows;
        };
        grown = more_and_more pairs pairs' pairs'' was.grown grown;
        followed = λ n m this. elim (cases n m this) as (λ _. IsFollowedAs image limit pairs'' n m) [
          | inl old ↦ still_as image limit pairs' pairs'' n m grown (was.followed n m old)
          | inr same ↦ subst (λ k. IsFollowedAs image limit pairs'' k m) (sym same.0)
              (subst (λ k. IsFollowedAs image limit pairs'' at k) (sym same.1) here)
        ];
      }

  pub fewer : (which which' : ℕ → Mode → Type 0) (pairs pairs' : List (Block × ℕ)) (marks marks' : List Bool)
      → FollowsEach image modes links limit which pairs pairs' marks marks' → ((n : ℕ) (m : Mode) → which' n m → which n m)
      → FollowsEach image modes links limit which' pairs pairs' marks marks'
  fewer which which' pairs pairs' marks marks' was less = record {
    long = was.long;
    found = was.found;
    grown = was.grown;
    followed = λ n m this. was.followed n m (less n m this);
  }

-- one root more is those before and it
pub root_cases : (modes : ℕ → Mode) (upto at : ℕ) (mode : Mode) → IsRootAmong modes (upto + 1) at mode
    → IsRootAmong modes upto at mode ⊎ ((at ≡ root_word upto) × (mode ≡ modes upto))
root_cases modes upto at mode this =
    elim (cases_lt this.root upto) as (λ _. IsRootAmong modes upto at mode ⊎ ((at ≡ root_word upto) × (mode ≡ modes upto))) [
      | inl below ↦ inl (record { root = this.root; below = below; at_is = this.at_is; mode_is = this.mode_is })
      | inr past ↦
          let low = this.below in
          let one : this.root ≡ upto = omega arith in
          inr (this.at_is ∙ ap (λ n. root_word n) one, this.mode_is ∙ ap modes one)
    ]

pub link_cases : (a : Block) (upto : List (ℕ × ℕ)) (position kind at : ℕ) (mode : Mode) → IsLinkAmong a (upto ++ (position, kind) ∷ []) at mode
    → IsLinkAmong a upto at mode ⊎ ((at ≡ a.first_word + position) × (mode ≡ Kind kind))
link_cases a upto position kind at mode this =
    elim (Contains-push_cases upto (position, kind) (this.position, this.kind) this.listed) as
    (λ _. IsLinkAmong a upto at mode ⊎ ((at ≡ a.first_word + position) × (mode ≡ Kind kind))) [
      | inl old ↦ inl (record { position = this.position; kind = this.kind; listed = old; at_is = this.at_is; mode_is = this.mode_is })
      | inr same ↦ inr (
        this.at_is ∙ ap (λ (l : ℕ × ℕ). a.first_word + l.0) (sym same),
        this.mode_is ∙ ap (λ (l : ℕ × ℕ). Kind l.1) (sym same),
      )
    ]

pub word_cases : (a : Block) (upto at : ℕ) (mode : Mode) → IsWordAmong a (upto + 1) at mode
    → IsWordAmong a upto at mode ⊎ ((at ≡ a.first_word + upto) × (mode ≡ All))
word_cases a upto at mode this =
    elim (cases_lt this.position upto) as (λ _. IsWordAmong a upto at mode ⊎ ((at ≡ a.first_word + upto) × (mode ≡ All))) [
      | inl below ↦ inl (record { position = this.position; below = below; at_is = this.at_is; mode_is = this.mode_is })
      | inr past ↦
          let low = this.below in
          let one : this.position ≡ upto = omega arith in
          inr (this.at_is ∙ ap (λ n. a.first_word + n) one, this.mode_is)
    ]

-- the words of a block that count are the links that the filter lists, or all
pub counted_links : (image : Image) (links : Links) (a : Block) (from at : ℕ) (mode : Mode) → IsCounted image links a (Kind from) at mode
    → IsLinkAmong a (links from (words_in image a)) at mode
counted_links image links a from at (Kind kind) counted = record {
  position = counted.position;
  kind = kind;
  listed = counted.counts;
  at_is = counted.at_is;
  mode_is = refl;
}
counted_links image links a from at All counted = absurd counted.counts

pub counted_words : (image : Image) (links : Links) (a : Block) (at : ℕ) (mode : Mode) → IsCounted image links a All at mode
    → IsWordAmong a a.words at mode
counted_words image links a at (Kind kind) counted = absurd counted.counts
counted_words image links a at All counted = record { position = counted.position; below = counted.counts; at_is = counted.at_is; mode_is = refl }
