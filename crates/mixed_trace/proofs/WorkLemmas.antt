-- Facts on the whole trace: when the roots and the words of all pairs have been followed, the pairs are those that are reached.
use Rattle.std.proofs.Common.{◌≡◌, ℕ, ◌+◌, ◌<◌, Bool, List, refl, sym, subst, ◌∙◌}
use Rattle.std.specs.Prelude.{Contains}
use Rattle.std.specs.List.{All as AllOf}
use Rattle.std.proofs.lemmas.List.Elements.{All-contains}
use Rattle.heap_model.specs.declared.block.Block.{Block}
use Rattle.heap_model.specs.Geometry.{roots, root_word}
use Rattle.heap_model.specs.Image.{Image}
use Rattle.heap_model.specs.Blocks.{layout_of, IsBlock}
use Rattle.heap_model.specs.Pointers.{LeadsOutside}
use Rattle.heap_model.specs.Reach.{Links, AreInside, by_start, by_link}
use Rattle.heap_model.proofs.ReachLemmas.{closure_least}
use Rattle.filter_trace.specs.declared.fault.TraceFault.{TraceFault}
use Rattle.filter_trace.specs.declared.fault.TraceFault.TheVariants.{Outside, Memory}
use Rattle.filter_trace.specs.Walks.{IsExtended}
use Rattle.mixed_trace.specs.declared.mode.Mode.{Mode}
use Rattle.mixed_trace.specs.declared.mode.Mode.TheVariants.{Kind, All}
use Rattle.mixed_trace.specs.Reach.{FitsBelow, CountsAs, ReachMixed, IsTracedMixed, is_root, is_linked, IsOutsideMixed}
use Rattle.mixed_trace.specs.Codes.{code, HasMode, AreReachedMixed, TellsOutsideMixed}
use Rattle.mixed_trace.specs.Steps.{TellsAs, AreFoundMixed, FollowsEach, IsRootAmong, IsCounted, IsFollowedPair, HasRootsMixed}
use Rattle.mixed_trace.proofs.MixedStepLemmas.{code_one, counts_fit, still_as, as_has}

-- a reached pair names a block
pub mixed_block : (image : Image) (modes : ℕ → Mode) (links : Links) (b : Block) (mode : Mode) → ReachMixed image modes links b mode
    → IsBlock (layout_of image) b
mixed_block image modes links _ _ (by_start b mode start) = start.leads.names.block
mixed_block image modes links _ _ (by_link a b from mode reached link) = link.leads.names.block

-- a fault that tells of a root tells of a word that is outside
pub tells_root : (image : Image) (modes : ℕ → Mode) (links : Links) (root : ℕ) (mode : Mode) (fault : TraceFault) → root < roots → modes root ≡ mode
    → TellsAs image (root_word root) mode fault → TellsOutsideMixed image modes links fault
tells_root image modes links root (Kind kind) (Outside at value) below is tells = (
  record {
    traced = is_root root kind at below is tells.0;
    outside = rw (tells.0) tells.1;
  },
  rw (tells.0) tells.2,
)
tells_root image modes links root (Kind kind) Memory below is tells = tt
tells_root image modes links root All (Outside at value) below is tells = absurd (cc)
tells_root image modes links root All Memory below is tells = tt

-- and so does one that tells of a word that counts
pub tells_word : (image : Image) (modes : ℕ → Mode) (links : Links) (a : Block) (from mode : Mode) (position : ℕ) (fault : TraceFault)
    → ReachMixed image modes links a from → CountsAs image links a from position mode
    → TellsAs image (a.first_word + position) mode fault → TellsOutsideMixed image modes links fault
tells_word image modes links a (Kind from) (Kind kind) position (Outside at value) reached listed tells = (
  record {
    traced = is_linked a from position kind at reached listed tells.0;
    outside = rw (tells.0) tells.1;
  },
  rw (tells.0) tells.2,
)
tells_word image modes links a (Kind from) All position fault reached counts tells = absurd counts
tells_word image modes links a All (Kind kind) position fault reached counts tells = absurd counts
tells_word image modes links a All All position (Outside at value) reached counts tells = absurd (cc)
tells_word image modes links a (Kind from) (Kind kind) position Memory reached counts tells = tt
tells_word image modes links a All All position Memory reached counts tells = tt

module _ (image : Image) (modes : ℕ → Mode) (links : Links) (limit : ℕ) where
  -- when the roots have been followed, what they lead to is there
  pub roots_end : (old pairs : List (Block × ℕ)) (before marks : List Bool)
      → FollowsEach image modes links limit (IsRootAmong modes roots) old pairs before marks → HasRootsMixed image modes links limit pairs marks
  roots_end old pairs before marks follows = record { found = follows.found; roots_followed = follows.followed }

  -- and it stays there, as what other words lead to
  pub roots_kept : (which : ℕ → Mode → Type 0) (pairs pairs' : List (Block × ℕ)) (marks marks' : List Bool)
      → HasRootsMixed image modes links limit pairs marks → FollowsEach image modes links limit which pairs pairs' marks marks'
      → HasRootsMixed image modes links limit pairs' marks'
  roots_kept which pairs pairs' marks marks' was follows = record {
    found = follows.found;
    roots_followed = λ at mode root. still_as image limit pairs pairs' at mode follows.grown (was.roots_followed at mode root);
  }

  -- a pair is of a block that is reached as one of the mode for which its number stands
  pub mode_found : (a : Block) (number : ℕ) (mode : Mode) (pairs : List (Block × ℕ)) (marks : List Bool)
      → AreFoundMixed image modes links limit pairs marks
      → Contains pairs (a, number) → ((m : Mode) → FitsBelow limit m → number ≡ code limit m → mode ≡ m)
      → FitsBelow limit mode × (number ≡ code limit mode) × ReachMixed image modes links a mode
  mode_found a number mode pairs marks so_far here is_mode =
      let found = so_far.reached.each a number here in
      let same = sym (is_mode found.mode found.fits found.code_is) in (
        subst (λ m. FitsBelow limit m) same found.fits,
        subst (λ m. number ≡ code limit m) same found.code_is,
        subst (λ m. ReachMixed image modes links a m) same found.reach,
      )

  -- a pair whose block's words have been followed stays so
  pub pair_kept : (pairs pairs' : List (Block × ℕ)) (a : Block) (number : ℕ) → IsExtended pairs pairs' → IsFollowedPair image links limit pairs a number
      → IsFollowedPair image links limit pairs' a number
  pair_kept pairs pairs' a number grown was = record {
    each = λ from fits is at mode counted. still_as image limit pairs pairs' at mode grown (was.each from fits is at mode counted);
  }

  pub pair_followed : (a : Block) (number : ℕ) (from : Mode) (pairs pairs' : List (Block × ℕ)) (marks marks' : List Bool)
      → FitsBelow limit from → number ≡ code limit from
      → FollowsEach image modes links limit (IsCounted image links a from) pairs pairs' marks marks'
      → IsFollowedPair image links limit pairs' a number
  pair_followed a number from pairs pairs' marks marks' fits code_is follows = record {
    each = λ other fits' is at mode counted.
        follows.followed at mode (subst (λ m. IsCounted image links a m at mode) (code_one limit other from fits' fits (sym is ∙ code_is)) counted);
  }

-- when the words of all pairs have been followed, the pairs are those that are reached
module _ (image : Image) (modes : ℕ → Mode) (links : Links) (limit : ℕ) (pairs : List (Block × ℕ)) (marks : List Bool)
    (inside : AreInside limit links) (fit : (root : ℕ) → root < roots → FitsBelow limit (modes root))
    (work : HasRootsMixed image modes links limit pairs marks)
    (all : AllOf (λ (p : Block × ℕ). IsFollowedPair image links limit pairs p.0 p.1) pairs) where
  followed_pair : (a : Block) (number : ℕ) → Contains pairs (a, number) → IsFollowedPair image links limit pairs a number
  followed_pair a number here = All-contains (λ (p : Block × ℕ). IsFollowedPair image links limit pairs p.0 p.1) pairs (a, number) all here

  complete : (b : Block) (mode : Mode) → ReachMixed image modes links b mode → HasMode limit pairs b mode
  complete = closure_least (HasMode limit pairs)
      (λ b mode start. record {
        fits = subst (λ m. FitsBelow limit m) (sym start.mode_is) (fit start.root start.below);
        pair = as_has image limit pairs (root_word start.root) mode b
            (work.roots_followed (root_word start.root) mode
            (record { root = start.root; below = start.below; at_is = refl; mode_is = start.mode_is })) start.leads;
      })
      (λ a b from mode reached has link.
      let followed = (followed_pair a (code limit from) has.pair).each from has.fits refl (a.first_word + link.position) mode
      (record { position = link.position; counts = link.counts; at_is = refl }) in
      record {
        fits = counts_fit image links limit a from mode link.position inside link.counts;
        pair = as_has image limit pairs (a.first_word + link.position) mode b followed link.leads;
      })

  pub trace_ends : AreReachedMixed image modes links limit pairs
  trace_ends = record {
    each = λ b mode. (
      λ has.
          let found = work.found.reached.each b (code limit mode) has.pair in
          subst (λ m. ReachMixed image modes links b m) (code_one limit found.mode mode found.fits has.fits (sym found.code_is)) found.reach,
      complete b mode,
    );
    codes = λ b number here. let found = work.found.reached.each b number here in (found.mode, found.fits, found.code_is);
  }

  -- and no word is outside
  inside_all : (at : ℕ) → IsTracedMixed image modes links at → LeadsOutside image (image at) → ⊥
  inside_all _ (is_root root kind at below is at_is) outside =
      (work.roots_followed at (Kind kind) (record { root = root; below = below; at_is = at_is; mode_is = sym is })).inside outside
  inside_all _ (is_linked a from position kind at reached listed at_is) outside =
      let has = complete a (Kind from) reached in
      ((followed_pair a from has.pair).each (Kind from) has.fits refl at (Kind kind)
      (record { position = position; counts = listed; at_is = at_is })).inside outside

  pub none_outside : (at : ℕ) → IsOutsideMixed image modes links at → ⊥
  none_outside at outside = inside_all at outside.traced outside.outside
