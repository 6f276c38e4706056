-- Facts on modes that differ: no filter at all, kinds alone, and fewer filters.
use Rattle.std.proofs.Common.{◌≡◌, ◌*◌, ℕ, ◌+◌, ◌<◌, ◌≤◌, ◌⊎◌, List, [], ◌∷◌, length, map, replicate, slice_index, None, refl, sym, subst, ◌∙◌, ap, arith, inl, inr}
use Rattle.std.specs.Prelude.{Contains}
use Rattle.std.proofs.lemmas.List.{length-map, get_or-replicate}
use Rattle.heap_model.specs.declared.block.Block.{Block}
use Rattle.heap_model.specs.Geometry.{roots, root_word}
use Rattle.heap_model.specs.Image.{Image}
use Rattle.heap_model.specs.Header.{IsOldWellFormed, capacity_of, used_of, kinds_of}
use Rattle.heap_model.specs.Reach.{Links, Reach, IsReached, IsReachedIn, IsOutside, IsTraced, AreInside, words_in, by_start, by_link, is_root as is_plain_root, is_linked as is_plain_linked}
use Rattle.heap_model.proofs.ImageLemmas.{length-words_from, words_from-agree}
use Rattle.heap_model.specs.Pointers.{IsPointerTo, Leads}
use Rattle.filter_trace.proofs.TraceStepLemmas.{leads_by_name}
use Rattle.region_header.specs.Migration.{current_words, HasSameHeap}
use Rattle.region_header.proofs.MigrationLemmas.{current_same, current_kinds}
use Rattle.region_header.proofs.ReachedLemmas.{other_way, same_block, same_part}
use Rattle.mixed_trace.specs.declared.mode.Mode.{Mode}
use Rattle.mixed_trace.specs.declared.mode.Mode.TheVariants.{Kind, All}
use Rattle.mixed_trace.specs.Reach.{modes_of, CountsAs, ReachMixed, IsReachedMixed, IsTracedMixed, is_root, is_linked, IsOutsideMixed, WordLeadsAs}
use Rattle.mixed_trace.specs.Recovery.{stored_kind, words_by_modes}
use Rattle.mixed_trace.specs.Laws.{HaveKinds, HaveNoFilter, HaveFewerFilters}
use Rattle.mixed_trace.proofs.WorkLemmas.{mixed_block}

kind_is_one : (k j : ℕ) → Kind k ≡ Kind j → k ≡ j
kind_is_one k j same = ap stored_kind same

-- a word that counts lies in the block
counts_within : (image : Image) (links : Links) (limit : ℕ) (a : Block) (from mode : Mode) (position : ℕ) → AreInside limit links
    → CountsAs image links a from position mode → position < a.words
counts_within image links limit a (Kind from) (Kind kind) position inside listed =
    let long = length-words_from image a.first_word a.words in
    let low = inside.position from (words_in image a) position kind listed in
    omega arith
counts_within image links limit a (Kind from) All position inside counts = absurd counts
counts_within image links limit a All (Kind kind) position inside counts = absurd counts
counts_within image links limit a All All position inside counts = counts

-- without filters nothing has a kind
counts_all : (image : Image) (links : Links) (a : Block) (mode : Mode) (position : ℕ) → CountsAs image links a All position mode → mode ≡ All
counts_all image links a (Kind kind) position counts = absurd counts
counts_all image links a All position counts = refl

all_stay : (image : Image) (modes : ℕ → Mode) (links : Links) → HaveNoFilter modes → (b : Block) (mode : Mode)
    → ReachMixed image modes links b mode → mode ≡ All
all_stay image modes links none _ _ (by_start b mode start) = start.mode_is ∙ none.each start.root start.below
all_stay image modes links none _ _ (by_link a b from mode reached link) =
    counts_all image links a mode link.position
    (subst (λ m. CountsAs image links a m link.position mode) (all_stay image modes links none a from reached) link.counts)

not_traced : (image : Image) (modes : ℕ → Mode) (links : Links) → HaveNoFilter modes → (at : ℕ) → IsTracedMixed image modes links at → ⊥
not_traced image modes links none _ (is_root root kind at below is at_is) = let e : Kind kind ≡ All = sym is ∙ none.each root below in absurd (cc)
not_traced image modes links none _ (is_linked a from position kind at reached listed at_is) =
    let e : Kind from ≡ All = all_stay image modes links none a (Kind from) reached in absurd (cc)

pub not_outside : (image : Image) (modes : ℕ → Mode) (links : Links) → HaveNoFilter modes → (at : ℕ) → IsOutsideMixed image modes links at → ⊥
not_outside image modes links none at out = not_traced image modes links none at out.traced

-- and the filter that there is makes no difference
counts_each : (image : Image) (links : Links) (a : Block) (mode : Mode) (position : ℕ) → CountsAs image links a All position mode → position < a.words
counts_each image links a (Kind kind) position counts = absurd counts
counts_each image links a All position counts = counts

all_alike : (image : Image) (modes others : ℕ → Mode) (links links' : Links) → HaveNoFilter modes → HaveNoFilter others
    → (b : Block) (mode : Mode) → ReachMixed image modes links b mode → ReachMixed image others links' b All
all_alike image modes others links links' none none' _ _ (by_start b mode start) =
    by_start b All (record { root = start.root; below = start.below; mode_is = sym (none'.each start.root start.below); leads = start.leads })
all_alike image modes others links links' none none' _ _ (by_link a b from mode reached link) =
    by_link a b All All (all_alike image modes others links links' none none' a from reached) (record {
      position = link.position;
      counts = counts_each image links a mode link.position
          (subst (λ m. CountsAs image links a m link.position mode) (all_stay image modes links none a from reached) link.counts);
      leads = link.leads;
    })

pub reached_alike : (image : Image) (modes others : ℕ → Mode) (links links' : Links) → HaveNoFilter modes → HaveNoFilter others
    → (b : Block) → IsReachedMixed image modes links b → IsReachedMixed image others links' b
reached_alike image modes others links links' none none' b reached = record {
  mode = All;
  reach = all_alike image modes others links links' none none' b reached.mode reached.reach;
}

-- with kinds alone, all is reached as one of a kind
module _ (image : Image) (modes : ℕ → Mode) (kinds : ℕ → ℕ) (links : Links) (have : HaveKinds modes kinds) where
  abbrev IsPlain : Block → Mode → Type 0
  IsPlain b (Kind kind) = Reach image kinds links b kind
  IsPlain b All = ⊥

  plain_link : (a b : Block) (from mode : Mode) → IsPlain a from → WordLeadsAs image links a from b mode → IsPlain b mode
  plain_link a b (Kind from) (Kind kind) reached link = by_link a b from kind reached
      (record { position = link.position; listed = link.counts; leads = link.leads })
  plain_link a b (Kind from) All reached link = absurd link.counts
  plain_link a b All mode reached link = absurd reached

  plain : (b : Block) (mode : Mode) → ReachMixed image modes links b mode → IsPlain b mode
  plain _ _ (by_start b mode start) =
      subst (λ m. IsPlain b m) (sym (start.mode_is ∙ have.each start.root start.below))
      (by_start b (kinds start.root) (record { root = start.root; below = start.below; is_chosen = tt; kind_is = refl; leads = start.leads }))
  plain _ _ (by_link a b from mode reached link) = plain_link a b from mode (plain a from reached) link

  pub mixed_of_plain : (b : Block) (kind : ℕ) → Reach image kinds links b kind → ReachMixed image modes links b (Kind kind)
  mixed_of_plain _ _ (by_start b kind start) =
      by_start b (Kind kind) (record {
        root = start.root;
        below = start.below;
        mode_is = ap (λ k. Kind k) start.kind_is ∙ sym (have.each start.root start.below);
        leads = start.leads;
      })
  mixed_of_plain _ _ (by_link a b from kind reached link) =
      by_link a b (Kind from) (Kind kind) (mixed_of_plain a from reached)
      (record { position = link.position; counts = link.listed; leads = link.leads })

  pub plain_of_mixed : (b : Block) (kind : ℕ) → ReachMixed image modes links b (Kind kind) → Reach image kinds links b kind
  plain_of_mixed b kind reached = plain b (Kind kind) reached

  reached_as : (b : Block) (mode : Mode) → ReachMixed image modes links b mode → IsPlain b mode → IsReached image kinds links b
  reached_as b (Kind kind) reached is = record { kind = kind; reach = is }
  reached_as b All reached is = absurd is

  pub to_plain : (b : Block) → IsReachedMixed image modes links b → IsReached image kinds links b
  to_plain b reached = reached_as b reached.mode reached.reach (plain b reached.mode reached.reach)

  pub from_plain : (b : Block) → IsReached image kinds links b → IsReachedMixed image modes links b
  from_plain b reached = record { mode = Kind reached.kind; reach = mixed_of_plain b reached.kind reached.reach }

  traced_plain : (at : ℕ) → IsTracedMixed image modes links at → IsTraced image kinds links at
  traced_plain _ (is_root root kind at below is at_is) = is_plain_root root at below tt at_is
  traced_plain _ (is_linked a from position kind at reached listed at_is) =
      is_plain_linked a from position kind at (plain_of_mixed a from reached) listed at_is

  plain_traced : (at : ℕ) → IsTraced image kinds links at → IsTracedMixed image modes links at
  plain_traced _ (is_plain_root root at below chosen at_is) = is_root root (kinds root) at below (have.each root below) at_is
  plain_traced _ (is_plain_linked a from position kind at reached listed at_is) =
      is_linked a from position kind at (mixed_of_plain a from reached) listed at_is

  pub outside_plain : (at : ℕ) → IsOutsideMixed image modes links at → IsOutside image kinds links at
  outside_plain at out = record { traced = traced_plain at out.traced; outside = out.outside }

  pub plain_outside : (at : ℕ) → IsOutside image kinds links at → IsOutsideMixed image modes links at
  plain_outside at out = record { traced = plain_traced at out.traced; outside = out.outside }

-- with fewer filters, what was reached is reached as before or without a filter
module _ (image : Image) (modes fewer : ℕ → Mode) (links : Links) (limit : ℕ) (inside : AreInside limit links)
    (less : HaveFewerFilters modes fewer) where
  still_reached : (b : Block) (mode : Mode) → ReachMixed image modes links b mode
      → ReachMixed image fewer links b mode ⊎ ReachMixed image fewer links b All
  still_reached _ _ (by_start b mode start) =
      elim (less.each start.root start.below) as (λ _. ReachMixed image fewer links b mode ⊎ ReachMixed image fewer links b All) [
        | inl same ↦ inl (by_start b mode (record { root = start.root; below = start.below; mode_is = start.mode_is ∙ sym same; leads = start.leads }))
        | inr all ↦ inr (by_start b All (record { root = start.root; below = start.below; mode_is = sym all; leads = start.leads }))
      ]
  still_reached _ _ (by_link a b from mode reached link) =
      elim (still_reached a from reached) as (λ _. ReachMixed image fewer links b mode ⊎ ReachMixed image fewer links b All) [
        | inl same ↦ inl (by_link a b from mode same link)
        | inr all ↦ inr (by_link a b All All all (record {
          position = link.position;
          counts = counts_within image links limit a from mode link.position inside link.counts;
          leads = link.leads;
        }))
      ]

  pub no_less : (b : Block) → IsReachedMixed image modes links b → IsReachedMixed image fewer links b
  no_less b reached =
      elim (still_reached b reached.mode reached.reach) as (λ _. IsReachedMixed image fewer links b) [
        | inl same ↦ record { mode = reached.mode; reach = same }
        | inr all ↦ record { mode = All; reach = all }
      ]

-- images with the same heap reach the same
module _ (image other : Image) (same : HasSameHeap image other) (few : used_of image ≤ capacity_of image) (links : Links) (limit : ℕ)
    (inside : AreInside limit links) where
  counts_there : (a : Block) (from mode : Mode) (position : ℕ) → words_in other a ≡ words_in image a → CountsAs image links a from position mode
      → CountsAs other links a from position mode
  counts_there a (Kind from) (Kind kind) position words listed = subst (λ ws. Contains (links from ws) (position, kind)) (sym words) listed
  counts_there a (Kind from) All position words counts = absurd counts
  counts_there a All (Kind kind) position words counts = absurd counts
  counts_there a All All position words counts = counts

  leads_there : (at : ℕ) (b : Block) → other at ≡ image at → Leads image (image at) b → Leads other (other at) b
  leads_there at b word leads =
      leads_by_name other (other at) (8 * b.first_word) b (subst (λ w. IsPointerTo w (8 * b.first_word)) (sym word) leads.pointer)
      (record { begins_at = refl; block = same_block image other same few b leads.names.block })

  mixed_there : (modes : ℕ → Mode) (b : Block) (mode : Mode) → ReachMixed image modes links b mode → ReachMixed other modes links b mode
  mixed_there modes _ _ (by_start b mode start) =
      by_start b mode (record {
        root = start.root;
        below = start.below;
        mode_is = start.mode_is;
        leads = leads_there (root_word start.root) b (let low = start.below in
            same.words_are (root_word start.root) (λ e. omega (arith, e)) (omega arith)) start.leads;
      })
  mixed_there modes _ _ (by_link a b from mode reached link) =
      let block = mixed_block image modes links a from reached in
      let low = counts_within image links limit a from mode link.position inside link.counts in
      let at : ℕ = a.first_word + link.position in
      by_link a b from mode (mixed_there modes a from reached) (record {
        position = link.position;
        counts = counts_there a from mode link.position (words_from-agree other image a.first_word a.words
            (same_part image other same few a block)) link.counts;
        leads = leads_there at b (same_part image other same few a block at (omega arith) (omega arith)) link.leads;
      })

  pub reached_there : (modes : ℕ → Mode) (b : Block) → IsReachedMixed image modes links b → IsReachedMixed other modes links b
  reached_there modes b reached = record { mode = reached.mode; reach = mixed_there modes b reached.mode reached.reach }

-- so an image of the old version, migrated with other kinds, reaches what it reaches by these
pub migrated_no_less : (words kinds : List ℕ) (fewer : List Mode) (links : Links) (limit : ℕ) → length kinds ≡ roots → length fewer ≡ roots
    → IsOldWellFormed (8 * length words) (slice_index words) → AreInside limit links
    → HaveFewerFilters (λ root. Kind (slice_index kinds root)) (modes_of fewer) → (b : Block)
    → IsReachedIn (slice_index (current_words words kinds)) links b
    → IsReachedMixed (slice_index (words_by_modes words fewer)) (modes_of fewer) links b
migrated_no_less words kinds fewer links limit count count' formed inside less b reached =
    let old : Image = slice_index words in
    let by_kinds : Image = slice_index (current_words words kinds) in
    let by_modes : Image = slice_index (words_by_modes words fewer) in
    let same = current_same None words kinds count (inl formed) in
    let same' = current_same None words (map stored_kind fewer) (length-map fewer stored_kind ∙ count') (inl formed) in
    let few : used_of by_kinds ≤ capacity_of by_kinds = let capacity = same.capacity_is in let used = same.used_is in let low = formed.used in
    omega arith in
    let mixed : IsReachedMixed by_kinds (λ root. Kind (slice_index kinds root)) links b
    = from_plain by_kinds (λ root. Kind (slice_index kinds root)) (kinds_of by_kinds) links
    (record { each = λ root low. ap (λ k. Kind k) (sym (current_kinds words kinds count formed root low)) }) b reached in
    let more = no_less by_kinds (λ root. Kind (slice_index kinds root)) (modes_of fewer) links limit inside less b mixed in
    reached_there old by_modes same' formed.used links limit inside (modes_of fewer) b
    (reached_there by_kinds old (other_way old by_kinds same) few links limit inside (modes_of fewer) b more)

-- kinds as modes are stored as they are
pub stored_again : (kinds : List ℕ) → map stored_kind (map (λ kind. Kind kind) kinds) ≡ kinds
stored_again [] = refl
stored_again (kind ∷ kinds) = ap (λ ks. kind ∷ ks) (stored_again kinds)

-- as many modes of no filter as there are roots
pub none_has_filter : HaveNoFilter (modes_of (replicate roots All))
none_has_filter = record { each = λ root below. get_or-replicate roots root All (Kind 0) below }
