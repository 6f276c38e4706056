-- What the descriptor of a superblock tells, or that the image is not orderly.
use Rattle.std.proofs.Common.{◌≡◌, ℕ, ◌+◌, ◌*◌, ◌<◌, ◌≤◌, inl, inr, Bool, true, false, Option, List, [], ◌∷◌, get_or, Contains, refl, sym, subst, ◌∙◌, arith}
use Rattle.std.specs.Prelude.{Ok, Err, Some, None, IfOk, MatchOption}
use Rattle.std.specs.declared.result.Result.{Result}
use Rattle.std.specs.declared.alloc.AllocError.{AllocError}
use Rattle.std.proofs.lemmas.Bool.{cases_lt}
use Rattle.std.proofs.lemmas.List.Elements.{Contains-get_or}
use Rattle.heap_model.specs.declared.block.Block.{Block}
use Rattle.heap_model.specs.Geometry.{info_word, anchor_word, link_word, start_word, superblock_words}
use Rattle.heap_model.specs.Image.{Image}
use Rattle.heap_model.specs.Header.{capacity_of, used_of}
use Rattle.heap_model.specs.Sizes.{IsClass, words_of_class, blocks_of}
use Rattle.heap_model.specs.Words.{anchor_state, empty_state, large_info}
use Rattle.heap_model.specs.Blocks.{Begins, as_large as begins_large, IsBlock, layout_of}
use Rattle.heap_model.specs.Recovered.{HasPartIn}
use Rattle.heap_model.specs.Recovery.{HoldsKept}
use Rattle.heap_model.specs.Chains.{IsListOf}
use Rattle.heap_model.proofs.BlockLemmas.{block_inside, block_words}
use Rattle.heap_at_rest.proofs.PartLemmas.{long_takes}
use Rattle.heap_at_rest.proofs.ListLemmas.{one_following}
use Rattle.size_table.specs.declared.size_class.SizeClass.{SizeClass}
use Rattle.heap_at_rest.specs.Orderly.{HasOrderlyAnchor, all_free, none_free, some_free, IsLargeOutside, IsOrderlyOutside, of_class, of_large, IsOrderly, IsOutsideFreeList, IsHeldByAnchors, in_full, as_large}
use Rattle.heap_recover.specs.declared.roles.Role.{Role}
use Rattle.heap_recover.specs.declared.roles.Role.TheVariants.{Free, Large}
use Rattle.heap_recover.specs.declared.surveys.Survey.{Survey}
use Rattle.heap_recover.specs.Marked.{AreParted, IsKeptIn, GoOnTo, IsSpareAmong}
use Rattle.heap_recover.specs.Roles.{RoleOfParts, none_held, none_spare, some_of_both}
use Rattle.heap_recover.proofs.SurveyLemmas.{none_of, ends_here, none_begun, free_survey, inside_survey, class_survey, large_survey, large_begun}
use Rattle.quick_recover.specs.Anchored.{IsDisorderly, HasFreeList, IsNotFreed, IsToldBy, by_full, by_chain, FitsAnchor, IsReadAs, IsWhole}
use Rattle.quick_recover.proofs.HoldLemmas.{keeps, HeldPart, full_part, partial_part, large_part, held_part, freed_holds_none, empty_holds_none, chained_free, unmarked_held}

-- a block that begins in a superblock has a part there
begins_part : (image : Image) (d : ℕ) (b : Block) → IsKeptIn (capacity_of image) (IsHeldByAnchors image) d b → HasPartIn (capacity_of image) b d
begins_part image d b is = let some = block_words (layout_of image) b ((keeps image).each b is.is_kept) in let from = is.from in
    record { begins = is.until; ends = omega arith }

-- the anchor fits the role that the parts give
fits_parts : (image : Image) (free : List ℕ) (class : SizeClass) (d : ℕ) (marks : List Bool) (held : List Block) (spares chained : List ℕ)
    (role : Role) → IsOutsideFreeList image free d
    → image (info_word d) ≡ class.number → IsToldBy image class.number d marks
    → AreParted (IsHeldByAnchors image) (capacity_of image) class.number d (blocks_of class.number) held spares
    → RoleOfParts class held spares role chained → FitsAnchor image d chained role
fits_parts image free class d marks held spares _ _ out info told parted (none_held empty) = tt
fits_parts image free class d marks held spares _ _ out info (by_full anchor are) parted (none_spare some empty) = anchor
fits_parts image free class d marks held spares _ _ out info (by_chain chain has are) parted (none_spare some empty) =
    let w = get_or chain 0 0 in
    let p = Contains-get_or chain 0 0 has.some in
    let block = has.linked.blocks w p in
    absurd (none_of empty (parted.spares_in_order.complete w (record {
      index = block.0;
      block = record { first_word = w; words = words_of_class class.number };
      is_block = block.1;
      among = block.1.below;
      first = refl;
      unkept = λ kept. chained_free image class.number d block.0 chain
          (record { first_word = w; words = words_of_class class.number }) class.is info has block.1 p kept;
    })))
fits_parts image free class d marks held spares _ _ out info (by_full anchor are) parted (some_of_both some_held some_spare) =
    let w = get_or spares 0 0 in
    let spare = parted.spares_in_order.sound w (Contains-get_or spares 0 0 some_spare) in
    absurd (spare.unkept (in_full free class.number d spare.index out class.is info anchor spare.is_block))
fits_parts image free class d marks held spares _ _ out info (by_chain chain has are) parted (some_of_both some_held some_spare) = record {
  chain = chain;
  has = has;
  to = λ w p. let spare = parted.spares_in_order.sound w p in in_chain w spare (get_or marks spare.index false) refl;
  from = λ w p. let block = has.linked.blocks w p in parted.spares_in_order.complete w (record {
    index = block.0;
    block = record { first_word = w; words = words_of_class class.number };
    is_block = block.1;
    among = block.1.below;
    first = refl;
    unkept = λ kept. chained_free image class.number d block.0 chain
        (record { first_word = w; words = words_of_class class.number }) class.is info has block.1 p kept;
  });
} where
  in_chain : (w : ℕ) (spare : IsSpareAmong (IsHeldByAnchors image) (capacity_of image) class.number d (blocks_of class.number) w) (mark : Bool)
      → get_or marks spare.index false ≡ mark → Contains chain w
  in_chain w spare true is = subst (λ x. Contains chain x) (sym spare.is_block.at ∙ spare.first) (are.marked spare.index spare.is_block.below is)
  in_chain w spare false is = absurd (spare.unkept (unmarked_held image free class.number d marks out class.is info spare.index spare.block
      spare.is_block (by_chain chain has are) is))

-- the anchor is orderly
told_orderly : (image : Image) (class d : ℕ) (marks : List Bool) → IsToldBy image class d marks → HasOrderlyAnchor image class d
told_orderly image class d marks (by_full anchor are) = none_free anchor
told_orderly image class d marks (by_chain chain has are) = some_free chain has

module _ (image : Image) (d end : ℕ) (goes_on : GoOnTo (layout_of image) (IsHeldByAnchors image) d end) where
  -- a superblock of a class, by its blocks
  pub read_parts : (class : SizeClass) (marks : List Bool) (held : List Block) (spares : List ℕ) (survey : Survey) → IsNotFreed image d
      → image (info_word d) ≡ class.number
      → IsToldBy image class.number d marks → AreParted (IsHeldByAnchors image) (capacity_of image) class.number d (blocks_of class.number) held spares
      → RoleOfParts class held spares survey.role survey.spares.items → survey.held.items ≡ held → survey.end ≡ end → IsReadAs image d survey
  read_parts class marks held spares survey not_freed info told parted role same ends = record {
    surveyed = class_survey (layout_of image) (IsHeldByAnchors image)
        (keeps image) d end class not_freed.is.taken info goes_on held spares parted survey role same ends;
    fits = fits_parts image not_freed.free class d marks held spares survey.spares.items survey.role not_freed.is info told parted role;
    orderly = λ free listed outside. of_class class.number class.is info (told_orderly image class.number d marks told);
  }

  -- one of a class with an empty anchor
  pub read_empty : (class : SizeClass) (survey : Survey) → d < used_of image → image (info_word d) ≡ class.number
      → anchor_state (image (anchor_word d)) ≡ empty_state
      → survey.role ≡ Free → survey.held.items ≡ [] → survey.spares.items ≡ [] → survey.end ≡ end → IsReadAs image d survey
  read_empty class survey taken info empty role held spares ends = record {
    surveyed = free_survey (layout_of image) (IsHeldByAnchors image) (keeps image) d end taken
        (ends_here (layout_of image) (IsHeldByAnchors image) (keeps image) d end goes_on (let some = class.is.some in omega arith)) goes_on
        (λ b is_b. empty_holds_none image class.number d class.is info empty b is_b.is_kept (begins_part image d b is_b)) survey role held spares ends;
    fits = subst (FitsAnchor image d survey.spares.items) (sym role) tt;
    orderly = λ free listed outside. of_class class.number class.is info (all_free empty);
  }

  module _ (marks : List Bool) (list : HasFreeList image marks) (taken : d < used_of image) where
    one_list : (other : List ℕ) → IsListOf image 0 other → list.free ≡ other
    one_list other listed = one_following (λ e. image (link_word e)) (capacity_of image) _ list.free other list.is.listed listed

    -- one of the free list
    pub read_freed : (survey : Survey) → get_or marks d false ≡ true → survey.role ≡ Free → survey.held.items ≡ [] → survey.spares.items ≡ []
        → survey.end ≡ end → IsReadAs image d survey
    read_freed survey marked role held spares ends = record {
      surveyed = free_survey (layout_of image) (IsHeldByAnchors image) (keeps image) d end taken past goes_on
          (λ b is_b. freed_holds_none image list.free d list.is.listed freed b is_b.is_kept (begins_part image d b is_b)) survey role held spares ends;
      fits = subst (FitsAnchor image d survey.spares.items) (sym role) tt;
      orderly = λ free listed outside. absurd (outside (subst (λ ds. Contains ds d) (one_list free listed) freed));
    } where
      freed : Contains list.free d
      freed = list.is.marked.marked d taken marked

      past : end ≤ d
      past = elim (cases_lt d end) as (λ _. end ≤ d) [
        | inl inside ↦ let holds = (goes_on.inside d (omega arith) inside).holds in
            absurd (freed_holds_none image list.free d list.is.listed freed holds.block holds.is_kept holds.part)
        | inr beyond ↦ beyond
      ]

    module _ (unmarked : get_or marks d false ≡ false) where
      outside_list : (other : List ℕ) → IsListOf image 0 other → Contains other d → ⊥
      outside_list other listed p = list.is.marked.unmarked d taken unmarked (subst (λ ds. Contains ds d) (sym (one_list other listed)) p)

      pub not_freed : IsNotFreed image d
      not_freed = record { free = list.free; is = record { taken = taken; listed = list.is.listed; outside = outside_list list.free list.is.listed } }

      -- one that begins no block, inside a large one
      pub read_inside : (survey : Survey) → d < end → (IsClass (image (info_word d)) → ⊥) → ((w n : ℕ) → Begins (layout_of image) d w n → ⊥)
          → survey.role ≡ Large → survey.held.items ≡ [] → survey.spares.items ≡ [] → survey.end ≡ end → IsReadAs image d survey
      read_inside survey inside no_class nothing role held spares ends = record {
        surveyed = inside_survey (layout_of image) (IsHeldByAnchors image) (keeps image) d end taken inside goes_on no_class
            (none_begun (layout_of image) (IsHeldByAnchors image) (keeps image) d nothing) survey role held spares ends;
        fits = subst (FitsAnchor image d survey.spares.items) (sym role) tt;
        orderly = λ free listed outside. by_part free listed (held_part image holds.block d holds.is_kept holds.part);
      } where
        holds : HoldsKept (layout_of image) (IsHeldByAnchors image) d
        holds = (goes_on.inside d (omega arith) inside).holds

        by_part : (free : List ℕ) → IsListOf image 0 free → HeldPart image holds.block d → IsOrderlyOutside image free d
        by_part free listed (full_part other c i out is_c info_c anchor of_c) = absurd (no_class (subst IsClass (sym info_c) is_c))
        by_part free listed (partial_part other chain c i out is_c info_c has of_c unchained) = absurd (no_class (subst IsClass (sym info_c) is_c))
        by_part free listed (large_part other listed' large) = of_large holds.block
            (subst (λ ds. IsLargeOutside image ds holds.block) (sym (one_list other listed') ∙ one_list free listed) large) holds.part

      -- what an orderly image has there
      use_of : (limit : Option ℕ) (bytes : ℕ) (orderly : IsOrderly limit bytes image) → IsOrderlyOutside image orderly.free d
      use_of limit bytes orderly = orderly.others d taken (outside_list orderly.free orderly.listed)

      -- a large block of it begins there, where none goes on
      large_begins : (free : List ℕ) (b : Block) → IsListOf image 0 free → end ≤ d → IsLargeOutside image free b
          → HasPartIn (capacity_of image) b d → IsKeptIn (capacity_of image) (IsHeldByAnchors image) d b
      large_begins free b listed past large part = elim (cases_lt b.first_word (start_word (capacity_of image) d)) as
          (λ _. IsKeptIn (capacity_of image) (IsHeldByAnchors image) d b) [
            | inl lower ↦ absurd (let ends = goes_on.ends b d (as_large free listed large) lower (omega arith) past in let beyond = part.ends in
                omega arith)
            | inr here ↦ record { is_kept = as_large free listed large; from = here; until = part.begins }
          ]

      -- with a superblock that begins nothing, and is in no large block, it is not orderly
      pub no_use : end ≤ d → (IsClass (image (info_word d)) → ⊥) → ((w n : ℕ) → Begins (layout_of image) d w n → ⊥) → IsDisorderly image
      no_use past no_class nothing = record { never = λ limit bytes orderly. by_use orderly.free orderly.listed (use_of limit bytes orderly) } where
        by_use : (free : List ℕ) → IsListOf image 0 free → IsOrderlyOutside image free d → ⊥
        by_use free listed (of_class class is info anchor) = no_class (subst IsClass (sym info) is)
        by_use free listed (of_large b large part) = none_begun (layout_of image) (IsHeldByAnchors image) (keeps image) d nothing b
            (large_begins free b listed past large part)

      -- nor with one of a class whose anchor is none to rely on
      pub bad_anchor : (class : ℕ) → IsClass class → image (info_word d) ≡ class → (HasOrderlyAnchor image class d → ⊥) → IsDisorderly image
      bad_anchor class is info none = record { never = λ limit bytes orderly. by_use orderly.free (use_of limit bytes orderly) } where
        by_use : (free : List ℕ) → IsOrderlyOutside image free d → ⊥
        by_use free (of_class c is_c info_c anchor) = none (subst (λ x. HasOrderlyAnchor image x d) (sym info_c ∙ info) anchor)
        by_use free (of_large b large part) = (long_takes (layout_of image) b d large.block part large.large).no_class (subst IsClass (sym info) is)

      module _ (count : ℕ) (some : 1 ≤ count) (info : image (info_word d) ≡ large_info count) where
        past_end : end ≤ d
        past_end = ends_here (layout_of image) (IsHeldByAnchors image) (keeps image) d end goes_on (omega arith)

        -- one that begins a large block
        pub read_large : (survey : Survey) (block : Block) → IsWhole image marks d count → block.first_word ≡ start_word (capacity_of image) d
            → block.words ≡ superblock_words * count
            → survey.role ≡ Large → survey.held.items ≡ block ∷ [] → survey.spares.items ≡ [] → survey.end ≡ d + count → IsReadAs image d survey
        read_large survey block whole first words role held spares ends = record {
          surveyed = large_survey (layout_of image) (IsHeldByAnchors image) (keeps image) d count taken some info end goes_on block first words
              (as_large list.free list.is.listed large) survey role held spares ends;
          fits = subst (FitsAnchor image d survey.spares.items) (sym role) tt;
          orderly = λ free listed outside. of_large block (subst (λ ds. IsLargeOutside image ds block) (one_list free listed) large)
              (record { begins = omega arith; ends = omega arith });
        } where
          is_block : IsBlock (layout_of image) block
          is_block = record {
            superblock = d;
            index = 0;
            words = superblock_words * count;
            count = 1;
            is_of = record {
              taken = taken;
              begins = begins_large count some info whole.fits (λ i low high. (whole.each i low high).0);
              below = omega arith;
              at = let none : 0 * (superblock_words * count) ≡ 0 = omega arith in omega arith;
              size = words;
            };
          }

          not_in_list : (e : ℕ) → HasPartIn (capacity_of image) block e → Contains list.free e → ⊥
          not_in_list e part p =
              let begins = part.begins in
              let part_ends = part.ends in
              let fits = whole.fits in
              elim (cases_lt d e) as (λ _. ⊥) [
                | inl inner ↦ list.is.marked.unmarked e (omega arith) (whole.each e inner (omega arith)).1 p
                | inr not_inner ↦ let same : e ≡ d = omega arith in outside_list list.free list.is.listed (subst (λ x. Contains list.free x) same p)
              ]

          large : IsLargeOutside image list.free block
          large = record { block = is_block; large = omega arith; outside = not_in_list }

        -- with one whose large block is not whole it is not orderly
        pub not_whole : (IsWhole image marks d count → ⊥) → IsDisorderly image
        not_whole none = record { never = λ limit bytes orderly. by_use orderly.free orderly.listed (use_of limit bytes orderly) } where
          by_use : (free : List ℕ) → IsListOf image 0 free → IsOrderlyOutside image free d → ⊥
          by_use free listed (of_class class is info_c anchor) = let last = is.last in
              let same : large_info count ≡ class = sym info ∙ info_c in omega arith
          by_use free listed (of_large b large part) =
              let begun = large_begun (layout_of image) (IsHeldByAnchors image) (keeps image) d count taken some info b
              (large_begins free b listed past_end large part) in
              let first = begun.0 in
              let words = begun.1 in
              let inside = block_inside (layout_of image) b large.block in
              let ends = inside.1 in
              none (record {
                fits = omega arith;
                each = λ e low high. (
                  begun.2 e low high,
                  unmarked_at free listed b large e
                      (record { begins = omega arith; ends = omega arith }) (get_or marks e false) refl,
                );
              })
            where
              unmarked_at : (free : List ℕ) → IsListOf image 0 free → (b : Block) → IsLargeOutside image free b → (e : ℕ)
                  → HasPartIn (capacity_of image) b e → (mark : Bool) → get_or marks e false ≡ mark → get_or marks e false ≡ false
              unmarked_at free listed b large e part true is = absurd (large.outside e part (subst (λ ds. Contains ds e) (one_list free listed)
                  (list.is.marked.marked e (let inside = block_inside (layout_of image) b large.block in let ends = inside.1 in
                  let part_ends = part.ends in let part_begins = part.begins in omega arith) is)))
              unmarked_at free listed b large e part false is = is

-- what is told of a superblock of a class is told of the image
pub class_answer : (image : Image) (d : ℕ) (N : Type 0) → (N → IsDisorderly image) → (r : Result (Option Survey) AllocError)
    → IfOk r (λ found. MatchOption found N (IsReadAs image d)) → IfOk r (λ found. MatchOption found (IsDisorderly image) (IsReadAs image d))
class_answer image d N to (Ok None) none = to none
class_answer image d N to (Ok (Some survey)) read = read
class_answer image d N to (Err e) any = tt
