-- What the blocks that a superblock begins tell of its role, and of the superblocks behind it.
use Rattle.std.proofs.Common.{◌≡◌, ℕ, zero, ◌+◌, ◌*◌, ◌<◌, ◌≤◌, inl, inr, List, [], ◌∷◌, get_or, ap, sym, subst, ◌∙◌, arith}
use Rattle.std.specs.List.{Contains}
use Rattle.std.proofs.Math.Nat.{zero-mul}
use Rattle.std.proofs.lemmas.Bool.{cases_lt}
use Rattle.std.proofs.lemmas.List.Elements.{Contains-get_or}
use Rattle.heap_model.specs.declared.block.Block.{Block}
use Rattle.heap_model.specs.Geometry.{start_word, superblock_words}
use Rattle.heap_model.specs.Sizes.{IsClass, words_of_class, blocks_of}
use Rattle.heap_model.specs.Words.{large_info}
use Rattle.heap_model.specs.Blocks.{Layout, Begins, of_class, as_large, IsBlock, IsBlockOf}
use Rattle.heap_model.specs.Recovered.{IsFreeSuperblock, IsBlockOfClass, AreAscending}
use Rattle.heap_model.specs.Recovery.{HoldsKept, IsSpare}
use Rattle.heap_model.proofs.BlockLemmas.{same_begins, block_begins}
use Rattle.heap_model.proofs.PartLemmas.{same_fields}
use Rattle.heap_at_rest.proofs.PartLemmas.{class_inside}
use Rattle.heap_recover.specs.Marked.{KeepsBlocks, IsKeptAmong, IsSpareAmong, AreParted, IsKeptIn, GoOnTo}
use Rattle.size_table.specs.declared.size_class.SizeClass.{SizeClass}
use Rattle.heap_recover.specs.declared.roles.Role.{Role}
use Rattle.heap_recover.specs.declared.roles.Role.TheVariants.{Free, Large}
use Rattle.heap_recover.specs.declared.surveys.Survey.{Survey}
use Rattle.heap_recover.specs.Roles.{IsRole, is_free, is_partial, is_full, is_large, IsSurvey, RoleOfParts, none_held, none_spare, some_of_both}
use Rattle.heap_recover.proofs.AscendingLemmas.{ascending_none, ascending_same, ascending_push}

-- superblock d begins the block
pub record IsBegunBy (l : Layout) (d : ℕ) (b : Block) : Type 0 where
  pub index : ℕ
  pub words : ℕ
  pub count : ℕ
  pub is_of : IsBlockOf l b d index words count

-- a block that begins in superblock d is begun by it
pub begun_by : (l : Layout) (d : ℕ) (b : Block) → IsBlock l b → start_word l.capacity d ≤ b.first_word
    → b.first_word < start_word l.capacity (d + 1) → IsBegunBy l d b
begun_by l d b is from until =
    let inside = block_begins l b is.superblock is.index is.words is.count is.is_of in
    let same : is.superblock ≡ d = omega arith in
    record { index = is.index; words = is.words; count = is.count; is_of = subst (λ e. IsBlockOf l b e is.index is.words is.count) same is.is_of }

-- in a superblock of a class it is a block of the class
pub class_block : (l : Layout) (d class : ℕ) (b : Block) → l.info d ≡ class → IsClass class → (begun : IsBegunBy l d b)
    → IsBlockOfClass l.capacity class d begun.index b
class_block l d class b info is begun =
    let of = begun.is_of in
    let same = same_begins l d begun.words begun.count (words_of_class class) (blocks_of class) of.begins (of_class class info is) in
    record {
      below = (let below = of.below in let count = same.1 in omega arith);
      at = of.at ∙ ap (λ w. start_word l.capacity d + begun.index * w) same.0;
      size = of.size ∙ same.0;
    }

-- an empty list has no element
pub none_of : {A : Type 0} {x : A} {xs : List A} → xs ≡ [] → Contains xs x → ⊥
none_of {A} {x} {xs} empty has = let none = subst (λ ys. Contains ys x) empty has in let below = none.1 in omega arith

module _ (l : Layout) (kept : Block → Type 0) (blocks : KeepsBlocks l kept) where
  -- the kept blocks go on no further than those of the next superblock do
  pub go_on : (d end : ℕ) → GoOnTo l kept d end → ((b : Block) → IsKeptIn l.capacity kept d b
      → b.first_word + b.words ≤ start_word l.capacity (d + 1)) → GoOnTo l kept (d + 1) end
  go_on d end old here = record {
    inside = λ e low high. old.inside e (omega arith) high;
    ends = λ b e is_kept before low past. elim (cases_lt b.first_word (start_word l.capacity d)) as
        (λ _. b.first_word + b.words ≤ start_word l.capacity e) [
          | inl lower ↦ old.ends b e is_kept lower (omega arith) past
          | inr in_d ↦ let ends = here b (record { is_kept = is_kept; from = in_d; until = before }) in omega arith
        ];
  }

  -- a superblock that begins no kept block, and into which none goes on, is free
  pub free_superblock : (d end : ℕ) → GoOnTo l kept d end → d < l.used → end ≤ d → ((b : Block) → IsKeptIn l.capacity kept d b → ⊥)
      → IsFreeSuperblock l kept d
  free_superblock d end old taken past none = record {
    taken = taken;
    empty = λ b is_kept part. elim (cases_lt b.first_word (start_word l.capacity d)) as (λ _. ⊥) [
      | inl lower ↦ let ends = old.ends b d is_kept lower (omega arith) past in let beyond = part.ends in omega arith
      | inr in_d ↦ none b (record { is_kept = is_kept; from = in_d; until = part.begins })
    ];
  }

  -- none goes on into a superblock with an info
  pub ends_here : (d end : ℕ) → GoOnTo l kept d end → 1 ≤ l.info d → end ≤ d
  ends_here d end old info = elim (cases_lt d end) as (λ _. end ≤ d)
      [ inl before ↦ absurd (let none = (old.inside d (omega arith) before).no_info in omega arith) | inr past ↦ past ]

  module _ (d : ℕ) (class : SizeClass) (taken : d < l.used) (info : l.info d ≡ class.number) where
    -- the kept blocks of a superblock of a class are those of its blocks that are kept
    pub kept_among : (b : Block) → IsKeptIn l.capacity kept d b → IsKeptAmong kept l.capacity class.number d (blocks_of class.number) b
    kept_among b is_b =
        let begun = begun_by l d b (blocks.each b is_b.is_kept) is_b.from is_b.until in
        let of_class' = class_block l d class.number b info class.is begun in
        record { index = begun.index; is_block = of_class'; among = of_class'.below; is_kept = is_b.is_kept }

    pub kept_in : (b : Block) → IsKeptAmong kept l.capacity class.number d (blocks_of class.number) b → IsKeptIn l.capacity kept d b
    kept_in b is_b =
        let inside = class_inside l.capacity class.number d is_b.index b class.is is_b.is_block in
        record { is_kept = is_b.is_kept; from = inside.0; until = omega arith }

    pub class_held : (held : List Block) (spares : List ℕ) → AreParted kept l.capacity class.number d (blocks_of class.number) held spares
        → AreAscending (λ (b : Block). b.first_word) (IsKeptIn l.capacity kept d) held
    class_held held spares parted = ascending_same (λ (b : Block). b.first_word)
        (IsKeptAmong kept l.capacity class.number d (blocks_of class.number)) (IsKeptIn l.capacity kept d) held kept_in kept_among parted.kept_in_order

    -- they end where the superblock ends, or before
    pub class_goes_on : (end : ℕ) → GoOnTo l kept d end → GoOnTo l kept (d + 1) end
    class_goes_on end old = go_on d end old (λ b is_b. let among = kept_among b is_b in
        let inside = class_inside l.capacity class.number d among.index b class.is among.is_block in inside.1)

    -- one of them is a part of a kept block in the superblock
    pub holds_among : (b : Block) → IsKeptAmong kept l.capacity class.number d (blocks_of class.number) b → HoldsKept l kept d
    holds_among b is_b =
        let inside = class_inside l.capacity class.number d is_b.index b class.is is_b.is_block in
        record { block = b; is_kept = is_b.is_kept; part = record { begins = omega arith; ends = omega arith } }

    spare_of : (w : ℕ) → IsSpareAmong kept l.capacity class.number d (blocks_of class.number) w → IsSpare l kept class.number d w
    spare_of w is_w = record { index = is_w.index; block = is_w.block; is_block = is_w.is_block; first = is_w.first; unkept = is_w.unkept }

    spare_among : (w : ℕ) → IsSpare l kept class.number d w → IsSpareAmong kept l.capacity class.number d (blocks_of class.number) w
    spare_among w is_w = record {
      index = is_w.index;
      block = is_w.block;
      is_block = is_w.is_block;
      among = is_w.is_block.below;
      first = is_w.first;
      unkept = is_w.unkept;
    }

    -- the role that the parts give
    pub class_role : (end : ℕ) (held : List Block) (spares chained : List ℕ) (role : Role) → GoOnTo l kept d end
        → AreParted kept l.capacity class.number d (blocks_of class.number) held spares → RoleOfParts class held spares role chained
        → IsRole l kept d role chained
    class_role end held spares _ _ old parted (none_held empty) =
        is_free (free_superblock d end old taken (ends_here d end old (let some = class.is.some in omega arith))
        (λ b is_b. none_of empty (parted.kept_in_order.complete b (kept_among b is_b))))
    class_role end held spares _ _ old parted (none_spare some empty) =
        is_full class (record {
          taken = taken;
          info_is = info;
          all = λ index b is_b. elim (parted.each index b is_b.below is_b) as (λ _. kept b) [
            | inl here ↦ (parted.kept_in_order.sound b here).is_kept
            | inr there ↦ absurd (none_of empty there)
          ];
        })
    class_role end held spares _ _ old parted (some_of_both some_held some_spare) =
        let first : Block = get_or held 0 (record { first_word = 0; words = 0 }) in
        is_partial class spares
        (record {
          taken = taken;
          info_is = info;
          holds = holds_among first (parted.kept_in_order.sound first (Contains-get_or held 0 (record { first_word = 0; words = 0 }) some_held));
          spare = (
            get_or spares 0 0,
            spare_of (get_or spares 0 0) (parted.spares_in_order.sound (get_or spares 0 0)
                (Contains-get_or spares 0 0 some_spare)),
          );
        })
        (ascending_same (λ w. w) (IsSpareAmong kept l.capacity class.number d (blocks_of class.number))
        (IsSpare l kept class.number d) spares spare_of spare_among parted.spares_in_order)

  -- a superblock that begins no block holds none that is kept
  pub none_begun : (d : ℕ) → ((w m : ℕ) → Begins l d w m → ⊥) → (b : Block) → IsKeptIn l.capacity kept d b → ⊥
  none_begun d nothing b is_b =
      let begun = begun_by l d b (blocks.each b is_b.is_kept) is_b.from is_b.until in nothing begun.words begun.count begun.is_of.begins

  -- the survey of a superblock that begins no kept block, if none goes on into it
  pub free_survey : (d end : ℕ) → d < l.used → end ≤ d → GoOnTo l kept d end → ((b : Block) → IsKeptIn l.capacity kept d b → ⊥)
      → (survey : Survey) → survey.role ≡ Free → survey.held.items ≡ [] → survey.spares.items ≡ [] → survey.end ≡ end → IsSurvey l kept d survey
  free_survey d end taken past old none survey role held spares ends = record {
    role = subst (λ r. IsRole l kept d r survey.spares.items) (sym role)
        (subst (λ xs. IsRole l kept d Free xs) (sym spares) (is_free (free_superblock d end old taken past none)));
    in_order = subst (λ xs. AreAscending (λ (b : Block). b.first_word) (IsKeptIn l.capacity kept d) xs) (sym held)
        (ascending_none (λ (b : Block). b.first_word) (IsKeptIn l.capacity kept d) none);
    goes_on = subst (λ e. GoOnTo l kept (d + 1) e) (sym ends) (go_on d end old (λ b is_b. absurd (none b is_b)));
  }

  -- of one into which one goes on
  pub inside_survey : (d end : ℕ) → d < l.used → d < end → GoOnTo l kept d end → (IsClass (l.info d) → ⊥)
      → ((b : Block) → IsKeptIn l.capacity kept d b → ⊥)
      → (survey : Survey) → survey.role ≡ Large → survey.held.items ≡ [] → survey.spares.items ≡ [] → survey.end ≡ end → IsSurvey l kept d survey
  inside_survey d end taken inside old no_class none survey role held spares ends = record {
    role = subst (λ r. IsRole l kept d r survey.spares.items) (sym role) (subst (λ xs. IsRole l kept d Large xs) (sym spares)
        (is_large (record { taken = taken; holds = (old.inside d (omega arith) inside).holds; no_class = no_class })));
    in_order = subst (λ xs. AreAscending (λ (b : Block). b.first_word) (IsKeptIn l.capacity kept d) xs) (sym held)
        (ascending_none (λ (b : Block). b.first_word) (IsKeptIn l.capacity kept d) none);
    goes_on = subst (λ e. GoOnTo l kept (d + 1) e) (sym ends) (go_on d end old (λ b is_b. absurd (none b is_b)));
  }

  -- of one of a class
  pub class_survey : (d end : ℕ) (class : SizeClass) → d < l.used → l.info d ≡ class.number → GoOnTo l kept d end
      → (held : List Block) (spares : List ℕ) → AreParted kept l.capacity class.number d (blocks_of class.number) held spares
      → (survey : Survey) → RoleOfParts class held spares survey.role survey.spares.items → survey.held.items ≡ held → survey.end ≡ end
      → IsSurvey l kept d survey
  class_survey d end class taken info old held spares parted survey role same ends = record {
    role = class_role d class taken info end held spares survey.spares.items survey.role old parted role;
    in_order = subst (λ xs. AreAscending (λ (b : Block). b.first_word) (IsKeptIn l.capacity kept d) xs) (sym same)
        (class_held d class taken info held spares parted);
    goes_on = subst (λ e. GoOnTo l kept (d + 1) e) (sym ends) (class_goes_on d class taken info end old);
  }

  module _ (d count : ℕ) (taken : d < l.used) (some : 1 ≤ count) (info : l.info d ≡ large_info count) where
    -- what a superblock with the info of a large block begins
    pub large_begun : (b : Block) → IsKeptIn l.capacity kept d b → (b.first_word ≡ start_word l.capacity d) × (b.words ≡ superblock_words * count)
        × ((i : ℕ) → d < i → i < d + count → l.info i ≡ 0)
    large_begun b is_b =
        let begun = begun_by l d b (blocks.each b is_b.is_kept) is_b.from is_b.until in
        parts begun.index begun.words begun.count begun.is_of begun.is_of.begins
      where
        parts : (index w n : ℕ) → IsBlockOf l b d index w n → Begins l d w n → (b.first_word ≡ start_word l.capacity d)
            × (b.words ≡ superblock_words * count) × ((i : ℕ) → d < i → i < d + count → l.info i ≡ 0)
        parts index w n is_of (of_class c e is) = absurd (let last = is.last in omega arith)
        parts index w n is_of (as_large k some' e end zeros) =
            let same : k ≡ count = omega arith in
            let first : index ≡ zero = let below = is_of.below in omega arith in
            let none : index * w ≡ 0 = subst (λ x. x * w ≡ 0) (sym first) (zero-mul w) in
            let at = is_of.at in
            let size = is_of.size in
            (omega arith, omega arith, λ i low high. zeros i low (omega arith))

    -- the large block is kept, if a kept block begins where it does
    pub large_kept : (block : Block) → block.first_word ≡ start_word l.capacity d → block.words ≡ superblock_words * count → (b : Block)
        → kept b → b.first_word ≡ block.first_word → kept block
    large_kept block first words b is_kept begins =
        let begun = large_begun b (record { is_kept = is_kept; from = omega arith; until = omega arith }) in
        subst kept (same_fields b block begins (begun.1 ∙ sym words)) is_kept

    -- no kept block, if that one is not kept
    pub large_unkept : (block : Block) → block.first_word ≡ start_word l.capacity d → block.words ≡ superblock_words * count → (kept block → ⊥)
        → (b : Block) → IsKeptIn l.capacity kept d b → ⊥
    large_unkept block first words unkept b is_b = unkept (subst kept
        (same_fields b block ((large_begun b is_b).0 ∙ sym first) ((large_begun b is_b).1 ∙ sym words)) is_b.is_kept)

    -- one that is kept goes on through its superblocks
    module _ (end : ℕ) (old : GoOnTo l kept d end) (block : Block) (first : block.first_word ≡ start_word l.capacity d)
        (words : block.words ≡ superblock_words * count) (is_kept : kept block) where
      large_here : IsKeptIn l.capacity kept d block
      large_here = record { is_kept = is_kept; from = omega arith; until = omega arith }

      large_holds : (e : ℕ) → d ≤ e → e < d + count → HoldsKept l kept e
      large_holds e low high = record { block = block; is_kept = is_kept; part = record { begins = omega arith; ends = omega arith } }

      pub large_goes_on : GoOnTo l kept (d + 1) (d + count)
      large_goes_on = record {
        inside = λ e low high. record { holds = large_holds e (omega arith) high; no_info = (large_begun block large_here).2 e (omega arith) high };
        ends = λ b e kept_b before low past. elim (cases_lt b.first_word (start_word l.capacity d)) as
            (λ _. b.first_word + b.words ≤ start_word l.capacity e) [
              | inl lower ↦ old.ends b e kept_b lower (omega arith) (let past_end = ends_here d end old (omega arith) in omega arith)
              | inr in_d ↦ let begun = large_begun b (record { is_kept = kept_b; from = in_d; until = before }) in omega (arith, begun.0, begun.1)
            ];
      }

    -- the survey of one that begins a kept large block
    pub large_survey : (end : ℕ) → GoOnTo l kept d end → (block : Block) → block.first_word ≡ start_word l.capacity d
        → block.words ≡ superblock_words * count → kept block
        → (survey : Survey) → survey.role ≡ Large → survey.held.items ≡ block ∷ [] → survey.spares.items ≡ [] → survey.end ≡ d + count
        → IsSurvey l kept d survey
    large_survey end old block first words is_kept survey role held spares ends = record {
      role = subst (λ r. IsRole l kept d r survey.spares.items) (sym role) (subst (λ xs. IsRole l kept d Large xs) (sym spares)
          (is_large (record {
            taken = taken;
            holds = large_holds end old block first words is_kept d (omega arith) (omega arith);
            no_class = λ is. let last = is.last in omega arith;
          })));
      in_order = subst (λ xs. AreAscending (λ (b : Block). b.first_word) (IsKeptIn l.capacity kept d) xs) (sym held)
          (ascending_push (λ (b : Block). b.first_word) (λ _. ⊥) (IsKeptIn l.capacity kept d) [] block
          (ascending_none (λ (b : Block). b.first_word) (λ _. ⊥) (λ x none. none)) (λ y none. absurd none) (λ y none. absurd none)
          (large_here end old block first words is_kept) (λ b is_b. inr (same b is_b)));
      goes_on = subst (λ e. GoOnTo l kept (d + 1) e) (sym ends) (large_goes_on end old block first words is_kept);
    } where
      same : (b : Block) → IsKeptIn l.capacity kept d b → b ≡ block
      same b is_b = same_fields b block ((large_begun b is_b).0 ∙ sym first) ((large_begun b is_b).1 ∙ sym words)
