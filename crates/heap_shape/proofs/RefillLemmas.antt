-- How an empty cache is filled.
use Rattle.std.proofs.Common.{◌≡◌, ◌≢◌, ℕ, ◌+◌, ◌<◌, ◌≤◌, ◌⊎◌, inl, inr, List, [], ◌∷◌, refl, ap, sym, subst, ◌∙◌, arith}
use Rattle.std.proofs.lemmas.Bool.{cases_eq}
use Rattle.heap_model.specs.declared.block.Block.{Block}
use Rattle.heap_model.specs.Geometry.{lists, head_word, info_word, anchor_word, link_word, used_word, start_word}
use Rattle.heap_model.specs.Image.{Image}
use Rattle.heap_model.specs.Sizes.{IsClass, blocks_of}
use Rattle.heap_model.specs.Words.{anchor_first, full_anchor, head_first}
use Rattle.heap_model.specs.Chains.{Follows}
use Rattle.heap_model.specs.Counting.{times}
use Rattle.heap_model.proofs.BlockLemmas.{block_words}
use Rattle.heap_at_rest.proofs.PartLemmas.{part_taken}
use Rattle.heap_at_rest.proofs.ListLemmas.{follows_same, walks_same, follows_below}
use Rattle.heap_shape.specs.Shape.{in_list, is_full, is_new, Shape, stands_in, with_at}
use Rattle.heap_shape.specs.Standing.{first_of, HoldsAt, HasOneOwner, a_free, a_held, IsOfClass, IsFree, IsNew, IsAs}
use Rattle.heap_at_rest.specs.Draining.{HasNoHeld, layout_at}
use Rattle.heap_shape.specs.Whole.{IsShape}
use Rattle.heap_shape.specs.Effects.{IsSet, IsPoppedOf, IsInSuperblock, IsCut, all_firsts}
use Rattle.heap_shape.specs.Moves.{after_take, after_cut, after_fresh}
use Rattle.heap_shape.proofs.BasicLemmas.{with_at_same, with_at_other, first_inside, inside_one, first_place, in_class_list, in_free_list}
use Rattle.heap_shape.proofs.CutLemmas.{refilled, IsRefilled, refill, follows_popped, listed_popped, past_is_new}
use Rattle.heap_shape.proofs.FirstsLemmas.{firsts_once, firsts_are, firsts_walk}

-- the chain of the first superblock of the class list is taken
pub take : (capacity class d : ℕ) (image middle new : Image) (held : List Block) (s : Shape) (ds : List ℕ) → IsClass class
    → IsShape capacity image held s
    → s.listed class ≡ d ∷ ds → s.cached class ≡ []
    → IsPoppedOf image middle class d → IsSet middle new (anchor_word d) full_anchor
    → IsShape capacity new held (after_take s class d ds (first_of capacity class d (anchor_first (image (anchor_word d)))))
take capacity class d image middle new held s ds is shape list empty popped set =
    refill capacity class d image new held s (with_at s.listed class ds) (s.chain d)
    (first_of capacity class d (anchor_first (image (anchor_word d)))) is shape taken where
      below : class < lists
      below = let last = is.last in omega arith

      first : (s.place d ≡ in_list class) × (d < capacity) × (times d ds ≡ 0)
      first = first_place capacity image held s shape class d ds below list

      of : IsOfClass capacity image s held class d
      of = (in_class_list capacity image held s shape class d is first.1 first.0).of_class

      -- the words but two are as before
      same : (word : ℕ) → word ≢ anchor_word d → word ≢ head_word class → new word ≡ image word
      same word not_anchor not_head = set.others word not_anchor ∙ popped.set.others word not_head

      used : new used_word ≡ image used_word
      used = same used_word (λ e. omega arith) (λ e. omega arith)

      inside : (e word : ℕ) → IsInSuperblock capacity e word → new word ≡ image word
      inside e word within = same word (λ e. let from = within.from in let less = first.1 in omega arith) (λ e. let from = within.from in omega arith)

      owned : (index : ℕ) → index < blocks_of class → HasOneOwner s held class d (first_of capacity class d index)
          → ((times (first_of capacity class d index) (s.chain d) ≡ 1) × (HoldsAt held (first_of capacity class d index) → ⊥))
          ⊎ ((times (first_of capacity class d index) (s.chain d) ≡ 0) × HoldsAt held (first_of capacity class d index))
      owned index less (a_free once unheld) =
          let none : times (first_of capacity class d index) (s.cached class) ≡ 0 = ap (times (first_of capacity class d index)) empty in
          inl (omega arith, unheld)
      owned index less (a_held never at) = inr (omega arith, at)

      taken : IsRefilled capacity class d image new held s (with_at s.listed class ds) (s.chain d)
          (first_of capacity class d (anchor_first (image (anchor_word d))))
      taken = record {
        within = first.1;
        stood = λ c is_c at. let place = first.0 in cc;
        not_full = λ full. let place = first.0 in cc;
        empty = empty;
        used = let most = shape.used in omega arith;
        raised = omega arith;
        taken = let less = of.taken in omega arith;
        untaken = λ e within apart place. let is_now : IsNew image e = subst (λ p. IsAs capacity image s held e p) place (shape.places e within) in
            let past = is_now.past in omega arith;
        info = same (info_word d) (λ e. omega arith) (λ e. omega arith) ∙ of.info;
        anchor = set.at;
        other_info = λ e within apart. same (info_word e) (λ e. omega arith) (λ e. omega arith);
        other_anchor = λ e within apart. same (anchor_word e) (λ at. apart (omega arith)) (λ e. omega arith);
        links = λ e within. same (link_word e) (λ e. omega arith) (λ e. omega arith);
        others = λ e word within apart at. inside e word at;
        unheld = λ b p part. same (info_word d) (λ e. omega arith) (λ e. omega arith);
        firsts = of.blocks;
        owned = λ index less. owned index less (of.owned index less);
        walks = walks_same image new (first_of capacity class d (anchor_first (image (anchor_word d)))) (s.chain d)
            (λ w p. inside d w (first_inside capacity class d w is (of.blocks w p))) of.walks;
        follows = follows_popped capacity image held s shape middle new class d ds below list popped
            (λ other less. set.others (head_word other) (λ e. omega arith))
            (λ e within. same (link_word e) (λ e. omega arith) (λ e. omega arith));
        in_lists = λ other e less. listed_popped capacity image held s shape class d ds below list other e less;
      }

-- what both ways to cut a superblock need: no held block has a part in it, and the first words of the image alone are others before
record IsCuttable (capacity class d : ℕ) (image middle new : Image) (held : List Block) (s : Shape) (listed : ℕ → List ℕ) : Type 0 where
  pub within : d < capacity
  pub no_class : (c : ℕ) → IsClass c → s.place d ≡ in_list c → ⊥
  pub not_full : s.place d ≡ is_full → ⊥
  pub empty : s.cached class ≡ []
  pub none : HasNoHeld capacity held d
  pub kept : (word : ℕ) → 1064 ≤ word → middle word ≡ image word
  pub used : middle used_word ≤ capacity
  pub raised : image used_word ≤ middle used_word
  pub taken : d < middle used_word
  pub untaken : (e : ℕ) → e < capacity → e ≢ d → s.place e ≡ is_new → middle used_word ≤ e
  pub cut : IsCut capacity middle new class d
  pub follows : (list : ℕ) → list < lists → Follows (λ e. new (link_word e)) capacity (head_first (new (head_word list))) (listed list)
  pub in_lists : (list e : ℕ) → list < lists → times e (listed list) ≡ stands_in (with_at s.place d is_full e) list

-- the words outside superblocks but two are as before
pub cut_before : (capacity class d : ℕ) (middle new : Image) (word : ℕ) → IsCut capacity middle new class d → word < start_word capacity 0
    → word ≢ info_word d
    → word ≢ anchor_word d → new word ≡ middle word
cut_before capacity class d middle new word cut less not_info not_anchor = cut.others word (λ inside. let from = inside.from in
    omega arith) not_info not_anchor

-- a superblock is cut for the class, and all its blocks go into the cache
cut_any : (capacity class d : ℕ) (image middle new : Image) (held : List Block) (s : Shape) (listed : ℕ → List ℕ) → IsClass class
    → IsShape capacity image held s
    → IsCuttable capacity class d image middle new held s listed
    → IsShape capacity new held (refilled s class d listed (all_firsts capacity class d) (first_of capacity class d 0))
cut_any capacity class d image middle new held s listed is shape able =
    refill capacity class d image new held s listed (all_firsts capacity class d) (first_of capacity class d 0) is shape cut where
      unheld : (index : ℕ) → index < blocks_of class → HoldsAt held (first_of capacity class d index) → ⊥
      unheld index less at =
          let inside = first_inside capacity class d (first_of capacity class d index) is (record { index = index; below = less; at = refl }) in
          let from = inside.from in
          let until = inside.until in
          let same = at.at in
          let long = block_words (layout_at capacity image) at.block (shape.named at.block at.holds) in
          able.none at.block at.holds (record { begins = omega arith; ends = omega arith })

      used : new used_word ≡ middle used_word
      used = cut_before capacity class d middle new used_word able.cut (omega arith) (λ e. omega arith) (λ e. omega arith)

      cut : IsRefilled capacity class d image new held s listed (all_firsts capacity class d) (first_of capacity class d 0)
      cut = record {
        within = able.within;
        stood = λ c is_c at. absurd (able.no_class c is_c at);
        not_full = able.not_full;
        empty = able.empty;
        used = let same = used in let most = able.used in omega arith;
        raised = let same = used in let more = able.raised in omega arith;
        taken = let same = used in let less = able.taken in omega arith;
        untaken = λ e within apart place. let same = used in let past = able.untaken e within apart place in omega arith;
        info = able.cut.info;
        anchor = able.cut.anchor;
        other_info = λ e within apart. cut_before capacity class d middle new (info_word e) able.cut (omega arith) (λ at. apart (omega arith))
            (λ at. omega arith)
            ∙ able.kept (info_word e) (omega arith);
        other_anchor = λ e within apart. cut_before capacity class d middle new (anchor_word e) able.cut (omega arith) (λ at. omega arith)
            (λ at. apart (omega arith))
            ∙ able.kept (anchor_word e) (omega arith);
        links = λ e within. cut_before capacity class d middle new (link_word e) able.cut (omega arith) (λ at. omega arith) (λ at. omega arith)
            ∙ able.kept (link_word e) (omega arith);
        others = λ e word within apart inside.
            let from = inside.from in
            let less = able.within in
            able.cut.others word (λ at. apart (inside_one capacity e d word inside at)) (λ at. omega arith) (λ at. omega arith)
            ∙ able.kept word (omega arith);
        unheld = λ b p part. absurd (able.none b p part);
        firsts = λ w p. firsts_are capacity class d 0 (blocks_of class) w (omega arith) p;
        owned = λ index less. inl (firsts_once capacity class d index 0 (blocks_of class) is (omega arith) (omega arith), unheld index less);
        walks = firsts_walk capacity class d new 0 (blocks_of class) able.cut.linked (omega arith);
        follows = able.follows;
        in_lists = able.in_lists;
      }

-- the first superblock of the free list is cut
pub cut_free : (capacity class d : ℕ) (image middle new : Image) (held : List Block) (s : Shape) (ds : List ℕ) → IsClass class
    → IsShape capacity image held s
    → s.listed 0 ≡ d ∷ ds → s.cached class ≡ []
    → IsPoppedOf image middle 0 d → IsCut capacity middle new class d → IsShape capacity new held (after_cut s capacity class d ds)
cut_free capacity class d image middle new held s ds is shape list empty popped cut =
    cut_any capacity class d image middle new held s (with_at s.listed 0 ds) is shape able where
      first : (s.place d ≡ in_list 0) × (d < capacity) × (times d ds ≡ 0)
      first = first_place capacity image held s shape 0 d ds (omega arith) list

      free : IsFree capacity image held d
      free = in_free_list capacity image held s shape d first.1 first.0

      used : middle used_word ≡ image used_word
      used = popped.set.others used_word (λ e. omega arith)

      able : IsCuttable capacity class d image middle new held s (with_at s.listed 0 ds)
      able = record {
        within = first.1;
        no_class = λ c is_c at. let place = first.0 in let none : c ≡ 0 = cc in let some = is_c.some in omega arith;
        not_full = λ full. let place = first.0 in cc;
        empty = empty;
        none = free.none;
        kept = λ word from. popped.set.others word (λ e. omega arith);
        used = let most = shape.used in omega arith;
        raised = omega arith;
        taken = let less = free.taken in omega arith;
        untaken = λ e within apart place. let is_now : IsNew image e = subst (λ p. IsAs capacity image s held e p) place (shape.places e within) in
            let past = is_now.past in omega arith;
        cut = cut;
        follows = follows_popped capacity image held s shape middle new 0 d ds (omega arith) list popped
            (λ other less. cut_before capacity class d middle new (head_word other) cut (omega arith) (λ e. omega arith) (λ e. omega arith))
            (λ e within. cut_before capacity class d middle new (link_word e) cut (omega arith) (λ at. omega arith) (λ at. omega arith)
            ∙ popped.set.others (link_word e) (λ at. omega arith));
        in_lists = λ other e less. listed_popped capacity image held s shape 0 d ds (omega arith) list other e less;
      }

-- a superblock that was never taken is cut
pub cut_fresh : (capacity class d : ℕ) (image middle new : Image) (held : List Block) (s : Shape) → IsClass class → IsShape capacity image held s
    → image used_word ≡ d → d < capacity → s.cached class ≡ []
    → IsSet image middle used_word (d + 1) → IsCut capacity middle new class d → IsShape capacity new held (after_fresh s capacity class d)
cut_fresh capacity class d image middle new held s is shape past within empty set cut =
    cut_any capacity class d image middle new held s s.listed is shape able where
      place : s.place d ≡ is_new
      place = past_is_new capacity image s held d (s.place d) (omega arith) (shape.places d within)

      used : middle used_word ≡ d + 1
      used = set.at

      link : (e : ℕ) → e < capacity → new (link_word e) ≡ image (link_word e)
      link e less = cut_before capacity class d middle new (link_word e) cut (omega arith) (λ at. omega arith) (λ at. omega arith)
          ∙ set.others (link_word e) (λ at. omega arith)

      head : (list : ℕ) → list < lists → new (head_word list) ≡ image (head_word list)
      head list less = cut_before capacity class d middle new (head_word list) cut (omega arith) (λ e. omega arith) (λ e. omega arith)
          ∙ set.others (head_word list) (λ e. omega arith)

      able : IsCuttable capacity class d image middle new held s s.listed
      able = record {
        within = within;
        no_class = λ c is_c at. let is_new_place = place in cc;
        not_full = λ full. let is_new_place = place in cc;
        empty = empty;
        none = λ b p part. let taken = part_taken (layout_at capacity image) b d (shape.named b p) part in omega arith;
        kept = λ word from. set.others word (λ e. omega arith);
        used = omega arith;
        raised = omega arith;
        taken = omega arith;
        untaken = λ e less apart at. let is_now : IsNew image e = subst (λ p. IsAs capacity image s held e p) at (shape.places e less) in
            let not_before = is_now.past in omega arith;
        cut = cut;
        follows = λ list less. subst (λ h. Follows (λ e. new (link_word e)) capacity (head_first h) (s.listed list)) (sym (head list less))
            (follows_same (λ e. image (link_word e)) (λ e. new (link_word e)) capacity (head_first (image (head_word list))) (s.listed list)
            (λ e p. link e (follows_below (λ k. image (link_word k)) capacity (head_first (image (head_word list))) (s.listed list) e
            (shape.follows list less) p))
            (shape.follows list less));
        in_lists = λ list e less. elim (cases_eq e d) as (λ _. times e (s.listed list) ≡ stands_in (with_at s.place d is_full e) list) [
          | inl same ↦ subst (λ k. times k (s.listed list) ≡ stands_in (with_at s.place d is_full k) list) (sym same)
              (shape.listed list d less ∙ ap (λ p. stands_in p list) place ∙ sym (ap (λ p. stands_in p list) (with_at_same s.place d is_full)))
          | inr other ↦ shape.listed list e less ∙ sym (ap (λ p. stands_in p list) (with_at_other s.place d is_full e other))
        ];
      }
