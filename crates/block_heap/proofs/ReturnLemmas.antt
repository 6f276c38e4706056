-- In what order lists stand after a prefix of a cache was given back to its superblock.
use Rattle.std.proofs.Common.{◌≡◌, ◌≢◌, ℕ, ◌<◌, ◌⊎◌, inl, inr, nat_eq, eq-eqb, zero, List, ◌∷◌, set, Contains, refl, ap, sym, subst, ◌∙◌, arith}
use Rattle.std.proofs.lemmas.Bool.{cases_eq}
use Rattle.heap_model.specs.declared.block.Block.{Block}
use Rattle.heap_model.specs.Geometry.{lists, head_word, info_word, largest_capacity_fits}
use Rattle.heap_model.specs.Sizes.{IsClass, blocks_of}
use Rattle.heap_model.specs.Words.{head_pops}
use Rattle.heap_model.proofs.CountingLemmas.{one_if_true, times_some}
use Rattle.heap_model.proofs.MemberLemmas.{in_head, in_rest, head_or_rest}
use Rattle.heap_at_rest.proofs.ListLemmas.{one_walk}
use Rattle.heap_shape.specs.Shape.{Shape, Place, in_list, stands_in, with_at}
use Rattle.heap_shape.specs.Whole.{IsShape}
use Rattle.heap_shape.proofs.BasicLemmas.{with_at_same, with_at_other, in_class_list}
use Rattle.line_memory.specs.View.{View, word_count, volatile_at}
use Rattle.anchor_word.specs.declared.anchor.Anchor.{Anchor}
use Rattle.anchor_word.specs.declared.anchor.State.TheVariants.{Full}
use Rattle.block_heap.specs.declared.small.CachePrefix.{CachePrefix}
use Rattle.block_heap.specs.Batches.{IsGiven, IsGiveWord}
use Rattle.block_heap.specs.Flush.{IsCachePrefix}
use Rattle.block_heap.specs.Links.{IsPushed, IsPushWord}
use Rattle.block_heap.specs.Lists.{LeadsAlong, IsInList, KeepsList, CountsPops}
use Rattle.block_heap.specs.Medium.{StoresOnly}
use Rattle.block_heap.specs.Parts.{Parts, image_of, held_in, cache_at}
use Rattle.block_heap.specs.Returns.{CachesAlong, GivesTo}
use Rattle.block_heap.specs.Running.{IsRunning}
use Rattle.block_heap.proofs.BlockRunLemmas.{cached_along}
use Rattle.block_heap.proofs.PrefixPlaceLemmas.{give_low, prefix_fits}
use Rattle.block_heap.proofs.FlushLemmas.{gave_listed, gave_shape, gave_fixed}
use Rattle.block_heap.proofs.ListedPrefixLemmas.{listed_fixed, all_shape, some_shape}
use Rattle.block_heap.proofs.OrderLemmas.{in_list_along, in_list_has, list_kept, listed_is}
use Rattle.block_heap.proofs.PushLemmas.{pushed_pops, words_inside}
use Rattle.block_heap.proofs.SmallLemmas.{changed}

-- a list with one more in front has what it had
pub with_more : (f : ℕ → List ℕ) (at d list e : ℕ) → Contains (f list) e → Contains (with_at f at (d ∷ f at) list) e
with_more f at d list e has = elim (cases_eq list at) as (λ _. Contains (with_at f at (d ∷ f at) list) e) [
  | inl same ↦ subst (λ k. Contains (with_at f at (d ∷ f at) k) e) (sym same)
      (subst (λ xs. Contains xs e) (sym (with_at_same f at (d ∷ f at))) (in_rest d e (f at) (subst (λ k. Contains (f k) e) same has)))
  | inr other ↦ subst (λ xs. Contains xs e) (sym (with_at_other f at (d ∷ f at) list other)) has
]

-- a superblock that stands in a list is one of it
pub listed_where : (capacity : ℕ) (image : ℕ → ℕ) (held : List Block) (s : Shape) → IsShape capacity image held s → (list d : ℕ) → list < lists
    → s.place d ≡ in_list list → Contains (s.listed list) d
listed_where capacity image held s shape list d below place =
    let one : stands_in (s.place d) list ≡ 1 = ap (λ (at : Place). stands_in at list) place ∙ one_if_true (nat_eq list list) (eq-eqb list list refl) in
    let count = shape.listed list d below in
    times_some d (s.listed list) (omega arith)

-- the cache of a running heap leads along that of its shape alone
pub along_one : (p : Parts) (class : ℕ) (words : List ℕ) → IsClass class → (run : IsRunning p) → CachesAlong class p words
    → words ≡ run.shape.cached class
along_one p class words is run along =
    let here = cached_along p class is run in
    one_walk (image_of p) (cache_at p.caches class).first words (run.shape.cached class) along.walks here.walks (sym along.count ∙ here.count)

-- The prefix of the cache was given back.
module _ (p : Parts) (class : ℕ) (is : IsClass class) (run : IsRunning p) (prefix : CachePrefix) (is_prefix : IsCachePrefix class prefix p)
    (w : View) (anchor : Anchor) (given : IsGiven p.capacity class prefix.d prefix.batch anchor p.words w)
    (stores : StoresOnly (IsGiveWord prefix.d prefix.batch) p.words w) where
  pub below : class < lists
  below = let last = is.last in omega arith

  free_leads : LeadsAlong p 0 (run.shape.listed 0)
  free_leads = run.is.follows 0 (omega arith)

  class_leads : LeadsAlong p class (run.shape.listed class)
  class_leads = run.is.follows class below

  abbrev parts_with : View → Parts
  parts_with v = changed p v (set p.caches class prefix.rest) p.blocks

  -- the heads stay, but for that of a push
  head_given : (list : ℕ) → list < lists → volatile_at w (head_word list) ≡ image_of p (head_word list)
  head_given list less = stores.volatile (head_word list) (give_low p class is run prefix is_prefix (head_word list) (omega arith) (omega arith))

  -- to a superblock that has some of its blocks free
  module _ (other : anchor.state ≢ Full) where
    stands : run.shape.place prefix.d ≡ in_list class
    stands = gave_listed p class is run prefix is_prefix w anchor given stores other

    not_all : prefix.batch.count ≢ blocks_of class
    not_all all =
        let of = in_class_list p.capacity (image_of p) (held_in p) run.shape run.is class prefix.d is is_prefix.within stands in
        let some = of.some in
        let count = of.of_class.count in
        let fits = prefix_fits p class is run prefix is_prefix in
        omega arith

    class_now : LeadsAlong (parts_with w) class (run.shape.listed class)
    class_now = (gave_shape p class is run prefix is_prefix w anchor given stores other).follows class below

    free_now : LeadsAlong (parts_with w) 0 (run.shape.listed 0)
    free_now = (gave_shape p class is run prefix is_prefix w anchor given stores other).follows 0 (omega arith)

    pub gave_to : GivesTo class prefix p (parts_with w)
    gave_to = record {
      free = list_kept p (parts_with w) 0 0 (run.shape.listed 0) (run.shape.listed 0) free_leads free_now (λ d has. has);
      listed = list_kept p (parts_with w) class class (run.shape.listed class) (run.shape.listed class) class_leads class_now (λ d has. has);
      all = λ all. absurd (not_all all);
      some = λ some. in_list_along (parts_with w) class prefix.d (run.shape.listed class) class_now
          (listed_where p.capacity (image_of p) (held_in p) run.shape run.is class prefix.d below stands);
      only = λ d there. inl (list_kept (parts_with w) p 0 0 (run.shape.listed 0) (run.shape.listed 0) free_now free_leads (λ e has. has) d there);
      heads = λ c is_c other. head_given c (let last = is_c.last in omega arith);
      lists = λ c is_c apart ds leads.
          let less : c < lists = let last = is_c.last in omega arith in
          subst (λ (es : List ℕ). LeadsAlong (parts_with w) c es) (listed_is p run c ds less leads)
          ((gave_shape p class is run prefix is_prefix w anchor given stores other).follows c less);
      pops = record {
        class_head = let same = head_given class below in omega arith;
        free_head = let same = head_given 0 (omega arith) in omega arith;
      };
      infos = (gave_fixed p class is run prefix is_prefix w anchor given stores).infos;
    }

  -- to a full one, which went to a list
  module _ (full : anchor.state ≡ Full) (list : ℕ) (x : View) (pushed : IsPushed list prefix.d w x)
      (push_stores : StoresOnly (IsPushWord list prefix.d) w x)
      (list_below : list < lists) (t : Shape) (shape : IsShape p.capacity (λ word. volatile_at x word) (held_in p) t)
      (listed : (l : ℕ) → t.listed l ≡ with_at run.shape.listed list (prefix.d ∷ run.shape.listed list) l) where
    now_leads : (l : ℕ) → l < lists → LeadsAlong (parts_with x) l (with_at run.shape.listed list (prefix.d ∷ run.shape.listed list) l)
    now_leads l less = subst (λ (ds : List ℕ). LeadsAlong (parts_with x) l ds) (listed l) (shape.follows l less)

    kept_in : (l : ℕ) → l < lists → (d : ℕ) → IsInList p l d → IsInList (parts_with x) l d
    kept_in l less = list_kept p (parts_with x) l l (run.shape.listed l) (with_at run.shape.listed list (prefix.d ∷ run.shape.listed list) l)
        (run.is.follows l less) (now_leads l less) (with_more run.shape.listed list prefix.d l)

    here : IsInList (parts_with x) list prefix.d
    here = in_list_along (parts_with x) list prefix.d (with_at run.shape.listed list (prefix.d ∷ run.shape.listed list) list)
        (now_leads list list_below)
        (subst (λ ds. Contains ds prefix.d) (sym (with_at_same run.shape.listed list (prefix.d ∷ run.shape.listed list)))
        (in_head prefix.d (run.shape.listed list)))

    free_only : (d : ℕ) → IsInList (parts_with x) 0 d → IsInList p 0 d ⊎ ((d ≡ prefix.d) × (list ≡ 0))
    free_only d there =
        let has = in_list_has (parts_with x) 0 d (with_at run.shape.listed list (prefix.d ∷ run.shape.listed list) 0) there
        (now_leads 0 (omega arith)) in
        elim (cases_eq 0 list) as (λ _. IsInList p 0 d ⊎ ((d ≡ prefix.d) × (list ≡ 0))) [
          | inr other ↦ inl (in_list_along p 0 d (run.shape.listed 0) free_leads
              (subst (λ ds. Contains ds d) (with_at_other run.shape.listed list (prefix.d ∷ run.shape.listed list) 0 other) has))
          | inl same ↦
              let at : with_at run.shape.listed list (prefix.d ∷ run.shape.listed list) 0 ≡ prefix.d ∷ run.shape.listed list =
              subst (λ k. with_at run.shape.listed list (prefix.d ∷ run.shape.listed list) k ≡ prefix.d ∷ run.shape.listed list) (sym same)
              (with_at_same run.shape.listed list (prefix.d ∷ run.shape.listed list)) in
              elim (head_or_rest prefix.d d (run.shape.listed list) (subst (λ ds. Contains ds d) at has)) as
              (λ _. IsInList p 0 d ⊎ ((d ≡ prefix.d) × (list ≡ 0))) [
                | inl one ↦ inr (sym one, sym same)
                | inr before ↦ inl (in_list_along p 0 d (run.shape.listed 0) free_leads
                    (subst (λ k. Contains (run.shape.listed k) d) (sym same) before))
              ]
        ]

    heads_kept : (list ≡ 0) ⊎ (list ≡ class) → (c : ℕ) → IsClass c → c ≢ class → volatile_at x (head_word c) ≡ image_of p (head_word c)
    heads_kept at c is_c other =
        push_stores.volatile (head_word c) (λ t. elim t as (λ _. ⊥) [
          | inl same ↦ let from = is_c.some in elim at as (λ _. ⊥) [ inl free ↦ omega arith | inr here ↦ other (omega arith) ]
          | inr link ↦ let last = is_c.last in omega arith
        ])
        ∙ head_given c (let last = is_c.last in omega arith)

    lists_kept : (list ≡ 0) ⊎ (list ≡ class) → (c : ℕ) → IsClass c → c ≢ class → KeepsList p (parts_with x) c
    lists_kept at c is_c other ds leads =
        let less : c < lists = let last = is_c.last in omega arith in
        let apart : c ≢ list = λ e. let from = is_c.some in elim at as (λ _. ⊥) [ inl free ↦ omega arith | inr here ↦ other (omega arith) ] in
        subst (λ (es : List ℕ). LeadsAlong (parts_with x) c es)
        (with_at_other run.shape.listed list (prefix.d ∷ run.shape.listed list) c apart ∙ listed_is p run c ds less leads) (now_leads c less)

    pops_stay : (l : ℕ) → l < lists → head_pops (volatile_at x (head_word l)) ≡ head_pops (image_of p (head_word l))
    pops_stay l less =
        let inside = words_inside p.capacity prefix.d list p.words run.words_open is_prefix.within list_below in
        let long : word_count w ≡ word_count p.words = stores.words in
        let small = run.is.small in
        let under = is_prefix.within in
        pushed_pops list prefix.d w x list_below (omega (arith, inside.0)) (omega (arith, inside.2))
        (omega (arith, largest_capacity_fits)) pushed l less
        ∙ ap head_pops (head_given l less)

    pops_kept : CountsPops class 0 0 p (parts_with x)
    pops_kept = record {
      class_head = let same = pops_stay class below in omega arith;
      free_head = let same = pops_stay 0 (omega arith) in omega arith;
    }

    infos_kept : (d : ℕ) → d < p.capacity → volatile_at x (info_word d) ≡ image_of p (info_word d)
    infos_kept = (listed_fixed p class is run prefix is_prefix w anchor given stores full list x pushed push_stores list_below).infos

    listed_to : ((prefix.batch.count ≡ blocks_of class) × (list ≡ 0)) ⊎ ((prefix.batch.count ≢ blocks_of class) × (list ≡ class))
        → GivesTo class prefix p (parts_with x)
    listed_to (inl all) = record {
      free = kept_in 0 (omega arith);
      listed = kept_in class below;
      all = λ _. subst (λ k. IsInList (parts_with x) k prefix.d) all.1 here;
      some = λ some. absurd (some all.0);
      only = λ d there. elim (free_only d there) as (λ _. IsInList p 0 d ⊎ ((d ≡ prefix.d) × (prefix.batch.count ≡ blocks_of class)))
          [ inl before ↦ inl before | inr now ↦ inr (now.0, all.0) ];
      heads = heads_kept (inl all.1);
      lists = lists_kept (inl all.1);
      pops = pops_kept;
      infos = infos_kept;
    }
    listed_to (inr some) = record {
      free = kept_in 0 (omega arith);
      listed = kept_in class below;
      all = λ all. absurd (some.0 all);
      some = λ _. subst (λ k. IsInList (parts_with x) k prefix.d) some.1 here;
      only = λ d there. elim (free_only d there) as (λ _. IsInList p 0 d ⊎ ((d ≡ prefix.d) × (prefix.batch.count ≡ blocks_of class)))
          [ inl before ↦ inl before | inr now ↦ absurd (let from = is.some in let same = some.1 in let zero = now.1 in omega arith) ];
      heads = heads_kept (inr some.1);
      lists = lists_kept (inr some.1);
      pops = pops_kept;
      infos = infos_kept;
    }

  module _ (full : anchor.state ≡ Full) (list : ℕ) (x : View) (pushed : IsPushed list prefix.d w x)
      (push_stores : StoresOnly (IsPushWord list prefix.d) w x) where
    pub all_to : prefix.batch.count ≡ blocks_of class → list ≡ 0 → GivesTo class prefix p (parts_with x)
    all_to all same = listed_to full list x pushed push_stores (omega arith) _
        (all_shape p class is run prefix is_prefix w anchor given stores full list x pushed push_stores all same)
        (λ l. ap (λ k. with_at run.shape.listed k (prefix.d ∷ run.shape.listed k) l) (sym same)) (inl (all, same))

    pub some_to : prefix.batch.count ≢ blocks_of class → list ≡ class → GivesTo class prefix p (parts_with x)
    some_to some same = listed_to full list x pushed push_stores (let under = below in omega arith) _
        (some_shape p class is run prefix is_prefix w anchor given stores full list x pushed push_stores some same)
        (λ l. ap (λ k. with_at run.shape.listed k (prefix.d ∷ run.shape.listed k) l) (sym same)) (inr (some, same))
