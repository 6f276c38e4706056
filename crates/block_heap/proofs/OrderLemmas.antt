-- In which list a superblock is, and how a request of a class comes to its block in order.
use Rattle.std.proofs.Common.{◌≡◌, ◌≢◌, ℕ, ◌+◌, ◌<◌, inl, inr, List, [], get_or, Contains, refl, ap, sym, subst, ◌∙◌, arith, ◌∷◌, ◌++◌, length, length-append, reverse, append_assoc, append-nil}
use Rattle.std.proofs.lemmas.List.Elements.{Contains-append_cases}
use Rattle.std.proofs.lemmas.List.{reverse-append}
use Rattle.heap_model.specs.declared.block.Block.{Block}
use Rattle.heap_model.specs.Geometry.{lists, head_word, anchor_word, info_word, link_word, start_word}
use Rattle.heap_model.specs.Sizes.{words_of_class, blocks_of}
use Rattle.heap_model.specs.Words.{head_first, head_pops, anchor_state, anchor_first, anchor_count, empty_state}
use Rattle.heap_model.proofs.MemberLemmas.{in_none}
use Rattle.heap_model.proofs.PartLemmas.{same_fields}
use Rattle.heap_shape.specs.Standing.{first_of}
use Rattle.heap_shape.specs.Effects.{IsInSuperblock}
use Rattle.heap_shape.specs.Moves.{AddsTo}
use Rattle.heap_at_rest.proofs.ListLemmas.{one_following}
use Rattle.block_heap.specs.declared.cache.Cache.{Cache}
use Rattle.block_heap.specs.Divide.{AreLinked, IsLinkedWord}
use Rattle.block_heap.specs.Lists.{head_at, IsEmptyList, LeadsAlong, IsInList, CountsPops}
use Rattle.block_heap.specs.Order.{HasNothing, KeepsSuperblock, Frees, TakesAll, CutsAll, CutsFirst, RefillsFrom, from_free_list, TakesFirst, MovesEmpty, Stocked, in_stock, is_filled, IsServed, from_class_list, from_fresh}
use Rattle.block_heap.specs.Parts.{Parts, image_of, held_in, cache_at}
use Rattle.block_heap.specs.Running.{IsRunning}
use Rattle.block_heap.specs.Steps.{PopsBlock}

-- caches with the same first block and count are the same
pub same_cache : (a b : Cache) → a.first ≡ b.first → a.count ≡ b.count → a ≡ b
same_cache a b first count = ap (λ x. record { first = x; count = a.count }) first ∙ ap (λ n. record { first = b.first; count = n }) count

-- what the head leads along is in the list, and nothing else
pub in_list_along : (p : Parts) (list d : ℕ) (ds : List ℕ) → LeadsAlong p list ds → Contains ds d → IsInList p list d
in_list_along p list d ds leads has = (ds, leads, has)

pub in_list_has : (p : Parts) (list d : ℕ) (ds : List ℕ) → IsInList p list d → LeadsAlong p list ds → Contains ds d
in_list_has p list d ds there leads =
    subst (λ xs. Contains xs d) (one_following (λ e. image_of p (link_word e)) p.capacity (head_first (head_at p list)) there.0 ds there.1 leads)
    there.2

-- a list of parts that are right is that of the shape
pub listed_is : (p : Parts) (run : IsRunning p) (list : ℕ) (ds : List ℕ) → list < lists → LeadsAlong p list ds → run.shape.listed list ≡ ds
listed_is p run list ds below leads =
    one_following (λ e. image_of p (link_word e)) p.capacity (head_first (head_at p list)) (run.shape.listed list) ds
    (run.is.follows list below) leads

-- where one list has all of another, it has each superblock of it
pub list_kept : (p q : Parts) (list other : ℕ) (ds es : List ℕ) → LeadsAlong p list ds → LeadsAlong q other es
    → ((d : ℕ) → Contains ds d → Contains es d) → (d : ℕ) → IsInList p list d → IsInList q other d
list_kept p q list other ds es leads now all d before = in_list_along q other d es now (all d (in_list_has p list d ds before leads))

-- lists stay where loads see the same
pub leads_same : (p q : Parts) (list : ℕ) (ds : List ℕ) → q.capacity ≡ p.capacity → q.words.volatile ≡ p.words.volatile → LeadsAlong q list ds
    → LeadsAlong p list ds
leads_same p q list ds capacity same leads =
    subst (λ n. LeadsAlong (record p { capacity = n }) list ds) capacity
    (subst (λ (xs : List ℕ). LeadsAlong (record q { words = record q.words { volatile = xs } }) list ds) same leads)

pub list_same : (p q : Parts) (list d : ℕ) → q.capacity ≡ p.capacity → q.words.volatile ≡ p.words.volatile → IsInList p list d → IsInList q list d
list_same p q list d capacity same before = (before.0, leads_same q p list before.0 (sym capacity) (sym same) before.1, before.2)

-- no pop is counted where loads see the same, and two rows count together
pub pops_same : (class : ℕ) (p q : Parts) → q.words.volatile ≡ p.words.volatile → CountsPops class 0 0 p q
pops_same class p q same =
    let here : head_at q class ≡ head_at p class = ap (λ (xs : List ℕ). get_or xs (head_word class) 0) same in
    let free : head_at q 0 ≡ head_at p 0 = ap (λ (xs : List ℕ). get_or xs (head_word 0) 0) same in
    record { class_head = omega arith; free_head = omega arith }

pub pops_then : (class here free more later all : ℕ) (p q r : Parts) → here + more ≡ all → CountsPops class here free p q
    → CountsPops class more later q r → CountsPops class all (free + later) p r
pops_then class here free more later all p q r sum a b =
    let first = a.class_head in
    let second = b.class_head in
    let third = a.free_head in
    let fourth = b.free_head in
    record { class_head = omega arith; free_head = omega arith }

-- an empty list has nothing to give
pub nothing_in_empty : (class : ℕ) (p : Parts) → IsEmptyList p class → HasNothing class p
nothing_in_empty class p empty d listed = absurd (in_none d (in_list_has p class d [] listed empty))

-- what stays over two rows of steps, and what went to the free list
keeps_then : (e : ℕ) (p q r : Parts) → q.capacity ≡ p.capacity → KeepsSuperblock e p q → KeepsSuperblock e q r → KeepsSuperblock e p r
keeps_then e p q r capacity a b = record {
  info = b.info ∙ a.info;
  anchor = b.anchor ∙ a.anchor;
  words = λ word inside. b.words word (subst (λ n. IsInSuperblock n e word) (sym capacity) inside) ∙ a.words word inside;
}

within_then : (e : ℕ) (p q : Parts) → q.capacity ≡ p.capacity → e < p.capacity → e < q.capacity
within_then e p q capacity below = subst (λ n. e < n) (sym capacity) below

pub frees_then : (xs ys : List ℕ) (p q r : Parts) → Frees xs p q → Frees ys q r → Frees (xs ++ ys) p r
frees_then xs ys p q r a b fs leads =
    let order : reverse ys ++ (reverse xs ++ fs) ≡ reverse (xs ++ ys) ++ fs =
    sym (append_assoc (reverse ys) (reverse xs) fs) ∙ ap (λ zs. zs ++ fs) (sym (reverse-append xs ys)) in
    subst (λ zs. LeadsAlong r 0 zs) order (b (reverse xs ++ fs) (a fs leads))

-- superblocks with all blocks free that went to the free list, in two rows of steps
pub moves_none : (class : ℕ) (p : Parts) → MovesEmpty class p p
moves_none class p = record {
  capacity = refl;
  all = λ e below. record { info = refl; anchor = refl; words = λ word inside. refl };
  anchors = λ d. refl;
  moved = [];
  were = λ ds leads. leads;
  passed = λ e none. absurd (in_none e none);
  frees = λ fs leads. leads;
  nothing = λ none. none;
  free = λ d listed. listed;
  pops = pops_same class p p refl;
}

pub moves_then : (class : ℕ) (p q r : Parts) → MovesEmpty class p q → MovesEmpty class q r → MovesEmpty class p r
moves_then class p q r a b = record {
  capacity = b.capacity ∙ a.capacity;
  anchors = λ d. b.anchors d ∙ a.anchors d;
  all = λ e below. keeps_then e p q r a.capacity (a.all e below) (b.all e (within_then e p q a.capacity below));
  moved = a.moved ++ b.moved;
  were = λ ds leads. subst (λ es. LeadsAlong p class es) (sym (append_assoc a.moved b.moved ds)) (a.were (b.moved ++ ds) (b.were ds leads));
  passed = λ e has. elim (Contains-append_cases a.moved b.moved e has) as (λ _. anchor_state (image_of p (anchor_word e)) ≡ empty_state) [
    | inl early ↦ a.passed e early
    | inr late ↦ ap anchor_state (sym (a.anchors e)) ∙ b.passed e late
  ];
  frees = frees_then a.moved b.moved p q r a.frees b.frees;
  nothing = λ none. a.nothing (b.nothing none);
  free = λ d listed. b.free d (a.free d listed);
  pops = pops_then class (length a.moved) 0 (length b.moved) 0 (length (a.moved ++ b.moved)) p q r
      (sym (length-append a.moved b.moved)) a.pops b.pops;
}

-- and none where loads see the same
pub moves_same : (class : ℕ) (p q : Parts) → q.capacity ≡ p.capacity → q.words.volatile ≡ p.words.volatile → MovesEmpty class p q
moves_same class p q capacity same = record {
  capacity = capacity;
  anchors = λ d. ap (λ (xs : List ℕ). get_or xs (anchor_word d) 0) same;
  all = λ e below. record {
    info = ap (λ (xs : List ℕ). get_or xs (info_word e) 0) same;
    anchor = ap (λ (xs : List ℕ). get_or xs (anchor_word e) 0) same;
    words = λ word inside. ap (λ (xs : List ℕ). get_or xs word 0) same;
  };
  moved = [];
  were = λ ds leads. leads_same p q class ds capacity same leads;
  passed = λ e none. absurd (in_none e none);
  frees = λ fs leads. leads_same q p 0 fs (sym capacity) (sym same) leads;
  nothing = λ none d listed. ap (λ (xs : List ℕ). anchor_state (get_or xs (anchor_word d) 0)) (sym same)
      ∙ none d (list_same p q class d capacity same listed);
  free = λ d listed. list_same p q 0 d capacity same listed;
  pops = pops_same class p q same;
}

-- a superblock whose free blocks were taken after that
pub takes_after : (class d : ℕ) (p q r : Parts) → MovesEmpty class p q → q.taken ≡ p.taken → TakesAll class d q r → TakesAll class d p r
takes_after class d p q r moves taken takes =
    let within : d < p.capacity = subst (λ n. d < n) moves.capacity takes.within in
    let same : image_of q (anchor_word d) ≡ image_of p (anchor_word d) = moves.anchors d in record {
      within = within;
      before = moves.moved ++ takes.before;
      behind = takes.behind;
      leads = subst (λ es. LeadsAlong p class es) (sym (append_assoc moves.moved takes.before (d ∷ takes.behind)))
          (moves.were (takes.before ++ d ∷ takes.behind) takes.leads);
      passed = λ e has. elim (Contains-append_cases moves.moved takes.before e has) as (λ _. anchor_state (image_of p (anchor_word e)) ≡ empty_state) [
        | inl early ↦ moves.passed e early
        | inr late ↦ ap anchor_state (sym (moves.anchors e)) ∙ takes.passed e late
      ];
      rest = takes.rest;
      partial = ap anchor_state (sym same) ∙ takes.partial;
      cache = takes.cache
          ∙ ap (λ n. record {
            first = first_of n class d (anchor_first (image_of q (anchor_word d)));
            count = anchor_count (image_of q (anchor_word d));
          }) moves.capacity
          ∙ ap (λ a. record { first = first_of p.capacity class d (anchor_first a); count = anchor_count a }) same;
      now = takes.now;
      info = takes.info ∙ (moves.all d within).info;
      words = λ word inside. takes.words word (subst (λ n. IsInSuperblock n d word) (sym moves.capacity) inside)
          ∙ (moves.all d within).words word inside;
      others = λ e below other. keeps_then e p q r moves.capacity (moves.all e below) (takes.others e (within_then e p q moves.capacity below) other);
      frees = frees_then moves.moved takes.before p q r moves.frees takes.frees;
      free = λ e listed. takes.free e (moves.free e listed);
      pops = pops_then class (length moves.moved) 0 (length takes.before + 1) 0 (length (moves.moved ++ takes.before) + 1) p q r
          (let both = length-append moves.moved takes.before in omega arith) moves.pops takes.pops;
      taken = takes.taken ∙ taken;
    }

-- a superblock that was cut after that
pub cuts_after : (class d : ℕ) (p q r : Parts) → MovesEmpty class p q → CutsAll class d q r → CutsAll class d p r
cuts_after class d p q r moves cuts = let within : d < p.capacity = subst (λ n. d < n) moves.capacity cuts.within in record {
  within = within;
  anchor = cuts.anchor;
  words = λ word inside not.
      cuts.words word (subst (λ n. IsInSuperblock n d word) (sym moves.capacity) inside)
      (λ linked. not (subst (λ n. IsLinkedWord n class d (blocks_of class) word) moves.capacity linked))
      ∙ (moves.all d within).words word inside;
  info = cuts.info;
  cache = subst (λ n. cache_at r.caches class ≡ record { first = start_word n d; count = blocks_of class }) moves.capacity cuts.cache;
  linked = subst (λ n. AreLinked n class d (blocks_of class) r.words) moves.capacity cuts.linked;
  others = λ e below other. keeps_then e p q r moves.capacity (moves.all e below) (cuts.others e (within_then e p q moves.capacity below) other);
  free = λ e other listed. cuts.free e other (moves.free e listed);
}

-- The list of the class had nothing to give.
module _ (class : ℕ) (p a q : Parts) (moves : MovesEmpty class p a) (nothing : HasNothing class p) (taken : a.taken ≡ p.taken)
    (run : IsRunning p) (empty : IsEmptyList a class) where
  -- the first free superblock was cut
  pub refills_from_free : (d : ℕ) → CutsFirst class d a q → q.taken ≡ a.taken → RefillsFrom class p q
  refills_from_free d first same = from_free_list d nothing (record {
    listed = moves.moved;
    free = run.shape.listed 0;
    behind = first.behind;
    class_leads = subst (λ es. LeadsAlong p class es) (append-nil moves.moved) (moves.were [] empty);
    free_leads = run.is.follows 0 (omega arith);
    first = one_following (λ e. image_of a (link_word e)) a.capacity (head_first (head_at a 0)) (reverse moves.moved ++ run.shape.listed 0)
        (d ∷ first.behind)
        (moves.frees (run.shape.listed 0) (run.is.follows 0 (omega arith))) first.was;
    empty = ap head_first first.class_head ∙ empty;
    rest = first.rest;
    pops = pops_then class (length moves.moved) 0 0 1 (length moves.moved) p a q (omega arith) moves.pops first.pops;
  }) (cuts_after class d p a q moves first.cuts) (same ∙ taken)

-- the first block of the cache was handed out
pub takes_first : (class : ℕ) (b : Block) (p q : Parts) → q.capacity ≡ p.capacity → PopsBlock class b p q → TakesFirst class p q
takes_first class b p q capacity pops_block = record {
  capacity = capacity;
  held = subst (λ x. AddsTo x (held_in p) (held_in q))
      (same_fields b (record { first_word = (cache_at p.caches class).first; words = words_of_class class }) pops_block.at pops_block.size)
      pops_block.adds;
  next = pops_block.next ∙ ap (λ x. image_of p x) pops_block.at;
  count = pops_block.count;
  caches = pops_block.caches;
  volatile = pops_block.volatile;
  drawn = pops_block.drawn;
  taken = pops_block.taken;
}

-- a request of the class that was served in order
module _ (class : ℕ) (p r : Parts) (served : IsServed class p r) where
  abbrev q : Parts
  q = served.between

  -- took a superblock for the first time only where there was nothing else
  pub fresh_last : r.taken ≢ p.taken → ((cache_at p.caches class).count ≡ 0) × IsEmptyList p class × IsEmptyList p 0
  fresh_last taken = by_stock served.stocked where
    by_source : RefillsFrom class p q → IsEmptyList p class × IsEmptyList p 0
    by_source (from_class_list d takes) = absurd (taken (served.takes.taken ∙ takes.taken))
    by_source (from_free_list d nothing takes cuts same) = absurd (taken (served.takes.taken ∙ same))
    by_source (from_fresh class_empty free_empty cuts more pops) = (class_empty, free_empty)

    by_stock : Stocked class p q → ((cache_at p.caches class).count ≡ 0) × IsEmptyList p class × IsEmptyList p 0
    by_stock (in_stock some same) = absurd (taken (served.takes.taken ∙ ap (λ (x : Parts). x.taken) same))
    by_stock (is_filled empty held others refills) = let found = by_source refills in (empty, found.0, found.1)

  -- and took one from the free list only where the list of the class had nothing to give
  pub free_later : (d : ℕ) → IsInList p 0 d → (IsInList r 0 d → ⊥) → ((cache_at p.caches class).count ≡ 0) × HasNothing class p
  free_later d before gone = by_stock served.stocked where
    still : IsInList q 0 d → ⊥
    still there = gone (list_same q r 0 d served.takes.capacity served.takes.volatile there)

    by_source : RefillsFrom class p q → HasNothing class p
    by_source (from_class_list e takes) = absurd (still (takes.free d before))
    by_source (from_free_list e nothing takes cuts same) = nothing
    by_source (from_fresh class_empty free_empty cuts more pops) = nothing_in_empty class p class_empty

    by_stock : Stocked class p q → ((cache_at p.caches class).count ≡ 0) × HasNothing class p
    by_stock (in_stock some same) = absurd (still (subst (λ (x : Parts). IsInList x 0 d) (sym same) before))
    by_stock (is_filled empty held others refills) = (empty, by_source refills)
