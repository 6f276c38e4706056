-- What popping the first superblock of a list makes of the parts of a heap.
use Rattle.std.proofs.Common.{◌≡◌, ℕ, ◌+◌, ◌<◌, ◌≤◌, inl, inr, Option, None, Some, MatchOption, List, [], ◌∷◌, length, get_or, set, refl, ap, sym, subst, ◌∙◌, arith, get_or-set_same, get_or-set_other, length-set}
use Rattle.std.proofs.lemmas.Bool.{cases_eq}
use Rattle.heap_model.specs.Geometry.{lists, head_word, info_word, link_word, used_word}
use Rattle.heap_model.specs.Words.{head_first, head_pops, head_of}
use Rattle.heap_model.specs.Chains.{Follows}
use Rattle.heap_model.specs.Counting.{times}
use Rattle.heap_shape.specs.Shape.{in_list}
use Rattle.heap_shape.specs.Effects.{IsPoppedOf}
use Rattle.heap_shape.specs.Draining.{DrainsSame}
use Rattle.heap_shape.proofs.BasicLemmas.{first_place}
use Rattle.line_memory.specs.View.{View, volatile_at}
use Rattle.block_heap.specs.declared.lists.Popped.{Popped}
use Rattle.heap_seat.specs.declared.look.Look.{Look}
use Rattle.super_block.specs.Links.{link_of}
use Rattle.block_heap.specs.Links.{IsPopped}
use Rattle.block_heap.specs.Medium.{StoresOnly, LooksOnce}
use Rattle.block_heap.specs.Parts.{Parts, image_of, held_in, no_look}
use Rattle.block_heap.specs.Running.{IsRunning, LeavesHeld}
use Rattle.block_heap.specs.Steps.{IsRefilling, FindsEmpty, IsLook, look_at}
use Rattle.block_heap.specs.Lists.{head_at, IsEmptyList}
use Rattle.block_heap.proofs.MediumLemmas.{stores_more}
use Rattle.block_heap.proofs.RunningLemmas.{set_is, running_words}
use Rattle.block_heap.proofs.LookLemmas.{IsNextLook, looked_at_head}
use Rattle.block_heap.proofs.OrderLemmas.{leads_same}
use Rattle.block_heap.proofs.RefillLemmas.{IsMoved, a_head, moved_info, moved_used, leaves_held_moved, drains_none}

-- a list from a number that isn't 0 has a first descriptor
follows_first : (link : ℕ → ℕ) (capacity from d : ℕ) (ds : List ℕ) → Follows link capacity from ds → from ≡ d + 1 → (es : List ℕ) × (ds ≡ d ∷ es)
follows_first link capacity from d [] follows at = absurd (let none : from ≡ 0 = follows in omega arith)
follows_first link capacity from d (e ∷ es) follows at = let first = follows.0 in let same : e ≡ d = omega arith in (es, ap (λ x. x ∷ es) same)

pub first_listed : (p : Parts) (list d : ℕ) (run : IsRunning p) → list < lists → head_first (head_at p list) ≡ d + 1
    → (ds : List ℕ) × (run.shape.listed list ≡ d ∷ ds)
first_listed p list d run below at =
    follows_first (λ e. image_of p (link_word e)) p.capacity (head_first (head_at p list)) d (run.shape.listed list) (run.is.follows list below) at

-- a step that stores to a head alone
pub head_moved : (capacity list : ℕ) (v w : View) → list < lists → StoresOnly (λ word. word ≡ head_word list) v w → StoresOnly (IsMoved capacity) v w
head_moved capacity list v w below stores = stores_more (λ word. word ≡ head_word list) (IsMoved capacity) v w (λ word e. a_head list below e) stores

-- what a pop does
module _ (p : Parts) (list : ℕ) (popped : Popped) (w : View) (run : IsRunning p) (below : list < lists) (pop : IsPopped list popped p.words w)
    (stores : StoresOnly (λ word. word ≡ head_word list) p.words w) where
  pub pop_moved : StoresOnly (IsMoved p.capacity) p.words w
  pop_moved = head_moved p.capacity list p.words w below stores

  -- the list had none
  pub popped_none : popped.first ≡ None → IsEmptyList p list × (w.volatile ≡ p.words.volatile)
  popped_none none =
      let at : 0 ≡ link_of popped.first = ap link_of (sym none) in (
        sym (at ∙ pop.first ∙ ap head_first pop.head),
        subst (λ (o : Option ℕ). MatchOption o (w.volatile ≡ p.words.volatile)
            (λ d. w.volatile ≡ set p.words.volatile (head_word list) (head_of (head_first (volatile_at p.words (link_word d)))
            (head_pops popped.head + 1))))
            none pop.words,
      )

  module _ (d : ℕ) (some : popped.first ≡ Some d) where
    pub popped_head : head_first (head_at p list) ≡ d + 1
    popped_head =
        let at : d + 1 ≡ link_of popped.first = ap link_of (sym some) in
        sym (at ∙ pop.first ∙ ap head_first pop.head)

    words : w.volatile ≡ set p.words.volatile (head_word list) (head_of (head_first (volatile_at p.words (link_word d))) (head_pops popped.head + 1))
    words = subst (λ (o : Option ℕ). MatchOption o (w.volatile ≡ p.words.volatile)
        (λ d. w.volatile ≡ set p.words.volatile (head_word list) (head_of (head_first (volatile_at p.words (link_word d)))
        (head_pops popped.head + 1))))
        some pop.words

    within : head_word list < length p.words.volatile
    within = let long = run.words_open.long in omega arith

    pub popped_of : IsPoppedOf (image_of p) (λ word. volatile_at w word) list d
    popped_of = record {
      pops = head_pops popped.head + 1;
      is_first = popped_head;
      set = set_is p.words.volatile w.volatile (head_word list) (head_of (head_first (volatile_at p.words (link_word d)))
          (head_pops popped.head + 1)) within
          words;
    }

    -- its count rises by one
    pub popped_pops : (other : ℕ) → other < lists → head_pops (volatile_at w (head_word other)) ≤ head_pops (head_at p other) + 1
    unfolding popped_of
    popped_pops other less = elim (cases_eq other list) as (λ _. head_pops (volatile_at w (head_word other)) ≤ head_pops (head_at p other) + 1) [
      | inl same ↦ subst (λ k. head_pops (volatile_at w (head_word k)) ≤ head_pops (head_at p k) + 1) (sym same)
          (let at : volatile_at w (head_word list) ≡ head_of (head_first (volatile_at p.words (link_word d))) (head_pops popped.head + 1) =
          popped_of.set.at in
          let head : popped.head ≡ head_at p list = pop.head in
          omega arith)
      | inr apart ↦ let e : volatile_at w (head_word other) ≡ head_at p other =
          popped_of.set.others (head_word other) (λ e. apart (omega arith)) in omega arith
    ]

    pub popped_count : head_pops (volatile_at w (head_word list)) ≡ head_pops (head_at p list) + 1
    unfolding popped_of
    popped_count =
        let at : volatile_at w (head_word list) ≡ head_of (head_first (volatile_at p.words (link_word d))) (head_pops popped.head + 1) =
        popped_of.set.at in
        let head : popped.head ≡ head_at p list = pop.head in
        omega arith

    pub popped_list : (ds : List ℕ) × (run.shape.listed list ≡ d ∷ ds)
    popped_list = first_listed p list d run below popped_head

    pub popped_place : (run.shape.place d ≡ in_list list) × (d < p.capacity) × (times d popped_list.0 ≡ 0)
    popped_place = first_place p.capacity (image_of p) (held_in p) run.shape run.is list d popped_list.0 below popped_list.1

-- other looks
pub running_looks : (p : Parts) (looks : List Look) → length looks ≡ lists → IsRunning p → IsRunning (record p { head_looks = looks })
running_looks p looks long run = record {
  words_open = run.words_open;
  below = run.below;
  bounded = run.bounded;
  caches_long = run.caches_long;
  looks_long = long;
  shape = run.shape;
  is = run.is;
  caches = run.caches;
  sizes = run.sizes;
  settled = run.settled;
  pops = run.pops;
  knows = run.knows;
  few = run.few;
}

-- a list that was found empty
module _ (p : Parts) (class list : ℕ) (popped : Popped) (w : View) (look : Look) (run : IsRunning p) (below : list < lists)
    (pop : IsPopped list popped p.words w) (stores : StoresOnly (λ word. word ≡ head_word list) p.words w)
    (none : popped.first ≡ None) where
  abbrev pub emptied : Parts
  emptied = record p { words = w; head_looks = set p.head_looks list look }

  same_words : w.volatile ≡ p.words.volatile
  same_words = (popped_none p list popped w run below pop stores none).1

  pub emptied_running : IsRunning emptied
  emptied_running = running_looks (record p { words = w }) (set p.head_looks list look) (length-set p.head_looks list look ∙ run.looks_long)
      (running_words p w (IsMoved p.capacity) run pop.runs_within.running same_words (pop_moved p list popped w run below pop stores)
      (λ d less m. moved_info p.capacity d (info_word d) m refl)
      (λ m. moved_used p.capacity used_word m refl) pop.runs_within.below)

  pub emptied_leaves_held : IsNextLook p look → LeavesHeld (held_in p) p emptied
  emptied_leaves_held next = leaves_held_moved p emptied run (pop_moved p list popped w run below pop stores) refl refl refl
      (looked_at_head p emptied list look (let long = run.looks_long in omega arith) next pop.runs_within.drew (omega arith) refl refl)

  pub emptied_refilling : IsRefilling class p emptied
  emptied_refilling = record {
    running = emptied_running;
    held = refl;
    caches = λ c is other. refl;
    heads = λ c is other. ap (λ (xs : List ℕ). get_or xs (head_word c) 0) same_words;
    lists = λ c is other ds leads. leads_same emptied p c ds refl (sym same_words) leads;
    drains = subst (λ (xs : List ℕ). DrainsSame p.capacity class (held_in p) (image_of p) (λ word. get_or xs word 0)) (sym same_words)
        (drains_none p.capacity class (held_in p) (image_of p));
  }

  pub emptied_finds : LooksOnce p.words w → IsNextLook p look → look.seen ≡ popped.head → FindsEmpty list p emptied
  emptied_finds once next seen =
      let here : look_at emptied list ≡ look = get_or-set_same p.head_looks list look no_look (let long = run.looks_long in omega arith) in
      let head : head_at emptied list ≡ head_at p list = ap (λ (xs : List ℕ). get_or xs (head_word list) 0) same_words in
      let drew = once.1 in
      record {
        empty = (popped_none p list popped w run below pop stores none).0;
        only = record { volatile = same_words; stores = once.0; capacity = refl; caches = refl; blocks = refl; taken = refl; drawn = once.1 };
        volatile = same_words;
        look = subst (λ (l : Look). IsLook p.words.drawn emptied l (head_at emptied list)) (sym here) (record {
          seen_is = seen ∙ pop.head ∙ sym head;
          ticket = p.words.drawn;
          by = next.by;
          since = omega arith;
          until = omega arith;
          taken_is = next.taken;
        });
        others = λ other apart. get_or-set_other p.head_looks list other look no_look apart;
      }
