-- A full superblock that gets the prefix of a cache back comes to a list.
use Rattle.std.proofs.Common.{◌≡◌, ◌≢◌, ℕ, ◌+◌, ◌<◌, ◌⊎◌, inl, inr, nat_eq, eq-eqb, ne_eqb, List, [], ◌∷◌, ◌++◌, length, get_or, set, Contains, refl, ap, sym, subst, ◌∙◌, arith, length-set}
use Rattle.std.proofs.lemmas.Bool.{cases_eq, cond-true, cond-false}
use Rattle.heap_model.specs.Geometry.{lists, head_word, info_word, link_word, used_word, image_words, largest_capacity_fits}
use Rattle.heap_model.specs.Sizes.{IsClass, blocks_of}
use Rattle.heap_model.specs.Words.{head_of, head_first, head_pops, empty_state, partial_state}
use Rattle.heap_model.proofs.MemberLemmas.{in_rest}
use Rattle.heap_shape.specs.Shape.{Shape, in_list, is_full, with_at}
use Rattle.heap_shape.specs.Whole.{IsShape}
use Rattle.heap_shape.specs.Effects.{IsPushedOn, IsGivenBack}
use Rattle.heap_shape.specs.Moves.{after_give_full, after_give_all}
use Rattle.heap_shape.proofs.AccountLemmas.{accounted_kept}
use Rattle.heap_shape.proofs.BasicLemmas.{with_at_other}
use Rattle.heap_shape.proofs.GivenLemmas.{give_full, give_all}
use Rattle.line_memory.specs.View.{View, volatile_at}
use Rattle.anchor_word.specs.declared.anchor.Anchor.{Anchor}
use Rattle.anchor_word.specs.declared.anchor.State.TheVariants.{Full}
use Rattle.block_heap.specs.declared.small.CachePrefix.{CachePrefix}
use Rattle.block_heap.specs.Accounts.{AreAccounted}
use Rattle.block_heap.specs.Batches.{IsGiven, IsGiveWord}
use Rattle.block_heap.specs.Flush.{IsCachePrefix}
use Rattle.block_heap.specs.Links.{IsPushed, IsPushWord}
use Rattle.block_heap.specs.Medium.{StoresOnly}
use Rattle.block_heap.specs.Parts.{Parts, image_of, held_in}
use Rattle.block_heap.specs.Running.{IsRunning}
use Rattle.block_heap.proofs.RunningLemmas.{set_is}
use Rattle.block_heap.proofs.SmallLemmas.{changed, KeepsFixed, keeps_fixed, running_after}
use Rattle.block_heap.proofs.PrefixPlaceLemmas.{split, prefix_fits, give_low, both_stores, both_low, IsEitherWord}
use Rattle.block_heap.proofs.FlushLemmas.{given_back, caches_now, gave_full, state_now}

module _ (p : Parts) (class : ℕ) (is : IsClass class) (run : IsRunning p) (prefix : CachePrefix) (is_prefix : IsCachePrefix class prefix p)
    (w : View) (anchor : Anchor) (given : IsGiven p.capacity class prefix.d prefix.batch anchor p.words w)
    (stores : StoresOnly (IsGiveWord prefix.d prefix.batch) p.words w)
    (full : anchor.state ≡ Full) (list : ℕ) (x : View) (pushed : IsPushed list prefix.d w x) (push_stores : StoresOnly (IsPushWord list prefix.d) w x)
  where
    abbrev blocks : List ℕ
    blocks = is_prefix.before ++ prefix.batch.last ∷ []

    abbrev rest : List ℕ
    rest = (split p class is run prefix is_prefix).0

    abbrev pub now_listed : Parts
    now_listed = changed p x (set p.caches class prefix.rest) p.blocks

    link_long : (word value : ℕ) → length (set w.volatile word value) ≡ image_words p.capacity
    link_long word value = length-set w.volatile word value ∙ stores.words ∙ run.words_open.long

    pushed_on : list < lists → IsPushedOn (λ word. volatile_at w word) (λ word. volatile_at x word) list prefix.d
    pushed_on below =
        let within = is_prefix.within in
        let long = stores.words ∙ run.words_open.long in
        let next = head_first (volatile_at w (head_word list)) in
        let still = link_long (link_word prefix.d) next in
        record {
          middle = λ word. get_or (set w.volatile (link_word prefix.d) next) word 0;
          pops = head_pops (volatile_at w (head_word list));
          link = set_is w.volatile (set w.volatile (link_word prefix.d) next) (link_word prefix.d) next (omega arith) refl;
          head = set_is (set w.volatile (link_word prefix.d) next) x.volatile (head_word list)
              (head_of (prefix.d + 1) (head_pops (volatile_at w (head_word list)))) (omega arith) pushed.words;
        }

    pub pops_now : list < lists → (l : ℕ) → l < lists → head_pops (volatile_at x (head_word l)) ≡ head_pops (image_of p (head_word l))
    unfolding pushed_on
    pops_now below l l_below =
        let within = is_prefix.within in
        let small = run.is.small in
        let first : volatile_at w (head_word l) ≡ image_of p (head_word l) = stores.volatile (head_word l)
        (give_low p class is run prefix is_prefix (head_word l) (omega arith) (omega arith)) in
        elim (cases_eq l list) as (λ _. head_pops (volatile_at x (head_word l)) ≡ head_pops (image_of p (head_word l))) [
          | inl same ↦
              let at : volatile_at x (head_word list) ≡ head_of (prefix.d + 1) (head_pops (volatile_at w (head_word list))) =
              (pushed_on below).head.at in
              let there : volatile_at w (head_word list) ≡ image_of p (head_word list) = subst
              (λ k. volatile_at w (head_word k) ≡ image_of p (head_word k)) same first in
              subst (λ k. head_pops (volatile_at x (head_word k)) ≡ head_pops (image_of p (head_word k))) (sym same)
              (omega (arith, largest_capacity_fits))
          | inr other ↦ ap head_pops (push_stores.volatile (head_word l) (push_other l l_below other) ∙ first)
        ]
      where
        push_other : (l : ℕ) → l < lists → l ≢ list → IsPushWord list prefix.d (head_word l) → ⊥
        push_other l l_below other (inl at) = other (omega arith)
        push_other l l_below other (inr at) = omega arith

    -- infos and `used` stay here too, and so no superblock is lost
    pub listed_fixed : list < lists → KeepsFixed p x
    listed_fixed below =
        let within = is_prefix.within in
        keeps_fixed p x (IsEitherWord p class is run prefix is_prefix list) run
        (both_stores p class is run prefix is_prefix w x list stores push_stores) pushed.runs_within.running pushed.runs_within.below
        (λ e e_below. both_low p class is run prefix is_prefix list (info_word e) (omega arith) (omega arith) (omega arith) (omega arith))
        (both_low p class is run prefix is_prefix list used_word (omega arith) (omega arith) (omega arith) (omega arith)) (pops_now below)

    listed_accounted : (t : Shape) → list < lists → IsShape p.capacity (λ word. volatile_at x word) (held_in p) t
        → ((e : ℕ) → Contains (run.shape.listed 0) e → Contains (t.listed 0) e) → AreAccounted p → AreAccounted now_listed
    listed_accounted t below shape listed =
        accounted_kept p.capacity (image_of p) (λ word. volatile_at x word) (held_in p) run.shape t (held_in p) run.is shape
        (listed_fixed below).used (listed_fixed below).infos listed

    listed_running : (t : Shape) (list_place : ℕ) → list < lists → IsShape p.capacity (λ word. volatile_at x word) (held_in p) t
        → ((c : ℕ) → t.cached c ≡ with_at run.shape.cached class rest c)
        → ((c : ℕ) → t.start c ≡ with_at run.shape.start class (image_of p prefix.batch.last) c)
        → ((e : ℕ) → t.place e ≡ with_at run.shape.place prefix.d (in_list list_place) e) → IsRunning now_listed
    listed_running t list_place below shape cached start place =
        running_after p x (set p.caches class prefix.rest) p.blocks t run (listed_fixed below) (length-set p.caches class prefix.rest
        ∙ run.caches_long) refl refl shape (caches_now p class is run prefix is_prefix w anchor given stores t cached start) places
      where
        places : (e : ℕ) → e < p.capacity → IsClass (image_of p (info_word e))
            → (t.place e ≡ in_list (image_of p (info_word e))) ⊎ (t.place e ≡ is_full)
            → (run.shape.place e ≡ in_list (image_of p (info_word e))) ⊎ (run.shape.place e ≡ is_full)
        places e e_below is_class placed = elim (cases_eq e prefix.d) as
            (λ _. (run.shape.place e ≡ in_list (image_of p (info_word e))) ⊎ (run.shape.place e ≡ is_full)) [
              | inl same ↦ inr (ap run.shape.place same ∙ (gave_full p class is run prefix is_prefix w anchor given stores full).0)
              | inr other ↦
                  let before : t.place e ≡ run.shape.place e = place e ∙ with_at_other run.shape.place prefix.d (in_list list_place) e other in
                  subst (λ y. (y ≡ in_list (image_of p (info_word e))) ⊎ (y ≡ is_full)) before placed
            ]

    none_before : length (run.shape.chain prefix.d) ≡ 0
    none_before = ap (λ (xs : List ℕ). length xs) (gave_full p class is run prefix is_prefix w anchor given stores full).3

    -- that of the free ones
    pub all_shape : prefix.batch.count ≡ blocks_of class → list ≡ 0 → IsShape p.capacity (λ word. volatile_at x word) (held_in p)
        (after_give_all run.shape class prefix.d blocks rest (image_of p prefix.batch.last))
    all_shape all same =
        let count = is_prefix.count in
        let none = none_before in
        let total : length blocks + length (run.shape.chain prefix.d) ≡ blocks_of class = omega arith in
        let empty : state_now p class is run prefix is_prefix w anchor given stores ≡ empty_state =
        cond-true (nat_eq (length blocks + length (run.shape.chain prefix.d)) (blocks_of class))
        empty_state partial_state
        (eq-eqb (length blocks + length (run.shape.chain prefix.d)) (blocks_of class) total) in
        let is_state = gave_full p class is run prefix is_prefix w anchor given stores full in
        give_all p.capacity class prefix.d (image_of p) (λ word. volatile_at w word)
        (held_in p) run.shape is_prefix.before rest prefix.batch.last is run.is
        is_prefix.within (split p class is run prefix is_prefix).1 is_prefix.firsts
        (λ word. volatile_at x word) is_state.0 is_state.1 (omega arith)
        (subst (λ state. IsGivenBack p.capacity (image_of p) (λ word. volatile_at w word)
        run.shape class prefix.d is_prefix.before prefix.batch.last state) empty
        (given_back p class is run prefix is_prefix w anchor given stores))
        (subst (λ l. IsPushedOn (λ word. volatile_at w word) (λ word. volatile_at x word) l prefix.d) same (pushed_on (omega arith)))

    pub pushed_all : prefix.batch.count ≡ blocks_of class → list ≡ 0 → IsRunning now_listed
    pushed_all all same = listed_running (after_give_all run.shape class prefix.d blocks rest (image_of p prefix.batch.last)) 0 (omega arith)
        (all_shape all same) (λ c. refl) (λ c. refl) (λ e. refl)

    pub all_accounted : prefix.batch.count ≡ blocks_of class → list ≡ 0 → AreAccounted p → AreAccounted now_listed
    all_accounted all same = listed_accounted (after_give_all run.shape class prefix.d blocks rest (image_of p prefix.batch.last)) (omega arith)
        (all_shape all same) (λ e. in_rest prefix.d e (run.shape.listed 0))

    -- that of the class
    pub some_shape : prefix.batch.count ≢ blocks_of class → list ≡ class → IsShape p.capacity (λ word. volatile_at x word) (held_in p)
        (after_give_full run.shape class prefix.d blocks rest (image_of p prefix.batch.last))
    some_shape not_all same =
        let last_class = is.last in
        let count = is_prefix.count in
        let none = none_before in
        let fits = prefix_fits p class is run prefix is_prefix in
        let differs : length blocks + length (run.shape.chain prefix.d) ≢ blocks_of class = λ e. not_all (omega arith) in
        let partial : state_now p class is run prefix is_prefix w anchor given stores ≡ partial_state =
        cond-false (nat_eq (length blocks + length (run.shape.chain prefix.d)) (blocks_of class))
        empty_state partial_state
        (ne_eqb (length blocks + length (run.shape.chain prefix.d)) (blocks_of class) differs) in
        let is_state = gave_full p class is run prefix is_prefix w anchor given stores full in
        give_full p.capacity class prefix.d (image_of p) (λ word. volatile_at w word)
        (held_in p) run.shape is_prefix.before rest prefix.batch.last is run.is
        is_prefix.within (split p class is run prefix is_prefix).1 is_prefix.firsts
        (λ word. volatile_at x word) is_state.0 is_state.1 (omega arith)
        (subst (λ state. IsGivenBack p.capacity (image_of p) (λ word. volatile_at w word)
        run.shape class prefix.d is_prefix.before prefix.batch.last state) partial
        (given_back p class is run prefix is_prefix w anchor given stores))
        (subst (λ l. IsPushedOn (λ word. volatile_at w word) (λ word. volatile_at x word) l prefix.d) same (pushed_on (omega arith)))

    pub pushed_some : prefix.batch.count ≢ blocks_of class → list ≡ class → IsRunning now_listed
    pushed_some not_all same = let last_class = is.last in
        listed_running (after_give_full run.shape class prefix.d blocks rest (image_of p prefix.batch.last)) class (omega arith)
        (some_shape not_all same) (λ c. refl) (λ c. refl) (λ e. refl)

    pub some_accounted : prefix.batch.count ≢ blocks_of class → list ≡ class → AreAccounted p → AreAccounted now_listed
    some_accounted not_all same = let last_class = is.last in let some_class = is.some in
        listed_accounted (after_give_full run.shape class prefix.d blocks rest (image_of p prefix.batch.last)) (omega arith) (some_shape not_all same)
        (λ e. subst (λ xs. Contains xs e) (sym (with_at_other run.shape.listed class (prefix.d ∷ run.shape.listed class) 0 (λ q. omega arith))))
