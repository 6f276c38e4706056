-- Heads, anchors and links change nothing else of an image.
use Rattle.std.proofs.Common.{◌≡◌, ℕ, zero, suc, map, ap₂, ◌∷◌, ◌+◌, ◌<◌, List, [], ◌++◌, length, slice_index, set, refl, ap, sym, subst, ◌∙◌, length-set, arith}
use Rattle.std.proofs.lemmas.List.{map-append, get_or-set_same, get_or-set_other}
use Rattle.heap_model.specs.Geometry.{image_words, fixed_words, lists, head_word, info_word, anchor_word, link_word}
use Rattle.heap_model.specs.Header.{capacity_of}
use Rattle.heap_model.specs.Durability.{IsTransient, is_head, is_anchor, is_link, IsCrashImage}
use Rattle.crash_image.specs.Crash.{GivesAll, IsLeft, descriptors_below, heads_below, transient_words}

pub left_same : (capacity : ℕ) (words : List ℕ) → IsLeft capacity words words
left_same capacity words = record { long = refl; others = λ word other. refl }

pub left_set : (capacity : ℕ) (old new : List ℕ) (at x : ℕ) → IsTransient capacity at → IsLeft capacity old new → IsLeft capacity old (set new at x)
left_set capacity old new at x transient left = record {
  long = length-set new at x ∙ left.long;
  others = λ word other. get_or-set_other new at word x 0 (λ same. other (subst (IsTransient capacity) (sym same) transient)) ∙ left.others word other;
}

-- the state word is no head, anchor or link
state_stays : (capacity : ℕ) → IsTransient capacity 3 → ⊥
state_stays capacity (is_head list word less same) = omega (arith, same)
state_stays capacity (is_anchor d word less same) = omega (arith, same)
state_stays capacity (is_link d word less same) = omega (arith, same)

-- what is left is a crash image
pub crash_left : (c : ℕ) (items heads final : List ℕ) → length items ≡ image_words c → c ≡ capacity_of (slice_index items)
    → IsLeft c (set items 3 2) heads → IsLeft c heads final → IsCrashImage (slice_index items) (slice_index final)
crash_left c items heads final long capacity first second = record {
  state = second.others 3 (state_stays c) ∙ first.others 3 (state_stays c) ∙ get_or-set_same items 3 2 0 (omega arith);
  others = λ word not_state other. let apart : IsTransient c word → ⊥ = λ t. other (subst (λ n. IsTransient n word) capacity t) in
      second.others word apart ∙ first.others word apart ∙ get_or-set_other items 3 word 2 0 not_state;
}

-- a chance that gave some numbers gives one more, and others
gives_last : {C : Type 0} (gives : C → ℕ → C → Type 0) (numbers : List ℕ) (from before to : C) (number : ℕ) → GivesAll gives from numbers before
    → gives before number to → GivesAll gives from (numbers ++ (number ∷ [])) to
gives_last gives [] from before to number same one = (to, subst (λ c. gives c number to) (sym same) one, refl)
gives_last gives (x ∷ xs) from before to number all one = (all.0, all.1, gives_last gives xs all.0 before to number all.2 one)

gives_both : {C : Type 0} (gives : C → ℕ → C → Type 0) (xs ys : List ℕ) (from mid to : C) → GivesAll gives from xs mid
    → GivesAll gives mid ys to → GivesAll gives from (xs ++ ys) to
gives_both gives [] ys from mid to same rest = subst (λ c. GivesAll gives c ys to) (sym same) rest
gives_both gives (x ∷ xs) ys from mid to all rest = (all.0, all.1, gives_both gives xs ys all.0 mid to all.2 rest)

-- where two images agree below a word, they agree on the transient words below
heads_alike : (f g : ℕ → ℕ) (n : ℕ) → ((word : ℕ) → word < head_word n → f word ≡ g word) → map f (heads_below n) ≡ map g (heads_below n)
heads_alike f g zero same = refl
heads_alike f g (suc n) same = map-append f (heads_below n) (head_word n ∷ [])
    ∙ ap₂ (λ xs ys. xs ++ ys) (heads_alike f g n (λ word less. same word (omega arith))) (ap (λ x. x ∷ []) (same (head_word n) (omega arith)))
    ∙ sym (map-append g (heads_below n) (head_word n ∷ []))

descriptors_alike : (f g : ℕ → ℕ) (d : ℕ) → ((word : ℕ) → word < info_word d → f word ≡ g word)
    → map f (descriptors_below d) ≡ map g (descriptors_below d)
descriptors_alike f g zero same = refl
descriptors_alike f g (suc d) same = map-append f (descriptors_below d) (anchor_word d ∷ link_word d ∷ [])
    ∙ ap₂ (λ xs ys. xs ++ ys) (descriptors_alike f g d (λ word less. same word (omega arith)))
    (ap₂ (λ x y. x ∷ y ∷ []) (same (anchor_word d) (omega arith)) (same (link_word d) (omega arith)))
    ∙ sym (map-append g (descriptors_below d) (anchor_word d ∷ link_word d ∷ []))

-- the next head, and the next anchor and link, get the next numbers
pub head_drawn : {C : Type 0} (gives : C → ℕ → C → Type 0) (from before to : C) (items : List ℕ) (n next x : ℕ) → next ≡ suc n
    → head_word n < length items
    → GivesAll gives from (map (slice_index items) (heads_below n)) before → gives before x to
    → GivesAll gives from (map (slice_index (set items (head_word n) x)) (heads_below next)) to
head_drawn gives from before to items n next x is less all one =
    subst (λ j. GivesAll gives from (map (slice_index (set items (head_word n) x)) (heads_below j)) to) (sym is)
    (subst (λ ns. GivesAll gives from ns to) (sym (map-append (slice_index (set items (head_word n) x)) (heads_below n) (head_word n ∷ [])
    ∙ ap₂ (λ xs ys. xs ++ ys) (heads_alike (slice_index (set items (head_word n) x)) (slice_index items) n
    (λ word below. get_or-set_other items (head_word n) word x 0 (λ same. omega (arith, same))))
    (ap (λ y. y ∷ []) (get_or-set_same items (head_word n) x 0 less))))
    (gives_last gives (map (slice_index items) (heads_below n)) from before to x all one))

two_drawn : {C : Type 0} (gives : C → ℕ → C → Type 0) (from before mid to : C) (items : List ℕ) (d x y : ℕ) → link_word d < length items
    → GivesAll gives from (map (slice_index items) (descriptors_below d)) before → gives before x mid → gives mid y to
    → GivesAll gives from (map (slice_index (set (set items (anchor_word d) x) (link_word d) y)) (descriptors_below (suc d))) to
two_drawn gives from before mid to items d x y less all one other =
    subst (λ ns. GivesAll gives from ns to) (sym (map-append (slice_index after) (descriptors_below d) (anchor_word d ∷ link_word d ∷ [])
    ∙ ap₂ (λ xs ys. xs ++ ys) (descriptors_alike (slice_index after) (slice_index items) d
    (λ word below. get_or-set_other anchored (link_word d) word y 0 (λ same. omega (arith, same))
    ∙ get_or-set_other items (anchor_word d) word x 0 (λ same. omega (arith, same))))
    (ap₂ (λ a b. a ∷ b ∷ []) (get_or-set_other anchored (link_word d) (anchor_word d) y 0 (λ same. omega (arith, same))
    ∙ get_or-set_same items (anchor_word d) x 0 (omega arith))
    (get_or-set_same anchored (link_word d) y 0 (let l = length-set items (anchor_word d) x in omega arith)))))
    (gives_both gives (map (slice_index items) (descriptors_below d)) (x ∷ y ∷ []) from before to all (mid, one, (to, other, refl))) where
      anchored : List ℕ
      anchored = set items (anchor_word d) x

      after : List ℕ
      after = set anchored (link_word d) y

pub descriptor_drawn : {C : Type 0} (gives : C → ℕ → C → Type 0) (from before mid to : C) (items : List ℕ) (d next a l x y : ℕ) → next ≡ suc d
    → a ≡ anchor_word d → l ≡ link_word d → l < length items
    → GivesAll gives from (map (slice_index items) (descriptors_below d)) before → gives before x mid → gives mid y to
    → GivesAll gives from (map (slice_index (set (set items a x) l y)) (descriptors_below next)) to
descriptor_drawn gives from before mid to items d next a l x y is at_a at_l less all one other =
    subst (λ j. GivesAll gives from (map (slice_index (set (set items a x) l y)) (descriptors_below j)) to) (sym is)
    (subst (λ w. GivesAll gives from (map (slice_index (set (set items w x) l y)) (descriptors_below (suc d))) to) (sym at_a)
    (subst (λ w. GivesAll gives from (map (slice_index (set (set items (anchor_word d) x) w y)) (descriptors_below (suc d))) to) (sym at_l)
    (two_drawn gives from before mid to items d x y (omega arith) all one other)))

-- both together
pub all_drawn : {C : Type 0} (gives : C → ℕ → C → Type 0) (from mid to : C) (heads final : List ℕ) (capacity : ℕ)
    → ((word : ℕ) → word < fixed_words → slice_index final word ≡ slice_index heads word)
    → GivesAll gives from (map (slice_index heads) (heads_below lists)) mid
    → GivesAll gives mid (map (slice_index final) (descriptors_below capacity)) to
    → GivesAll gives from (map (slice_index final) (transient_words capacity)) to
all_drawn gives from mid to heads final capacity same first second =
    subst (λ ns. GivesAll gives from ns to) (sym (map-append (slice_index final) (heads_below lists) (descriptors_below capacity)))
    (gives_both gives (map (slice_index final) (heads_below lists)) (map (slice_index final) (descriptors_below capacity)) from mid to
    (subst (λ ns. GivesAll gives from ns mid) (sym (heads_alike (slice_index final) (slice_index heads) lists
    (λ word below. same word (omega arith)))) first) second)
