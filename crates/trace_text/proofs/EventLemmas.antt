-- Events as words: a verb, and numbers behind spaces.
use Rattle.std.proofs.Common.{◌≡◌, ◌≢◌, ℕ, ◌^◌, ◌<◌, ◌≤◌, nat_le, nat_eq, Bool, true, false, cond, Option, Some, None, List, [], ◌∷◌, ◌++◌, length, decimal, refl, sym, ap, subst, ◌∙◌, arith, eq-eqb, leb-true}
use Rattle.std.proofs.lemmas.List.{append-nil}
use Rattle.std.proofs.lemmas.List.Elements.{All-nil, All-cons, All-head, All-tail}
use Rattle.std.specs.List.{All}
use Rattle.core_model.specs.declared.event.Event.{Event}
use Rattle.core_model.specs.declared.event.Event.TheVariants.{Tick, Load, Store, Settle, LookUsed, TakeFresh, KeepUsed, LookHead, LookLink, Pop, Push, LookAnchor, TakeAll, Give}
use Rattle.core_model.specs.declared.event.Shift.TheVariants.{Cut, Alloc, Free, Lift, Large, Split}
use Rattle.trace_text.specs.Lines.{IsReadAs, WritesNothing}
use Rattle.trace_text.specs.Numbers.{IsNumber}
use Rattle.trace_text.specs.Schedule.{parts_of, spaced, IsEventWords, IsPartsReading}
use Rattle.trace_text.proofs.NumberLemmas.{number_has_no, one_number}
use Rattle.trace_text.proofs.PieceLemmas.{same_parts, has_separator}

-- a text of one word
abbrev pub IsWord : List ℕ → Type 0
IsWord text = All (λ b. b ≢ 32) text

unfoldable pub is_word : List ℕ → Bool
is_word [] = true
is_word (c ∷ text) = cond (nat_eq c 32) false (is_word text)

both : (b t : Bool) → cond b false t ≡ true → (b ≡ false) × (t ≡ true)
both true t is = cc
both false t is = (refl, is)

passed : (b t : Bool) → cond b t false ≡ true → (b ≡ true) × (t ≡ true)
passed true t is = (refl, is)
passed false t is = cc

pub word_passes : (text : List ℕ) → is_word text ≡ true → IsWord text
unfolding is_word
word_passes [] is = All-nil (λ b. b ≢ 32)
word_passes (c ∷ text) is =
    let two = both (nat_eq c 32) (is_word text) is in
    All-cons (λ b. b ≢ 32) c text (λ same. cc (eq-eqb c 32 same, two.0)) (word_passes text two.1)

-- a verb is a word, and at most two numbers stand behind it
pub is_short : List ℕ × List ℕ → Bool
is_short parts = cond (is_word parts.0) (nat_le (length parts.1) 2) false

pub each_is_short : (event : Event) → is_short (parts_of event) ≡ true
unfolding is_short is_word
each_is_short (Tick None) = refl
each_is_short (Tick (Some (Cut d))) = refl
each_is_short (Tick (Some (Alloc class))) = refl
each_is_short (Tick (Some (Free block))) = refl
each_is_short (Tick (Some (Lift class))) = refl
each_is_short (Tick (Some (Large d n))) = refl
each_is_short (Tick (Some (Split block))) = refl
each_is_short (Load word) = refl
each_is_short (Store word value) = refl
each_is_short (Settle word) = refl
each_is_short LookUsed = refl
each_is_short (TakeFresh n) = refl
each_is_short KeepUsed = refl
each_is_short (LookHead list) = refl
each_is_short LookLink = refl
each_is_short Pop = refl
each_is_short (Push d) = refl
each_is_short (LookAnchor d) = refl
each_is_short (TakeAll d) = refl
each_is_short (Give d) = refl

pub short_parts : (verb numbers : List ℕ) → is_short (verb, numbers) ≡ true → IsWord verb × (length numbers ≤ 2)
unfolding is_short
short_parts verb numbers is =
    let two = passed (is_word verb) (nat_le (length numbers) 2) is in
    (word_passes verb two.0, leb-true (length numbers) 2 two.1)

-- words without a space are a verb alone
pub alone : (verb numbers words : List ℕ) → words ≡ verb ++ spaced numbers → IsWord words → (words ≡ verb) × (numbers ≡ [])
alone verb [] words are free = (are ∙ append-nil verb, refl)
alone verb (n ∷ numbers) words are free = absurd (has_separator 32 verb (decimal n ++ spaced numbers) (subst (λ l. IsWord l) are free))

-- else the verb stands before the first space, and a number behind it
pub record IsCut (verb numbers first rest : List ℕ) : Type 0 where
  pub n : ℕ
  pub others : List ℕ
  pub numbers_are : numbers ≡ n ∷ others
  pub first_is : first ≡ verb
  pub rest_is : rest ≡ decimal n ++ spaced others

cut_once : (verb numbers words first rest : List ℕ) → words ≡ verb ++ spaced numbers → IsWord verb → words ≡ first ++ 32 ∷ rest → IsWord first
    → IsCut verb numbers first rest
cut_once verb [] words first rest are is_verb cut is_first =
    let same : verb ≡ first ++ 32 ∷ rest = sym (append-nil verb) ∙ sym are ∙ cut in
    absurd (has_separator 32 first rest (subst (λ l. IsWord l) same is_verb))
cut_once verb (n ∷ numbers) words first rest are is_verb cut is_first =
    let parts = same_parts 32 first verb rest (decimal n ++ spaced numbers) is_first is_verb (sym cut ∙ are) in
    record { n = n; others = numbers; numbers_are = refl; first_is = parts.0; rest_is = parts.1 }

-- an event whose words have one space has one number
pub one_number_behind : (words verb rest : List ℕ) (event : Event) → words ≡ verb ++ 32 ∷ rest → IsWord verb → IsWord rest → IsEventWords words event
    → (n : ℕ) × (verb ≡ (parts_of event).0) × (n ∷ [] ≡ (parts_of event).1) × IsNumber rest n
one_number_behind words verb rest event cut is_verb is_rest is =
    let short = short_parts (parts_of event).0 (parts_of event).1 (each_is_short event) in
    let parts = cut_once (parts_of event).0 (parts_of event).1 words verb rest is.words_are short.0 cut is_verb in
    let last = alone (decimal parts.n) parts.others rest parts.rest_is is_rest in
    let numbers : (parts_of event).1 ≡ parts.n ∷ [] = parts.numbers_are ∙ ap (λ l. parts.n ∷ l) last.1 in
    let fits : parts.n < 2 ^ 64 = All-head (λ n. n < 2 ^ 64) parts.n [] (subst (λ l. All (λ n. n < 2 ^ 64) l) numbers is.numbers_fit) in
    (parts.n, parts.first_is, sym numbers, (fits, last.0))

-- of two numbers at most, the first is before the space and the second behind it
two_numbers : (numbers : List ℕ) (m : ℕ) (others rest first second : List ℕ) → numbers ≡ m ∷ others → All (λ n. n < 2 ^ 64) numbers → length numbers ≤ 2
    → rest ≡ decimal m ++ spaced others → rest ≡ first ++ 32 ∷ second → IsWord first
    → (n : ℕ) × (m ∷ n ∷ [] ≡ numbers) × IsNumber first m × IsNumber second n
two_numbers numbers m [] rest first second are fit few rest_is cut is_first =
    let fits : m < 2 ^ 64 = All-head (λ n. n < 2 ^ 64) m [] (subst (λ l. All (λ n. n < 2 ^ 64) l) are fit) in
    let one : decimal m ≡ first ++ 32 ∷ second = sym (append-nil (decimal m)) ∙ sym rest_is ∙ cut in
    absurd (has_separator 32 first second (subst (λ l. IsWord l) one (number_has_no 32 (decimal m) m (omega arith) (fits, refl))))
two_numbers numbers m (n ∷ []) rest first second are fit few rest_is cut is_first =
    let both_fit = subst (λ l. All (λ n. n < 2 ^ 64) l) are fit in
    let fits : m < 2 ^ 64 = All-head (λ n. n < 2 ^ 64) m (n ∷ []) both_fit in
    let fits_too : n < 2 ^ 64 = All-head (λ n. n < 2 ^ 64) n [] (All-tail (λ n. n < 2 ^ 64) m (n ∷ []) both_fit) in
    let is_m : IsWord (decimal m) = number_has_no 32 (decimal m) m (omega arith) (fits, refl) in
    let parts = same_parts 32 first (decimal m) second (decimal n ++ []) is_first is_m (sym cut ∙ rest_is) in
    (n, sym are, (fits, parts.0), (fits_too, parts.1 ∙ append-nil (decimal n)))
two_numbers numbers m (n ∷ k ∷ others) rest first second are fit few rest_is cut is_first =
    let more = ap length are in
    absurd (omega arith)

-- and one whose words have another space has two
two_numbers_behind : (words verb rest first second : List ℕ) (event : Event) → words ≡ verb ++ 32 ∷ rest → IsWord verb
    → rest ≡ first ++ 32 ∷ second → IsWord first
    → IsEventWords words event
    → (m : ℕ) × (n : ℕ) × (verb ≡ (parts_of event).0) × (m ∷ n ∷ [] ≡ (parts_of event).1) × IsNumber first m × IsNumber second n
two_numbers_behind words verb rest first second event cut is_verb cut_again is_first is =
    let short = short_parts (parts_of event).0 (parts_of event).1 (each_is_short event) in
    let one = cut_once (parts_of event).0 (parts_of event).1 words verb rest is.words_are short.0 cut is_verb in
    let two = two_numbers (parts_of event).1 one.n one.others rest first second one.numbers_are is.numbers_fit short.1 one.rest_is cut_again is_first in
    (one.n, two.0, one.first_is, two.1, two.2, two.3)

-- the words of an event with the verb and the numbers
event_words : (words verb numbers : List ℕ) (event : Event) → words ≡ verb ++ spaced numbers → All (λ n. n < 2 ^ 64) numbers → verb ≡ (parts_of event).0
    → numbers ≡ (parts_of event).1 → IsEventWords words event
event_words words verb numbers event are fit verb_is numbers_are = record {
  words_are = are ∙ ap (λ l. l ++ spaced numbers) verb_is ∙ ap (λ l. (parts_of event).0 ++ spaced l) numbers_are;
  numbers_fit = subst (λ l. All (λ n. n < 2 ^ 64) l) numbers_are fit;
}

-- so words without a space are read as a verb
pub read_alone : (words : List ℕ) (r : Option Event) → IsWord words → IsPartsReading words [] r → IsReadAs IsEventWords words r
read_alone words (Some event) free reads = event_words words words [] event (sym (append-nil words)) (All-nil (λ n. n < 2 ^ 64)) reads.0 reads.1
read_alone words None free reads = λ event is.
    let parts = alone (parts_of event).0 (parts_of event).1 words is.words_are free in
    reads event parts.0 (sym parts.1)

-- words with one space as a verb and a number
pub read_one : (words verb rest : List ℕ) (n : ℕ) (r : Option Event) → words ≡ verb ++ 32 ∷ rest → IsWord verb → IsWord rest → IsNumber rest n
    → IsPartsReading verb (n ∷ []) r → IsReadAs IsEventWords words r
read_one words verb rest n (Some event) cut is_verb is_rest is_n reads =
    event_words words verb (n ∷ []) event (cut ∙ ap (λ l. verb ++ 32 ∷ l) (is_n.1 ∙ sym (append-nil (decimal n))))
    (All-cons (λ k. k < 2 ^ 64) n [] is_n.0 (All-nil (λ k. k < 2 ^ 64))) reads.0 reads.1
read_one words verb rest n None cut is_verb is_rest is_n reads = λ event is.
    let parts = one_number_behind words verb rest event cut is_verb is_rest is in
    reads event parts.1 (ap (λ k. k ∷ []) (one_number rest n parts.0 is_n parts.3) ∙ parts.2)

pub no_one : (words verb rest : List ℕ) → words ≡ verb ++ 32 ∷ rest → IsWord verb → IsWord rest → WritesNothing IsNumber rest
    → WritesNothing IsEventWords words
no_one words verb rest cut is_verb is_rest none event is =
    let parts = one_number_behind words verb rest event cut is_verb is_rest is in
    none parts.0 parts.3

-- and words with another one as a verb and two numbers
pub read_two : (words verb rest first second : List ℕ) (m n : ℕ) (r : Option Event) → words ≡ verb ++ 32 ∷ rest → IsWord verb
    → rest ≡ first ++ 32 ∷ second → IsWord first
    → IsNumber first m → IsNumber second n → IsPartsReading verb (m ∷ n ∷ []) r → IsReadAs IsEventWords words r
read_two words verb rest first second m n (Some event) cut is_verb cut_again is_first is_m is_n reads =
    let last : second ≡ decimal n ++ [] = is_n.1 ∙ sym (append-nil (decimal n)) in
    let numbers : rest ≡ decimal m ++ 32 ∷ (decimal n ++ []) = cut_again ∙ ap (λ l. l ++ 32 ∷ second) is_m.1 ∙ ap (λ l. decimal m ++ 32 ∷ l) last in
    event_words words verb (m ∷ n ∷ []) event (cut ∙ ap (λ l. verb ++ 32 ∷ l) numbers)
    (All-cons (λ k. k < 2 ^ 64) m (n ∷ []) is_m.0 (All-cons (λ k. k < 2 ^ 64) n [] is_n.0 (All-nil (λ k. k < 2 ^ 64)))) reads.0 reads.1
read_two words verb rest first second m n None cut is_verb cut_again is_first is_m is_n reads = λ event is.
    let parts = two_numbers_behind words verb rest first second event cut is_verb cut_again is_first is in
    let same_m = one_number first m parts.0 is_m parts.4 in
    let same_n = one_number second n parts.1 is_n parts.5 in
    reads event parts.2 (ap (λ k. k ∷ n ∷ []) same_m ∙ ap (λ k. parts.0 ∷ k ∷ []) same_n ∙ parts.3)

pub no_two : (words verb rest first second : List ℕ) → words ≡ verb ++ 32 ∷ rest → IsWord verb → rest ≡ first ++ 32 ∷ second → IsWord first
    → ((m n : ℕ) → IsNumber first m → IsNumber second n → ⊥) → WritesNothing IsEventWords words
no_two words verb rest first second cut is_verb cut_again is_first none event is =
    let parts = two_numbers_behind words verb rest first second event cut is_verb cut_again is_first is in
    none parts.0 parts.1 parts.4 parts.5
