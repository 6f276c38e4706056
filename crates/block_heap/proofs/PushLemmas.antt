-- A push, as an image.
use Rattle.std.proofs.Common.{◌≡◌, ℕ, ◌+◌, ◌*◌, ◌<◌, inl, inr, set, refl, ap, sym, subst, ◌∙◌, arith, length-set}
use Rattle.std.proofs.lemmas.Bool.{cases_eq}
use Rattle.heap_model.specs.Geometry.{lists, head_word, anchor_word, link_word}
use Rattle.heap_model.specs.Words.{head_first, head_of, head_pops}
use Rattle.heap_shape.specs.Effects.{IsPushedOn}
use Rattle.line_memory.specs.View.{View, word_count, volatile_at}
use Rattle.block_heap.specs.Links.{IsOpen, IsPushed}
use Rattle.block_heap.proofs.RunningLemmas.{set_is}

-- a push, as an image
pub pushed_is : (list d : ℕ) (v w : View) → list < lists → head_word list < word_count v → link_word d < word_count v → IsPushed list d v w
    → IsPushedOn (volatile_at v) (volatile_at w) list d
pushed_is list d v w less head link pushed =
    let long = length-set v.volatile (link_word d) (head_first (volatile_at v (head_word list))) in
    record {
      middle = volatile_at (record v { volatile = set v.volatile (link_word d) (head_first (volatile_at v (head_word list))) });
      pops = head_pops (volatile_at v (head_word list));
      link = set_is v.volatile (set v.volatile (link_word d) (head_first (volatile_at v (head_word list)))) (link_word d)
          (head_first (volatile_at v (head_word list))) link refl;
      head = set_is (set v.volatile (link_word d) (head_first (volatile_at v (head_word list)))) w.volatile (head_word list)
          (head_of (d + 1) (head_pops (volatile_at v (head_word list)))) (omega arith) pushed.words;
    }

-- it keeps how often each list was popped
pub pushed_pops : (list d : ℕ) (v w : View) → list < lists → head_word list < word_count v → link_word d < word_count v → d < 16777215
    → IsPushed list d v w
    → (other : ℕ) → other < lists → head_pops (volatile_at w (head_word other)) ≡ head_pops (volatile_at v (head_word other))
pushed_pops list d v w less head link small pushed other below =
    let long = length-set v.volatile (link_word d) (head_first (volatile_at v (head_word list))) in
    let first = set_is v.volatile (set v.volatile (link_word d) (head_first (volatile_at v (head_word list)))) (link_word d)
    (head_first (volatile_at v (head_word list))) link refl in
    let second = set_is (set v.volatile (link_word d) (head_first (volatile_at v (head_word list)))) w.volatile (head_word list)
    (head_of (d + 1) (head_pops (volatile_at v (head_word list)))) (omega arith) pushed.words in
    elim (cases_eq other list) as (λ _. head_pops (volatile_at w (head_word other)) ≡ head_pops (volatile_at v (head_word other))) [
      | inl same ↦
          let now : volatile_at w (head_word list) ≡ d + 1 + 16777216 * head_pops (volatile_at v (head_word list)) = second.at in
          subst (λ k. head_pops (volatile_at w (head_word k)) ≡ head_pops (volatile_at v (head_word k))) (sym same) (omega arith)
      | inr differs ↦ ap head_pops (second.others (head_word other) (λ e. differs (omega arith)) ∙ first.others (head_word other) (λ e. omega arith))
    ]

-- the words of an open heap
pub words_inside : (capacity d list : ℕ) (v : View) → IsOpen capacity v → d < capacity → list < lists
    → (head_word list < word_count v) × (anchor_word d < word_count v) × (link_word d < word_count v)
words_inside capacity d list v is within less = let long = is.long in (omega arith, omega arith, omega arith)
