-- How a value is read from its node.
use Rattle.std.proofs.Common.{◌≡◌, ℕ, zero, suc, ◌+◌, ◌-◌, ◌*◌, ◌<◌, ◌≤◌, min, inl, inr, List, [], ◌∷◌, ◌++◌, length, take, drop, slice_index, get_or, length-append, Some, Contains, refl, ap, subst, sym, ◌∙◌, arith}
use Rattle.std.proofs.lemmas.Bool.{cases_eq, cases_lt}
use Rattle.std.proofs.lemmas.Grind.{same_number_lists, flat_map-append}
use Rattle.std.proofs.lemmas.List.{take-take, take_all, drop_all, take-append-le, drop-drop, append_assoc, append-nil, get_or_append_left, get_or-append_right, length-take-le}
use Rattle.std.proofs.Math.Seq.{take-append_seam, take-append-add, drop-append-add}
use Rattle.byteorder.specs.Endian.{little_bytes}
use Rattle.heap_model.specs.declared.block.Block.{Block}
use Rattle.heap_model.specs.Image.{Image, words_from, bytes_of_words}
use Rattle.heap_model.proofs.ImageLemmas.{length-words_from}
use Rattle.region_header.proofs.WordBytes.{length-bytes_of_words}
use Rattle.heap_seat.specs.View.{View}
use Rattle.heap_seat.specs.Words.{IsOwn, in_block, KeepsOwn}
use Rattle.heap_seat.specs.Calls.{Loads}
use Rattle.heap_seat.specs.Tickets.{Runs}
use Rattle.heap_seat.proofs.RowLemmas.{runs_then}
use Rattle.dict_model.specs.Nodes.{largest_value, value_words, length_in, value_in, IsNode}
use Rattle.dict_requests.specs.Quiet.{IsQuiet}
use Rattle.dict_requests.specs.Trails.{Completes}
use Rattle.dict_requests.specs.Gets.{IsReading, ReadsWords, ReadsValue, IsQuietRead}
use Rattle.dict_requests.proofs.GrownLemmas.{stays_held, grown_keeps}
use Rattle.dict_requests.proofs.TrailLemmas.{now_image, now_completes, completes_before}
use Rattle.dict_requests.proofs.QuietLemmas.{quiet_then}
use Rattle.dict_requests.proofs.ValueLemmas.{word_from}

-- the bytes of one more word
bytes_more : (words : List ℕ) (x : ℕ) → bytes_of_words (words ++ (x ∷ [])) ≡ bytes_of_words words ++ little_bytes 8 x
bytes_more words x = flat_map-append (little_bytes 8) words (x ∷ []) ∙ ap (λ (r : List ℕ). bytes_of_words words ++ r) (append-nil (little_bytes 8 x))

-- where they stand in the output
output_more : (words old out : List ℕ) (x count : ℕ) → length words ≡ count → 8 * count ≤ length old → length out ≡ length old
    → out ≡ take (length old) (bytes_of_words words) ++ drop (8 * count) old
    → take (8 * count) out ++ (take (length out - 8 * count) (little_bytes 8 x) ++ drop (8 * count + 8) out)
    ≡ take (length old) (bytes_of_words (words ++ (x ∷ []))) ++ drop (8 * (count + 1)) old
output_more words old out x count count_is fits same is =
    let bs : List ℕ = bytes_of_words words in
    let long : length bs ≡ 8 * count = length-bytes_of_words words ∙ ap (λ n. 8 * n) count_is in
    let rest : List ℕ = drop (8 * count) old in
    let out_is : out ≡ bs ++ rest = is ∙ ap (λ (front : List ℕ). front ++ rest) (take_all (length old) bs (omega arith)) in
    let k = length old - 8 * count in
    let front : take (8 * count) out ≡ bs = ap (take (8 * count)) out_is ∙ ap (λ n. take n (bs ++ rest)) (sym long) ∙ take-append_seam bs rest in
    let middle : take (length out - 8 * count) (little_bytes 8 x) ≡ take k (little_bytes 8 x) =
    ap (λ n. take (n - 8 * count) (little_bytes 8 x)) same in
    let next : 8 * count + 8 ≡ 8 * (count + 1) = omega arith in
    let behind : drop (8 * count + 8) out ≡ drop (8 * (count + 1)) old =
    ap (drop (8 * count + 8)) out_is ∙ ap (λ n. drop (n + 8) (bs ++ rest)) (sym long) ∙ drop-append-add bs rest 8 ∙ drop-drop 8 (8 * count) old
    ∙ ap (λ n. drop n old) next in
    let whole : length old ≡ length bs + k = omega arith in
    let all : take (length old) (bytes_of_words (words ++ (x ∷ []))) ≡ bs ++ take k (little_bytes 8 x) =
    ap (take (length old)) (bytes_more words x) ∙ ap (λ n. take n (bs ++ little_bytes 8 x)) whole ∙ take-append-add bs (little_bytes 8 x) k in
    ap (λ (a : List ℕ). a ++ (take (length out - 8 * count) (little_bytes 8 x) ++ drop (8 * count + 8) out)) front
    ∙ ap (λ (a : List ℕ). bs ++ (a ++ drop (8 * count + 8) out)) middle
    ∙ ap (λ (a : List ℕ). bs ++ (take k (little_bytes 8 x) ++ a)) behind
    ∙ sym (append_assoc bs (take k (little_bytes 8 x)) (drop (8 * (count + 1)) old))
    ∙ ap (λ (a : List ℕ). a ++ drop (8 * (count + 1)) old) (sym all)

-- one more word was read
pub reading_more : (b : Block) (count x : ℕ) (old out new : List ℕ) (v u w : View) → Contains v.held b → 3 + count < b.words → 8 * count ≤ length old
    → IsReading b count old out v u → Loads (b.first_word + (3 + count)) x u w → IsQuiet 1 u w
    → new ≡ take (8 * count) out ++ (take (length out - 8 * count) (little_bytes 8 x) ++ drop (8 * count + 8) out) → length new ≡ length out
    → IsReading b (count + 1) old new v w
reading_more b count x old out new v u w held inside fits reading loads quiet is same =
    let words : List ℕ = reading.read.words in
    let count_is : length words ≡ count = reading.read.count_is in
    record {
      done = inr (elim reading.done as (λ _. Runs v w) [
        | inl still ↦ subst (λ (s : View). Runs s w) still loads.runs
        | inr runs ↦ runs_then v u w runs loads.runs
      ]);
      quiet = quiet_then count 1 (count + 1) v u w (omega arith) reading.quiet quiet;
      same = same ∙ reading.same;
      read = record {
        words = words ++ (x ∷ []);
        count_is = length-append words (x ∷ []) ∙ ap (λ n. n + 1) count_is;
        seen = λ i below. elim (cases_eq i count) as (λ _. w.volatile (b.first_word + (3 + i)) ≡ Some (slice_index (words ++ (x ∷ [])) i)) [
          | inl last ↦
              let past : length words ≤ i = omega arith in
              let none : i - length words ≡ 0 = omega arith in
              let at : get_or (words ++ (x ∷ [])) i 0 ≡ x = get_or-append_right words (x ∷ []) (length words) i 0 refl past
              ∙ ap (λ n. get_or (x ∷ []) n 0) none in
              subst (λ j. w.volatile (b.first_word + (3 + j)) ≡ Some x) (sym last) loads.seen ∙ ap (λ n. Some n) (sym at)
          | inr other ↦
              let less : i < count = omega arith in
              let own : IsOwn u.held u.roots (b.first_word + (3 + i)) =
              in_block b (b.first_word + (3 + i)) (stays_held v u reading.quiet.unchanged.held b held)
              (record { from = omega arith; until = omega arith }) in
              let at : get_or (words ++ (x ∷ [])) i 0 ≡ get_or words i 0 = get_or_append_left words (x ∷ []) 0 i (omega arith) in
              (quiet.unchanged.words (b.first_word + (3 + i)) own).volatile (slice_index words i) (reading.read.seen i less) ∙ ap (λ n. Some n) (sym at)
        ];
        bytes = is ∙ output_more words old out x count count_is fits reading.same reading.read.bytes;
      };
    }

-- so many words, and then so many more
words_from_both : (image : Image) (from a c : ℕ) → words_from image from (a + c) ≡ words_from image from a ++ words_from image (from + a) c
words_from_both image from zero c =
    let none : 0 + c ≡ c = omega arith in
    let e : from ≡ from + 0 = omega arith in
    ap (words_from image from) none ∙ ap (λ n. words_from image n c) e
words_from_both image from (suc a) c =
    let next : suc a + c ≡ suc (a + c) = omega arith in
    let e : from + 1 + a ≡ from + suc a = omega arith in
    ap (words_from image from) next
    ∙ ap (λ (ws : List ℕ). image from ∷ ws) (words_from_both image (from + 1) a c ∙ ap (λ n. words_from image (from + 1) a ++ words_from image n c) e)

-- a node's value has the length that stands in it
pub value_length : (image : Image) (b : Block) → length (value_in image b) ≡ length_in image b
value_length image b =
    let n = length_in image b in
    let ws : List ℕ = words_from image (b.first_word + 3) (value_words n) in
    let many : length ws ≡ value_words n = length-words_from image (b.first_word + 3) (value_words n) in
    let long = length-bytes_of_words ws in
    length-take-le n (bytes_of_words ws) (omega arith)

-- its first bytes are those of its first words
value_front : (image : Image) (b : Block) (words : List ℕ) (count : ℕ) → count ≤ length_in image b → length words ≡ value_words count
    → ((i : ℕ) → i < value_words count → image (b.first_word + (3 + i)) ≡ slice_index words i)
    → take count (bytes_of_words words) ≡ take count (value_in image b)
value_front image b words count few many each =
    let n = length_in image b in
    let from = b.first_word + 3 in
    let a = value_words count in
    let c = value_words n - a in
    let front : List ℕ = words_from image from a in
    let rest : List ℕ = words_from image (from + a) c in
    let count_front : length front ≡ a = length-words_from image from a in
    let sum : value_words n ≡ a + c = omega arith in
    let same : words ≡ front = same_number_lists words front (many ∙ sym count_front)
    (λ k below. let less : k < a = omega arith in
    let at : from + k ≡ b.first_word + (3 + k) = omega arith in
    sym (each k less) ∙ ap image (sym at) ∙ sym (word_from image from a k less)) in
    let long = length-bytes_of_words front in
    let value : value_in image b ≡ take n (bytes_of_words front ++ bytes_of_words rest) =
    ap (λ m. take n (bytes_of_words (words_from image from m))) sum ∙ ap (λ (ws : List ℕ). take n (bytes_of_words ws)) (words_from_both image from a c)
    ∙ ap (take n) (flat_map-append (little_bytes 8) front rest) in
    ap (λ (ws : List ℕ). take count (bytes_of_words ws)) same
    ∙ sym (ap (take count) value ∙ take-take count n (bytes_of_words front ++ bytes_of_words rest) few
    ∙ take-append-le count (bytes_of_words front) (bytes_of_words rest) (omega arith))

-- the value's first bytes stand in front of what was there
answered : (n c : ℕ) (old value mid : List ℕ) → length value ≡ n → c ≡ min n (length old) → mid ≡ take c value
    → mid ++ drop c old ≡ take (length old) value ++ drop n old
answered n c old value mid long least is = elim (cases_lt n (length old)) as (λ _. mid ++ drop c old ≡ take (length old) value ++ drop n old) [
  | inl less ↦
      let e : c ≡ n = omega arith in
      let front : mid ≡ take (length old) value = is ∙ take_all c value (omega arith) ∙ sym (take_all (length old) value (omega arith)) in
      ap (λ (a : List ℕ). a ++ drop c old) front ∙ ap (λ m. take (length old) value ++ drop m old) e
  | inr past ↦
      let e : c ≡ length old = omega arith in
      let behind : drop c old ≡ drop n old = drop_all c old (omega arith) ∙ sym (drop_all n old (omega arith)) in
      ap (λ (a : List ℕ). a ++ drop c old) (is ∙ ap (λ m. take m value) e) ∙ ap (λ (a : List ℕ). take (length old) value ++ a) behind
]

-- the length of a node's value was loaded
module _ (b : Block) (n : ℕ) (v u : View) (held : Contains v.held b) (room : 3 ≤ b.words) (keeps : KeepsOwn v u)
    (loads : Loads (b.first_word + 2) n v u) where
  length_own : IsOwn u.held u.roots (b.first_word + 2)
  length_own = in_block b (b.first_word + 2) (stays_held v u keeps.held b held) (record { from = omega arith; until = omega arith })

  pub node_fits : (shard bucket : ℕ) → ((image : Image) → Completes v image → IsNode image shard bucket b) → (3 + value_words n ≤ b.words)
      × (n ≤ largest_value)
  node_fits shard bucket node =
      let image = now_image u in
      let is = node image (completes_before v u image (grown_keeps v u keeps) (now_completes u)) in
      let fits = is.fits in
      let short = is.short in
      let e : image (b.first_word + 2) ≡ n = (now_completes u).seen (b.first_word + 2) n length_own loads.seen in
      (omega arith, omega arith)

  module _ (w : View) (keeps' : KeepsOwn u w) where
    length_is : (image : Image) → Completes w image → length_in image b ≡ n
    length_is image completes = (completes_before u w image (grown_keeps u w keeps') completes).seen (b.first_word + 2) n length_own loads.seen

    pub quiet_read : (k : ℕ) → k ≤ value_words n → IsQuiet 1 v u → IsQuiet k u w → IsQuietRead b v w
    quiet_read k few quiet more = record {
      small = 1 + k;
      quiet = quiet_then 1 k (1 + k) v u w (omega arith) quiet more;
      few = λ image completes. let e = length_is image completes in let long = value_length image b in omega arith;
    }

    -- and then its first words
    pub value_read : (c : ℕ) (old mid : List ℕ) → 3 + value_words n ≤ b.words → c ≡ min n (length old) → ReadsWords b (take c old) mid u w
        → ReadsValue b n old (mid ++ drop c old) v w
    value_read c old mid fits least reads = record {
      runs = elim reads.done as (λ _. Runs v w) [
        | inl still ↦ subst (λ (s : View). Runs v s) (sym still) loads.runs
        | inr runs ↦ runs_then v u w loads.runs runs
      ];
      is = λ image completes.
          let length_e : length_in image b ≡ n = length_is image completes in
          let long : length (value_in image b) ≡ n = value_length image b ∙ length_e in
          let cut : length (take c old) ≡ c = length-take-le c old (omega arith) in
          let words : List ℕ = reads.read.words in
          let many : length words ≡ value_words c = reads.read.count_is ∙ ap value_words cut in
          let front : take c (bytes_of_words words) ≡ take c (value_in image b) = value_front image b words c (omega arith) many
          (λ i less.
          completes.seen (b.first_word + (3 + i)) (slice_index words i)
          (in_block b (b.first_word + (3 + i)) (stays_held u w keeps'.held b (stays_held v u keeps.held b held))
          (record { from = omega arith; until = omega arith }))
          (reads.read.seen i (omega arith))) in
          let none : drop (8 * value_words (length (take c old))) (take c old) ≡ [] =
          drop_all (8 * value_words (length (take c old))) (take c old) (omega arith) in
          let mid_is : mid ≡ take c (value_in image b) =
          reads.read.bytes ∙ ap (λ (a : List ℕ). take (length (take c old)) (bytes_of_words words) ++ a) none
          ∙ append-nil (take (length (take c old)) (bytes_of_words words))
          ∙ ap (λ m. take m (bytes_of_words words)) cut ∙ front in (
            ap (λ m. Some m) (sym long),
            answered n c old (value_in image b) mid long least mid_is ∙ ap (λ m. take (length old) (value_in image b) ++ drop m old) (sym long),
          );
    }
