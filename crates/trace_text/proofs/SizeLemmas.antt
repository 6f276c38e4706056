-- Blocks are counted in runs as they are one by one.
use Rattle.std.proofs.Common.{◌≡◌, ◌≢◌, ℕ, ◌+◌, ◌<◌, ◌≤◌, ◌==◌, Bool, true, false, cond, List, [], ◌∷◌, ◌++◌, length, get_or, take, refl, sym, ap, ◌∙◌, arith}
use Rattle.std.proofs.lemmas.List.Sums.{sum_by_push, sum_by_more}
use Rattle.heap_model.specs.declared.block.Block.{Block}
use Rattle.trace_text.specs.declared.sizes.SizeRun.{SizeRun}
use Rattle.trace_text.specs.Report.{count_of}
use Rattle.trace_text.specs.Sizes.{counted_in}

-- what a run has of so many words
abbrev pub in_run : ℕ → SizeRun → ℕ
in_run words run = cond (run.words == words) run.count 0

-- the runs, and the one that goes on, have as many blocks of each size as the blocks up to here
pub record CountsUpTo (blocks : List Block) (i : ℕ) (runs : List SizeRun) (run : SizeRun) : Type 0 where
  pub alike : (words : ℕ) → counted_in words runs + in_run words run ≡ count_of words (take i blocks)
  pub few : run.count ≤ i

pub none_yet : (blocks : List Block) → CountsUpTo blocks 0 [] (record { words = 0; count = 0 })
none_yet blocks = record { alike = λ words. both (0 == words); few = omega arith } where
  both : (b : Bool) → 0 + cond b 0 0 ≡ 0
  both true = refl
  both false = refl

-- one block more in a run of its size
one_longer : (b : Bool) (count : ℕ) → cond b (count + 1) 0 ≡ cond b count 0 + cond b 1 0
one_longer true count = refl
one_longer false count = refl

alone : (b : Bool) → cond b (0 + 1) 0 ≡ cond b 1 0
alone true = refl
alone false = refl

counted_more : (blocks : List Block) (i words : ℕ) (d : Block) → i < length blocks
    → count_of words (take (i + 1) blocks) ≡ count_of words (take i blocks) + cond ((get_or blocks i d).words == words) 1 0
counted_more blocks i words d less = sum_by_more (λ (b : Block). cond (b.words == words) 1 0) blocks i d less

pub run_goes_on : (blocks : List Block) (i : ℕ) (d : Block) (runs : List SizeRun) (run : SizeRun) → i < length blocks → CountsUpTo blocks i runs run
    → (get_or blocks i d).words ≡ run.words → CountsUpTo blocks (i + 1) runs (record run { count = run.count + 1 })
run_goes_on blocks i d runs run less counts same = record {
  alike = λ words.
      let before = counts.alike words in
      let more = counted_more blocks i words d less in
      let longer = one_longer (run.words == words) run.count in
      let one : ◌≡◌ {A = ℕ} (cond ((get_or blocks i d).words == words) 1 0) (cond (run.words == words) 1 0) = ap (λ n. cond (n == words) 1 0) same in
      omega (arith, before, more, longer, one);
  few = let few = counts.few in omega arith;
}

pub run_begins : (blocks : List Block) (i : ℕ) (d : Block) (runs : List SizeRun) (run : SizeRun) → i < length blocks → CountsUpTo blocks i runs run
    → CountsUpTo blocks (i + 1) (runs ++ run ∷ []) (record { words = (get_or blocks i d).words; count = 0 + 1 })
run_begins blocks i d runs run less counts = record {
  alike = λ words.
      let before = counts.alike words in
      let more = counted_more blocks i words d less in
      let pushed : counted_in words (runs ++ run ∷ []) ≡ counted_in words runs + in_run words run = sum_by_push (in_run words) runs run in
      let one = alone ((get_or blocks i d).words == words) in
      omega (arith, before, more, pushed, one);
  few = omega arith;
}
