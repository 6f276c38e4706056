-- What clap's matches say of the command that is asked for.
use Rattle.std.proofs.Common.{◌≡◌, ◌<◌, ◌^◌, ◌∙◌, ℕ, Bool, List, [], ◌∷◌, length, String, Option, Some, None, Result, Ok, Err, IfOk, codes, refl, sym, ap, subst, arith}
use Rattle.std.specs.Prelude.{IsOkAnd, slice_get, unwrap_or}
use Rattle.std.specs.declared.alloc.Global.{Global}
use Rattle.std.specs.Str.Parse.{ParsesUnsigned}
use Rattle.clap.specs.Words.{App, app_of, ReadsOne, first_of, one_text, first_value, rows_of, found_of, fault_of, matches_of}
use Rattle.clap.specs.declared.builder.command.Command.{Command}
use Rattle.clap.specs.declared.parser.matches.ArgMatches.{ArgMatches}
use Rattle.clap.specs.declared.parser.matches.Found.{Found}
use Rattle.clap.proofs.WalkLemmas.{one_text-rows, first_value-rows}
use Rattle.tool_command.specs.Command.{format_image, show_image, drain_image, gen_trace, run_image, rebuild_image, replay_image, conservative_image, count_image, texts, AsksToFormat, AsksToShow, AsksToDrain, AsksToGen, AsksToRun, AsksToRebuild, AsksToReplay, AsksToRecoverConservatively, AsksToCount, IsUsage}
use Rattle.image_run.specs.Running.{Options}
use Rattle.tool_command.proofs.OneCommandLemmas.{first_word, letters, one_text_given, one_number, one_number_or, one_flag}
use Rattle.tool_command.specs.CommandLine.{IsTaken, IsMatchedBy, HasText, HasNumber, HasNumberOr, HasFlag}

-- the text of an argument stands in its row
pub text_in_rows : (f : Found) (id : List ℕ) → first_value f id ≡ first_of id (rows_of f)
text_in_rows f id = first_value-rows f id

module _ (E : Type 0) (G : List ℕ → Result ℕ E → Type 0) (only : (u : List ℕ) (x : Result ℕ E) → G u x → ParsesUnsigned 64 10 u x)
    (found : Found) (id : List ℕ) (result : Option ℕ)
    (none : one_text found id ≡ None → result ≡ None) (value : (t : List ℕ) → one_text found id ≡ Some t → ReadsOne G t result) where
  -- a number that is read is the argument's
  pub has_number : (n : ℕ) → result ≡ Some n → HasNumber (rows_of found) id n
  has_number n is = go (one_text found id) refl
    where
      go : (o : Option (List ℕ)) → one_text found id ≡ o → HasNumber (rows_of found) id n
      go None e =
          let bad : None ≡ Some n = sym (none e) ∙ is in
          cc
      go (Some text) e =
          let read : ReadsOne G text (Some n) = rw is at (value text e) in
          let parsed = only text (Ok n) read in
          record {
            text = text;
            given = sym (one_text-rows found id) ∙ e;
            counted = record { digits = parsed.0.0; value = sym parsed.1 };
          }

  -- an argument's number that fits is read
  pub number_read : (n : ℕ) → HasNumber (rows_of found) id n → n < 2 ^ 64 → result ≡ Some n
  number_read n has fits = go result refl
    where
      text_is : one_text found id ≡ Some has.text
      text_is = one_text-rows found id ∙ has.given

      go : (r : Option ℕ) → result ≡ r → result ≡ Some n
      go None e =
          let read : ReadsOne G has.text None = rw e at (value has.text text_is) in
          absurd (only has.text (Err read.0) read.1 (has.counted.digits, rw has.counted.value fits))
      go (Some m) e =
          let read : ReadsOne G has.text (Some m) = rw e at (value has.text text_is) in
          e ∙ ap (λ (k : ℕ). Some k) ((only has.text (Ok m) read).1 ∙ has.counted.value)

-- words that a command matches, which is told as this one, and which name it, are taken as its words
pub taken_as : {E : Type 0} (wanted : App) (words : List (List ℕ)) (m : ArgMatches) (command : Result Command E)
    → IsOkAnd command (λ c. IsMatchedBy (app_of c) words m)
    → IfOk command (λ c. app_of c ≡ wanted) → slice_get words 0 ≡ Some wanted.top.name → IsTaken wanted words × IsMatchedBy wanted words m
taken_as wanted words m (Ok command) matched is first =
    let same : IsMatchedBy wanted words m = subst (λ (a : App). IsMatchedBy a words m) is matched in
    (record { named = first; faultless = same.faultless }, same)
taken_as wanted words m (Err e) matched is first = absurd matched

-- and those in which it finds a fault are at fault as its words
pub faulty_as : {E : Type 0} (wanted : App) (words : List (List ℕ)) (command : Result Command E)
    → IsOkAnd command (λ c. fault_of (app_of c) words ≡ [] → ⊥)
    → IfOk command (λ c. app_of c ≡ wanted) → fault_of wanted words ≡ [] → ⊥
faulty_as wanted words (Ok command) faulty is none = faulty (ap (λ (a : App). fault_of a words) is ∙ none)
faulty_as wanted words (Err e) faulty is none = absurd faulty

-- what holds of the command that is wanted holds of the one that is told as it
pub told_has : {E : Type 0} (wanted : App) (P : App → Type 0) (command : Result Command E) → IfOk command (λ c. app_of c ≡ wanted) → P wanted
    → IfOk command (λ c. P (app_of c))
told_has wanted P (Ok command) is has = subst P (sym is) has
told_has wanted P (Err e) is has = tt

-- what is read of the matches is what the words have
module _ (app : App) (words : List (List ℕ)) (m : ArgMatches) (matched : IsMatchedBy app words m) where
  pub text_is : (id text other : List ℕ) → HasText (rows_of (found_of m)) id text → HasText (matches_of app words) id other → text ≡ other
  text_is id text other read has = one_text_given (matches_of app words) id text other (rw (← matched.rows_are) read) has

  pub number_is : (id : List ℕ) (n k : ℕ) → HasNumber (rows_of (found_of m)) id n → HasNumber (matches_of app words) id k → n ≡ k
  number_is id n k read has = one_number (matches_of app words) id n k (rw (← matched.rows_are) read) has

  pub number_or_is : (id : List ℕ) (other n k : ℕ) → HasNumberOr (rows_of (found_of m)) id other n
      → HasNumberOr (matches_of app words) id other k → n ≡ k
  number_or_is id other n k read has = one_number_or (matches_of app words) id other n k (rw (← matched.rows_are) read) has

  pub flag_is : (id : List ℕ) (a b : Bool) → HasFlag (rows_of (found_of m)) id a → HasFlag (matches_of app words) id b → a ≡ b
  flag_is id a b read has = one_flag (matches_of app words) id a b (rw (← matched.rows_are) read) has

-- one first word
other_name : (words : List (List ℕ)) (a b : List ℕ) → slice_get words 0 ≡ Some a → slice_get words 0 ≡ Some b → (a ≡ b → ⊥) → ⊥
other_name words a b first second differ = differ (ap (λ o. unwrap_or o a) (sym first ∙ second))

first_letters : (a b : List ℕ) → a ≡ b → letters a ≡ letters b
first_letters a b same = ap letters same

-- the first word names one command alone
pub usage_format : (words : List (List ℕ)) → slice_get words 0 ≡ Some (codes "format")
    → ((image : List ℕ) (n : ℕ) → AsksToFormat words image n → ⊥) → IsUsage words
usage_format words first none (format_image image n) asks = none image n asks
usage_format words first none other asks = other_name words _ _ first (first_word words other asks) (λ e. omega (arith, first_letters _ _ e))

pub usage_show : (words : List (List ℕ)) → slice_get words 0 ≡ Some (codes "show")
    → ((image : List ℕ) (with_map in_parallel : Bool) → AsksToShow words image with_map in_parallel → ⊥) → IsUsage words
usage_show words first none (show_image image with_map in_parallel) asks = none image with_map in_parallel asks
usage_show words first none other asks = other_name words _ _ first (first_word words other asks) (λ e. omega (arith, first_letters _ _ e))

pub usage_drain : (words : List (List ℕ)) → slice_get words 0 ≡ Some (codes "drain")
    → ((image : List ℕ) (n : ℕ) → AsksToDrain words image n → ⊥) → IsUsage words
usage_drain words first none (drain_image image n) asks = none image n asks
usage_drain words first none other asks = other_name words _ _ first (first_word words other asks) (λ e. omega (arith, first_letters _ _ e))

pub usage_gen : (words : List (List ℕ)) → slice_get words 0 ≡ Some (codes "gen")
    → ((requests seed : ℕ) → AsksToGen words requests seed → ⊥) → IsUsage words
usage_gen words first none (gen_trace requests seed) asks = none requests seed asks
usage_gen words first none other asks = other_name words _ _ first (first_word words other asks) (λ e. omega (arith, first_letters _ _ e))

pub usage_run : (words : List (List ℕ)) → slice_get words 0 ≡ Some (codes "run")
    → ((image : List ℕ) (options : Options) → AsksToRun words image options → ⊥) → IsUsage words
usage_run words first none (run_image image options) asks = none image options asks
usage_run words first none other asks = other_name words _ _ first (first_word words other asks) (λ e. omega (arith, first_letters _ _ e))

pub usage_rebuild : (words : List (List ℕ)) → slice_get words 0 ≡ Some (codes "rebuild")
    → ((image : List ℕ) (budget seed : ℕ) → AsksToRebuild words image budget seed → ⊥) → IsUsage words
usage_rebuild words first none (rebuild_image image budget seed) asks = none image budget seed asks
usage_rebuild words first none other asks = other_name words _ _ first (first_word words other asks) (λ e. omega (arith, first_letters _ _ e))

pub usage_replay : (words : List (List ℕ)) → slice_get words 0 ≡ Some (codes "replay")
    → ((image : List ℕ) (seed : ℕ) → AsksToReplay words image seed → ⊥) → IsUsage words
usage_replay words first none (replay_image image seed) asks = none image seed asks
usage_replay words first none other asks = other_name words _ _ first (first_word words other asks) (λ e. omega (arith, first_letters _ _ e))

pub usage_conservative : (words : List (List ℕ)) → slice_get words 0 ≡ Some (codes "conservative")
    → ((image : List ℕ) (with_map : Bool) → AsksToRecoverConservatively words image with_map → ⊥) → IsUsage words
usage_conservative words first none (conservative_image image with_map) asks = none image with_map asks
usage_conservative words first none other asks = other_name words _ _ first (first_word words other asks) (λ e. omega (arith, first_letters _ _ e))

pub usage_count : (words : List (List ℕ)) → slice_get words 0 ≡ Some (codes "count")
    → ((image : List ℕ) (with_map : Bool) → AsksToCount words image with_map → ⊥) → IsUsage words
usage_count words first none (count_image image with_map) asks = none image with_map asks
usage_count words first none other asks = other_name words _ _ first (first_word words other asks) (λ e. omega (arith, first_letters _ _ e))

-- a word that names no command asks for none
pub usage_other : (words : List (List ℕ)) (word : List ℕ) → slice_get words 0 ≡ Some word
    → (word ≡ codes "format" → ⊥) → (word ≡ codes "show" → ⊥) → (word ≡ codes "drain" → ⊥) → (word ≡ codes "gen" → ⊥) → (word ≡ codes "run" → ⊥)
    → (word ≡ codes "rebuild" → ⊥) → (word ≡ codes "replay" → ⊥) → (word ≡ codes "conservative" → ⊥) → (word ≡ codes "count" → ⊥) → IsUsage words
usage_other words word first format show drain gen run rebuild replay conservative count (format_image image n) asks =
    other_name words _ _ first asks.taken.named format
usage_other words word first format show drain gen run rebuild replay conservative count (show_image image with_map in_parallel) asks =
    other_name words _ _ first asks.taken.named show
usage_other words word first format show drain gen run rebuild replay conservative count (drain_image image n) asks =
    other_name words _ _ first asks.taken.named drain
usage_other words word first format show drain gen run rebuild replay conservative count (gen_trace requests seed) asks =
    other_name words _ _ first asks.taken.named gen
usage_other words word first format show drain gen run rebuild replay conservative count (run_image image options) asks =
    other_name words _ _ first asks.taken.named run
usage_other words word first format show drain gen run rebuild replay conservative count (rebuild_image image budget seed) asks =
    other_name words _ _ first asks.taken.named rebuild
usage_other words word first format show drain gen run rebuild replay conservative count (replay_image image seed) asks =
    other_name words _ _ first asks.taken.named replay
usage_other words word first format show drain gen run rebuild replay conservative count (conservative_image image with_map) asks =
    other_name words _ _ first asks.taken.named conservative
usage_other words word first format show drain gen run rebuild replay conservative count (count_image image with_map) asks =
    other_name words _ _ first asks.taken.named count

no_name : (words : List (List ℕ)) (name : List ℕ) → words ≡ [] → slice_get words 0 ≡ Some name → ⊥
no_name words name none first =
    let bad : None ≡ Some name = sym (ap (λ ws. slice_get ws 0) none) ∙ first in
    cc

-- no words have no texts
pub no_texts : (words : List (String Global)) → length words < 1 → texts words ≡ []
no_texts [] none = refl
no_texts (word ∷ rest) none = absurd (omega arith)

-- nor do no words
pub usage_none : (words : List (List ℕ)) → words ≡ [] → IsUsage words
usage_none words none command asks = no_name words _ none (first_word words command asks)
