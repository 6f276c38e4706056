-- What the crate clap is told of each command, and what it makes of the words.
use Rattle.std.specs.Prelude.{◌≡◌, ◌↔◌, ◌⊎◌, ℕ, ◌-◌, ◌^◌, Bool, true, List, [], codes, slice_get, None, Some}
use Rattle.std.specs.Str.Parse.{IsNumeral, digits_value, without_leading_plus}
use Rattle.clap.specs.Words.{App, Rule, Row, new_app, new_rule, with_rule, matches_of, first_of, one_of, rows_of, found_of, fault_of}
use Rattle.clap.specs.declared.builder.value_parser.ValueParser.TheVariants as parser
use Rattle.clap.specs.declared.builder.action.ArgAction.TheVariants.{SetTrue}
use Rattle.clap.specs.declared.parser.matches.ArgMatches.{ArgMatches}
use Rattle.super_block.specs.declared.layout.TheConstants.{LARGEST_CAPACITY, LAST_CLASS}
use Rattle.image_run.specs.declared.options.TheConstants.{MOST_WORKERS, MOST_BUDGET}
use Rattle.tool_command.specs.declared.trace_plan.TheConstants.{MOST_REQUESTS, GREATEST_SEED}

-- the names of the arguments: the image's file
abbrev pub image_id : List ℕ
image_id = codes "IMAGE"

-- how many superblocks the image is to have
abbrev pub capacity_id : List ℕ
capacity_id = codes "S"

-- the class that is drained
abbrev pub class_id : List ℕ
class_id = codes "CLASS"

-- whether the heap is to be mapped
abbrev pub map_id : List ℕ
map_id = codes "map"

-- how many requests the trace is to have
abbrev pub requests_id : List ℕ
requests_id = codes "N"

-- the seed that the trace is made by
abbrev pub trace_seed_id : List ℕ
trace_seed_id = codes "SEED"

-- how many workers run the trace
abbrev pub workers_id : List ℕ
workers_id = codes "workers"

-- the budget, behind whose last ticket the run stops
abbrev pub stop_id : List ℕ
stop_id = codes "stop"

-- the seed that its chances begin with
abbrev pub seed_id : List ℕ
seed_id = codes "seed"

-- whether a checksum of the replies is to stand for them
abbrev pub sum_id : List ℕ
sum_id = codes "sum"

-- whether the heap is recovered by several threads
abbrev pub par_id : List ℕ
par_id = codes "par"

-- a word that has to be there
abbrev pub word_rule : List ℕ → Rule
word_rule id = record (new_rule id) { required = true }

-- a number of these bounds that has to be there
abbrev pub number_rule : List ℕ → ℕ → ℕ → Rule
number_rule id least most = record (new_rule id) { required = true; parser = Some (parser.Unsigned least most) }

-- an option with a number of these bounds
abbrev pub option_rule : List ℕ → ℕ → ℕ → Rule
option_rule id least most = record (new_rule id) { long = Some id; parser = Some (parser.Unsigned least most) }

-- one that has to be there
abbrev pub needed_option_rule : List ℕ → ℕ → ℕ → Rule
needed_option_rule id least most = record (option_rule id least most) { required = true }

-- an option without a value
abbrev pub flag_rule : List ℕ → Rule
flag_rule id = record (new_rule id) { long = Some id; action = Some SetTrue }

-- 'format IMAGE S'
abbrev pub format_app : App
format_app = with_rule (with_rule (new_app (codes "format")) (word_rule image_id)) (number_rule capacity_id 1 LARGEST_CAPACITY)

-- 'show IMAGE [--map] [--par]'
abbrev pub show_app : App
show_app = with_rule (with_rule (with_rule (new_app (codes "show")) (word_rule image_id)) (flag_rule map_id)) (flag_rule par_id)

-- 'drain IMAGE CLASS'
abbrev pub drain_app : App
drain_app = with_rule (with_rule (new_app (codes "drain")) (word_rule image_id)) (number_rule class_id 1 LAST_CLASS)

-- 'gen N SEED'
abbrev pub gen_app : App
gen_app = with_rule (with_rule (new_app (codes "gen")) (number_rule requests_id 0 MOST_REQUESTS))
    (number_rule trace_seed_id 0 GREATEST_SEED)

-- 'run IMAGE --workers N'
abbrev pub plain_run_app : App
plain_run_app = with_rule (with_rule (new_app (codes "run")) (word_rule image_id)) (needed_option_rule workers_id 1 MOST_WORKERS)

-- a command with the options '[--stop K] [--seed X]'
abbrev pub with_limits : App → App
with_limits app = with_rule (with_rule app (option_rule stop_id 0 MOST_BUDGET)) (option_rule seed_id 0 (2 ^ 64 - 1))

-- 'run IMAGE --workers N [--stop K] [--seed X] [--sum] [--map]'
abbrev pub run_app : App
run_app = with_rule (with_rule (with_limits plain_run_app) (flag_rule sum_id)) (flag_rule map_id)

-- 'rebuild IMAGE [--stop K] [--seed X]'
abbrev pub rebuild_app : App
rebuild_app = with_limits (with_rule (new_app (codes "rebuild")) (word_rule image_id))

-- 'replay IMAGE [--seed X]'
abbrev pub replay_app : App
replay_app = with_rule (with_rule (new_app (codes "replay")) (word_rule image_id)) (option_rule seed_id 0 (2 ^ 64 - 1))

-- 'conservative IMAGE [--map]'
abbrev pub conservative_app : App
conservative_app = with_rule (with_rule (new_app (codes "conservative")) (word_rule image_id)) (flag_rule map_id)

-- 'count IMAGE [--map]'
abbrev pub count_app : App
count_app = with_rule (with_rule (new_app (codes "count")) (word_rule image_id)) (flag_rule map_id)

-- the first word names the command, and clap finds no fault in the words behind it
pub record IsTaken (app : App) (words : List (List ℕ)) : Type 0 where
  pub named : slice_get words 0 ≡ Some app.top.name
  pub faultless : fault_of app words ≡ []

-- clap took the words as those of this command, and these are its matches
pub record IsMatchedBy (app : App) (words : List (List ℕ)) (matches : ArgMatches) : Type 0 where
  pub faultless : fault_of app words ≡ []
  pub rows_are : rows_of (found_of matches) ≡ matches_of app words

-- decimal digits, with a plus sign before them or none, which write the number
pub record IsNumber (word : List ℕ) (number : ℕ) : Type 0 where
  pub digits : IsNumeral 10 (without_leading_plus word)
  pub value : digits_value 10 (without_leading_plus word) ≡ number

-- this text was given for the argument
abbrev pub HasText : List Row → List ℕ → List ℕ → Type 0
HasText rows id text = first_of id rows ≡ Some text

-- this number was given for the argument
pub record HasNumber (rows : List Row) (id : List ℕ) (number : ℕ) : Type 0 where
  pub text : List ℕ
  pub given : one_of id rows ≡ Some text
  pub counted : IsNumber text number

-- this number was given for the argument, or it wasn't given and this is the number that it then stands for
abbrev pub HasNumberOr : List Row → List ℕ → ℕ → ℕ → Type 0
HasNumberOr rows id other number = HasNumber rows id number ⊎ ((first_of id rows ≡ None) × (number ≡ other))

-- whether the option was given
abbrev pub HasFlag : List Row → List ℕ → Bool → Type 0
HasFlag rows id flag = (flag ≡ true) ↔ (first_of id rows ≡ Some (codes "true"))
