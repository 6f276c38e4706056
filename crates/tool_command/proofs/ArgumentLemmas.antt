-- The numbers, flags and names of a command's arguments, in words that clap takes, with the bounds of the numbers.
use Rattle.std.proofs.Common.{◌≡◌, ◌↔◌, ◌≤◌, ◌<◌, ◌^◌, ℕ, Bool, true, false, List, [], Option, Some, None, codes, refl, sym, ap, subst, inl, inr, true≢false}
use Rattle.std.specs.Prelude.{slice_get, unwrap_or}
use Rattle.std.specs.Option.{option_map_or}
use Rattle.std.specs.Str.{bytes_eq}
use Rattle.std.specs.Str.Parse.{digits_value, without_leading_plus}
use Rattle.std.proofs.lemmas.Slice.Eq.{bytes_eq-Decides}
use Rattle.clap.specs.Values.{Accepts, read_as, reading_of}
use Rattle.clap.specs.ValueTests.{accepts}
use Rattle.clap.proofs.ValueTestLemmas.{accepts-Accepts}
use Rattle.clap.specs.Facts.{parser_of_value}
use Rattle.clap.specs.Walk.{Text, Rule, Row, first_of, one_of}
use Rattle.clap.specs.Simple.{App, built, filled}
use Rattle.clap.specs.Words.{fault_of, matches_of}
use Rattle.clap.specs.declared.builder.value_parser.ValueParser.{ValueParser}
use Rattle.clap.specs.declared.builder.value_parser.ValueParser.TheVariants as parser
use Rattle.tool_command.specs.CommandLine.{image_id, option_rule, needed_option_rule, HasNumber, HasNumberOr, HasFlag, HasText}
use Rattle.tool_command.proofs.WrittenLemmas.{image_rule, number_at}
use Rattle.tool_command.proofs.PassingLemmas.{AllPass, IsValued}
use Rattle.tool_command.proofs.GivenLemmas.{IsGiven, OthersDiffer, all_pass, given_or_not, required_given}

-- ---- numbers and flags

-- a number within these bounds
pub record InBounds (Has : ℕ → Type 0) (least most : ℕ) : Type 0 where
  pub number : ℕ
  pub has : Has number
  pub low : least ≤ number
  pub high : number ≤ most
  pub fits : number < 2 ^ 64

-- an argument whose number has these bounds
abbrev IsNumbered : Rule → ℕ → ℕ → Type 0
IsNumbered a least most = a.parser ≡ Some (parser.Unsigned least most)

number_in_bounds : (a : Rule) (least most : ℕ) (rows : List Row) → IsNumbered a least most → IsGiven a rows → InBounds (HasNumber rows a.id) least most
number_in_bounds a least most rows is given =
    let reads : one_of a.id rows ≡ Some given.text = subst (λ (o : Option ValueParser). one_of a.id rows ≡ Some
    (read_as (reading_of (parser_of_value o)) given.text)) is given.read in
    let accepted = subst (λ (o : Option ValueParser). accepts a.ignore_case (parser_of_value o) given.text ≡ true) is given.accepted in
    let passes : Accepts a.ignore_case (parser.Unsigned least most) given.text =
    accepts-Accepts a.ignore_case (parser.Unsigned least most) given.text accepted in
    record {
      number = digits_value 10 (without_leading_plus given.text);
      has = record { text = given.text; given = reads; counted = record { digits = passes.0; value = refl } };
      low = passes.2;
      high = passes.3;
      fits = passes.1;
    }

number_or_other : (a : Rule) (other least most : ℕ) (rows : List Row) → IsNumbered a least most → least ≤ other → other ≤ most → other < 2 ^ 64
    → AllPass a rows
    → InBounds (HasNumberOr rows a.id other) least most
number_or_other a other least most rows is low high fits pass = elim (given_or_not a rows pass) [
  | inl given ↦
      let n = number_in_bounds a least most rows is given in
      record { number = n.number; has = inl n.has; low = n.low; high = n.high; fits = n.fits }
  | inr absent ↦ record { number = other; has = inr (absent, refl); low = low; high = high; fits = fits }
]

-- whether the words set a flag
abbrev pub flag_in : Text → List Row → Bool
flag_in id rows = option_map_or (λ text. bytes_eq text (codes "true")) (first_of id rows) false

pub has_flag_in : (rows : List Row) (id : Text) → HasFlag rows id (flag_in id rows)
has_flag_in rows id = go (first_of id rows)
  where
    go : (o : Option Text) → (option_map_or (λ text. bytes_eq text (codes "true")) o false ≡ true) ↔ (o ≡ Some (codes "true"))
    go None = (λ e. absurd (true≢false (sym e)), λ e. cc)
    go (Some text) = (
      λ e. ap (λ t. Some t) ((bytes_eq-Decides text (codes "true")).0 e),
      λ e. (bytes_eq-Decides text (codes "true")).1 (ap (λ o. unwrap_or o text) e),
    )

-- ---- the arguments of the commands

image_valued : IsValued image_rule
image_valued = record { set = refl; least = refl; no_default = refl }

number_valued : (position : ℕ) (id : Text) (least most : ℕ) → IsValued (number_at position id least most)
number_valued position id least most = record { set = refl; least = refl; no_default = refl }

option_valued : (id : Text) (least most : ℕ) → IsValued (filled (option_rule id least most))
option_valued id least most = record { set = refl; least = refl; no_default = refl }

needed_option_valued : (id : Text) (least most : ℕ) → IsValued (filled (needed_option_rule id least most))
needed_option_valued id least most = record { set = refl; least = refl; no_default = refl }

module _ (app : App) (words : List Text) (faultless : fault_of app words ≡ []) where
  pub image_given : slice_get (built app).top.rules 0 ≡ Some image_rule → OthersDiffer app image_id 0 → (built app).top.subcommand_negates_reqs ≡ false
      → (image : Text) × HasText (matches_of app words) image_id image
  image_given here others negates =
      let given = required_given app words image_rule 0 (record { valued = image_valued; here = here; others = others }) faultless refl negates in
      (given.text, given.first)

  pub number_given : (place position : ℕ) (id : Text) (least most : ℕ)
      → slice_get (built app).top.rules place ≡ Some (number_at position id least most) → OthersDiffer app id place
      → (built app).top.subcommand_negates_reqs ≡ false → InBounds (HasNumber (matches_of app words) id) least most
  number_given place position id least most here others negates =
      let a = number_at position id least most in
      number_in_bounds a least most (matches_of app words) refl
      (required_given app words a place (record { valued = number_valued position id least most; here = here; others = others }) faultless refl negates)

  pub needed_option_given : (place : ℕ) (id : Text) (least most : ℕ) → slice_get (built app).top.rules place ≡ Some
      (filled (needed_option_rule id least most)) → OthersDiffer app id place
      → (built app).top.subcommand_negates_reqs ≡ false → InBounds (HasNumber (matches_of app words) id) least most
  needed_option_given place id least most here others negates =
      let a = filled (needed_option_rule id least most) in
      number_in_bounds a least most (matches_of app words) refl
      (required_given app words a place (record { valued = needed_option_valued id least most; here = here; others = others }) faultless refl negates)

  pub option_given_or : (place : ℕ) (id : Text) (other least most : ℕ)
      → slice_get (built app).top.rules place ≡ Some (filled (option_rule id least most)) → OthersDiffer app id place
      → least ≤ other → other ≤ most → other < 2 ^ 64 → InBounds (HasNumberOr (matches_of app words) id other) least most
  option_given_or place id other least most here others low high fits =
      let a = filled (option_rule id least most) in
      number_or_other a other least most (matches_of app words) refl low high fits
      (all_pass app words a place (record { valued = option_valued id least most; here = here; others = others }) faultless)
