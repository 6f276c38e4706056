-- What was given for an argument of a command, in words that clap takes: a text that passes the argument's parser.
use Rattle.std.proofs.Common.{◌≡◌, ◌∙◌, ◌⊎◌, ◌&&◌, ◌||◌, ◌++◌, ℕ, zero, suc, Bool, true, false, not, cond, List, [], ◌∷◌, Option, Some, None, refl, sym, ap, subst, take, drop, is_some, inl, inr, true≢false}
use Rattle.std.specs.Prelude.{slice_get, unwrap_or}
use Rattle.std.specs.List.{find, list_any}
use Rattle.std.specs.Option.{option_map, option_map_or, option_and_then}
use Rattle.std.specs.Str.{bytes_eq}
use Rattle.clap.specs.Values.{read_as}
use Rattle.clap.specs.ValueTests.{accepts}
use Rattle.clap.specs.Facts.{explicit_source, parser_of_value}
use Rattle.clap.specs.Kinds.{Kinds, or_else, check_kinds}
use Rattle.clap.specs.Walk.{Text, Rule, Row, Walk, reading_by, row_text, first_of, one_of, walk, walk_from, nothing_held, settled, finished}
use Rattle.clap.specs.Simple.{App, Shape, built, names_of, entered, argument_words}
use Rattle.clap.specs.Takes.{is_given}
use Rattle.clap.specs.Words.{fault_of, matches_of}
use Rattle.clap.specs.Faults.{settle_fault, walk_fault, defaults_fault, check_fault, entered_fault}
use Rattle.tool_command.proofs.FaultlessLemmas.{settle_passes, walk_passes, defaults_pass}
use Rattle.tool_command.proofs.PassingLemmas.{AllPass, Passes, AllAlone, IsValued, both_faultless}

-- ---- an argument among those of a command

-- no argument at another place has the name
abbrev pub OthersDiffer : App → Text → ℕ → Type 0
OthersDiffer app id place = list_any (λ b. bytes_eq b.id id) (take place (built app).top.rules ++ drop (suc place) (built app).top.rules) ≡ false

-- the argument stands at this place, and no other has its name
pub record IsArgument (app : App) (a : Rule) (place : ℕ) : Type 0 where
  pub valued : IsValued a
  pub here : slice_get (built app).top.rules place ≡ Some a
  pub others : OthersDiffer app a.id place

neither : (b c : Bool) → (b || c) ≡ false → (b ≡ false) × (c ≡ false)
neither true c none = absurd (true≢false none)
neither false c none = (refl, none)

none_alone : (a : Rule) (c : List Rule) → list_any (λ b. bytes_eq b.id a.id) c ≡ false → AllAlone a c
none_alone a [] others = tt
none_alone a (b ∷ rest) others =
    let both = neither (bytes_eq b.id a.id) (list_any (λ b. bytes_eq b.id a.id) rest) others in
    (λ e. absurd (true≢false (sym e ∙ both.0)), none_alone a rest both.1)

alone_here : (a : Rule) (place : ℕ) (c : List Rule) → slice_get c place ≡ Some a
    → list_any (λ b. bytes_eq b.id a.id) (take place c ++ drop (suc place) c) ≡ false → AllAlone a c
alone_here a place [] here others = tt
alone_here a zero (b ∷ rest) here others = (λ e. ap (λ o. unwrap_or o b) here, none_alone a rest others)
alone_here a (suc place) (b ∷ rest) here others =
    let both = neither (bytes_eq b.id a.id) (list_any (λ b. bytes_eq b.id a.id) (take place rest ++ drop (suc place) rest)) others in
    (λ e. absurd (true≢false (sym e ∙ both.0)), alone_here a place rest here both.1)

-- what holds of no element does not hold of one
not_of : {X : Type 0} (q : X → Bool) (c : List X) (place : ℕ) (x : X) → slice_get c place ≡ Some x → list_any q c ≡ false → q x ≡ false
not_of q [] place x here none = cc
not_of q (y ∷ ys) zero x here none = subst (λ z. q z ≡ false) (ap (λ o. unwrap_or o y) here) (neither (q y) (list_any q ys) none).0
not_of q (y ∷ ys) (suc place) x here none = not_of q ys place x here (neither (q y) (list_any q ys) none).1

-- ---- what was given for it

-- a text was given for the argument, which passes its parser
pub record IsGiven (a : Rule) (rows : List Row) : Type 0 where
  pub text : Text
  pub first : first_of a.id rows ≡ Some text
  pub read : one_of a.id rows ≡ Some (read_as (reading_by a) text)
  pub accepted : accepts a.ignore_case (parser_of_value a.parser) text ≡ true

found_passes : (a : Rule) (rows : List Row) (r : Row) → AllPass a rows → find (λ r. bytes_eq r.id a.id) rows ≡ Some r → Passes a r.values r.reading
found_passes a [] r pass found = cc
found_passes a (x ∷ xs) r pass found = go (bytes_eq x.id a.id) refl found (found_passes a xs r pass.1)
  where
    go : (t : Bool) → bytes_eq x.id a.id ≡ t → cond t (Some x) (find (λ r. bytes_eq r.id a.id) xs) ≡ Some r
        → (find (λ r. bytes_eq r.id a.id) xs ≡ Some r → Passes a r.values r.reading) → Passes a r.values r.reading
    go true same e later = subst (λ (y : Row). Passes a y.values y.reading) (ap (λ o. unwrap_or o x) e) (pass.0 same)
    go false other e later = later e

row_given : (a : Rule) (rows : List Row) (r : Row) → AllPass a rows → find (λ r. bytes_eq r.id a.id) rows ≡ Some r → IsGiven a rows
row_given a rows r pass found =
    let passes = found_passes a rows r pass found in
    record {
      text = passes.0;
      first = ap (option_and_then (λ r. slice_get r.values 0)) found ∙ passes.1;
      read = ap (option_and_then row_text) found ∙ ap (option_map (read_as r.reading)) passes.1 ∙ ap (λ how. Some (read_as how passes.0)) passes.2;
      accepted = passes.3;
    }

pub given_or_not : (a : Rule) (rows : List Row) → AllPass a rows → IsGiven a rows ⊎ (first_of a.id rows ≡ None)
given_or_not a rows pass = go (find (λ r. bytes_eq r.id a.id) rows) refl
  where
    go : (o : Option Row) → find (λ r. bytes_eq r.id a.id) rows ≡ o → IsGiven a rows ⊎ (first_of a.id rows ≡ None)
    go None e = inr (ap (option_and_then (λ r. slice_get r.values 0)) e)
    go (Some r) e = inl (row_given a rows r pass e)

given_in_row : (a : Rule) (rows : List Row) → AllPass a rows → is_given a.id rows ≡ true → IsGiven a rows
given_in_row a rows pass given = go (find (λ r. bytes_eq r.id a.id) rows) refl
  where
    go : (o : Option Row) → find (λ r. bytes_eq r.id a.id) rows ≡ o → IsGiven a rows
    go None e = absurd (true≢false (sym given ∙ ap (λ o. option_map_or (λ r. explicit_source r.source) o false) e))
    go (Some r) e = row_given a rows r pass e

-- ---- a whole command line

none_missing : (help subcommand missing : Bool) → check_kinds help subcommand missing ≡ [] → missing ≡ false
none_missing true subcommand missing none = cc
none_missing false true missing none = cc
none_missing false false true none = cc
none_missing false false false none = refl

was_given : (required given : Bool) → required ≡ true → (required && not given) ≡ false → given ≡ true
was_given true true is none = refl
was_given true false is none = absurd (true≢false none)
was_given false given is none = absurd (true≢false (sym is))

module _ (app : App) (words : List Text) (a : Rule) (place : ℕ) (is : IsArgument app a place) (faultless : fault_of app words ≡ []) where
  abbrev s : Shape
  s = (built app).top

  abbrev rest : List Text
  rest = argument_words app words

  abbrev end : Walk
  end = walk s.rules (names_of (built app)) nothing_held rest

  abbrev walks : Kinds
  walks = walk_fault s (names_of (built app)) (walk_from nothing_held) rest

  abbrev below : Kinds
  below = entered_fault (built app) end.stopped

  abbrev settles : Kinds
  settles = settle_fault s.rules s.args_override_self end.held

  abbrev defaults : Kinds
  defaults = defaults_fault (settled s.rules end.held).rows s.rules

  abbrev checks : Kinds
  checks = check_fault s (finished s.rules end.held) (is_some (entered (built app) end.stopped))

  after_walk : (below ≡ []) × (or_else settles (or_else defaults checks) ≡ [])
  after_walk = both_faultless below (or_else settles (or_else defaults checks))
      (both_faultless walks (or_else below (or_else settles (or_else defaults checks))) faultless).1

  at_end : (settles ≡ []) × (or_else defaults checks ≡ [])
  at_end = both_faultless settles (or_else defaults checks) after_walk.1

  alone : AllAlone a s.rules
  alone = alone_here a place s.rules is.here is.others

  -- what stands in the matches of the argument passes its parser
  pub all_pass : AllPass a (matches_of app words)
  all_pass =
      let walked = walk_passes a is.valued s alone (names_of (built app)) (walk_from nothing_held) rest
      (both_faultless walks (or_else below (or_else settles (or_else defaults checks))) faultless).0 tt in
      let at_end = settle_passes a is.valued s.rules alone s.args_override_self end.held at_end.0 walked in
      defaults_pass a s.rules (settled s.rules end.held).rows is.valued alone at_end

  -- and where it has to be there, it is
  pub required_given : a.required ≡ true → s.subcommand_negates_reqs ≡ false → IsGiven a (matches_of app words)
  required_given required negates =
      let checked : checks ≡ [] = (both_faultless defaults checks at_end.1).1 in
      let missing = none_missing _ _ _ checked in
      let none : list_any (λ b. b.required && not (is_given b.id (matches_of app words))) s.rules ≡ false = rw negates at missing in
      given_in_row a (matches_of app words) all_pass (was_given a.required (is_given a.id (matches_of app words)) required
      (not_of (λ b. b.required && not (is_given b.id (matches_of app words))) s.rules place a is.here none))
