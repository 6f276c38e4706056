-- Where clap finds no fault in the words, each argument that has to be there was given, and what was given for it passed its parser.
use Rattle.std.proofs.Common.{◌≡◌, ◌∙◌, ℕ, zero, suc, Bool, true, false, not, cond, ◌&&◌, List, [], ◌∷◌, Option, Some, None, refl, sym, ap, subst, drop, length, is_some}
use Rattle.std.specs.Prelude.{slice_get, encode_utf8}
use Rattle.std.specs.List.{fold}
use Rattle.std.specs.Option.{option_map_or}
use Rattle.std.specs.Str.{bytes_eq, chars}
use Rattle.clap.specs.Lexer.{long_of, short_of}
use Rattle.clap.specs.Kinds.{Kinds, or_else}
use Rattle.clap.specs.Walk.{Text, Rule, Row, Held, Names, Outcome, done, waits, plain, refused, Step, next, trailing, subcommand, value, Waiting, idle, option, positional, Walk, reading_by}
use Rattle.clap.specs.Walk.{used_by_id, settled, settled_rows, reacted, arg_by_id, arg_by_index, arg_by_long, arg_by_short}
use Rattle.clap.specs.Walk.{has_long, has_short, takes_values, takes_several, attached_value, option_met, flag_met, long_met, short_met, bundle_met, bundle_step, plain_word, option_word, bundle, after_flag, subcommand_met}
use Rattle.clap.specs.Walk.{subcommand_or_other, long_or_other, short_or_plain, word_met, is_pending, positional_held, after_step, to_positional, walked, walked_from, with_default, has_row, default_rows}
use Rattle.clap.specs.Simple.{Shape}
use Rattle.clap.specs.Faults.{use_fault, settle_fault, react_fault, option_fault, long_fault, short_fault, bundle_step_fault, flags_fault, bundle_fault, flag_word_fault, stray_fault, other_fault, word_fault, positional_fault, step_fault, turn_fault, walk_fault}
use Rattle.clap.specs.declared.error.kind.ErrorKind.TheVariants as kind
use Rattle.clap.specs.declared.parser.matches.ValueSource.TheVariants.{DefaultValue}
use Rattle.tool_command.proofs.PassingLemmas.{AllAlone, AllPass, IsAlone, IsAloneIfSome, IsValued, both_faultless, found_alone, use_passes, with_values_passes}

-- ---- one word

module _ (a : Rule) (is : IsValued a) (c : List Rule) (alone : AllAlone a c) (again : Bool) where
  settle_by_id : (o : Option Rule) (values : List Text) (rows : List Row) → IsAloneIfSome a o
      → option_map_or (λ b. use_fault again b values rows) o [] ≡ [] → AllPass a rows
      → AllPass a (used_by_id o values rows)
  settle_by_id None values rows one none pass = pass
  settle_by_id (Some b) values rows one none pass = use_passes a again b values rows is (one b refl) none pass

  settle_pending : (p : Option (Text × List Text)) (rows : List Row)
      → option_map_or (λ p. option_map_or (λ b. use_fault again b p.1 rows) (arg_by_id c p.0) []) p [] ≡ [] → AllPass a rows
      → AllPass a (settled_rows c p rows)
  settle_pending None rows none pass = pass
  settle_pending (Some p) rows none pass = settle_by_id (arg_by_id c p.0) p.1 rows (found_alone a (λ b. bytes_eq b.id p.0) c alone) none pass

  pub settle_passes : (h : Held) → settle_fault c again h ≡ [] → AllPass a h.rows → AllPass a (settled c h).rows
  settle_passes h none pass = settle_pending h.pending h.rows none pass

  react_passes : (b : Rule) (values : List Text) (h : Held) → IsAlone a b → react_fault c again b values h ≡ [] → AllPass a h.rows
      → AllPass a (reacted c b values h).rows
  react_passes b values h one none pass =
      let both = both_faultless (settle_fault c again h) (use_fault again b values (settled c h).rows) none in
      use_passes a again b values (settled c h).rows is one both.1 (settle_passes h both.0 pass)

  option_passes : (b : Rule) (v : Option Text) (h : Held) → IsAlone a b → option_fault c again b v h ≡ [] → AllPass a h.rows
      → AllPass a (option_met c b v h).0.rows
  option_passes b None h one none pass = settle_passes h none pass
  option_passes b (Some v) h one none pass = react_passes b (v ∷ []) h one none pass

  flag_passes : (b : Rule) (v : Option Text) (h : Held) → IsAlone a b
      → cond (is_some v) (kind.TooManyValues ∷ []) (react_fault c again b [] h) ≡ [] → AllPass a h.rows
      → AllPass a (flag_met c b v h).0.rows
  flag_passes b None h one none pass = react_passes b [] h one none pass
  flag_passes b (Some v) h one none pass = pass

  long_passes : (o : Option Rule) (v : Option Text) (h : Held) → IsAloneIfSome a o → long_fault c again o v h ≡ [] → AllPass a h.rows
      → AllPass a (long_met c o v h).0.rows
  long_passes None v h one none pass = pass
  long_passes (Some b) v h one none pass = go (takes_values b) none
    where
      go : (t : Bool) → cond t (option_fault c again b v h) (cond (is_some v) (kind.TooManyValues ∷ []) (react_fault c again b [] h)) ≡ []
          → AllPass a (cond t (option_met c b v h) (flag_met c b v h)).0.rows
      go true e = option_passes b v h (one b refl) e pass
      go false e = flag_passes b v h (one b refl) e pass

  short_passes : (o : Option Rule) (rest : Text) (h : Held) (faults : Held → Kinds) (met : Held → Held × Outcome) → IsAloneIfSome a o
      → ((h : Held) → faults h ≡ [] → AllPass a h.rows → AllPass a (met h).0.rows)
      → short_fault c again o rest h faults ≡ [] → AllPass a h.rows → AllPass a (short_met c o rest h met).0.rows
  short_passes None rest h faults met one later none pass = pass
  short_passes (Some b) rest h faults met one later none pass = go (takes_values b) none
    where
      go : (t : Bool) → cond t (option_fault c again b (attached_value rest) h) (or_else (react_fault c again b [] h) (faults (reacted c b [] h))) ≡ []
          → AllPass a (cond t (option_met c b (attached_value rest) h) (met (reacted c b [] h))).0.rows
      go true e = option_passes b (attached_value rest) h (one b refl) e pass
      go false e =
          let both = both_faultless (react_fault c again b [] h) (faults (reacted c b [] h)) e in
          later (reacted c b [] h) both.1 (react_passes b [] h (one b refl) both.0 pass)

  bundle_step_passes : (o : Option ℕ) (flags : Text) (skip : ℕ) (so_far : Outcome) (h : Held) (faults : Text → ℕ → Held → Kinds) (met : Text → ℕ
      → Outcome → Held → Held × Outcome)
      → ((flags : Text) (skip : ℕ) (so_far : Outcome) (h : Held) → faults flags skip h ≡ [] → AllPass a h.rows
      → AllPass a (met flags skip so_far h).0.rows)
      → bundle_step_fault c again o flags skip h faults ≡ [] → AllPass a h.rows → AllPass a (bundle_step c o flags skip so_far h met).0.rows
  bundle_step_passes None flags skip so_far h faults met later none pass = pass
  bundle_step_passes (Some x) flags zero so_far h faults met later none pass =
      let rest = drop (length (encode_utf8 x)) flags in
      short_passes (arg_by_short c x) rest h (faults rest 0) (met rest 0 done)
      (found_alone a (λ b. not (is_some b.index) && has_short b x) c alone) (later rest 0 done) none pass
  bundle_step_passes (Some x) flags (suc skip) so_far h faults met later none pass = later (drop (length (encode_utf8 x)) flags) skip so_far h none pass

  flags_pass : (k : ℕ) (flags : Text) (skip : ℕ) (so_far : Outcome) (h : Held) → flags_fault c again k flags skip h ≡ [] → AllPass a h.rows
      → AllPass a (bundle_met c k flags skip so_far h).0.rows
  unfolding flags_fault bundle_met
  flags_pass zero flags skip so_far h none pass = pass
  flags_pass (suc k) flags skip so_far h none pass =
      bundle_step_passes (slice_get (chars flags) 0) flags skip so_far h (flags_fault c again k) (bundle_met c k) (flags_pass k) none pass

-- a word that is no flag goes to no row yet
option_rows : (o : Option Rule) (id word : Text) (h : Held) → (option_word o id word h).0.rows ≡ h.rows
option_rows None id word h = refl
option_rows (Some b) id word h = refl

plain_rows : (c : List Rule) (waiting : Waiting) (word : Text) (h : Held) → (plain_word c waiting word h).0.rows ≡ h.rows
plain_rows c idle word h = refl
plain_rows c (option id) word h = option_rows (arg_by_id c id) id word h
plain_rows c positional word h = refl

after_rows : (c : List Rule) (waiting : Waiting) (word : Text) (h : Held) (o : Outcome) → (after_flag c waiting word h o).0.rows ≡ h.rows
after_rows c waiting word h done = refl
after_rows c waiting word h (waits id) = refl
after_rows c waiting word h plain = plain_rows c waiting word h
after_rows c waiting word h refused = plain_rows c waiting word h

module _ (a : Rule) (is : IsValued a) (s : Shape) (alone : AllAlone a s.rules) where
  after_passes : (waiting : Waiting) (word : Text) (h : Held) (o : Outcome) → AllPass a h.rows → AllPass a (after_flag s.rules waiting word h o).0.rows
  after_passes waiting word h o pass = subst (AllPass a) (sym (after_rows s.rules waiting word h o)) pass

  plain_passes : (waiting : Waiting) (word : Text) (h : Held) → AllPass a h.rows → AllPass a (plain_word s.rules waiting word h).0.rows
  plain_passes waiting word h pass = subst (AllPass a) (sym (plain_rows s.rules waiting word h)) pass

  short_word_passes : (waiting : Waiting) (word : Text) (o : Option Text) (h : Held)
      → option_map_or (λ flags. bundle_fault s.rules s.args_override_self flags h) o [] ≡ [] → AllPass a h.rows
      → AllPass a (short_or_plain s.rules waiting word o h).0.rows
  short_word_passes waiting word None h none pass = plain_passes waiting word h pass
  short_word_passes waiting word (Some flags) h none pass =
      after_passes waiting word (bundle s.rules flags h).0 (bundle s.rules flags h).1
      (flags_pass a is s.rules alone s.args_override_self (length flags) flags h.skip plain (record h { skip = 0 }) none pass)

  flag_word_passes : (waiting : Waiting) (word : Text) (o : Option (Text × Option Text)) (h : Held)
      → flag_word_fault s.rules s.args_override_self o word h ≡ [] → AllPass a h.rows
      → AllPass a (long_or_other s.rules waiting word o h).0.rows
  flag_word_passes waiting word None h none pass = short_word_passes waiting word (short_of word) h none pass
  flag_word_passes waiting word (Some p) h none pass =
      let met = long_met s.rules (arg_by_long s.rules p.0) p.1 h in
      after_passes waiting word met.0 met.1
      (long_passes a is s.rules alone s.args_override_self (arg_by_long s.rules p.0) p.1 h
      (found_alone a (λ b. not (is_some b.index) && has_long b p.0) s.rules alone) none pass)

  other_passes : (o : Option Text) (waiting : Waiting) (position : ℕ) (word : Text) (h : Held) → other_fault s o word h ≡ [] → AllPass a h.rows
      → AllPass a (subcommand_or_other s.rules o waiting position word h).0.rows
  other_passes (Some name) waiting position word h none pass = pass
  other_passes None waiting position word h none pass = go (bytes_eq word (45 ∷ 45 ∷ [])) none
    where
      go : (t : Bool) → cond t [] (flag_word_fault s.rules s.args_override_self (long_of word) word h) ≡ []
          → AllPass a (cond t (h, trailing position) (long_or_other s.rules waiting word (long_of word) h)).0.rows
      go true e = pass
      go false e = flag_word_passes waiting word (long_of word) h e pass

  word_passes : (names : Names) (is_trailing : Bool) (waiting : Waiting) (position : ℕ) (word : Text) (h : Held)
      → word_fault s names is_trailing waiting word h ≡ [] → AllPass a h.rows
      → AllPass a (word_met s.rules names is_trailing waiting position word h).0.rows
  word_passes names true waiting position word h none pass = pass
  word_passes names false waiting position word h none pass = other_passes (subcommand_met names waiting word) waiting position word h none pass

  positional_passes : (b : Rule) (word : Text) (h : Held) → positional_fault s.rules s.args_override_self b h ≡ [] → AllPass a h.rows
      → AllPass a (positional_held s.rules b word h).rows
  positional_passes b word h none pass = go (is_pending b h.pending && takes_several b) none
    where
      go : (t : Bool) → cond t [] (settle_fault s.rules s.args_override_self h) ≡ [] → AllPass a (cond t h (settled s.rules h)).rows
      go true e = pass
      go false e = settle_passes a is s.rules alone s.args_override_self h e pass

  placed_passes : (o : Option Rule) (word : Text) (w : Walk) (h : Held)
      → option_map_or (λ b. positional_fault s.rules s.args_override_self b h) o (stray_fault s) ≡ [] → AllPass a h.rows
      → AllPass a (to_positional s.rules o word w h).held.rows
  placed_passes None word w h none pass = pass
  placed_passes (Some b) word w h none pass = positional_passes b word h none pass

  step_passes : (word : Text) (w : Walk) (h : Held) (step : Step) → step_fault s w.position h step ≡ [] → AllPass a h.rows
      → AllPass a (after_step s.rules word w h step).held.rows
  step_passes word w h (next waiting) none pass = pass
  step_passes word w h (trailing position) none pass = pass
  step_passes word w h (subcommand name) none pass = pass
  step_passes word w h value none pass = placed_passes (arg_by_index s.rules w.position) word w h none pass

  -- ---- the walk

  abbrev met_with : Names → Walk → Text → Held × Step
  met_with names w word = word_met s.rules names w.is_trailing w.waiting w.position word w.held

  turn_passes : (names : Names) (w : Walk) (word : Text) → turn_fault s names w word ≡ [] → AllPass a w.held.rows
      → AllPass a (walked s.rules names w word).held.rows
  unfolding walked
  turn_passes names w word none pass = go w.stopped none
    where
      go : (stopped : Option (Text × List Text))
          → cond (is_some stopped) [] (or_else (word_fault s names w.is_trailing w.waiting word w.held)
          (step_fault s w.position (met_with names w word).0 (met_with names w word).1)) ≡ []
          → AllPass a (walked_from s.rules names stopped w word).held.rows
      go (Some p) e = pass
      go None e =
          let met = met_with names w word in
          let both = both_faultless (word_fault s names w.is_trailing w.waiting word w.held) (step_fault s w.position met.0 met.1) e in
          step_passes word w met.0 met.1 both.1 (word_passes names w.is_trailing w.waiting w.position word w.held both.0 pass)

  pub walk_passes : (names : Names) (w : Walk) (words : List Text) → walk_fault s names w words ≡ [] → AllPass a w.held.rows
      → AllPass a (fold (walked s.rules names) w words).held.rows
  unfolding walk_fault
  walk_passes names w [] none pass = pass
  walk_passes names w (word ∷ rest) none pass =
      let both = both_faultless (turn_fault s names w word) (walk_fault s names (walked s.rules names w word) rest) none in
      walk_passes names (walked s.rules names w word) rest both.1 (turn_passes names w word both.0 pass)

-- ---- defaults

default_passes : (a : Rule) (b : Rule) (rows : List Row) → IsValued a → IsAlone a b → AllPass a rows → AllPass a (with_default rows b)
default_passes a b rows is alone pass = go (has_row b.id rows) (given b.defaults refl)
  where
    given : (defaults : List Text) → b.defaults ≡ defaults → AllPass a (default_rows b.id (reading_by b) defaults rows)
    given [] e = pass
    given (v ∷ vs) e = with_values_passes a b.id (reading_by b) DefaultValue (v ∷ vs) rows
        (λ same. let bad : v ∷ vs ≡ [] = sym e ∙ ap (λ (y : Rule). y.defaults) (alone same) ∙ is.no_default in cc) pass

    go : (t : Bool) → AllPass a (default_rows b.id (reading_by b) b.defaults rows)
        → AllPass a (cond t rows (default_rows b.id (reading_by b) b.defaults rows))
    go true new = pass
    go false new = new

pub defaults_pass : (a : Rule) (c : List Rule) (rows : List Row) → IsValued a → AllAlone a c → AllPass a rows → AllPass a (fold with_default rows c)
defaults_pass a [] rows is alone pass = pass
defaults_pass a (b ∷ rest) rows is alone pass = defaults_pass a rest (with_default rows b) is alone.1 (default_passes a b rows is alone.0 pass)
