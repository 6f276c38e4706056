-- Words ask for one command at most.
use Rattle.std.specs.Prelude.{◌≡◌, ℕ, ◌+◌, ◌*◌, Bool, true, false, List, [], codes, Option, Some, None, refl, slice_get, slice_index, unwrap_or, find}
use Rattle.std.specs.Str.Parse.{digits_value, without_leading_plus}
use Rattle.std.specs.Option.{option_and_then, option_map}
use Rattle.std.proofs.Common.{◌∙◌, sym, ap, inl, inr, bytes_eq, arith}
use Rattle.clap.specs.Walk.{row_text}
use Rattle.clap.specs.Words.{Row, matches_of, first_of, one_of, read_as}
use Rattle.image_run.specs.declared.options.TheConstants.{MOST_BUDGET}
use Rattle.tool_command.specs.Command.{Command, Asks, format_image, show_image, drain_image, gen_trace, run_image, rebuild_image, replay_image, conservative_image, count_image}
use Rattle.tool_command.specs.CommandLine.{format_app, drain_app, show_app, gen_app, run_app, rebuild_app, replay_app, conservative_app, count_app, image_id, capacity_id, class_id, map_id, requests_id, trace_seed_id, workers_id, stop_id, seed_id, sum_id, par_id, HasText, HasNumber, HasNumberOr, HasFlag}

-- one number is written
pub one_number : (rows : List Row) (id : List ℕ) (n m : ℕ) → HasNumber rows id n → HasNumber rows id m → n ≡ m
one_number rows id n m has also =
    let same : has.text ≡ also.text = ap (λ o. unwrap_or o []) (sym has.given ∙ also.given) in
    sym has.counted.value ∙ ap (λ text. digits_value 10 (without_leading_plus text)) same ∙ also.counted.value

-- a number that was given has a text
no_text_given : (rows : List Row) (id text : List ℕ) → one_of id rows ≡ Some text → first_of id rows ≡ None → ⊥
no_text_given rows id text given none = go (find (λ r. bytes_eq r.id id) rows) given none
  where
    go : (row : Option Row) → option_and_then row_text row ≡ Some text → option_and_then (λ r. slice_get r.values 0) row ≡ None → ⊥
    go None some e = let never : None ≡ Some text = some in cc
    go (Some r) some e =
        let never : None ≡ Some text = sym (ap (option_map (read_as r.reading)) e) ∙ some in
        cc

-- one number is written, or one stands for none
pub one_number_or : (rows : List Row) (id : List ℕ) (other n m : ℕ) → HasNumberOr rows id other n → HasNumberOr rows id other m → n ≡ m
one_number_or rows id other n m (inl has) (inl also) = one_number rows id n m has also
one_number_or rows id other n m (inl has) (inr also) = absurd (no_text_given rows id has.text has.given also.0)
one_number_or rows id other n m (inr has) (inl also) = absurd (no_text_given rows id also.text also.given has.0)
one_number_or rows id other n m (inr has) (inr also) = has.1 ∙ sym also.1

-- one text is given
pub one_text_given : (rows : List Row) (id text other : List ℕ) → HasText rows id text → HasText rows id other → text ≡ other
one_text_given rows id text other has also = ap (λ o. unwrap_or o []) (sym has ∙ also)

-- an option is given or not
pub one_flag : (rows : List Row) (id : List ℕ) (a b : Bool) → HasFlag rows id a → HasFlag rows id b → a ≡ b
one_flag rows id true b has also = sym (also.1 (has.0 refl))
one_flag rows id false true has also = has.1 (also.0 refl)
one_flag rows id false false has also = refl

-- the word that names a command
abbrev pub name_of : Command → List ℕ
name_of (format_image image capacity) = codes "format"
name_of (show_image image with_map in_parallel) = codes "show"
name_of (drain_image image class) = codes "drain"
name_of (gen_trace requests seed) = codes "gen"
name_of (run_image image options) = codes "run"
name_of (rebuild_image image budget seed) = codes "rebuild"
name_of (replay_image image seed) = codes "replay"
name_of (conservative_image image with_map) = codes "conservative"
name_of (count_image image with_map) = codes "count"

-- it is the first word
pub first_word : (words : List (List ℕ)) (command : Command) → Asks words command → slice_get words 0 ≡ Some (name_of command)
first_word words (format_image image capacity) asks = asks.taken.named
first_word words (show_image image with_map in_parallel) asks = asks.taken.named
first_word words (drain_image image class) asks = asks.taken.named
first_word words (gen_trace requests seed) asks = asks.taken.named
first_word words (run_image image options) asks = asks.taken.named
first_word words (rebuild_image image budget seed) asks = asks.taken.named
first_word words (replay_image image seed) asks = asks.taken.named
first_word words (conservative_image image with_map) asks = asks.taken.named
first_word words (count_image image with_map) asks = asks.taken.named

-- the first three letters of a name tell it
abbrev pub letters : List ℕ → ℕ
letters name = 65536 * slice_index name 0 + 256 * slice_index name 1 + slice_index name 2

-- so two commands that words ask for have one name
one_letter : (words : List (List ℕ)) (a b : Command) → Asks words a → Asks words b → letters (name_of a) ≡ letters (name_of b)
one_letter words a b asks also = ap (λ o. letters (unwrap_or o [])) (sym (first_word words a asks) ∙ first_word words b also)

-- words ask for one command at most
pub one_command : (words : List (List ℕ)) (a b : Command) → Asks words a → Asks words b → a ≡ b
one_command words (format_image image capacity) (format_image other count) asks also =
    let named = one_text_given (matches_of format_app words) image_id image other asks.named also.named in
    let counted = one_number (matches_of format_app words) capacity_id capacity count asks.counted also.counted in
    cc
one_command words (drain_image image class) (drain_image other number) asks also =
    let named = one_text_given (matches_of drain_app words) image_id image other asks.named also.named in
    let counted = one_number (matches_of drain_app words) class_id class number asks.counted also.counted in
    cc
one_command words (show_image image with_map in_parallel) (show_image other map parallel) asks also =
    let named = one_text_given (matches_of show_app words) image_id image other asks.named also.named in
    let mapped = one_flag (matches_of show_app words) map_id with_map map asks.mapped also.mapped in
    let parallel = one_flag (matches_of show_app words) par_id in_parallel parallel asks.parallel also.parallel in
    cc
one_command words (gen_trace requests seed) (gen_trace count other) asks also =
    let counted = one_number (matches_of gen_app words) requests_id requests count asks.counted also.counted in
    let seeded = one_number (matches_of gen_app words) trace_seed_id seed other asks.seeded also.seeded in
    cc
one_command words (run_image image options) (run_image other set) asks also =
    let named = one_text_given (matches_of run_app words) image_id image other asks.named also.named in
    let workers = one_number (matches_of run_app words) workers_id options.workers set.workers asks.by also.by in
    let budget = one_number_or (matches_of run_app words) stop_id MOST_BUDGET options.budget set.budget asks.within also.within in
    let seed = one_number_or (matches_of run_app words) seed_id 0 options.seed set.seed asks.seeded also.seeded in
    let summed = one_flag (matches_of run_app words) sum_id options.with_sum set.with_sum asks.summed also.summed in
    let mapped = one_flag (matches_of run_app words) map_id options.with_map set.with_map asks.mapped also.mapped in
    let same : options ≡ set = λ i. record { workers = workers i; budget = budget i; seed = seed i; with_sum = summed i; with_map = mapped i } in
    λ i. run_image (named i) (same i)
one_command words (rebuild_image image budget seed) (rebuild_image other limit begun) asks also =
    let named = one_text_given (matches_of rebuild_app words) image_id image other asks.named also.named in
    let within = one_number_or (matches_of rebuild_app words) stop_id MOST_BUDGET budget limit asks.within also.within in
    let seeded = one_number_or (matches_of rebuild_app words) seed_id 0 seed begun asks.seeded also.seeded in
    cc
one_command words (replay_image image seed) (replay_image other begun) asks also =
    let named = one_text_given (matches_of replay_app words) image_id image other asks.named also.named in
    let seeded = one_number_or (matches_of replay_app words) seed_id 0 seed begun asks.seeded also.seeded in
    cc
one_command words (conservative_image image with_map) (conservative_image other map) asks also =
    let named = one_text_given (matches_of conservative_app words) image_id image other asks.named also.named in
    let mapped = one_flag (matches_of conservative_app words) map_id with_map map asks.mapped also.mapped in
    cc
one_command words (count_image image with_map) (count_image other map) asks also =
    let named = one_text_given (matches_of count_app words) image_id image other asks.named also.named in
    let mapped = one_flag (matches_of count_app words) map_id with_map map asks.mapped also.mapped in
    cc
one_command words a b asks also = absurd (omega (arith, one_letter words a b asks also))
