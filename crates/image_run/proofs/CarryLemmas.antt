-- What a run over the words that recovery leaves does, it does over the image.
use Rattle.std.proofs.Common.{◌≡◌, ℕ, ◌<◌, Bool, List, refl, sym, subst, ◌∙◌, inl, inr, arith}
use Rattle.std.proofs.Math.Nat.{mod-lt}
use Rattle.std.specs.BTreeMap.{BTreeMap}
use Rattle.heap_model.specs.declared.block.Block.{Block}
use Rattle.heap_model.specs.Image.{Image}
use Rattle.heap_model.specs.Geometry.{capacity_word, used_word, IsReserved}
use Rattle.heap_model.specs.Header.{used_of, kinds_of}
use Rattle.heap_model.specs.Reach.{AnyRoot, ReachFrom, IsTracedFrom, is_root, is_linked, TracesAlike}
use Rattle.heap_model.specs.Recovery.{in_header, is_reserved}
use Rattle.heap_model.proofs.ReachLemmas.{reach_kept, more_roots, reach_by_kinds}
use Rattle.heap_recover.proofs.UnchangedLemmas.{words_unchanged, roots_unchanged}
use Rattle.dict_model.specs.Links.{shards, dict_links}
use Rattle.dict_model.specs.Nodes.{shard_of}
use Rattle.dict_model.specs.Requests.{Request}
use Rattle.dict_model.specs.Shards.{Map}
use Rattle.dictionary.specs.Reading.{AreMaps, RecoversTo}
use Rattle.dictionary.proofs.SameLemmas.{keeps_reached, traced_alike, kinds_kept, map_kept}
use Rattle.dictionary.proofs.KeptLemmas.{map_after}
use Rattle.run_model.specs.Arrivals.{IsWholeMap}
use Rattle.run_model.specs.Runs.{IsOtherRoot}
use Rattle.run_model.specs.Needs.{ListsKeysOf}
use Rattle.worker_run.specs.Said.{Told}
use Rattle.image_run.specs.Running.{Options, by_recovery, Leaves, RunsRequests}

module _ (old new : Image) (to : RecoversTo old new) (maps : List (BTreeMap ℕ (List ℕ))) (are : AreMaps new shards maps) where
  keys_listed : (keys : List ℕ) → ListsKeysOf old keys → ListsKeysOf new keys
  keys_listed keys lists = record { all = λ shard map below is. lists.all shard map below (map_kept old new to shard map below is) }

  used_stays : used_of new ≡ used_of old
  used_stays = to.recovered.same used_word (in_header used_word (inr (inr (inr refl))))

  -- other roots reach of the words what they reach of the image, as the same kinds
  others_alike : TracesAlike old new IsOtherRoot (kinds_of old) dict_links
  others_alike =
      let alike = traced_alike old new to in
      record {
        same_words = λ at traced. alike.same_words at (any_root at traced);
        are_blocks = λ b kind reached. alike.are_blocks b kind (more_roots old (kinds_of old) dict_links (λ root c. tt) b kind reached);
        same_links = λ b kind reached. alike.same_links b kind (more_roots old (kinds_of old) dict_links (λ root c. tt) b kind reached);
      }
    where
      any_root : (at : ℕ) → IsTracedFrom old IsOtherRoot (kinds_of old) dict_links at → IsTracedFrom old AnyRoot (kinds_of old) dict_links at
      any_root _ (is_root root at below is_chosen is) = is_root root at below tt is
      any_root _ (is_linked a from position kind at reached listed is) =
          is_linked a from position kind at (more_roots old (kinds_of old) dict_links (λ root c. tt) a from reached) listed is

  others_reach : (b : Block) (kind : ℕ) → ReachFrom old IsOtherRoot (kinds_of old) dict_links b kind
      → ReachFrom new IsOtherRoot (kinds_of new) dict_links b kind
  others_reach b kind reached = reach_by_kinds new (kinds_of old) (kinds_of new) dict_links
      (λ root below. sym (kinds_kept old new to root below)) b kind
      (reach_kept old new IsOtherRoot (kinds_of old) dict_links others_alike b kind reached)

  -- the whole map of the image is that of the words
  whole_of_words : (whole : Map) → IsWholeMap old whole → IsWholeMap new whole
  whole_of_words whole is = record {
    each = λ key.
        let at = is.each key in
        (at.0, map_after old new (keeps_reached old new to) (shard_of key) at.0 (mod-lt key (omega arith)) at.1, at.2);
  }

  carried : (requests : List Request) (workers budget : ℕ) (told : List Told) (stopped : Bool) (left : List ℕ)
      → Leaves new requests workers budget told stopped left → Leaves old requests workers budget told stopped left
  carried requests workers budget told stopped left leaves = record {
    worked = record {
      words = leaves.worked.words;
      opened = by_recovery old new to leaves.worked.opened;
      held = leaves.worked.held;
      now = leaves.worked.now;
      kept = leaves.worked.kept;
      worked = leaves.worked.worked;
    };
    answers = leaves.answers;
    stops = record { all = leaves.stops.all; cause = λ is keys lists. leaves.stops.cause is keys (keys_listed keys lists) };
    replies = record {
      right = λ shard map below is. leaves.replies.right shard map below (map_after old new (keeps_reached old new to) shard map below is);
    };
    full = record {
      cause = λ worker low before later key value is.
          let more = leaves.full.cause worker low before later key value is in
          omega (arith, more, (to.recovered.same capacity_word (in_header capacity_word (inr (inr (inl refl))))), used_stays);
      move_cause = λ worker low before later key target is.
          let more = leaves.full.move_cause worker low before later key target is in
          omega (arith, more, (to.recovered.same capacity_word (in_header capacity_word (inr (inr (inl refl))))), used_stays);
      no_table = λ key target there.
          sym (roots_unchanged old new (kinds_of old) dict_links to.recovered (shard_of target)
          (let small : shard_of target < shards = mod-lt target (omega arith) in omega (arith, small)))
          ∙ leaves.full.no_table key target there;
      alike = leaves.full.alike;
    };
    maps = record {
      arrived = leaves.maps.arrived;
      have_arrived = record {
        all = λ going whole is. leaves.maps.have_arrived.all going whole (whole_of_words whole is);
        none = leaves.maps.have_arrived.none;
      };
      each = λ whole is_whole shard map below is. leaves.maps.each whole (whole_of_words whole is_whole) shard map below
          (map_after old new (keeps_reached old new to) shard map below is);
    };
    header = record {
      well_formed = leaves.header.well_formed;
      version_is = leaves.header.version_is;
      capacity = leaves.header.capacity ∙ (to.recovered.same capacity_word (in_header capacity_word (inr (inr (inl refl)))));
      kinds = λ root below. leaves.header.kinds root below ∙ kinds_kept old new to root below;
      without_meaning = λ word reserved.
          leaves.header.without_meaning word (subst (λ n. IsReserved n word)
          (sym (to.recovered.same capacity_word (in_header capacity_word (inr (inr (inl refl)))))) reserved)
          ∙ to.recovered.same word (is_reserved word reserved);
    };
    others = record {
      nothing_outside = leaves.others.nothing_outside;
      roots_are = λ root other below. leaves.others.roots_are root other below
          ∙ roots_unchanged old new (kinds_of old) dict_links to.recovered root below;
      blocks_are = λ b kind word reached within.
          leaves.others.blocks_are b kind word (others_reach b kind reached) within
          ∙ words_unchanged old new (kinds_of old) dict_links to.recovered b word
          (record { kind = kind; reach = more_roots old (kinds_of old) dict_links (λ root c. tt) b kind reached }) within;
      still_reached = λ b kind reached. leaves.others.still_reached b kind (others_reach b kind reached);
    };
    used = record {
      least = let least = leaves.used.least in omega (arith, least, used_stays);
      most = let most = leaves.used.most in omega (arith, most, used_stays);
    };
    state = leaves.state;
    orderly = leaves.orderly;
  }

  pub runs_carried : (requests : List Request) (options : Options) (put text : List ℕ) → RunsRequests new requests options put text
      → RunsRequests old requests options put text
  runs_carried requests options put text runs = record {
    told = runs.told;
    stopped = runs.stopped;
    left = runs.left;
    leaves = carried requests options.workers options.budget runs.told runs.stopped runs.left runs.leaves;
    put_is = runs.put_is;
    words_are = runs.words_are;
    report = runs.report;
    reports = runs.reports;
    text_is = runs.text_is;
  }
