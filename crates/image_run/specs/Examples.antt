-- Worked examples by computation: the report on an empty heap that a run leaves, closed or stopped.
use Rattle.std.specs.Prelude.{◌≡◌, ℕ, nat_eq, if◌then◌else◌, true, false, [], ◌∷◌, ◌++◌, codes, refl}
use Rattle.std.specs.Fmt.{digits}
use Rattle.hex.specs.Hex.{encode_with}
use Rattle.heap_model.specs.Geometry.{clean, dirty, state_word}
use Rattle.heap_model.specs.Image.{Image}
use Rattle.trace_text.specs.Keys.{keys_text}
use Rattle.trace_text.specs.Report.{line_feed, classes}
use Rattle.image_run.specs.Reporting.{shown_text}

-- an image of one superblock in this state, all of whose other words are 1
abbrev of_state : ℕ → Image
of_state state word = if nat_eq word state_word then state else 1

closed : shown_text (of_state clean) false (keys_text false []) [] [] (of_state clean) ≡ codes "heap 1 clean" ++ line_feed
unfolding digits classes
closed = refl

-- what is told of the keys stands behind the first line
stopped_and_summed : shown_text (of_state dirty) false (keys_text true ((5, 97 ∷ 98 ∷ []) ∷ (7, []) ∷ [])) [] [] (of_state dirty)
    ≡ codes "heap 1 dirty" ++ line_feed ++ codes "keys 2 bytes 2" ++ line_feed
unfolding digits classes
stopped_and_summed = refl

one_by_one : shown_text (of_state clean) false (keys_text false ((5, 97 ∷ 98 ∷ []) ∷ (7, []) ∷ [])) [] [] (of_state clean)
    ≡ codes "heap 1 clean" ++ line_feed ++ codes "key 5 6162" ++ line_feed ++ codes "key 7 -" ++ line_feed
unfolding digits classes encode_with
one_by_one = refl
