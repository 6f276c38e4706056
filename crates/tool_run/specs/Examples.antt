-- Worked examples: the lines that are printed, and how often the store is called.
use Rattle.std.specs.Prelude.{◌≡◌, ℕ, Bool, List, Option, [], ◌∷◌, ◌++◌, codes, Some, None, true, false, refl}
use Rattle.std.specs.Fmt.{digits}
use Rattle.std.proofs.Common.{arith}
use Rattle.heap_model.specs.Sizes.{size_of, class_sizes}
use Rattle.heap_model.specs.Geometry.{largest_capacity}
use Rattle.heap_model.specs.declared.header.BadHeader.TheVariants.{Length, Kind}
use Rattle.trace_text.specs.Report.{line_feed}
use Rattle.dict_model.specs.Links.{kind_count}
use Rattle.tool_command.specs.Command.{Command, show_image, run_image, conservative_image, count_image}
use Rattle.tool_ports.specs.Calls.{no_calls, with_get, with_put}
use Rattle.tool_run.specs.Calls.{get_limit, with_status}
use Rattle.tool_run.specs.Lines.{no_image_line, bad_header_line, bad_line_line}
use Rattle.tool_ports.specs.Contents.{Contents}
use Rattle.tool_run.specs.Making.{Makes, IsOrderlyIn, formatted_line, drained_text, HasLeft, HasTooMuch}
use Rattle.tool_run.specs.CommandUses.{FollowsLinks, RefusesOutside, kinds_checked}
use Rattle.tool_run.specs.Outcome.{CanBeDone}
use Rattle.tool_run.specs.Status.{own_line, usage, done, bad_header, write_fault, bad_trace}

formatted_one : formatted_line 1 ≡ codes "formatted 1 bytes 82304" ++ line_feed
unfolding digits
formatted_one = refl

formatted_most : formatted_line 4096 ≡ codes "formatted 4096 bytes 268714304" ++ line_feed
unfolding digits
formatted_most = refl

drained_four : drained_text 4 (8704 ∷ 139648 ∷ [])
    ≡ codes "class 4 size 64 blocks 2" ++ line_feed ++ codes "8704" ++ line_feed ++ codes "139648" ++ line_feed
unfolding digits size_of class_sizes
drained_four = refl

drained_none : drained_text 20 [] ≡ codes "class 20 size 14336 blocks 0" ++ line_feed
unfolding digits size_of class_sizes
drained_none = refl

absent_line : no_image_line (codes "none.img") ≡ codes "no image none.img" ++ line_feed
absent_line = refl

length_line : bad_header_line Length ≡ codes "bad header length" ++ line_feed
length_line = refl

kind_line : bad_header_line Kind ≡ codes "bad header kind" ++ line_feed
kind_line = refl

third_line : bad_line_line 3 ≡ codes "bad trace line 3" ++ line_feed
unfolding digits
third_line = refl

-- one byte more is got than the longest image has
most_bytes : get_limit ≡ 268714305
unfolding largest_capacity
most_bytes = refl

-- a run gets its image, and puts one where it is done or cut off: nothing is put for a bad trace
abbrev a_run : Command
a_run = run_image (codes "h") (record { workers = 1; budget = 0; seed = 0; with_sum = false; with_map = false })

run_is_done : with_status a_run write_fault no_calls ≡ with_put (with_get get_limit no_calls)
run_is_done = refl

run_is_refused : with_status a_run bad_trace no_calls ≡ with_get get_limit no_calls
run_is_refused = refl

-- threads change nothing of what `show` makes, and of what can be shown
made_by_threads : (image : List ℕ) (with_map : Bool) (contents : Contents) (left put : Option (List ℕ)) (text : List ℕ)
    → Makes (show_image image with_map true) contents left put text → Makes (show_image image with_map false) contents left put text
made_by_threads image with_map contents left put text made = made

done_by_threads : (image : List ℕ) (with_map : Bool) (contents : Contents) (left : Option (List ℕ))
    → CanBeDone (show_image image with_map false) contents left → CanBeDone (show_image image with_map true) contents left
done_by_threads image with_map contents left can = can

-- `show` asks for the dictionary's kinds, and `conservative` for none and for no links
kinds_of_show : kinds_checked (show_image (codes "h") false true) ≡ Some kind_count
kinds_of_show = refl

no_kinds : kinds_checked (conservative_image (codes "h") false) ≡ None
no_kinds = refl

no_links : FollowsLinks (conservative_image (codes "h") true) → ⊥
no_links follows = follows

-- `count` asks for the dictionary's kinds, and is refused for a word outside only where anchors don't tell what is held
kinds_of_count : kinds_checked (count_image (codes "h") false) ≡ Some kind_count
kinds_of_count = refl

none_refused : (bytes : List ℕ) → IsOrderlyIn bytes → RefusesOutside (count_image (codes "h") false) bytes → ⊥
none_refused bytes orderly refuses = refuses orderly

show_refuses : (bytes : List ℕ) → RefusesOutside (show_image (codes "h") false false) bytes
show_refuses bytes = tt

-- what a source has left, where it tells
all_left : HasLeft (Some (codes "get 1")) (codes "get 1")
all_left = refl

not_too_much : HasTooMuch (Some (codes "get 1")) → ⊥
not_too_much more = omega (arith, more)

line_of_usage : own_line usage ≡ Some (codes "usage" ++ line_feed)
line_of_usage = refl

no_own_line : (own_line done ≡ None) × (own_line bad_header ≡ None)
no_own_line = (refl, refl)
