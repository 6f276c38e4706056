-- How often a command calls the store, and for how many bytes.
use Rattle.std.specs.Prelude.{ℕ, ◌+◌, ◌*◌, List, Option, Some, None, nat_eq, if◌then◌else◌}
use Rattle.heap_model.specs.Geometry.{image_words, largest_capacity}
use Rattle.tool_ports.specs.Calls.{with_get, with_put}
use Rattle.tool_ports.specs.declared.store_calls.StoreCalls.{StoreCalls}
use Rattle.tool_command.specs.Command.{Command, format_image, show_image, drain_image, gen_trace, run_image, rebuild_image, replay_image, conservative_image, count_image}
use Rattle.tool_run.specs.Status.{write_fault}

-- the bytes of the longest image
abbrev pub longest_image : ℕ
longest_image = 8 * image_words largest_capacity

-- how many bytes of an image are asked for: one more than the longest has, so that a longer one shows
abbrev pub get_limit : ℕ
get_limit = longest_image + 1

-- once the command's result is made: one get where it gets the image that it names, and no put
abbrev pub with_making : Command → StoreCalls → StoreCalls
with_making (format_image image capacity) before = before
with_making (show_image image with_map in_parallel) before = with_get get_limit before
with_making (drain_image image class) before = with_get get_limit before
with_making (gen_trace requests seed) before = before
with_making (run_image image options) before = with_get get_limit before
with_making (rebuild_image image budget seed) before = with_get get_limit before
with_making (replay_image image seed) before = with_get get_limit before
with_making (conservative_image image with_map) before = with_get get_limit before
with_making (count_image image with_map) before = with_get get_limit before

-- once an image is put, if there is one
abbrev pub with_putting : Option (List ℕ) → StoreCalls → StoreCalls
with_putting None before = before
with_putting (Some image) before = with_put before

-- once the command is carried out
abbrev pub with_command : Command → StoreCalls → StoreCalls
with_command (format_image image capacity) before = with_put before
with_command (show_image image with_map in_parallel) before = with_get get_limit before
with_command (drain_image image class) before = with_get get_limit before
with_command (gen_trace requests seed) before = before
with_command (run_image image options) before = with_put (with_get get_limit before)
with_command (rebuild_image image budget seed) before = with_put (with_get get_limit before)
with_command (replay_image image seed) before = with_get get_limit before
with_command (conservative_image image with_map) before = with_get get_limit before
with_command (count_image image with_map) before = with_get get_limit before

-- once the command ended with this status: an image was put only where the result was put and printed, or cut off
abbrev pub with_status : Command → ℕ → StoreCalls → StoreCalls
with_status command status before =
    if nat_eq status write_fault then with_command command before else with_making command before
