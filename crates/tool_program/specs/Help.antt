-- The help has the ranges that the constants give.
use Rattle.std.specs.Prelude.{◌≡◌, ℕ, ◌*◌, ◌/◌, ◌+◌, Bool, ◌||◌, nat_eq, true, false, List, [], ◌∷◌, ◌++◌, codes, decimal, refl}
use Rattle.std.specs.Fmt.{digits}
use Rattle.std.specs.List.{starts_with}
use Rattle.image_run.specs.declared.options.TheConstants.{MOST_WORKERS, MOST_BUDGET}
use Rattle.super_block.specs.declared.layout.TheConstants.{LARGEST_CAPACITY, LAST_CLASS, SUPERBLOCK_WORDS, WORD_BYTES}
use Rattle.tool_command.specs.declared.trace_plan.TheConstants.{MOST_REQUESTS, GREATEST_SEED}
use Rattle.tool_run.specs.Status.{done, usage, out_of_memory, read_fault, write_fault, no_image, bad_header, outside, bad_shard, bad_trace}
use Rattle.tool_program.specs.declared.usage.TheConstants.{USAGE}

-- the part stands somewhere in the text
abbrev pub has_part : List ℕ → List ℕ → Bool
has_part [] part = starts_with nat_eq [] part
has_part (byte ∷ bytes) part = starts_with nat_eq (byte ∷ bytes) part || has_part bytes part

superblocks : has_part USAGE.now (codes "S superblocks of " ++ decimal
    (WORD_BYTES * SUPERBLOCK_WORDS / 1024) ++ codes " KiB (1 to " ++ decimal LARGEST_CAPACITY ++ codes ")") ≡ true
unfolding digits
superblocks = refl

workers : has_part USAGE.now (codes "N is 1 to " ++ decimal MOST_WORKERS ++ (10 ∷ [])) ≡ true
unfolding digits
workers = refl

steps : has_part USAGE.now (codes "stop at step K, as by a crash (0 to " ++ decimal MOST_BUDGET ++ codes "; the default)") ≡ true
unfolding digits
steps = refl

classes : has_part USAGE.now (codes "allocate in the class (1 to " ++ decimal LAST_CLASS ++ codes ")") ≡ true
unfolding digits
classes = refl

requests : has_part USAGE.now (codes "N requests (0 to " ++ decimal MOST_REQUESTS ++ codes ") from SEED (0 to " ++ decimal GREATEST_SEED ++
    codes ")") ≡ true
unfolding digits
requests = refl

-- the statuses, each with what it says
first_statuses : has_part USAGE.now (codes "status: " ++ decimal done ++ codes " done, " ++ decimal usage ++ codes " usage, " ++ decimal
    out_of_memory ++ codes " out of memory, "
    ++ decimal read_fault ++ codes " read fault, " ++ decimal write_fault ++ codes " write fault, " ++ decimal no_image ++ codes " no image,") ≡ true
unfolding digits
first_statuses = refl

other_statuses : has_part USAGE.now (decimal bad_header ++ codes " bad header, " ++ decimal outside ++ codes " pointer outside, " ++ decimal
    bad_shard ++ codes " bad shard, "
    ++ decimal bad_trace ++ codes " bad trace or schedule") ≡ true
unfolding digits
other_statuses = refl

-- and no other
no_more_workers : has_part USAGE.now (codes "N is 1 to " ++ decimal (MOST_WORKERS + 1)) ≡ false
unfolding digits
no_more_workers = refl
