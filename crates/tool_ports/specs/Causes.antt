-- How the counts of a port go on, and why a port answers that the outside failed: it has counted a failure.
use Rattle.std.specs.Prelude.{◌≡◌, ℕ, ◌+◌, ◌-◌, ◌^◌, ◌≤◌, min, refl}

-- a count after one event more, which stands at its last value
abbrev pub one_more : ℕ → ℕ
one_more count = min (count + 1) (2 ^ 64 - 1)

-- the count of faults rose, or it stands at its last value
abbrev pub Rose : ℕ → ℕ → Type 0
Rose before now = one_more before ≤ now

-- one fault was counted: the count is one more, or stands at its last value
abbrev pub RoseByOne : ℕ → ℕ → Type 0
RoseByOne before now = now ≡ one_more before

-- The count of faults never falls. At the answer that tells of a failure it is one more, so one call failed
-- and none was made again; it stays at every other.
pub record HasCause (before now : ℕ) (failed : Type 0) : Type 0 where
  pub later : before ≤ now
  pub rose : failed → RoseByOne before now
  pub steady : ¬ failed → now ≡ before

-- one event is counted
first_is_counted : one_more 0 ≡ 1
first_is_counted = refl

-- at the last value the count can't rise, and stands
last_value_stands : one_more (2 ^ 64 - 1) ≡ 2 ^ 64 - 1
last_value_stands = refl
