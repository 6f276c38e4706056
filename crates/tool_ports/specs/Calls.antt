-- How often a store of images was called, and for how many bytes.
use Rattle.std.specs.Prelude.{◌≡◌, ℕ, max, refl}
use Rattle.tool_ports.specs.Causes.{one_more}
use Rattle.tool_ports.specs.declared.store_calls.StoreCalls.{StoreCalls}

-- no call was made
abbrev pub no_calls : StoreCalls
no_calls = record { gets = 0; puts = 0; most = 0 }

-- one get more, of at most so many bytes
abbrev pub with_get : ℕ → StoreCalls → StoreCalls
with_get most before = record { gets = one_more before.gets; puts = before.puts; most = max before.most most }

-- one put more
abbrev pub with_put : StoreCalls → StoreCalls
with_put before = record { gets = before.gets; puts = one_more before.puts; most = before.most }

-- the greatest number of bytes that was asked for is kept
two_gets : with_get 3 (with_get 7 no_calls) ≡ record { gets = 2; puts = 0; most = 7 }
two_gets = refl

get_and_put : with_put (with_get 7 no_calls) ≡ record { gets = 1; puts = 1; most = 7 }
get_and_put = refl
