-- Worked examples by computation: what the lines of a trace ask for, what told replies are, and lengths of values.
use Rattle.std.specs.Prelude.{◌≡◌, [], ◌∷◌, None, Some, refl}
use Rattle.std.proofs.Common.{arith, inr}
use Rattle.dict_model.specs.Requests.{put, get, del, done, full, none, found}
use Rattle.trace_text.specs.declared.reply.Reply.TheVariants.{Ok, Full, None as NotThere, Value, Unanswered}
use Rattle.trace_text.specs.declared.request.Request.TheVariants.{Put, Get, Del}
use Rattle.worker_run.specs.Rooms.{length_of, IsPutLength}
use Rattle.worker_run.specs.Said.{requests_of, replies_of}

asked : requests_of (Put 5 (97 ∷ 98 ∷ []) ∷ Get 5 ∷ Del 5 ∷ []) ≡ put 5 (97 ∷ 98 ∷ []) ∷ get 5 ∷ del 5 ∷ []
asked = refl

-- what is told as unanswered is no reply, and a key that isn't there is told otherwise
told : replies_of (Ok ∷ Full ∷ NotThere ∷ Value (97 ∷ []) ∷ Unanswered ∷ []) ≡ Some done ∷ Some full ∷ Some none ∷ Some (found (97 ∷ [])) ∷ None ∷ []
told = refl

-- a value that is not there has no bytes
no_value : length_of None ∷ length_of (Some (97 ∷ 98 ∷ [])) ∷ [] ≡ 0 ∷ 2 ∷ []
no_value = refl

-- the length of a value that is put under a key is one that may stand there
put_lengths : IsPutLength (put 5 (97 ∷ 98 ∷ []) ∷ get 5 ∷ []) 5 2
put_lengths = inr (97 ∷ 98 ∷ [], (0, omega arith, refl), refl)
