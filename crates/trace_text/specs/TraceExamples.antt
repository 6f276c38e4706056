-- Worked examples of traces, replies and traces that are made.
use Rattle.std.specs.Prelude.{◌≡◌, [], ◌∷◌, ◌++◌, codes, true, false, refl}
use Rattle.std.proofs.Common.{inl, inr, arith}
use Rattle.std.specs.Fmt.{digits}
use Rattle.hex.specs.Hex.{decode_pairs, encode_with}
use Rattle.trace_text.specs.declared.reply.Reply.TheVariants.{Ok, Full, Value, Unanswered}
use Rattle.trace_text.specs.declared.request.Request.TheVariants.{Put, Get, Move}
use Rattle.trace_text.specs.Generated.{made_trace, request_line}
use Rattle.trace_text.specs.Replies.{replies_text}
use Rattle.trace_text.specs.Report.{line_feed}
use Rattle.trace_text.specs.Trace.{lines_of, IsLine}

-- an empty text has no line, and a line feed alone ends an empty one
no_line : lines_of [] ≡ []
no_line = refl

an_empty_line : lines_of (codes "a" ++ line_feed ++ line_feed ++ codes "b") ≡ codes "a" ∷ [] ∷ codes "b" ∷ []
an_empty_line = refl

-- the last line may lack its line feed
ended_or_not : lines_of (codes "get 1" ++ line_feed) ≡ lines_of (codes "get 1")
ended_or_not = refl

-- digits of either case, and no byte at all
a_put : IsLine (codes "put 5 aBc0") (Put 5 (171 ∷ 192 ∷ []))
unfolding digits decode_pairs
a_put = record {
  key_word = codes "5";
  value_word = codes "aBc0";
  line_is = refl;
  key_is = (omega arith, refl);
  value_is = inr (refl, omega arith, omega arith);
}

an_empty_put : IsLine (codes "put 0 -") (Put 0 [])
unfolding digits
an_empty_put = record {
  key_word = codes "0";
  value_word = codes "-";
  line_is = refl;
  key_is = (omega arith, refl);
  value_is = inl (refl, refl);
}

a_get : IsLine (codes "get 10") (Get 10)
unfolding digits
a_get = record { word = codes "10"; line_is = refl; key_is = (omega arith, refl) }

a_move : IsLine (codes "move 0 18446744073709551615") (Move 0 18446744073709551615)
unfolding digits
a_move = record {
  key_word = codes "0";
  to_word = codes "18446744073709551615";
  line_is = refl;
  key_is = (omega arith, refl);
  to_is = (omega arith, refl);
}

-- a move as it is printed
a_printed_move : request_line (Move 7 10) ≡ codes "move 7 10" ++ line_feed
unfolding digits
a_printed_move = refl

-- replies, and how many there are of each kind: a value of no bytes is a value
four_replies : replies_text (Ok ∷ Value [] ∷ Full ∷ Unanswered ∷ []) true false
    ≡ codes "ok" ++ line_feed ++ codes "-" ++ line_feed ++ codes "full" ++ line_feed
    ++ codes "unanswered" ++ line_feed ++ codes "run stopped" ++ line_feed
four_replies = refl

four_counted : replies_text (Ok ∷ Value [] ∷ Full ∷ Unanswered ∷ []) true true
    ≡ codes "requests 4 ok 1 none 0 value 1 full 1 unanswered 1" ++ line_feed ++ codes "run stopped" ++ line_feed
unfolding digits
four_counted = refl

-- the first requests of seed 0
first_two : made_trace 2 0
    ≡ codes "put 0 -" ++ line_feed ++ codes "put 2531 3738393a3b3c3d3e3f404142434445464748494a4b4c4d4e" ++ line_feed
unfolding digits encode_with
first_two = refl
