use Rattle.std.proofs.Common.{◌≡◌, ◌++◌, take}
use Rattle.std.specs.List.{flat_map}
use Rattle.std.specs.String.{string_bytes}
use Rattle.trace_text.specs.Replies.{reply_line}
use Rattle.trace_text.proofs.reply.write_replies.Given as goal

-- the replies before this one are written
abbrev pub invariant-loop-reply : goal.invariant-loop-reply
invariant-loop-reply l = string_bytes l.text ≡ string_bytes l.initial.text ++ flat_map reply_line (take l.reply-index l.replies)
