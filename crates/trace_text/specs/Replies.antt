-- The replies to a trace, as bytes.
use Rattle.std.specs.Prelude.{ℕ, Bool, true, false, if◌then◌else◌, List, ◌++◌, codes, decimal, length, count_by}
use Rattle.std.specs.List.{flat_map}
use Rattle.trace_text.specs.declared.reply.Reply.{Reply}
use Rattle.trace_text.specs.declared.reply.Reply.TheVariants.{Ok, Full, None, Value, Unanswered}
use Rattle.trace_text.specs.Report.{line_feed}
use Rattle.trace_text.specs.Values.{value_word}

-- a reply in a line
abbrev pub reply_line : Reply → List ℕ
reply_line Ok = codes "ok" ++ line_feed
reply_line Full = codes "full" ++ line_feed
reply_line None = codes "none" ++ line_feed
reply_line (Value bytes) = value_word bytes ++ line_feed
reply_line Unanswered = codes "unanswered" ++ line_feed

-- whether a reply is of a kind
abbrev pub is_ok : Reply → Bool
is_ok Ok = true
is_ok reply = false

-- that a key is missing
abbrev pub is_none : Reply → Bool
is_none None = true
is_none reply = false

-- a value that was found
abbrev pub is_value : Reply → Bool
is_value (Value bytes) = true
is_value reply = false

-- that there was no room
abbrev pub is_full : Reply → Bool
is_full Full = true
is_full reply = false

-- none, since the run was stopped
abbrev pub is_unanswered : Reply → Bool
is_unanswered Unanswered = true
is_unanswered reply = false

-- a count behind what it counts
abbrev pub counted : List ℕ → ℕ → List ℕ
counted what count = what ++ decimal count

-- how many replies are of each kind, in one line
abbrev pub summary_line : List Reply → List ℕ
summary_line replies =
    counted (codes "requests ") (length replies)
    ++ counted (codes " ok ") (count_by is_ok replies)
    ++ counted (codes " none ") (count_by is_none replies)
    ++ counted (codes " value ") (count_by is_value replies)
    ++ counted (codes " full ") (count_by is_full replies)
    ++ counted (codes " unanswered ") (count_by is_unanswered replies)
    ++ line_feed

-- how the run ended
abbrev pub end_word : Bool → List ℕ
end_word true = codes "stopped"
end_word false = codes "closed"

-- and the line that says so
abbrev pub end_line : Bool → List ℕ
end_line is_stopped = codes "run " ++ end_word is_stopped ++ line_feed

-- the replies, or how many of them are of each kind
abbrev pub reply_lines : Bool → List Reply → List ℕ
reply_lines is_summed replies = if is_summed then summary_line replies else flat_map reply_line replies

-- the replies to a trace, and how its run ended
abbrev pub replies_text : List Reply → Bool → Bool → List ℕ
replies_text replies is_stopped is_summed = reply_lines is_summed replies ++ end_line is_stopped
