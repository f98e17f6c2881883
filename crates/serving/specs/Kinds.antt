-- Frames that may take long to answer, and those that have no answer (the project's own).
use Rattle.std.specs.Prelude.{Bool, true, false, List, [], ◌∷◌}
use Rattle.wire.specs.declared.frame.{Frame.Frame, FrameBody.FrameBody}
use Rattle.wire.specs.declared.frame.FrameBody.TheVariants as what

-- it asks for a sheet, or for entries of the log: what that takes grows with the log
abbrev pub is_dear : FrameBody → Bool
is_dear (what.Sheet event round position style) = true
is_dear (what.Log position) = true
is_dear _ = false

-- whether the first of these frames does, if there is one
abbrev pub dear_next : List Frame → Bool
dear_next [] = false
dear_next (frame ∷ frames) = is_dear frame.what

-- it is a message of a desk to a desk, which has no answer
abbrev pub is_message : FrameBody → Bool
is_message (what.Prepare b pos) = true
is_message (what.Promise b pos vote) = true
is_message (what.Accept b pos e) = true
is_message (what.Accepted b pos) = true
is_message (what.Nack b pos promised) = true
is_message (what.Behind len) = true
is_message (what.Decided pos es) = true
is_message _ = false

-- whether the first of these frames is, if there is one
abbrev pub message_next : List Frame → Bool
message_next [] = false
message_next (frame ∷ frames) = is_message frame.what
