-- A question that was asked.
use Rattle.std.proofs.Common.{◌≡◌, ℕ, Bool, true, false, subst}
use Rattle.wire.specs.declared.frame.Frame.{Frame}
use Rattle.desk_talks.specs.KeptConnections.{AsksOver, KeptConnectionOf}

pub asks_true : (asked : Bool) (now : ℕ) (question other : Frame) (old new : KeptConnectionOf)
    → asked ≡ true → question ≡ other → AsksOver asked now question old new
    → AsksOver true now other old new
asks_true true now question other old new e is h =
    subst (λ z. AsksOver true now z old new) is h
asks_true false now question other old new e is h = absurd cc
