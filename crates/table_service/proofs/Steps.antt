-- Calls by which a service is kept up, one after the other.
use Rattle.std.proofs.Common.{ℕ}
use Rattle.desk_sockets.proofs.Reaching.{both as reaches_both, none, one}
use Rattle.table_service.specs.Services.{ServiceOf}
use Rattle.table_service.specs.Steps.{HandsOut, IsKeptUp, Step, StepLeads}

pub still : (s : ServiceOf) → IsKeptUp s s
still s = none StepLeads s

pub step : (call : Step) (old new : ServiceOf) → StepLeads call old new → IsKeptUp old new
step call old new leads = one StepLeads {call = call} {old = old} {new = new} leads

pub both : (a b c : ServiceOf) → IsKeptUp a b → IsKeptUp b c → IsKeptUp a c
both a b c first later = reaches_both first later

pub amid : (now : ℕ) (a b c d : ServiceOf) → IsKeptUp a b → HandsOut now b c → IsKeptUp c d
    → HandsOut now a d
amid now a b c d first hands later =
    (hands.0, hands.1, both a b hands.0 first hands.2, hands.3, both hands.1 c d hands.4 later)
