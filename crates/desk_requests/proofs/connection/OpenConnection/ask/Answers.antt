use Rattle.std.proofs.Common.{Result, Ok, Err, IfOk}
use Rattle.client.specs.declared.fault.ClientFault.{ClientFault}
use Rattle.wire.specs.{Ranges.IsFrame, declared.frame.Frame.Frame}
use Rattle.desk_requests.proofs.connection.OpenConnection.ask.Goals as goal

frame_of : (came : Result Frame ClientFault) (Is : Frame → Type 0)
    → IfOk came Is → ((f : Frame) → Is f → IsFrame f) → IfOk came IsFrame
frame_of (Ok frame) Is heard spelled = spelled frame heard
frame_of (Err e) Is heard spelled = tt

pub returns : goal.returns
returns c = frame_of c.hear.result _ c.hear.ensures.ok (λ f h. h.2.spelled)
