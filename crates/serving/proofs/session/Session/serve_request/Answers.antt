use Rattle.std.proofs.Common.{ap, refl, subst, ◌∙◌, [], ◌∷◌, Some}
use Rattle.serving.specs.{Answering.standing, Asking.IsAskedIn}
use Rattle.serving.proofs.{OneFrame.in_version, Answered.quiet}
use Rattle.serving.specs.declared.request.Request.TheVariants.{Asked, Printed, Inspected, Copied}
use Rattle.serving.specs.declared.request.Request.TheVariants.{Stopped, Strange, Denied, Withheld}
use Rattle.serving.specs.declared.request.Request.TheVariants.{Ignored}
use Rattle.wire.specs.declared.frame.FrameBody.TheVariants as what
use Rattle.serving.proofs.session.Session.serve_request.Goals as goal

pub returns-in-Asked-clause-ok : goal.returns-in-Asked-clause-ok
returns-in-Asked-clause-ok g c =
    let said = c.asked.ensures.what in
    quiet c.args.self.home c.args.request (Asked c.in-Asked.id) (said.0 ∷ []) _ _ _ c.in-Asked.is refl
    (ap (λ z. Some z) said.1)

pub returns-in-Printed-clause-ok : goal.returns-in-Printed-clause-ok
returns-in-Printed-clause-ok g c =
    let said = c.printed.ensures.what in
    quiet c.args.self.home c.args.request
    (Printed c.in-Printed.event c.in-Printed.round c.in-Printed.position c.in-Printed.style)
    (said.0 ∷ []) _ _ _ c.in-Printed.is refl (ap (λ z. Some z) said.1)

pub returns-in-Inspected-clause-ok : goal.returns-in-Inspected-clause-ok
returns-in-Inspected-clause-ok g c =
    let seen = g.D.Desk.seen c.args.node.now in
    let differs = c.in-Inspected.differs in
    quiet c.args.self.home c.args.request (Inspected differs) [] _ _ _ c.in-Inspected.is refl
    (ap (λ z. Some z) (c.inspected.ensures.what
    ∙ ap (λ home. what.Standing (standing home seen differs)) c.requires.home))

pub returns-in-Copied-clause-ok : goal.returns-in-Copied-clause-ok
returns-in-Copied-clause-ok g c =
    let said = c.copied.ensures.what in
    quiet c.args.self.home c.args.request (Copied c.in-Copied.position) (said.0 ∷ []) _ _ _ c.in-Copied.is refl
    (ap (λ z. Some z) said.1)

pub returns-in-Stopped-clause-ok : goal.returns-in-Stopped-clause-ok
returns-in-Stopped-clause-ok g c =
    quiet c.args.self.home c.args.request Stopped [] _ _ _ c.in-Stopped.is refl refl

pub returns-in-Strange-clause-ok : goal.returns-in-Strange-clause-ok
returns-in-Strange-clause-ok g c =
    quiet c.args.self.home c.args.request Strange [] _ _ _ c.in-Strange.is refl refl

pub returns-in-Denied-clause-ok : goal.returns-in-Denied-clause-ok
returns-in-Denied-clause-ok g c =
    quiet c.args.self.home c.args.request Denied [] _ _ _ c.in-Denied.is refl refl

pub returns-in-Withheld-clause-ok : goal.returns-in-Withheld-clause-ok
returns-in-Withheld-clause-ok g c =
    quiet c.args.self.home c.args.request Withheld [] _ _ _ c.in-Withheld.is refl refl

pub returns-in-Ignored-clause-ok : goal.returns-in-Ignored-clause-ok
returns-in-Ignored-clause-ok g c =
    quiet c.args.self.home c.args.request Ignored [] _ _ _ c.in-Ignored.is refl refl

pub returns-in-Asked-clause-in_range : goal.returns-in-Asked-clause-in_range
returns-in-Asked-clause-in_range g c =
    λ version asked. in_version version c.asked.ensures.in_range

pub returns-in-Printed-clause-in_range : goal.returns-in-Printed-clause-in_range
returns-in-Printed-clause-in_range g c =
    λ version asked. in_version version c.printed.ensures.in_range

pub returns-in-Inspected-clause-in_range : goal.returns-in-Inspected-clause-in_range
returns-in-Inspected-clause-in_range g c =
    λ version asked. c.inspected.ensures.in_range version
    (subst (λ r. IsAskedIn version r) c.in-Inspected.is asked)

pub returns-in-Copied-clause-in_range : goal.returns-in-Copied-clause-in_range
returns-in-Copied-clause-in_range g c =
    λ version asked. c.copied.ensures.in_range version
    (subst (λ r. IsAskedIn version r) c.in-Copied.is asked)
