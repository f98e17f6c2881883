use Rattle.serving.proofs.Pushed.{pushed_so}
use Rattle.serving.proofs.session.Session.push_message.Goals as goal

pub returns-clause-ok : goal.returns-clause-ok
returns-clause-ok g c =
    pushed_so c.args.self.wire c.args.self.home.hall c.args.message c.in_ok-frame.frame
    c.in_ok-bytes.bytes.items c.deref.result.now _ _ c.in_ok-frame.ensures.frame
    c.in_ok-bytes.ensures c.deref.ensures.value c.push.ensures
