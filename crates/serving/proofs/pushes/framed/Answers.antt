use Rattle.serving.proofs.Framed.{is_frame}
use Rattle.serving.proofs.pushes.framed.Goals as goal

pub returns-clause-spelled : goal.returns-clause-spelled
returns-clause-spelled c =
    rw c.in_ok-what.ensures.what
    (is_frame c.args.version c.args.hall c.args.desks c.args.message c.ranges.hall.fits
    c.requires.few c.requires.in_range c.in_ok-what.ensures.typed)
