use Rattle.std.proofs.Common.{rules, sym, subst}
use Rattle.wire.specs.Ranges.{IsFrame}
use Rattle.serving.{specs.Connection.answer_frame, proofs.OneFrame.answer_is_frame}
use Rattle.serving.proofs.session.Session.spell_what.Goals as goal

pub encode-requires : goal.encode-requires
encode-requires c =
    subst (λ w. IsFrame (answer_frame c.args.version c.args.self.home w)) (sym c.said_in.ensures)
    (answer_is_frame c.args.version c.args.self.home c.args.what (search rules) c.args.self.ours
    c.args.self.few c.requires.in_range)
