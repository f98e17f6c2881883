use Rattle.std.proofs.Common.{◌∙◌, sym}
use Rattle.std.proofs.KnownBytes.{Keeps-refl}
use Rattle.subcommands.proofs.Unnamed.{names_none}
use Rattle.subcommands.proofs.asking.carry_at.Goals as goal

pub returns-then-lacks_name-clause-ends : goal.returns-then-lacks_name-clause-ends
returns-then-lacks_name-clause-ends g c =
    rw (sym c.lacks_name.ensures ∙ c.if-lacks_name.true) (c.unnamed_at.ensures, Keeps-refl _)

pub returns-then-lacks_name-clause-quiet : goal.returns-then-lacks_name-clause-quiet
returns-then-lacks_name-clause-quiet g c =
    λ zero named. absurd
    (names_none c.args.place c.args.request (sym c.lacks_name.ensures ∙ c.if-lacks_name.true) named)

pub returns-clause-ends : goal.returns-clause-ends
returns-clause-ends g c =
    rw (sym c.lacks_name.ensures ∙ c.if-lacks_name.false, ← c.is_of_file-names.ensures)
    c.carry_named.ensures.ends
