use Rattle.std.proofs.Common.{◌<◌, length, take, set, List, ap, sym, ◌∙◌, subst, arith}
use Rattle.std.proofs.{Math.Seq.take-set-lt, lemmas.List.length-take}
use Rattle.attempts.specs.declared.Value.{Value}
use Rattle.rounds.proofs.value_row.ValueRow.with_other.Goals as goal

pub returns : goal.returns
returns c =
    let there : c.args.index < length (take c.self.inside.done c.self.inside.values) =
    subst (λ (vs : List Value). c.args.index < length vs) (sym c.self.view_is) c.requires in
    let below : c.args.index < c.self.inside.done =
    omega (arith, there, length-take c.self.inside.done c.self.inside.values) in
    take-set-lt c.self.inside.done c.self.inside.values c.args.index c.args.value below
    ∙ ap (λ (vs : List Value). set vs c.args.index c.args.value) c.self.view_is
