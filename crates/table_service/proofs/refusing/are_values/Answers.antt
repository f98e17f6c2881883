use Rattle.std.proofs.Common.{◌≡◌, List, [], ◌∷◌, refl, ◌∙◌}
use Rattle.std.specs.Cmp.Lexicographic.{pointwise}
use Rattle.attempts.specs.{contracts.ValuePartialEq.TheImpl.eq-value, declared.Value.Value}
use Rattle.commands.specs.Accepted.{is_value, are_values}
use Rattle.attempts.specs.declared.Value.TheVariants as value
use Rattle.table_service.proofs.refusing.are_values.Goals as goal

one_is : (v w : Value) → eq-value.it v w ≡ is_value v w
one_is (value.Number n) (value.Number m) = refl
one_is (value.Number n) value.Dnf = refl
one_is (value.Number n) value.Dns = refl
one_is value.Dnf (value.Number m) = refl
one_is value.Dnf value.Dnf = refl
one_is value.Dnf value.Dns = refl
one_is value.Dns (value.Number m) = refl
one_is value.Dns value.Dnf = refl
one_is value.Dns value.Dns = refl

each_is : (vs ws : List Value) → pointwise eq-value.it vs ws ≡ are_values vs ws
each_is [] [] = refl
each_is [] (w ∷ ws) = refl
each_is (v ∷ vs) [] = refl
each_is (v ∷ vs) (w ∷ ws) = rw (one_is v w, each_is vs ws) refl

pub returns : goal.returns
returns c = c.eq.ensures ∙ each_is c.args.was.now c.args.stand.now
