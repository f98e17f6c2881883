-- What is entered for an attempt, as a scoretaker may type it (the project's own).
use Rattle.std.specs.Prelude.{ℕ, zero, suc, ◌*◌, List, [], ◌++◌, codes, decimal}
use Rattle.attempts.specs.Texts.{multi_text, time_text}
use Rattle.cube.specs.notation.Notation.{spelling as moves_text}
use Rattle.texts.specs.declared.command.Entered.{Entered}
use Rattle.texts.specs.declared.command.Entered.TheVariants as entered

-- the seconds that penalties add, after a plus
abbrev pub penalty_text : ℕ → List ℕ
penalty_text zero = []
penalty_text (suc n) = codes "+" ++ decimal (2 * suc n)

abbrev pub entered_typed : Entered → List ℕ
entered_typed (entered.Time time penalties) = time_text time ++ penalty_text penalties
entered_typed (entered.Solution moves) = moves_text moves
entered_typed (entered.Multi solved attempted seconds) = multi_text solved attempted seconds
entered_typed entered.Dnf = codes "DNF"
entered_typed entered.Dns = codes "DNS"
