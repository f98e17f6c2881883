use Rattle.std.proofs.Common.{◌≡◌}
use Rattle.board_rounds.specs.Persons.{attempts_words}
use Rattle.board_rounds.proofs.persons.attempts_text.Given as goal

-- the attempts so far
abbrev pub invariant-loop-place : goal.invariant-loop-place
invariant-loop-place l = l.text.items ≡ attempts_words l.unit l.format l.values l.place
