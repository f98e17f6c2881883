-- A competition's file with a result, by hand.
use Rattle.std.specs.Prelude.{ℕ, List, [], ◌∷◌, ◌++◌, codes, None, Some}
use Rattle.formats.specs.declared.advance.Advance.TheVariants.{Final}
use Rattle.formats.specs.declared.events.{Event.TheVariants.Cube3, Format.TheVariants.Bo1}
use Rattle.texts.specs.Fields.{attempt_entry, round_id}
use Rattle.texts.specs.declared.command.{Command.Command, Entered.TheVariants.Time}
use Rattle.texts.specs.declared.command.Command.TheVariants.{Register, Open, Enter, Attempt}
use Rattle.wcif_results.specs.Files.{Exports}

-- a competitor has one attempt in 9.00
abbrev pub commands : List Command
commands =
    Register 1 (codes "Ann Li") ∷ Open (round_id Cube3 1)
    (record { format = Bo1; cutoff = None; limit = Some 60000; advance = Final })
    ∷ Enter Cube3 1 ∷ Attempt (attempt_entry (round_id Cube3 1) 1 1 (Time 900 0)) ∷ []

-- the file up to the results of its one round, and after them
abbrev pub front : List ℕ
front =
    codes "{\"persons\":[{\"registrantId\":1,\"name\":\"Ann Li\","
    ++ (codes "\"registration\":{\"status\":\"accepted\"}}],"
    ++ codes "\"events\":[{\"id\":\"333\",\"rounds\":[{\"id\":\"333-r1\",\"results\":[")

abbrev pub back : List ℕ
back = codes "]}]}]}"

abbrev pub result : List ℕ
result =
    codes "{\"personId\":1,\"ranking\":1,\"attempts\":[{\"result\":900,\"reconstruction\":null}],"
    ++ codes "\"best\":900,\"average\":0}"

pub record WorksExport : Type 0 where
  pub exports : Exports commands (front ++ back) (front ++ (result ++ back))
