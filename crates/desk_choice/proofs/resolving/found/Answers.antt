use Rattle.std.proofs.{Common.inr, Common.refl, lemmas.Result.IfErr-weaker}
use Rattle.std.proofs.lemmas.Result.{IfOk-weaker}
use Rattle.desk_choice.specs.Keys.{naming}
use Rattle.desk_choice.proofs.Found.{chosen_later, keyless, not_chosen_later}
use Rattle.desk_choice.proofs.resolving.found.Goals as goal

pub returns-in-Err-key_of_hall-clause-err : goal.returns-in-Err-key_of_hall-clause-err
returns-in-Err-key_of_hall-clause-err g c =
    keyless (naming c.args.path c.args.given) c.args.desk c.args.patience c.in-Ok.file _
    c.in-Err-key_of_hall.fault c.in-Ok.ensures.ok
    (record { dialed = refl; told = c.in-Ok.ensures.quiet }) c.in-Err-key_of_hall.ensures.err

pub returns-in-Some-clause-ok : goal.returns-in-Some-clause-ok
returns-in-Some-clause-ok g c =
    rw c.in-Some.is (IfOk-weaker c.desk_of.result _ _ (λ a of. (
      c.in-Ok.file,
      c.in-Ok.ensures.ok.0,
      c.in-Ok.ensures.ok.1,
      c.in-Ok-key_of_hall.key,
      c.in-Ok-key_of_hall.ensures.ok,
      (of, record { dialed = refl; told = c.in-Ok.ensures.quiet }),
    )) c.desk_of.ensures.ok)

pub returns-in-Some-clause-err : goal.returns-in-Some-clause-err
returns-in-Some-clause-err g c =
    rw c.in-Some.is (IfErr-weaker c.desk_of.result _ _ (λ f of. inr (
      record { dialed = refl; told = c.in-Ok.ensures.quiet },
      (
        c.in-Ok.file,
        c.in-Ok.ensures.ok.0,
        c.in-Ok.ensures.ok.1,
        c.in-Ok-key_of_hall.key,
        c.in-Ok-key_of_hall.ensures.ok,
        of,
      ),
    )) c.desk_of.ensures.err)

pub returns-clause-ok : goal.returns-clause-ok
returns-clause-ok g c =
    rw c.in-None.is (IfOk-weaker c.chosen.result _ _ (λ a of. (
      c.in-Ok.file,
      c.in-Ok.ensures.ok.0,
      c.in-Ok.ensures.ok.1,
      c.in-Ok-key_of_hall.key,
      c.in-Ok-key_of_hall.ensures.ok,
      chosen_later _ _ _ a _ _ _ (g.F.Write.contents c.hall_of_file.new.faults) _
          c.in-Ok.ensures.quiet of,
    )) c.chosen.ensures.ok)

pub returns-clause-err : goal.returns-clause-err
returns-clause-err g c =
    rw c.in-None.is (IfErr-weaker c.chosen.result _ _ (λ f of. inr (
      c.in-Ok.file,
      c.in-Ok.ensures.ok.0,
      c.in-Ok.ensures.ok.1,
      c.in-Ok-key_of_hall.key,
      c.in-Ok-key_of_hall.ensures.ok,
      not_chosen_later f _ _ _ _ _ _ (g.F.Write.contents c.hall_of_file.new.faults) _
          c.in-Ok.ensures.quiet of,
    )) c.chosen.ensures.err)
