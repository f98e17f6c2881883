use Rattle.std.proofs.Common.{◌≡◌, Bool, Bor, List, Option, ℕ, false, inr, refl, true}
use Rattle.arguments.specs.declared.task.HallService.{HallService}
use Rattle.batch.specs.Dialing.{Dialed}
use Rattle.hall_file.specs.declared.hall_file.HallFile.{HallFile}
use Rattle.hall_file.specs.declared.service.StoreOrigin.TheVariants.{New}
use Rattle.subcommands.specs.Begun.{AsksFirst, HasAsked}
use Rattle.desk.proofs.served.may_serve.Goals as goal

asked_by : (may : Bool) (file : Bor (List ℕ)) (wanted : HallService) (hall : HallFile)
    (texts : List (List ℕ)) (old new : Option (List Dialed)) → wanted.options.making ≡ New
    → HasAsked file wanted hall texts may old new → AsksFirst file wanted hall texts may old new
asked_by true file wanted hall texts old new makes has = inr (makes, has)
asked_by false file wanted hall texts old new makes has = (makes, has)

pub returns-clause-asked : goal.returns-clause-asked
returns-clause-asked g c =
    let m = c.may_make.ensures in
    asked_by c.may_make.result c.args.file c.args.wanted c.args.hall.now _ _ _ c.in-New.is (
      record {
        hall = c.args.hall.now.hall;
        addresses = c.args.addresses;
        patience = 2;
        key = c.in-Ok.key;
      },
      c.in-Ok.key,
      c.in-Ok.ensures.ok,
      record { hall_is = refl; there = refl; key_is = refl; patience_is = refl },
      m.0,
      m.1,
      m.2,
    )

pub returns-clause-quiet : goal.returns-clause-quiet
returns-clause-quiet g c = c.may_make.ensures.3
