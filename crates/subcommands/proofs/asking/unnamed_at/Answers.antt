use Rattle.std.proofs.Common.{◌≡◌, false, refl}
use Rattle.subcommands.{specs.Places.reach, proofs.Ending.done}
use Rattle.subcommands.proofs.asking.unnamed_at.Goals as goal

pub returns-in-Ok : goal.returns-in-Ok
returns-in-Ok g c =
    done c.args.place c.args.patience c.tell_unnamed.result
    (reach g.D.Dial.dialed g.F.Write.contents c.args.dial.now c.found_at.new.dial c.args.faults.now)
    (Unit {0}) (λ _ _ t. (c.tell_unnamed.result ≡ 2) × (t.old ≡ t.new)) c.in-Ok.found (record {
      address = c.as_str.result;
      patience = c.args.patience;
      key = c.in-Ok.found.key;
    }) (g.D.Dial.dialed c.found_at.new.dial) (g.F.Write.contents c.found_at.new.faults) false
    c.in-Ok.ensures.ok (record { address = c.as_str.ensures.value; patience_is = refl; key = refl })
    (c.tell_unnamed.ensures, refl)
