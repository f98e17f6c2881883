use Rattle.std.proofs.Common.{refl, inl, inr, false}
use Rattle.polled.proofs.Telling.{Tells-nil}
use Rattle.desk_talks.specs.Dialogues.{Act, Lost}
use Rattle.desk_talks.specs.declared.dialogue.DialogueAction.TheVariants as wish
use Rattle.desk_sockets.proofs.Driving.{begins, both, last, one, plain}
use Rattle.desk_sockets.proofs.desk_stream.fulfil_next.Goals as goal

pub returns-in-Rest-clause-went : goal.returns-in-Rest-clause-went
returns-in-Rest-clause-went g c =
    one (Act wish.Rest _) c.in-Rest.ensures.leads (Tells-nil _)

pub returns-in-Rest-clause-asked : goal.returns-in-Rest-clause-asked
returns-in-Rest-clause-asked g c = last wish.Rest _ c.in-Rest.ensures.leads refl

pub returns-then-open-clause-went : goal.returns-then-open-clause-went
returns-then-open-clause-went g c =
    begins c.args.now c.in-Open.desk c.in-Open.ensures.leads c.phase-before.ensures
    c.address_of.ensures c.open.ensures.told

pub returns-then-open-clause-asked : goal.returns-then-open-clause-asked
returns-then-open-clause-asked g c =
    last (wish.Open c.in-Open.desk) _ c.in-Open.ensures.leads (inl refl)

pub returns-else-open-clause-went : goal.returns-else-open-clause-went
returns-else-open-clause-went g c = both
    (begins c.args.now c.in-Open.desk c.in-Open.ensures.leads c.phase-before.ensures
    c.address_of.ensures c.open.ensures.told)
    (one (Lost false) c.lose.ensures.lost c.lose.ensures.told)

pub returns-else-open-clause-asked : goal.returns-else-open-clause-asked
returns-else-open-clause-asked g c =
    last (wish.Open c.in-Open.desk) _ c.in-Open.ensures.leads (inr c.lose.ensures.lost)

pub returns-in-Write-clause-went : goal.returns-in-Write-clause-went
returns-in-Write-clause-went g c = both
    (one (Act wish.Write _) c.in-Write.ensures.leads (Tells-nil _))
    (c.write.ensures.went c.args.addresses.now)

pub returns-in-Write-clause-asked : goal.returns-in-Write-clause-asked
returns-in-Write-clause-asked g c =
    last wish.Write _ c.in-Write.ensures.leads (plain (c.write.ensures.went c.args.addresses.now))

pub returns-in-Close-clause-went : goal.returns-in-Close-clause-went
returns-in-Close-clause-went g c =
    one (Act wish.Close _) c.in-Close.ensures.leads c.close.ensures.told

pub returns-in-Close-clause-asked : goal.returns-in-Close-clause-asked
returns-in-Close-clause-asked g c = last wish.Close _ c.in-Close.ensures.leads refl

pub returns-in-Stop-clause-went : goal.returns-in-Stop-clause-went
returns-in-Stop-clause-went g c =
    one (Act wish.Stop _) c.in-Stop.ensures.leads c.close-in-Stop.ensures.told

pub returns-in-Stop-clause-asked : goal.returns-in-Stop-clause-asked
returns-in-Stop-clause-asked g c = last wish.Stop _ c.in-Stop.ensures.leads refl
