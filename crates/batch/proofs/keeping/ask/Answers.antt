use Rattle.std.proofs.Common.{◌≡◌, ◌<◌, ◌≤◌, arith}
use Rattle.batch.specs.Dialing.{asked_so, place_of}
use Rattle.batch.proofs.Connections.{goes_afresh, goes_again, goes_anew, goes_kept}
use Rattle.batch.proofs.keeping.ask.Goals as goal

pub returns-then-made-eq0-clause-told : goal.returns-then-made-eq0-clause-told
returns-then-made-eq0-clause-told g c =
    let none : c.args.made.now ≡ 0 = omega arith in
    goes_anew (place_of c.args.contact) c.args.made.now c.ask_anew.new.made _ _
    (asked_so c.args.request.now c.ask_anew.result) none c.ask_anew.ensures.told

pub returns-then-made-ge-MOST_REQUESTS-clause-told :
    goal.returns-then-made-ge-MOST_REQUESTS-clause-told
returns-then-made-ge-MOST_REQUESTS-clause-told g c =
    let asked = c.ask_anew-then-made-ge-MOST_REQUESTS in
    let full : 64 ≤ c.args.made.now = omega arith in
    goes_afresh (place_of c.args.contact) c.args.made.now asked.new.made c.hang_up-ending.result _ _
    _ (asked_so c.args.request.now asked.result) full c.hang_up-ending.ensures asked.ensures.told

pub returns-in-Some-clause-told : goal.returns-in-Some-clause-told
returns-in-Some-clause-told g c =
    goes_kept (place_of c.args.contact) c.args.made.now c.ask_kept.new.made _ _
    (asked_so c.args.request.now c.in-Some.answer) c.in-Some.ensures.told

pub returns-in-None-clause-told : goal.returns-in-None-clause-told
returns-in-None-clause-told g c =
    let asked = c.ask_anew-in-None in
    let some : 0 < c.args.made.now = omega arith in
    let few : c.args.made.now < 64 = omega arith in
    goes_again (place_of c.args.contact) c.args.made.now asked.new.made _ _ _ c.args.request.now
    asked.result some few c.in-None.ensures.cut asked.ensures.told
