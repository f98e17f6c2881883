use Rattle.std.proofs.Common.{◌≡◌, ◌∷◌, [], ℕ, Option, None, Some, refl, subst, sym, rules}
use Rattle.wire.specs.declared.frame.Frame.{Frame}
use Rattle.batch.specs.Dialing.{Adds, asked_so}
use Rattle.desk_requests.specs.Comparing.{AsksLog, place_at, standing_desk}
use Rattle.desk_requests.proofs.comparing.entries_at.Goals as goal

pub returns-in_default : goal.returns-in_default
returns-in_default g c =
    let none : standing_desk c.args.one.now.reply ≡ None = search rules in
    subst (λ (d : Option ℕ). AsksLog c.args.inquiry c.args.position c.args.one.now.address.now d
    (g.D.Dial.dialed c.args.dial.now) (g.D.Dial.dialed c.args.dial.now) None)
    (sym none) (refl, refl)

pub returns : goal.returns
returns g c =
    let there : standing_desk c.args.one.now.reply ≡ Some c.in-Some.desk = search rules in
    let old = g.D.Dial.dialed c.args.dial.now in
    let new = g.D.Dial.dialed c.ask_over-came.new.dial in
    let came = c.ask_over-came.result in
    subst (λ (d : Option ℕ).
    AsksLog c.args.inquiry c.args.position c.args.one.now.address.now d old new c.entries_of.result)
    (sym there) (
      came,
      subst (λ (q : Frame).
          Adds (place_at c.args.inquiry c.args.one.now.address.now) old new (asked_so q came ∷ []))
          c.log_request-request.ensures.request c.ask_over-came.ensures.told,
      c.entries_of.ensures,
    )
