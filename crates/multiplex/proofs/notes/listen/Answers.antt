use Rattle.std.proofs.Common.{ap, sym, subst, ◌∙◌, ℕ, List, Option}
use Rattle.guarded.specs.Permitting.{permission_of}
use Rattle.sealed.specs.ServerSeals.{caller_of}
use Rattle.serving.specs.Differing.{differs_by, first_difference, known_after}
use Rattle.wire.specs.Ranges.{IsDifference}
use Rattle.multiplex.specs.{Noting.heard_by, Noting.listened_to, declared.notes.Notes.Notes}
use Rattle.multiplex.proofs.Noted.{first_in_range, next_none, next_some}
use Rattle.multiplex.proofs.notes.listen.Goals as goal

pub returns-in_default-clause-differs : goal.returns-in_default-clause-differs
returns-in_default-clause-differs g c =
    ap (λ z. heard_by (g.D.Desk.home_of c.args.node.now) (g.D.Desk.seen c.args.node.now)
    c.args.talk.now c.args.notes.now z c.args.differs.now)
    (sym (next_none c.args.talk.now c.in_default.ensures.none))

pub returns-in_default-clause-notes : goal.returns-in_default-clause-notes
returns-in_default-clause-notes g c =
    ap (λ z. listened_to (g.D.Desk.home_of c.args.node.now) c.args.talk.now c.args.notes.now z)
    (sym (next_none c.args.talk.now c.in_default.ensures.none))

pub returns-clause-differs : goal.returns-clause-differs
returns-clause-differs g c =
    let d = g.D.Desk in
    let known = c.args.notes.now.known in
    let frame = c.in-Some.frame.now in
    c.first_difference.ensures
    ∙ ap (λ z. first_difference c.args.differs.now z) (c.differs_by-new.ensures.differs
    ∙ ap (λ z. differs_by z c.permission-may.result c.log.result.now.entries known frame)
    c.home-home.ensures.home
    ∙ ap (λ z. differs_by (d.home_of c.args.node.now) z c.log.result.now.entries known frame)
    c.permission-may.ensures
    ∙ ap (λ z. differs_by (d.home_of c.args.node.now)
    (permission_of c.args.talk.now.called.doors (caller_of c.args.talk.now.called)) z known frame)
    c.log.ensures.entries)
    ∙ ap (λ z. heard_by (d.home_of c.args.node.now) (d.seen c.args.node.now) c.args.talk.now
    c.args.notes.now z c.args.differs.now)
    (sym (next_some c.args.talk.now frame c.in-Some.ensures.some))

abbrev with_known : Option ℕ → List ℕ → Notes
with_known until known = record { until = until; known = known }

pub returns-clause-notes : goal.returns-clause-notes
returns-clause-notes g c =
    let d = g.D.Desk in
    let notes = c.args.notes.now in
    let frame = c.in-Some.frame.now in
    ap (λ (z : List ℕ). with_known notes.until z) (c.known_after-notes.ensures.known
    ∙ ap (λ z. known_after z c.permission-may.result notes.known frame) c.home-home.ensures.home
    ∙ ap (λ z. known_after (d.home_of c.args.node.now) z notes.known frame)
    c.permission-may.ensures)
    ∙ ap (λ z. listened_to (d.home_of c.args.node.now) c.args.talk.now notes z)
    (sym (next_some c.args.talk.now frame c.in-Some.ensures.some))

pub returns-clause-noted : goal.returns-clause-noted
returns-clause-noted g c = (
  c.known_after-notes.ensures.most,
  subst (λ z. IsDifference z) (sym c.first_difference.ensures)
      (first_in_range c.args.differs.now c.differs_by-new.result c.requires.noted.1
      c.differs_by-new.ensures.in_range),
)
