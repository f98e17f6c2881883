use Rattle.std.proofs.Common.{refl, sym, ◌∙◌, true, false}
use Rattle.desk_talks.specs.declared.dialogue.DialogueAction.TheVariants as action
use Rattle.links.specs.declared.stages.LinkAction.TheVariants as wish
use Rattle.mio_sockets.proofs.Linking.{acts_as, begins_again, ends_there}
use Rattle.mio_sockets.proofs.neighbour.LinkedDeskDialogue.act.Goals as goal

pub returns-in-Rest-clause-leads : goal.returns-in-Rest-clause-leads
returns-in-Rest-clause-leads c =
    rw (← c.self.view_is) (acts_as _ _ c.args.now wish.Rest _ _ action.Rest c.in-Rest.ensures.wish
    refl refl refl refl refl refl)

pub began-requires : goal.began-requires
began-requires c = c.in-Open.ensures.unconnected refl

pub returns-in-Open-clause-leads : goal.returns-in-Open-clause-leads
returns-in-Open-clause-leads c =
    rw (← c.self.view_is) (acts_as _ _ c.args.now wish.Open _ _ _ c.in-Open.ensures.wish refl refl
    refl refl refl (_, (c.in-Open.ensures.unconnected refl, c.began.ensures), refl))

pub returns-then-is_stuck-clause-leads : goal.returns-then-is_stuck-clause-leads
returns-then-is_stuck-clause-leads c =
    rw (← c.self.view_is) (acts_as _ _ c.args.now wish.Write true _ action.Close
    c.in-Write.ensures.wish (sym c.if-is_stuck.true ∙ c.is_stuck.ensures) refl refl refl refl
    (_, c.failed.ensures, refl))

pub returns-else-is_stuck-clause-leads : goal.returns-else-is_stuck-clause-leads
returns-else-is_stuck-clause-leads c =
    rw (← c.self.view_is) (acts_as _ _ c.args.now wish.Write false _ action.Rest
    c.in-Write.ensures.wish (sym c.if-is_stuck.false ∙ c.is_stuck.ensures) refl refl refl refl refl)

pub closed-requires : goal.closed-requires
closed-requires c = c.in-Close.ensures.between refl

pub began-requires-in-Open-wish : goal.began-requires-in-Open-wish
began-requires-in-Open-wish c = c.in-Open-wish.ensures.unconnected refl

pub returns-in-Open-wish-clause-leads : goal.returns-in-Open-wish-clause-leads
returns-in-Open-wish-clause-leads c =
    rw (← c.self.view_is) (acts_as _ _ c.args.now wish.Close _ true _ c.in-Close.ensures.wish refl
    (begins_again _ _ c.args.now c.in-Close.ensures.wish c.closed.ensures
    c.in-Open-wish.ensures.wish) refl refl refl (
      _,
      (c.in-Close.ensures.between refl, c.closed.ensures),
      (_, (c.in-Open-wish.ensures.unconnected refl, c.began-in-Open-wish.ensures), refl),
    ))

pub returns-in_default-clause-leads : goal.returns-in_default-clause-leads
returns-in_default-clause-leads c =
    rw (← c.self.view_is) (acts_as _ _ c.args.now wish.Close _ false action.Close
    c.in-Close.ensures.wish refl (ends_there _ _ c.args.now _ c.in-Close.ensures.wish
    c.closed.ensures c.wish-in-Close.ensures.wish c.in_default.not-Open) refl refl refl
    (_, (c.in-Close.ensures.between refl, c.closed.ensures), refl))

pub returns-in-GiveUp-clause-leads : goal.returns-in-GiveUp-clause-leads
returns-in-GiveUp-clause-leads c =
    rw (← c.self.view_is) (acts_as _ _ c.args.now wish.GiveUp _ _ action.Close
    c.in-GiveUp.ensures.wish refl refl refl refl refl (_, c.failed-in-GiveUp.ensures, refl))
