use Rattle.std.proofs.Common.{◌∙◌, sym}
use Rattle.desk_choice.proofs.Sought.{asks_desk, listens, seeks_below, seeks_here, seeks_no_more}
use Rattle.desk_choice.proofs.seeking.+seek.Goals as goal

pub returns-in_default : goal.returns-in_default
returns-in_default g t c =
    absurd (listens c.args.hall.now c.args.desk c.address_of.result c.requires.some
    c.requires.there c.address_of.ensures c.in_default.is)

pub returns-in-None : goal.returns-in-None
returns-in-None g t c =
    seeks_here _ c.args.desk _ _ _ c.requires.some
    (asks_desk c.args.hall.now c.args.patience c.args.key c.args.desk _ _ _ _ _ _
    c.address_of.ensures
    c.in-Some.is c.status_request-request.ensures.request c.ask_over-answer.ensures.told)
    (sym c.why_not.ensures ∙ c.in-None.is)

pub returns-then-is_last : goal.returns-then-is_last
returns-then-is_last g t c =
    seeks_no_more _ c.args.desk _ _ _ _ c.requires.some
    (asks_desk c.args.hall.now c.args.patience c.args.key c.args.desk _ _ _ _ _ _
    c.address_of.ensures
    c.in-Some.is c.status_request-request.ensures.request c.ask_over-answer.ensures.told)
    (sym c.why_not.ensures ∙ c.in-Some-why_not.is) (c.is_last.ensures.yes c.if-is_last.true)

pub returns : goal.returns
returns g t c =
    seeks_below _ c.args.desk _ _ _ _ _ _ c.requires.some
    (asks_desk c.args.hall.now c.args.patience c.args.key c.args.desk _ _ _ _ _ _
    c.address_of.ensures
    c.in-Some.is c.status_request-request.ensures.request c.ask_over-answer.ensures.told)
    (sym c.why_not.ensures ∙ c.in-Some-why_not.is) (c.is_last.ensures.no c.if-is_last.false).0
    (c.is_last.ensures.no c.if-is_last.false).1 c.seek.ensures
