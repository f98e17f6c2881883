use Rattle.std.proofs.Common.{◌∙◌, sym}
use Rattle.batch.proofs.Connections.{cuts, if_answered, over_kept}
use Rattle.batch.proofs.keeping.ask_kept.Goals as goal

pub returns-then-is_hung_up-clause-cut : goal.returns-then-is_hung_up-clause-cut
returns-then-is_hung_up-clause-cut g c =
    let ended = c.exchange_over-ended.result in
    cuts c.args.request.now ended.0 ended.1 _ _ c.exchange_over-ended.ensures.used
    (sym c.is_hung_up.ensures ∙ c.if-is_hung_up.true)

pub returns-clause-told : goal.returns-clause-told
returns-clause-told g c =
    let ended = c.exchange_over-ended.result in
    over_kept c.args.request.now ended.0 ended.1 c.answer_of.result c.args.made.now
    c.exchange_over-ended.new.made _ _ c.requires.some c.requires.few
    c.exchange_over-ended.ensures.used (sym c.is_hung_up.ensures ∙ c.if-is_hung_up.false)
    c.exchange_over-ended.ensures.made c.answer_of.ensures.same

pub returns-clause-answered : goal.returns-clause-answered
returns-clause-answered g c =
    let ended = c.exchange_over-ended.result in
    if_answered c.args.request.now ended.0 ended.1 c.answer_of.result c.answer_of.ensures.same
    c.exchange_over-ended.ensures.answered
