use Rattle.std.proofs.Common.{◌≡◌, ◌∙◌, false, sym, true}
use Rattle.batch.specs.Dialing.{is_answered}
use Rattle.batch.proofs.Connections.{made_kept, made_none, uses_ended, uses_kept}
use Rattle.batch.proofs.keeping.exchange_over.Goals as goal

pub returns-then-is_answered-clause-used : goal.returns-then-is_answered-clause-used
returns-then-is_answered-clause-used g c =
    let is : is_answered c.heard-ended.result ≡ true =
    sym c.is_answered.ensures ∙ c.if-is_answered.true in
    uses_kept c.args.request.now c.heard-ended.result _ _ is c.heard-ended.ensures.told

pub returns-then-is_answered-clause-made : goal.returns-then-is_answered-clause-made
returns-then-is_answered-clause-made g c =
    let is : is_answered c.heard-ended.result ≡ true =
    sym c.is_answered.ensures ∙ c.if-is_answered.true in
    made_kept c.heard-ended.result c.args.made.now is

pub returns-clause-used : goal.returns-clause-used
returns-clause-used g c =
    let is : is_answered c.heard-ended.result ≡ false =
    sym c.is_answered.ensures ∙ c.if-is_answered.false in
    uses_ended c.args.request.now c.heard-ended.result c.hang_up-ending.result _ _ _ is
    c.heard-ended.ensures.told c.hang_up-ending.ensures

pub returns-clause-made : goal.returns-clause-made
returns-clause-made g c =
    let is : is_answered c.heard-ended.result ≡ false =
    sym c.is_answered.ensures ∙ c.if-is_answered.false in
    made_none c.heard-ended.result c.args.made.now is
