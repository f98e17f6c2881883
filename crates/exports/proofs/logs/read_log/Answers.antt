use Rattle.std.proofs.Common.{◌≡◌, ◌∙◌, ap, false, rules, sym, true}
use Rattle.exports.{proofs.Whole.cut_off, proofs.Whole.reads, specs.Logs.is_whole}
use Rattle.exports.proofs.logs.read_log.Goals as goal

pub returns-then-not-is_whole-clause-err : goal.returns-then-not-is_whole-clause-err
returns-then-not-is_whole-clause-err g c =
    let told : c.is_whole.result ≡ false = search rules in
    cut_off _ c.in_ok-bytes.bytes.items c.deref.result.now c.in_ok-meet.meet c.in_ok-bytes.ensures
    c.deref.ensures.value c.in_ok-meet.ensures.ok
    (ap is_whole (sym c.deref-2.ensures.value) ∙ sym c.is_whole.ensures ∙ told)

pub returns-clause-ok : goal.returns-clause-ok
returns-clause-ok g c =
    let told : c.is_whole.result ≡ true = search rules in
    reads _ c.in_ok-bytes.bytes.items c.deref.result.now c.in_ok-meet.meet c.in_ok-bytes.ensures
    c.deref.ensures.value c.in_ok-meet.ensures.ok
    (ap is_whole (sym c.deref-2.ensures.value) ∙ sym c.is_whole.ensures ∙ told)
