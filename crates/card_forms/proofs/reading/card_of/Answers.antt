use Rattle.std.proofs.Common.{◌≡◌, List, [], ◌∷◌, Err, ap, subst, sym, refl, rules, ◌∙◌}
use Rattle.attempts.specs.declared.Value.{Value}
use Rattle.formats.specs.Events.{unit_of}
use Rattle.card_forms.specs.declared.reading.FieldContent.{FieldContent}
use Rattle.card_forms.specs.Readings.{AllSay, IsUnfitAs, number_of, unfit}
use Rattle.card_forms.proofs.FiveFields.{all_say, not_fit, said, say_same}
use Rattle.card_forms.proofs.reading.card_of.Goals as goal

pub returns-in_err-now-clause-unread : goal.returns-in_err-now-clause-unread
returns-in_err-now-clause-unread c =
    let form = c.args.form.now in
    let seen = c.as_slice-was.result.now in
    let given = c.as_slice-filled.result.now in
    let texts = c.as_slice-texts.result.now in
    let unit = unit_of form.round.event in
    let says : List FieldContent =
    c.in-Ok-first.first ∷ c.in-Ok-second.second ∷ c.in-Ok-third.third
    ∷ c.in-Ok-fourth.fourth ∷ c.in-Ok-fifth.fifth ∷ [] in
    let all : AllSay unit form.was form.filled 0 form.attempts says =
    say_same unit form.was seen form.filled given form.attempts texts says c.as_slice-was.ensures
    c.as_slice-filled.ensures.fields c.as_slice-texts.ensures.fields
    (all_say unit seen given texts c.index-texts-0.result c.index-texts-1.result
    c.index-texts-2.result c.index-texts-3.result c.index-texts-4.result
    c.in-Ok-first.first c.in-Ok-second.second c.in-Ok-third.third
    c.in-Ok-fourth.fourth c.in-Ok-fifth.fifth c.as_slice-texts.ensures.five
    c.index-texts-0.is c.index-texts-1.is c.index-texts-2.is c.index-texts-3.is c.index-texts-4.is
    (said unit seen given 0 c.index-texts-0.result c.as_bytes-2.result.now c.said_at-first.result
    c.in-Ok-first.first c.as_bytes-2.ensures c.in-Ok-first.is c.said_at-first.ensures.says)
    (said unit seen given 1 c.index-texts-1.result c.as_bytes-3.result.now c.said_at-second.result
    c.in-Ok-second.second c.as_bytes-3.ensures c.in-Ok-second.is c.said_at-second.ensures.says)
    (said unit seen given 2 c.index-texts-2.result c.as_bytes-4.result.now c.said_at-third.result
    c.in-Ok-third.third c.as_bytes-4.ensures c.in-Ok-third.is c.said_at-third.ensures.says)
    (said unit seen given 3 c.index-texts-3.result c.as_bytes-5.result.now c.said_at-fourth.result
    c.in-Ok-fourth.fourth c.as_bytes-5.ensures c.in-Ok-fourth.is c.said_at-fourth.ensures.says)
    (said unit seen given 4 c.index-texts-4.result c.as_bytes-6.result.now c.said_at-fifth.result
    c.in-Ok-fifth.fifth c.as_bytes-6.ensures c.in-Ok-fifth.is c.said_at-fifth.ensures.says)) in
    let why = c.in_err-now.field-0.0 in
    let same : c.from_residual.result ≡ Err why = search rules in
    rw same (not_fit form says why all
    (subst (λ (was : List Value). IsUnfitAs was says why) c.as_slice-was.ensures
    c.in_err-now.ensures.unfit))

pub returns-clause-read : goal.returns-clause-read
returns-clause-read c =
    let form = c.args.form.now in
    let seen = c.as_slice-was.result.now in
    let given = c.as_slice-filled.result.now in
    let texts = c.as_slice-texts.result.now in
    let unit = unit_of form.round.event in
    let says : List FieldContent =
    c.in-Ok-first.first ∷ c.in-Ok-second.second ∷ c.in-Ok-third.third
    ∷ c.in-Ok-fourth.fourth ∷ c.in-Ok-fifth.fifth ∷ [] in
    let all : AllSay unit form.was form.filled 0 form.attempts says =
    say_same unit form.was seen form.filled given form.attempts texts says c.as_slice-was.ensures
    c.as_slice-filled.ensures.fields c.as_slice-texts.ensures.fields
    (all_say unit seen given texts c.index-texts-0.result c.index-texts-1.result
    c.index-texts-2.result c.index-texts-3.result c.index-texts-4.result
    c.in-Ok-first.first c.in-Ok-second.second c.in-Ok-third.third
    c.in-Ok-fourth.fourth c.in-Ok-fifth.fifth c.as_slice-texts.ensures.five
    c.index-texts-0.is c.index-texts-1.is c.index-texts-2.is c.index-texts-3.is c.index-texts-4.is
    (said unit seen given 0 c.index-texts-0.result c.as_bytes-2.result.now c.said_at-first.result
    c.in-Ok-first.first c.as_bytes-2.ensures c.in-Ok-first.is c.said_at-first.ensures.says)
    (said unit seen given 1 c.index-texts-1.result c.as_bytes-3.result.now c.said_at-second.result
    c.in-Ok-second.second c.as_bytes-3.ensures c.in-Ok-second.is c.said_at-second.ensures.says)
    (said unit seen given 2 c.index-texts-2.result c.as_bytes-4.result.now c.said_at-third.result
    c.in-Ok-third.third c.as_bytes-4.ensures c.in-Ok-third.is c.said_at-third.ensures.says)
    (said unit seen given 3 c.index-texts-3.result c.as_bytes-5.result.now c.said_at-fourth.result
    c.in-Ok-fourth.fourth c.as_bytes-5.ensures c.in-Ok-fourth.is c.said_at-fourth.ensures.says)
    (said unit seen given 4 c.index-texts-4.result c.as_bytes-6.result.now c.said_at-fifth.result
    c.in-Ok-fifth.fifth c.as_bytes-6.ensures c.in-Ok-fifth.is c.said_at-fifth.ensures.says)) in
    record {
      id = refl;
      number =
          ap number_of (sym c.as_bytes.ensures) ∙ sym c.number_of-number.ensures ∙ c.in-Ok.is;
      was = c.in_ok-was.ensures;
      says = says;
      all = all;
      fit = ap (λ was. unfit was says) (sym c.as_slice-was.ensures) ∙ c.in_ok-now.ensures.fit;
      now = c.in_ok-now.ensures.now;
    }
