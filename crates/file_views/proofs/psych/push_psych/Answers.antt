use Rattle.std.proofs.Common.{◌∙◌, ◌++◌, ℕ, List, ap, map, subst}
use Rattle.serde_json.specs.Data.{Data}
use Rattle.serde_json.specs.View.{view}
use Rattle.file_views.specs.declared.psych_rows.PsychRow.{PsychRow}
use Rattle.file_views.specs.Psych.{AreRanked, lines, psych_section}
use Rattle.file_views.proofs.psych.push_psych.Goals as goal

pub returns : goal.returns
returns c =
    let event = c.args.event in
    let rows = c.in_ok-ranked.ranked.items in
    let seen = map view c.persons-persons.result.now in record {
      ranked = rows;
      are =
          subst (λ (ps : List Data). AreRanked event ps rows) c.persons-persons.ensures
          c.in_ok-ranked.ensures;
      is =
          c.in_ok-push_section.ensures
          ∙ ap (λ (text : List ℕ). c.args.out.now.items ++ psych_section event text)
          (c.deref-2.ensures.value ∙ c.in_ok-shown.ensures
          ∙ ap (λ (rs : List PsychRow). lines event seen rs) c.deref.ensures.value
          ∙ ap (λ (ps : List Data). lines event ps rows) c.persons-persons.ensures);
    }
