-- The names that were given, after one more entry.
use Rattle.std.proofs.Common.{◌≡◌, refl, sym, ap, ◌∙◌, ℕ, Bool, true, false, List, [], ◌∷◌, ◌++◌}
use Rattle.std.proofs.Common.{append-nil, cond, flat_map, Option, Some, None}
use Rattle.std.specs.Prelude.{Result, Ok, Err, option_to_list}
use Rattle.std.proofs.lemmas.Grind.{flat_map-append}
use Rattle.texts.specs.declared.answer.{Answer.Answer, Code.Code}
use Rattle.texts.specs.{declared.reading.CommandFault.CommandFault, Reading.command_of}
use Rattle.texts.specs.declared.command.RemarkedCommand.{RemarkedCommand}
use Rattle.commands.specs.History.{History, after, after_in, answer_of, answer_to, is_seen}
use Rattle.commands.specs.History.{entry_refusal_in, read_refusal, added_read}
use Rattle.wcif_results.specs.declared.named_meet.GivenName.{GivenName}
use Rattle.wcif_results.specs.Names.{kept, naming, naming_read, names_given}
use Rattle.texts.specs.declared.answer.Code.TheVariants as code

-- what an entry that is done adds
added_done : (r : Result RemarkedCommand CommandFault)
    → flat_map naming (added_read None r) ≡ naming_read r
added_done (Ok told) = append-nil (naming told.command)
added_done (Err fault) = refl

added_refused : (why : Code) (r : Result RemarkedCommand CommandFault)
    → flat_map naming (added_read (Some why) r) ≡ []
added_refused why (Ok told) = refl
added_refused why (Err fault) = refl

-- the names after one more entry
pub named_after : (h : History) (id : ℕ) (text : List ℕ) (answer : Answer) (name : Option GivenName)
    → answer ≡ answer_to h id text → option_to_list name ≡ naming_read (command_of text)
    → names_given (after h id text).accepted ≡ names_given h.accepted ++ kept answer name
unfolding after_in entry_refusal_in
named_after h id text answer name is gives =
    step (is_seen h id) (read_refusal h.accepted (command_of text))
    ∙ ap (λ (a : Answer). names_given h.accepted ++ kept a name) (sym is)
  where
    step : (seen : Bool) (why : Option Code) → names_given (cond seen h (record {
      ids = h.ids ++ id ∷ [];
      accepted = h.accepted ++ added_read why (command_of text);
    })).accepted
        ≡ names_given h.accepted ++ kept (answer_of (cond seen (Some code.Repeat) why)) name
    step true why = sym (append-nil (names_given h.accepted))
    step false None =
        flat_map-append naming h.accepted (added_read None (command_of text))
        ∙ ap (λ later. names_given h.accepted ++ later) (added_done (command_of text) ∙ sym gives)
    step false (Some why) =
        flat_map-append naming h.accepted (added_read (Some why) (command_of text))
        ∙ ap (λ later. names_given h.accepted ++ later) (added_refused why (command_of text))
