use Rattle.std.proofs.Common.{◌≡◌, ◌≢◌, [], refl, ◌∙◌, rules, tests}
use Rattle.std.specs.{List.list_all, Str.chars}
use Rattle.std.proofs.lemmas.Bool.{false≢true}
use Rattle.std.proofs.lemmas.Iterator.{YieldsList-from_chars, Search.all_from_yields_List}
use Rattle.hall_file.specs.Addresses.{is_host_char}
use Rattle.hall_file.proofs.address.is_host.Goals as goal

pub returns-then-not-is_empty : goal.returns-then-not-is_empty
returns-then-not-is_empty c =
    let text = c.args.text.now in
    let same : c.all.result ≡ list_all is_host_char (chars text) =
    all_from_yields_List is_host_char _ _ c.all.result c.all.ensures.ran
    (YieldsList-from_chars text c.utf8.text cc) (λ x b q k. search (rules, tests)) in
    let some : text ≢ [] = λ none. false≢true (c.if-not-is_empty.ensures ∙ rw none refl) in
    (λ t. (some, rw same at t), λ h. rw same h.1)
