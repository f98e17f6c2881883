use Rattle.std.proofs.Common.{◌≡◌, ◌∷◌, [], ◌++◌, Some, ◌∙◌, sym}
use Rattle.std.proofs.lemmas.{Bool.Decides.Decides-eqb, Slice.Eq.strip_suffix_is}
use Rattle.std.specs.Prelude.{◌↔◌, IsTrue}
use Rattle.keys.{specs.key_file.KeyFiles.IsKeyText, proofs.key_file.Fronts.return_is}
use Rattle.keys.proofs.key_file.reading.has_return.Goals as goal

pub returns-in-Some : goal.returns-in-Some
returns-in-Some c =
    let stripped =
    strip_suffix_is Decides-eqb c.args.bytes.now c.as_slice.result.now (Some c.in-Some.digits)
    c.in-Some.ensures.cases in
    let is : c.args.bytes.now ≡ c.in-Some.digits.now ++ 13 ∷ 10 ∷ [] = cc in
    let found : IsTrue c.is_some.result ↔ IsKeyText c.in-Some.digits.now = (
      λ yes. c.read_key.ensures.found.0 (sym c.is_some.ensures ∙ yes),
      λ text. c.is_some.ensures ∙ c.read_key.ensures.found.1 text,
    ) in
    return_is c.args.bytes.now c.in-Some.digits.now c.is_some.result is found
