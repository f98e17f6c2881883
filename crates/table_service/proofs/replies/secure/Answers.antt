use Rattle.std.proofs.Common.{◌≡◌, ◌∙◌, ◌++◌, ◌∷◌, [], List, ap, append_assoc}
use Rattle.std.specs.Prelude.{OnOk, Ok, Err, codes}
use Rattle.http1.specs.Fields.{Header}
use Rattle.http_server.specs.Response.{fields_of}
use Rattle.table_service.specs.Replies.{security}
use Rattle.table_service.proofs.replies.secure.Goals as goal

four : (old one two three last : List Header) (a b c d : Header) → one ≡ old ++ a ∷ []
    → two ≡ one ++ b ∷ [] → three ≡ two ++ c ∷ [] → last ≡ three ++ d ∷ []
    → last ≡ old ++ a ∷ b ∷ c ∷ d ∷ []
four old one two three last a b c d e1 e2 e3 e4 =
    e4
    ∙ ap (λ (t : List Header). t ++ d ∷ []) (e3
    ∙ ap (λ (t : List Header). t ++ c ∷ []) (e2 ∙ ap (λ (t : List Header). t ++ b ∷ []) e1))
    ∙ simp append_assoc

pub returns-clause-headers : goal.returns-clause-headers
returns-clause-headers c =
    let old = fields_of c.args.response.now in
    let last = fields_of c.add-4.new.response in
    elim c.add-4.result as (λ r. OnOk r (last ≡ fields_of c.add-3.new.response ++ (
      codes "cache-control",
      codes "no-store",
    ) ∷ []) → OnOk r (last ≡ old ++ security)) [
      | Ok done ↦ λ step. four old (fields_of c.add.new.response) (fields_of c.add-2.new.response)
          (fields_of c.add-3.new.response) last _ _ _ _ c.in_ok-add.ensures.headers
          c.in_ok-add-2.ensures.headers c.in_ok-add-3.ensures.headers step
      | Err error ↦ λ step. tt
    ] c.add-4.ensures.headers
