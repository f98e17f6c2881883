use Rattle.std.proofs.Common.{◌≡◌, ◌++◌, ◌∷◌, [], ℕ, List, Ok, Err, ap, codes, ◌∙◌}
use Rattle.std.specs.Prelude.{OnOk}
use Rattle.http_server.specs.Response.{fields_of}
use Rattle.markup.specs.replies.Replies.{text_field}
use Rattle.markup.proofs.replies.replies.tell.Goals as goal

pub returns-clause-headers : goal.returns-clause-headers
returns-clause-headers c =
    let old = fields_of c.args.response.now in
    let kind : c.from_static-kind.result.bytes ≡ codes "text/plain; charset=utf-8" =
    ap (λ v. v.bytes) c.from_static-kind.ensures in
    let whole : fields_of c.add_header.new.self ≡ old ++ text_field ∷ [] =
    c.in_ok-add_header.ensures.headers
    ∙ ap (λ (t : List ℕ). old ++ (codes "content-type", t) ∷ []) kind in
    elim c.push.result as (λ r. OnOk r (fields_of c.add_header.new.self ≡ old ++ text_field ∷ [])) [
      | Ok done ↦ whole
      | Err error ↦ tt
    ]
