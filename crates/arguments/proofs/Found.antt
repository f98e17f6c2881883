-- What was found in the arguments.
use Rattle.std.proofs.Common.{◌≡◌, ◌∙◌, ap, sym, ℕ, List, Bor, IfSome, Option, None, Some}
use Rattle.std.proofs.Common.{is_some, option_map}
use Rattle.clap.specs.Words.{Row, Text, first_of, first_value, rows_of}
use Rattle.clap.{specs.declared.parser.matches.Found.Found, proofs.WalkLemmas.first_value-rows}
use Rattle.arguments.specs.Asking.{Finds, HasId, HasIds, IsEntered, IsRequest}
use Rattle.wire.specs.Ranges.{IsId}
use Rattle.arguments.specs.declared.task.{ClientRequest.ClientRequest, Task.Task}
use Rattle.arguments.specs.declared.task.ClientRequest.TheVariants as request
use Rattle.arguments.specs.declared.task.Task.TheVariants as task

pub none_found : (f : Found) (id : Text) (r : Option (Bor Text))
    → option_map (λ s. s.now) r ≡ first_value f id → r ≡ None → first_of id (rows_of f) ≡ None
none_found f id None h is = sym (first_value-rows f id) ∙ sym h
none_found f id (Some t) h is = cc

-- whether one is given
pub given_as : (f : Found) (id : Text) (r : Option (Bor Text))
    → option_map (λ s. s.now) r ≡ first_value f id → is_some (first_of id (rows_of f)) ≡ is_some r
given_as f id None h = ap is_some (sym (first_value-rows f id) ∙ sym h)
given_as f id (Some t) h = ap is_some (sym (first_value-rows f id) ∙ sym h)

-- what was given is what is found
pub some_found : (f : Found) (id : Text) (r : Option (Bor Text)) (t : Bor Text)
    → option_map (λ s. s.now) r ≡ first_value f id → r ≡ Some t
    → first_of id (rows_of f) ≡ Some t.now
some_found f id None t h is = cc
some_found f id (Some u) t h is =
    sym (first_value-rows f id) ∙ sym h ∙ ap (option_map (λ (s : Bor Text). s.now)) is

request_ids : (r : ClientRequest) (name : Text) (rows : List Row) → IsRequest r name rows → HasId r
request_ids (request.Ask id) name rows h = h.1
request_ids _ name rows h = tt

entered_ids : (id : Option ℕ) (words : List Text) (rows : List Row) → IsEntered id words rows
    → IfSome id IsId
entered_ids None words rows h = tt
entered_ids (Some id) words rows h = h.0

-- what was found has its ids in their range
pub found_ids : (found : Option (Text × List Row)) (t : Task) → Finds found t → HasIds t
found_ids found (task.Carry place patience request) h = request_ids request h.0 h.1 h.3.0
found_ids found (task.Enter place patience id words waits) h = entered_ids id _ h.1 h.3.2
found_ids found (task.EnterLines place patience lines) h = h.3.2.first_id.in_range
found_ids found _ h = tt
