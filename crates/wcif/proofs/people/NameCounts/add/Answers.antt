use Rattle.std.proofs.Common.{◌≡◌, ◌+◌, ◌-◌, ◌^◌, ℕ, min, unwrap_or, ap, ◌∙◌, sym}
use Rattle.std.specs.{String.string_bytes, HashMap.get_by_text}
use Rattle.std.proofs.lemmas.Map.Text.{hash_map_updates_text}
use Rattle.serde_json.specs.View.{view}
use Rattle.wcif.{specs.Persons.given_name, proofs.Numbered.CountsNames-more, proofs.Numbered.put_as}
use Rattle.wcif.proofs.people.NameCounts.add.Goals as goal

pub returns : goal.returns
returns c persons few counts =
    let given : c.given_name-name.result.now ≡ given_name (view c.args.person.now) =
    c.given_name-name.ensures in
    CountsNames-more persons (view c.args.person.now) c.args.self.now
    (record { counts = c.insert.new.self }) (sym c.is_accepted.ensures ∙ c.if-not-is_accepted.false)
    few (λ name. put_as (get_by_text c.insert.new.self name)
    (get_by_text c.args.self.now.counts name) (string_bytes c.in_ok-from_str.field-0)
    (given_name (view c.args.person.now)) name c.saturating_add.result (min
    (unwrap_or (get_by_text c.args.self.now.counts (given_name (view c.args.person.now))) 0 + 1)
    (2 ^ 64 - 1)) (c.in_ok-from_str.ensures.ok ∙ given) (c.saturating_add.ensures
    ∙ ap (λ (n : ℕ). min (n + 1) (2 ^ 64 - 1)) (c.unwrap_or-before.ensures
    ∙ ap (λ o. unwrap_or o 0) (c.copied.ensures ∙ c.get.ensures.value)
    ∙ ap (λ bs. unwrap_or (get_by_text c.args.self.now.counts bs) 0) given))
    (hash_map_updates_text (string_bytes c.in_ok-from_str.field-0) c.args.self.now.counts
    c.insert.new.self _ c.in_ok-insert.ensures.updates name)) counts
