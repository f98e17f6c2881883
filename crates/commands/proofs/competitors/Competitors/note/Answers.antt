use Rattle.std.proofs.Common.{◌≡◌, ℕ, List, Some, cond, nat_eq, refl, ap, ◌∙◌}
use Rattle.std.specs.{Prelude.bytes_eq, Map.lookup}
use Rattle.commands.specs.model.Kept.{holder, IsAsGood}
use Rattle.commands.proofs.{Lookups.on_err, competitors.Competitors.note.Goals.In_ok-insert}
use Rattle.commands.proofs.{Names.names_after, Registrations.held_alike, Registrations.same_entries}
use Rattle.commands.proofs.competitors.Competitors.note.Goals as goal

-- what is looked up by a name once the copy is a key
held : (c : In_ok-insert) (other : List ℕ)
    → lookup (λ k. bytes_eq other k.items) c.insert.new.self.entries
    ≡ cond (bytes_eq c.args.name.now other) (Some c.args.number) (holder c.args.self.now other)
held c other =
    names_after c.in_ok-copy.copy.items c.args.number c.args.self.now.holders.entries
    c.insert.new.self.entries c.in_ok-insert.ensures.updates.1 c.in_ok-insert.ensures.updates.3
    other
    ∙ ap (λ (x : List ℕ).
    cond (bytes_eq x other) (Some c.args.number) (holder c.args.self.now other))
    (c.in_ok-copy.ensures.items ∙ c.as_bytes.ensures)

pub returns-in_err-insert-clause-err : goal.returns-in_err-insert-clause-err
returns-in_err-insert-clause-err c =
    on_err {P = IsAsGood c.args.accepted.now c.args.number c.args.name.now c.args.self.now
    (record { places = c.args.self.now.places; holders = c.insert.new.self })} _ (λ free are.
    same_entries c.args.accepted.now c.args.self.now
    (record { places = c.args.self.now.places; holders = c.insert.new.self }) are (λ q. refl)
    (λ other.
    ap (λ entries. lookup (λ k. bytes_eq other k.items) entries) c.in_err-insert.ensures.err))

pub returns-in_err-insert-2-clause-err : goal.returns-in_err-insert-2-clause-err
returns-in_err-insert-2-clause-err c =
    on_err {P = IsAsGood c.args.accepted.now c.args.number c.args.name.now c.args.self.now
    (record { places = c.insert-2.new.self; holders = c.insert.new.self })} _ (λ free are.
    held_alike c.args.accepted.now c.args.number c.args.name.now c.args.self.now
    (record { places = c.insert-2.new.self; holders = c.insert.new.self }) are free
    (λ q. ap (λ entries. lookup (nat_eq q) entries) c.in_err-insert-2.ensures.err)
    (held (goal.at.returns-in_err-insert-2-clause-err c).In_ok-insert))

pub returns-clause-ok : goal.returns-clause-ok
returns-clause-ok c =
    record {
      places = c.in_ok-insert-2.ensures.updates.0;
      names = held (goal.at.returns-clause-ok c).In_ok-insert;
    }
