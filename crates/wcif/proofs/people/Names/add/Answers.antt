use Rattle.std.specs.{String.string_bytes, HashSet.contains_text}
use Rattle.std.proofs.lemmas.Map.Text.{hash_set_updates_text}
use Rattle.wcif.proofs.Numbered.{put_name}
use Rattle.wcif.proofs.people.Names.add.Goals as goal

pub returns-then-not-is_clear-clause-kept : goal.returns-then-not-is_clear-clause-kept
returns-then-not-is_clear-clause-kept c other =
    put_name (string_bytes c.args.name) other (contains_text c.insert.new.self other)
    (contains_text c.args.self.now.names other) (hash_set_updates_text (string_bytes c.args.name)
    c.args.self.now.names c.insert.new.self _ c.in_ok-is_new.ensures.updates other)

pub returns-else-not-is_new-clause-kept : goal.returns-else-not-is_new-clause-kept
returns-else-not-is_new-clause-kept c other =
    put_name (string_bytes c.args.name) other (contains_text c.insert.new.self other)
    (contains_text c.args.self.now.names other) (hash_set_updates_text (string_bytes c.args.name)
    c.args.self.now.names c.insert.new.self _ c.in_ok-is_new.ensures.updates other)
