use Rattle.std.proofs.Common.{rules, ◌≡◌, ◌++◌, take}
use Rattle.sealed.proofs.ends.Fronts.{held_is}
use Rattle.sealed.proofs.ends.plain.hold.Goals as goal

pub returns-clause-held : goal.returns-clause-held
returns-clause-held c =
    let grown : c.extend_from_slice.new.self.items
    ≡ c.args.held.now.items ++ take c.min-added.result c.args.piece.now = search rules in
    held_is c.args.held.now.items c.args.piece.now c.extend_from_slice.new.self.items
    c.min-added.result c.requires.few (search rules) grown
