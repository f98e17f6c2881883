-- What the caller may ask of a desk (the project's own).
use Rattle.std.specs.Prelude.{Option, None, Some, if◌then◌else◌}
use Rattle.sealed.specs.declared.callers.Caller.{Caller, TheVariants.Anyone, TheVariants.Visitor}
use Rattle.sealed.specs.declared.callers.Access.{Access, TheVariants.Open, TheVariants.Locked}
use Rattle.sealed.specs.declared.callers.Holder.TheVariants.{Hall, Entry}
use Rattle.serving.specs.declared.permission.Permission.{Permission}
use Rattle.sealed.specs.declared.callers.Caller.TheVariants as caller
use Rattle.serving.specs.declared.permission.Permission.TheVariants as permission

-- under the second key: everything where it was the hall's, and else what clients ask, but for a
-- Stop
abbrev pub second_permission : Access → Permission
second_permission Open = permission.Entries
second_permission (Locked locks) = if locks.old then permission.All else permission.Entries

-- everything, where the desk asks for no key and under the hall's key; as said under the second
-- one; and what changes nothing, without a key
abbrev pub permission_of : Access → Option Caller → Permission
permission_of doors (Some Anyone) = permission.All
permission_of doors (Some Visitor) = permission.Sheets
permission_of doors (Some (caller.Holder Hall)) = permission.All
permission_of doors (Some (caller.Holder Entry)) = second_permission doors
permission_of doors None = permission.Sheets
