-- What can be wrong with the keys of the two sides of a connection (the project's own).
use Rattle.std.specs.Prelude.{Bool, true, not, Option, None, Some}
use Rattle.sealed.specs.declared.ends.trouble.CallTrouble.{CallTrouble}
use Rattle.sealed.specs.declared.ends.trouble.CallTrouble.TheVariants.{NoKey, OtherKey, HasKey}

-- it can be said to a holder of a key that a desk has none, or another one; to others, that a desk
-- has one
abbrev pub fits : Bool → Option CallTrouble → Bool
fits keyed None = true
fits keyed (Some NoKey) = keyed
fits keyed (Some OtherKey) = keyed
fits keyed (Some HasKey) = not keyed

-- what is wrong once a connection ended: what it told, where the one before it told the same
abbrev pub confirmed : (known before told : Option CallTrouble) → Option CallTrouble
confirmed known (Some NoKey) (Some NoKey) = Some NoKey
confirmed known (Some OtherKey) (Some OtherKey) = Some OtherKey
confirmed known (Some HasKey) (Some HasKey) = Some HasKey
confirmed known before told = known
