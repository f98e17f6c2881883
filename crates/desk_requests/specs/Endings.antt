-- How connections to desks end (the project's own).
use Rattle.std.specs.Prelude.{Bool, true, false, Option, None, Some}
use Rattle.std.specs.declared.io.ErrorKind.{ErrorKind}
use Rattle.std.specs.declared.io.ErrorKind.TheVariants as kind
use Rattle.batch.specs.declared.dialing.ConnectionLoss.{ConnectionLoss}
use Rattle.batch.specs.declared.dialing.ConnectionLoss.TheVariants as ending
use Rattle.sealed.specs.declared.ends.trouble.CallTrouble.{CallTrouble}
use Rattle.sealed.specs.declared.ends.trouble.CallTrouble.TheVariants as trouble

-- the keys of the two sides do not fit
abbrev pub trouble_ending : CallTrouble → ConnectionLoss
trouble_ending trouble.NoKey = ending.NoKey
trouble_ending trouble.OtherKey = ending.OtherKey
trouble_ending trouble.HasKey = ending.HasKey

-- it broke off, and a byte of the answer had come, or none
abbrev pub broken_ending : (heard : Bool) → ConnectionLoss
broken_ending true = ending.Own
broken_ending false = ending.Gone

-- the desk ended it in good order: the keys do not fit, or it broke off
abbrev pub cut_ending : Option CallTrouble → (heard : Bool) → ConnectionLoss
cut_ending (Some t) heard = trouble_ending t
cut_ending None heard = broken_ending heard

-- a read failed so: the desk was waited for in vain, or the connection broke off, which is no sign
-- of keys
abbrev pub ending_at : ErrorKind → (heard : Bool) → ConnectionLoss
ending_at kind.TimedOut heard = ending.Late
ending_at kind.WouldBlock heard = ending.Late
ending_at kind.ConnectionReset heard = broken_ending heard
ending_at kind.ConnectionAborted heard = broken_ending heard
ending_at _ heard = ending.Own

-- A second connection, on which only a preface was sent, shows the same as the first: a desk
-- without a key ends both as they ended; or the first ended as at a desk with another key, and the
-- desk's preface came on the second.
abbrev pub ends_so_too : (first second : ConnectionLoss) → (came : Bool) → Bool
ends_so_too ending.NoKey ending.NoKey came = true
ends_so_too ending.OtherKey second came = came
ends_so_too first second came = false

-- the end of a connection is a sign of keys only where the desk was there afterwards
abbrev pub sure_ending : ConnectionLoss → (there : Bool) → ConnectionLoss
sure_ending ending.NoKey false = ending.Gone
sure_ending ending.OtherKey false = ending.Gone
sure_ending e there = e
