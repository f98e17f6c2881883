-- The keys of a desk, and what it asks of its clients by them (the project's own).
use Rattle.std.specs.Prelude.{◌≡◌, ◌≢◌, ◌⊎◌, ℕ, true, false, List, Option, None, Some, IsNone}
use Rattle.std.specs.Prelude.{IsSome, if◌then◌else◌, is_some}
use Rattle.std.specs.{Borrow.Bor, Option.option_or}
use Rattle.keys.specs.key_file.KeyFiles.{HasKey}
use Rattle.sealed.specs.declared.callers.Access.{Access, TheVariants.Open, TheVariants.Locked}
use Rattle.serve.specs.declared.fault.ServeFault.{ServeFault}
use Rattle.hall_file.specs.declared.service.Service.{Service}
use Rattle.serve.specs.declared.fault.ServeFault.TheVariants as fault

-- the file of a second key, if one is named: that of the key that was the hall's, or else that of
-- the entry key
abbrev pub second_file : Service → Option (Bor (List ℕ))
second_file s = option_or s.options.old_key s.options.entry_key

-- where there is no hall's key, no second one is asked for, and nobody without a key is let in
abbrev pub IsKeyed : Service → Type 0
IsKeyed s = IsNone s.options.key → IsNone (second_file s) × (s.options.open_sheets ≡ false)

abbrev pub LacksKey : Service → Type 0
LacksKey s = IsNone s.options.key × (IsSome (second_file s) ⊎ (s.options.open_sheets ≡ true))

-- a key that a file may have
abbrev pub IsKey : List ℕ → Type 0
IsKey key = (bytes : List ℕ) × HasKey (Some bytes) key

-- the second key: one where a file of it is named, and not the hall's
abbrev pub IsSecond : Service → List ℕ → Option (List ℕ) → Type 0
IsSecond s hall None = IsNone (second_file s)
IsSecond s hall (Some key) = IsSome (second_file s) × IsKey key × (key ≢ hall)

-- nothing is asked of the clients of a desk that has no key; and else one of its keys, but that
-- callers without one may ask for sheets, where that is said
abbrev pub AreDoors : Service → Access → Type 0
AreDoors s Open = IsNone s.options.key
AreDoors s (Locked locks) =
    IsSome s.options.key × IsKey locks.hall × IsSecond s locks.hall locks.entry
    × (locks.old ≡ is_some s.options.old_key) × (locks.sheets ≡ s.options.open_sheets)

abbrev pub hall_key : Access → Option (List ℕ)
hall_key Open = None
hall_key (Locked locks) = Some locks.hall

-- the key that was the hall's, while it is changed
abbrev pub old_key : Access → Option (List ℕ)
old_key Open = None
old_key (Locked locks) = if locks.old then locks.entry else None

-- ---- why there is no key

-- its file gives none
abbrev pub IsOfKeyFile : ServeFault → Type 0
IsOfKeyFile (fault.KeyFile e) = Unit {0}
IsOfKeyFile _ = ⊥

-- that of the second key, or the two keys are one
abbrev pub IsOfSecond : ServeFault → Service → Type 0
IsOfSecond (fault.KeyFile e) s = IsSome (second_file s)
IsOfSecond fault.SameKeys s = IsSome (second_file s)
IsOfSecond _ s = ⊥

-- one of the two
abbrev pub IsOfKeys : ServeFault → Service → Type 0
IsOfKeys (fault.KeyFile e) s = IsSome s.options.key
IsOfKeys fault.SameKeys s = IsSome s.options.key × IsSome (second_file s)
IsOfKeys _ s = ⊥
