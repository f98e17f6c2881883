-- A desk that serves, step after step (the project's own).
use Rattle.std.specs.Prelude.{◌≡◌, ℕ, [], Option, None}
use Rattle.answers.specs.declared.desk.Desk.{Ghosts as DeskOf}
use Rattle.multiplex.specs.{Dear.fresh_dear, Passing.first_ticks}
use Rattle.multiplex.specs.declared.table.{ClientTable.ClientTable, ServingOptions.ServingOptions}

-- how clients are served, the clients, and the desk
pub record RoundsOf (V : Type 0) : Type 0 where
  pub terms : ServingOptions
  pub table : ClientTable
  pub desk : V

abbrev pub rounds : {V : Type 0} → ServingOptions → ClientTable → V → RoundsOf V
rounds terms table desk = record { terms = terms; table = table; desk = desk }

-- no client came yet, and the desk's own Ticks count from here
pub record Begins {V : Type 0} (d : DeskOf V) (t : ServingOptions) (period : Option ℕ) (first : V)
    (r : RoundsOf V) : Type 0 where
  pub terms : r.terms ≡ t
  pub desk : r.desk ≡ first
  pub empty : r.table.guests.items ≡ []
  pub next : r.table.next ≡ 0
  pub time : r.table.time ≡ 0
  pub own : r.table.own ≡ first_ticks (d.home_of first) period (d.seen first)
  pub dear : r.table.dear ≡ fresh_dear
  pub differs : r.table.differs ≡ None
