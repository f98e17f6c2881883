-- What a contract sees of the connection to a desk (the project's own).
use Rattle.std.specs.Prelude.{◌≡◌, Option, List, ℕ, [], None, Bool, true, false}
use Rattle.sealed.specs.declared.ends.trouble.CallTrouble.{CallTrouble}
use Rattle.sealed.specs.ends.ClientStreams.{ClientStreamOf}
use Rattle.desk_sockets.specs.{Keying.KeysOf, Said.IsSaid, Troubles.confirmed}
use Rattle.desk_sockets.specs.Answering.{AnsweringOf, forgotten, heard}
use Rattle.desk_sockets.specs.declared.desk_connection.ConnectionOutcome.{ConnectionOutcome}
use Rattle.desk_sockets.specs.declared.desk_connection.ConnectionTrouble.{ConnectionTrouble}
use Rattle.desk_sockets.specs.declared.desk_connection.Opening.{Opening}
use Rattle.desk_sockets.specs.declared.desk_connection.ConnectionOutcome.TheVariants as heard_is
use Rattle.desk_sockets.specs.declared.desk_connection.ConnectionTrouble.TheVariants as trouble_is
use Rattle.desk_sockets.specs.declared.desk_connection.Opening.TheVariants as opening_is

-- the keys, whether the next connection is under the former one, what went wrong last, what is
-- wrong with the keys, what the last connection that ended told of that, who answers, and the
-- caller's end of the connection, where there is one
pub record ConnectionOf : Type 0 where
  pub keys : KeysOf
  pub turned : Bool
  pub last : ConnectionTrouble
  pub trouble : Option CallTrouble
  pub suspected : Option CallTrouble
  pub who : AnsweringOf
  pub call : Option ClientStreamOf

abbrev pub connection : KeysOf → Bool → ConnectionTrouble → (trouble suspected : Option CallTrouble)
    → AnsweringOf → Option ClientStreamOf → ConnectionOf
connection keys turned last trouble suspected who call = record {
  keys = keys;
  turned = turned;
  last = last;
  trouble = trouble;
  suspected = suspected;
  who = who;
  call = call;
}

-- nothing was connected yet
pub record IsFresh (given : KeysOf) (s : ConnectionOf) : Type 0 where
  pub keys : s.keys ≡ given
  pub turned : s.turned ≡ false
  pub trouble : s.trouble ≡ None
  pub suspected : s.suspected ≡ None

-- what is known of the keys once a connection ended: something is wrong with them once two in a row
-- told the same
pub record Notes (told : Option CallTrouble) (old new : ConnectionOf) : Type 0 where
  pub trouble : new.trouble ≡ confirmed old.trouble old.suspected told
  pub suspected : new.suspected ≡ told

-- a connection is begun, on which nothing was said; where it can't be begun, it isn't known any
-- more who answers
abbrev pub who_begun : Bool → AnsweringOf → AnsweringOf
who_begun true a = record a { front = [] }
who_begun false a = forgotten (record a { front = [] })

-- nor after a connection could not be opened
abbrev pub who_at : Opening → AnsweringOf → AnsweringOf
who_at opening_is.Failed a = forgotten a
who_at opening_is.Later a = a
who_at opening_is.Open a = a

-- something may be said while it is being opened
abbrev pub IsWhoAt : {S : Type 0} → (S → Option (List ℕ)) → Option ClientStreamOf → Opening
    → (old new : AnsweringOf) → Type 0
IsWhoAt remaining call o old new =
    (said : List ℕ) × IsSaid remaining call said × (new ≡ who_at o (heard said old))

-- nor after it broke by its keys
abbrev pub who_by : ConnectionTrouble → AnsweringOf → AnsweringOf
who_by (trouble_is.Key trouble) a = forgotten a
who_by (trouble_is.System kind) a = a

abbrev pub who_in : ConnectionOutcome → ConnectionTrouble → AnsweringOf → AnsweringOf
who_in heard_is.Broke trouble a = who_by trouble a
who_in heard_is.Nothing trouble a = a
who_in heard_is.Ended trouble a = a
