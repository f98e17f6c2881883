-- The texts of the statements.
use Rattle.std.specs.Prelude.{ℕ, List, codes, ◌++◌}

abbrev pub create_desk_text : List ℕ
create_desk_text =
    codes "CREATE TABLE desk (k INTEGER PRIMARY KEY, hall INTEGER NOT NULL, number "
    ++ codes "INTEGER NOT NULL, desks INTEGER NOT NULL, promised_round INTEGER NOT NULL, "
    ++ codes "promised_desk INTEGER NOT NULL, tried INTEGER NOT NULL, vote_pos INTEGER, "
    ++ codes "vote_round INTEGER, vote_desk INTEGER, vote_id INTEGER, vote_body BLOB) "
    ++ codes "STRICT"

abbrev pub create_entries_text : List ℕ
create_entries_text =
    codes "CREATE TABLE entries (pos INTEGER PRIMARY KEY, id INTEGER NOT NULL, body BLOB "
    ++ codes "NOT NULL) STRICT"

abbrev pub promise_text : List ℕ
promise_text = codes "UPDATE desk SET promised_round = ?1, promised_desk = ?2"

abbrev pub vote_text : List ℕ
vote_text =
    codes "UPDATE desk SET promised_round = ?2, promised_desk = ?3, vote_pos = ?1, "
    ++ codes "vote_round = ?2, vote_desk = ?3, vote_id = ?4, vote_body = ?5"

abbrev pub try_text : List ℕ
try_text = codes "UPDATE desk SET tried = ?1"

abbrev pub append_text : List ℕ
append_text = codes "INSERT INTO entries (pos, id, body) VALUES (?1, ?2, ?3)"

abbrev pub desk_text : List ℕ
desk_text =
    codes "SELECT k, hall, number, desks, promised_round, promised_desk, tried, "
    ++ codes "vote_pos, vote_round, vote_desk, vote_id, vote_body FROM desk"

abbrev pub log_text : List ℕ
log_text = codes "SELECT pos, id, body FROM entries ORDER BY pos"

abbrev pub first_text : List ℕ
first_text =
    codes "INSERT INTO desk (k, hall, number, desks, promised_round, promised_desk, "
    ++ codes "tried) VALUES (1, ?1, ?2, ?3, 0, 0, 0)"
