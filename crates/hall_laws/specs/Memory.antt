-- A keeper of a kind that never fails: it remembers what it is given, and nothing waits (the
-- project's own). So there are keepers that meet what laws ask of keepers of any kind.
use Rattle.std.specs.Prelude.{◌≡◌, false, List}
use Rattle.acceptor.specs.declared.{entry.Entry.Entry, stored.Stored.Stored}
use Rattle.store.specs.declared.{home.Home.Home, keeper.Keeper.Ghosts}

pub record Memory : Type 0 where
  pub home : Home
  pub stored : Stored
  pub log : List Entry

-- it holds what it remembers and nothing else, and no premise on files is needed
abbrev pub memory : Ghosts Memory
memory = record {
  is_honest = λ m. Unit {0};
  may_hold = λ m s log. (s ≡ m.stored) × (log ≡ m.log);
  may_break = λ m. ⊥;
  keeps = λ m s log. (s ≡ m.stored) × (log ≡ m.log);
  finds = λ m s log. (s ≡ m.stored) × (log ≡ m.log);
  is_settled = λ m. Unit {0};
  is_down = λ m. false;
  failures_of = λ m. 0;
  home_of = λ m. m.home;
  save_gives = λ m change result after. Unit {0};
  load_gives = λ m result after. Unit {0};
}
