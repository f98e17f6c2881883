-- A competition and its file, which was written by hand in the words of the WCA Competition
-- Interchange Format (https://github.com/thewca/wcif, specification.md), byte for byte. Number 2 is
-- in front of number 1, each with an e-mail address before the name; one person is pending, and one
-- is deleted and has a number; 3x3x3 has two rounds, fewest moves has one.
use Rattle.std.specs.Prelude.{◌≡◌, ℕ, List, [], ◌∷◌, ◌++◌, codes, Some, None}
use Rattle.formats.specs.declared.advance.Advance.TheVariants.{Final, Top}
use Rattle.formats.specs.declared.events.Event.TheVariants.{Cube3, FewestMoves}
use Rattle.formats.specs.declared.events.Format.TheVariants.{Ao5, Mo3}
use Rattle.texts.specs.declared.command.Settings.{Settings}
use Rattle.wcif.specs.declared.options.{Edition.TheVariants.Four, Options.Options}
use Rattle.wcif.specs.Lines.{lines}
use Rattle.import_laws.specs.Competitions.{accepted, pending, deleted, Person, Held, Competition}
use Rattle.import_laws.specs.{Held.IsHeld, Laws.IsImportedTo, SetUp.set_up, Spelled.spelled}
use Rattle.wcif.specs.declared.options.CumulativeLimits.TheVariants as limits
use Rattle.wcif.specs.declared.options.SameNames.TheVariants as names

abbrev pub ada : Person
ada =
    record {
      email = codes "ada@example.org";
      name = codes "Ada Byron";
      wca_id = Some (codes "2019BYRO01");
      number = Some 2;
      status = accepted;
      events = Cube3 ∷ FewestMoves ∷ [];
    }

abbrev pub bob : Person
bob =
    record {
      email = codes "bob@example.org";
      name = codes "Bob Stone";
      wca_id = None;
      number = None;
      status = pending;
      events = Cube3 ∷ [];
    }

abbrev pub cy : Person
cy =
    record {
      email = codes "cy@example.org";
      name = codes "Cy \"Reed\"";
      wca_id = None;
      number = Some 3;
      status = deleted;
      events = Cube3 ∷ [];
    }

abbrev pub zoe : Person
zoe =
    record {
      email = codes "zoe@example.org";
      name = codes "Zoe Lind";
      wca_id = None;
      number = Some 1;
      status = accepted;
      events = Cube3 ∷ [];
    }

abbrev pub first_cubes : Settings
first_cubes =
    record { format = Ao5; cutoff = Some (2, 1500); limit = Some 60000; advance = Top 8 }

abbrev pub last_cubes : Settings
last_cubes = record { format = Ao5; cutoff = None; limit = Some 60000; advance = Final }

abbrev pub only_moves : Settings
only_moves = record { format = Mo3; cutoff = None; limit = None; advance = Final }

abbrev pub cubes : Held
cubes = record { event = Cube3; rounds = first_cubes ∷ last_cubes ∷ [] }

abbrev pub moves : Held
moves = record { event = FewestMoves; rounds = only_moves ∷ [] }

abbrev pub meet : Competition
meet =
    record {
      name = codes "Example Open";
      persons = ada ∷ bob ∷ cy ∷ zoe ∷ [];
      events = cubes ∷ moves ∷ [];
    }

abbrev pub file : List ℕ
file =
    codes "{\"formatVersion\":\"1.0\",\"name\":\"Example Open\",\"persons\":["
    ++ codes "{\"email\":\"ada@example.org\",\"name\":\"Ada Byron\",\"wcaId\":\"2019BYRO01\","
    ++ codes "\"registrantId\":2,\"registration\":{\"status\":\"accepted\","
    ++ codes "\"eventIds\":[\"333\",\"333fm\"]}},"
    ++ codes "{\"email\":\"bob@example.org\",\"name\":\"Bob Stone\",\"wcaId\":null,"
    ++ codes "\"registrantId\":null,\"registration\":{\"status\":\"pending\","
    ++ codes "\"eventIds\":[\"333\"]}},"
    ++ codes "{\"email\":\"cy@example.org\",\"name\":\"Cy \\\"Reed\\\"\",\"wcaId\":null,"
    ++ codes "\"registrantId\":3,\"registration\":{\"status\":\"deleted\","
    ++ codes "\"eventIds\":[\"333\"]}},"
    ++ codes "{\"email\":\"zoe@example.org\",\"name\":\"Zoe Lind\",\"wcaId\":null,"
    ++ codes "\"registrantId\":1,\"registration\":{\"status\":\"accepted\","
    ++ codes "\"eventIds\":[\"333\"]}}],"
    ++ codes "\"events\":[{\"id\":\"333\",\"rounds\":[{\"id\":\"333-r1\",\"format\":\"a\","
    ++ codes "\"timeLimit\":{\"centiseconds\":60000,\"cumulativeRoundIds\":[]},"
    ++ codes "\"cutoff\":{\"numberOfAttempts\":2,\"attemptResult\":1500},"
    ++ codes "\"advancementCondition\":{\"type\":\"ranking\",\"level\":8},\"results\":[]},"
    ++ codes "{\"id\":\"333-r2\",\"format\":\"a\","
    ++ codes "\"timeLimit\":{\"centiseconds\":60000,\"cumulativeRoundIds\":[]},"
    ++ codes "\"cutoff\":null,\"advancementCondition\":null,\"results\":[]}]},"
    ++ codes "{\"id\":\"333fm\",\"rounds\":[{\"id\":\"333fm-r1\",\"format\":\"m\","
    ++ codes "\"timeLimit\":null,\"cutoff\":null,\"advancementCondition\":null,"
    ++ codes "\"results\":[]}]}]}"

-- what `desk import` prints of it
abbrev pub printed : List ℕ
printed =
    codes "EDITION 4\n"
    ++ codes "REG 1 Zoe Lind\n"
    ++ codes "REG 2 Ada Byron\n"
    ++ codes "OPEN 333 1 ao5 2:1500 60000 top:8\n"
    ++ codes "OPEN 333fm 1 mo3 - - final\n"
    ++ codes "ENT 333 1\n"
    ++ codes "ENT 333 2\n"
    ++ codes "ENT 333fm 2\n"

abbrev pub plain : Options
plain = record { edition = Four; limits = limits.Refuse; names = names.Refuse }

-- the competition is one of which a desk can hold all, its file is this, and is imported to the
-- commands that are printed so
pub record WorksFile : Type 0 where
  pub held : IsHeld meet
  pub bytes : spelled meet ≡ file
  pub imported : IsImportedTo plain file (set_up Four meet)
  pub commands : lines (set_up Four meet) ≡ printed
