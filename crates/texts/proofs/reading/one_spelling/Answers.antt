use Rattle.texts.proofs.Words.{spelled_found, spelled_only, spelled_once, spelling_short}
use Rattle.texts.proofs.reading.one_spelling.Goals as goal

pub returns : goal.returns
returns c =
    record {
      found = spelled_found;
      only = spelled_only;
      once = spelled_once;
      short = spelling_short;
    }
