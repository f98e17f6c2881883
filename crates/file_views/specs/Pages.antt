-- The pages of a competition's file (the project's own).
use Rattle.std.specs.Prelude.{◌≡◌, ℕ, List, [], ◌∷◌, codes, decimal, length}
use Rattle.hex.specs.Hex.{encode_lower}
use Rattle.http_header.specs.FieldValue.{plain_value}
use Rattle.serde_json.specs.Data.{Data}
use Rattle.sha2.specs.Sha256.{sha256}
use Rattle.markup.specs.{board_page.Escaped.escaped, Pieces.fill, replies.Tags.tag_text}
use Rattle.markup.specs.declared.replies.page.Page.{Page}
use Rattle.round_words.specs.Words.{event_words}
use Rattle.texts.specs.declared.command.Command.{Command}
use Rattle.record_views.specs.Records.{records}
use Rattle.schedule_views.specs.{Schedule.schedule, Today.today}
use Rattle.file_views.specs.Psych.{PushesPsych}
use Rattle.file_views.specs.declared.page.TheConstants.{FRAME, RECORDS, TODAY}
use Rattle.file_views.specs.declared.paths.FileView.{FileView}
use Rattle.file_views.specs.declared.paths.FileView.TheVariants.{Psych, Records, Schedule, Today}

-- what a page is of, in its title
abbrev pub what : FileView → List ℕ
what (Psych e) = event_words e
what Schedule = codes "Schedule"
what (Today number) = fill TODAY.now (decimal number ∷ [])
what (Records id) = fill RECORDS.now (event_words id.event ∷ decimal id.round ∷ [])

-- the section of a view: of the file and, where it shows or leads to rounds, of the accepted
-- commands
abbrev pub IsSectionOf : Data → List Command → FileView → List ℕ → Type 0
IsSectionOf file accepted (Psych e) section = PushesPsych file e [] section
IsSectionOf file accepted Schedule section = section ≡ schedule accepted file
IsSectionOf file accepted (Today number) section = section ≡ today number file
IsSectionOf file accepted (Records id) section = section ≡ records file accepted id

-- a section under the title of the competition
abbrev pub framed : (what title section : List ℕ) → List ℕ
framed what title section =
    fill FRAME.now (what ∷ escaped title ∷ escaped title ∷ section ∷ [])

-- the entity tag of a body: its length and, in hexadecimal digits, its digest (SHA-256 of FIPS
-- 180-4); of two bodies with one tag none is known
abbrev pub body_tag : List ℕ → List ℕ
body_tag body = tag_text (length body) (encode_lower (sha256 body))

-- the page of a file at one of its paths, beside these accepted commands; a browser asks each time
-- whether it has changed
pub record IsFilePage (title : List ℕ) (file : Data) (accepted : List Command) (view : FileView)
    (page : Page) : Type 0 where
  pub section : List ℕ
  pub of : IsSectionOf file accepted view section
  pub body : page.body ≡ framed (what view) title section
  pub kind : page.content_type ≡ plain_value (codes "text/html; charset=utf-8")
  pub keeping : page.cache_control ≡ plain_value (codes "no-cache")
  pub tag : page.tag ≡ plain_value (body_tag page.body)
