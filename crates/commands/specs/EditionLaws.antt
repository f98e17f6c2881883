-- The law of the editions: a later one changes no answer before it is set. A program that knows
-- more editions answers a list that sets none of these as one that does not. The law holds whatever
-- a command means, since how many editions are known is asked at one place alone; so it does not
-- say what an edition means, nor that it means what it did. The worked days and sheets of each
-- edition say that, and the stored rows of answers.
use Rattle.std.specs.Prelude.{◌≡◌, ◌<◌, ◌≤◌, ℕ, List, All}
use Rattle.texts.specs.{declared.command.Command.TheVariants.SetEdition, Spelling.spelling}
use Rattle.commands.specs.History.{answer_in, history_in}

-- a text sets no edition after k, up to `later`
abbrev pub SetsNone : ℕ → ℕ → List ℕ → Type 0
SetsNone k later text =
    (edition : ℕ) → k < edition → edition ≤ later → ¬ (text ≡ spelling (SetEdition edition))

-- nor does any entry
abbrev pub AreWithout : ℕ → ℕ → List (ℕ × List ℕ) → Type 0
AreWithout k later entries = All (λ entry. SetsNone k later entry.1) entries

-- a program that knows the editions up to `later` answers as one that knows those up to k, after
-- entries that set no edition between, and to such an entry
abbrev pub AnswersAsEarlier : Type 0
AnswersAsEarlier =
    (k later : ℕ) (entries : List (ℕ × List ℕ)) (id : ℕ) (text : List ℕ)
    → k ≤ later → AreWithout k later entries → SetsNone k later text
    → answer_in later (history_in later entries) id text
    ≡ answer_in k (history_in k entries) id text
