-- A log from line to line, and how that ends, in words on the whole input.
use Rattle.std.proofs.Common.{◌≡◌, ℕ, ◌+◌, List, [], ◌∷◌, ◌++◌, length, fold, Option, refl, sym, ap}
use Rattle.std.proofs.Common.{◌∙◌, length-append, add_comm, arith, subst}
use Rattle.std.specs.List.{enumerate_from}
use Rattle.commands.specs.History.{History, nothing, history, after}
use Rattle.lines.specs.{Lines.lines_of, declared.fault.RunFault.RunFault}
use Rattle.lines.specs.Reading.{Reading, HasGiven, GivesLine, GivesFault}
use Rattle.lines.proofs.Inputs.{left_is, left_of, lines_above}
use Rattle.replay.specs.Replay.{entries}
use Rattle.exports.specs.{Logs.fault_of_run, declared.logs.LogFault.LogFault}
use Rattle.exports.specs.model.Applying.{AppliesNotAll}
use Rattle.lines.specs.declared.fault.RunFault.TheVariants as run
use Rattle.exports.specs.declared.logs.LogFault.TheVariants as log

abbrev pub histories : History → List (ℕ × List ℕ) → History
histories h es = fold (λ h entry. after h entry.0 entry.1) h es

enumerate_append : (n : ℕ) (xs ys : List (List ℕ))
    → enumerate_from n (xs ++ ys) ≡ enumerate_from n xs ++ enumerate_from (n + length xs) ys
enumerate_append n [] ys = ap (λ m. enumerate_from m ys) (omega arith)
enumerate_append n (x ∷ xs) ys =
    ap (λ es. (n, x) ∷ es) (enumerate_append (n + 1) xs ys
    ∙ ap (λ m. enumerate_from (n + 1) xs ++ enumerate_from m ys) (omega arith))

histories_append : (h : History) (es fs : List (ℕ × List ℕ))
    → histories h (es ++ fs) ≡ histories (histories h es) fs
histories_append h [] fs = refl
histories_append h (e ∷ es) fs = histories_append (after h e.0 e.1) es fs

-- one more line
history_more : (lines : List (List ℕ)) (line : List ℕ) → history (entries (lines ++ line ∷ []))
    ≡ after (history (entries lines)) (length lines + 1) line
history_more lines line =
    ap history (enumerate_append 1 lines (line ∷ [])
    ∙ ap (λ n. entries lines ++ (n, line) ∷ []) (add_comm 1 (length lines)))
    ∙ histories_append nothing (entries lines) ((length lines + 1, line) ∷ [])

-- the lines that were given are applied
pub record Applied (p : Reading) (meet : History) (given : List ℕ) (start now : Option (List ℕ))
    : Type 0 where
  pub read : HasGiven p given start now
  pub meet_is : meet ≡ history (entries (lines_of given))

pub one_more : (p q : Reading) (meet meet' : History) (line given : List ℕ)
    (start before now : Option (List ℕ))
    → Applied p meet given start before → (g : GivesLine q line given start now)
    → meet' ≡ after meet q.lines line → Applied q meet' (given ++ g.more) start now
one_more p q meet meet' line given start before now a g after_it =
    let count : q.lines ≡ length (lines_of given) + 1 = g.read.lines ∙ ap length g.is
    ∙ length-append (lines_of given) (line ∷ []) in
    record {
      read = g.read;
      meet_is =
          after_it ∙ rw (a.meet_is, count) (sym (history_more (lines_of given) line))
          ∙ ap (λ lines. history (entries lines)) (sym g.is);
    }

-- memory ran out
pub starved : (start : Option (List ℕ)) (e : LogFault) → e ≡ log.NoMemory → AppliesNotAll start e
starved start e is =
    subst (AppliesNotAll start) (sym is) (left_of start, left_is start, tt)

-- reading ended early
pub stops : (e : RunFault) (given : List ℕ) (start now : Option (List ℕ))
    → GivesFault e given start now → AppliesNotAll start (fault_of_run e)
stops run.InputTooLong given start now f =
    let above = lines_above given f.0 start now f.1 in (above.0, above.1, above.2)
stops run.Read given start now f = (left_of start, left_is start, tt)
stops run.NoMemory given start now f = (left_of start, left_is start, tt)
stops _ given start now f = absurd f
