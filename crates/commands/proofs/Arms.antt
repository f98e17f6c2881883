-- What each command is refused for, by the rounds and the competitors that are kept.
use Rattle.std.proofs.Common.{◌≡◌, ℕ, ◌+◌, ◌≤◌, Bool, true, false, not, cond, List, Option, Some}
use Rattle.std.proofs.Common.{Result, Ok, Err, IfOk, suc, refl, sym, ap, ◌∙◌, arith}
use Rattle.std.specs.declared.alloc.AllocError.{AllocError}
use Rattle.std.proofs.lemmas.Bool.{false≢true}
use Rattle.cube.specs.declared.moves.Move.{Move}
use Rattle.rounds.specs.Tables.{Table}
use Rattle.texts.specs.{declared.answer.Code.Code, Fields.round_id}
use Rattle.texts.specs.declared.command.{Command.Command, RoundId.RoundId, Settings.Settings}
use Rattle.texts.specs.declared.command.Command.TheVariants.{Enter, Attempt, Correct, Strike, Close}
use Rattle.texts.specs.declared.command.Command.TheVariants.{Rename, Rescramble, Withdraw, Reopen}
use Rattle.texts.specs.declared.command.Command.TheVariants.{Card, Fix, Cancel}
use Rattle.commands.specs.{declared.index.Index.Index, model.Kept.is_of_nobody}
use Rattle.commands.specs.Accepted.{scramble_of, close_refusal, rescramble_refusal, reopen_refusal}
use Rattle.commands.specs.Accepted.{cancel_refusal, is_registered, refusal, round_of, round_by}
use Rattle.commands.specs.model.Kept.{kept_round, kept_by, kept_solved, kept_competitors, IsIndexOf}
use Rattle.commands.proofs.Indexed.{close_alike, rescramble_alike}
use Rattle.texts.specs.declared.answer.Code.TheVariants as code

-- nobody has the number that a command speaks of
pub unknown : (cs : List Command) (c : Command) → is_of_nobody cs c ≡ true
    → Some code.UnknownCompetitor ≡ refusal cs c
unknown cs (Enter e n) h = rw h refl
unknown cs (Attempt entry) h = rw h refl
unknown cs (Correct entry) h = rw h refl
unknown cs (Strike id n) h = rw h refl
unknown cs (Rename n name) h = rw h refl
unknown cs (Withdraw id n) h = rw h refl
unknown cs (Card card) h = rw h refl
unknown cs (Fix card) h = rw h refl
unknown cs _ h = absurd (false≢true h)

-- where somebody has it, the further checks are made
pub known_then : (b : Bool) (further : Option Code) → not b ≡ false
    → further ≡ cond (not b) (Some code.UnknownCompetitor) further
known_then true further h = refl
known_then false further h = absurd (false≢true (sym h))

module _ (cs : List Command) (index : Index) (is : IsIndexOf cs index) where
  -- a check that asks for one round
  pub by_round : (id : RoundId) (check : Option (Settings × Table) → Option Code)
      (answer : Option Code)
      → answer ≡ check (kept_by id index.rounds) → answer ≡ check (round_by cs id)
  by_round id check answer says = says ∙ ap check (is.rounds.rounds id.event id.round)

  -- the same of a command of a competitor
  pub by_entrant : (id : RoundId) (n : ℕ) (check : Option (Settings × Table) → Option Code)
      (answer : Option Code)
      → not (is_registered cs n) ≡ false → answer ≡ check (kept_by id index.rounds) → answer
      ≡ cond (not (is_registered cs n)) (Some code.UnknownCompetitor) (check (round_by cs id))
  by_entrant id n check answer known says =
      by_round id check answer says ∙ known_then (is_registered cs n) (check (round_by cs id)) known

  -- and where want of memory may take the place of an answer
  pub by_entrant_or : (id : RoundId) (n : ℕ) (check : Option (Settings × Table) → Option Code)
      (result : Result (Option Code) AllocError) → not (is_registered cs n) ≡ false
      → IfOk result (λ answer. answer ≡ check (kept_by id index.rounds)) → IfOk result (λ answer.
      answer
      ≡ cond (not (is_registered cs n)) (Some code.UnknownCompetitor) (check (round_by cs id)))
  by_entrant_or id n check (Ok answer) known says = by_entrant id n check answer known says
  by_entrant_or id n check (Err fault) known says = tt

  pub again_answered : (id : RoundId) (k : ℕ) (moves : List Move)
      (result : Result (Option Code) AllocError) → 1 ≤ k → IfOk result (λ answer.
      answer ≡ rescramble_refusal id.event k (scramble_of cs id.event id.round k)
      (λ n. kept_solved id.event id.round k n index.rounds.opened.items) (kept_by id index.rounds))
      → IfOk result (λ answer. answer ≡ refusal cs (Rescramble id k moves))
  again_answered id k moves (Ok answer) low says =
      says
      ∙ rescramble_alike cs index.rounds.opened.items id.event id.round k low is.rounds
      (scramble_of cs id.event id.round k)
  again_answered id k moves (Err fault) low says = tt

  pub reopens : (answer : Option Code) (id : RoundId) → answer
      ≡ reopen_refusal (kept_by (round_id id.event (id.round + 1)) index.rounds)
      (kept_by id index.rounds) → answer ≡ refusal cs (Reopen id)
  reopens answer id says =
      says
      ∙ rw (is.rounds.rounds id.event id.round, is.rounds.rounds id.event (id.round + 1)) refl

  pub closes : (answer : Option Code) (id : RoundId) → answer
      ≡ close_refusal (kept_competitors id.event index.rounds.opened.items) id.round
      (kept_by id index.rounds) → answer ≡ refusal cs (Close id)
  closes answer id says =
      says ∙ close_alike cs index.rounds.opened.items id.event id.round is.rounds

  pub cancels : (answer : Option Code) (id : RoundId) → answer
      ≡ cancel_refusal (kept_round id.event (suc id.round) index.rounds.opened.items)
      (kept_by id index.rounds) → answer ≡ refusal cs (Cancel id)
  cancels answer id says =
      let next : suc id.round ≡ id.round + 1 = omega arith in
      says
      ∙ rw (is.rounds.rounds id.event (suc id.round), is.rounds.rounds id.event id.round)
      (ap (λ (n : ℕ). cancel_refusal (round_of cs id.event n) (round_by cs id)) next)

-- whose name is changed is registered, where the number is not of nobody
pub known_number : (cs : List Command) (n : ℕ) (name : List ℕ)
    → is_of_nobody cs (Rename n name) ≡ false → is_registered cs n ≡ true
known_number cs n name h = step (is_registered cs n) h
  where
    step : (b : Bool) → not b ≡ false → b ≡ true
    step true h = refl
    step false h = absurd (false≢true (sym h))
