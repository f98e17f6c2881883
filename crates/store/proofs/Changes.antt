-- What each change leaves inside a transaction.
use Rattle.std.proofs.Common.{◌≡◌, inl, inr, ℕ, List, [], ◌∷◌, ◌++◌, length, Some, None, Ok, Err}
use Rattle.std.proofs.Common.{Result, ◌∙◌, ap, sym, map, subst, IsPermutation}
use Rattle.sqlite.specs.{Order.Row, declared.error.Error.Error, Source.TheVariants.Values}
use Rattle.sqlite.specs.Command.{Command, TheVariants.Insert}
use Rattle.sqlite.specs.{Does.Does, Effect.Database, Listing.understood, Table.Table}
use Rattle.sqlite.specs.State.{State, mode_of, Runs, Writes, ExecutesInside}
use Rattle.sqlite.proofs.Callers.{IsPlain, command_of, statement_of, runs_as}
use Rattle.sqlite_schema.specs.declared.schema.{Index.Index, View.View}
use Rattle.acceptor.specs.declared.{entry.Entry.Entry, ballot.Ballot.Ballot, stored.Vote.Vote}
use Rattle.acceptor.specs.{declared.stored.Stored.Stored, Storing.stored_after}
use Rattle.acceptor.specs.declared.stored.Change.TheVariants.{Promised, Voted, Tried}
use Rattle.store.specs.{declared.home.Home.Home, Layout.store_schema, Inside.Inside, Inside.GoesOn}
use Rattle.store.specs.Holding.{shown_desk, shown_entry, log_values}
use Rattle.store.proofs.SqlTexts.{promise_text, vote_text, try_text, append_text}
use Rattle.store.proofs.Texts.{updates, promise_is, promise_plain, promise_terms, vote_is}
use Rattle.store.proofs.Texts.{vote_plain, vote_terms, try_is, try_plain, try_terms, append_is}
use Rattle.store.proofs.{Texts.append_plain, Texts.append_terms, Saving.update_makes, Saving.Makes}
use Rattle.store.proofs.Rewriting.{promises, promise_params, votes, vote_params, tries, try_params}
use Rattle.store.proofs.Inserting.{append_params, appends, inserted}

module _ (sql : List ℕ) (params : Row) (command : Command)
    (is : (others : List Table) (ix : List Index) (vs : List View)
    → command_of (understood (store_schema others ix vs) sql) ≡ command)
    (plain : (others : List Table) (ix : List Index) (vs : List View)
    → IsPlain (understood (store_schema others ix vs) sql))
    (home : Home) (s t : Stored) (log more : List Entry)
    (makes : Makes command params home s t log more)
    (is_write : (old new : State) (text : List ℕ) (count : ℕ)
    → Runs old new None command text params count → Writes old new None command text params count)
    (past : Database) (old new : State) (k : Inside home s log past old)
  where
    pub goes_on : (r : Result ℕ Error) → ExecutesInside 0 sql params old new r
        → GoesOn home t more past new r
    goes_on (Ok count) ran =
        let ours = k.ours in
        let w =
        is_write old new _ count
        (runs_as sql params old new (store_schema ours.others ours.indexes ours.views) ours.is
        command
        (is ours.others ours.indexes ours.views) (plain ours.others ours.indexes ours.views) count
        ran.0) in
        let all =
        makes old.step_limit (mode_of old) old.now ours k.holds
        (statement_of sql (understood (store_schema ours.others ours.indexes ours.views) sql))
        w.tally new.now w.changed in (
          record {
            is_open = ran.1.is_open;
            mode = ran.1.mode;
            committed = ran.1.committed_is ∙ k.committed;
            ours = all.0;
            holds = all.1;
          },
          tt,
        )
    goes_on (Err e) (inl (ran, inl same)) = (tt, λ live. same.0.committed_is ∙ k.committed)
    goes_on (Err e) (inl (ran, inr back)) = (tt, λ live. (back.undone live).1 ∙ k.committed)
    goes_on (Err e) (inr ends) = (tt, λ live. ends.2.0.committed_is ∙ k.committed)

module _ (past : Database) (old new : State) (r : Result ℕ Error) (home : Home) (s : Stored)
    (log : List Entry) (k : Inside home s log past old) where
  pub promise_goes_on : (b : Ballot) → ExecutesInside 0 promise_text (promise_params b) old new r
      → GoesOn home (stored_after s (Some (Promised b))) log past new r
  promise_goes_on b =
      goes_on promise_text (promise_params b) (updates promise_terms) promise_is promise_plain home
      s (record s { promised = b }) log log
      (update_makes (promise_params b) promise_terms home s (record s { promised = b }) log
      (λ trees row one shows. promises trees row home s one shows b))
      (λ _ _ _ _ w. w) past old new k r

  pub vote_goes_on : (v : Vote) → ExecutesInside 0 vote_text (vote_params v) old new r
      → GoesOn home (stored_after s (Some (Voted v))) log past new r
  vote_goes_on v =
      goes_on vote_text (vote_params v) (updates vote_terms) vote_is vote_plain home
      s (record s { promised = v.ballot; vote = Some v }) log log
      (update_makes (vote_params v) vote_terms home s
      (record s { promised = v.ballot; vote = Some v }) log
      (λ trees row one shows. votes trees row home s one shows v)) (λ _ _ _ _ w. w) past old new k r

  pub try_goes_on : (n : ℕ) → ExecutesInside 0 try_text (try_params n) old new r
      → GoesOn home (stored_after s (Some (Tried n))) log past new r
  try_goes_on n =
      goes_on try_text (try_params n) (updates try_terms) try_is try_plain home
      s (record s { tried = n }) log log
      (update_makes (try_params n) try_terms home s (record s { tried = n }) log
      (λ trees row one shows. tries trees row home s one shows n)) (λ _ _ _ _ w. w) past old new k r

append_makes : (at : ℕ) (e : Entry) (home : Home) (s : Stored) (log : List Entry) → at ≡ length log
    → Makes (Insert 1 (Values append_terms 4)) (append_params at e) home s s log (log ++ e ∷ [])
append_makes at e home s log last limit mode db ours holds text tally after does =
    let all = inserted ours.others ours.indexes ours.views ours.unkeyed at e limit mode db.trees
    text tally after (subst (λ sch.
    Does limit mode (append_params at e) (record { schema = sch; trees = db.trees }) text None
    (Insert 1 (Values append_terms 4)) (Ok (tally, after))) ours.is does) in (
      record {
        others = ours.others;
        indexes = ours.indexes;
        views = ours.views;
        is = all.0;
        unkeyed = ours.unkeyed;
      },
      record {
        desk = ap (map shown_desk) all.2 ∙ holds.desk;
        entries =
            subst (λ rows. IsPermutation (log_values 0 (log ++ e ∷ [])) (map shown_entry rows))
            (sym all.1) (appends db.trees log at e holds.entries last all.3);
      },
    )

pub append_goes_on : (past : Database) (old new : State) (r : Result ℕ Error) (home : Home)
    (s : Stored)
    (log : List Entry) → Inside home s log past old → (at : ℕ) (e : Entry) → at ≡ length log
    → ExecutesInside 0 append_text (append_params at e) old new r
    → GoesOn home s (log ++ e ∷ []) past new r
append_goes_on past old new r home s log k at e last =
    goes_on append_text (append_params at e) (Insert 1 (Values append_terms 4)) append_is
    append_plain home s s log (log ++ e ∷ []) (append_makes at e home s log last)
    (λ _ _ _ _ w. w) past old new k r
