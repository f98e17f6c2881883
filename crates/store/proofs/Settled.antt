-- What a settling leaves, and what a keeper has in which nothing waits.
use Rattle.std.proofs.Common.{◌≡◌, ◌≤◌, ◌⊎◌, inl, inr, refl, sym, ap, subst, subst₂, ◌∙◌, ℕ, List}
use Rattle.std.proofs.Common.{[], ◌∷◌, ◌++◌, length, Some, Result, IsTrue}
use Rattle.sqlite.specs.{Tree.Trees, declared.error.Error.Error, State.State, State.HasCleanDisk}
use Rattle.acceptor.specs.declared.{entry.Entry.Entry, stored.Change.Change, stored.Stored.Stored}
use Rattle.acceptor.specs.Storing.{stored_after, log_after}
use Rattle.store.specs.{declared.home.Home.Home, Keeping.FindsNoMore, Kept.Keeps, Kept.MayBreak}
use Rattle.store.specs.Changes.{Leads, stored_after_all, log_after_all}
use Rattle.store.specs.{Inside.SavesAllAt, Inside.TellsLength, Ranges.IsFit, Ranges.most_entries}
use Rattle.store.specs.{Kept.MayLeave, Kept.Saved, Waiting.KeepsBefore, Waiting.MayLeaveBefore}
use Rattle.store.specs.model.Unique.{alone, alone_after, leads_nowhere, one_state}

-- ---- one change more waits

stored_more : (s : Stored) (changes : List Change) (c : Change)
    → stored_after_all s (changes ++ c ∷ []) ≡ stored_after (stored_after_all s changes) (Some c)
stored_more s [] c = refl
stored_more s (x ∷ more) c = stored_more (stored_after s (Some x)) more c

log_more : (log : List Entry) (changes : List Change) (c : Change)
    → log_after_all log (changes ++ c ∷ []) ≡ log_after (log_after_all log changes) (Some c)
log_more log [] c = refl
log_more log (x ∷ more) c = log_more (log_after log (Some x)) more c

pub kept_more : (home : Home) (len : ℕ) (changes now : List Change) (c : Change) (state : State)
    (s : Stored) (log : List Entry)
    → KeepsBefore home len changes state s log → now ≡ changes ++ c ∷ []
    → KeepsBefore home len now state (stored_after s (Some c)) (log_after log (Some c))
kept_more home len changes now c state s log k is = record {
  before = k.before;
  past = k.past;
  leads =
      subst (λ cs.
      Leads cs k.before k.past (stored_after s (Some c)) (log_after log (Some c))) (sym is)
      (record {
        stored =
            ap (λ t. stored_after t (Some c)) k.leads.stored ∙ sym (stored_more k.before changes c);
        log = ap (λ l. log_after l (Some c)) k.leads.log ∙ sym (log_more k.past changes c);
      });
  long = k.long;
  keeps = k.keeps;
}

-- ---- all are committed, or that fails

pub saved_of : (len : ℕ) (changes items : List Change) (old new : State)
    (r : Result (Unit {0}) Error) (home : Home) (s : Stored) (log : List Entry)
    → SavesAllAt len items old new r → changes ≡ items → HasCleanDisk new
    → (k : KeepsBefore home len changes old s log) → IsFit home.desks s log
    → Saved home k.before s k.past log new r
saved_of len changes items old new r home s log saves same clean k fit =
    subst (λ t. Saved home k.before t k.past log new r) (sym k.leads.stored)
    (subst (λ l. Saved home k.before (stored_after_all k.before changes) k.past l new r)
    (sym k.leads.log)
    ((subst (λ cs. SavesAllAt len cs old new r) (sym same) saves) clean home k.before k.past
    k.keeps k.long (subst (λ l. length l ≤ most_entries) k.leads.log fit.long)))

pub length_of : (len after : ℕ) (changes items : List Change) (old : State) (home : Home)
    (s : Stored) (log : List Entry)
    → TellsLength len items after → changes ≡ items → KeepsBefore home len changes old s log
    → IsFit home.desks s log → after ≡ length log
length_of len after changes items old home s log tells same k fit =
    subst (λ l. after ≡ length l) (sym k.leads.log)
    ((subst (λ cs. TellsLength len cs after) (sym same) tells) k.past k.long
    (subst (λ l. length l ≤ most_entries) k.leads.log fit.long))

pub kept_all : (home : Home) (after : ℕ) (items : List Change) (new : State) (s : Stored)
    (log : List Entry) → after ≡ length log → items ≡ [] → Keeps home s log new
    → KeepsBefore home after items new s log
kept_all home after items new s log long none keeps = record {
  before = s;
  past = log;
  leads = leads_nowhere items s log none;
  long = long;
  keeps = keeps;
}

module _ (home : Home) (len : ℕ) (changes : List Change) (old : State) (s : Stored)
    (log : List Entry)
    (settles : (db : Trees) → IsTrue old.is_open → old.may_leave db → db ≡ old.committed.trees)
    (stays : IsTrue old.is_open → old.may_leave old.committed.trees)
    (k : KeepsBefore home len changes old s log)
  where
    pub whole_so : ¬ MayBreak old home
    whole_so = (alone_after old home len changes s log settles stays k).whole

    pub either_for : (new : State) (r : Result (Unit {0}) Error)
        → Saved home k.before s k.past log new r → (¬ MayBreak new home)
        × ((t : Stored) (more : List Entry) → MayLeave new home t more
        → MayLeave old home t more ⊎ MayLeaveBefore changes old home t more)
    either_for new r saved = (
      λ broken. elim (saved.crash broken.0 broken.1) [
        | inl before ↦ broken.2 k.before k.past before
        | inr after ↦ broken.2 s log after
      ],
      λ t more held. elim (saved.crash held.0 held.1) [
        | inl before ↦ inl (let same =
            one_state home home held.0 t k.before more k.past held.2 before in
            subst₂ (λ u l. MayLeave old home u l) (sym same.0) (sym same.1)
            (alone old home k.before k.past settles stays k.keeps).holds)
        | inr after ↦ inr (let same = one_state home home held.0 t s more log held.2 after in
            subst₂ (λ u l. MayLeaveBefore changes old home u l) (sym same.0) (sym same.1)
            (alone_after old home len changes s log settles stays k).holds)
      ],
    )

-- ---- nothing waits

pub leads_same : (changes : List Change) (t s : Stored) (past log : List Entry) → changes ≡ []
    → Leads changes t past s log → (s ≡ t) × (log ≡ past)
leads_same changes t s past log none leads =
    let h = subst (λ cs. Leads cs t past s log) none leads in (h.stored, h.log)

pub kept_alone : (home : Home) (len : ℕ) (changes : List Change) (state : State) (s : Stored)
    (log : List Entry)
    → changes ≡ [] → KeepsBefore home len changes state s log → Keeps home s log state
kept_alone home len changes state s log none k =
    let same = leads_same changes k.before s k.past log none k.leads in
    subst₂ (λ t l. Keeps home t l state) (sym same.0) (sym same.1) k.keeps

pub kept_with : (home : Home) (len : ℕ) (changes : List Change) (old new : State) (s : Stored)
    (log : List Entry) → KeepsBefore home len changes old s log
    → ((t : Stored) (past : List Entry) → Keeps home t past old → Keeps home t past new)
    → KeepsBefore home len changes new s log
kept_with home len changes old new s log k on = record {
  before = k.before;
  past = k.past;
  leads = k.leads;
  long = k.long;
  keeps = on k.before k.past k.keeps;
}

-- a call that leaves nothing new after a crash
pub finds_no_more : (home : Home) (changes : List Change) (old new : State)
    → ((db : Trees) → new.may_leave db → old.may_leave db)
    → FindsNoMore (MayLeaveBefore changes old home) (MayBreak old home)
    (MayLeaveBefore changes new home) (MayBreak new home)
finds_no_more home changes old new less = (
  λ s log h. (h.0, h.1, (h.2.0, less h.2.0 h.2.1, h.2.2), h.3),
  λ broken. (broken.0, less broken.0 broken.1, broken.2),
)
