-- What one more entry makes of a history.
use Rattle.std.proofs.Common.{◌≡◌, ℕ, Bool, true, false, cond, ◌||◌, ◌==◌, List, [], ◌∷◌, ◌++◌}
use Rattle.std.proofs.Common.{fold, None, Ok, refl, sym, ap, ◌∙◌, eqb-true}
use Rattle.std.specs.List.{list_any}
use Rattle.std.proofs.lemmas.List.{Folds.list_any-append, Sums.fold-append}
use Rattle.commands.specs.History.{History, nothing, added_read, is_seen, answer_of, answer_to}
use Rattle.commands.specs.History.{entry_refusal_in, read_refusal, after, after_in, history}
use Rattle.commands.{specs.History.StandsFor, specs.History.spelled_refusal, proofs.Known.read_fit}
use Rattle.texts.specs.{declared.answer.Answer.TheVariants.Done, Reading.command_of}
use Rattle.texts.specs.declared.command.{Command.Command, RemarkedCommand.RemarkedCommand}
use Rattle.texts.proofs.Words.{spelled_only}

-- a history that stands for a list stands, after one more entry, for the list and that entry
pub stands_more : (h new : History) (id : ℕ) (text : List ℕ) → new ≡ after h id text
    → (entries : List (ℕ × List ℕ)) → StandsFor h entries
    → StandsFor new (entries ++ (id, text) ∷ [])
stands_more h new id text is entries stands =
    is ∙ ap (λ (x : History). after x id text) stands
    ∙ sym
    (fold-append (λ (x : History) (entry : ℕ × List ℕ). after x entry.0 entry.1) nothing entries
    ((id, text) ∷ []))

-- the id of an entry was seen
pub after_seen : (h : History) (id : ℕ) (text : List ℕ) → is_seen h id ≡ true → h ≡ after h id text
unfolding after_in
after_seen h id text seen = rw seen refl

pub answer_new : (h : History) (id : ℕ) (text : List ℕ) → is_seen h id ≡ false
    → answer_to h id text ≡ answer_of (read_refusal h.accepted (command_of text))
unfolding entry_refusal_in
answer_new h id text new = rw new refl

-- what its command adds is accepted
pub accepted_new : (h : History) (id : ℕ) (text : List ℕ) → is_seen h id ≡ false
    → (after h id text).accepted
    ≡ h.accepted ++ added_read (read_refusal h.accepted (command_of text)) (command_of text)
unfolding after_in
accepted_new h id text new = rw new refl

-- the id of an entry is new
pub after_new : (h new : History) (id : ℕ) (text : List ℕ) → is_seen h id ≡ false
    → new.ids ≡ h.ids ++ id ∷ [] → new.accepted
    ≡ h.accepted ++ added_read (read_refusal h.accepted (command_of text)) (command_of text)
    → new ≡ after h id text
unfolding after_in
after_new h new id text unseen ids accepted = rw (unseen, ← ids, ← accepted) refl

-- the history with one more entry, whose command was accepted
abbrev pub grown : History → ℕ → Command → History
grown h id c = record { ids = h.ids ++ id ∷ []; accepted = h.accepted ++ c ∷ [] }

-- an entry of a new id whose text reads as a command that is accepted
module _ (h : History) (id : ℕ) (text : List ℕ) (told : RemarkedCommand)
    (new : is_seen h id ≡ false)
    (reads : command_of text ≡ Ok told) (accepted : spelled_refusal h.accepted told ≡ None) where
  not_refused : read_refusal h.accepted (Ok told) ≡ None
  not_refused = read_fit h.accepted told (spelled_only text told reads).0.0 ∙ accepted

  pub answer_done : answer_to h id text ≡ Done
  answer_done =
      answer_new h id text new ∙ ap (λ r. answer_of (read_refusal h.accepted r)) reads
      ∙ ap answer_of not_refused

  pub after_done : after h id text ≡ grown h id told.command
  after_done =
      sym (after_new h (grown h id told.command) id text new refl
      (ap (λ (more : List Command). h.accepted ++ more) (sym
      (ap (λ r. added_read (read_refusal h.accepted r) r) reads
      ∙ ap (λ o. added_read o (Ok told)) not_refused))))

seen_same : (i id : ℕ) (ids : List ℕ) → (id == i) ≡ true → list_any (λ other. i == other) ids ≡ true
    → list_any (λ other. id == other) ids ≡ true
seen_same i id ids same seen = rw (eqb-true id i same) seen

or_none : (a : Bool) → a ≡ (a || false)
or_none true = refl
or_none false = refl

or_last : (a b : Bool) → (a || (b || false)) ≡ (a || b)
or_last true b = refl
or_last false true = refl
or_last false false = refl

-- one more entry is one more id
pub after_ids : (h : History) (i id : ℕ) (text : List ℕ)
    → is_seen (after h i text) id ≡ (is_seen h id || id == i)
unfolding after_in
after_ids h i id text = step (is_seen h i) refl
  where
    more : List Command
    more = h.accepted ++ added_read (read_refusal h.accepted (command_of text)) (command_of text)

    old : (a b : Bool) → (b ≡ true → a ≡ true) → a ≡ (a || b)
    old true b h2 = refl
    old false true h2 = h2 refl
    old false false h2 = refl

    step : (b : Bool) → is_seen h i ≡ b → is_seen
        (cond b h (let new : History = record { ids = h.ids ++ i ∷ []; accepted = more } in new)) id
        ≡ (is_seen h id || id == i)
    step true seen = old (is_seen h id) (id == i) (λ same. seen_same i id h.ids same seen)
    step false seen =
        list_any-append (λ other. id == other) h.ids (i ∷ []) ∙ or_last (is_seen h id) (id == i)

or_assoc : (a b c : Bool) → ((a || b) || c) ≡ (a || (b || c))
or_assoc true b c = refl
or_assoc false b c = refl

ids_after : (h : History) (entries : List (ℕ × List ℕ)) (id : ℕ)
    → is_seen (fold (λ (x : History) (entry : ℕ × List ℕ). after x entry.0 entry.1) h entries) id
    ≡ (is_seen h id || list_any (λ (entry : ℕ × List ℕ). id == entry.0) entries)
ids_after h [] id = or_none (is_seen h id)
ids_after h (e ∷ es) id =
    ids_after (after h e.0 e.1) es id
    ∙ ap (λ (b : Bool). b || list_any (λ (entry : ℕ × List ℕ). id == entry.0) es)
    (after_ids h e.0 id e.1)
    ∙ or_assoc (is_seen h id) (id == e.0) (list_any (λ (entry : ℕ × List ℕ). id == entry.0) es)

pub each_id_seen : (entries : List (ℕ × List ℕ)) (id : ℕ)
    → is_seen (history entries) id ≡ list_any (λ (entry : ℕ × List ℕ). id == entry.0) entries
each_id_seen entries id = ids_after nothing entries id
