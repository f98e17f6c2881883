-- What a writer of JSON is given, one part after the other.
use Rattle.std.proofs.Common.{◌≡◌, sym, ap, subst, ◌∙◌, List, [], ◌∷◌, ◌++◌, append_assoc}
use Rattle.std.proofs.Common.{Result, Ok, Err, OnOk, ℕ}
use Rattle.json.specs.{Json.Json, Print.print, Token.Token, Tree.json_tokens, Tree.members_tokens}
use Rattle.json.specs.Written.{Written, Writes}
use Rattle.standings.specs.{AsJson.reply_members, Written.Adds}
use Rattle.standings.specs.declared.polled.StatusReply.{StatusReply}

-- one part and then another
pub then : {a b c : Written} {ts us : List Token} → Adds a b ts → Adds b c us → Adds a c (ts ++ us)
then {a} {b} {c} {ts} {us} h k =
    record {
      tokens = k.tokens ∙ ap (λ xs. xs ++ us) h.tokens ∙ append_assoc a.tokens ts us;
      before = k.before ∙ h.before;
    }

-- a token was written
pub wrote : {E : Type 0} {u : Unit {0}} {a b : Written} {t : Token} → Writes {E = E} (Ok u) a b t
    → Adds a b (t ∷ [])
wrote h = record { tokens = h.ok; before = h.room.0 }

-- where the last call succeeds
pub on_ok : {T E : Type 0} {P Q : Type 0} (r : Result T E) → (P → Q) → OnOk r P → OnOk r Q
on_ok (Ok x) f h = f h
on_ok (Err e) f h = h

-- the last token
pub wrote_last : {E : Type 0} {a b : Written} {t : Token} (r : Result (Unit {0}) E)
    → Writes r a b t → OnOk r (Adds a b (t ∷ []))
wrote_last (Ok u) h = wrote h
wrote_last (Err e) h = tt

-- Loops: what was written so far, and what is left of all that is to be written.

pub record Leads (start now : Written) (left all : List Token) : Type 0 where
  pub tokens : now.tokens ++ left ≡ start.tokens ++ all
  pub before : now.before ≡ start.before

-- the first part of what is left is written
pub one_more : {s a b : Written} {left all : List Token} (x rest : List Token)
    → left ≡ x ++ rest → Leads s a left all → Adds a b x → Leads s b rest all
one_more {s} {a} {b} {left} {all} x rest is h k =
    record {
      tokens =
          ap (λ ts. ts ++ rest) k.tokens ∙ append_assoc a.tokens x rest
          ∙ ap (λ ts. a.tokens ++ ts) (sym is) ∙ h.tokens;
      before = k.before ∙ h.before;
    }

-- all that is left is written
pub whole : {s a b : Written} {left all : List Token} (ts : List Token) → left ≡ ts
    → Leads s a left all → Adds a b ts → Adds s b all
whole {s} {a} {b} {left} {all} ts is h k =
    record {
      tokens = k.tokens ∙ ap (λ xs. a.tokens ++ xs) (sym is) ∙ h.tokens;
      before = k.before ∙ h.before;
    }

-- the members of a reply, which was found to be this one
pub replied : {T E : Type 0} (r : Result T E) (old new : Written) (reply this : StatusReply)
    → reply ≡ this → OnOk r (Adds old new (members_tokens (reply_members this)))
    → OnOk r (Adds old new (members_tokens (reply_members reply)))
replied r old new reply this is =
    subst (λ z. OnOk r (Adds old new (members_tokens (reply_members z)))) (sym is)

pub same : {a b : Written} {ts us : List Token} → ts ≡ us → Adds a b ts → Adds a b us
same {a} {b} {ts} {us} is h =
    record { tokens = h.tokens ∙ ap (λ xs. a.tokens ++ xs) is; before = h.before }

-- a writer that had nothing was given the tokens of a value, and this is its text
pub text_of_value : (start end : Written) (text : List ℕ) (d : Json) → start.before ≡ []
    → start.tokens ≡ [] → Adds start end (json_tokens d) → text ≡ end.before ++ print end.tokens
    → text ≡ print (json_tokens d)
text_of_value start end text d empty none added is =
    is ∙ ap (λ b. b ++ print end.tokens) (added.before ∙ empty)
    ∙ ap print (added.tokens ∙ ap (λ ts. ts ++ json_tokens d) none)
