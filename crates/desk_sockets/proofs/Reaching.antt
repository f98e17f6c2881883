-- Calls of a dialogue, one after the other.
use Rattle.std.proofs.Common.{List, [], ◌∷◌, ◌++◌, refl, subst}
use Rattle.desk_talks.specs.Dialogues.{CallsLead, Reaches}

-- calls that are made after others
then : {C S : Type 0} (Leads : C → S → S → Type 0) (xs ys : List C) (a b c : S)
    → CallsLead Leads a xs b → CallsLead Leads b ys c → CallsLead Leads a (xs ++ ys) c
then {C} {S} Leads [] ys a b c first later =
    subst (λ (s : S). CallsLead Leads s ys c) first later
then Leads (x ∷ xs) ys a b c (next, leads, more) later =
    (next, leads, then Leads xs ys next b c more later)

pub none : {C S : Type 0} (Leads : C → S → S → Type 0) (s : S) → Reaches Leads s s
none Leads s = record { calls = []; lead = refl }

pub one : {C S : Type 0} (Leads : C → S → S → Type 0) {call : C} {old new : S}
    → Leads call old new → Reaches Leads old new
one Leads {call} {old} {new} leads = record { calls = call ∷ []; lead = (new, leads, refl) }

pub both : {C S : Type 0} {Leads : C → S → S → Type 0} {a b c : S} → Reaches Leads a b
    → Reaches Leads b c → Reaches Leads a c
both {C} {S} {Leads} {a} {b} {c} first later = record {
  calls = first.calls ++ later.calls;
  lead = then Leads first.calls later.calls a b c first.lead later.lead;
}
