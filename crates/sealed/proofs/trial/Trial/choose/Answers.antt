use Rattle.std.proofs.{Common.Some, Common.refl, Common.arith, lemmas.Grind.common_steps}
use Rattle.sealed.specs.declared.callers.Holder.TheVariants.{Hall, Entry}
use Rattle.sealed.specs.Trials.{TrialOf}
use Rattle.sealed.proofs.Trying.{chooses_entry, chooses_hall, waits_alone, waits_both}
use Rattle.sealed.proofs.trial.Trial.choose.Goals as goal

pub returns-then-not-is_empty-clause-tries : goal.returns-then-not-is_empty-clause-tries
returns-then-not-is_empty-clause-tries c =
    let was = c.self.inside in
    let old : TrialOf = record { hall = was.hall; entry = was.entry; holder = was.holder } in
    let new : TrialOf = record { hall = c.feed.new.self; entry = was.entry; holder = Some Hall } in
    let none = rw (← c.self.view_is) at c.requires in
    rw (← c.self.view_is) (λ s x tries.
    chooses_hall old new s x c.args.piece.now c.in_ok-handed.handed.items none refl
    c.in_ok-handed.ensures.fed
    (λ e. grind (arith, common_steps, c.if-not-is_empty.ensures, e)) tries)

pub returns-in_default-clause-tries : goal.returns-in_default-clause-tries
returns-in_default-clause-tries c =
    let was = c.self.inside in
    let old : TrialOf = record { hall = was.hall; entry = was.entry; holder = was.holder } in
    let new : TrialOf =
    record { hall = c.feed.new.self; entry = was.entry; holder = was.holder } in
    let none = rw (← c.self.view_is) at c.requires in
    rw (← c.self.view_is) (λ s x tries.
    waits_alone old new s x c.args.piece.now c.in_ok-handed.handed.items none none
    c.in_default.is c.in_ok-handed.ensures.fed
    (grind (arith, common_steps, c.if-not-is_empty.ensures)) tries)

pub returns-then-is_empty-clause-tries : goal.returns-then-is_empty-clause-tries
returns-then-is_empty-clause-tries c =
    let was = c.self.inside in
    let old : TrialOf = record { hall = was.hall; entry = was.entry; holder = was.holder } in
    let new : TrialOf =
    record { hall = c.feed.new.self; entry = Some c.feed-2.new.self; holder = was.holder } in
    let none = rw (← c.self.view_is) at c.requires in
    rw (← c.self.view_is) (λ s x tries.
    waits_both old new c.in-Some.entry c.feed-2.new.self s x c.args.piece.now
    c.in_ok-handed.handed.items c.in_ok-given.given.items none none c.in-Some.is refl
    c.in_ok-handed.ensures.fed (grind (arith, common_steps, c.if-not-is_empty.ensures))
    c.in_ok-given.ensures.fed (grind (arith, common_steps, c.if-is_empty.ensures)) tries)

pub returns-clause-tries : goal.returns-clause-tries
returns-clause-tries c =
    let was = c.self.inside in
    let old : TrialOf = record { hall = was.hall; entry = was.entry; holder = was.holder } in
    let new : TrialOf =
    record { hall = c.feed.new.self; entry = Some c.feed-2.new.self; holder = Some Entry } in
    let none = rw (← c.self.view_is) at c.requires in
    rw (← c.self.view_is) (λ s x tries.
    chooses_entry old new c.in-Some.entry c.feed-2.new.self s x c.args.piece.now
    c.in_ok-handed.handed.items c.in_ok-given.given.items none refl c.in-Some.is refl
    c.in_ok-handed.ensures.fed (grind (arith, common_steps, c.if-not-is_empty.ensures))
    c.in_ok-given.ensures.fed (λ e. grind (arith, common_steps, c.if-is_empty.ensures, e)) tries)
