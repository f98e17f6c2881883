use Rattle.std.proofs.Common.{◌≡◌, ◌<◌, ℕ, Bool, false, true, ◌++◌, ◌∷◌, [], Result, Ok, Err}
use Rattle.std.proofs.Common.{is_some, nat_eq, length, sym, ◌∙◌, subst, arith, IsOk, OnOk}
use Rattle.std.{proofs.lemmas.Grind.common_steps, specs.HashMap.get, specs.HashMap.spare}
use Rattle.learner.proofs.Positions.{indexed_again, indexed_new}
use Rattle.learner.proofs.log.Log.append.Goals.{then-not-contains_key, else-not-contains_key}
use Rattle.learner.proofs.log.Log.append.Goals as goal

at_ok : {A E : Type 0} (r : Result A E) {P : Type 0} → IsOk r → OnOk r P → P
at_ok (Ok x) i h = h
at_ok (Err e) i h = absurd cc

-- the id is put at the position that its entry gets, where it stood nowhere
pub invariant_of-self : goal.invariant_of-self
invariant_of-self c =
    let entries = c.self.inside.entries.items in
    let e = c.args.entry in
    let old : ℕ → Rattle.std.proofs.Common.Option ℕ = λ id. get nat_eq c.self.inside.first id in
    let pushed : c.push.new.self.items ≡ entries ++ e ∷ [] = grind (arith, common_steps) in
    let place : c.len-pos.result ≡ length entries = grind (arith, common_steps) in
    elim c.if-not-contains_key.branch [
      | then-not-contains_key w ↦
          let room : 0 < spare c.self.inside.first = grind (arith, common_steps) in
          let put =
          at_ok w.insert.result (w.insert.ensures.succeeds room) w.insert.ensures.updates in
          let absent =
          subst (λ id. is_some (old id) ≡ false) c.id-id.ensures.id
          (sym c.contains_key.ensures ∙ w.if-not-contains_key.true) in
          record {
            index =
                rw (w.self-inside-is, pushed)
                (indexed_new entries e old (λ id. get nat_eq w.insert.new.self id)
                c.self.invariant.index absent (λ q. rw (← c.id-id.ensures.id, ← place) (put.0 q)));
            most = grind (arith, common_steps);
            spare = grind (arith, common_steps);
            capacity = grind (arith, common_steps);
          }
      | else-not-contains_key w ↦
          let there =
          subst (λ id. is_some (old id) ≡ true) c.id-id.ensures.id
          (sym c.contains_key.ensures ∙ w.if-not-contains_key.false) in
          record {
            index =
                rw (w.self-inside-is, pushed)
                (indexed_again entries e old c.self.invariant.index there);
            most = grind (arith, common_steps);
            spare = grind (arith, common_steps);
            capacity = grind (arith, common_steps);
          }
    ]
