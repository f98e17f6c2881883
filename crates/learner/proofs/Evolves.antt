-- When what holds of a desk's messages goes on to hold as the desk changes.
use Rattle.std.proofs.Common.{◌≡◌, ℕ, ◌≤◌, List, [], ◌++◌, length, sym, ap, ◌∙◌, append_assoc}
use Rattle.std.proofs.{Common.subst, Common.arith, Common.length-append, lemmas.List.append-nil}
use Rattle.learner.specs.{Order.IsAtMost, Desks.Desk, Laws.IsPrefix}
use Rattle.learner.proofs.Order.{at_most_self, at_most_trans}
use Rattle.learner.specs.Invariant.{Covers, RoleAllows, Stands}
use Rattle.acceptor.specs.declared.{ballot.Ballot.Ballot, entry.Entry.Entry}
use Rattle.acceptor.specs.declared.message.{Body.Body, Message.Message}
use Rattle.acceptor.specs.declared.message.Body.TheVariants.{Promise, Accept, Accepted, Decided}

pub length_prefix : (xs ys : List Entry) → IsPrefix xs ys → length xs ≤ length ys
length_prefix xs ys p = let l = length-append xs p.0 in let e = ap length p.1 in omega arith

pub prefix_self : (xs : List Entry) → IsPrefix xs xs
prefix_self xs = ([], append-nil xs)

pub prefix_trans : (xs ys zs : List Entry) → IsPrefix xs ys → IsPrefix ys zs → IsPrefix xs zs
prefix_trans xs ys zs p q =
    (p.0 ++ q.0, sym (append_assoc xs p.0 q.0) ∙ (ap (λ w. w ++ q.0) p.1 ∙ q.1))

-- desk d goes from x to y
pub record Evolves (d : ℕ) (x y : Desk) : Type 0 where
  pub promised : IsAtMost x.stored.promised y.stored.promised
  pub tried : x.stored.tried ≤ y.stored.tried
  pub log : IsPrefix x.log y.log
  pub vote : (b : Ballot) → IsAtMost b x.stored.promised → length x.log ≡ length y.log
      → Covers x.stored.vote (length x.log) b → Covers y.stored.vote (length x.log) b
  pub role : (b : Ballot) (pos : ℕ) → b.number ≤ x.stored.tried
      → RoleAllows x.role (length x.log) b pos → RoleAllows y.role (length y.log) b pos

pub evolves_self : (d : ℕ) (x : Desk) → Evolves d x x
evolves_self d x =
    record {
      promised = at_most_self x.stored.promised;
      tried = omega arith;
      log = prefix_self x.log;
      vote = λ b p s c. c;
      role = λ b pos t a. a;
    }

pub evolves : (n : ℕ) (sent : List Message) (d : ℕ) (x y : Desk) → Evolves d x y → (body : Body)
    → Stands n sent d x body → Stands n sent d y body
evolves n sent d x y go (Promise b pos v) h =
    record {
      promised = at_most_trans b x.stored.promised y.stored.promised h.promised go.promised;
      vote = h.vote;
    }
evolves n sent d x y go (Accept b pos e) h =
    let t = h.tried in
    let u = go.tried in
    record {
      own = h.own;
      tried = omega arith;
      role = go.role b pos h.tried h.role;
      backed = h.backed;
    }
evolves n sent d x y go (Accepted b pos) h =
    let p = h.place in
    let l = length_prefix x.log y.log go.log in
    record {
      entry = h.entry;
      asked = h.asked;
      promised = at_most_trans b x.stored.promised y.stored.promised h.promised go.promised;
      place = omega arith;
      vote =
          λ e.
          let here : pos ≡ length x.log = omega arith in
          let same : length x.log ≡ length y.log = omega arith in
          subst (λ (k : ℕ). Covers y.stored.vote k b) (sym here) (go.vote b h.promised same
          (subst (λ (k : ℕ). Covers x.stored.vote k b) here (h.vote here)));
    }
evolves n sent d x y go (Decided pos e) h = h
evolves n sent d x y go _ h = tt
