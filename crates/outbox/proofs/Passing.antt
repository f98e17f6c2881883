-- The ids by which items are passed over are those of the log, as far as it was looked through.
use Rattle.std.proofs.Common.{◌≡◌, ℕ, ◌+◌, ◌≤◌, ◌==◌, ◌||◌, max, Bool, true, false, List, [], ◌∷◌}
use Rattle.std.proofs.Common.{◌++◌, length, take, drop, Some, is_some, refl, sym, ap, ◌∙◌, arith}
use Rattle.std.proofs.Common.{subst, cond, length-append, nat_le}
use Rattle.std.specs.{Prelude.nat_eq, List.list_any, List.position_from}
use Rattle.std.proofs.Math.{Bool.or_assoc, Seq.take-length}
use Rattle.std.proofs.lemmas.{Bool.Decides.nat_tests, List.Folds.list_any-append}
use Rattle.std.proofs.lemmas.List.{drop_all, take-append-drop, take-append-le}
use Rattle.indexmap.specs.IndexSet.{insert_key}
use Rattle.acceptor.specs.declared.entry.Entry.{Entry}
use Rattle.outbox.specs.Histories.{Aim, Answer, Call, CallLeads, History, InDialogue, Kept, Leads}
use Rattle.outbox.specs.Histories.{Look, LooksAt, LooksBy, NotKept, Restart, Start, Take, Then}
use Rattle.outbox.specs.Histories.{PromisesOf, World, promises, targets}
use Rattle.outbox.specs.{Items.is_answered, Laws.PassesOverByTheLog, Lines.HallOf}
use Rattle.outbox.specs.Outboxes.{AnswersIf, OutboxOf, looked, noted_all}
use Rattle.outbox.proofs.{Held.sound, Looking.noted_append, Sent.after_dialogue, Sound.IsSound}

-- ---- the ids of entries

absorbed : (a b : Bool) → (b ≡ true → a ≡ true) → a ≡ (a || b)
absorbed true b more = refl
absorbed false true more = more refl
absorbed false false more = refl

no_more : (a : Bool) → a ≡ (a || false)
no_more true = refl
no_more false = refl

alone : (id key : ℕ) → list_any (nat_eq id) (key ∷ []) ≡ (key == id)
alone id key = grind (arith, nat_tests)

same_key : (id key : ℕ) → (key == id) ≡ true → key ≡ id
same_key id key h = grind (arith, nat_tests)

put_by : (id key : ℕ) (keys : List ℕ) (there : Bool) → list_any (nat_eq key) keys ≡ there
    → list_any (nat_eq id) (cond there keys (keys ++ key ∷ []))
    ≡ (list_any (nat_eq id) keys || (key == id))
put_by id key keys true is =
    absorbed (list_any (nat_eq id) keys) (key == id)
    (λ same. subst (λ k. list_any (nat_eq k) keys ≡ true) (same_key id key same) is)
put_by id key keys false is =
    list_any-append (nat_eq id) keys (key ∷ [])
    ∙ ap (λ b. list_any (nat_eq id) keys || b) (alone id key)

put : (id key : ℕ) (keys : List ℕ) → list_any (nat_eq id) (insert_key nat_eq keys key)
    ≡ (list_any (nat_eq id) keys || (key == id))
put id key keys = put_by id key keys (list_any (nat_eq key) keys) refl

module _ (id : ℕ) where
  known : (xs : List Entry) (keys : List ℕ) → list_any (nat_eq id) (noted_all keys xs)
      ≡ (list_any (nat_eq id) keys || list_any (λ e. e.id == id) xs)
  known [] keys = no_more (list_any (nat_eq id) keys)
  known (x ∷ xs) keys =
      known xs (insert_key nat_eq keys x.id)
      ∙ ap (λ b. b || list_any (λ e. e.id == id) xs) (put id x.id keys)
      ∙ or_assoc (list_any (nat_eq id) keys) (x.id == id) (list_any (λ e. e.id == id) xs)

  found : (i : ℕ) (xs : List Entry)
      → is_some (position_from (λ e. e.id == id) i xs) ≡ list_any (λ e. e.id == id) xs
  found i [] = refl
  found i (x ∷ xs) = go (x.id == id) (found (i + 1) xs)
    where
      go : (b : Bool)
          → is_some (position_from (λ e. e.id == id) (i + 1) xs) ≡ list_any (λ e. e.id == id) xs
          → is_some (cond b (Some i) (position_from (λ e. e.id == id) (i + 1) xs))
          ≡ (b || list_any (λ e. e.id == id) xs)
      go true rest = refl
      go false rest = rest

-- ---- what was looked through

record IsKnown (log : List Entry) (o : OutboxOf) : Type 0 where
  within : o.seen ≤ length log
  known_is : o.decided ≡ noted_all [] (take o.seen log)

short : (m n : ℕ) → nat_le n m ≡ true → n ≤ m
short m n h = grind (arith, nat_tests)

long : (m n : ℕ) → nat_le n m ≡ false → m ≤ n
long m n h = grind (arith, nat_tests)

most : (m n : ℕ) → n ≤ m → max m n ≡ m
most m n h = grind arith

greater : (m n : ℕ) → m ≤ n → max m n ≡ n
greater m n h = grind arith

module _ (held rest : List Entry) (o : OutboxOf) (k : IsKnown (held ++ rest) o) where
  looked_by : (b : Bool) → nat_le (length held) o.seen ≡ b → IsKnown (held ++ rest) (looked o held)
  looked_by true is =
      let less : length held ≤ o.seen = short o.seen (length held) is in
      let seen : max o.seen (length held) ≡ o.seen = most o.seen (length held) less in
      let before = k.within in
      record {
        within = omega (arith, seen, before);
        known_is =
            ap (noted_all o.decided) (drop_all o.seen held less)
            ∙ k.known_is
            ∙ ap (λ n. noted_all [] (take n (held ++ rest))) (sym seen);
      }
  looked_by false is =
      let less : o.seen ≤ length held = long o.seen (length held) is in
      let seen : max o.seen (length held) ≡ length held = greater o.seen (length held) less in
      let all : take (length held) (held ++ rest) ≡ held =
      take-append-le (length held) held rest (omega arith) ∙ take-length held in
      let first : o.decided ≡ noted_all [] (take o.seen held) =
      k.known_is ∙ ap (noted_all []) (take-append-le o.seen held rest less) in
      let len = length-append held rest in
      record {
        within = omega (arith, seen, len);
        known_is =
            ap (λ keys. noted_all keys (drop o.seen held)) first
            ∙ sym (noted_append [] (take o.seen held) (drop o.seen held))
            ∙ ap (noted_all []) (take-append-drop o.seen held)
            ∙ ap (noted_all []) (sym all)
            ∙ ap (λ n. noted_all [] (take n (held ++ rest))) (sym seen);
      }

  looked_known : IsKnown (held ++ rest) (looked o held)
  looked_known = looked_by (nat_le (length held) o.seen) refl

-- ---- all calls

module _ (log : List Entry) where
  kept_so : (old outbox : OutboxOf) (new : World) → new.outbox ≡ outbox → outbox.seen ≡ old.seen
      → outbox.decided ≡ old.decided → IsKnown log old → IsKnown log new.outbox
  kept_so old outbox new e seen decided k =
      let before = k.within in
      subst (IsKnown log) (sym e) (record {
        within = omega (arith, seen, before);
        known_is = decided ∙ k.known_is ∙ ap (λ n. noted_all [] (take n log)) (sym seen);
      })

  fresh : (o : OutboxOf) → o.seen ≡ 0 → o.decided ≡ [] → IsKnown log o
  fresh o s d = record {
    within = omega (arith, s);
    known_is = d ∙ ap (λ n. noted_all [] (take n log)) (sym s);
  }

  after_looking : (held : List Entry) (old : OutboxOf) → IsKnown log old
      → (rest : List Entry) → held ++ rest ≡ log → IsKnown log (looked old held)
  after_looking held old k rest is =
      subst (λ (l : List Entry). IsKnown l (looked old held)) is
      (looked_known held rest old (subst (λ (l : List Entry). IsKnown l old) (sym is) k))

  told_so : (told : Bool) (id : ℕ) (old outbox : OutboxOf) (new : World) → new.outbox ≡ outbox
      → AnswersIf told id old outbox → IsKnown log old → IsKnown log new.outbox
  told_so true id old outbox new e is k = kept_so old _ new (e ∙ is) refl refl k
  told_so false id old outbox new e is k = kept_so old old new (e ∙ is) refl refl k

  known_after : (hall : HallOf) (desks : List ℕ) (p : PromisesOf) (call : Call) (old new : World)
      → IsSound hall desks p old → IsKnown log old.outbox → LooksBy log call
      → CallLeads hall call old new → IsKnown log new.outbox
  known_after hall desks p (Take entry now t) old new s k looks (is, list, takes, e) =
      kept_so old.outbox _ new (ap (λ (w : World). w.outbox) e) refl refl k
  known_after hall desks p Kept old new s k looks e =
      kept_so old.outbox _ new (ap (λ (w : World). w.outbox) e) refl refl k
  known_after hall desks p NotKept old new s k looks e =
      kept_so old.outbox _ new (ap (λ (w : World). w.outbox) e) refl refl k
  known_after hall desks p (Answer held id told) old new s k looks (after, answers, e) =
      told_so told id old.outbox after new (ap (λ (w : World). w.outbox) e) answers.1 k
  known_after hall desks p (Look held) old new s k (rest, is) e =
      subst (λ (w : World). IsKnown log w.outbox) (sym e) (after_looking held old.outbox k rest is)
  known_after hall desks p (Aim desk) old new s k looks e =
      kept_so old.outbox _ new (ap (λ (w : World). w.outbox) e) refl refl k
  known_after hall desks p (InDialogue call) old new s k looks (after, leads, e) =
      let so =
      after_dialogue hall desks p old.file old.outbox.seen old.outbox.decided call old.outbox after
      (record { sound = s; seen_is = refl; decided_is = refl }) leads in
      kept_so old.outbox after new (ap (λ (w : World). w.outbox) e) so.seen_is so.decided_is k
  known_after hall desks p (Restart more desk now) old new s k looks start =
      fresh new.outbox (ap (λ (o : OutboxOf). o.seen) start.fresh)
      (ap (λ (o : OutboxOf). o.decided) start.fresh)

  known_always : (hall : HallOf) (h : History) (w : World) → LooksAt log h → Leads hall h w
      → IsKnown log w.outbox
  known_always hall (Start desk now bytes) w looks start =
      fresh w.outbox (ap (λ (o : OutboxOf). o.seen) start.fresh)
      (ap (λ (o : OutboxOf). o.decided) start.fresh)
  known_always hall (Then h call) w looks (before, leads, call_leads) =
      known_after hall (targets h) (promises h) call before w (sound hall h before leads)
      (known_always hall h before looks.0 leads) looks.1 call_leads

pub passes_over_by_the_log : PassesOverByTheLog
passes_over_by_the_log hall h w log pair leads looks =
    let k = known_always log hall h w looks leads in
    let seen = take w.outbox.seen log in
    ap (λ b. b || is_answered w.outbox.list pair.0) (ap (list_any (nat_eq pair.0)) k.known_is
    ∙ known pair.0 seen []
    ∙ sym (found pair.0 0 seen))
