-- What was read of a connection, piece by piece, and what was said by it.
use Rattle.std.proofs.Common.{◌≡◌, ◌⊎◌, inl, inr, refl, sym, ap, subst, ◌∙◌, append_assoc}
use Rattle.std.proofs.Common.{ℕ, List, [], ◌++◌, take, Option, None, Some, Result, Ok}
use Rattle.std.proofs.lemmas.List.{append-nil}
use Rattle.std.proofs.KnownBytes.{Consumes-nil, Consumes-trans}
use Rattle.std.specs.Io.KnownBytes.{Consumes, ReadConsumes}
use Rattle.sealed.specs.ends.ClientStreams.{ClientStreamOf, Stands}
use Rattle.desk_sockets.specs.Answering.{AnsweringOf, Hands, Hears, Says, SaysOrNot, heard}
use Rattle.desk_sockets.specs.Said.{IsSaid, Reads}
use Rattle.desk_sockets.proofs.Answering.{heard_both, heard_none}

-- a read that gave this many bytes
pub eaten : {E : Type 0} (old new : Option (List ℕ)) (r : Result ℕ E) (count : ℕ) (buf : List ℕ)
    → r ≡ Ok count → ReadConsumes {E = E} old new r buf → Consumes old new (take count buf)
eaten {E} old new r count buf is h =
    let gave : ReadConsumes {E = E} old new (Ok count) buf =
    subst (λ (z : Result ℕ E). ReadConsumes {E = E} old new z buf) is h in gave.0

-- between two moments of a connection this was said on it, and handed on
pub record Run {S : Type 0} (remaining : S → Option (List ℕ)) (from to : S)
    (old new : ClientStreamOf) (before after : List ℕ) (a b : AnsweringOf) : Type 0 where
  pub said : List ℕ
  pub reads : Reads remaining from to old new said
  pub handed : after ≡ before ++ said
  pub who : b ≡ heard said a

pub run_none : {S : Type 0} {remaining : S → Option (List ℕ)} (s : S) (c : ClientStreamOf)
    (xs : List ℕ) (a : AnsweringOf) → Run remaining s s c c xs xs a a
run_none {remaining = remaining} s c xs a = record {
  said = [];
  reads = record {
    read = [];
    consumed = Consumes-nil (remaining s);
    stands = λ came handed was.
        subst (λ (x : List ℕ). Stands c x (handed ++ [])) (sym (append-nil came))
        (subst (λ (y : List ℕ). Stands c came y) (sym (append-nil handed)) was);
  };
  handed = sym (append-nil xs);
  who = sym (heard_none a);
}

pub run_more : {S : Type 0} {remaining : S → Option (List ℕ)} {from mid to : S}
    {c d e : ClientStreamOf} {x y z bytes piece : List ℕ} {a m b : AnsweringOf}
    → Run remaining from mid c d x y a m → Consumes (remaining mid) (remaining to) bytes
    → piece ≡ bytes → Says piece d e y z m b → Run remaining from to c e x z a b
run_more {remaining = remaining} {from} {mid} {to} {c} {d} {e} {x} {y} {z} {bytes} {piece} {a} h
    eats same k = record {
      said = h.said ++ k.said;
      reads = record {
        read = h.reads.read ++ piece;
        consumed =
            Consumes-trans (remaining from) (remaining mid) (remaining to) h.reads.read piece
            h.reads.consumed (subst (Consumes (remaining mid) (remaining to)) (sym same) eats);
        stands = λ came handed was.
            subst (λ (w : List ℕ). Stands e w (handed ++ (h.said ++ k.said)))
            (append_assoc came h.reads.read piece)
            (subst (λ (w : List ℕ). Stands e ((came ++ h.reads.read) ++ piece) w)
            (append_assoc handed h.said k.said)
            (k.receives.stands (came ++ h.reads.read) (handed ++ h.said)
            (h.reads.stands came handed was)));
      };
      handed =
          k.handed ∙ ap (λ (w : List ℕ). w ++ k.said) h.handed ∙ append_assoc x h.said k.said;
      who = k.who ∙ ap (heard k.said) h.who ∙ heard_both h.said k.said a;
    }

pub run_hands : {S : Type 0} {remaining : S → Option (List ℕ)} {from to : S}
    {c d : ClientStreamOf} {x y : List ℕ} {a b : AnsweringOf} → Run remaining from to c d x y a b
    → Hands remaining (Some c) x y a b
run_hands {from = from} {to} {c} {d} h = record {
  said = h.said;
  read = inr (from, to, d, h.reads);
  handed = h.handed;
  who = h.who;
}

-- the last piece doesn't fit, or memory was refused for it
pub run_ends : {S : Type 0} {remaining : S → Option (List ℕ)} {from mid : S} (to : S)
    {c d e : ClientStreamOf} {x y z bytes piece : List ℕ} {a m b : AnsweringOf}
    → Run remaining from mid c d x y a m → Consumes (remaining mid) (remaining to) bytes
    → piece ≡ bytes → SaysOrNot piece d e y z m b → Hands remaining (Some c) x z a b
run_ends to h eats is (inl k) = run_hands {to = to} (run_more {to = to} h eats is k)
run_ends {from = from} {mid} to {d = d} h eats is (inr (same, who)) = record {
  said = h.said;
  read = inr (from, mid, d, h.reads);
  handed = same ∙ h.handed;
  who = who ∙ h.who;
}

-- ---- what is sent meanwhile

stands_sent : (c d : ClientStreamOf) (came handed : List ℕ) → d ≡ record c { output = d.output }
    → Stands c came handed → Stands d came handed
stands_sent c d came handed sent h =
    subst (λ (z : ClientStreamOf). Stands z came handed) (sym sent)
    (record { front = h.front; heard = h.heard; reads = h.reads })

said_sent : {S : Type 0} {remaining : S → Option (List ℕ)} {c d : ClientStreamOf} (said : List ℕ)
    → d ≡ record c { output = d.output } → IsSaid remaining (Some d) said
    → IsSaid remaining (Some c) said
said_sent said sent (inl none) = inl none
said_sent {c = c} {d} said sent (inr (from, to, new, h)) =
    inr (
      from,
      to,
      new,
      record {
        read = h.read;
        consumed = h.consumed;
        stands = λ came handed was. h.stands came handed (stands_sent c d came handed sent was);
      },
    )

pub hears_sent : {S : Type 0} {remaining : S → Option (List ℕ)} {c d : ClientStreamOf}
    {a b : AnsweringOf} → d ≡ record c { output = d.output } → Hears remaining (Some d) a b
    → Hears remaining (Some c) a b
hears_sent sent h =
    record { said = h.said; read = said_sent h.said sent h.read; who = h.who }

pub hands_sent : {S : Type 0} {remaining : S → Option (List ℕ)} {c d : ClientStreamOf}
    {x y : List ℕ} {a b : AnsweringOf} → d ≡ record c { output = d.output }
    → Hands remaining (Some d) x y a b → Hands remaining (Some c) x y a b
hands_sent sent h = record {
  said = h.said;
  read = said_sent h.said sent h.read;
  handed = h.handed;
  who = h.who;
}

pub sent_more : (c : ClientStreamOf) {d e : ClientStreamOf} (rest : List ℕ)
    → d ≡ record c { output = d.output } → e ≡ record d { output = rest }
    → e ≡ record c { output = e.output }
sent_more c rest was is =
    is ∙ ap (λ (z : ClientStreamOf). record z { output = rest }) was
    ∙ ap (λ (o : List ℕ). record c { output = o })
    (sym (ap (λ (z : ClientStreamOf). z.output) is))
