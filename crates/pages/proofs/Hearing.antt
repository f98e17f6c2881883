-- Bytes that a connection hears, one piece after the other.
use Rattle.std.proofs.Common.{◌≡◌, ℕ, List, [], ◌∷◌, ◌++◌, Bool, true, false, refl, sym, ap, ◌∙◌}
use Rattle.std.proofs.Common.{append_assoc, append-nil, true≢false}
use Rattle.http_server.specs.{declared.connection.Connection.Connection, History.History}
use Rattle.http_server.specs.{Connection.config_of, Connection.history, History.after_read}
use Rattle.pages.specs.Turns.{Hears}

-- of these bytes a front part was heard, and the rest is still to be heard
pub record Heard (bytes unheard : List ℕ) (old new : Connection) : Type 0 where
  pub heard : List ℕ
  pub split : bytes ≡ heard ++ unheard
  pub received : (history new).received ≡ (history old).received ++ heard
  pub sent : (history new).sent ≡ (history old).sent
  pub calls : (history new).calls ≡ (history old).calls
  pub config : config_of new ≡ config_of old

pub Heard-more : (bytes u v : List ℕ) (a b c : Connection) (more : List ℕ) → Heard bytes u a b
    → u ≡ more ++ v → history c ≡ after_read (history b) more → config_of c ≡ config_of b
    → Heard bytes v a c
Heard-more bytes u v a b c more x split read config = record {
  heard = x.heard ++ more;
  split = x.split ∙ ap (λ (t : List ℕ). x.heard ++ t) split ∙ sym (append_assoc x.heard more v);
  received = ap (λ (h : History). h.received) read ∙ ap (λ (t : List ℕ). t ++ more) x.received
      ∙ append_assoc (history a).received x.heard more;
  sent = ap (λ (h : History). h.sent) read ∙ x.sent;
  calls = ap (λ (h : History). h.calls) read ∙ x.calls;
  config = config ∙ x.config;
}

-- what is still unheard is lost
pub Hears-part : (bytes u : List ℕ) (a b : Connection) → Heard bytes u a b
    → Hears false bytes (history a) (history b)
Hears-part bytes u a b x = record {
  lost = u;
  heard = ap (λ (t : List ℕ). t ++ u) x.received ∙ append_assoc (history a).received x.heard u
      ∙ ap (λ (t : List ℕ). (history a).received ++ t) (sym x.split);
  none_lost = λ wrong. absurd (true≢false (sym wrong));
  sent = x.sent;
  calls = x.calls;
}

nil_front : (xs ys : List ℕ) → [] ≡ xs ++ ys → xs ≡ []
nil_front [] ys e = refl
nil_front (x ∷ xs) ys e = absurd cc

-- a read of nothing
pub Hears-nothing : (more ys : List ℕ) (a b : History) → [] ≡ more ++ ys → b ≡ after_read a more
    → Hears true [] a b
Hears-nothing more ys a b none read = record {
  lost = [];
  heard = append-nil b.received ∙ ap (λ (h : History). h.received) read
      ∙ ap (λ (t : List ℕ). a.received ++ t) (nil_front more ys none);
  none_lost = λ _. refl;
  sent = ap (λ (h : History). h.sent) read;
  calls = ap (λ (h : History). h.calls) read;
}

pub Hears-same : (whole : Bool) (a b : History) → b ≡ a → Hears whole [] a b
Hears-same whole a b same = record {
  lost = [];
  heard = ap (λ (h : History). h.received ++ []) same;
  none_lost = λ _. refl;
  sent = ap (λ (h : History). h.sent) same;
  calls = ap (λ (h : History). h.calls) same;
}
