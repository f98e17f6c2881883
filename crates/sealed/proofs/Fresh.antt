-- Connections at their beginning have read nothing.
use Rattle.std.proofs.Common.{◌≡◌, ℕ, List, [], Option, Some, None, refl, arith, inl}
use Rattle.std.specs.Prelude.{IfSome, option_map}
use Rattle.seal.proofs.Reading.{reads_none}
use Rattle.sealed.specs.{declared.callers.DeskKeys.DeskKeys, ServerSeals.IsOfLocks, Sent.IsNew}
use Rattle.sealed.specs.Admitting.{comes_under, goes_under}
use Rattle.sealed.specs.Trials.{ReadsAll, Tries, comes_by, entry_of, fresh_trial, goes_by}

entry_fresh : (entry : Option (List ℕ)) (client server : List ℕ)
    → IfSome (entry_of entry client server) (λ e. ReadsAll e [] [])
entry_fresh None client server = tt
entry_fresh (Some key) client server = reads_none _ 0 [] _ refl refl (inl (omega arith)) refl

pub tries_fresh : (locks : DeskKeys) (client server : List ℕ)
    → Tries [] [] (fresh_trial locks client server)
tries_fresh locks client server = (
  refl,
  reads_none _ 0 [] _ refl refl (inl (omega arith)) refl,
  entry_fresh locks.entry client server,
)

entry_keys : (entry : Option (List ℕ)) (client server : List ℕ)
    → option_map comes_by (entry_of entry client server)
    ≡ option_map (comes_under client server) entry
entry_keys None client server = refl
entry_keys (Some key) client server = refl

entry_goes : (entry : Option (List ℕ)) (client server : List ℕ)
    → option_map goes_by (entry_of entry client server)
    ≡ option_map (goes_under client server) entry
entry_goes None client server = refl
entry_goes (Some key) client server = refl

pub fresh_of_locks : (locks : DeskKeys) (client server : List ℕ)
    → IsOfLocks locks client server (fresh_trial locks client server)
fresh_of_locks locks client server = record {
  hall = refl;
  entry = entry_keys locks.entry client server;
  hall_sends = refl;
  entry_sends = entry_goes locks.entry client server;
}

entry_new : (entry : Option (List ℕ)) (client server : List ℕ)
    → IfSome (entry_of entry client server) (λ e. e.sealer.number ≡ 0)
entry_new None client server = tt
entry_new (Some key) client server = refl

-- and have sent nothing
pub fresh_is_new : (locks : DeskKeys) (client server : List ℕ)
    → IsNew (fresh_trial locks client server)
fresh_is_new locks client server =
    record { hall = refl; entry = entry_new locks.entry client server }
