-- A connection over which one body was asked, and another answered.
use Rattle.std.proofs.Common.{◌≡◌, ◌≢◌, ℕ, ◌==◌, ◌<◌, ◌^◌, not, List, [], ◌∷◌, ◌++◌, length, take}
use Rattle.std.proofs.Common.{replicate, Some, None, refl, sym, ap, subst, ◌∙◌, arith, inl}
use Rattle.std.proofs.lemmas.List.{append-nil, append_cancel_left}
use Rattle.sha2.specs.Sha256.{sha256, first_words, schedule, rounds, compress, hash_after}
use Rattle.sha2.specs.Sha256.{digest_bytes}
use Rattle.seal.specs.declared.{channel.Channel.Channel, fault.StreamFault.TheVariants.BadTag}
use Rattle.seal.specs.{Hmac.hmac, Hmac.key_block, Streams.BeginsRecord, Streams.IsWhole}
use Rattle.seal.specs.Records.{IsBody, key_of, preface_of, record_of, records, tag}
use Rattle.seal.proofs.Whole.{length-record, length_at-record, same_parts, short}
use Rattle.sealed.specs.declared.callers.{Access.TheVariants.Locked, Holder.Holder}
use Rattle.sealed.specs.declared.callers.Holder.TheVariants.{Hall, Entry}
use Rattle.sealed.specs.{declared.callers.DeskKeys.DeskKeys, ClientSeals.ClientSealOf, Sent.SentAs}
use Rattle.sealed.specs.{Fronts.IsPrefaced, Tunnels.TunnelOf, ends.ClientStreams.ClientStreamOf}
use Rattle.sealed.specs.{Admitting.comes_under, Admitting.goes_under, ClientSeals.fresh_client_seal}
use Rattle.sealed.specs.ServerSeals.{ServerSealOf, IsOfLocks, fresh_server_seal}
use Rattle.sealed.{specs.Sent.SentOver, specs.Sent.key_for, proofs.Fresh.fresh_of_locks}
use Rattle.sealed.specs.Trials.{ReadsAll, TrialOf, Tries, entry_of}
use Rattle.seal_laws.specs.BothSides.{AreConnected, EntryIsConnected, IsNotTheHalls, fours, threes}
use Rattle.seal_laws.specs.{BothSides.SidesAreConnected, BothSides.two_locks, Keys.AreRandom}

-- a side that has opened one record, and sealed one
unfoldable one_each : Channel → Channel → TunnelOf
one_each comes goes = record {
  opener = record { channel = comes; number = 1; held = []; fault = None };
  sealer = record { channel = goes; number = 1 };
}

opened : (comes goes : Channel) (body : List ℕ) → IsBody 0 body
    → ReadsAll (one_each comes goes) (records comes 0 (body ∷ [])) body
unfolding one_each
opened comes goes body good = record {
  bodies = body ∷ [];
  rest = [];
  whole = sym (append-nil (records comes 0 (body ∷ [])));
  each = (good, tt);
  gives = sym (append-nil body);
  channel_kept = refl;
  counted = refl;
  ends = inl (omega arith);
  held = refl;
}

sealed : (comes goes : Channel) (body : List ℕ) → IsBody 0 body
    → SentOver (one_each comes goes) body (records goes 0 (body ∷ []))
unfolding one_each
sealed comes goes body good = record {
  bodies = body ∷ [];
  each = (good, tt);
  gives = append-nil body;
  sealed = refl;
  counted = refl;
}

some_body : (body : List ℕ) → IsBody 0 body → body ≢ []
some_body [] good e = omega (arith, good.0.0)
some_body (x ∷ xs) good e = cc

prefaced : (random stream : List ℕ) → length random ≡ 16
    → IsPrefaced (preface_of random ++ stream) random stream
prefaced random stream sixteen = record { sixteen = sixteen; whole = refl }

-- where the desk has tried what came so, under its keys
record IsTried (locks : DeskKeys) (who : Holder) (key client server question answer : List ℕ)
    (trial : TrialOf) : Type 0 where
  held : key_for locks who ≡ Some key
  keys : IsOfLocks locks client server trial
  tries : Tries (records (comes_under client server key) 0 (question ∷ [])) question trial
  gone : SentAs trial.holder trial answer (records (goes_under client server key) 0 (answer ∷ []))
  apart : IsNotTheHalls who locks client server
      (preface_of client ++ records (comes_under client server key) 0 (question ∷ []))

connected_by : (locks : DeskKeys) (who : Holder) (key client server question answer : List ℕ)
    (trial : TrialOf) → AreRandom client server → IsBody 0 question → IsBody 0 answer
    → IsTried locks who key client server question answer trial
    → (caller : ClientStreamOf) × (desk : ServerSealOf)
    × (m : AreConnected caller desk question question answer answer) × (m.who ≡ who)
unfolding one_each
connected_by locks who key client server question answer trial random good fine tried =
    let comes = comes_under client server key in
    let goes = goes_under client server key in
    let there = records comes 0 (question ∷ []) in
    let back = records goes 0 (answer ∷ []) in
    let sent = preface_of client ++ there in
    let side : ClientSealOf =
    record (fresh_client_seal key client) { tunnel = Some (one_each goes comes) } in
    let caller : ClientStreamOf = record {
      calling = Some side;
      front = take 4 (preface_of server ++ back);
      heard = not (length answer == 0);
      output = [];
    } in
    let desk : ServerSealOf =
    record (fresh_server_seal (Locked locks) server) { trial = Some trial } in (
      caller,
      desk,
      record {
        locks = locks;
        who = who;
        key = key;
        client = client;
        server = server;
        sent = sent;
        back = back;
        held = tried.held;
        random = random;
        calls =
            record {
              side = (refl, refl);
              stands =
                  record {
                    front = refl;
                    heard = refl;
                    reads =
                        record {
                          server = server;
                          stream = back;
                          prefaced = prefaced server back random.of_server;
                          key = refl;
                          reads = opened goes comes answer fine;
                        };
                  };
              gone =
                  record {
                    server = server;
                    stream = back;
                    prefaced = prefaced server back random.of_server;
                    goes = refl;
                    sealed = there;
                    over = sealed goes comes question good;
                    whole = append-nil sent;
                  };
            };
        all_sent = refl;
        doors = refl;
        desk_random = refl;
        stands =
            record {
              locks = locks;
              client = client;
              stream = there;
              doors = refl;
              prefaced = prefaced client there random.of_client;
              keys = tried.keys;
              tries = tried.tries;
            };
        gone = tried.gone;
        apart = tried.apart;
      },
      refl,
    )

pub connected : SidesAreConnected
unfolding one_each
connected locks client server question answer random good fine =
    let comes = comes_under client server locks.hall in
    let goes = goes_under client server locks.hall in
    let fresh = fresh_of_locks locks client server in
    let trial : TrialOf = record {
      hall = one_each comes goes;
      entry = entry_of locks.entry client server;
      holder = Some Hall;
    } in
    let all =
    connected_by locks Hall locks.hall client server question answer trial random good fine
    (record {
      held = refl;
      keys =
          record {
            hall = refl;
            entry = fresh.entry;
            hall_sends = refl;
            entry_sends = fresh.entry_sends;
          };
      tries = (some_body question good, opened comes goes question good);
      gone = sealed comes goes answer fine;
      apart = tt;
    }) in
    (all.0, all.1, all.2)

-- ---- under the entry key

first_byte : List ℕ → ℕ
first_byte [] = 0
first_byte (x ∷ xs) = x

-- the first bytes of the tag of one record under either key
firsts : (first_byte (tag (comes_under threes fours (replicate 32 1)) 0 (7 ∷ [])) ≡ 185)
    × (first_byte (tag (comes_under threes fours (replicate 32 2)) 0 (7 ∷ [])) ≡ 188)
unfolding first_byte tag key_of hmac key_block sha256 first_words schedule rounds compress
    hash_after digest_bytes
firsts = (refl, refl)

-- the record is not one under the hall's key
not_the_halls : ¬ BeginsRecord (comes_under threes fours (replicate 32 1)) 0
    (records (comes_under threes fours (replicate 32 2)) 0 ((7 ∷ []) ∷ []))
not_the_halls (body, more, good, is) =
    let hall = comes_under threes fours (replicate 32 1) in
    let entry = comes_under threes fours (replicate 32 2) in
    let few : length {A = ℕ} (7 ∷ []) < 2 ^ 16 = omega arith in
    let parts = same_parts entry hall 0 0 (7 ∷ []) body [] more few (short 0 body good) is in
    let tags : tag entry 0 (7 ∷ []) ≡ tag hall 0 (7 ∷ []) =
    parts.1 ∙ ap (λ (b : List ℕ). tag hall 0 b) (sym parts.0) in
    let bytes : 188 ≡ 185 =
    sym firsts.1 ∙ ap (λ (t : List ℕ). first_byte t) tags ∙ firsts.0 in
    omega (arith, bytes)

-- a side that has opened nothing, since a record did not fit
abbrev refused : Channel → Channel → TunnelOf
refused comes goes = record {
  opener = record { channel = comes; number = 0; held = []; fault = Some BadTag };
  sealer = record { channel = goes; number = 0 };
}

whole_record : (c : Channel) (body : List ℕ) → IsBody 0 body → IsWhole (records c 0 (body ∷ []))
whole_record c body good =
    let at = length_at-record c 0 body [] (short 0 body good) in
    let long = length-record c 0 body in
    let all = ap (λ (s : List ℕ). length s) (append-nil (record_of c 0 body)) in
    record {
      counted = (omega (arith, at, good.0.0), omega (arith, at, good.0.1));
      there = omega (arith, at, long, all);
    }

nothing_opened : (comes goes other : Channel) (body : List ℕ) → IsBody 0 body
    → ¬ BeginsRecord comes 0 (records other 0 (body ∷ []))
    → ReadsAll (refused comes goes) (records other 0 (body ∷ [])) []
nothing_opened comes goes other body good apart = record {
  bodies = [];
  rest = records other 0 (body ∷ []);
  whole = refl;
  each = tt;
  gives = refl;
  channel_kept = refl;
  counted = refl;
  ends = (whole_record other body good, apart);
  held = refl;
}

seven : IsBody 0 (7 ∷ [])
seven = ((omega arith, omega arith), omega arith)

pub entry_connected : EntryIsConnected
unfolding one_each
entry_connected answer fine =
    let hall = comes_under threes fours (replicate 32 1) in
    let comes = comes_under threes fours (replicate 32 2) in
    let goes = goes_under threes fours (replicate 32 2) in
    let trial : TrialOf = record {
      hall = refused hall (goes_under threes fours (replicate 32 1));
      entry = Some (one_each comes goes);
      holder = Some Entry;
    } in
    connected_by two_locks Entry (replicate 32 2) threes fours (7 ∷ []) answer trial
    (record { of_client = refl; of_server = refl }) seven fine (record {
      held = refl;
      keys =
          record { hall = refl; entry = refl; hall_sends = refl; entry_sends = refl };
      tries = (
        one_each comes goes,
        refl,
        some_body (7 ∷ []) seven,
        opened comes goes (7 ∷ []) seven,
        nothing_opened hall (goes_under threes fours (replicate 32 1)) comes (7 ∷ []) seven
            not_the_halls,
        λ is. cc,
      );
      gone = sealed comes goes answer fine;
      apart = λ s is begins.
          not_the_halls (subst (λ (x : List ℕ). BeginsRecord hall 0 x)
          (sym (append_cancel_left (preface_of threes) (records comes 0 ((7 ∷ []) ∷ [])) s is))
          begins);
    })
