-- Bytes of a line that are taken at once.
use Rattle.std.proofs.Common.{◌≡◌, true, ◌==◌, List, ◌++◌, length, take, drop, Option, subst, arith}
use Rattle.std.proofs.Common.{◌≢◌, ℕ, ◌+◌, ◌<◌, ◌≤◌, [], ◌∷◌, min, refl, sym, ap, ◌∙◌, suc}
use Rattle.std.proofs.Common.{false, get_or-take, get_or-drop, length-drop, append-nil, length-take}
use Rattle.std.proofs.Common.{slice_index, add-zero, append_assoc, take-append-drop, length-append}
use Rattle.std.proofs.lemmas.{Bool.Decides.nat_tests, List.take-append-le, List.drop-append-le}
use Rattle.std.proofs.KnownBytes.{Consumes-nil}
use Rattle.lines.specs.Reading.{Reading, has_room}
use Rattle.lines.specs.model.Stepping.{TakesByte, IsRoomFor, TakesRun}
use Rattle.lines.proofs.Given.{Midway, goes_on}

-- the first bytes after a place are the first of those that are held from there on
pub held_front : (xs : List ℕ) (next end n m : ℕ) → m ≡ n → next ≤ end → end ≤ length xs
    → n ≤ length (drop next (take end xs))
    → take m (drop next xs) ≡ take n (drop next (take end xs))
held_front xs next end n m same low high few =
    let whole : length (take end xs) ≡ min end (length xs) = length-take end xs in
    let inside : next ≤ length (take end xs) = omega (arith, whole) in
    ap (λ k. take k (drop next xs)) same
    ∙ ap (λ ys. take n (drop next ys)) (sym (take-append-drop end xs))
    ∙ ap (take n) (drop-append-le next (take end xs) (drop end xs) inside)
    ∙ take-append-le n (drop next (take end xs)) (drop end xs) few

-- this many of the bytes that are held are taken
pub takes : (p q : Reading) (before now : List ℕ) (count : ℕ) → now ≡ before ++ take count p.held
    → q ≡ record p { held = drop count p.held; bytes = p.bytes + count }
    → count ≤ length p.held → ((k : ℕ) → k < count → slice_index p.held k ≢ 10)
    → (0 < count → IsRoomFor p (length before) count)
    → (count < length p.held → IsRoomFor p (length before) (count + 1)
    → slice_index p.held count ≡ 10) → TakesRun p q before now
takes p q before now count line is few unended room whole =
    let held : q.held ≡ drop count p.held = ap (λ (r : Reading). r.held) is in
    let counts : length (take count p.held) ≡ count =
    omega (arith, length-take count p.held) in
    record {
      run = take count p.held;
      line = line;
      bytes = sym (take-append-drop count p.held) ∙ ap (λ x. take count p.held ++ x) (sym held);
      same =
          is ∙ ap (λ x. record p { held = x; bytes = p.bytes + count }) (sym held)
          ∙ ap (λ n. record p { held = q.held; bytes = p.bytes + n }) (sym counts);
      unended = λ k small.
          let less : k < count = omega (arith, counts) in λ e.
          unended k less (sym (get_or-take count p.held k 0 less) ∙ e);
      room = λ some. subst (λ n. IsRoomFor p (length before) n) (sym counts) (room (omega arith));
      whole = λ some more.
          let less : count < length p.held =
          omega (arith, some, ap length held, length-drop count p.held) in
          ap (λ x. slice_index x 0) held ∙ get_or-drop count p.held 0 0
          ∙ ap (slice_index p.held) (add-zero count)
          ∙ whole less (subst (λ n. IsRoomFor p (length before) (n + 1)) counts more);
    }

room_of_run : (p : Reading) (in_line count b : ℕ) → 0 < count → IsRoomFor p in_line count
    → has_room p.bytes p.lines in_line b ≡ true
room_of_run p in_line count b some room = grind (arith, nat_tests)

no_feed : (b : ℕ) → b ≢ 10 → (b == 10) ≡ false
no_feed b other = grind (arith, nat_tests)

-- the line goes on, byte by byte
run_goes_on : (run : List ℕ) (p : Reading) (held : List ℕ) (bytes : ℕ) (line now given : List ℕ)
    → (start left : Option (List ℕ)) → p.held ≡ run ++ held → bytes ≡ p.bytes + length run
    → now ≡ line ++ run → ((k : ℕ) → k < length run → slice_index run k ≢ 10)
    → (0 < length run → IsRoomFor p (length line) (length run)) → Midway p line given start left
    → Midway (record p { held = held; bytes = bytes }) now given start left
run_goes_on [] p held bytes line now given start left is counts all clean room m =
    let count : p.bytes ≡ bytes = omega arith in
    let same : p ≡ record p { held = held; bytes = bytes } =
    ap (λ x. record p { held = x }) is ∙ ap (λ n. record p { held = held; bytes = n }) count in
    subst (λ q. Midway q now given start left) same
    (subst (λ x. Midway p x given start left) (sym (all ∙ append-nil line)) m)
run_goes_on (b ∷ run) p held bytes line now given start left is counts all clean room m =
    let q : Reading = record p { held = run ++ held } in
    let byte : TakesByte p q b left left = record {
      piece = [];
      consumed = Consumes-nil left;
      bytes = append-nil p.held ∙ is;
      same = refl;
    } in
    let some : 0 < length (b ∷ run) = omega arith in
    let one = goes_on p q line given b start left left m byte
    (room_of_run p (length line) (length (b ∷ run)) b some (room some))
    (no_feed b (clean 0 some)) in
    run_goes_on run (record q { bytes = q.bytes + 1 }) held bytes (line ++ b ∷ []) now given start
    left refl (omega arith) (all ∙ sym (append_assoc line (b ∷ []) run))
    (λ k small. clean (suc k) (omega arith))
    (λ _. less (length line) (length (line ++ b ∷ [])) (length run) (length-append line (b ∷ []))
    (room some)) one
  where
    less : (in_line more count : ℕ) → more ≡ in_line + 1 → IsRoomFor p in_line (suc count)
        → IsRoomFor (record p { held = run ++ held; bytes = p.bytes + 1 }) more count
    less in_line more count e r = record {
      bytes = omega (arith, r.bytes);
      lines = r.lines;
      line = omega (arith, r.line);
    }

-- more bytes of the line, taken at once
pub run_on : (p q : Reading) (line now given : List ℕ) (start left : Option (List ℕ))
    → TakesRun p q line now → Midway p line given start left → Midway q now given start left
run_on p q line now given start left t m =
    subst (λ r. Midway r now given start left) (sym t.same)
    (run_goes_on t.run p q.held (p.bytes + length t.run) line now given start left t.bytes refl
    t.line t.unended t.room m)

-- neither these bytes nor one after them meet the input's end
pub still_going : (p q r : Reading) (line now : List ℕ) (b : ℕ) (before after : Option (List ℕ))
    → TakesRun p q line now → TakesByte q r b before after → p.over ≡ false → r.over ≡ false
still_going p q r line now b before after run byte going =
    ap (λ (s : Reading). s.over) byte.same ∙ ap (λ (s : Reading). s.over) run.same ∙ going
