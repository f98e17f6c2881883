-- The commands of lines that are read one after the other.
use Rattle.std.proofs.Common.{◌≡◌, ℕ, ◌+◌, Bool, true, false, List, [], ◌∷◌, ◌++◌, length, Option}
use Rattle.std.proofs.Common.{refl, sym, ap, ◌∙◌, append_assoc, append-nil, arith, length-append}
use Rattle.std.proofs.Common.{◌≤◌, ◌&&◌, nat_le, if◌then◌else◌}
use Rattle.std.{specs.Prelude.Ok, proofs.lemmas.Bool.leb-true, specs.List.list_all}
use Rattle.lines.specs.Lines.{is_within, lines_of, most_bytes, most_in_line, most_lines}
use Rattle.lines.specs.Reading.{Reading, GivesLine, Gives}
use Rattle.lines.specs.command_file.Commands.{Numbered, command_in, commands_from, is_left_out}
use Rattle.lines.specs.command_file.Commands.{numbered, text_of}

from_more : (n : ℕ) (lines : List (List ℕ)) (line : List ℕ) → commands_from n (lines ++ line ∷ [])
    ≡ commands_from n lines ++ command_in (n + length lines) (text_of (n + length lines) line)
from_more n [] line =
    let none : List (List ℕ) = [] in
    let here : n ≡ n + length none = omega arith in
    append-nil (command_in n (text_of n line)) ∙ ap (λ m. command_in m (text_of m line)) here
from_more n (l ∷ lines) line =
    let here : n + 1 + length lines ≡ n + length (l ∷ lines) = omega arith in
    ap (λ x. command_in n (text_of n l) ++ x) (from_more (n + 1) lines line
    ∙ ap (λ m. commands_from (n + 1) lines ++ command_in m (text_of m line)) here)
    ∙ sym (append_assoc (command_in n (text_of n l)) (commands_from (n + 1) lines)
    (command_in (n + length (l ∷ lines)) (text_of (n + length (l ∷ lines)) line)))

pub gives_true : (t : Bool) (p : Reading) (line given : List ℕ) (start now : Option (List ℕ))
    → t ≡ true → Gives (Ok t) p line given start now → GivesLine p line given start now
gives_true true p line given start now is h = h
gives_true false p line given start now is h = cc

-- one more line was read
pub one_more : (q : Reading) (line given : List ℕ) (start now : Option (List ℕ))
    (commands after : List Numbered)
    → (g : GivesLine q line given start now) → commands ≡ commands_from 1 (lines_of given)
    → after ≡ commands ++ command_in q.lines (text_of q.lines line)
    → after ≡ commands_from 1 (lines_of (given ++ g.more))
one_more q line given start now commands after g are added =
    let count : q.lines ≡ 1 + length (lines_of given) =
    omega (arith, g.read.lines ∙ ap length g.is ∙ length-append (lines_of given) (line ∷ [])) in
    added
    ∙ ap (λ x. x ++ command_in q.lines (text_of q.lines line)) are
    ∙ ap (λ n. commands_from 1 (lines_of given) ++ command_in n (text_of n line)) count
    ∙ sym (from_more 1 (lines_of given) line)
    ∙ ap (commands_from 1) (sym g.is)

-- ---- how many they are

command_fits : (out : Bool) (number : ℕ) (text : List ℕ)
    → length (if out then [] else numbered number text ∷ []) ≤ 1
command_fits true number text = omega arith
command_fits false number text = omega arith

from_fits : (n : ℕ) (lines : List (List ℕ)) → length (commands_from n lines) ≤ length lines
from_fits n [] = omega arith
from_fits n (line ∷ lines) =
    let one : List Numbered = command_in n (text_of n line) in
    let first : length one ≤ 1 = command_fits (is_left_out (text_of n line)) n (text_of n line) in
    let rest : length (commands_from (n + 1) lines) ≤ length lines = from_fits (n + 1) lines in
    let all : length (one ++ commands_from (n + 1) lines)
    ≡ length one + length (commands_from (n + 1) lines) =
    length-append one (commands_from (n + 1) lines) in
    omega (arith, first, rest, all)

first_two : (a b c : Bool) → (a && b && c) ≡ true → b ≡ true
first_two true true c h = refl
first_two true false c h = absurd (let k : false ≡ true = h in cc)
first_two false b c h = absurd (let k : false ≡ true = h in cc)

lines_fit : (input : List ℕ) → is_within input ≡ true → length (lines_of input) ≤ 65536
lines_fit input h =
    let few : nat_le (length (lines_of input)) 65536 ≡ true =
    first_two (nat_le (length input) most_bytes) (nat_le (length (lines_of input)) most_lines)
    (list_all (λ line. nat_le (length line) most_in_line) (lines_of input)) h in
    leb-true _ _ few

-- they are no more than the lines of an input that is within the limits
pub few : (given : List ℕ) (commands : List Numbered) → is_within given ≡ true
    → commands ≡ commands_from 1 (lines_of given) → length commands ≤ 65536
few given commands within are =
    let all : length commands ≡ length (commands_from 1 (lines_of given)) = ap length are in
    let fits : length (commands_from 1 (lines_of given)) ≤ length (lines_of given) =
    from_fits 1 (lines_of given) in
    let lines : length (lines_of given) ≤ 65536 = lines_fit given within in
    omega (arith, all, fits, lines)
