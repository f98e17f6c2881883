use Rattle.std.proofs.Common.{◌≡◌, ℕ, List, ◌∷◌, ◌++◌, take, drop, sym, ◌∙◌, refl, arith, eqb}
use Rattle.std.specs.Str.{NoCharPasses, Pattern.HasCharAt}
use Rattle.std.proofs.lemmas.Bool.{false≢true}
use Rattle.std.proofs.lemmas.List.{take-append-drop}
use Rattle.std.proofs.lemmas.Str.Pattern.{NoCharPasses-char, drop_at_char}
use Rattle.hall_file.specs.Addresses.{IsAddress, IsHost, IsPort}
use Rattle.hall_file.proofs.Colons.{NoColon, has_colon, same_split, decimal_has_none}
use Rattle.hall_file.proofs.address.is_address.Goals as goal

-- the text is parted at its last colon
abbrev IsParted : List ℕ → List ℕ → List ℕ → Type 0
IsParted text host port = (text ≡ host ++ 58 ∷ port) × NoColon port

parted : (text host port : List ℕ) (i j : ℕ) → NoCharPasses (λ d. eqb d 58) (drop j text)
    → HasCharAt 58 text i j → host ≡ take i text → port ≡ drop j text → IsParted text host port
parted text host port i j none at front back = (
  sym (take-append-drop i text) ∙ rw
      (drop_at_char 58 text i j at (omega arith), ← front, ← back) refl,
  λ k within. rw back (NoCharPasses-char 58 (drop j text) k none (omega arith) (rw back at within)),
)

-- an address is parted there into its host and its port
parts : (text host port : List ℕ) → IsParted text host port → IsAddress text
    → IsHost host × IsPort port
parts text host port (same, none) (front, back, e, is_host, (n, above, below, d)) =
    let clear : NoColon back = rw d (decimal_has_none n (omega arith)) in
    let (one, other) = same_split host front port back (sym same ∙ e) none clear in
    (rw one is_host, (n, above, below, other ∙ d))

pub returns-then-is_host : goal.returns-then-is_host
returns-then-is_host c =
    let text = c.args.text.now in
    let host = c.in-Some.host.now in
    let port = c.in-Some.port.now in
    let (i, j, (none, at), front, back, _, _, _) = c.in-Some.ensures.cases in
    let cut : IsParted text host port = parted text host port i j none at front back in (
      λ t. (host, port, cut.0, c.is_host.ensures.0 c.if-is_host.true, c.is_port.ensures.0 t),
      λ a. c.is_port.ensures.1 (parts text host port cut a).1,
    )

pub returns-else-is_host : goal.returns-else-is_host
returns-else-is_host c =
    let text = c.args.text.now in
    let host = c.in-Some.host.now in
    let port = c.in-Some.port.now in
    let (i, j, (none, at), front, back, _, _, _) = c.in-Some.ensures.cases in
    let cut : IsParted text host port = parted text host port i j none at front back in (
      λ t. absurd (false≢true (sym c.if-is_host.false ∙ t)),
      λ a. c.is_host.ensures.1 (parts text host port cut a).0,
    )

pub returns-in-None : goal.returns-in-None
returns-in-None c =
    let text = c.args.text.now in (
      λ t. absurd (false≢true t),
      λ a. absurd (has_colon a.0 a.1 text a.2 (λ k within.
          NoCharPasses-char 58 text k c.in-None.ensures.cases (omega arith) within)),
    )
