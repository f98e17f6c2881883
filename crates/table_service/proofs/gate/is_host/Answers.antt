use Rattle.std.proofs.Common.{◌≡◌, ◌∙◌, ◌+◌, ◌<◌, ◌||◌, ℕ, Bool, true, false, List, String, ap}
use Rattle.std.proofs.Common.{bytes_eq, drop, get_or, length, map, string_bytes, sym}
use Rattle.table_service.{specs.Gate.is_host, proofs.Walks.split}
use Rattle.table_service.proofs.gate.is_host.Goals as goal

module _ {Z : Type 0} (hosts : List (String Z)) (i : ℕ) (host : String Z) (value : List ℕ)
    (within : i < length hosts) (is : host ≡ get_or hosts i host) (b : Bool)
    (asked : b ≡ bytes_eq (string_bytes host) value) where
  step : is_host (map string_bytes (drop i hosts)) value
      ≡ (b || is_host (map string_bytes (drop (i + 1) hosts)) value)
  step =
      ap (λ (hs : List (String Z)). is_host (map string_bytes hs) value)
      (split hosts i host within is)
      ∙ ap (λ t. t || is_host (map string_bytes (drop (i + 1) hosts)) value) (sym asked)

  here : b ≡ true → is_host (map string_bytes (drop i hosts)) value ≡ true
  here is-so = step ∙ ap (λ t. t || is_host (map string_bytes (drop (i + 1) hosts)) value) is-so

  later : b ≡ false → is_host (map string_bytes (drop (i + 1) hosts)) value
      ≡ is_host (map string_bytes (drop i hosts)) value
  later is-not =
      sym (step ∙ ap (λ t. t || is_host (map string_bytes (drop (i + 1) hosts)) value) is-not)

pub loop-host-preserved : goal.loop-host-preserved
loop-host-preserved c =
    later c.args.hosts.now c.loop-host.host-index c.host-item.result c.args.value.now
    c.loop-host-test.true c.host-item.is c.eq.result
    (c.eq.ensures ∙ ap (λ t. bytes_eq t c.args.value.now) c.as_bytes.ensures.value) c.if-eq.false
    ∙ c.loop-host.invariant

pub returns-then-eq : goal.returns-then-eq
returns-then-eq c =
    sym (sym c.loop-host.invariant
    ∙ here c.args.hosts.now c.loop-host.host-index c.host-item.result c.args.value.now
    c.loop-host-test.true c.host-item.is c.eq.result
    (c.eq.ensures ∙ ap (λ t. bytes_eq t c.args.value.now) c.as_bytes.ensures.value) c.if-eq.true)
