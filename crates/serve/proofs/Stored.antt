-- The desk that may serve.
use Rattle.std.proofs.Common.{◌≡◌}
use Rattle.store.specs.{Ranges.IsHome, declared.home.Home.Home}
use Rattle.hall_file.specs.declared.service.Service.{Service}
use Rattle.serve.specs.Addresses.{AreApart, HasTwins}
use Rattle.serve.specs.{Keys.IsKeyed, Keys.LacksKey, declared.fault.ServeFault.ServeFault}
use Rattle.serve.specs.Printing.{IsAllowed, IsOfFile, IsPlaced, IsRefused, home_of, texts_of}
use Rattle.serve.specs.declared.fault.ServeFault.TheVariants as fault

placed_of : (s : Service) (home : Home) → home ≡ home_of s → IsHome home → IsPlaced s
placed_of s home is h = rw is at h

pub allowed_of : (s : Service) (home : Home) → (home ≡ home_of s) × IsHome home
    → (IsOfFile s.options.making → AreApart (texts_of s)) → IsKeyed s → IsAllowed s
allowed_of s home is apart keyed = ((placed_of s home is.0 is.1, apart), keyed)

pub lacks_of : (s : Service) (home : Home) (f : ServeFault) → (home ≡ home_of s) × IsHome home
    → (IsOfFile s.options.making → AreApart (texts_of s)) → (f ≡ fault.NoHallKey) × LacksKey s
    → IsRefused f s
lacks_of s home f is apart h = rw h.0 ((placed_of s home is.0 is.1, apart), h.1)

pub same_of : (s : Service) (home : Home) (f : ServeFault) → (home ≡ home_of s) × IsHome home
    → (f ≡ fault.SameAddresses) × IsOfFile s.options.making × HasTwins (texts_of s) → IsRefused f s
same_of s home f is h = rw h.0 (placed_of s home is.0 is.1, h.1, h.2)
