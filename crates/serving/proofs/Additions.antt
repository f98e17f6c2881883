-- What is done is only added to: so what was done up to a moment begins what would have been done.
use Rattle.std.proofs.Common.{refl, ap, ◌∙◌, [], ◌∷◌, ◌++◌, map}
use Rattle.std.proofs.lemmas.List.{append_assoc}
use Rattle.learner.specs.declared.event.DeskEvent.{DeskEvent}
use Rattle.store.specs.declared.home.Home.{Home}
use Rattle.serving.specs.model.Reaching.{OnlyAdds}
use Rattle.serving.specs.Serving.{Called, Pushed, Service, reply_to, call, push_all}

pub adds_call : (home : Home) (event : DeskEvent) → OnlyAdds (call home event)
unfolding call
adds_call home event s = (Called event (reply_to home event s).result ∷ [], refl)

pub adds_both : (f g : Service → Service) → OnlyAdds f → OnlyAdds g → OnlyAdds (λ s. g (f s))
adds_both f g a b s =
    let first = a s in
    let second = b (f s) in (
      first.0 ++ second.0,
      second.1 ∙ ap (λ z. z ++ second.0) first.1
          ∙ append_assoc s.done first.0 second.0,
    )

pub adds_push : OnlyAdds push_all
unfolding push_all
adds_push s = (map (λ m. Pushed m) s.waiting, refl)
