-- That each moment of a stretch is its start with more calls.
use Rattle.std.proofs.Common.{◌≡◌, List, [], ◌∷◌, ◌++◌, Option, Some, refl, ◌∙◌, ap, subst}
use Rattle.mdv_shelf.specs.Tale.{Call, Gave, Synced, Tale, Tore, Wrote}
use Rattle.mdv_shelf.specs.Moments.{Along, During, Grew, IsSince, Moments, extended}
use Rattle.mdv_shelf.proofs.Moments.{extended_more, moments_end, moments_weaker, some_is}

pub since_itself : (t : Tale) → IsSince t t
since_itself t = ([], refl)

pub since_more : (t u v : Tale) → IsSince t u → IsSince u v → IsSince t v
since_more t u v first second = (second.0 ++ first.0, second.1 ∙ ap (λ (w : Tale). extended w second.0) first.1 ∙ extended_more t first.0 second.0)

module _ (P : Tale → Type 0) (t : Tale) where
  during_since : (cs : List Call) (c : Call) → During P (extended t cs) c → During (λ m. IsSince t m × P m) (extended t cs) c
  during_since cs (Wrote drive at blocks) here = ((Wrote drive at blocks ∷ cs, refl), here)
  during_since cs (Tore drive at blocks took) here = ((Tore drive at blocks took ∷ cs, refl), here)
  during_since cs (Synced drive) here = ((Synced drive ∷ cs, refl), here)
  during_since cs (Gave piece count) here = λ k le. ((Gave piece k ∷ cs, refl), here k le)

  along_since : (cs : List Call) → Along P t cs → Along (λ m. IsSince t m × P m) t cs
  along_since [] here = (since_itself t, here)
  along_since (c ∷ cs) here = (along_since cs here.0, during_since cs c here.1)

  grew_since : (u : Tale) → Grew P t u → Grew (λ m. IsSince t m × P m) t u
  grew_since u grew = record { calls = grew.calls; led = grew.led; each = along_since grew.calls grew.each }

-- so it is at each moment of a stretch
pub moments_since : (R : Tale → Tale → Type 0) (a b : Option Tale) → Moments R a b → Moments (λ t m. IsSince t m × R t m) a b
moments_since R a b moments t is = let grew = moments t is in (grew.0, grew.1, grew_since (R t) t grew.0 grew.2)

-- and what is told of each moment may rest on it, as what is known of the end may
pub since_weaker : (R Q : Tale → Tale → Type 0) (a b : Option Tale) → ((t m : Tale) → IsSince t m → R t m → Q t m) → Moments R a b → Moments Q a b
since_weaker R Q a b weaker moments = moments_weaker (λ t m. IsSince t m × R t m) Q a b (λ t m both. weaker t m both.0 both.1) (moments_since R a b moments)

pub end_since : (R : Tale → Tale → Type 0) (a b : Option Tale) → Moments R a b → (t u : Tale) → a ≡ Some t → b ≡ Some u → IsSince t u
end_since R a b moments t u from to =
    let end = moments_end (λ t m. IsSince t m × R t m) a b (moments_since R a b moments) t from in
    subst (IsSince t) (some_is b end.0 u end.1 to) end.2.0
