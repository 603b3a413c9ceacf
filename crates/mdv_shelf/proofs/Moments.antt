-- How stretches of calls are mapped and joined.
use Rattle.std.proofs.Common.{◌≡◌, ℕ, suc, ◌+◌, List, [], ◌∷◌, ◌++◌, length, Option, Some, refl, sym, ◌∙◌, ap, subst, arith}
use Rattle.mdv_shelf.specs.Tale.{Tale, Begun, Then, Call, Wrote, Tore, Synced, Gave}
use Rattle.mdv_shelf.specs.Moments.{extended, During, Along, Grew, Moments, Ends}

module _ (P Q : Tale → Type 0) (weaker : (m : Tale) → P m → Q m) where
  pub during_weaker : (t : Tale) (c : Call) → During P t c → During Q t c
  during_weaker t (Wrote drive at blocks) here = weaker _ here
  during_weaker t (Tore drive at blocks took) here = weaker _ here
  during_weaker t (Synced drive) here = weaker _ here
  during_weaker t (Gave piece count) here = λ k le. weaker _ (here k le)

  pub along_weaker : (t : Tale) (cs : List Call) → Along P t cs → Along Q t cs
  along_weaker t [] here = weaker t here
  along_weaker t (c ∷ cs) here = (along_weaker t cs here.0, during_weaker (extended t cs) c here.1)

module _ (P : Tale → Type 0) where
  pub during_ends : (t : Tale) (c : Call) → During P t c → P (Then t c)
  during_ends t (Wrote drive at blocks) here = here
  during_ends t (Tore drive at blocks took) here = here
  during_ends t (Synced drive) here = here
  during_ends t (Gave piece count) here = here count (omega arith)

  pub along_ends : (t : Tale) (cs : List Call) → Along P t cs → P (extended t cs)
  along_ends t [] here = here
  along_ends t (c ∷ cs) here = during_ends (extended t cs) c here.1

  pub along_starts : (t : Tale) (cs : List Call) → Along P t cs → P t
  along_starts t [] here = here
  along_starts t (c ∷ cs) here = along_starts t cs here.0

pub extended_more : (t : Tale) (xs ys : List Call) → extended (extended t xs) ys ≡ extended t (ys ++ xs)
extended_more t xs [] = refl
extended_more t xs (c ∷ ys) = ap (λ (u : Tale). Then u c) (extended_more t xs ys)

pub along_more : (P : Tale → Type 0) (t : Tale) (xs ys : List Call) → Along P t xs → Along P (extended t xs) ys → Along P t (ys ++ xs)
along_more P t xs [] first second = first
along_more P t xs (c ∷ ys) first second =
    (along_more P t xs ys first second.0, subst (λ (u : Tale). During P u c) (extended_more t xs ys) second.1)

-- no call
pub grew_none : (P : Tale → Type 0) (t : Tale) → P t → Grew P t t
grew_none P t here = record { calls = []; led = refl; each = here }

-- one call
pub grew_one : (P : Tale → Type 0) (t : Tale) (c : Call) → P t → During P t c → Grew P t (Then t c)
grew_one P t c before after = record { calls = c ∷ []; led = refl; each = (before, after) }

pub grew_weaker : (P Q : Tale → Type 0) (t u : Tale) → ((m : Tale) → P m → Q m) → Grew P t u → Grew Q t u
grew_weaker P Q t u weaker grew = record { calls = grew.calls; led = grew.led; each = along_weaker P Q weaker t grew.calls grew.each }

pub grew_ends : (P : Tale → Type 0) (t u : Tale) → Grew P t u → P u
grew_ends P t u grew = subst P (sym grew.led) (along_ends P t grew.calls grew.each)

pub grew_starts : (P : Tale → Type 0) (t u : Tale) → Grew P t u → P t
grew_starts P t u grew = along_starts P t grew.calls grew.each

pub grew_more : (P : Tale → Type 0) (t u v : Tale) → Grew P t u → Grew P u v → Grew P t v
grew_more P t u v first second = record {
  calls = second.calls ++ first.calls;
  led = second.led ∙ ap (λ (w : Tale). extended w second.calls) first.led ∙ extended_more t first.calls second.calls;
  each = along_more P t first.calls second.calls first.each (subst (λ (w : Tale). Along P w second.calls) first.led second.each);
}

pub some_is : {A : Type 0} (a : Option A) (x y : A) → a ≡ Some x → a ≡ Some y → x ≡ y
some_is a x y p q = cc

-- a shelf that told the same all along
pub moments_none : (R : Tale → Tale → Type 0) (a b : Option Tale) → b ≡ a → ((t : Tale) → R t t) → Moments R a b
moments_none R a b same here t is = (t, same ∙ is, grew_none (R t) t (here t))

pub moments_weaker : (R Q : Tale → Tale → Type 0) (a b : Option Tale) → ((t m : Tale) → R t m → Q t m) → Moments R a b → Moments Q a b
moments_weaker R Q a b weaker moments t is =
    let grew = moments t is in (grew.0, grew.1, grew_weaker (R t) (Q t) t grew.0 (weaker t) grew.2)

-- one stretch after another: the second is told from where the first ended
pub moments_more : (R S Q : Tale → Tale → Type 0) (a b c : Option Tale) → ((t m : Tale) → R t m → Q t m) → ((t u m : Tale) → R t u → S u m → Q t m) → Moments R a b → Moments S b c → Moments Q a c
moments_more R S Q a b c before after first second t is =
    let one = first t is in
    let two = second one.0 one.1 in
    let here = grew_ends (R t) t one.0 one.2 in (
      two.0,
      two.1,
      grew_more (Q t) t one.0 two.0
          (grew_weaker (R t) (Q t) t one.0 (before t) one.2)
          (grew_weaker (S one.0) (Q t) one.0 two.0 (λ m. after t one.0 m here) two.2),
    )

-- what holds at the end and what holds at each moment, together at the end
pub moments_end : (R : Tale → Tale → Type 0) (a b : Option Tale) → Moments R a b → Ends R a b
moments_end R a b moments t is = let grew = moments t is in (grew.0, grew.1, grew_ends (R t) t grew.0 grew.2)

pub ends_both : (Q R S : Tale → Tale → Type 0) (a b : Option Tale) → ((t u : Tale) → Q t u → R t u → S t u) → Ends Q a b → Ends R a b → Ends S a b
ends_both Q R S a b join first second t is =
    let one = first t is in
    let two = second t is in
    let same : two.0 ≡ one.0 = some_is b two.0 one.0 two.1 one.1 in
    (one.0, one.1, join t one.0 one.2 (subst (λ (u : Tale). R t u) same two.2))

pub ends_more : (Q R S : Tale → Tale → Type 0) (a b c : Option Tale) → ((t u v : Tale) → Q t u → R u v → S t v) → Ends Q a b → Ends R b c → Ends S a c
ends_more Q R S a b c join first second t is =
    let one = first t is in
    let two = second one.0 one.1 in
    (two.0, two.1, join t one.0 two.0 one.2 two.2)

-- one stretch after another, where more is known of where the first ended than of its moments
pub moments_after : (R Q S P : Tale → Tale → Type 0) (a b c : Option Tale) → ((t m : Tale) → R t m → P t m) → ((t u m : Tale) → Q t u → S u m → P t m) → Moments R a b → Ends Q a b → Moments S b c → Moments P a c
moments_after R Q S P a b c before after first end second t is =
    let one = first t is in
    let ended = end t is in
    let same : ended.0 ≡ one.0 = some_is b ended.0 one.0 ended.1 one.1 in
    let known = subst (λ (u : Tale). Q t u) same ended.2 in
    let two = second one.0 one.1 in (
      two.0,
      two.1,
      grew_more (P t) t one.0 two.0 (grew_weaker (R t) (P t) t one.0 (before t) one.2)
          (grew_weaker (S one.0) (P t) one.0 two.0 (λ m. after t one.0 m known) two.2),
    )

-- how many calls a tale has
size : Tale → ℕ
size (Begun start) = 0
size (Then t c) = suc (size t)

size_extended : (t : Tale) (cs : List Call) → size (extended t cs) ≡ size t + length cs
unfolding size
size_extended t [] = omega arith
size_extended t (c ∷ cs) = let rest = size_extended t cs in omega arith

size_then : (t : Tale) (c : Call) (u : Tale) → Then t c ≡ u → size u ≡ size t + 1
unfolding size
size_then t c u is = ap size (sym is) ∙ omega arith

same_then : (t u : Tale) (c d : Call) → Then t c ≡ Then u d → (t ≡ u) × (c ≡ d)
same_then t u c d is = (cc (is), cc (is))

-- calls that lead from one tale to another are the same calls
pub same_calls : (t : Tale) (xs ys : List Call) → extended t xs ≡ extended t ys → xs ≡ ys
same_calls t [] [] is = refl
same_calls t [] (c ∷ ys) is = absurd (let one = size_then (extended t ys) c t (sym is) in let two = size_extended t ys in omega arith)
same_calls t (c ∷ xs) [] is = absurd (let one = size_then (extended t xs) c t is in let two = size_extended t xs in omega arith)
same_calls t (c ∷ xs) (d ∷ ys) is =
    let same = same_then (extended t xs) (extended t ys) c d is in
    let behind = same_calls t xs ys same.0 in cc (same.1, behind)

pub during_both : (P Q : Tale → Type 0) (t : Tale) (c : Call) → During P t c → During Q t c → During (λ m. P m × Q m) t c
during_both P Q t (Wrote drive at blocks) one other = (one, other)
during_both P Q t (Tore drive at blocks took) one other = (one, other)
during_both P Q t (Synced drive) one other = (one, other)
during_both P Q t (Gave piece count) one other = λ k le. (one k le, other k le)

along_both : (P Q : Tale → Type 0) (t : Tale) (cs : List Call) → Along P t cs → Along Q t cs → Along (λ m. P m × Q m) t cs
along_both P Q t [] one other = (one, other)
along_both P Q t (c ∷ cs) one other = (along_both P Q t cs one.0 other.0, during_both P Q (extended t cs) c one.1 other.1)

-- what holds at each moment, and what else holds at each
pub moments_both : (R S : Tale → Tale → Type 0) (a b : Option Tale) → Moments R a b → Moments S a b → Moments (λ t m. R t m × S t m) a b
moments_both R S a b first second t is =
    let one = first t is in
    let other = second t is in
    let same : other.0 ≡ one.0 = some_is b other.0 one.0 other.1 one.1 in
    let calls : other.2.calls ≡ one.2.calls = same_calls t other.2.calls one.2.calls (sym other.2.led ∙ same ∙ one.2.led) in (
      one.0,
      one.1,
      record {
        calls = one.2.calls;
        led = one.2.led;
        each = along_both (R t) (S t) t one.2.calls one.2.each (subst (λ (cs : List Call). Along (S t) t cs) calls other.2.each);
      },
    )
