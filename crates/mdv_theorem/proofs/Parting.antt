-- Where a member of two lists, one behind the other, lies.
use Rattle.std.proofs.Common.{◌≡◌, List, [], ◌∷◌, ◌++◌, Contains, refl, sym, ap}
use Rattle.std.proofs.lemmas.List.Elements.{Contains-append_left, Contains-append_right, Contains-push}

-- a member, with what stands before and behind it: it is of the first list, or of the second
pub data Parts {X : Type 0} (a b c d : List X) (x : X) : Type 0 where
  in_first : (rest : List X) → a ≡ c ++ x ∷ rest → d ≡ rest ++ b → Parts a b c d x
  in_second : (front : List X) → c ≡ a ++ front → b ≡ front ++ x ∷ d → Parts a b c d x

one_more : {X : Type 0} (a b c d : List X) (x y z : X) → y ≡ z → Parts a b c d x → Parts (y ∷ a) b (z ∷ c) d x
one_more a b c d x y z same (in_first rest is behind) = in_first rest (λ i. same i ∷ is i) behind
one_more a b c d x y z same (in_second front is behind) = in_second front (λ i. sym same i ∷ is i) behind

pub parts : {X : Type 0} (a b c d : List X) (x : X) → a ++ b ≡ c ++ x ∷ d → Parts a b c d x
parts [] b c d x is = in_second c refl is
parts (y ∷ a) b [] d x is =
    let here : y ≡ x = cc (is) in
    let rest : d ≡ a ++ b = cc (is) in
    in_first a (ap (λ z. z ∷ a) here) rest
parts (y ∷ a) b (z ∷ c) d x is =
    let here : y ≡ z = cc (is) in
    let rest : a ++ b ≡ c ++ x ∷ d = cc (is) in
    one_more a b c d x y z here (parts a b c d x rest)

-- a member stands between what is before it and behind it
pub cut_has : {X : Type 0} (front rest : List X) (x : X) → Contains (front ++ x ∷ rest) x
cut_has front rest x = Contains-append_right front (x ∷ rest) x (Contains-append_left (x ∷ []) rest x (Contains-push [] x))
