-- What the tests of a state without faults tell.
use Rattle.std.proofs.Common.{◌≡◌, ◌<◌, ℕ, zero, suc, true, refl, ◌∙◌, ap, List, [], ◌∷◌, length, get_or, replicate, map, Option, None, Some, arith}
use Rattle.std.proofs.lemmas.List.{get_or-map}
use Rattle.std.specs.Prelude.{◌↔◌, All}
use Rattle.std.specs.Option.{is_none}
use Rattle.mdv_config.specs.Below.{PartStatus, SetData, Okay, no_set}
use Rattle.mdv_config.specs.Table.{quiet_part}

pub none-true : {A : Type 0} (o : Option A) → is_none o ≡ true ↔ (o ≡ None)
none-true None = (λ is. refl, λ is. refl)
none-true (Some a) = (λ is. cc, λ is. cc)

-- a list of one value, so many times
pub replicated : {A : Type 0} (x : A) (xs : List A) (n : ℕ) → length xs ≡ n → All (λ (y : A). y ≡ x) xs → xs ≡ replicate n x
replicated x [] zero same each = refl
replicated x [] (suc n) same each = absurd (omega (arith, same))
replicated x (y ∷ ys) zero same each = absurd (omega (arith, same))
replicated x (y ∷ ys) (suc n) same each =
    let first : y ≡ x = each 0 y (omega arith) in
    let others : ys ≡ replicate n x = replicated x ys n (omega (arith, same)) (λ k d within. each (suc k) d (omega (arith, within))) in
    λ i. first i ∷ others i

pub length_replicated : {A : Type 0} (x : A) (n : ℕ) → length (replicate n x) ≡ n
length_replicated x zero = refl
length_replicated x (suc n) = ap suc (length_replicated x n)

pub all_replicated : {A : Type 0} (x : A) (n : ℕ) → All (λ (y : A). y ≡ x) (replicate n x)
all_replicated x zero k d within = absurd (omega arith)
all_replicated x (suc n) zero d within = refl
all_replicated x (suc n) (suc k) d within = all_replicated x n k d (omega (arith, within))

-- a list of what each value of another gives
pub mapped : {X Y : Type 0} (f : X → Y) (xs : List X) (ys : List Y) → length ys ≡ length xs → ((k : ℕ) (d : X) (e : Y) → k < length xs → get_or ys k e ≡ f (get_or xs k d)) → ys ≡ map f xs
mapped f [] [] same each = refl
mapped f [] (y ∷ ys) same each = absurd (omega (arith, same))
mapped f (x ∷ xs) [] same each = absurd (omega (arith, same))
mapped f (x ∷ xs) (y ∷ ys) same each =
    let first : y ≡ f x = each 0 x y (omega arith) in
    let others : ys ≡ map f xs = mapped f xs ys (omega (arith, same)) (λ k d e within. each (suc k) d e (omega (arith, within))) in
    λ i. first i ∷ others i

-- and each value of it
pub mapped_at : {X Y : Type 0} (f : X → Y) (xs : List X) (ys : List Y) (k : ℕ) (d : X) (e : Y) → ys ≡ map f xs → k < length xs → get_or ys k e ≡ f (get_or xs k d)
mapped_at {Y = Y} f xs ys k d e is within = ap (λ (l : List Y). get_or l k e) is ∙ get_or-map f xs k d e within

pub quiet_part_is : (p : PartStatus) → p.state ≡ Okay → p.spare ≡ None → p ≡ quiet_part
quiet_part_is p state spare = λ i. record { state = state i; spare = spare i }

pub no_set_is : (s : SetData) → s.owner ≡ None → s.hosts ≡ [] → s.drives ≡ [] → s.mediators ≡ [] → s ≡ no_set
no_set_is s owner hosts drives mediators = λ i. record { owner = owner i; hosts = hosts i; drives = drives i; mediators = mediators i }
