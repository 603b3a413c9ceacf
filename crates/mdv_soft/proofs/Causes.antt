-- The causes for which extents make no soft partition exclude each other.
use Rattle.std.proofs.Common.{◌≡◌, ℕ, ◌<◌, List, refl, subst, arith, All}
use Rattle.std.specs.List.{Any}
use Rattle.mdv_soft.specs.Below.{IsExtent, Run, end_of}
use Rattle.mdv_soft.specs.declared.no_soft.NoSoft.{NoSoft}
use Rattle.mdv_soft.specs.declared.no_soft.NoSoft.TheVariants.{TooFew, TooMany, EmptyExtent, NoHeader, PastTheEnd, SharedBlock}
use Rattle.mdv_soft.specs.Softs.{IsNoSoft, IsSoft}
use Rattle.mdv_soft.specs.Laws.{CausesExclude}

-- what no extent is one isn't
clash : (P Q : Run → Type 0) (extents : List Run) → ((r : Run) → P r → Q r → ⊥) → Any P extents → All Q extents → ⊥
clash P Q extents not some all = not some.1 some.4 (subst Q some.3 (all some.0 some.1 some.2))

none_empty : (extents : List Run) → Any (λ (r : Run). r.blocks ≡ 0) extents → All (λ (r : Run). 0 < r.blocks) extents → ⊥
none_empty extents = clash (λ (r : Run). r.blocks ≡ 0) (λ (r : Run). 0 < r.blocks) extents (λ r is some. omega arith)

none_first : (extents : List Run) → Any (λ (r : Run). r.at ≡ 0) extents → All (λ (r : Run). 0 < r.at) extents → ⊥
none_first extents = clash (λ (r : Run). r.at ≡ 0) (λ (r : Run). 0 < r.at) extents (λ r is some. omega arith)

empty_none : (blocks : ℕ) (extents : List Run) → Any (λ (r : Run). r.blocks ≡ 0) extents → All (IsExtent blocks) extents → ⊥
empty_none blocks extents = clash (λ (r : Run). r.blocks ≡ 0) (IsExtent blocks) extents (λ r is extent. let whole = extent.whole in omega arith)

first_none : (blocks : ℕ) (extents : List Run) → Any (λ (r : Run). r.at ≡ 0) extents → All (IsExtent blocks) extents → ⊥
first_none blocks extents = clash (λ (r : Run). r.at ≡ 0) (IsExtent blocks) extents (λ r is extent. let header = extent.header in omega arith)

past_none : (blocks : ℕ) (extents : List Run) → Any (λ (r : Run). blocks < end_of r) extents → All (IsExtent blocks) extents → ⊥
past_none blocks extents = clash (λ (r : Run). blocks < end_of r) (IsExtent blocks) extents (λ r past extent. let within = extent.within in omega arith)

one : (blocks : ℕ) (extents : List Run) (a b : NoSoft) → IsNoSoft blocks extents a → IsNoSoft blocks extents b → a ≡ b
one blocks extents TooFew TooFew p q = refl
one blocks extents TooFew TooMany p q = absurd (omega arith)
one blocks extents TooFew EmptyExtent p q = absurd (let some = q.0.some in let most = q.0.most in omega arith)
one blocks extents TooFew NoHeader p q = absurd (let some = q.0.some in let most = q.0.most in omega arith)
one blocks extents TooFew PastTheEnd p q = absurd (let some = q.0.some in let most = q.0.most in omega arith)
one blocks extents TooFew SharedBlock p q = absurd (let some = q.0.some in let most = q.0.most in omega arith)
one blocks extents TooMany TooFew p q = absurd (omega arith)
one blocks extents TooMany TooMany p q = refl
one blocks extents TooMany EmptyExtent p q = absurd (let some = q.0.some in let most = q.0.most in omega arith)
one blocks extents TooMany NoHeader p q = absurd (let some = q.0.some in let most = q.0.most in omega arith)
one blocks extents TooMany PastTheEnd p q = absurd (let some = q.0.some in let most = q.0.most in omega arith)
one blocks extents TooMany SharedBlock p q = absurd (let some = q.0.some in let most = q.0.most in omega arith)
one blocks extents EmptyExtent TooFew p q = absurd (let some = p.0.some in let most = p.0.most in omega arith)
one blocks extents EmptyExtent TooMany p q = absurd (let some = p.0.some in let most = p.0.most in omega arith)
one blocks extents EmptyExtent EmptyExtent p q = refl
one blocks extents EmptyExtent NoHeader p q = absurd (none_empty extents p.1 q.1)
one blocks extents EmptyExtent PastTheEnd p q = absurd (none_empty extents p.1 q.1)
one blocks extents EmptyExtent SharedBlock p q = absurd (empty_none blocks extents p.1 q.1)
one blocks extents NoHeader TooFew p q = absurd (let some = p.0.some in let most = p.0.most in omega arith)
one blocks extents NoHeader TooMany p q = absurd (let some = p.0.some in let most = p.0.most in omega arith)
one blocks extents NoHeader EmptyExtent p q = absurd (none_empty extents q.1 p.1)
one blocks extents NoHeader NoHeader p q = refl
one blocks extents NoHeader PastTheEnd p q = absurd (none_first extents p.2 q.2)
one blocks extents NoHeader SharedBlock p q = absurd (first_none blocks extents p.2 q.1)
one blocks extents PastTheEnd TooFew p q = absurd (let some = p.0.some in let most = p.0.most in omega arith)
one blocks extents PastTheEnd TooMany p q = absurd (let some = p.0.some in let most = p.0.most in omega arith)
one blocks extents PastTheEnd EmptyExtent p q = absurd (none_empty extents q.1 p.1)
one blocks extents PastTheEnd NoHeader p q = absurd (none_first extents q.2 p.2)
one blocks extents PastTheEnd PastTheEnd p q = refl
one blocks extents PastTheEnd SharedBlock p q = absurd (past_none blocks extents p.3 q.1)
one blocks extents SharedBlock TooFew p q = absurd (let some = p.0.some in let most = p.0.most in omega arith)
one blocks extents SharedBlock TooMany p q = absurd (let some = p.0.some in let most = p.0.most in omega arith)
one blocks extents SharedBlock EmptyExtent p q = absurd (empty_none blocks extents q.1 p.1)
one blocks extents SharedBlock NoHeader p q = absurd (first_none blocks extents q.2 p.1)
one blocks extents SharedBlock PastTheEnd p q = absurd (past_none blocks extents q.3 p.1)
one blocks extents SharedBlock SharedBlock p q = refl

none : (blocks : ℕ) (extents : List Run) (why : NoSoft) → IsNoSoft blocks extents why → IsSoft blocks extents → ⊥
none blocks extents TooFew p is = let some = is.some in omega arith
none blocks extents TooMany p is = let few = is.are.few in omega arith
none blocks extents EmptyExtent p is = empty_none blocks extents p.1 is.are.on_base.lie
none blocks extents NoHeader p is = first_none blocks extents p.2 is.are.on_base.lie
none blocks extents PastTheEnd p is = past_none blocks extents p.3 is.are.on_base.lie
none blocks extents SharedBlock p is = p.2 is.are.on_base.apart

pub causes_exclude : CausesExclude
causes_exclude = record { one = one; none = none }
