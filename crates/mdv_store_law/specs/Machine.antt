-- A machine of events, whatever they are: what they make of a state, when they may happen, what they tell and begin, and how a state goes on by them.
use Rattle.std.specs.Prelude.{◌≡◌, List, [], ◌∷◌, ◌++◌}
use Rattle.mdv_store_law.specs.Part.{IsPart}

-- the state behind these events
abbrev pub after_all : {S E : Type 0} → (S → E → S) → S → List E → S
after_all after state [] = state
after_all after state (e ∷ es) = after_all after (after state e) es

-- each of the events may happen where it happens
abbrev pub IsCourse : {S E : Type 0} → (S → E → S) → (S → E → Type 0) → S → List E → Type 0
IsCourse after May state [] = Unit {0}
IsCourse after May state (e ∷ es) = May state e × IsCourse after May (after state e) es

-- what each of them gives, in order
abbrev pub all_of : {E X : Type 0} → (E → List X) → List E → List X
all_of give [] = []
all_of give (e ∷ es) = give e ++ all_of give es

-- each of them is such a one
abbrev pub AreAll : {E : Type 0} → (E → Type 0) → List E → Type 0
AreAll Is [] = Unit {0}
AreAll Is (e ∷ es) = Is e × AreAll Is es

-- The events tell these; they are such ones, and begin only what is asked, in that order and each once.
pub record Adds {E T D : Type 0} (tell : E → List T) (begin : E → List D) (Is : E → Type 0) (asks : List D) (told : List T) (es : List E) : Type 0 where
  pub tells : all_of tell es ≡ told
  pub issues : AreAll Is es
  pub begins : IsPart (all_of begin es) asks

-- A state goes on by such events, each of which may happen, to one of which this holds; and more is known of it and of the events.
pub record Goes {S E : Type 0} (next : S → E → S) (May : S → E → Type 0) (Come : List E → Type 0) (Stands : S → Type 0) (After : List E → S → Type 0) (state : S) : Type 0 where
  pub es : List E
  pub course : IsCourse next May state es
  pub come : Come es
  pub stands : Stands (after_all next state es)
  pub after : After es (after_all next state es)
