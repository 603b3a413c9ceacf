-- How a machine of events goes on: one stretch behind another, and told of less.
use Rattle.std.proofs.Common.{◌≡◌, List, [], ◌∷◌, ◌++◌, refl, sym, ◌∙◌, ap, subst, append_assoc}
use Rattle.mdv_store_law.specs.Machine.{Adds, AreAll, Goes, IsCourse, after_all, all_of}
use Rattle.mdv_store_law.specs.Part.{IsPart}
use Rattle.mdv_store_law.proofs.Parts.{part_more, part_of_part}

module _ {S E : Type 0} (after : S → E → S) where
  pub after_more : (state : S) (es fs : List E) → after_all after state (es ++ fs) ≡ after_all after (after_all after state es) fs
  after_more state [] fs = refl
  after_more state (e ∷ es) fs = after_more (after state e) es fs

  pub course_more : (May : S → E → Type 0) (state : S) (es fs : List E) → IsCourse after May state es → IsCourse after May (after_all after state es) fs → IsCourse after May state (es ++ fs)
  course_more May state [] fs first second = second
  course_more May state (e ∷ es) fs first second = (first.0, course_more May (after state e) es fs first.1 second)

pub all_more : {E X : Type 0} (give : E → List X) (es fs : List E) → all_of give (es ++ fs) ≡ all_of give es ++ all_of give fs
all_more give [] fs = refl
all_more give (e ∷ es) fs = ap (λ (l : List _). give e ++ l) (all_more give es fs) ∙ sym (append_assoc (give e) (all_of give es) (all_of give fs))

are_all_more : {E : Type 0} (Is : E → Type 0) (es fs : List E) → AreAll Is es → AreAll Is fs → AreAll Is (es ++ fs)
are_all_more Is [] fs one other = other
are_all_more Is (e ∷ es) fs one other = (one.0, are_all_more Is es fs one.1 other)

are_all_weaker : {E : Type 0} (Is Any : E → Type 0) (es : List E) → ((e : E) → Is e → Any e) → AreAll Is es → AreAll Any es
are_all_weaker Is Any [] weaker are = tt
are_all_weaker Is Any (e ∷ es) weaker are = (weaker e are.0, are_all_weaker Is Any es weaker are.1)

module _ {E T D : Type 0} (tell : E → List T) (begin : E → List D) where
  -- one stretch and another: what is asked in both is begun, one behind the other
  pub adds_more : (Is : E → Type 0) (asks others : List D) (told more : List T) (es fs : List E) → Adds tell begin Is asks told es → Adds tell begin Is others more fs → Adds tell begin Is (asks ++ others) (told ++ more) (es ++ fs)
  adds_more Is asks others told more es fs one other = record {
    tells = all_more tell es fs ∙ ap (λ (l : List T). l ++ all_of tell fs) one.tells ∙ ap (λ (l : List T). told ++ l) other.tells;
    issues = are_all_more Is es fs one.issues other.issues;
    begins = subst (λ (l : List D). IsPart l (asks ++ others)) (sym (all_more begin es fs)) (part_more (all_of begin es) asks (all_of begin fs) others one.begins other.begins);
  }

  -- more is asked
  pub adds_weaker : (Is Any : E → Type 0) (asks more : List D) (told : List T) (es : List E) → ((e : E) → Is e → Any e) → IsPart asks more → Adds tell begin Is asks told es → Adds tell begin Any more told es
  adds_weaker Is Any asks more told es weaker part adds = record {
    tells = adds.tells;
    issues = are_all_weaker Is Any es weaker adds.issues;
    begins = part_of_part (all_of begin es) asks more adds.begins part;
  }

module _ {S E : Type 0} (after : S → E → S) (May : S → E → Type 0) where
  -- one stretch behind another
  pub goes_more : (Come Then Both : List E → Type 0) (Stands Later : S → Type 0) (Between After : List E → S → Type 0) (state : S) → ((es fs : List E) → Come es → Then fs → Both (es ++ fs))
      → Goes after May Come Stands Between state → ((es : List E) (next : S) → Stands next → Between es next → Goes after May Then Later (λ fs. After (es ++ fs)) next) → Goes after May Both Later After state
  goes_more Come Then Both Stands Later Between After state both one then_goes =
      let two = then_goes one.es (after_all after state one.es) one.stands one.after in
      let same : after_all after (after_all after state one.es) two.es ≡ after_all after state (one.es ++ two.es) = sym (after_more after state one.es two.es) in
      record {
        es = one.es ++ two.es;
        course = course_more after May state one.es two.es one.course two.course;
        come = both one.es two.es one.come two.come;
        stands = subst Later same two.stands;
        after = subst (After (one.es ++ two.es)) same two.after;
      }

  -- less is told of the events, and of what is known then
  pub goes_weaker : (Come Any : List E → Type 0) (Stands Later : S → Type 0) (After Less : List E → S → Type 0) (state : S) → ((es : List E) → Come es → Any es) → ((next : S) → Stands next → Later next)
      → ((es : List E) (next : S) → Stands next → After es next → Less es next) → Goes after May Come Stands After state → Goes after May Any Later Less state
  goes_weaker Come Any Stands Later After Less state any later less goes = record {
    es = goes.es;
    course = goes.course;
    come = any goes.es goes.come;
    stands = later (after_all after state goes.es) goes.stands;
    after = less goes.es (after_all after state goes.es) goes.stands goes.after;
  }
