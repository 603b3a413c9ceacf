-- Which places of the slices are told of, as far as a look has come.
use Rattle.std.proofs.Common.{◌≡◌, inl, inr, ℕ, ◌+◌, ◌≤◌, Bool, true, List, [], ◌∷◌, ◌++◌, sym, ◌∙◌, ap, subst, arith}
use Rattle.std.specs.Prelude.{Contains}
use Rattle.std.proofs.lemmas.Bool.{cases_lt}
use Rattle.std.proofs.lemmas.List.Elements.{Contains-append_left, Contains-push, Contains-push_cases}
use Rattle.mdv_survey.specs.Below.{DriveNo, Geometry, PlaceAt, Site, SliceLine}
use Rattle.mdv_survey.specs.Others.{ComesTo, IsOtherIn, IsNumberTold}
use Rattle.mdv_survey.specs.Replica.{Contents}
use Rattle.mdv_survey.specs.Slice.{AreTold, IsPassed}
use Rattle.mdv_survey.specs.declared.replica.Finds.{Finds}
use Rattle.mdv_survey.specs.declared.replica.Other.{Other}
use Rattle.mdv_survey.specs.declared.replica.Replica.{Replica}

-- one other place more
abbrev pub with_other : Finds → Other → Finds
with_other finds other = record finds { others = finds.others ++ other ∷ [] }

pub added_is : (old new : Finds) (one other : Other) → new ≡ with_other old one → one ≡ other → new ≡ with_other old other
added_is old new one other is same = is ∙ ap (with_other old) same

module _ (g : Geometry) (site : Site) (content : Contents) (answers : DriveNo → Bool) (lines : List SliceLine) (line : SliceLine) where
  abbrev Comes : SliceLine → ℕ → PlaceAt → Type 0
  Comes l k at = ComesTo g site l k (content l.at.drive.0) at

  -- of a slice whose drive doesn't pass the test nothing is said
  pub told_unanswered : (finds : Finds) → (answers line.at.drive ≡ true → ⊥) → AreTold g site answers lines line 0 content finds → AreTold g site answers (lines ++ line ∷ []) line 0 content finds
  told_unanswered finds never told = record { each = told.each; all = all }
    where
      all : (l : SliceLine) (k : ℕ) (at : PlaceAt) → Contains site.lines l → answers l.at.drive ≡ true → IsPassed (lines ++ line ∷ []) line 0 l k → Comes l k at → IsNumberTold finds.replicas finds.others l k
      all l k at one answered (inr (same, less)) comes = absurd (omega (arith, less))
      all l k at one answered (inl has) comes = elim (Contains-push_cases lines line l has) [
        | inl earlier ↦ told.all l k at one answered (inl earlier) comes
        | inr same ↦ absurd (never (subst (λ (x : SliceLine). answers x.at.drive ≡ true) (sym same) answered))
      ]

  -- fewer drives pass
  pub told_narrower : (fewer : DriveNo → Bool) (finds : Finds) → ((drive : DriveNo) → fewer drive ≡ true → answers drive ≡ true) → AreTold g site answers lines line 0 content finds → AreTold g site fewer lines line 0 content finds
  told_narrower fewer finds within told = record { each = told.each; all = λ l k at one answered passed comes. told.all l k at one (within l.at.drive answered) passed comes }

  -- less is said of the slice
  pub told_fewer : (number : ℕ) (other : SliceLine) (finds : Finds) → AreTold g site answers lines line number content finds → AreTold g site answers lines other 0 content finds
  told_fewer number other finds told = record { each = told.each; all = λ l k at one answered passed comes. told.all l k at one answered (fewer l k passed) comes }
    where
      fewer : (l : SliceLine) (k : ℕ) → IsPassed lines other 0 l k → IsPassed lines line number l k
      fewer l k (inl earlier) = inl earlier
      fewer l k (inr (same, less)) = absurd (omega (arith, less))

  module _ (number : ℕ) where
    -- the slice has no place from this number on
    pub told_end : (finds : Finds) → ((k : ℕ) (at : PlaceAt) → number ≤ k → Comes line k at → ⊥) → AreTold g site answers lines line number content finds → AreTold g site answers (lines ++ line ∷ []) line 0 content finds
    told_end finds none told = record { each = told.each; all = all }
      where
        all : (l : SliceLine) (k : ℕ) (at : PlaceAt) → Contains site.lines l → answers l.at.drive ≡ true → IsPassed (lines ++ line ∷ []) line 0 l k → Comes l k at → IsNumberTold finds.replicas finds.others l k
        all l k at one answered (inr (same, less)) comes = absurd (omega (arith, less))
        all l k at one answered (inl has) comes = elim (Contains-push_cases lines line l has) [
          | inl earlier ↦ told.all l k at one answered (inl earlier) comes
          | inr same ↦ elim (cases_lt k number) [
            | inl before ↦ told.all l k at one answered (inr (sym same, before)) comes
            | inr from ↦ absurd (none k at from (subst (λ (x : SliceLine). Comes x k at) (sym same) comes))
          ]
        ]

    -- what was told of is so, and this number too
    told_next : (old new : Finds) → ((r : Replica) → Contains old.replicas r → Contains new.replicas r) → ((o : Other) → Contains old.others o → Contains new.others o) → ((o : Other) → Contains new.others o → IsOtherIn g site content o)
        → IsNumberTold new.replicas new.others line number → AreTold g site answers lines line number content old → AreTold g site answers lines line (number + 1) content new
    told_next old new replicas others each here told = record { each = each; all = all }
      where
        kept : (l : SliceLine) (k : ℕ) → IsNumberTold old.replicas old.others l k → IsNumberTold new.replicas new.others l k
        kept l k (inl (r, has, same, numbered)) = inl (r, replicas r has, same, numbered)
        kept l k (inr (o, has, same, numbered)) = inr (o, others o has, same, numbered)

        all : (l : SliceLine) (k : ℕ) (at : PlaceAt) → Contains site.lines l → answers l.at.drive ≡ true → IsPassed lines line (number + 1) l k → Comes l k at → IsNumberTold new.replicas new.others l k
        all l k at one answered (inl earlier) comes = kept l k (told.all l k at one answered (inl earlier) comes)
        all l k at one answered (inr (same, less)) comes = elim (cases_lt k number) [
          | inl before ↦ kept l k (told.all l k at one answered (inr (same, before)) comes)
          | inr most ↦
              let equal : number ≡ k = omega (arith, less, most) in
              subst (λ (x : SliceLine). IsNumberTold new.replicas new.others x k) (sym same) (subst (IsNumberTold new.replicas new.others line) equal here)
        ]

    -- a replica more
    pub told_replica : (old new : Finds) (r : Replica) → r.line ≡ line → r.number ≡ number → new.replicas ≡ old.replicas ++ r ∷ [] → new.others ≡ old.others
        → AreTold g site answers lines line number content old → AreTold g site answers lines line (number + 1) content new
    told_replica old new r here numbered more same told = told_next old new
        (λ x has. subst (λ (rs : List Replica). Contains rs x) (sym more) (Contains-append_left old.replicas (r ∷ []) x has))
        (λ o has. subst (λ (os : List Other). Contains os o) (sym same) has)
        (λ o has. told.each o (subst (λ (os : List Other). Contains os o) same has))
        (inl (r, subst (λ (rs : List Replica). Contains rs r) (sym more) (Contains-push old.replicas r), here, numbered)) told

    -- another place more
    pub told_other : (old new : Finds) (o : Other) → IsOtherIn g site content o → o.line ≡ line → o.number ≡ number → new.replicas ≡ old.replicas → new.others ≡ old.others ++ o ∷ []
        → AreTold g site answers lines line number content old → AreTold g site answers lines line (number + 1) content new
    told_other old new o is here numbered same more told = told_next old new
        (λ x has. subst (λ (rs : List Replica). Contains rs x) (sym same) has)
        (λ x has. subst (λ (os : List Other). Contains os x) (sym more) (Contains-append_left old.others (o ∷ []) x has))
        (λ x has. elim (Contains-push_cases old.others o x (subst (λ (os : List Other). Contains os x) more has)) [
          | inl before ↦ told.each x before
          | inr equal ↦ subst (IsOtherIn g site content) equal is
        ])
        (inr (o, subst (λ (os : List Other). Contains os o) (sym more) (Contains-push old.others o), here, numbered)) told
