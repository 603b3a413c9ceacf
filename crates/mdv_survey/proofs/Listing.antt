-- The list of the replicas while a look goes on.
use Rattle.std.proofs.Common.{◌≡◌, ◌⊎◌, inl, inr, ℕ, ◌+◌, true, List, [], ◌∷◌, ◌++◌, sym, ◌∙◌, ap, subst, arith}
use Rattle.std.specs.Prelude.{Contains}
use Rattle.std.proofs.lemmas.List.Elements.{All-nil, All-push, Contains-append_left, Contains-append_right, Contains-push, Contains-push_cases}
use Rattle.mdv_survey.specs.Below.{Drives, Site, SliceLine, has_drive}
use Rattle.mdv_survey.specs.Newest.{IsMarked}
use Rattle.mdv_survey.specs.Replica.{AreOrdered, IsListed, Precedes}
use Rattle.mdv_survey.specs.Slice.{AreListed, WasLookedAt}
use Rattle.mdv_survey.specs.declared.replica.Finds.{Finds}
use Rattle.mdv_survey.specs.declared.replica.Other.{Other}
use Rattle.mdv_survey.specs.declared.replica.Replica.{Replica}
use Rattle.mdv_survey.proofs.Told.{with_other}

ordered_more : (lines : List SliceLine) (rs : List Replica) (r : Replica) → AreOrdered lines rs → ((a : Replica) → Contains rs a → Precedes lines a r) → AreOrdered lines (rs ++ r ∷ [])
ordered_more lines [] r ordered each = (All-nil (Precedes lines r), tt)
ordered_more lines (x ∷ rs) r ordered each = (
  All-push (Precedes lines x) rs r ordered.0 (each x (Contains-append_left (x ∷ []) rs x (Contains-push [] x))),
  ordered_more lines rs r ordered.1 (λ a has. each a (Contains-append_right (x ∷ []) rs a has)),
)

-- what was looked at comes before what is looked at next
precedes : (all lines rest : List SliceLine) (line : SliceLine) (number : ℕ) → all ≡ lines ++ line ∷ rest → (a r : Replica) → r.line ≡ line → r.number ≡ number → WasLookedAt lines line number a → Precedes all a r
precedes all lines rest line number split a r here numbered (inl earlier) = inl (record {
  before = lines;
  behind = line ∷ rest;
  all = split;
  earlier = earlier;
  later = subst (λ (l : SliceLine). Contains (line ∷ rest) l) (sym here) (Contains-append_left (line ∷ []) rest line (Contains-push [] line));
})
precedes all lines rest line number split a r here numbered (inr (same, less)) = inr (same ∙ sym here, omega (arith, less, numbered))

looked_more : (lines : List SliceLine) (line : SliceLine) (number : ℕ) (a : Replica) → WasLookedAt lines line number a → WasLookedAt lines line (number + 1) a
looked_more lines line number a (inl earlier) = inl earlier
looked_more lines line number a (inr (same, less)) = inr (same, omega (arith, less))

pub looked_end : (lines : List SliceLine) (line other : SliceLine) (number : ℕ) (a : Replica) → WasLookedAt lines line number a → WasLookedAt (lines ++ line ∷ []) other 0 a
looked_end lines line other number a (inl earlier) = inl (Contains-append_left lines (line ∷ []) a.line earlier)
looked_end lines line other number a (inr (same, less)) = inl (Contains-append_right lines (line ∷ []) a.line (subst (λ (l : SliceLine). Contains (line ∷ []) l) (sym same) (Contains-push [] line)))

pub looked_line : (lines : List SliceLine) (line other : SliceLine) (a : Replica) → WasLookedAt lines line 0 a → WasLookedAt lines other 0 a
looked_line lines line other a (inl earlier) = inl earlier
looked_line lines line other a (inr (same, less)) = absurd (omega (arith, less))

module _ (site : Site) (up : Drives) (lines : List SliceLine) (line : SliceLine) (number : ℕ) where
  -- a replica more
  pub listed_more : (rest : List SliceLine) → site.lines ≡ lines ++ line ∷ rest → (old new : Finds) (r : Replica) → IsListed site up r → r.line ≡ line → r.number ≡ number
      → new.replicas ≡ old.replicas ++ r ∷ [] → new.others ≡ old.others → (IsMarked old.replicas old.newest → IsMarked new.replicas new.newest) → AreListed site up lines line number old → AreListed site up lines line (number + 1) new
  listed_more rest split old new r is here numbered more others marked listed = record {
    each = λ x has. elim (cases x has) [
      | inl before ↦ listed.each x before
      | inr same ↦ subst (λ (y : Replica). IsListed site up y) same is
    ];
    looked_at = λ x has. elim (cases x has) [
      | inl before ↦ looked_more lines line number x (listed.looked_at x before)
      | inr same ↦ inr (ap (λ (y : Replica). y.line) (sym same) ∙ here, (let as_number : x.number ≡ number = ap (λ (y : Replica). y.number) (sym same) ∙ numbered in omega (arith, as_number)))
    ];
    ordered = subst (AreOrdered site.lines) (sym more)
        (ordered_more site.lines old.replicas r listed.ordered (λ a has. precedes site.lines lines rest line number split a r here numbered (listed.looked_at a has)));
    marked = marked listed.marked;
    others_on = λ o has. listed.others_on o (subst (λ (os : List Other). Contains os o) others has);
  }
    where
      cases : (x : Replica) → Contains new.replicas x → Contains old.replicas x ⊎ (r ≡ x)
      cases x has = Contains-push_cases old.replicas r x (subst (λ (rs : List Replica). Contains rs x) more has)

  -- another place more
  pub listed_other : (rest : List SliceLine) → site.lines ≡ lines ++ line ∷ rest → has_drive up line.at.drive ≡ true → (old : Finds) (o : Other) → o.line ≡ line
      → AreListed site up lines line number old → AreListed site up lines line (number + 1) (with_other old o)
  listed_other rest split is_up old o here listed = record {
    each = listed.each;
    looked_at = λ x has. looked_more lines line number x (listed.looked_at x has);
    ordered = listed.ordered;
    marked = listed.marked;
    others_on = λ x has. elim (Contains-push_cases old.others o x has) [
      | inl before ↦ listed.others_on x before
      | inr same ↦ subst (λ (y : Other). Contains site.lines y.line × (has_drive up y.line.at.drive ≡ true)) same
          (subst (λ (l : SliceLine). Contains site.lines l × (has_drive up l.at.drive ≡ true)) (sym here) (one_of, is_up))
    ];
  }
    where
      one_of : Contains site.lines line
      one_of = subst (λ (ls : List SliceLine). Contains ls line) (sym split) (Contains-append_right lines (line ∷ rest) line (Contains-append_left (line ∷ []) rest line (Contains-push [] line)))

  -- none more
  pub listed_skip : (finds : Finds) → AreListed site up lines line number finds → AreListed site up lines line (number + 1) finds
  listed_skip finds listed = record {
    each = listed.each;
    looked_at = λ x has. looked_more lines line number x (listed.looked_at x has);
    ordered = listed.ordered;
    marked = listed.marked;
    others_on = listed.others_on;
  }

  -- the slice is done
  pub listed_end : (finds : Finds) → AreListed site up lines line number finds → AreListed site up (lines ++ line ∷ []) line 0 finds
  listed_end finds listed = record {
    each = listed.each;
    looked_at = λ x has. looked_end lines line line number x (listed.looked_at x has);
    ordered = listed.ordered;
    marked = listed.marked;
    others_on = listed.others_on;
  }

pub listed_line : (site : Site) (up : Drives) (lines : List SliceLine) (line other : SliceLine) (finds : Finds) → AreListed site up lines line 0 finds → AreListed site up lines other 0 finds
listed_line site up lines line other finds listed = record {
  each = listed.each;
  looked_at = λ x has. looked_line lines line other x (listed.looked_at x has);
  ordered = listed.ordered;
  marked = listed.marked;
  others_on = listed.others_on;
}
