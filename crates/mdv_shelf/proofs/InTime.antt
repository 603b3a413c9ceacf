-- Stretches of a story in which no call is made behind one that failed, one after another.
use Rattle.std.proofs.Common.{◌≡◌, ◌≢◌, ◌⊎◌, inl, inr, ℕ, List, [], ◌∷◌, ◌++◌, Option, Some, refl, sym, ◌∙◌, ap, subst}
use Rattle.std.proofs.lemmas.Bool.{cases_eq}
use Rattle.mdv_shelf.specs.Tale.{Call}
use Rattle.mdv_shelf.specs.Calls.{Part, OnDrive, OnReplies}
use Rattle.mdv_shelf.specs.Made.{tally_of}
use Rattle.mdv_shelf.specs.Story.{Tally, Story, Mark, marked, and_next, part_of, IsNoted, AreMadeAt, InTime}
use Rattle.mdv_shelf.specs.Shelves.{Keeps, Kept, KeptInTime, KeptOn}
use Rattle.mdv_shelf.specs.declared.shelf.Shelf.{Ghosts}
use Rattle.mdv_shelf.proofs.Stories.{marked_more}
use Rattle.mdv_shelf.proofs.Noted.{goes_on_call, goes_on_more, keeps_more}

made_more : (part : Part) (count : ℕ) (xs ys : List Mark) → AreMadeAt part count xs → AreMadeAt part count ys → AreMadeAt part count (ys ++ xs)
made_more part count xs [] first second = first
made_more part count xs (m ∷ ys) first second = (made_more part count xs ys first second.0, second.1)

-- no call
pub in_time_none : (part : Part) (count : ℕ) (a b : Option Story) → b ≡ a → InTime part count a b
in_time_none part count a b same s is = ([], same ∙ is, tt)

-- one call
in_time_one : (part : Part) (count : ℕ) (a b : Option Story) (c : Call) (tally : Tally) → b ≡ and_next a c tally → (part_of c ≡ part → tally.faults part ≡ count) → InTime part count a b
in_time_one part count a b c tally next made s is = (record { call = c; tally = tally } ∷ [], next ∙ ap (λ (o : Option Story). and_next o c tally) is, (tt, made))

pub in_time_more : (part : Part) (count : ℕ) (a b c : Option Story) → InTime part count a b → InTime part count b c → InTime part count a c
in_time_more part count a b c first second s is =
    let one = first s is in
    let two = second (marked s one.0) one.1 in
    (two.0 ++ one.0, two.1 ∙ ap (λ (u : Story). Some u) (marked_more s one.0 two.0), made_more part count one.0 two.0 one.2 two.2)

module _ {S : Type 0} (shelf : Ghosts S) where
  in_time_call : (part : Part) (old new : S) → IsNoted shelf.story shelf.faults shelf.calls shelf.written part old new → InTime part (shelf.faults old part) (shelf.story old) (shelf.story new)
  in_time_call part old new (inl same) = in_time_none part (shelf.faults old part) (shelf.story old) (shelf.story new) same
  in_time_call part old new (inr (c, on, next)) = in_time_one part (shelf.faults old part) (shelf.story old) (shelf.story new) c (tally_of shelf old) next (λ e. refl)

  elsewhere_call : (part other : Part) (count : ℕ) (old new : S) → other ≢ part → IsNoted shelf.story shelf.faults shelf.calls shelf.written part old new → InTime other count (shelf.story old) (shelf.story new)
  elsewhere_call part other count old new differs (inl same) = in_time_none other count (shelf.story old) (shelf.story new) same
  elsewhere_call part other count old new differs (inr (c, on, next)) = in_time_one other count (shelf.story old) (shelf.story new) c (tally_of shelf old) next (λ e. absurd (differs (sym e ∙ on)))

  -- one call on a part
  pub kept_on_call : (part : Part) (old new : S) → IsNoted shelf.story shelf.faults shelf.calls shelf.written part old new → Keeps shelf old new
      → ((other : Part) → other ≢ part → shelf.faults new other ≡ shelf.faults old other) → KeptOn shelf old new part
  kept_on_call part old new noted keeps others = record {
    keeps = keeps;
    goes = goes_on_call shelf part old new noted keeps;
    in_time = in_time_call part old new noted;
    others = others;
    elsewhere = λ other differs count. elsewhere_call part other count old new differs noted;
  }

-- one stretch on a part after another in which no call on it failed
pub kept_on_more : {S : Type 0} {shelf : Ghosts S} {a b c : S} {part : Part} → shelf.faults b part ≡ shelf.faults a part → KeptOn shelf a b part → KeptOn shelf b c part → KeptOn shelf a c part
kept_on_more {S} {shelf} {a} {b} {c} {part} calm first second = record {
  keeps = keeps_more shelf a b c first.keeps second.keeps;
  goes = goes_on_more shelf a b c first.goes second.goes;
  in_time = in_time_more part (shelf.faults a part) (shelf.story a) (shelf.story b) (shelf.story c) first.in_time
      (subst (λ (n : ℕ). InTime part n (shelf.story b) (shelf.story c)) calm second.in_time);
  others = λ other differs. second.others other differs ∙ first.others other differs;
  elsewhere = λ other differs count. in_time_more other count (shelf.story a) (shelf.story b) (shelf.story c) (first.elsewhere other differs count) (second.elsewhere other differs count);
}

-- a stretch on a part, whatever came of it
pub kept_of_on : {S : Type 0} {shelf : Ghosts S} {a b : S} {part : Part} → KeptOn shelf a b part → Kept shelf a b
kept_of_on {S} {shelf} {a} {b} {part} on = record { keeps = on.keeps; goes = on.goes }

-- two parts are one or differ
pub is_part : (p q : Part) → (p ≡ q) ⊎ (p ≢ q)
is_part OnReplies OnReplies = inl refl
is_part OnReplies (OnDrive j) = inr (λ e. cc)
is_part (OnDrive i) OnReplies = inr (λ e. cc)
is_part (OnDrive i) (OnDrive j) = elim (cases_eq i j) [ inl same ↦ inl (ap OnDrive same) | inr other ↦ inr (λ e. other (cc)) ]

module _ {S : Type 0} (shelf : Ghosts S) where
  in_time_all : (a b : S) (part : Part) → KeptOn shelf a b part → (other : Part) → (other ≡ part) ⊎ (other ≢ part) → InTime other (shelf.faults a other) (shelf.story a) (shelf.story b)
  in_time_all a b part on other (inl same) = subst (λ (p : Part). InTime p (shelf.faults a p) (shelf.story a) (shelf.story b)) (sym same) on.in_time
  in_time_all a b part on other (inr differs) = on.elsewhere other differs (shelf.faults a other)

  -- a stretch on a part stops at a failure
  pub in_time_of_on : (a b : S) (part : Part) → KeptOn shelf a b part → KeptInTime shelf a b
  in_time_of_on a b part on = record { keeps = on.keeps; goes = on.goes; in_time = λ other. in_time_all a b part on other (is_part other part) }

  -- stretches on two parts, one after the other
  both_all : (a b c : S) (one two : Part) → one ≢ two → KeptOn shelf a b one → KeptOn shelf b c two → (other : Part) → (other ≡ one) ⊎ (other ≢ one) → InTime other (shelf.faults a other) (shelf.story a) (shelf.story c)
  both_all a b c one two apart first second other (inl same) =
      subst (λ (p : Part). InTime p (shelf.faults a p) (shelf.story a) (shelf.story c)) (sym same)
      (in_time_more one (shelf.faults a one) (shelf.story a) (shelf.story b) (shelf.story c) first.in_time (second.elsewhere one apart (shelf.faults a one)))
  both_all a b c one two apart first second other (inr differs) =
      let behind = in_time_all b c two second other (is_part other two) in
      in_time_more other (shelf.faults a other) (shelf.story a) (shelf.story b) (shelf.story c) (first.elsewhere other differs (shelf.faults a other))
      (subst (λ (n : ℕ). InTime other n (shelf.story b) (shelf.story c)) (first.others other differs) behind)

-- calls on one part, and then calls on another
pub in_time_both : {S : Type 0} {shelf : Ghosts S} {a b c : S} {one two : Part} → one ≢ two → KeptOn shelf a b one → KeptOn shelf b c two → KeptInTime shelf a c
in_time_both {S} {shelf} {a} {b} {c} {one} {two} apart first second = record {
  keeps = keeps_more shelf a b c first.keeps second.keeps;
  goes = goes_on_more shelf a b c first.goes second.goes;
  in_time = λ other. both_all shelf a b c one two apart first second other (is_part other one);
}
