-- The places of both lists, and those that the one has of the other.
use Rattle.std.proofs.Common.{◌≡◌, ◌⊎◌, inl, inr, Bool, true, false, cond, List, [], ◌∷◌, ◌++◌, filter, Contains, refl, sym, ◌∙◌, ap, subst, append-nil, arith}
use Rattle.std.specs.Prelude.{not}
use Rattle.std.specs.List.{list_any}
use Rattle.mdv_acts.proofs.Members.{contains_behind, contains_first, first_or_behind}
use Rattle.mdv_config.proofs.Beside.{among-true}
use Rattle.mdv_config.proofs.Deciding.{not_so}
use Rattle.mdv_places.specs.Below.{Place, beside, same_place}

-- where all pass the test, and where none does
module _ {X : Type 0} (test : X → Bool) where
  pub all_kept : (xs : List X) → ((x : X) → Contains xs x → test x ≡ true) → filter test xs ≡ xs
  all_kept [] each = refl
  all_kept (x ∷ xs) each =
      ap (λ (c : Bool). cond c (x ∷ filter test xs) (filter test xs)) (each x (contains_first x xs)) ∙ ap (λ (l : List X). x ∷ l) (all_kept xs (λ y has. each y (contains_behind x y xs has)))

  pub none_kept : (xs : List X) → ((x : X) → Contains xs x → test x ≡ false) → filter test xs ≡ []
  none_kept [] each = refl
  none_kept (x ∷ xs) each = ap (λ (c : Bool). cond c (x ∷ filter test xs) (filter test xs)) (each x (contains_first x xs)) ∙ none_kept xs (λ y has. each y (contains_behind x y xs has))

  pub kept_append : (xs ys : List X) → filter test (xs ++ ys) ≡ filter test xs ++ filter test ys
  kept_append [] ys = refl
  kept_append (x ∷ xs) ys = by (test x) (kept_append xs ys) where
    by : (b : Bool) → filter test (xs ++ ys) ≡ filter test xs ++ filter test ys → cond b (x ∷ filter test (xs ++ ys)) (filter test (xs ++ ys)) ≡ cond b (x ∷ filter test xs) (filter test xs) ++ filter test ys
    by true rest = ap (λ (l : List X). x ∷ l) rest
    by false rest = rest

  pub passes : (xs : List X) (x : X) → Contains (filter test xs) x → Contains xs x × (test x ≡ true)
  passes [] x has = absurd (omega (arith, has.1))
  passes (y ∷ ys) x has = by (test y) refl has (passes ys x) where
    by : (b : Bool) → test y ≡ b → Contains (cond b (y ∷ filter test ys) (filter test ys)) x → (Contains (filter test ys) x → Contains ys x × (test x ≡ true)) → Contains (y ∷ ys) x × (test x ≡ true)
    by true is in_it rest = elim (first_or_behind y x (filter test ys) in_it) [
      | inl here ↦ (subst (Contains (y ∷ ys)) here (contains_first y ys), subst (λ (z : X). test z ≡ true) here is)
      | inr behind ↦ (let one = rest behind in (contains_behind y x ys one.0, one.1))
    ]
    by false is in_it rest = (let one = rest in_it in (contains_behind y x ys one.0, one.1))

  pub keeps : (xs : List X) (x : X) → Contains xs x → test x ≡ true → Contains (filter test xs) x
  keeps [] x has is = has
  keeps (y ∷ ys) x has is = by (test y) refl (first_or_behind y x ys has) (λ behind. keeps ys x behind is) where
    by : (b : Bool) → test y ≡ b → (y ≡ x) ⊎ Contains ys x → (Contains ys x → Contains (filter test ys) x) → Contains (cond b (y ∷ filter test ys) (filter test ys)) x
    by true is_so (inl here) rest = subst (Contains (y ∷ filter test ys)) here (contains_first y (filter test ys))
    by true is_so (inr behind) rest = contains_behind y x (filter test ys) (rest behind)
    by false fails (inl here) rest = absurd (let both = sym fails ∙ ap test here ∙ is in cc (both))
    by false fails (inr behind) rest = rest behind

abbrev pub lacks : List Place → Place → Bool
lacks old p = not (list_any (same_place p) old)

abbrev pub has_in : List Place → Place → Bool
has_in list p = list_any (same_place p) list

module _ (l : List Place) where
  pub none_beside : (sub : List Place) → ((p : Place) → Contains sub p → Contains l p) → beside l sub ≡ []
  none_beside sub within = none_kept (lacks l) sub (λ p has. ap not ((among-true l p).1 (within p has)))

  pub all_beside : (more : List Place) → ((p : Place) → Contains more p → Contains l p → ⊥) → beside l more ≡ more
  all_beside more out = all_kept (lacks l) more (λ p has. ap not (not_so (list_any (same_place p) l) (among-true l p) (out p has)))

  -- both lists, where the new one has more
  pub both_more : (more : List Place) → ((p : Place) → Contains more p → Contains l p → ⊥) → l ++ beside l (l ++ more) ≡ l ++ more
  both_more more out = ap (λ (ps : List Place). l ++ ps) (kept_append (lacks l) l more ∙ ap (λ (ps : List Place). ps ++ beside l more) (none_beside l (λ p has. has)) ∙ all_beside more out)

  -- or is a part of it
  pub both_less : (sub : List Place) → ((p : Place) → Contains sub p → Contains l p) → l ++ beside l sub ≡ l
  both_less sub within = ap (λ (ps : List Place). l ++ ps) (none_beside sub within) ∙ append-nil l

-- those of a list that it has itself
pub kept_self : (l : List Place) → filter (has_in l) l ≡ l
kept_self l = all_kept (has_in l) l (λ p has. (among-true l p).1 has)

-- those that pass a test are those that the list of these has
module _ (test : Place → Bool) (l : List Place) where
  known : (b : Bool) (p : Place) → test p ≡ b → Contains l p → has_in (filter test l) p ≡ b
  known true p is has = (among-true (filter test l) p).1 (keeps test l p has is)
  known false p is has = not_so (has_in (filter test l) p) (among-true (filter test l) p) (λ there. (let one = (passes test l p there).1 in let both = sym is ∙ one in absurd (cc (both))))

  same_kept : (xs : List Place) → ((p : Place) → Contains xs p → has_in (filter test l) p ≡ test p) → filter (has_in (filter test l)) xs ≡ filter test xs
  same_kept [] each = refl
  same_kept (x ∷ xs) each =
      ap (λ (b : Bool). cond b (x ∷ filter (has_in (filter test l)) xs) (filter (has_in (filter test l)) xs)) (each x (contains_first x xs))
      ∙ ap (λ (ps : List Place). cond (test x) (x ∷ ps) ps) (same_kept xs (λ p has. each p (contains_behind x p xs has)))

  pub kept_passing : filter (has_in (filter test l)) l ≡ filter test l
  kept_passing = same_kept l (λ p has. known (test p) p refl has)
