-- Slices of which none is in use and none overlaps one in front of it, one part behind another.
use Rattle.std.proofs.Common.{◌≡◌, ◌<◌, ◌≤◌, ◌+◌, ℕ, Bool, true, false, refl, sym, ◌∙◌, ap, subst, List, [], ◌∷◌, ◌++◌, append_assoc, length, get_or, take, drop}
use Rattle.std.proofs.lemmas.Bool.{false≢true}
use Rattle.std.proofs.lemmas.List.{append-nil, take_all, take_more, take-append-drop}
use Rattle.std.proofs.lemmas.List.Concat.{flat_map-append}
use Rattle.std.specs.Prelude.{flat_map, not, ◌↔◌}
use Rattle.mdv_config.specs.Below.{SliceName, SliceLine}
use Rattle.mdv_config.specs.Lists.{AreFree, IsInUse}
use Rattle.mdv_config.specs.Marks.{IsMarked, Takes, TakesAmong}

module _ (lines : List SliceLine) where
  pub free_append : (uses xs ys : List SliceName) → AreFree lines uses xs → AreFree lines (uses ++ xs) ys → AreFree lines uses (xs ++ ys)
  free_append uses [] ys first second = subst (λ (us : List SliceName). AreFree lines us ys) (append-nil uses) second
  free_append uses (x ∷ xs) ys first second =
      let moved = subst (λ (us : List SliceName). AreFree lines us ys) (sym (append_assoc uses (x ∷ []) xs)) second in
      (first.0, free_append (uses ++ x ∷ []) xs ys first.1 moved)

  pub free_front : (uses xs ys : List SliceName) → AreFree lines uses (xs ++ ys) → AreFree lines uses xs
  free_front uses [] ys free = tt
  free_front uses (x ∷ xs) ys free = (free.0, free_front (uses ++ x ∷ []) xs ys free.1)

  pub free_behind : (uses xs ys : List SliceName) → AreFree lines uses (xs ++ ys) → AreFree lines (uses ++ xs) ys
  free_behind uses [] ys free = subst (λ (us : List SliceName). AreFree lines us ys) (sym (append-nil uses)) free
  free_behind uses (x ∷ xs) ys free = subst (λ (us : List SliceName). AreFree lines us ys) (append_assoc uses (x ∷ []) xs) (free_behind (uses ++ x ∷ []) xs ys free.1)

-- the slices are free, and marked beside those in use
pub record Taken (lines : List SliceLine) (uses names : List SliceName) (marks : List Bool) : Type 0 where
  pub free : AreFree lines uses names
  pub marked : IsMarked lines marks (uses ++ names)

pub taken_none : (lines : List SliceLine) (uses : List SliceName) (marks : List Bool) → IsMarked lines marks uses → Taken lines uses [] marks
taken_none lines uses marks is = record { free = tt; marked = subst (IsMarked lines marks) (sym (append-nil uses)) is }

module _ {X : Type 0} (f : X → List SliceName) (xs : List X) (i : ℕ) (d : X) (within : i < length xs) where
  flat_more : flat_map f (take (i + 1) xs) ≡ flat_map f (take i xs) ++ f (get_or xs i d)
  flat_more =
      let x = get_or xs i d in
      ap (flat_map f) (take_more xs i d within) ∙ flat_map-append f (take i xs) (x ∷ []) ∙ ap (λ (l : List SliceName). flat_map f (take i xs) ++ l) (append-nil (f x))

  flat_parts : flat_map f xs ≡ (flat_map f (take i xs) ++ f (get_or xs i d)) ++ flat_map f (drop (i + 1) xs)
  flat_parts =
      let rest = flat_map f (drop (i + 1) xs) in
      ap (flat_map f) (sym (take-append-drop (i + 1) xs)) ∙ flat_map-append f (take (i + 1) xs) (drop (i + 1) xs) ∙ ap (λ (l : List SliceName). l ++ rest) flat_more

  module _ (lines : List SliceLine) (uses : List SliceName) (marks new : List Bool) (was : Taken lines uses (flat_map f (take i xs)) marks) where
    -- one part more
    pub taken_more : (told : Bool) → told ≡ true → Takes lines (f (get_or xs i d)) marks told new → Taken lines uses (flat_map f (take (i + 1) xs)) new
    taken_more told is takes =
        let front = flat_map f (take i xs) in
        let x = get_or xs i d in
        let among = takes (uses ++ front) was.marked in
        let place : (uses ++ front) ++ f x ≡ uses ++ flat_map f (take (i + 1) xs) = append_assoc uses front (f x) ∙ ap (λ (l : List SliceName). uses ++ l) (sym flat_more) in
        record {
          free = subst (AreFree lines uses) (sym flat_more) (free_append lines uses front (f x) was.free (among.free.0 is));
          marked = subst (IsMarked lines new) place (among.marked is);
        }

    -- a part that isn't free
    pub never_taken : (told : Bool) → told ≡ false → Takes lines (f (get_or xs i d)) marks told new → TakesAmong lines uses (flat_map f xs) false new
    never_taken told none takes =
        let front = flat_map f (take i xs) in
        let x = get_or xs i d in
        let among = takes (uses ++ front) was.marked in
        record {
          free = (
            λ is. absurd (false≢true is),
            λ free.
                let parts = subst (AreFree lines uses) flat_parts free in
                sym none ∙ among.free.1 (free_behind lines uses front (f x) (free_front lines uses (front ++ f x) (flat_map f (drop (i + 1) xs)) parts)),
          );
          marked = λ is. absurd (false≢true is);
        }

-- all parts
pub taken_all : {X : Type 0} (f : X → List SliceName) (xs : List X) (i : ℕ) (lines : List SliceLine) (uses : List SliceName) (marks : List Bool) → length xs ≤ i → Taken lines uses (flat_map f (take i xs)) marks → TakesAmong lines uses (flat_map f xs) true marks
taken_all f xs i lines uses marks end was =
    let all : flat_map f (take i xs) ≡ flat_map f xs = ap (flat_map f) (take_all i xs end) in
    record {
      free = (λ is. subst (AreFree lines uses) all was.free, λ free. refl);
      marked = λ is. subst (λ (l : List SliceName). IsMarked lines marks (uses ++ l)) all was.marked;
    }

-- one slice, which is marked
pub taken_one : (lines : List SliceLine) (name : SliceName) (uses : List SliceName) (used : Bool) (marks : List Bool) → used ≡ true ↔ IsInUse lines uses name → IsMarked lines marks (uses ++ name ∷ []) → TakesAmong lines uses (name ∷ []) (not used) marks
taken_one lines name uses true marks test is = record {
  free = (λ told. absurd (false≢true told), λ free. absurd (free.0 (test.0 refl)));
  marked = λ told. is;
}
taken_one lines name uses false marks test is = record {
  free = (λ told. ((λ it. false≢true (test.1 it)), tt), λ free. refl);
  marked = λ told. is;
}

-- no slices
pub takes_none : (lines : List SliceLine) (marks : List Bool) → Takes lines [] marks true marks
takes_none lines marks uses is = record { free = (λ told. tt, λ free. refl); marked = λ told. subst (IsMarked lines marks) (sym (append-nil uses)) is }
