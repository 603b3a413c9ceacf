-- The letters of listed places, as lists.
use Rattle.std.proofs.Common.{◌≡◌, ◌⊎◌, ◌∙◌, ◌+◌, ◌<◌, ◌≤◌, ◌||◌, ◌++◌, ◌↔◌, ℕ, suc, Bool, true, false, cond, List, [], ◌∷◌, Option, None, Some, Contains, length, map, drop, slice_index_or, refl, sym, ap, subst, inl, inr, drop-cons, append_assoc, append-nil, arith}
use Rattle.std.specs.List.{find}
use Rattle.std.specs.Prelude.{IsSome, MatchOption}
use Rattle.std.proofs.lemmas.List.{drop_all}
use Rattle.mdv_base.specs.declared.flags.Flags.{Flags}
use Rattle.mdv_survey.specs.declared.replica.Newest.{Newest}
use Rattle.mdv_survey.specs.declared.replica.Survey.{Survey}
use Rattle.mdv_config.specs.Lists.{same_place}
use Rattle.mdv_config.proofs.Testing.{same_place-true}
use Rattle.mdv_store.specs.Below.{Drives, Failures, Place, Site, Table, last_of, places_of, record_bytes}
use Rattle.mdv_store.specs.Boot.{IfAdopted, IsAdopted, IsEndBy, is_memory}
use Rattle.mdv_store.specs.Letters.{AreLettersOf, AreRead, flags_at, flags_by, is_lettered_at, is_seat_at, letters_from, places_seen, seen_at}
use Rattle.mdv_store.specs.Progress.{Progress}
use Rattle.mdv_store.specs.Opened.{Opened}
use Rattle.mdv_store.specs.Text.{blocks_for}
use Rattle.mdv_store.specs.declared.booting.BootEnd.{BootEnd}
use Rattle.mdv_store.specs.declared.booting.BootEnd.TheVariants as end
use Rattle.mdv_store.specs.declared.booting.Hand.{Hand}
use Rattle.mdv_store.specs.declared.letters.Lettered.{Lettered}
use Rattle.mdv_store.specs.declared.seats.Seat.{Seat}
use Rattle.mdv_store.proofs.Sitting.{contains_behind, contains_first, first_or_behind}

module _ (seen : Bool → Place → Flags) (places : List Place) where
  -- with those of the places from that one on these are all
  pub record AreSoFar (i : ℕ) (was : Bool) (row : List Lettered) : Type 0 where
    pub all : row ++ letters_from seen was (drop i places) ≡ letters_from seen false places

  pub so_far_more : (i : ℕ) (d : Place) (was next : Bool) (row new : List Lettered) (one : Lettered) → i < length places → AreSoFar i was row
      → one ≡ record { place = slice_index_or places i d; flags = seen was (slice_index_or places i d) } → new ≡ row ++ one ∷ [] → next ≡ (was || one.flags.master) → AreSoFar (i + 1) next new
  so_far_more i d was next row new one within so is more then = record {
    all = ap (λ (l : List Lettered). l ++ letters_from seen next (drop (i + 1) places)) more
        ∙ append_assoc row (one ∷ []) (letters_from seen next (drop (i + 1) places))
        ∙ ap (λ (b : Bool). row ++ one ∷ letters_from seen b (drop (i + 1) places)) then
        ∙ ap (λ (x : Lettered). row ++ x ∷ letters_from seen (was || x.flags.master) (drop (i + 1) places)) is
        ∙ ap (λ (l : List Place). row ++ letters_from seen was l) (sym split)
        ∙ so.all;
  } where
    split : drop i places ≡ slice_index_or places i d ∷ drop (i + 1) places
    split = let e = drop-cons places i d within in let n : suc i ≡ i + 1 = omega arith in e ∙ ap (λ (k : ℕ). slice_index_or places i d ∷ drop k places) n

  pub so_far_all : (i : ℕ) (was : Bool) (row : List Lettered) → length places ≤ i → AreSoFar i was row → row ≡ letters_from seen false places
  so_far_all i was row all so = sym (append-nil row) ∙ ap (λ (l : List Place). row ++ letters_from seen was l) (sym (drop_all i places all)) ∙ so.all

-- they are of just these places
pub seen_places : (seen : Bool → Place → Flags) (was : Bool) (places : List Place) → places_seen (letters_from seen was places) ≡ places
seen_places seen was [] = refl
seen_places seen was (p ∷ ps) = ap (λ (l : List Place). p ∷ l) (seen_places seen (was || (seen was p).master) ps)

-- Two lists of one length with the same value at each place are the same.
pub same_lists : {X : Type 0} (xs ys : List X) → length xs ≡ length ys → ((k : ℕ) (d : X) → k < length xs → slice_index_or xs k d ≡ slice_index_or ys k d) → xs ≡ ys
same_lists [] [] long each = refl
same_lists [] (y ∷ ys) long each = absurd (omega (arith, long))
same_lists (x ∷ xs) [] long each = absurd (omega (arith, long))
same_lists (x ∷ xs) (y ∷ ys) long each =
    let first : x ≡ y = each 0 x (omega arith) in
    let rest = same_lists xs ys (omega (arith, long)) (λ k d below. each (suc k) d (omega (arith, below))) in
    λ i. first i ∷ rest i

-- A place is found where it is listed.
module _ {X : Type 0} (at : X → Place) (place : Place) where
  abbrev lies : X → Bool
  lies x = same_place (at x) place

  found_where : (xs : List X) → Contains (map at xs) place → IsSome (find lies xs)
  found_where [] has = absurd (omega (arith, has.1))
  found_where (x ∷ xs) has = by (lies x) refl (λ there. found_where xs there) where
    by : (b : Bool) → lies x ≡ b → (Contains (map at xs) place → IsSome (find lies xs)) → IsSome (cond b (Some x) (find lies xs))
    by true so rest = refl
    by false so rest = elim (first_or_behind (at x) place (map at xs) has) [
      | inl first ↦ absurd (cc (so, (same_place-true (at x) place).1 first))
      | inr there ↦ rest there
    ]

  listed_where : (xs : List X) → IsSome (find lies xs) → Contains (map at xs) place
  listed_where [] found = absurd (cc (found))
  listed_where (x ∷ xs) found = by (lies x) refl (λ there. listed_where xs there) found where
    by : (b : Bool) → lies x ≡ b → (IsSome (find lies xs) → Contains (map at xs) place) → IsSome (cond b (Some x) (find lies xs)) → Contains (map at (x ∷ xs)) place
    by true so rest found = subst (Contains (map at (x ∷ xs))) ((same_place-true (at x) place).0 so) (contains_first (at x) (map at xs))
    by false so rest found = contains_behind (at x) place (map at xs) (rest found)

with_seat : (seat : Option Seat) (seen : Option Lettered) → IsSome (flags_by seat seen) → IsSome seat
with_seat None seen told = absurd (cc (told))
with_seat (Some s) seen told = refl

with_both : (seat : Option Seat) (seen : Option Lettered) → IsSome seat → IsSome seen → IsSome (flags_by seat seen)
with_both None seen a b = absurd (cc (a))
with_both (Some s) None a b = absurd (cc (b))
with_both (Some s) (Some l) a b = refl

-- So it has letters where it is listed.
pub told_just_where : (place : Place) (seats : List Seat) (seen : List Lettered) (places : List Place) → map (λ (s : Seat). s.place) seats ≡ places → places_seen seen ≡ places → IsSome (flags_at seats seen place) ↔ Contains places place
told_just_where place seats seen places are of = (
  λ told. subst (λ (l : List Place). Contains l place) are (listed_where (λ (s : Seat). s.place) place seats (with_seat (find (is_seat_at place) seats) (find (is_lettered_at place) seen) told)),
  λ has. with_both (find (is_seat_at place) seats) (find (is_lettered_at place) seen)
      (found_where (λ (s : Seat). s.place) place seats (subst (λ (l : List Place). Contains l place) (sym are) has))
      (found_where (λ (l : Lettered). l.place) place seen (subst (λ (l : List Place). Contains l place) (sym of) has)),
)

-- What is adopted has letters of its listed places.
module _ (failed : ℕ → Failures) (Wrote : Hand → Table → Progress → Type 0) (site : Site) (survey : Survey) (calm : Drives) (letters : List Lettered) (are : AreLettersOf site survey calm letters) where
  of_adopted : (o : Opened) → IsAdopted failed Wrote site survey o → places_seen letters ≡ places_of o.table.plan.lists
  of_adopted o a =
      let read : AreRead site survey calm a.newest letters = subst (λ (n : Option Newest). MatchOption n (letters ≡ []) (λ newest. AreRead site survey calm newest letters)) a.drawn.hand.newest_is are in
      let seen = seen_at site survey calm read.replica.head.master.identity a.newest.mark (blocks_for (record_bytes a.newest.table)) in
      ap places_seen read.letters_are ∙ seen_places seen false (last_of a.newest.table.plan.lists) ∙ ap (λ (x : Opened). places_of x.table.plan.lists) (sym a.is)

  pub of_ended : (e : BootEnd) → (is_memory e ≡ true) ⊎ IsEndBy failed Wrote site survey e → IfAdopted e (λ o. places_seen letters ≡ places_of o.table.plan.lists)
  of_ended (end.Adopted o) (inl memory) = absurd (cc (memory))
  of_ended (end.Adopted o) (inr by) = of_adopted o by
  of_ended end.Empty by = tt
  of_ended (end.TwoDatabases a b) by = tt
  of_ended (end.NoQuorum readable needed) by = tt
  of_ended (end.Lost active listed) by = tt
  of_ended end.Spent by = tt
  of_ended end.Memory by = tt
