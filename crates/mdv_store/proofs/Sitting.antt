-- The seats of a list, and the replicas at them.
use Rattle.std.proofs.Common.{◌≡◌, ◌⊎◌, inl, inr, ◌≤◌, ℕ, suc, List, [], ◌∷◌, Option, None, Some, MatchOption, Contains, length, map, refl, sym, ◌∙◌, subst, ap, arith}
use Rattle.std.specs.List.{cons_option}
pub use Rattle.mdv_acts.proofs.Members.{contains_behind, contains_first, first_or_behind}
use Rattle.mdv_store.specs.Below.{Failures, Replica, Table, at_of, places_of}
use Rattle.mdv_store.specs.Opened.{AreSeatsOf}
use Rattle.mdv_store.specs.Seats.{AreLaid, AreLeft, IsLaid, IsLeft, active_of, drive_of, replicas_of}
use Rattle.mdv_store.specs.declared.seats.Seat.{Seat}

-- a replica of the list has a seat
pub seat_of : (seats : List Seat) (r : Replica) → Contains (replicas_of seats) r → (s : Seat) × Contains seats s × (s.replica ≡ Some r)
seat_of [] r has = absurd (omega (arith, has.1))
seat_of (s ∷ ss) r has = by s.replica refl has (seat_of ss r) where
  by : (o : Option Replica) → s.replica ≡ o → Contains (cons_option o (replicas_of ss)) r → (Contains (replicas_of ss) r → (t : Seat) × Contains ss t × (t.replica ≡ Some r)) → (t : Seat) × Contains (s ∷ ss) t × (t.replica ≡ Some r)
  by None is has behind = (let rest = behind has in (rest.0, contains_behind s rest.0 ss rest.1, rest.2))
  by (Some x) is has behind = elim (first_or_behind x r (replicas_of ss) has) [
    | inl here ↦ (s, contains_first s ss, is ∙ ap Some here)
    | inr there ↦ (let rest = behind there in (rest.0, contains_behind s rest.0 ss rest.1, rest.2))
  ]

pub replica_of : (seats : List Seat) (s : Seat) (r : Replica) → Contains seats s → s.replica ≡ Some r → Contains (replicas_of seats) r
replica_of [] s r has is = absurd (omega (arith, has.1))
replica_of (x ∷ xs) s r has is = by x.replica refl (first_or_behind x s xs has) (λ behind. replica_of xs s r behind is) where
  by : (o : Option Replica) → x.replica ≡ o → (x ≡ s) ⊎ Contains xs s → (Contains xs s → Contains (replicas_of xs) r) → Contains (cons_option o (replicas_of xs)) r
  by None none (inl here) rest = absurd (let some : None ≡ Some r = sym none ∙ ap (λ (t : Seat). t.replica) here ∙ is in cc (some))
  by None none (inr behind) rest = rest behind
  by (Some a) some (inl here) rest =
      (let same : Some a ≡ Some r = sym some ∙ ap (λ (t : Seat). t.replica) here ∙ is in subst (λ (b : Replica). Contains (a ∷ replicas_of xs) b) (cc (same)) (contains_first a (replicas_of xs)))
  by (Some a) some (inr behind) rest = contains_behind a r (replicas_of xs) (rest behind)

-- there is a replica where some places are active
pub some_active : (seats : List Seat) → 1 ≤ active_of seats → (r : Replica) × Contains (replicas_of seats) r
some_active seats some = by (replicas_of seats) some where
  by : (rs : List Replica) → 1 ≤ length rs → (r : Replica) × Contains rs r
  by [] none = absurd (omega arith)
  by (r ∷ rs) some = (r, contains_first r rs)

pub active_most : (seats : List Seat) → active_of seats ≤ length seats
active_most [] = omega arith
active_most (s ∷ ss) = by s.replica (active_most ss) where
  by : (o : Option Replica) → active_of ss ≤ length ss → length (cons_option o (replicas_of ss)) ≤ suc (length ss)
  by None rest = omega arith
  by (Some r) rest = omega arith

-- Seats behind a pass.
module _ (failed : ℕ → Failures) (Took : Replica → Replica → Type 0) where
  left_one : (s n : Seat) (r : Replica) → IsLeft failed Took s n → n.replica ≡ Some r → (old : Replica) × (s.replica ≡ Some old) × Took old r
  left_one s n r is some = by s.replica n.replica refl some is.1 where
    by : (o m : Option Replica) → s.replica ≡ o → m ≡ Some r → MatchOption o (m ≡ None) (λ (a : Replica). MatchOption m (failed (drive_of a)).some (λ (b : Replica). (failed (drive_of a)).none × Took a b)) → (old : Replica) × (s.replica ≡ Some old) × Took old r
    by None m here there none = absurd (cc (there, none))
    by (Some a) None here there gone = absurd (cc (there))
    by (Some a) (Some b) here there took = (let same : b ≡ r = cc (there) in (a, here, subst (λ (x : Replica). Took a x) same took.1))

  -- each was one before
  pub left_seat : (old new : List Seat) (n : Seat) → AreLeft failed Took old new → Contains new n → (s : Seat) × Contains old s × IsLeft failed Took s n
  left_seat [] [] n are has = absurd (omega (arith, has.1))
  left_seat [] (x ∷ new) n are has = absurd are
  left_seat (s ∷ old) [] n are has = absurd are
  left_seat (s ∷ old) (x ∷ new) n are has = elim (first_or_behind x n new has) [
    | inl here ↦ (s, contains_first s old, subst (λ (y : Seat). IsLeft failed Took s y) here are.0)
    | inr behind ↦ (let rest = left_seat old new n are.1 behind in (rest.0, contains_behind s rest.0 old rest.1, rest.2))
  ]

  pub left_replica : (old new : List Seat) (n : Replica) → AreLeft failed Took old new → Contains (replicas_of new) n → (r : Replica) × Contains (replicas_of old) r × Took r n
  left_replica old new n are has =
      let seat = seat_of new n has in
      let before = left_seat old new seat.0 are seat.1 in
      let one = left_one before.0 seat.0 n before.2 seat.2 in
      (one.0, replica_of old before.0 one.0 before.1 one.1, one.2)

  -- each lies where it lay
  pub left_laid : (sizes : List ℕ) (old new : List Seat) → ((r n : Replica) → Took r n → IsLaid sizes r → IsLaid sizes n) → AreLeft failed Took old new → AreLaid sizes old → AreLaid sizes new
  left_laid sizes old new stays are laid n has = (let one = left_replica old new n are has in stays one.0 n one.2 (laid one.0 one.1))

  pub left_places : (old new : List Seat) → AreLeft failed Took old new → map (λ (s : Seat). s.place) new ≡ map (λ (s : Seat). s.place) old
  left_places [] [] are = refl
  left_places [] (n ∷ new) are = absurd are
  left_places (s ∷ old) [] are = absurd are
  left_places (s ∷ old) (n ∷ new) are = cc (are.0.0, left_places old new are.1)

  pub left_count : (old new : List Seat) → AreLeft failed Took old new → length new ≡ length old
  left_count [] [] are = refl
  left_count [] (n ∷ new) are = absurd are
  left_count (s ∷ old) [] are = absurd are
  left_count (s ∷ old) (n ∷ new) are = ap (λ (k : ℕ). suc k) (left_count old new are.1)

  -- the table's seats stay its seats, and those of a table with the same lists
  pub left_seats : (table next : Table) (old new : List Seat) → ((r n : Replica) → Took r n → at_of n ≡ at_of r) → next.plan.lists ≡ table.plan.lists → AreLeft failed Took old new → AreSeatsOf table old → AreSeatsOf next new
  left_seats table next old new stays lists are seats = record {
    places = left_places old new are ∙ seats.places ∙ ap places_of (sym lists);
    some = omega (arith, seats.some, left_count old new are);
    few = omega (arith, seats.few, left_count old new are);
    at = λ n r has is.
        let one = left_seat old new n are has in
        let was = left_one one.0 n r one.2 is in
        ap (λ a. a.place) (stays was.0 r was.2) ∙ seats.at one.0 was.0 one.1 was.1 ∙ sym one.2.0;
  }
