-- On each drive no call of a pass failed, or just one did.
use Rattle.std.proofs.Common.{◌≡◌, ◌⊎◌, inl, inr, ℕ, List, [], ◌∷◌, Contains, Option, None, Some, sym, ◌∙◌, ap, subst, arith}
use Rattle.std.specs.Prelude.{MatchOption}
use Rattle.std.specs.List.{cons_option}
use Rattle.std.proofs.lemmas.Bool.{cases_eq}
use Rattle.mdv_shelf.specs.Calls.{OnDrive}
use Rattle.mdv_shelf.specs.Drives.{KeptAmong}
use Rattle.mdv_shelf.specs.Shelves.{DriveFailures}
use Rattle.mdv_store.specs.Below.{DriveNo, Failures, Ghosts, Replica}
use Rattle.mdv_store.specs.Boot.{IsOnce}
use Rattle.mdv_store.specs.Seats.{AreLeft, drive_of, drives_of, replicas_of}
use Rattle.mdv_store.specs.declared.seats.Seat.{Seat}
use Rattle.mdv_store.proofs.Passes.{unmapped}
use Rattle.mdv_store.proofs.Sitting.{contains_behind, contains_first, first_or_behind}

-- one of these replicas lies on the drive, or none does
on_drive : (rs : List Replica) (drive : ℕ) → ((r : Replica) × Contains rs r × (drive_of r ≡ drive)) ⊎ ((r : Replica) → Contains rs r → drive_of r ≡ drive → ⊥)
on_drive [] drive = inr (λ r has. absurd (omega (arith, has.1)))
on_drive (x ∷ rs) drive = elim (cases_eq (drive_of x) drive) [
  | inl here ↦ inl (x, contains_first x rs, here)
  | inr apart ↦ elim (on_drive rs drive) [
    | inl behind ↦ inl (behind.0, contains_behind x behind.0 rs behind.1, behind.2)
    | inr none ↦ inr (λ r has on. elim (first_or_behind x r rs has) [ inl same ↦ apart (ap drive_of same ∙ on) | inr rest ↦ none r rest on ])
  ]
]

module _ (failed : ℕ → Failures) (Took : Replica → Replica → Type 0) where
  left_once : (old new : List Seat) → AreLeft failed Took old new → (r : Replica) → Contains (replicas_of old) r → IsOnce (failed (drive_of r))
  left_once [] new are r has = absurd (omega (arith, has.1))
  left_once (s ∷ old) [] are r has = absurd are
  left_once (s ∷ old) (n ∷ new) are r has = by s.replica n.replica are.0.1 (λ rest. left_once old new are.1 r rest) has where
    of : (x : Replica) (p : Option Replica) → MatchOption p (failed (drive_of x)).some (λ (m : Replica). (failed (drive_of x)).none × Took x m) → IsOnce (failed (drive_of x))
    of x None some = inr some
    of x (Some m) took = inl took.0

    by : (o p : Option Replica) → MatchOption o (p ≡ None) (λ (x : Replica). MatchOption p (failed (drive_of x)).some (λ (m : Replica). (failed (drive_of x)).none × Took x m)) → (Contains (replicas_of old) r → IsOnce (failed (drive_of r))) → Contains (cons_option o (replicas_of old)) r → IsOnce (failed (drive_of r))
    by None p is more within = more within
    by (Some x) p is more within = elim (first_or_behind x r (replicas_of old) within) [
      | inl same ↦ subst (λ (y : Replica). IsOnce (failed (drive_of y))) same (of x p is)
      | inr rest ↦ more rest
    ]

-- a pass over these seats
module _ {S : Type 0} (shelf : Ghosts S) (old new : S) (seats now : List Seat) (Took : Replica → Replica → Type 0) (kept : KeptAmong shelf old new (drives_of seats)) where
  pub pass_once : AreLeft (DriveFailures shelf old new) Took seats now → (drive : DriveNo) → IsOnce (DriveFailures shelf old new drive.0)
  pass_once left drive = elim (on_drive (replicas_of seats) drive.0) [
    | inl one ↦ subst (λ (n : ℕ). IsOnce (DriveFailures shelf old new n)) one.2 (left_once (DriveFailures shelf old new) Took seats now left one.0 one.1)
    | inr none ↦ inl (kept.others (OnDrive drive.0) (λ among.
        let r = unmapped (λ (x : Replica). x.line.at.drive) (replicas_of seats) among.0 among.1 in
        let same : OnDrive drive.0 ≡ OnDrive among.0.0 = among.2 in
        let number : drive.0 ≡ among.0.0 = cc (same) in
        none r.0 r.1 (ap (λ (d : DriveNo). d.0) r.2 ∙ sym number)))
  ]
