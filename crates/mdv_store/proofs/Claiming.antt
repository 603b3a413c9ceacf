-- What a pass that writes a claim leaves.
use Rattle.std.proofs.Common.{◌≡◌, ℕ, ◌+◌, ◌<◌, ◌≤◌, ◌^◌, false, List, [], ◌∷◌, ◌++◌, AllPairs, Contains, append-nil, refl, sym, ap, subst, arith}
use Rattle.mdv_name.specs.Sound.{IsSound}
use Rattle.mdv_replica.specs.Images.{MayClaim}
use Rattle.mdv_replica.specs.Replica.{Claiming, claim_blocks}
use Rattle.mdv_replica.specs.Forms.{block_of, claim_text}
use Rattle.mdv_replica.proofs.Leaving.{leaves_settled, leaves_settling}
use Rattle.mdv_shelf.proofs.Frame.{kept_outside_wider, within_range}
use Rattle.mdv_shelf.specs.Area.{IsKept, range}
use Rattle.mdv_shelf.specs.Everywhere.{Leaves}
use Rattle.mdv_shown.proofs.Kept.{claims_still}
use Rattle.mdv_shown.proofs.Sites.{site_is}
use Rattle.mdv_shown.proofs.Writes.{own_claimed}
use Rattle.mdv_shown.specs.Site.{IsSite}
use Rattle.mdv_standing.proofs.Rest.{rest_claims}
use Rattle.mdv_standing.proofs.Stretches.{traced_claimed, traced_claiming}
use Rattle.mdv_standing.specs.Turning.{IsPlaceAt}
use Rattle.mdv_standing.specs.Tracing.{Traces}
use Rattle.mdv_standing.specs.Worlds.{IsNoneOr, MayBeClaimed}
use Rattle.mdv_store.specs.Below.{Database, Geometry, Identity, IsSynced, Key, Log, Mark, Replica, RestStands, Spot, Table, Tale, Version, at_of, same_spot, site_of}
use Rattle.mdv_quorum.specs.declared.event.Event.TheVariants.{Claimed}
use Rattle.mdv_store.specs.Claims.{ClaimingEnds, ClaimingMoment, ClaimsTrace, IsAdopting}
use Rattle.mdv_store.specs.Blank.{StayBlank, IsBlank}
use Rattle.mdv_store.specs.Passing.{IsPassing, Passed, claiming}
use Rattle.mdv_look.specs.Quiet.{IsQuiet}
use Rattle.mdv_store.specs.Records.{Spells}
use Rattle.mdv_store.specs.Seats.{AreHeld, TakesClaim, drive_of, replica_area, replicas_of, seats_area, spot_of, spots_of}
use Rattle.mdv_store.specs.declared.seats.Seat.{Seat}
use Rattle.mdv_store.proofs.Blanks.{blank_claims}
use Rattle.mdv_store.proofs.Holding.{Own, fewer_claimed, other_drive, still_own}
use Rattle.mdv_store.proofs.Passing.{Holds, holds, passed_quiet, passed_synced, spots, stands, traced_all, traced_by}

module _ (number : ℕ) (seats : List Seat) (t : Tale) where
  abbrev all : List Replica
  all = replicas_of seats

  pub goes_on : (r n : Replica) (u v : Tale) → (claiming number).Ends r n u v → (claiming number).Goes r u v
  goes_on r n u v ends = ends.1

  place : (r n : Replica) → TakesClaim number r n → spot_of n ≡ spot_of r
  place r n took = ap spot_of took

  module _ (long : (r : Replica) → Contains all r → 16 ≤ r.first.blocks) where
    quiet_at : (r : Replica) (u m : Tale) → Contains all r → Claiming (at_of r) number u m → IsQuiet (replica_area r) u m
    quiet_at r u m one goes =
        let least = long r one in
        let at = at_of r in
        record {
          outside = kept_outside_wider (range at.drive.0 (at.first + 1) 1) (replica_area r) u m (λ drive block out. within_range at.drive.0 (at.first + 1) 1 at.first r.first.blocks drive block (omega arith) (omega (arith, least)) out) goes.outside;
          quiet = goes.quiet;
        }

    claim_quiet : (m : Tale) → IsPassing (claiming number) all t m → IsQuiet (seats_area seats) t m
    claim_quiet m passing = passed_quiet (claiming number) all t goes_on quiet_at passing.0 passing.1 m passing.2

  -- no other drive is written
  elsewhere : (r : Replica) (u m : Tale) (drive : ℕ) → (drive ≡ drive_of r → ⊥) → Claiming (at_of r) number u m → (block : ℕ) → IsKept u m drive block
  elsewhere r u m drive apart goes block = goes.outside drive block (other_drive r.line.at.drive.0 ((at_of r).first + 1) 1 drive block apart)

  claim_synced : (new : List Seat) (u : Tale) → Passed (claiming number) all t (replicas_of new) [] u → (r : Replica) → Contains (replicas_of new) r → IsSynced (drive_of r) u
  claim_synced new u passed = passed_synced (claiming number) all t goes_on (λ r n took. ap drive_of took) elsewhere (λ r n u v ends. ends.2.synced) (replicas_of new) [] u passed

  module _ (g : Geometry) (key : Key) (identity : Identity) (sound : IsSound g) (small : number < 2 ^ 63) (held : AreHeld g key identity seats t) where
    ok : IsSite (site_of g key)
    ok = site_is g key sound

    may : (r : Replica) (u m : Tale) → Claiming (at_of r) number u m → Leaves (MayClaim (at_of r) number) u m
    may r u m goes = leaves_settling r.line.at.drive.0 ((at_of r).first + 1) (block_of (claim_text number)) u m goes

    still : (q r : Replica) (u m : Tale) → Contains all r → (spot_of q ≡ spot_of r → ⊥) → Own g key identity q u → Own g key identity r u → Claiming (at_of r) number u m → Own g key identity q m
    still q r u m one apart own mine goes image is =
        let from = may r u m goes image is in
        let kept = still_own g key identity q r from.0 image apart (own from.0 from.1) (mine from.0 from.1) (λ its. claims_still (Spells g) (site_of g key) r.line r.number r.first r.head from.0 image its ok number small from.2) in
        record { found = kept.found; of_identity = (own from.0 from.1).of_identity }

    takes : (r n : Replica) (u v : Tale) → Contains all r → Own g key identity r u → (claiming number).Ends r n u v → Own g key identity n v
    takes r n u v one mine ends = subst (λ (x : Replica). Own g key identity x v) (sym ends.0) (λ image is.
        let from = leaves_settled r.line.at.drive.0 ((at_of r).first + 1) (claim_blocks number) u v ends.1.outside ends.2 image is in
        own_claimed (Spells g) (site_of g key) ok identity r.line r.number r.first r.head from.0 image (mine from.0 from.1) number small from.2)

    claim_holds : (done due : List Replica) (u : Tale) → Passed (claiming number) all t done due u → Holds (claiming number) all t goes_on (Own g key identity) (Own g key identity) done due u
    claim_holds = holds (claiming number) all t goes_on (Own g key identity) (Own g key identity) place still still takes held.each held.once

    due_own : (front rest : List Replica) (r : Replica) (u : Tale) → Passed (claiming number) all t front (r ∷ rest) u → Own g key identity r u
    due_own front rest r u passed = (claim_holds front (r ∷ rest) u passed).due_hold r (0, omega arith, refl)

    claim_held : (new : List Seat) (u : Tale) → Passed (claiming number) all t (replicas_of new) [] u → AreHeld g key identity new u
    claim_held new u passed = (let h = claim_holds (replicas_of new) [] u passed in record { each = h.done_hold; once = subst (λ (rs : List Replica). AllPairs (λ (p q : Spot). same_spot p q ≡ false) (spots rs)) (append-nil (replicas_of new)) h.once })

    claim_rest : (databases : List Database) (m : Tale) → IsPassing (claiming number) all t m → RestStands (Spells g) g databases identity t → RestStands (Spells g) g databases identity m
    claim_rest databases m passing start =
        stands (claiming number) all t goes_on (Own g key identity) due_own (RestStands (Spells g) g databases identity)
        (λ r u v one mine goes rest image is. (let from = may r u v goes image is in rest_claims (Spells g) g databases from.0 image sound key identity (rest from.0 from.1) r.line r.number r.first r.head (mine from.0 from.1) number small from.2))
        start passing.0 passing.1 m passing.2

    claim_blank : (m : Tale) → IsPassing (claiming number) all t m → StayBlank g identity t m
    claim_blank m passing ask other another start =
        stands (claiming number) all t goes_on (Own g key identity) due_own (IsBlank g ask other)
        (λ r u v one mine goes blank image is. (let from = may r u v goes image is in blank_claims g ask other from.0 image (blank from.0 from.1) key identity another sound r (mine from.0 from.1) number small from.2))
        start passing.0 passing.1 m passing.2

  -- Each world goes on by claims.
  module _ (g : Geometry) (key : Key) (identity : Identity) (log : Log) (mark : Mark) (table : Table) (v : Version) (a : IsAdopting g key identity seats number log mark table v t) where
    placed : (r : Replica) (u : Tale) → Contains all r → Own g key identity r u → IsPlaceAt (Spells g) (site_of g key) identity u table r.line r.number r.first r.head
    placed r u one mine = record { site_is = site_is g key a.sound; each = mine; named = a.named r one }

    going : (r : Replica) (u m : Tale) (before : List Spot) → Contains all r → Own g key identity r u → Claiming (at_of r) number u m
        → Traces (Spells g) (site_of g key) identity log log (MayBeClaimed mark number before) (IsNoneOr (Claimed (spot_of r))) (MayBeClaimed mark number before) u m
    going r u m before one mine goes =
        traced_claiming (Spells g) (site_of g key) identity log u r.line r.number r.first r.head mark table v a.version number before (placed r u one mine) m a.small (may g key identity a.sound a.small a.held r u m goes)

    gone : (r n : Replica) (u m : Tale) (before : List Spot) → Contains all r → Own g key identity r u → (claiming number).Ends r n u m
        → Traces (Spells g) (site_of g key) identity log log (MayBeClaimed mark number before) (λ es. es ≡ Claimed (spot_of r) ∷ []) (MayBeClaimed mark number (spot_of r ∷ before)) u m
    gone r n u m before one mine ends =
        traced_claimed (Spells g) (site_of g key) identity log u r.line r.number r.first r.head mark table v a.version number before (placed r u one mine) m a.small
        (leaves_settled r.line.at.drive.0 ((at_of r).first + 1) (claim_blocks number) u m ends.1.outside ends.2)

    claim_traces : (before : List Spot) (m : Tale) → IsPassing (claiming number) all t m → ClaimsTrace g key identity seats number log mark before before t m
    claim_traces before m passing =
        traced_by (claiming number) all t goes_on (Own g key identity) (due_own g key identity a.sound a.small a.held) (Spells g) (site_of g key) identity log Claimed (MayBeClaimed mark number) place (fewer_claimed mark number) going gone before
        passing.0 passing.1 m passing.2

    claim_traced : (before : List Spot) (new : List Seat) (u : Tale) → Passed (claiming number) all t (replicas_of new) [] u → ClaimsTrace g key identity seats number log mark before (spots_of new ++ before) t u
    claim_traced before new u passed =
        traced_all (claiming number) all t goes_on (Own g key identity) (due_own g key identity a.sound a.small a.held) (Spells g) (site_of g key) identity log Claimed (MayBeClaimed mark number) place (fewer_claimed mark number) going gone before
        (replicas_of new) u passed

  -- A pass so far, and to its end.
  pub claiming_moment : ((r : Replica) → Contains all r → 16 ≤ r.first.blocks) → (m : Tale) → IsPassing (claiming number) all t m → ClaimingMoment seats number t m
  claiming_moment long m passing = record {
    quiet = claim_quiet long m passing;
    passing = passing;
    traces = λ g key identity log mark table v before a. claim_traces g key identity log mark table v a before m passing;
    rest = λ g key identity databases sound small held. claim_rest g key identity sound small held databases m passing;
    blank = λ g key identity sound small held. claim_blank g key identity sound small held m passing;
  }

  pub claiming_ends : (new : List Seat) (u : Tale) → Passed (claiming number) all t (replicas_of new) [] u → ClaimingEnds seats new number t u
  claiming_ends new u passed = record {
    passed = passed;
    traces = λ g key identity log mark table v before a. claim_traced g key identity log mark table v a before new u passed;
    held = λ g key identity sound small held. claim_held g key identity sound small held new u passed;
    synced = λ r has before. claim_synced new u passed r has;
  }
