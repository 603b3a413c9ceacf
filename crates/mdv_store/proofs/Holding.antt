-- Replicas that stay while another one is written.
use Rattle.std.proofs.Common.{◌≡◌, inl, inr, ℕ, ◌+◌, ◌==◌, Bool, true, false, List, [], ◌∷◌, refl, sym, ap, subst, arith}
use Rattle.std.proofs.lemmas.Bool.{false_from_ne_true}
use Rattle.std.proofs.lemmas.Bool.Decides.{nat_tests}
use Rattle.mdv_name.specs.declared.slice_lines.SliceLine.{SliceLine}
use Rattle.mdv_replica.specs.Seen.{IsMasterAt}
use Rattle.mdv_shown.specs.Found.{IsFound}
use Rattle.mdv_shown.specs.Kept.{AreFoundStill, IsStill}
use Rattle.mdv_shown.specs.Site.{place_on, size_on, spot_on}
use Rattle.mdv_shown.proofs.Elsewhere.{one_master}
use Rattle.mdv_standing.specs.Worlds.{IsTaking, MayBeClaimed, claimed, not_yet}
use Rattle.mdv_votes.specs.Spots.{is_in}
use Rattle.mdv_votes.proofs.Meeting.{same_self}
use Rattle.mdv_store.specs.Below.{Core, Everywhere, Geometry, Identity, Image, IsOwn, Key, Mark, Replica, Spot, Tale, range, site_of}
use Rattle.mdv_store.specs.Records.{Spells}
use Rattle.mdv_store.specs.Seats.{spot_of}

-- whatever a crash leaves has the replica
abbrev pub Own : Geometry → Key → Identity → Replica → Tale → Type 0
Own g key identity r t = Everywhere (λ image. IsOwn (Spells g) (site_of g key) identity r.line r.number image r.first r.head) t

module _ (g : Geometry) (key : Key) (identity : Identity) (q r : Replica) (old new : Image) where
  -- one slice has one first master
  pub one_first : IsOwn (Spells g) (site_of g key) identity q.line q.number old q.first q.head → IsOwn (Spells g) (site_of g key) identity r.line r.number old r.first r.head → q.line ≡ r.line → q.first ≡ r.first
  one_first own mine line =
      let located = subst (λ (l : SliceLine). IsMasterAt (place_on l 8192 0 0) (size_on (site_of g key) l) (old l.at.drive.0 (l.at.start + 16)) q.first) line own.found.located in
      one_master r.line (size_on (site_of g key) r.line) (old r.line.at.drive.0 (r.line.at.start + 16)) q.first r.first located mine.found.located

  -- and one number there is one spot
  one_spot : IsOwn (Spells g) (site_of g key) identity q.line q.number old q.first q.head → IsOwn (Spells g) (site_of g key) identity r.line r.number old r.first r.head → q.line ≡ r.line → q.number ≡ r.number → spot_of q ≡ spot_of r
  one_spot own mine line number = (let first = one_first own mine line in λ i. spot_on (line i) ((first i).blocks) (number i))

  pub of_its_key : IsOwn (Spells g) (site_of g key) identity r.line r.number old r.first r.head → IsFound (Spells g) (record (site_of g key) { key = r.head.master.key }) r.line r.number (old r.line.at.drive.0) r.first r.head
  of_its_key mine = subst (λ (k : Key). IsFound (Spells g) (record (site_of g key) { key = k }) r.line r.number (old r.line.at.drive.0) r.first r.head) (sym mine.found.of_key) mine.found

  -- a replica stays that lies at another spot than the one that is written
  pub still_own : (spot_of q ≡ spot_of r → ⊥) → IsOwn (Spells g) (site_of g key) identity q.line q.number old q.first q.head → IsOwn (Spells g) (site_of g key) identity r.line r.number old r.first r.head
      → (IsFound (Spells g) (record (site_of g key) { key = r.head.master.key }) r.line r.number (old r.line.at.drive.0) r.first r.head → AreFoundStill (Spells g) (site_of g key) r.line r.number old new)
      → IsStill (Spells g) (site_of g key) old new q.line q.number q.first q.head
  still_own apart own mine still = elim (still (of_its_key mine) q.line q.number q.first q.head own.found) [
    | inl same ↦ absurd (apart (one_spot own mine same.0 same.1))
    | inr kept ↦ kept
  ]

-- What is known with more places is known with fewer.
pub fewer_claimed : (mark : Mark) (number : ℕ) (more less : List Spot) (w : Core) → ((p : Spot) → is_in less p ≡ true → is_in more p ≡ true) → MayBeClaimed mark number more w → MayBeClaimed mark number less w
fewer_claimed mark number more less w within (not_yet none adopts) = not_yet (empty less (λ p here. subst (λ (l : List Spot). is_in l p ≡ true) none (within p here))) adopts
  where
    empty : (l : List Spot) → ((p : Spot) → is_in l p ≡ true → is_in [] p ≡ true) → l ≡ []
    empty [] in_none = refl
    empty (p ∷ l) in_none = absurd (cc (in_none p (ap (λ b. b) (first p l))))
      where
        first : (s : Spot) (k : List Spot) → is_in (s ∷ k) s ≡ true
        first s k = rw (same_self s) refl
fewer_claimed mark number more less w within (claimed has) =
    claimed (record { table = has.table; next = has.next; claimed = has.claimed; stage = has.stage; known = has.known; marked = has.marked; drawn = has.drawn; lists = has.lists; kind = has.kind; within = λ p here. has.within p (within p here) })

pub fewer_taking : (by_majority : Bool) (mark : Mark) (more less : List Spot) (w : Core) → ((p : Spot) → is_in less p ≡ true → is_in more p ≡ true) → IsTaking by_majority mark more w → IsTaking by_majority mark less w
fewer_taking by_majority mark more less w within is =
    record { boot = is.boot; all = is.all; stage = is.stage; marked = is.marked; kind = is.kind; within = λ p here. is.within p (within p here); taken = λ p here. is.taken p (within p here) }

-- a range has no block of another drive
pub other_drive : (in_drive at count drive block : ℕ) → (drive ≡ in_drive → ⊥) → range in_drive at count drive block ≡ false
other_drive in_drive at count drive block apart =
    let isnt : (in_drive == drive) ≡ false = false_from_ne_true (in_drive == drive) (λ is. apart (let same : in_drive ≡ drive = grind (arith, nat_tests) in sym same)) in
    rw isnt refl
