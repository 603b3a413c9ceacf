-- How far a look has come on a slice.
use Rattle.std.specs.Prelude.{◌≡◌, ◌⊎◌, ℕ, ◌+◌, ◌<◌, Bool, true, false, List, [], ◌∷◌, ◌++◌, Contains, Option, Some, IfSome, Result, Ok, Err, OnErr}
use Rattle.mdv_survey.specs.Below.{DriveNo, Drives, Failures, Geometry, Head, IsHead, IsInChain, IsTextOf, Master, PlaceAt, Site, SliceLine, has_drive, size_on}
use Rattle.mdv_replica.specs.Seen.{IsLook}
use Rattle.mdv_replica.specs.declared.looking.Seen.{Seen}
use Rattle.mdv_survey.specs.Newest.{HasTable, IsMarked}
use Rattle.mdv_survey.specs.Others.{ComesTo, IsAhead, IsOtherIn, IsNumberTold}
use Rattle.mdv_survey.specs.Replica.{AreOrdered, Contents, IsFoundIn, IsListed, at_of}
use Rattle.mdv_survey.specs.Slots.{ReadAnswer}
use Rattle.mdv_survey.specs.declared.body.ReadFault.{ReadFault}
use Rattle.mdv_survey.specs.declared.replica.Finds.{Finds}
use Rattle.mdv_survey.specs.declared.replica.Other.{Other}
use Rattle.mdv_survey.specs.declared.replica.Replica.{Replica}

-- the head that the contents spell at the place, or none
pub record IsHeadThere (at : PlaceAt) (size : ℕ) (content : ℕ → List ℕ) (seen : Option Head) : Type 0 where
  pub value : IfSome seen (IsHead at size content)
  pub spelled : (head : Head) → IsHead at size content head → seen ≡ Some head

-- and all that the look says
pub record IsSeenThere (at : PlaceAt) (size : ℕ) (content : ℕ → List ℕ) (seen : Seen) : Type 0 where
  pub there : IsHeadThere at size content seen.head
  pub look : IsLook at size content seen

-- a place was looked at: on one of these slices, or on this one before that number
abbrev pub IsPassed : List SliceLine → SliceLine → ℕ → SliceLine → ℕ → Type 0
IsPassed lines line number l k = Contains lines l ⊎ ((l ≡ line) × (k < number))

abbrev pub WasLookedAt : List SliceLine → SliceLine → ℕ → Replica → Type 0
WasLookedAt lines line number r = IsPassed lines line number r.line r.number

-- what is known of the replicas whatever the drives have, once these slices were looked at, and this one before that number
pub record AreListed (site : Site) (up : Drives) (lines : List SliceLine) (line : SliceLine) (number : ℕ) (finds : Finds) : Type 0 where
  pub each : (r : Replica) → Contains finds.replicas r → IsListed site up r
  pub looked_at : (r : Replica) → Contains finds.replicas r → WasLookedAt lines line number r
  pub ordered : AreOrdered site.lines finds.replicas
  pub marked : IsMarked finds.replicas finds.newest
  pub others_on : (o : Other) → Contains finds.others o → Contains site.lines o.line × (has_drive up o.line.at.drive ≡ true)

-- where the drives have these blocks: each other place is one; and of what was looked at each place that a look comes to is told of, on the drives that passed a test
pub record AreTold (g : Geometry) (site : Site) (answers : DriveNo → Bool) (lines : List SliceLine) (line : SliceLine) (number : ℕ) (content : Contents) (finds : Finds) : Type 0 where
  pub each : (o : Other) → Contains finds.others o → IsOtherIn g site content o
  pub all : (l : SliceLine) (k : ℕ) (at : PlaceAt) → Contains site.lines l → answers l.at.drive ≡ true → IsPassed lines line number l k → ComesTo g site l k (content l.at.drive.0) at → IsNumberTold finds.replicas finds.others l k

-- Where the drives have these blocks: each of them is found, and the newest table is there; and of what was looked at each one that is found is among
-- them, on the drives that passed a test.
pub record AreFound (g : Geometry) (site : Site) (answers : DriveNo → Bool) (lines : List SliceLine) (line : SliceLine) (number : ℕ) (content : Contents) (finds : Finds) : Type 0 where
  pub each : (r : Replica) → Contains finds.replicas r → IsFoundIn g site content r
  pub all : (r : Replica) → IsFoundIn g site content r → answers r.line.at.drive ≡ true → WasLookedAt lines line number r → Contains finds.replicas r
  pub table : HasTable g content finds.replicas finds.newest
  pub told : AreTold g site answers lines line number content finds

-- The replica of this number was looked at. Where it is readable, so is each before the next number; else the slice has no further one.
abbrev pub Looks : Geometry → Site → SliceLine → Master → ℕ → Contents → Bool → Finds → Finds → Type 0
Looks g site line first number content true old new =
    IsAhead g site line first number (content line.at.drive.0) → IsAhead g site line first (number + 1) (content line.at.drive.0)
    × ((answers : DriveNo → Bool) (lines : List SliceLine) → AreFound g site answers lines line number content old → AreFound g site answers lines line (number + 1) content new)
Looks g site line first number content false old new =
    IsAhead g site line first number (content line.at.drive.0)
    → (answers : DriveNo → Bool) (lines : List SliceLine) → AreFound g site answers lines line number content old → AreFound g site answers (lines ++ line ∷ []) line 0 content new

-- the replica is in the chain, or nothing is at its place
abbrev pub IsChained : Geometry → Site → SliceLine → Master → ℕ → (ℕ → List ℕ) → Head → Bool → Type 0
IsChained g site line first number content head true = IsInChain (IsTextOf g) site line number content first head
IsChained g site line first number content head false = (h : Head) → IsInChain (IsTextOf g) site line number content first h → ⊥

-- a replica whose head was read
pub record Visits (g : Geometry) (site : Site) (r : Replica) (content : Contents) (old new : Finds) (readable : Bool) : Type 0 where
  pub chained : IsHead (at_of r) (size_on site r.line) (content r.line.at.drive.0) r.head → IsChained g site r.line r.first r.number (content r.line.at.drive.0) r.head readable
  pub looks : IsHead (at_of r) (size_on site r.line) (content r.line.at.drive.0) r.head → Looks g site r.line r.first r.number content readable old new

-- All replicas of a slice behind the first one were looked at; or as far as they could be read.
abbrev pub LooksBehind : {E : Type 0} → Geometry → Site → SliceLine → Master → Contents → Finds → Finds → Result (Unit {0}) E → Type 0
LooksBehind g site line first content old new (Ok done) =
    IsAhead g site line first 1 (content line.at.drive.0) → (answers : DriveNo → Bool) (lines : List SliceLine)
    → AreFound g site answers lines line 1 content old → AreFound g site answers (lines ++ line ∷ []) line 0 content new
LooksBehind g site line first content old new (Err fault) =
    IsAhead g site line first 1 (content line.at.drive.0) → (answers : DriveNo → Bool) (lines : List SliceLine)
    → AreFound g site answers lines line 1 content old → AreFound g site answers lines line 0 content new

-- and the first one too
abbrev pub LooksAtAll : {E : Type 0} → Geometry → Site → SliceLine → Contents → Finds → Finds → Result (Unit {0}) E → Type 0
LooksAtAll g site line content old new (Ok done) =
    (answers : DriveNo → Bool) (lines : List SliceLine) → AreFound g site answers lines line 0 content old → AreFound g site answers (lines ++ line ∷ []) line 0 content new
LooksAtAll g site line content old new (Err fault) =
    (answers : DriveNo → Bool) (lines : List SliceLine) → AreFound g site answers lines line 0 content old → AreFound g site answers lines line 0 content new

-- the list goes on, on the slice behind these, to the next number
abbrev pub ListsNext : Site → SliceLine → ℕ → Finds → Finds → Type 0
ListsNext site line number old new =
    (up : Drives) (lines rest : List SliceLine) → site.lines ≡ lines ++ line ∷ rest → has_drive up line.at.drive ≡ true
    → AreListed site up lines line number old → AreListed site up lines line (number + 1) new

-- and to the slice's end
abbrev pub ListsRest : Site → SliceLine → ℕ → Finds → Finds → Type 0
ListsRest site line number old new =
    (up : Drives) (lines rest : List SliceLine) → site.lines ≡ lines ++ line ∷ rest → has_drive up line.at.drive ≡ true
    → AreListed site up lines line number old → AreListed site up (lines ++ line ∷ []) line 0 new

-- one replica was looked at: with the cause of a failure, behind which nothing was added
pub record IsVisitAnswer (failures : Failures) (site : Site) (line : SliceLine) (number : ℕ) (old new : Finds) (result : Result Bool ReadFault) : Type 0 where
  pub read : ReadAnswer failures result
  pub lists : ListsNext site line number old new
  pub err : OnErr result (new ≡ old)
