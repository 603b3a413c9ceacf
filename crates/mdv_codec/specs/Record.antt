-- The whole text of a record.
use Rattle.std.specs.Prelude.{◌≡◌, ◌<◌, ◌+◌, ◌^◌, ℕ, List, ◌++◌, length, codes, AllPairs, IsTrue, Result, MatchResult, IfOk}
use Rattle.mdv_fields.specs.Numbers.{u32_text}
use Rattle.mdv_fields.specs.Reading.{ShortFits, short_text, LongFits, long_text}
use Rattle.mdv_fields.specs.Sets.{lists_text, ListsFit, are_spaced, set_text, SetFits, pending_text, PendingFits, IsBehindPending}
use Rattle.mdv_fields.specs.declared.fault.RecordError.{RecordError}
use Rattle.mdv_fields.specs.declared.fault.RecordError.TheVariants.{Memory}
use Rattle.mdv_codec.specs.Recorded.{PoolPartFits, pool_part_text, VolumeFits, volume_text}
use Rattle.mdv_codec.specs.declared.recorded.Recorded.{Recorded}
use Rattle.mdv_codec.specs.declared.recorded.RecordedFront.{RecordedFront}
use Rattle.mdv_codec.specs.declared.recorded.RecordedPool.{RecordedPool}
use Rattle.mdv_codec.specs.declared.recorded.RecordedVolume.{RecordedVolume}

abbrev pub IsBehindPool : RecordedPool → RecordedPool → Type 0
IsBehindPool p q = p.number.0 < q.number.0

abbrev pub IsBehindVolume : RecordedVolume → RecordedVolume → Type 0
IsBehindVolume v w = v.number.0 < w.number.0

-- where the replicas lie, the set, and the pending sets
unfoldable pub front_text : RecordedFront → List ℕ
front_text f = lists_text f.lists ++ (set_text f.set ++ short_text pending_text f.pending)

pub record FrontFits (f : RecordedFront) : Type 0 where
  pub lists : ListsFit f.lists
  pub spaced : IsTrue (are_spaced f.lists)
  pub set : SetFits f.set
  pub pending : ShortFits PendingFits 31 f.pending
  pub names : AllPairs IsBehindPending f.pending

-- a list that ascends
pub record RisingFits {A : Type 0} (Fits : A → Type 0) (below : A → A → Type 0) (most : ℕ) (xs : List A) : Type 0 where
  pub list : LongFits Fits most xs
  pub ascending : AllPairs below xs

-- what stands behind the head
unfoldable pub body_text : Recorded → List ℕ
body_text r = front_text r.front ++ (long_text pool_part_text r.pools ++ long_text volume_text r.volumes)

pub record BodyFits (r : Recorded) : Type 0 where
  pub front : FrontFits r.front
  pub pools : RisingFits PoolPartFits IsBehindPool 1000 r.pools
  pub volumes : RisingFits VolumeFits IsBehindVolume 8192 r.volumes

abbrev pub Any : Unit {0} → Type 0
Any u = Unit {0}

unfoldable pub head_text : Unit {0} → List ℕ
head_text u = codes "MDVREC01"

-- eight bytes of text, the length of the whole, and the body
unfoldable pub record_text : Recorded → List ℕ
record_text r = head_text tt ++ (u32_text (12 + length (body_text r)) ++ body_text r)

-- what has a record: its length has four bytes
pub record IsRecord (r : Recorded) : Type 0 where
  pub fits : BodyFits r
  pub short : 12 + length (body_text r) < 256 ^ 4

-- what is read is spelled so, with nothing behind it; what is spelled so is read, unless memory is wanting
pub record IsRead (bytes : List ℕ) (answer : Result Recorded RecordError) : Type 0 where
  pub read : IfOk answer (λ r. IsRecord r × (bytes ≡ record_text r))
  pub spelled : (r : Recorded) → IsRecord r → bytes ≡ record_text r → MatchResult answer (λ s. s ≡ r) (λ e. e ≡ Memory)
