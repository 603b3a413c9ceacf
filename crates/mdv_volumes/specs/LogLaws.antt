-- Laws of a block's log over whatever happens to its volume.
use Rattle.std.specs.Prelude.{◌≡◌, ◌⊎◌, ℕ, ◌+◌, ◌<◌, true, List, [], ◌∷◌, ◌++◌, length, slice_index_or}
use Rattle.mdv_volumes.specs.Below.{Among, VolumeLog, is_among, only}
use Rattle.mdv_volumes.specs.Events.{VolumeEvent, Answers, Flushes, Woke, AllGoOn, IsCourse, MayBeLeft, NoCrash, issued_to, log_after_all}

-- no value comes but by an issue
pub record IssuesAloneAdd : Type 0 where
  -- what a read gives a crash may leave
  pub within : (b : ℕ) (log : VolumeLog) (es : List VolumeEvent) → IsCourse log es → MayBeLeft (log b) → MayBeLeft (log_after_all log es b)
  -- a crash leaves what one might have left before, or what was issued since
  pub leaves : (b : ℕ) (log : VolumeLog) (es : List VolumeEvent) (x : List ℕ) → IsCourse log es → AllGoOn b es → MayBeLeft (log b)
      → Among (log_after_all log es b).leaves x → Among (log b).leaves x ⊎ Among (issued_to b es) x
  -- until a crash a read gives what one might have given before, or what was issued since
  pub reads : (b : ℕ) (log : VolumeLog) (es : List VolumeEvent) (x : List ℕ) → IsCourse log es → AllGoOn b es → NoCrash es
      → Among (log_after_all log es b).reads x → Among (log b).reads x ⊎ Among (issued_to b es) x

-- a value that a read or a crash may give
abbrev pub MayBe : VolumeLog → ℕ → List ℕ → Type 0
MayBe log b x = Among (log b).reads x ⊎ Among (log b).leaves x

-- writes that were answered
pub record WritesLast : Type 0 where
  -- a read gives the one value, until the next is issued or a crash
  pub answered : (log : VolumeLog) (at : ℕ) (blocks : List (List ℕ)) (es : List VolumeEvent) (k : ℕ) → k < length blocks → IsCourse log (Answers at blocks ∷ es) → AllGoOn (at + k) es → NoCrash es
      → issued_to (at + k) es ≡ [] → (log_after_all log (Answers at blocks ∷ es) (at + k)).reads ≡ slice_index_or blocks k [] ∷ []
  -- and a crash leaves that one alone, once the block is on the disk
  pub flushed : (log : VolumeLog) (at : ℕ) (blocks : List (List ℕ)) (es : List VolumeEvent) (from count k : ℕ) → k < length blocks → IsCourse log (Answers at blocks ∷ es) → AllGoOn (at + k) es → NoCrash es
      → issued_to (at + k) es ≡ [] → is_among from count (at + k) ≡ true → log_after_all log ((Answers at blocks ∷ es) ++ Flushes from count ∷ []) (at + k) ≡ only (slice_index_or blocks k [])
  -- so an acknowledged write is what every later read gives and every later crash leaves, or what was issued later
  pub acknowledged : (log : VolumeLog) (at : ℕ) (blocks : List (List ℕ)) (es later : List VolumeEvent) (from count k : ℕ) (x : List ℕ) → k < length blocks
      → IsCourse log ((Answers at blocks ∷ es) ++ Flushes from count ∷ later) → AllGoOn (at + k) (es ++ later) → NoCrash es → is_among from count (at + k) ≡ true
      → MayBe (log_after_all log ((Answers at blocks ∷ es) ++ Flushes from count ∷ later)) (at + k) x → (x ≡ slice_index_or blocks k []) ⊎ Among (issued_to (at + k) (es ++ later)) x

-- boots that found one value of a block
pub record BootsSettle : Type 0 where
  -- a block with one value keeps it until the next is issued, whatever crashes and boots
  pub stays : (b : ℕ) (log : VolumeLog) (es : List VolumeEvent) (x : List ℕ) → IsCourse log es → AllGoOn b es → issued_to b es ≡ [] → log b ≡ only x → log_after_all log es b ≡ only x
  -- so it has the one that a boot found
  pub woken : (b count : ℕ) (content : ℕ → List ℕ) (log : VolumeLog) (es : List VolumeEvent) → b < count → IsCourse log (Woke count content ∷ es) → AllGoOn b es → issued_to b es ≡ []
      → log_after_all log (Woke count content ∷ es) b ≡ only (content b)
