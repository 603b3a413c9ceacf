-- A write that is told has its value alone in each block, and keeps it until the next is issued.
use Rattle.std.proofs.Common.{◌≡◌, ◌⊎◌, inl, inr, ⊎_elim, ℕ, ◌+◌, ◌<◌, List, [], ◌∷◌, ◌++◌, length, slice_index_or, sym, ◌∙◌, ap, subst}
use Rattle.mdv_store_law.proofs.Machine.{after_more}
use Rattle.mdv_volumes.specs.Below.{Among, BlockLog, Geometry, Key, VolId, VolumeLog, only}
use Rattle.mdv_volumes.specs.Events.{MayBeLeft, VolumeEvent}
use Rattle.mdv_volumes.specs.Events as lives
use Rattle.mdv_volumes.specs.Happening.{IsCourse, MayHappen}
use Rattle.mdv_volumes.specs.History.{Acknowledges, Event, History, events_of, history_after, history_after_all}
use Rattle.mdv_volumes.specs.HistoryLaws.{HasLogs, KeepDatabase, KeepVolume, Lasts, ToldWritesLast}
use Rattle.mdv_volumes.specs.LogLaws.{MayBe}
use Rattle.mdv_volumes.proofs.Lasting.{range_goes, still_logs}
use Rattle.mdv_volumes.proofs.Lists.{course_front, course_rest}
use Rattle.mdv_volumes.proofs.Lives.{volumes_live}
use Rattle.mdv_volumes.proofs.Logs.{issues_alone_add, the_one}

module _ (g : Geometry) (h : History) (es later : List Event) (place : ℕ) (key : Key) (volume : VolId) (at : ℕ) (blocks : List (List ℕ)) (logs : HasLogs g h) (course : IsCourse g h (es ++ Acknowledges place key volume at blocks ∷ later)) (keep : KeepDatabase key later) (stay : KeepVolume key volume later) where
  -- where it is told, and behind that
  abbrev there : History
  there = history_after_all h es

  abbrev behind : History
  behind = history_after there (Acknowledges place key volume at blocks)

  from_there : IsCourse g there (Acknowledges place key volume at blocks ∷ later)
  from_there = course_rest history_after (MayHappen g) h es (Acknowledges place key volume at blocks ∷ later) course

  abbrev start : VolumeLog
  start = there.volumes key volume

  abbrev rest : List VolumeEvent
  rest = events_of key volume later

  own_course : lives.IsCourse start rest
  own_course = volumes_live.may key volume g behind later from_there.1

  own_log : (history_after_all h (es ++ Acknowledges place key volume at blocks ∷ later)).volumes key volume ≡ lives.log_after_all start rest
  own_log = ap (λ (x : History). x.volumes key volume) (after_more history_after h es (Acknowledges place key volume at blocks ∷ later)) ∙ volumes_live.is key volume behind later

  module _ (k : ℕ) (lt : k < length blocks) where
    abbrev value : List ℕ
    value = slice_index_or blocks k []

    -- the log of its block begins no more
    goes : lives.AllGoOn (at + k) rest
    goes = range_goes g behind later key volume at (length blocks) k (still_logs g h es (course_front history_after (MayHappen g) h es (Acknowledges place key volume at blocks ∷ later) course) logs) from_there.0.1 lt from_there.1 keep stay

    one : start (at + k) ≡ only value
    one = from_there.0.2 k lt

    within : MayBeLeft (start (at + k))
    within x read = subst (λ (l : BlockLog). Among l.leaves x) (sym one) (subst (λ (l : BlockLog). Among l.reads x) one read)

    lasts_so : (x : List ℕ) → MayBe (lives.log_after_all start rest) (at + k) x → (x ≡ value) ⊎ Among (lives.issued_to (at + k) rest) x
    lasts_so x may =
        let left = ⊎_elim (λ read. issues_alone_add.within (at + k) start rest own_course within x read) (λ left. left) may in
        ⊎_elim (λ old. inl (the_one (subst (λ (l : BlockLog). Among l.leaves x) one old))) (λ since. inr since) (issues_alone_add.leaves (at + k) start rest x own_course goes within left)

  pub told_lasts : Lasts h es later place key volume at blocks
  told_lasts = record { lasts = λ k x lt may. lasts_so k lt x (subst (λ (l : VolumeLog). MayBe l (at + k) x) own_log may) }

pub told_writes_last : ToldWritesLast
told_writes_last g h es later place key volume at blocks logs course keep stay = told_lasts g h es later place key volume at blocks logs course keep stay
