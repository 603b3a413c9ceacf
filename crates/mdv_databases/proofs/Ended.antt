-- What a log's fate says while it goes on: one that lives does until its end is issued, and one that doesn't had one place.
use Rattle.std.proofs.Common.{◌≡◌, true, List, [], ◌∷◌, refl, ◌∙◌, ap}
use Rattle.mdv_store_law.specs.Log.{Clearing, Event, Gone, Issue, IsCourse, IsIssue, Issued, Lives, MayHappen, OfEnd, Placing, Told, Writing, Written, answered, log_after, log_after_all}
use Rattle.mdv_store_law.specs.Machine.{AreAll}
use Rattle.mdv_store_law.proofs.Fates.{never_ends, none_begins, stays_alive_all}
use Rattle.mdv_databases.specs.Below.{Geometry, Log}
use Rattle.mdv_databases.specs.Standing.{EndsSole, HasOnePlace}

same_sole : (log next : Log) → next.family ≡ log.family → HasOnePlace log → HasOnePlace next
same_sole log next same h = record { newest = h.newest; older = h.older; is = same ∙ h.is; written = h.written; place = h.place; only = h.only }

written_sole : (log : Log) → HasOnePlace log → HasOnePlace (log_after log Written)
written_sole log h = record { newest = record h.newest { is_written = true }; older = h.older; is = ap answered h.is; written = refl; place = h.place; only = h.only }

pub ends_sole : (g : Geometry) (log : Log) (e : Event) → EndsSole log → MayHappen g log e → EndsSole (log_after log e)
ends_sole g log (Issued identity) sole may = λ ends. absurd (ends refl)
ends_sole g log (Writing mark asked before table) sole may = λ ends. absurd (ends refl)
ends_sole g log Written sole may = λ ends. written_sole log (sole ends)
ends_sole g log (Told which before) sole may = λ ends. same_sole log (log_after log (Told which before)) refl (sole ends)
ends_sole g log (Placing places) sole may = λ ends. absurd (ends may.lives)
ends_sole g log Clearing sole may = λ ends. record { newest = may.newest; older = may.older; is = may.is; written = may.written; place = may.place; only = may.only }
ends_sole g log Gone sole may = λ ends. same_sole log (log_after log Gone) refl (sole (λ lives. never_ends log.fate lives may))

pub ends_sole_all : (g : Geometry) (log : Log) (es : List Event) → EndsSole log → IsCourse g log es → EndsSole (log_after_all log es)
ends_sole_all g log [] sole course = sole
ends_sole_all g log (e ∷ es) sole course = ends_sole_all g (log_after log e) es (ends_sole g log e sole course.0) course.1

-- a creation that was issued
pub issued_sole : (log : Log) → log.fate ≡ Lives → EndsSole log
issued_sole log lives = λ ends. absurd (ends lives)

-- where no end is issued
pub lives_after_all : (Which : Issue → Type 0) (g : Geometry) (log : Log) (es : List Event) → (Which OfEnd → ⊥) → log.fate ≡ Lives → IsCourse g log es → AreAll (IsIssue Which) es → (log_after_all log es).fate ≡ Lives
lives_after_all Which g log es never lives course are = stays_alive_all g log es course (none_begins Which es never are) lives
