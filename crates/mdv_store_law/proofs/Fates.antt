-- What a log's fate says while it goes on: one that lives does as long as no end of it begins.
use Rattle.std.proofs.Common.{◌≡◌, List, [], ◌∷◌, refl, sym, ◌∙◌}
use Rattle.mdv_store_law.specs.Below.{Geometry}
use Rattle.mdv_store_law.specs.Log.{Clearing, Ends, Event, Fate, Gone, Issued, IsCourse, IsIssue, IsNotOver, Issue, Lives, Log, MayHappen, OfEnd, Over, Placing, Told, Writing, Written, log_after, log_after_all}
use Rattle.mdv_store_law.specs.Machine.{AreAll}

-- a database that lives isn't over
pub lives_there : (fate : Fate) → fate ≡ Lives → IsNotOver fate
lives_there fate lives over = differs (sym lives ∙ over)
  where
    differs : Lives ≡ Over → ⊥
    differs e = cc

-- nor about to be deleted
pub never_ends : (fate : Fate) → fate ≡ Lives → fate ≡ Ends → ⊥
never_ends fate lives ends = differs (sym lives ∙ ends)
  where
    differs : Lives ≡ Ends → ⊥
    differs e = cc

-- no end begins by the event
abbrev pub BeginsNoEnd : Event → Type 0
BeginsNoEnd (Issued identity) = Unit {0}
BeginsNoEnd (Writing mark asked before table) = Unit {0}
BeginsNoEnd Written = Unit {0}
BeginsNoEnd (Told which before) = Unit {0}
BeginsNoEnd (Placing places) = Unit {0}
BeginsNoEnd Clearing = ⊥
BeginsNoEnd Gone = Unit {0}

pub stays_alive : (g : Geometry) (log : Log) (e : Event) → MayHappen g log e → BeginsNoEnd e → log.fate ≡ Lives → (log_after log e).fate ≡ Lives
stays_alive g log (Issued identity) may none lives = refl
stays_alive g log (Writing mark asked before table) may none lives = refl
stays_alive g log Written may none lives = lives
stays_alive g log (Told which before) may none lives = lives
stays_alive g log (Placing places) may none lives = lives
stays_alive g log Clearing may none lives = absurd none
stays_alive g log Gone may none lives = absurd (never_ends log.fate lives may)

pub stays_alive_all : (g : Geometry) (log : Log) (es : List Event) → IsCourse g log es → AreAll BeginsNoEnd es → log.fate ≡ Lives → (log_after_all log es).fate ≡ Lives
stays_alive_all g log [] course none lives = lives
stays_alive_all g log (e ∷ es) course none lives = stays_alive_all g (log_after log e) es course.1 none.1 (stays_alive g log e course.0 none.0 lives)

-- where no end is issued none begins
pub none_begins : (Which : Issue → Type 0) (es : List Event) → (Which OfEnd → ⊥) → AreAll (IsIssue Which) es → AreAll BeginsNoEnd es
none_begins Which [] never are = tt
none_begins Which (e ∷ es) never are = (by e are.0, none_begins Which es never are.1)
  where
    by : (e : Event) → IsIssue Which e → BeginsNoEnd e
    by (Issued identity) is = tt
    by (Writing mark asked before table) is = tt
    by Written is = tt
    by (Told which before) is = tt
    by (Placing places) is = tt
    by Clearing is = never is
    by Gone is = tt
