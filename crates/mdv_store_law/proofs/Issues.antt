-- What the events of a log issue, by what is asked.
use Rattle.std.proofs.Common.{List, [], ◌∷◌, Option, None, Some}
use Rattle.mdv_store_law.specs.Changes.{Change}
use Rattle.mdv_store_law.specs.Log.{Adds, ChangesAlone, Clearing, Event, Gone, Issue, IsAskable, IsIssue, Issued, OfChange, OfCreation, OfEnd, OfPlaces, Placing, Told, Writing, Written, asks_of, begun_by}
use Rattle.mdv_store_law.specs.Machine.{AreAll}
use Rattle.mdv_store_law.proofs.Parts.{part_all}

pub issue_weaker : (Which Any : Issue → Type 0) → ((issue : Issue) → Which issue → Any issue) → (e : Event) → IsIssue Which e → IsIssue Any e
issue_weaker Which Any weaker (Issued identity) is = weaker (OfCreation identity) is
issue_weaker Which Any weaker (Writing mark None before table) is = tt
issue_weaker Which Any weaker (Writing mark (Some change) before table) is = weaker (OfChange change) is
issue_weaker Which Any weaker Written is = tt
issue_weaker Which Any weaker (Told which before) is = tt
issue_weaker Which Any weaker (Placing places) is = weaker (OfPlaces places) is
issue_weaker Which Any weaker Clearing is = weaker OfEnd is
issue_weaker Which Any weaker Gone is = tt

-- any change may be
pub any_asked : (asked : Option Change) → IsAskable ChangesAlone asked
any_asked None = tt
any_asked (Some change) = tt

-- what is asked with this one, or with none
pub one_asked : (Which : Issue → Type 0) (asked : Option Change) → IsAskable Which asked → AreAll (IsAskable Which) (asks_of asked)
one_asked Which None is = tt
one_asked Which (Some change) is = (is, tt)

begun_issued : (Which : Issue → Type 0) (es : List Event) → AreAll (IsIssue ChangesAlone) es → AreAll (IsAskable Which) (begun_by es) → AreAll (IsIssue Which) es
begun_issued Which [] alone are = tt
begun_issued Which (Issued identity ∷ es) alone are = absurd alone.0
begun_issued Which (Writing mark None before table ∷ es) alone are = (tt, begun_issued Which es alone.1 are)
begun_issued Which (Writing mark (Some change) before table ∷ es) alone are = (are.0, begun_issued Which es alone.1 are.1)
begun_issued Which (Written ∷ es) alone are = (tt, begun_issued Which es alone.1 are)
begun_issued Which (Told which before ∷ es) alone are = (tt, begun_issued Which es alone.1 are)
begun_issued Which (Placing places ∷ es) alone are = absurd alone.0
begun_issued Which (Clearing ∷ es) alone are = absurd alone.0
begun_issued Which (Gone ∷ es) alone are = (tt, begun_issued Which es alone.1 are)

-- where changes alone are issued, they are those that are asked
pub asked_issued : (Which : Issue → Type 0) (asks told : List (Option Change)) (es : List Event) → Adds ChangesAlone asks told es → AreAll (IsAskable Which) asks → AreAll (IsIssue Which) es
asked_issued Which asks told es adds are = begun_issued Which es adds.issues (part_all (IsAskable Which) (begun_by es) asks adds.begins are)
