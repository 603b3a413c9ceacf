-- The tables of a log that lines may have come to: each that a boot may find is one of these, but for its places, and so it stays as the log goes on.
use Rattle.std.proofs.Common.{◌≡◌, ◌⊎◌, inl, inr, true, List, [], ◌∷◌, Option, Some, None, refl, sym, ◌∙◌, subst}
use Rattle.std.proofs.lemmas.Bool.{false≢true}
use Rattle.std.specs.List.{list_any}
use Rattle.mdv_change.specs.declared.change.Change.{Change as PlanChange}
use Rattle.mdv_config.specs.Lists.{with_lists}
use Rattle.mdv_name.specs.declared.geometry.Geometry.{Geometry}
use Rattle.mdv_plan.specs.Table.{empty_table}
use Rattle.mdv_plan.specs.declared.lists.Lists.TheVariants.{One}
use Rattle.mdv_plan.specs.declared.table.Table.{Table}
use Rattle.mdv_store_law.specs.Changes.{Change, IsMadeBy, OfPlan}
use Rattle.mdv_store_law.specs.Log.{Clearing, Event, Gone, IsAskable, IsCourse, IsFirst, IsLog, IsNext, IsRising, Issue, Issued, Lives, Log, MayHappen, OfChange, Placing, Told, Version, Writing, Written, begins, begun_by, is_firm, log_after, log_after_all}
use Rattle.mdv_store_law.specs.Machine.{AreAll}
use Rattle.mdv_store_law.specs.Part.{IsPart}
use Rattle.mdv_store_law.proofs.Families.{firm_answered}
use Rattle.mdv_store_law.proofs.Fates.{BeginsNoEnd, lives_there, never_ends}
use Rattle.mdv_store_law.proofs.Logs.{is_log_after}
use Rattle.mdv_volumes.specs.Happening.{MayBeFound}
use Rattle.mdv_volumes.proofs.Found.{AllFound, asked_one, begun_found, newest_found, none_found, written_found}
use Rattle.mdv_volumes.proofs.Lists.{all_front, all_rest}

-- the table, but for its places
abbrev pub bare : Table → Table
bare t = with_lists t (One [])

-- none of these changes is asked
abbrev pub NoChange : Issue → Type 0
NoChange issue = ⊥

-- of nothing nothing is a part
pub none_of : {X : Type 0} (Is : X → Type 0) (xs : List X) → IsPart xs [] → AreAll Is xs
none_of Is [] part = tt
none_of Is (x ∷ xs) part = absurd part

module _ (May : Table → Type 0) where
  -- where an end begins, the table may be that of no database
  abbrev pub MayEnd : Event → Type 0
  MayEnd (Issued identity) = Unit {0}
  MayEnd (Writing mark asked before table) = Unit {0}
  MayEnd Written = Unit {0}
  MayEnd (Told which before) = Unit {0}
  MayEnd (Placing places) = Unit {0}
  MayEnd Clearing = (old : Table) → May old → May (empty_table [])
  MayEnd Gone = Unit {0}

  pub no_ends : (es : List Event) → AreAll BeginsNoEnd es → AreAll MayEnd es
  no_ends [] none = tt
  no_ends (e ∷ es) none = (by e none.0, no_ends es none.1) where
    by : (e : Event) → BeginsNoEnd e → MayEnd e
    by (Issued identity) never = tt
    by (Writing mark asked before table) never = tt
    by Written never = tt
    by (Told which before) never = tt
    by (Placing places) never = tt
    by Clearing never = absurd never
    by Gone never = tt

  pub all_end : ((old : Table) → May old → May (empty_table [])) → (es : List Event) → AreAll MayEnd es
  all_end ends [] = tt
  all_end ends (e ∷ es) = (by e, all_end ends es) where
    by : (e : Event) → MayEnd e
    by (Issued identity) = tt
    by (Writing mark asked before table) = tt
    by Written = tt
    by (Told which before) = tt
    by (Placing places) = tt
    by Clearing = ends
    by Gone = tt

  abbrev pub Bare : Table → Type 0
  Bare t = May (bare t)

  module _ (g : Geometry) where
    -- Each table that a boot may find by the log may be, and that of no database, where no table's write was answered, or its database is about to go.
    pub record AreReached (lg : Log) : Type 0 where
      pub is_log : IsLog g lg
      pub each : AllFound Bare lg.family
      pub none : (lg.fate ≡ Lives → is_firm lg ≡ true → ⊥) → May (empty_table [])

    -- Events that begin such changes alone leave it.
    module _ (Which : Issue → Type 0) (stays : (change : Change) (old next : Table) → Which (OfChange change) → IsMadeBy g change old next → Bare old → Bare next) where
      next_reached : (lg : Log) (asked : Option Change) (before : List Change) (table : Table) → IsAskable Which asked → AreReached lg → IsFirst lg.issued lg.family asked before table ⊎ IsNext g lg.family asked before table → Bare table
      next_reached lg asked before table may are (inl first) =
          let loose : is_firm lg ≡ true → ⊥ = λ firm. false≢true (subst (λ (f : List Version). list_any (λ v. v.is_written) f ≡ true) first.none firm) in
          subst Bare (sym first.empty.1) (are.none (λ lives firm. loose firm))
      next_reached lg None before table may are (inr next) =
          let was : Bare next.parent.table = are.each next.parent (next.one_of, next.not_older) in
          elim next.made [
            | inl same ↦ subst Bare (sym same) was
            | inr over ↦ subst Bare (sym over) was
          ]
      next_reached lg (Some change) before table may are (inr next) = stays change next.parent.table table may next.made (are.each next.parent (next.one_of, next.not_older))

      pub reached_step : (lg : Log) (e : Event) → MayHappen g lg e → AreAll (IsAskable Which) (begins e) → MayEnd e → AreReached lg → AreReached (log_after lg e)
      reached_step lg (Issued identity) may asks ends are = record {
        is_log = is_log_after g lg (Issued identity) are.is_log may;
        each = λ v found. absurd (none_found v found);
        none = λ free. are.none (λ lives firm. elim may [ inl loose ↦ false≢true (sym loose ∙ firm) | inr over ↦ lives_there lg.fate lives over ]);
      }
      reached_step lg (Writing mark asked before table) may asks ends are = record {
        is_log = is_log_after g lg (Writing mark asked before table) are.is_log may;
        each = begun_found Bare lg mark asked before table (next_reached lg asked before table (asked_one Which asked asks) are may.1) are.each;
        none = λ free. are.none (λ lives firm. free refl firm);
      }
      reached_step lg Written may asks ends are = record {
        is_log = is_log_after g lg Written are.is_log may;
        each = written_found Bare lg.family may are.each;
        none = λ free. are.none (λ lives firm. free lives (firm_answered lg.family firm));
      }
      reached_step lg (Told which before) may asks ends are = record { is_log = is_log_after g lg (Told which before) are.is_log may; each = are.each; none = are.none }
      reached_step lg (Placing places) may asks ends are = record { is_log = is_log_after g lg (Placing places) are.is_log may; each = are.each; none = are.none }
      reached_step lg Clearing may asks ends are = record {
        is_log = is_log_after g lg Clearing are.is_log may;
        each = are.each;
        none = λ free.
            let found = newest_found may.newest may.older (subst IsRising may.is are.is_log.rising) in
            ends (bare may.newest.table) (are.each may.newest (subst (λ (f : List Version). MayBeFound f may.newest) (sym may.is) found));
      }
      reached_step lg Gone may asks ends are = record {
        is_log = is_log_after g lg Gone are.is_log may;
        each = are.each;
        none = λ free. are.none (λ lives firm. never_ends lg.fate lives may);
      }

      pub reached_all : (lg : Log) (es : List Event) → IsCourse g lg es → AreAll (IsAskable Which) (begun_by es) → AreAll MayEnd es → AreReached lg → AreReached (log_after_all lg es)
      reached_all lg [] course asks ends are = are
      reached_all lg (e ∷ es) course asks ends are =
          reached_all (log_after lg e) es course.1 (all_rest (IsAskable Which) (begins e) (begun_by es) asks) ends.1
          (reached_step lg e course.0 (all_front (IsAskable Which) (begins e) (begun_by es) asks) ends.0 are)

-- Events that begin one change of volumes, once, or none, lead from tables that may be to those that may be behind it.
module _ (g : Geometry) (May More : Table → Type 0) (more : (t : Table) → May t → More t) (change : PlanChange) (Which : Issue → Type 0)
    (makes : (old next : Table) → Which (OfChange (OfPlan change)) → IsMadeBy g (OfPlan change) old next → Bare May old → Bare More next) where
  pub reached_more : (lg : Log) → AreReached May g lg → AreReached More g lg
  reached_more lg are = record { is_log = are.is_log; each = λ v found. more (bare v.table) (are.each v found); none = λ free. more (empty_table []) (are.none free) }

  never_made : (c : Change) (old next : Table) → NoChange (OfChange c) → IsMadeBy g c old next → Bare May old → Bare May next
  never_made c old next never = absurd never

  never_more : (c : Change) (old next : Table) → NoChange (OfChange c) → IsMadeBy g c old next → Bare More old → Bare More next
  never_more c old next never = absurd never

  -- an event that begins no change, before it
  before_step : (lg : Log) (e : Event) → MayHappen g lg e → AreAll (IsAskable NoChange) (begins e) → BeginsNoEnd e → AreReached May g lg → AreReached May g (log_after lg e)
  before_step lg e may none no_end are = reached_step May g NoChange never_made lg e may none (no_ends May (e ∷ []) (no_end, tt)).0 are

  -- that which begins it
  made_here : (lg : Log) (asked : Change) (before : List Change) (table : Table) → asked ≡ OfPlan change → Which (OfChange asked) → AreReached May g lg → IsFirst lg.issued lg.family (Some asked) before table ⊎ IsNext g lg.family (Some asked) before table → Bare More table
  made_here lg asked before table same which are (inl first) = (let never : Some asked ≡ None = first.unasked in absurd (cc never))
  made_here lg asked before table same which are (inr next) =
      makes next.parent.table table (subst (λ (c : Change). Which (OfChange c)) same which) (subst (λ (c : Change). IsMadeBy g c next.parent.table table) same next.made) (are.each next.parent (next.one_of, next.not_older))

  pub reached_once : (lg : Log) (es : List Event) → IsCourse g lg es → IsPart (begun_by es) (Some (OfPlan change) ∷ []) → AreAll (IsAskable Which) (begun_by es) → AreAll BeginsNoEnd es → AreReached May g lg → AreReached More g (log_after_all lg es)
  reached_once lg [] course part asks none are = reached_more lg are
  reached_once lg (Issued identity ∷ es) course part asks none are = elim part [
    | inl is ↦ (let never : ◌≡◌ {A = Option Change} None (Some (OfPlan change)) = is.0 in absurd (cc never))
    | inr never ↦ absurd never
  ]
  reached_once lg (Writing mark None before table ∷ es) course part asks none are =
      reached_once (log_after lg (Writing mark None before table)) es course.1 part asks none.1 (before_step lg (Writing mark None before table) course.0 tt tt are)
  reached_once lg (Writing mark (Some asked) before table ∷ es) course part asks none are = elim part [
    | inl is ↦
        let same : asked ≡ OfPlan change = (let both : Some asked ≡ Some (OfPlan change) = is.0 in cc both) in
        let next = log_after lg (Writing mark (Some asked) before table) in
        let here : AreReached More g next = record {
          is_log = is_log_after g lg (Writing mark (Some asked) before table) are.is_log course.0;
          each = begun_found (Bare More) lg mark (Some asked) before table (made_here lg asked before table same asks.0 are course.0.1) (λ v found. more (bare v.table) (are.each v found));
          none = λ free. more (empty_table []) (are.none (λ lives firm. free refl firm));
        } in
        reached_all More g NoChange never_more next es course.1 (none_of (IsAskable NoChange) (begun_by es) is.1) (no_ends More es none.1) here
    | inr never ↦ absurd never
  ]
  reached_once lg (Written ∷ es) course part asks none are = reached_once (log_after lg Written) es course.1 part asks none.1 (before_step lg Written course.0 tt tt are)
  reached_once lg (Told which before ∷ es) course part asks none are = reached_once (log_after lg (Told which before)) es course.1 part asks none.1 (before_step lg (Told which before) course.0 tt tt are)
  reached_once lg (Placing places ∷ es) course part asks none are = reached_once (log_after lg (Placing places)) es course.1 part asks none.1 (before_step lg (Placing places) course.0 tt tt are)
  reached_once lg (Clearing ∷ es) course part asks none are = absurd none.0
  reached_once lg (Gone ∷ es) course part asks none are = reached_once (log_after lg Gone) es course.1 part asks none.1 (before_step lg Gone course.0 tt tt are)
