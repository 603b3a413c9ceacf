-- A change of places leaves the volumes: each table that it makes has those of the open one.
use Rattle.std.proofs.Common.{◌≡◌, ◌⊎◌, inl, inr, ⊎_elim, true, false, List, [], ◌∷◌, Option, Some, None, refl, sym, ◌∙◌, ap, subst}
use Rattle.mdv_base.specs.declared.mark.Mark.{Mark}
use Rattle.mdv_layout_law.proofs.Telling.{volumes_tell}
use Rattle.mdv_store_law.specs.Changes.{AddListed, AddPlaces, Change, DropPlaces, FirstPlace, KeepsPlaces, OfPlan}
use Rattle.mdv_store_law.specs.Log as log
use Rattle.mdv_store_law.specs.Log.{IsBegun, IsLog, IsMade, Log, Version, answered, log_after}
use Rattle.mdv_store_law.specs.Machine.{AreAll}
use Rattle.mdv_store_law.proofs.Families.{answered_rising}
use Rattle.mdv_store_law.proofs.Logs.{is_log_after}
use Rattle.mdv_volumes.specs.Happening.{MayBeFound}
use Rattle.mdv_volumes.specs.HistoryLaws.{AreLater, IsAsked}
use Rattle.mdv_volumes.proofs.Found.{newest_found, older_found, only_found}
use Rattle.mdv_engine_law.specs.Below.{Geometry, IsMapOf, Map, Table, VolId, Volume}

-- it moves places, or there is none
abbrev pub MovesPlaces : Option Change → Type 0
MovesPlaces None = Unit {0}
MovesPlaces (Some change) = KeepsPlaces change → ⊥

pub volumes_made : (g : Geometry) (asked : Option Change) (old new : Table) → MovesPlaces asked → IsMade g asked old new → new.plan.volumes ≡ old.plan.volumes
volumes_made g None old new moves (inl same) = ap (λ (t : Table). t.plan.volumes) same
volumes_made g None old new moves (inr over) = ap (λ (t : Table). t.plan.volumes) over
volumes_made g (Some (OfPlan change)) old new moves made = absurd (moves tt)
volumes_made g (Some (AddPlaces slices count blocks)) old new moves made = ap (λ (t : Table). t.plan.volumes) made
volumes_made g (Some (AddListed number)) old new moves made = ap (λ (t : Table). t.plan.volumes) made.is
volumes_made g (Some (DropPlaces slices)) old new moves made = ap (λ (t : Table). t.plan.volumes) made
volumes_made g (Some FirstPlace) old new moves made = ap (λ (t : Table). t.plan.volumes) made

-- where the volumes are the same they lie where they lay
pub map_alike : (g : Geometry) (a b : Table) → a.plan.volumes ≡ b.plan.volumes → (volume : VolId) (v : Map) → IsMapOf g a volume v → IsMapOf g b volume v
map_alike g a b same volume v lies = sym (volumes_tell g a b volume same) ∙ lies

module _ (g : Geometry) (vs : List Volume) where
  -- each table that a boot may find has these volumes
  abbrev HaveThese : List Version → Type 0
  HaveThese family = (v : Version) → MayBeFound family v → v.table.plan.volumes ≡ vs

  never_empty : (f : List Version) → IsBegun f → f ≡ [] → ⊥
  never_empty [] some none = some
  never_empty (v ∷ older) some none = cc (none)

  -- so has one that comes of them
  next_volumes : (lg : Log) (mark : Mark) (asked : Option Change) (before : List Change) (table : Table) → MovesPlaces asked → IsBegun lg.family → HaveThese lg.family → log.MayHappen g lg (log.Writing mark asked before table) → table.plan.volumes ≡ vs
  next_volumes lg mark asked before table moves begun have may = by may.1 where
    by : log.IsFirst lg.issued lg.family asked before table ⊎ log.IsNext g lg.family asked before table → table.plan.volumes ≡ vs
    by (inl first) = absurd (never_empty lg.family begun first.none)
    by (inr next) = volumes_made g asked next.parent.table table moves next.made ∙ have next.parent (next.one_of, next.not_older)

  written_have : (lg : Log) (mark : Mark) (asked : Option Change) (before : List Change) (table : Table) → table.plan.volumes ≡ vs → HaveThese lg.family → HaveThese (log_after lg (log.Writing mark asked before table)).family
  written_have lg mark asked before table same have v found =
      ⊎_elim (λ here. ap (λ (w : Version). w.table.plan.volumes) (sym here) ∙ same) (λ old. have v old) (older_found (record { mark = mark; table = table; changes = log.with_asked asked before; is_written = false }) lg.family v found)

  answered_begun : (f : List Version) → IsBegun f → IsBegun (answered f)
  answered_begun [] begun = begun
  answered_begun (v ∷ older) begun = tt

  answered_have : (f : List Version) → IsBegun f → log.IsRising f → HaveThese f → HaveThese (answered f)
  answered_have [] begun rising have v found = absurd begun
  answered_have (w ∷ older) begun rising have v found =
      let is = only_found (record w { is_written = true }) older v (answered_rising (w ∷ older) rising) refl found in
      ap (λ (x : Version). x.table.plan.volumes) is ∙ have w (newest_found w older rising)

  -- each table that a change of places makes has them
  pub asked_volumes : (lg : Log) (es : List log.Event) → IsLog g lg → IsBegun lg.family → HaveThese lg.family → log.IsCourse g lg es → AreLater es → AreAll MovesPlaces (log.begun_by es) → (other : Table) → IsAsked es other → other.plan.volumes ≡ vs
  asked_volumes lg [] is begun have course later moves other asked = absurd asked
  asked_volumes lg (log.Issued identity ∷ es) is begun have course later moves other asked = absurd later.0
  asked_volumes lg (log.Writing mark None before table ∷ es) is begun have course later moves other (inl asked) = absurd asked
  asked_volumes lg (log.Writing mark None before table ∷ es) is begun have course later moves other (inr asked) =
      let e = log.Writing mark None before table in
      asked_volumes (log_after lg e) es (is_log_after g lg e is course.0) tt (written_have lg mark None before table (next_volumes lg mark None before table tt begun have course.0) have) course.1 later.1 moves other asked
  asked_volumes lg (log.Writing mark (Some c) before table ∷ es) is begun have course later moves other (inl asked) =
      subst (λ (x : Table). x.plan.volumes ≡ vs) asked (next_volumes lg mark (Some c) before table moves.0 begun have course.0)
  asked_volumes lg (log.Writing mark (Some c) before table ∷ es) is begun have course later moves other (inr asked) =
      let e = log.Writing mark (Some c) before table in
      asked_volumes (log_after lg e) es (is_log_after g lg e is course.0) tt (written_have lg mark (Some c) before table (next_volumes lg mark (Some c) before table moves.0 begun have course.0) have) course.1 later.1 moves.1 other asked
  asked_volumes lg (log.Written ∷ es) is begun have course later moves other (inl asked) = absurd asked
  asked_volumes lg (log.Written ∷ es) is begun have course later moves other (inr asked) =
      asked_volumes (log_after lg log.Written) es (is_log_after g lg log.Written is course.0) (answered_begun lg.family begun) (answered_have lg.family begun is.rising have) course.1 later.1 moves other asked
  asked_volumes lg (log.Told which before ∷ es) is begun have course later moves other (inl asked) = absurd asked
  asked_volumes lg (log.Told which before ∷ es) is begun have course later moves other (inr asked) =
      asked_volumes (log_after lg (log.Told which before)) es (is_log_after g lg (log.Told which before) is course.0) begun have course.1 later.1 moves other asked
  asked_volumes lg (log.Placing places ∷ es) is begun have course later moves other (inl asked) = absurd asked
  asked_volumes lg (log.Placing places ∷ es) is begun have course later moves other (inr asked) =
      asked_volumes (log_after lg (log.Placing places)) es (is_log_after g lg (log.Placing places) is course.0) begun have course.1 later.1 moves other asked
  asked_volumes lg (log.Clearing ∷ es) is begun have course later moves other (inl asked) = absurd asked
  asked_volumes lg (log.Clearing ∷ es) is begun have course later moves other (inr asked) =
      asked_volumes (log_after lg log.Clearing) es (is_log_after g lg log.Clearing is course.0) begun have course.1 later.1 moves other asked
  asked_volumes lg (log.Gone ∷ es) is begun have course later moves other (inl asked) = absurd asked
  asked_volumes lg (log.Gone ∷ es) is begun have course later moves other (inr asked) =
      asked_volumes (log_after lg log.Gone) es (is_log_after g lg log.Gone is course.0) begun have course.1 later.1 moves other asked
