-- The one table that a change makes, whichever events of the log it came by; or that one with its change of places over.
use Rattle.std.proofs.Common.{◌≡◌, ◌⊎◌, inl, inr, ⊎_elim, true, false, List, [], ◌∷◌, Option, Some, None, refl, sym, ◌∙◌, ap, subst}
use Rattle.mdv_base.specs.declared.mark.Mark.{Mark}
use Rattle.mdv_store_law.specs.Changes.{AddListed, TellsList, AddPlaces, Change, DropPlaces, FirstPlace, OfPlan}
use Rattle.mdv_store_law.specs.Log as log
use Rattle.mdv_store_law.specs.Log.{IsBegun, IsLog, IsMade, IsSameOrSettled, Log, Version, answered, log_after}
use Rattle.mdv_store_law.specs.Part.{IsPart}
use Rattle.mdv_store_law.proofs.Families.{answered_rising, settled_more}
use Rattle.mdv_store_law.proofs.Logs.{is_log_after}
use Rattle.mdv_change.specs.Change.{table_after}
use Rattle.mdv_config.specs.Lists.{last_of, settled, with_lists}
use Rattle.mdv_growing_law.proofs.Places.{places_apart}
use Rattle.mdv_keeping.proofs.Places.{lists_stay}
use Rattle.mdv_plan.specs.declared.lists.Lists.{Lists}
use Rattle.mdv_plan.specs.declared.lists.Lists.TheVariants.{One}
use Rattle.mdv_plan.specs.declared.table.Table.{Table}
use Rattle.mdv_name.specs.declared.geometry.Geometry.{Geometry}
use Rattle.mdv_volumes.specs.Happening.{MayBeFound}
use Rattle.mdv_volumes.specs.HistoryLaws.{IsAsked}
use Rattle.mdv_volumes.proofs.Found.{newest_found, older_found, only_found}
use Rattle.mdv_engine_law.proofs.Lifting.{asked_change}

-- what a change makes of a table that tells its list is one table
made_one : (g : Geometry) (change : Change) (old a b : Table) → TellsList change → IsMade g (Some change) old a → IsMade g (Some change) old b → a ≡ b
made_one g (OfPlan change) old a b tells one other = one.1.made.after ∙ sym other.1.made.after
made_one g (AddPlaces slices count blocks) old a b tells one other = one ∙ sym other
made_one g (AddListed number) old a b tells one other = absurd tells
made_one g (DropPlaces slices) old a b tells one other = one ∙ sym other
made_one g FirstPlace old a b tells one other = one ∙ sym other

-- once its change of places is over the change makes of it what it made before, or that with that change over
made_over : (g : Geometry) (change : Change) (old new other : Table) → TellsList change → IsMade g (Some change) old new → IsMade g (Some change) (settled old) other → IsSameOrSettled new other
made_over g (OfPlan change) old new other tells made over =
    let apart = places_apart g change old (One (last_of old.plan.lists)) made.1.built made.1.plain in
    let lists : One (last_of old.plan.lists) ≡ One (last_of new.plan.lists) = ap (λ (l : Lists). One (last_of l)) (sym (lists_stay g change old new made.1)) in
    inr (over.1.made.after ∙ apart ∙ ap (with_lists (table_after g old change)) lists ∙ ap (λ (t : Table). with_lists t (One (last_of new.plan.lists))) (sym made.1.made.after))
made_over g (AddPlaces slices count blocks) old new other tells made over = inl (over ∙ sym made)
made_over g (AddListed number) old new other tells made over = absurd tells
made_over g (DropPlaces slices) old new other tells made over = inl (over ∙ sym made)
made_over g FirstPlace old new other tells made over = inl (over ∙ sym made)

made_more : (g : Geometry) (change : Change) (old new from other : Table) → TellsList change → IsMade g (Some change) old new → IsSameOrSettled old from → IsMade g (Some change) from other → IsSameOrSettled new other
made_more g change old new from other tells made (inl same) is = inl (made_one g change old other new tells (subst (λ (t : Table). IsMade g (Some change) t other) same is) made)
made_more g change old new from other tells made (inr over) is = made_over g change old new other tells made (subst (λ (t : Table). IsMade g (Some change) t other) over is)

none_left : (es : List log.Event) (table : Table) → IsPart (log.begun_by es) [] → IsAsked es table → ⊥
none_left es table within is = let asked = asked_change es table is in empty (log.begun_by es) asked.0 within asked.1
  where
    empty : (l : List (Option Change)) (change : Change) → IsPart l [] → IsPart (Some change ∷ []) l → ⊥
    empty [] change within is = is
    empty (x ∷ l) change within is = within

module _ (g : Geometry) (change : Change) (tells : TellsList change) (newest table : Table) (made : IsMade g (Some change) newest table) where
  -- a boot finds this table alone, or it with its change of places over, and there is one
  pub record Alone (lg : Log) : Type 0 where
    pub some : IsBegun lg.family
    pub each : (v : Version) → MayBeFound lg.family v → IsSameOrSettled newest v.table

  never_empty : (f : List Version) → IsBegun f → f ≡ [] → ⊥
  never_empty [] some none = some
  never_empty (v ∷ older) some none = cc (none)

  -- so it is with a table that is written without a change
  written_alone : (lg : Log) (before : List Change) (other : Table) (mark : Mark) → log.MayHappen g lg (log.Writing mark None before other) → Alone lg → Alone (log_after lg (log.Writing mark None before other))
  written_alone lg before other mark may alone = record {
    some = tt;
    each = λ v found. ⊎_elim (λ here. subst (λ (w : Version). IsSameOrSettled newest w.table) here (same may.1)) (λ old. alone.each v old) (older_found (record { mark = mark; table = other; changes = before; is_written = false }) lg.family v found);
  }
    where
      same : log.IsFirst lg.issued lg.family None before other ⊎ log.IsNext g lg.family None before other → IsSameOrSettled newest other
      same (inl first) = absurd (never_empty lg.family alone.some first.none)
      same (inr next) = settled_more newest next.parent.table other (alone.each next.parent (next.one_of, next.not_older)) next.made

  -- and with an answer to it
  answered_alone : (lg : Log) → IsLog g lg → Alone lg → Alone (log_after lg log.Written)
  answered_alone lg is alone = record { some = some lg.family alone.some; each = each lg.family alone.some is.rising alone.each }
    where
      some : (f : List Version) → IsBegun f → IsBegun (answered f)
      some [] begun = begun
      some (v ∷ older) begun = tt

      each : (f : List Version) → IsBegun f → log.IsRising f → ((v : Version) → MayBeFound f v → IsSameOrSettled newest v.table) → (v : Version) → MayBeFound (answered f) v → IsSameOrSettled newest v.table
      each [] begun rising all v found = absurd begun
      each (w ∷ older) begun rising all v found =
          let is = only_found (record w { is_written = true }) older v (answered_rising (w ∷ older) rising) refl found in
          subst (λ (x : Version). IsSameOrSettled newest x.table) (sym is) (all w (newest_found w older rising))

  asked_here : (lg : Log) (mark : Mark) (c : Change) (before : List Change) (other : Table) → log.MayHappen g lg (log.Writing mark (Some c) before other) → Alone lg → c ≡ change → IsSameOrSettled table other
  asked_here lg mark c before other may alone same = by may.1 where
    by : log.IsFirst lg.issued lg.family (Some c) before other ⊎ log.IsNext g lg.family (Some c) before other → IsSameOrSettled table other
    by (inl first) = absurd (cc (first.unasked))
    by (inr next) =
        made_more g change newest table next.parent.table other tells made (alone.each next.parent (next.one_of, next.not_older)) (subst (λ (x : Change). IsMade g (Some x) next.parent.table other) same next.made)

  -- each table that a change makes is that one, or it with its change of places over
  pub asked_is : (lg : Log) (es : List log.Event) → IsLog g lg → Alone lg → log.IsCourse g lg es → IsPart (log.begun_by es) (Some change ∷ []) → (other : Table) → IsAsked es other → IsSameOrSettled table other
  asked_is lg [] is alone course within other asked = absurd asked
  asked_is lg (log.Issued identity ∷ es) is alone course (inl same) other asked = absurd (cc (same.0))
  asked_is lg (log.Issued identity ∷ es) is alone course (inr none) other asked = absurd none
  asked_is lg (log.Writing mark None before written ∷ es) is alone course within other (inl asked) = absurd asked
  asked_is lg (log.Writing mark None before written ∷ es) is alone course within other (inr asked) =
      asked_is (log_after lg (log.Writing mark None before written)) es (is_log_after g lg (log.Writing mark None before written) is course.0) (written_alone lg before written mark course.0 alone) course.1 within other asked
  asked_is lg (log.Writing mark (Some c) before written ∷ es) is alone course (inl same) other (inl asked) =
      subst (IsSameOrSettled table) asked (asked_here lg mark c before written course.0 alone (cc (same.0)))
  asked_is lg (log.Writing mark (Some c) before written ∷ es) is alone course (inl same) other (inr asked) = absurd (none_left es other same.1 asked)
  asked_is lg (log.Writing mark (Some c) before written ∷ es) is alone course (inr none) other asked = absurd none
  asked_is lg (log.Written ∷ es) is alone course within other (inl asked) = absurd asked
  asked_is lg (log.Written ∷ es) is alone course within other (inr asked) = asked_is (log_after lg log.Written) es (is_log_after g lg log.Written is course.0) (answered_alone lg is alone) course.1 within other asked
  asked_is lg (log.Told which before ∷ es) is alone course within other (inl asked) = absurd asked
  asked_is lg (log.Told which before ∷ es) is alone course within other (inr asked) =
      asked_is (log_after lg (log.Told which before)) es (is_log_after g lg (log.Told which before) is course.0) (record { some = alone.some; each = alone.each }) course.1 within other asked
  asked_is lg (log.Placing places ∷ es) is alone course within other (inl asked) = absurd asked
  asked_is lg (log.Placing places ∷ es) is alone course within other (inr asked) =
      asked_is (log_after lg (log.Placing places)) es (is_log_after g lg (log.Placing places) is course.0) (record { some = alone.some; each = alone.each }) course.1 within other asked
  asked_is lg (log.Clearing ∷ es) is alone course within other (inl asked) = absurd asked
  asked_is lg (log.Clearing ∷ es) is alone course within other (inr asked) =
      asked_is (log_after lg log.Clearing) es (is_log_after g lg log.Clearing is course.0) (record { some = alone.some; each = alone.each }) course.1 within other asked
  asked_is lg (log.Gone ∷ es) is alone course within other (inl asked) = absurd asked
  asked_is lg (log.Gone ∷ es) is alone course within other (inr asked) =
      asked_is (log_after lg log.Gone) es (is_log_after g lg log.Gone is course.0) (record { some = alone.some; each = alone.each }) course.1 within other asked
