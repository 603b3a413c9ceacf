-- How logs go on, event by event.
use Rattle.std.proofs.Common.{◌≡◌, ◌<◌, ◌⊎◌, inl, inr, true, false, List, [], ◌∷◌, ◌++◌, slice_index_or, refl, sym, subst, Option, Some, None, All, Contains}
use Rattle.std.proofs.lemmas.List.Elements.{All-nil, All-cons, All-same, All-contains, Contains-get_or}
use Rattle.mdv_store_law.specs.Below.{Mark, Geometry, Table}
use Rattle.mdv_store_law.specs.Changes.{Change}
use Rattle.mdv_store_law.specs.Log.{Again, Version, Log, Event, Issued, Writing, Written, Told, Placing, Clearing, Gone, Lives, IsNotOver, with_asked, log_after, log_after_all, is_firm, IsFirst, IsNext, Extends, IsUntold, IsTellable, MayHappen, IsCourse, told_by, AreMade, IsHeld, IsLog, empty_log}
use Rattle.mdv_store_law.specs.Laws.{CoursesAreLogs}
use Rattle.mdv_store_law.specs.Machine.{AreAll}
use Rattle.mdv_store_law.proofs.Again.{numbered_answered, numbered_more, placed_numbered}
use Rattle.mdv_store_law.proofs.Fates.{BeginsNoEnd, lives_there, never_ends, stays_alive}
use Rattle.mdv_store_law.proofs.Families.{extends_itself, extends_more, extends_asked, made_next, contains_first, contains_behind, extends_written, written_firm, firm_answered, answered_rising, answered_descended, answered_made, answered_held}

-- a table that begins to be written
module _ (g : Geometry) (log : Log) (is : IsLog g log) (mark : Mark) (asked : Option Change) (before : List Change) (table : Table) where
  abbrev pub begun : Version
  begun = record { mark = mark; table = table; changes = with_asked asked before; is_written = false }

  pub begun_made : IsFirst log.issued log.family asked before table ⊎ IsNext g log.family asked before table → AreMade g (with_asked asked before) table
  begun_made (inl first) = rw (first.unasked, first.unchanged) first.empty
  begun_made (inr next) =
      let made = All-contains (λ (v : Version). AreMade g v.changes v.table) log.family next.parent is.made next.one_of in
      made_next g asked before next.parent.table table (subst (λ (c : List Change). AreMade g c next.parent.table) next.changes made) next.made

  pub begun_extends : IsFirst log.issued log.family asked before table ⊎ IsNext g log.family asked before table → All (λ w. w.is_written ≡ true → Extends (with_asked asked before) w.changes) log.family
  begun_extends (inl first) =
      let P = λ (w : Version). w.is_written ≡ true → Extends (with_asked asked before) w.changes in
      All-same P log.family [] first.none (All-nil P)
  begun_extends (inr next) = λ k d lt written.
      let w = slice_index_or log.family k d in
      let parent_has = extends_written log.family next.parent w is.rising is.descended next.one_of (Contains-get_or log.family k d lt) written (next.not_older k d lt written) in
      extends_more (with_asked asked before) before w.changes (extends_asked asked before) (subst (λ (c : List Change). Extends c w.changes) next.changes parent_has)

  pub begun_held : (told : List Change) → IsHeld log.family told → IsHeld (begun ∷ log.family) told
  begun_held told held = record { by = held.by; one_of = contains_behind begun held.by log.family held.one_of; written = held.written; has = held.has }

-- what is told the newest table has
module _ (log : Log) (which before : List Change) (may : IsTellable log which before) where
  told_held : (told : List Change) → Some (which ++ before) ≡ Some told → IsHeld log.family told
  told_held told is =
      let same : which ++ before ≡ told = cc (is) in
      record {
        by = may.newest;
        one_of = subst (λ (f : List Version). Contains f may.newest) (sym may.family) (contains_first may.newest may.older);
        written = may.written;
        has = subst (λ (c : List Change). Extends may.newest.changes c) same (record { more = may.later; is = may.changes });
      }

  told_extends : (told : List Change) → log.acknowledged ≡ Some told → Extends (which ++ before) told
  told_extends told is = extends_more (which ++ before) before told (record { more = which; is = refl }) (subst (λ (o : Option (List Change)). IsUntold o before) is may.untold)

-- nothing was ever written
pub empty_is_log : (g : Geometry) → IsLog g empty_log
empty_is_log g = record {
  rising = tt;
  made = All-nil (λ (v : Version). AreMade g v.changes v.table);
  descended = tt;
  held = λ told same. absurd (cc (same));
  numbered = All-nil (λ (a : Again). a.number < 0);
  was_there = λ gone. absurd (gone refl);
}

pub is_log_after : (g : Geometry) (log : Log) (e : Event) → IsLog g log → MayHappen g log e → IsLog g (log_after log e)
is_log_after g log (Issued identity) is may = record {
  rising = tt;
  made = All-nil (λ (v : Version). AreMade g v.changes v.table);
  descended = tt;
  held = λ told same. absurd (cc (same));
  numbered = All-nil (λ (a : Again). a.number < 0);
  was_there = λ gone. absurd (gone refl);
}
is_log_after g log (Writing mark asked before table) is may = record {
  rising = (may.0.0, is.rising);
  made = All-cons (λ (v : Version). AreMade g v.changes v.table) (begun g log is mark asked before table) log.family (begun_made g log is mark asked before table may.1) is.made;
  descended = (begun_extends g log is mark asked before table may.1, is.descended);
  held = λ told same. begun_held g log is mark asked before table told (is.held told same);
  numbered = numbered_more log.family (begun g log is mark asked before table) log.again is.numbered;
  was_there = λ gone. absurd (gone refl);
}
is_log_after g log Written is may = record {
  rising = answered_rising log.family is.rising;
  made = answered_made g log.family is.made;
  descended = answered_descended log.family is.descended;
  held = λ told same. answered_held log.family told (is.held told same);
  numbered = numbered_answered log.family log.again is.numbered;
  was_there = λ gone. firm_answered log.family (is.was_there gone);
}
is_log_after g log (Told which before) is may = record {
  rising = is.rising;
  made = is.made;
  descended = is.descended;
  held = told_held log which before may;
  numbered = is.numbered;
  was_there = is.was_there;
}
is_log_after g log (Placing places) is may = record {
  rising = is.rising;
  made = is.made;
  descended = is.descended;
  held = is.held;
  numbered = placed_numbered log places may is.numbered;
  was_there = is.was_there;
}
is_log_after g log Clearing is may = record {
  rising = is.rising;
  made = is.made;
  descended = is.descended;
  held = is.held;
  numbered = is.numbered;
  was_there = λ gone. written_firm log.family may.newest (subst (λ (f : List Version). Contains f may.newest) (sym may.is) (contains_first may.newest may.older)) may.written;
}
is_log_after g log Gone is may = record {
  rising = is.rising;
  made = is.made;
  descended = is.descended;
  held = is.held;
  numbered = is.numbered;
  was_there = λ gone. is.was_there (λ lives. never_ends log.fate lives may);
}

pub is_log_after_all : (g : Geometry) (log : Log) (es : List Event) → IsLog g log → IsCourse g log es → IsLog g (log_after_all log es)
is_log_after_all g log [] is course = is
is_log_after_all g log (e ∷ es) is course = is_log_after_all g (log_after log e) es (is_log_after g log e is course.0) course.1

pub courses_are_logs : CoursesAreLogs
courses_are_logs = is_log_after_all

-- what was told is firm
pub told_firm : (g : Geometry) (log : Log) (told : List Change) → IsLog g log → log.acknowledged ≡ Some told → is_firm log ≡ true
told_firm g log told is same = let held = is.held told same in written_firm log.family held.by held.one_of held.written

-- a firm log stays firm, unless it is over: then another creation may be issued
pub firm_stays : (g : Geometry) (log : Log) (e : Event) → MayHappen g log e → IsNotOver log.fate → is_firm log ≡ true → is_firm (log_after log e) ≡ true
firm_stays g log (Issued identity) (inl loose) there firm = absurd (cc (firm, loose))
firm_stays g log (Issued identity) (inr over) there firm = absurd (there over)
firm_stays g log (Writing mark asked before table) may there firm = firm
firm_stays g log Written may there firm = firm_answered log.family firm
firm_stays g log (Told which before) may there firm = firm
firm_stays g log (Placing places) may there firm = firm
firm_stays g log Clearing may there firm = firm
firm_stays g log Gone may there firm = firm

-- so does one that lives, as long as no end of it begins
pub firm_stays_all : (g : Geometry) (log : Log) (es : List Event) → IsCourse g log es → AreAll BeginsNoEnd es → log.fate ≡ Lives → is_firm log ≡ true → is_firm (log_after_all log es) ≡ true
firm_stays_all g log [] course none lives firm = firm
firm_stays_all g log (e ∷ es) course none lives firm =
    firm_stays_all g (log_after log e) es course.1 none.1 (stays_alive g log e course.0 none.0 lives) (firm_stays g log e course.0 (lives_there log.fate lives) firm)

-- what was told stays so, and more may be, as long as no end of what lives begins
pub told_stays : (g : Geometry) (log : Log) (es : List Event) (told : List Change) → IsLog g log → IsCourse g log es → AreAll BeginsNoEnd es → log.fate ≡ Lives → log.acknowledged ≡ Some told
    → (later : List Change) × ((log_after_all log es).acknowledged ≡ Some later) × Extends later told
told_stays g log [] told is course none lives same = (told, same, extends_itself told)
told_stays g log (e ∷ es) told is course none lives same =
    let here = told_after g log e told is course.0 lives same in
    let rest = told_stays g (log_after log e) es here.0 (is_log_after g log e is course.0) course.1 none.1 (stays_alive g log e course.0 none.0 lives) here.1 in
    (rest.0, rest.1, extends_more rest.0 here.0 told rest.2 here.2)
  where
    told_after : (g : Geometry) (log : Log) (e : Event) (told : List Change) → IsLog g log → MayHappen g log e → log.fate ≡ Lives → log.acknowledged ≡ Some told
        → (later : List Change) × ((log_after log e).acknowledged ≡ Some later) × Extends later told
    told_after g log (Issued identity) told is (inl loose) lives same = absurd (let firm = told_firm g log told is same in cc (firm, loose))
    told_after g log (Issued identity) told is (inr over) lives same = absurd (lives_there log.fate lives over)
    told_after g log (Writing mark asked before table) told is may lives same = (told, same, extends_itself told)
    told_after g log Written told is may lives same = (told, same, extends_itself told)
    told_after g log (Told which before) told is may lives same = (which ++ before, refl, told_extends log which before may told same)
    told_after g log (Placing places) told is may lives same = (told, same, extends_itself told)
    told_after g log Clearing told is may lives same = (told, same, extends_itself told)
    told_after g log Gone told is may lives same = (told, same, extends_itself told)

-- where a creation or a change is told of what lives, changes are told in the end
pub told_acknowledges : (g : Geometry) (log : Log) (es : List Event) → IsLog g log → IsCourse g log es → AreAll BeginsNoEnd es → log.fate ≡ Lives → (told_by es ≡ [] → ⊥) → (later : List Change) × ((log_after_all log es).acknowledged ≡ Some later)
told_acknowledges g log [] is course none lives some = absurd (some refl)
told_acknowledges g log (Issued identity ∷ es) is course none lives some = told_acknowledges g (log_after log (Issued identity)) es (is_log_after g log (Issued identity) is course.0) course.1 none.1 refl some
told_acknowledges g log (Writing mark asked before table ∷ es) is course none lives some = told_acknowledges g (log_after log (Writing mark asked before table)) es (is_log_after g log (Writing mark asked before table) is course.0) course.1 none.1 refl some
told_acknowledges g log (Written ∷ es) is course none lives some = told_acknowledges g (log_after log Written) es (is_log_after g log Written is course.0) course.1 none.1 lives some
told_acknowledges g log (Told which before ∷ es) is course none lives some =
    let rest = told_stays g (log_after log (Told which before)) es (which ++ before) (is_log_after g log (Told which before) is course.0) course.1 none.1 lives refl in
    (rest.0, rest.1)
told_acknowledges g log (Placing places ∷ es) is course none lives some = told_acknowledges g (log_after log (Placing places)) es (is_log_after g log (Placing places) is course.0) course.1 none.1 lives some
told_acknowledges g log (Clearing ∷ es) is course none lives some = absurd none.0
told_acknowledges g log (Gone ∷ es) is course none lives some = absurd (never_ends log.fate lives course.0)

pub told_is_acknowledged : (g : Geometry) (log : Log) (es : List Event) → IsLog g log → IsCourse g log es → AreAll BeginsNoEnd es → log.fate ≡ Lives → (told_by es ≡ [] → ⊥) → (log_after_all log es).acknowledged ≡ None → ⊥
told_is_acknowledged g log es is course none lives some nothing = let told = told_acknowledges g log es is course none lives some in cc (told.1, nothing)
