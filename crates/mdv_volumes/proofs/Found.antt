-- Which tables a boot may find, as a log goes on.
use Rattle.std.proofs.Common.{◌≡◌, ◌⊎◌, inl, inr, ⊎_elim, true, false, List, [], ◌∷◌, Option, Some, None, All, Contains, refl, sym, ap, subst, arith}
use Rattle.std.specs.List.{list_any}
use Rattle.std.proofs.lemmas.List.Elements.{All-cons, All-contains, All-head, All-tail}
use Rattle.mdv_base.specs.Mark.{IsBelow}
use Rattle.mdv_base.specs.declared.mark.Mark.{Mark}
use Rattle.mdv_store_law.specs.Log as log
use Rattle.mdv_store_law.specs.Log.{IsAskable, IsEmpty, IsLog, IsMade, IsNotOlder, IsRising, Issue, Log, Version, answered, is_firm, log_after}
use Rattle.mdv_store_law.specs.Machine.{AreAll}
use Rattle.mdv_store_law.proofs.Families.{contains_behind, contains_cases, contains_first, written_firm}
use Rattle.mdv_store_law.proofs.Fates.{BeginsNoEnd, lives_there, stays_alive, stays_alive_all}
use Rattle.mdv_store_law.proofs.Logs.{firm_stays, firm_stays_all, is_log_after, is_log_after_all}
use Rattle.mdv_config.specs.Lists.{settled}
use Rattle.mdv_volumes.specs.Below.{Change, Geometry, Table}
use Rattle.mdv_volumes.specs.Happening.{MayBeFound}
use Rattle.mdv_volumes.specs.HistoryLaws.{AsksTable, IsAsked}
use Rattle.mdv_volumes.proofs.Lists.{all_front, all_rest}

never_both : (a b : Mark) → IsBelow a b → IsBelow b a → ⊥
never_both a b (inl lt) (inl gt) = omega (arith, lt, gt)
never_both a b (inl lt) (inr gt) = omega (arith, lt, gt.0)
never_both a b (inr lt) (inl gt) = omega (arith, lt.0, gt)
never_both a b (inr lt) (inr gt) = omega (arith, lt.1, gt.1)

pub newest_found : (newest : Version) (older : List Version) → IsRising (newest ∷ older) → MayBeFound (newest ∷ older) newest
newest_found newest older rising = (
  contains_first newest older,
  All-cons (λ (v : Version). v.is_written ≡ true → IsBelow newest.mark v.mark → ⊥) newest older (λ written below. never_both newest.mark newest.mark below below)
      (λ k d lt written below. never_both newest.mark _ below (rising.0 k d lt)),
)

-- where the newest was written a boot finds that one
pub only_found : (newest : Version) (older : List Version) (v : Version) → IsRising (newest ∷ older) → newest.is_written ≡ true → MayBeFound (newest ∷ older) v → v ≡ newest
only_found newest older v rising written found = ⊎_elim (λ here. sym here)
    (λ behind. absurd (All-head (λ (w : Version). w.is_written ≡ true → IsBelow v.mark w.mark → ⊥) newest older found.1 written (All-contains (λ (w : Version). IsBelow w.mark newest.mark) older v rising.0 behind)))
    (contains_cases newest v older found.0)

-- what is found behind one table more is that one, or was found before
pub older_found : (v : Version) (older : List Version) (w : Version) → MayBeFound (v ∷ older) w → (v ≡ w) ⊎ MayBeFound older w
older_found v older w found = ⊎_elim (λ here. inl here) (λ behind. inr (behind, All-tail (λ (x : Version). x.is_written ≡ true → IsBelow w.mark x.mark → ⊥) v older found.1)) (contains_cases v w older found.0)

abbrev NotOver : Version → Version → Type 0
NotOver v w = w.is_written ≡ true → IsBelow v.mark w.mark → ⊥

-- an answer makes none one that a boot may find
found_before : (newest : Version) (older : List Version) (v : Version) → MayBeFound (record newest { is_written = true } ∷ older) v → (w : Version) × MayBeFound (newest ∷ older) w × (w.table ≡ v.table)
found_before newest older v found = ⊎_elim
    (λ here. (
      newest,
      (
        contains_first newest older,
        All-cons (NotOver newest) newest older (λ written below. never_both newest.mark newest.mark below below)
            (subst (λ (m : Mark). All (λ (w : Version). w.is_written ≡ true → IsBelow m w.mark → ⊥) older) (ap (λ (w : Version). w.mark) (sym here)) rest),
      ),
      ap (λ (w : Version). w.table) here,
    ))
    (λ behind. (v, (contains_behind newest v older behind, All-cons (NotOver v) newest older (λ written. All-head (NotOver v) then older found.1 refl) rest), refl))
    (contains_cases then v older found.0)
  where
    then : Version
    then = record newest { is_written = true }

    rest : All (NotOver v) older
    rest = All-tail (NotOver v) then older found.1

pub none_found : (v : Version) → MayBeFound [] v → ⊥
none_found v found = omega (arith, found.0.1)

module _ (P : Table → Type 0) where
  abbrev pub AllFound : List Version → Type 0
  AllFound family = (v : Version) → MayBeFound family v → P v.table

  pub written_found : (family : List Version) → log.IsBegun family → AllFound family → AllFound (answered family)
  written_found [] begun all v found = absurd begun
  written_found (newest ∷ older) begun all v found = let was = found_before newest older v found in subst P was.2 (all was.0 was.1)

  pub begun_found : (lg : Log) (mark : Mark) (asked : Option Change) (before : List Change) (table : Table) → P table → AllFound lg.family → AllFound (log_after lg (log.Writing mark asked before table)).family
  begun_found lg mark asked before table here all v found = ⊎_elim (λ new. subst P (ap (λ (w : Version). w.table) new) here) (λ old. all v old)
      (older_found (record { mark = mark; table = table; changes = log.with_asked asked before; is_written = false }) lg.family v found)

module _ (g : Geometry) (P : Table → Type 0) (none : (table : Table) → IsEmpty table → P table) (over : (table : Table) → P table → P (settled table)) where
  next_table : (lg : Log) (asked : Option Change) (before : List Change) (mark : Mark) (table : Table) → log.IsFirst lg.issued lg.family asked before table ⊎ log.IsNext g lg.family asked before table
      → AllFound P lg.family → ((other : Table) → AsksTable (log.Writing mark asked before table) other → P other) → P table
  next_table lg asked before mark table (inl first) all new = none table first.empty
  next_table lg None before mark table (inr next) all new =
      let was = all next.parent (next.one_of, next.not_older) in
      ⊎_elim (λ same. subst P (sym same) was) (λ settles. subst P (sym settles) (over next.parent.table was)) next.made
  next_table lg (Some change) before mark table (inr next) all new = new table refl

  found_step : (lg : Log) (e : log.Event) → IsLog g lg → log.MayHappen g lg e → AllFound P lg.family → ((table : Table) → AsksTable e table → P table) → AllFound P (log_after lg e).family
  found_step lg (log.Issued identity) is may all new = λ v found. absurd (none_found v found)
  found_step lg (log.Writing mark asked before table) is may all new = begun_found P lg mark asked before table (next_table lg asked before mark table may.1 all new) all
  found_step lg log.Written is may all new = written_found P lg.family may all
  found_step lg (log.Told which before) is may all new = all
  found_step lg (log.Placing places) is may all new = all
  found_step lg log.Clearing is may all new = all
  found_step lg log.Gone is may all new = all

  -- each table that a boot may find in the end is so, where those at the start are, and those that were asked, and it stays so once a change of places is over
  pub found_all : (lg : Log) (es : List log.Event) → IsLog g lg → log.IsCourse g lg es → AllFound P lg.family → ((table : Table) → IsAsked es table → P table) → AllFound P (log.log_after_all lg es).family
  found_all lg [] is course all new = all
  found_all lg (e ∷ es) is course all new =
      found_all (log_after lg e) es (is_log_after g lg e is course.0) course.1 (found_step lg e is course.0 all (λ table asks. new table (inl asks))) (λ table asks. new table (inr asks))

module _ (g : Geometry) (P : Table → Type 0) where
  -- a database is there of which a table was written, and each that a boot may find is so
  pub record AreLasting (lg : Log) : Type 0 where
    pub is_log : IsLog g lg
    pub lives : lg.fate ≡ log.Lives
    pub firm : is_firm lg ≡ true
    pub all : AllFound P lg.family

  pub lasting_at : (lg : Log) (newest : Version) (older : List Version) → IsLog g lg → lg.family ≡ newest ∷ older → newest.is_written ≡ true → lg.fate ≡ log.Lives → P newest.table → AreLasting lg
  lasting_at lg newest older is family written lives here = record {
    is_log = is;
    lives = lives;
    firm = written_firm lg.family newest (subst (λ (f : List Version). Contains f newest) (sym family) (contains_first newest older)) written;
    all = λ v found.
        let same = only_found newest older v (subst IsRising family is.rising) written (subst (λ (f : List Version). MayBeFound f v) family found) in
        subst P (sym (ap (λ (w : Version). w.table) same)) here;
  }

  -- so a boot finds one
  pub some_lasts : (lg : Log) → AreLasting lg → (v : Version) × MayBeFound lg.family v × P v.table
  some_lasts lg are = by lg.family are.is_log.rising are.firm are.all where
    by : (family : List Version) → IsRising family → list_any (λ v. v.is_written) family ≡ true → AllFound P family → (v : Version) × MayBeFound family v × P v.table
    by [] rising firm all = absurd (cc firm)
    by (newest ∷ older) rising firm all = let found = newest_found newest older rising in (newest, found, all newest found)

-- what is asked alone
pub asked_one : (Which : Issue → Type 0) (asked : Option Change) → AreAll (IsAskable Which) (log.asks_of asked) → IsAskable Which asked
asked_one Which None are = tt
asked_one Which (Some change) are = are.0

-- and what no such change takes from a table stays so
module _ (g : Geometry) (P : Table → Type 0) (Which : Issue → Type 0) (stays : (asked : Option Change) (old next : Table) → IsAskable Which asked → IsMade g asked old next → P old → P next) where
  next_lasts : (lg : Log) (asked : Option Change) (before : List Change) (table : Table) → IsAskable Which asked → is_firm lg ≡ true → AllFound P lg.family → log.IsFirst lg.issued lg.family asked before table ⊎ log.IsNext g lg.family asked before table → P table
  next_lasts lg asked before table may firm all (inl first) = let none = subst (λ (f : List Version). list_any (λ v. v.is_written) f ≡ true) first.none firm in absurd (cc none)
  next_lasts lg asked before table may firm all (inr next) = stays asked next.parent.table table may next.made (all next.parent (next.one_of, next.not_older))

  all_step : (lg : Log) (e : log.Event) → log.MayHappen g lg e → AreAll (IsAskable Which) (log.begins e) → is_firm lg ≡ true → AllFound P lg.family → AllFound P (log_after lg e).family
  all_step lg (log.Issued identity) may asks firm all = λ v found. absurd (none_found v found)
  all_step lg (log.Writing mark asked before table) may asks firm all = begun_found P lg mark asked before table (next_lasts lg asked before table (asked_one Which asked asks) firm all may.1) all
  all_step lg log.Written may asks firm all = written_found P lg.family may all
  all_step lg (log.Told which before) may asks firm all = all
  all_step lg (log.Placing places) may asks firm all = all
  all_step lg log.Clearing may asks firm all = all
  all_step lg log.Gone may asks firm all = all

  -- whatever else happens to the log of what lives, as long as no end of it begins
  pub kept_all : (lg : Log) (es : List log.Event) → log.IsCourse g lg es → AreAll BeginsNoEnd es → AreAll (IsAskable Which) (log.begun_by es) → lg.fate ≡ log.Lives → is_firm lg ≡ true → AllFound P lg.family → AllFound P (log.log_after_all lg es).family
  kept_all lg [] course none asks lives firm all = all
  kept_all lg (e ∷ es) course none asks lives firm all =
      kept_all (log_after lg e) es course.1 none.1 (all_rest (IsAskable Which) (log.begins e) (log.begun_by es) asks) (stays_alive g lg e course.0 none.0 lives) (firm_stays g lg e course.0 (lives_there lg.fate lives) firm)
      (all_step lg e course.0 (all_front (IsAskable Which) (log.begins e) (log.begun_by es) asks) firm all)

  pub lasting_where : (lg : Log) (es : List log.Event) → log.IsCourse g lg es → AreAll BeginsNoEnd es → AreAll (IsAskable Which) (log.begun_by es) → AreLasting g P lg → AreLasting g P (log.log_after_all lg es)
  lasting_where lg es course none asks are = record {
    is_log = is_log_after_all g lg es are.is_log course;
    lives = stays_alive_all g lg es course none are.lives;
    firm = firm_stays_all g lg es course none are.lives are.firm;
    all = kept_all lg es course none asks are.lives are.firm are.all;
  }
