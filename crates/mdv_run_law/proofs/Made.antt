-- Once a creation was told, and no end of the database began, a replica shows a table, whatever a crash leaves.
use Rattle.std.proofs.Common.{◌≡◌, ℕ, List, [], ◌∷◌, Option, Some, None, Contains, refl, sym, ◌∙◌, ap, subst, arith}
use Rattle.mdv_databases.proofs.Lists.{current_in, current_key}
use Rattle.mdv_databases.specs.Standing.{Stand}
use Rattle.mdv_run_law.specs.Below.{Change, Created, Database, Deed, Deleted, Event, Geometry, Happening, History, Host, Image, IsImage, IsLog, Key, Log, Reached, Script, ShowsNoTable, Spells, StandsAt, Tale, history_after, history_after_all, issued_by, key_of, left_in, log_of, replies_in, site_of, told_by}
use Rattle.mdv_standing.proofs.Lawful.{untold}
use Rattle.mdv_store_law.specs.Log as log
use Rattle.mdv_store_law.specs.Machine as machine
use Rattle.mdv_store_law.specs.Machine.{AreAll}
use Rattle.mdv_store_law.proofs.Fates.{BeginsNoEnd, stays_alive_all}
use Rattle.mdv_store_law.proofs.Logs.{is_log_after, told_is_acknowledged}
use Rattle.mdv_volumes.specs.Databases.{current_of, log_in}
use Rattle.mdv_volumes.specs.Happening.{deed_of}
use Rattle.mdv_volumes.specs.HistoryLaws.{KeepDatabase, database_deeds, log_events_of}
use Rattle.mdv_volumes.proofs.Databases.{is_log_of}
use Rattle.mdv_volumes.proofs.Ending.{none_begins}
use Rattle.mdv_volumes.proofs.Keys.{databases_live}
use Rattle.mdv_engine_law.proofs.Going.{may_course}
use Rattle.mdv_run_law.specs.Standing.{AreOfRun, Goes, InWork, IsTold, MayEnd, ShowsMade}
use Rattle.mdv_run_law.proofs.Asked.{run_answers}
use Rattle.mdv_run_law.proofs.Coming.{HasLike, IsDone, come_told, like_behind, made_like}
use Rattle.mdv_run_law.proofs.Deeds.{deed_has, part_contains}

-- a database lives, and something of it is acknowledged
abbrev pub IsTellingLog : Log → Type 0
IsTellingLog lg = (lg.fate ≡ log.Lives) × (lg.acknowledged ≡ None → ⊥)

pub some_told : {X : Type 0} (xs : List X) (x : X) → Contains xs x → xs ≡ [] → ⊥
some_told xs x has none = absurd (let in_none : Contains [] x = subst (λ (l : List _). Contains l x) none has in omega (arith, in_none.1))

-- Where the drives stand with all databases, the current one of a key of which something was told, and that lives, shows a table.
module _ (g : Geometry) (all : List Database) (key : Key) (m : Tale) (stand : Stand g all m) where
  -- of one that shows none nothing was told
  nothing_acknowledged : (d : Database) → current_of all key ≡ Some d → d.log.fate ≡ log.Lives → (image : Image) → IsImage m image → ShowsNoTable (Spells g) (site_of g key) d.identity image → d.log.acknowledged ≡ None
  nothing_acknowledged d is lives image at nothing =
      let has = current_in key all d is in
      let world = (stand.worlds image at).worlds d has in
      let blank = subst (λ (k : Key). ShowsNoTable (Spells g) (site_of g k) d.identity image) (sym (current_key key all d is)) nothing in
      untold (Spells g) (site_of g d.key) d.identity d.log world.0 image world.1 blank lives g (stand.logs d has)

  pub told_shown : (log_of all key).fate ≡ log.Lives → ((log_of all key).acknowledged ≡ None → ⊥) → (d : Database) × (current_of all key ≡ Some d) × ((image : Image) → IsImage m image → ShowsNoTable (Spells g) (site_of g key) d.identity image → ⊥)
  told_shown lives told = by (current_of all key) refl where
    by : (o : Option Database) → current_of all key ≡ o → (d : Database) × (current_of all key ≡ Some d) × ((image : Image) → IsImage m image → ShowsNoTable (Spells g) (site_of g key) d.identity image → ⊥)
    by None none = absurd (told (ap (λ (o : Option Database). (log_in o).acknowledged) none))
    by (Some d) is = (
      d,
      is,
      λ image at nothing. told (ap (λ (o : Option Database). (log_in o).acknowledged) is ∙ nothing_acknowledged d is (sym (ap (λ (o : Option Database). (log_in o).fate) is) ∙ lives) image at nothing),
    )

-- where no end of it begins, a log by which something was told lives, since what is told lives as it is told, and has it
log_told : (g : Geometry) (lg : Log) (es : List log.Event) → IsLog g lg → log.IsCourse g lg es → AreAll BeginsNoEnd es → (log.told_by es ≡ [] → ⊥) → IsTellingLog (log.log_after_all lg es)
log_told g lg [] is course none some = absurd (some refl)
log_told g lg (log.Issued identity ∷ es) is course none some = log_told g (log.log_after lg (log.Issued identity)) es (is_log_after g lg (log.Issued identity) is course.0) course.1 none.1 some
log_told g lg (log.Writing mark asked before table ∷ es) is course none some = log_told g (log.log_after lg (log.Writing mark asked before table)) es (is_log_after g lg (log.Writing mark asked before table) is course.0) course.1 none.1 some
log_told g lg (log.Written ∷ es) is course none some = log_told g (log.log_after lg log.Written) es (is_log_after g lg log.Written is course.0) course.1 none.1 some
log_told g lg (log.Told which before ∷ es) is course none some =
    let told = log.Told which before in
    (stays_alive_all g lg (told ∷ es) course none course.0.lives, told_is_acknowledged g lg (told ∷ es) is course none course.0.lives some)
log_told g lg (log.Placing places ∷ es) is course none some = log_told g (log.log_after lg (log.Placing places)) es (is_log_after g lg (log.Placing places) is course.0) course.1 none.1 some
log_told g lg (log.Clearing ∷ es) is course none some = absurd none.0
log_told g lg (log.Gone ∷ es) is course none some = log_told g (log.log_after lg log.Gone) es (is_log_after g lg log.Gone is course.0) course.1 none.1 some

-- so it is of a history whose events told a creation, or a change of that database
pub told_lives : (host : Host) (h : History) (es : List Event) → machine.IsCourse history_after (Happening host) h es → KeepDatabase (key_of host) es → IsLog host.drives (log_of h.databases (key_of host))
    → (asked : Option Change) → Contains (told_by es) (deed_of (key_of host) asked) → IsTellingLog (log_of (history_after_all h es).databases (key_of host))
told_lives host h es course keep is_log asked has =
    let key = key_of host in
    let may = may_course host h es course in
    let told : Contains (database_deeds key (told_by es)) asked = deed_has key (told_by es) asked has in
    subst IsTellingLog (sym (databases_live.is key host.drives h es may))
    (log_told host.drives (log_of h.databases key) (log_events_of key es) is_log (databases_live.may key host.drives h es may) (none_begins key es keep)
    (λ quiet. some_told (database_deeds key (told_by es)) asked told (sym (databases_live.tells key es) ∙ quiet)))

-- what a run told, or a deed like it, its events tell
pub run_told : (host : Host) (script : Script) (bytes : List ℕ) (es : List Event) (deed : Deed) → IsDone deed → AreOfRun host script bytes es → IsTold host script (replies_in bytes) deed → HasLike (told_by es) deed
run_told host script bytes es deed done run is = like_behind run.boot run.lines es run.both deed (come_told host (InWork host (left_in bytes)) (Some []) script (replies_in bytes) run.lines deed done run.come is)

-- where it told a creation they tell one, or a change of that database
pub run_made : (host : Host) (script : Script) (bytes : List ℕ) (es : List Event) (key : Key) → AreOfRun host script bytes es → IsTold host script (replies_in bytes) (Created key) → (asked : Option Change) × Contains (told_by es) (deed_of key asked)
run_made host script bytes es key run is =
    let like = run_told host script bytes es (Created key) tt run is in
    let asked = made_like key like.0 like.2 in
    (asked.0, subst (Contains (told_by es)) asked.1 like.1)

-- no end of the host's database begins, where none may have begun
run_keeps : (host : Host) (script : Script) (bytes : List ℕ) (es : List Event) → AreOfRun host script bytes es → (MayEnd host script bytes → ⊥) → KeepDatabase (key_of host) es
run_keeps host script bytes es run never has =
    let answers = run_answers host script bytes es run in
    never (answers.asked, answers.are_asked, part_contains (issued_by es) answers.asked (Deleted (key_of host)) answers.begins has)

-- so the drives show a table of the host's database where a run told its creation
pub run_shows : (host : Host) (script : Script) (bytes : List ℕ) (t m : Tale) (h : History) → StandsAt host h t → (MayEnd host script bytes → ⊥) → Goes host (AreOfRun host script bytes) Reached m h → IsTold host script (replies_in bytes) (Created (key_of host)) → ShowsMade host m
run_shows host script bytes t m h stands never goes is =
    let after = history_after_all h goes.es in
    let made = run_made host script bytes goes.es (key_of host) goes.come is in
    let told = told_lives host h goes.es goes.course (run_keeps host script bytes goes.es goes.come never) (is_log_of host.drives h.databases t stands.databases (key_of host)) made.0 made.1 in
    let shown = told_shown host.drives after.databases (key_of host) m goes.stands.databases told.0 told.1 in
    record { identity = shown.0.identity; each = shown.2 }
