-- What runs of any hosts leave in a block of a drive that no replica of the host's has, and no other host: what it held when the drives were new, or what one of the host's lines may have put there.
use Rattle.std.proofs.Common.{◌≡◌, inl, inr, ℕ, false, Bool, List, [], ◌∷◌, ◌++◌, Contains, sym, ◌∙◌, ap, subst, append_assoc, if◌then◌else◌, refl}
use Rattle.std.proofs.lemmas.List.{append-nil, append_cancel_left}
use Rattle.std.proofs.lemmas.Slice.Eq.{bytes_eq-Decides}
use Rattle.std.specs.Str.{bytes_eq}
use Rattle.mdv_engine_law.specs.Hosts.{host_area}
use Rattle.mdv_engine_law.specs.declared.host.Host.{Host}
use Rattle.mdv_name.specs.declared.geometry.Geometry.{Geometry}
use Rattle.mdv_plan.specs.Table.{empty_table}
use Rattle.mdv_port.specs.Script.{Script}
use Rattle.mdv_run_law.specs.Lives.{HasMetNone, IsHistoryOf, IsNewWord, MayBeFound, Ran, host_of}
use Rattle.mdv_run_law.specs.Run.{Counts, Stretch}
use Rattle.mdv_run_law.specs.Standing.{AreIdle, RunMoment}
use Rattle.mdv_run_law.specs.Told.{IsToldBy, RunToldBy}
use Rattle.mdv_run_law.proofs.Owning.{none_own}
use Rattle.mdv_shelf.specs.Everywhere.{Image}
use Rattle.mdv_shelf.specs.Story.{Moment, tale_of}
use Rattle.mdv_shelf.specs.Tale.{Begun, MayLeave, Start, Tale, told, values}
use Rattle.mdv_shelf.proofs.Blocks.{both_ways}
use Rattle.mdv_shown.specs.Site.{site_area}
use Rattle.mdv_store_law.specs.Laws.{restarted}
use Rattle.mdv_config.specs.Slices.{IsSound}
use Rattle.mdv_volumes.specs.History.{History, history_after_all}
use Rattle.mdv_volumes.specs.HistoryLaws.{new_history}
use Rattle.mdv_theorem.specs.Exchanges.{Exchange, exchanges_by, exchanges_of}
use Rattle.mdv_theorem.specs.Running.{HaveMetNone, IsMomentOf, Lived, Running, Runs, no_run, run_on}
use Rattle.mdv_theorem.proofs.Come.{HasMetNothing}
use Rattle.mdv_theorem.proofs.Having.{HasCome, come_quiet}
use Rattle.mdv_theorem.proofs.Left.{lines_here, lines_say}
use Rattle.mdv_theorem.proofs.Lined.{idle_quiet}
use Rattle.mdv_theorem.proofs.Onward.{IsSoBehind, life_goes_on}
use Rattle.mdv_theorem.proofs.Put.{AreHeld, HeldAt, held_found, held_kept, lines_held, work_held}
use Rattle.mdv_theorem.proofs.Steps.{known_at}
use Rattle.mdv_theorem.proofs.Sure.{IsSureAt, booted, sure_boot}
use Rattle.mdv_theorem.proofs.Tabled.{SaysNothing, come_goes}

-- new drives hold what they held
begun_left : (start : Start) (drive block : ℕ) (x : List ℕ) → MayLeave (Begun start) drive block x → x ≡ start.block drive block
unfolding MayLeave values
begun_left start drive block x (inl is) = is
begun_left start drive block x (inr none) = absurd none

module _ (drives : Geometry) (name : List ℕ) (made : Image) (drive block : ℕ) (sound : IsSound drives) (of_table : Contains drives.hosts name) (out : site_area (host_of drives name 0).site drive block ≡ false)
    (elsewhere : (other : List ℕ) (fresh : ℕ) → (other ≡ name → ⊥) → host_area (host_of drives other fresh) drive block ≡ false) where
  abbrev Held : List Exchange → Tale → Type 0
  Held = AreHeld drives name made drive block

  -- A run of the host, behind others that left it so, by a history in which each table is one that their lines may have made.
  module _ (before : List Ran) (script : Script) (run : Running drives name before script) (of : IsHistoryOf drives name made before run.t.tale) (come : HasCome drives name (exchanges_by name before) (history_after_all new_history of.es)) (held : Held (exchanges_by name before) run.t.tale) where
    abbrev host : Host
    host = host_of drives name run.fresh

    abbrev h : History
    h = history_after_all new_history of.es

    abbrev lines : List Exchange
    lines = exchanges_by name before

    abbrev pub none : HasMetNothing host script h run.t.tale run.m.tale
    none = run.clean made of

    module _ (by : RunToldBy host run.stretch run.start run.t.tale script run.tells.bytes run.m) where
      abbrev Has : List Exchange → Type 0
      Has more = Held (lines ++ more) run.m.tale

      up : (sure : IsSureAt host script h run.t.tale (booted host run.stretch run.start run.t.tale script run.tells.bytes run.m by)) × AreIdle host sure.come.es
      up = sure_boot host run.stretch run.start run.t.tale script run.tells.bytes run.m by run.moment.begins.0 run.moment.begins.1 h of.stands (none_own drives name before run.fresh of.es run.new_word of.come) none

      -- behind its boot
      pub first_held : HeldAt drives name made drive block sound out run.fresh script h run.t.tale run.m.tale none run.stretch lines (booted host run.stretch run.start run.t.tale script run.tells.bytes run.m by)
      first_held =
          let first = up in
          let begins = run.moment.begins in
          record {
            so = record { sure = first.0; is = come_quiet drives name (empty_table []) lines h first.0.come.es first.0.come.course (idle_quiet host first.0.come.es first.1) come };
            held = subst (λ (l : List Exchange). Held l (tale_of first.0.story)) (append-nil lines)
                (held_kept drives name made drive block lines [] (tale_of begins.0) (tale_of first.0.story) (by.writes begins.0 first.0.story begins.1 first.0.is drive block out) (subst (Held lines) (sym begins.2) held));
          }

      -- and at the moment
      told_held : Has (exchanges_of script run.tells.bytes)
      told_held =
          let first = booted host run.stretch run.start run.t.tale script run.tells.bytes run.m by in
          let at = by.lines.at in
          let here = lines_here host run.stretch 0 first at by.lines.so_far by.lines.lines in
          let work = exchanges_of at.script by.lines.rest in
          let last = lines_held drives name made drive block sound out run.fresh script h run.t.tale run.m.tale none run.stretch 0 first at by.lines.so_far by.lines.lines (λ u is. (by.lines.work u is).moment.since) lines first_held in
          let sure = last.so.sure in
          let all : Held ((lines ++ here) ++ work) run.m.tale =
          work_held drives name made drive block sound out run.fresh (lines ++ here) at sure.story sure.is (known_at host script h run.t.tale at sure) last.so.is run.m by.lines.rest by.lines.front last.held (by.lines.work sure.story sure.is).writes in
          let says : exchanges_of script run.tells.bytes ≡ here ++ work = ap (exchanges_of script) by.lines.parts ∙ lines_say host run.stretch 0 first at by.lines.so_far by.lines.rest by.lines.lines in
          subst (λ (l : List Exchange). Held l run.m.tale) (append_assoc lines here work ∙ ap (λ (l : List Exchange). lines ++ l) (sym says)) all

    run_held : Held (lines ++ exchanges_of script run.tells.bytes) run.m.tale
    run_held = elim run.tells.tells [
      | inl nothing ↦ held_kept drives name made drive block lines (exchanges_of script run.tells.bytes) run.t.tale run.m.tale (nothing.1 drive block out) held
      | inr by ↦ told_held by
    ]

  abbrev Behind : List Ran → Tale → Type 0
  Behind = IsSoBehind drives name SaysNothing (HasCome drives name) (come_goes drives name) of_table made (λ earlier its_script other by front at upto k rest more. tt)

  pub behind : (ran : List Ran) (t : Tale) → Lived drives made ran t → Behind ran t
  behind ran t life = life_goes_on drives name SaysNothing (HasCome drives name) (come_goes drives name) of_table made (λ earlier its_script other by front at upto k rest more. tt) ran t life

  -- one more run, and what is found as the next one starts
  module _ (before : List Ran) (fresh : ℕ) (stretch : Stretch) (counts : Counts) (old m : Moment) (next : Tale) (script : Script) (life : Lived drives made before old.tale) (moment : IsMomentOf stretch old m) (found : MayBeFound m.tale next) (held : Held (exchanges_by name before) old.tale) where
    abbrev HeldBehind : List ℕ → Type 0
    HeldBehind other =
        IsNewWord other fresh before → (stands : RunMoment (host_of drives other fresh) script old.tale m.tale) → IsToldBy (host_of drives other fresh) stretch counts script old m → HasMetNone drives other before fresh script old.tale m.tale
        → Held (exchanges_by name (record { host = other; fresh = fresh; script = script; bytes = stands.bytes } ∷ before)) next

    own_held : HeldBehind name
    own_held new_word stands tells clean =
        let run : Running drives name before script = record { made = made; fresh = fresh; stretch = stretch; start = counts; t = old; m = m; life = life; new_word = new_word; clean = clean; tells = tells; moment = moment } in
        let was = behind before old.tale life in
        let same : tells.bytes ≡ stands.bytes = append_cancel_left (told old.tale) tells.bytes stands.bytes (sym tells.is_told ∙ stands.is_told) in
        let all : Held (exchanges_by name before ++ exchanges_of script stands.bytes) m.tale = subst (λ (l : List ℕ). Held (exchanges_by name before ++ exchanges_of script l) m.tale) same (run_held before script run was.history was.is held) in
        subst (λ (b : Bool). Held (exchanges_by name before ++ (if b then exchanges_of script stands.bytes else [])) next) (sym ((bytes_eq-Decides name name).1 refl))
        (held_found drives name made drive block (exchanges_by name before ++ exchanges_of script stands.bytes) m.tale next found all)

    any_held : (other : List ℕ) → HeldBehind other
    any_held other new_word stands tells clean = elim (both_ways (bytes_eq other name)) [
      | inl does ↦ subst HeldBehind (sym ((bytes_eq-Decides other name).0 does)) own_held new_word stands tells clean
      | inr never ↦
          let differ : other ≡ name → ⊥ = λ same. (let does = (bytes_eq-Decides other name).1 same in cc (does, never)) in
          let lines = exchanges_by name before in
          subst (λ (b : Bool). Held (lines ++ (if b then exchanges_of script stands.bytes else [])) next) (sym never)
          (held_found drives name made drive block (lines ++ []) m.tale next found (held_kept drives name made drive block lines [] old.tale m.tale (stands.home drive block (elsewhere other fresh differ)) held))
    ]

  pub runs_held : (first_told : List ℕ) → ((ran : List Ran) (t : Tale) (runs : Runs drives [] (restarted made first_told) ran t) → HaveMetNone runs → Lived drives made ran t) → (ran : List Ran) (t : Tale) (runs : Runs drives [] (restarted made first_told) ran t) → HaveMetNone runs
      → Held (exchanges_by name ran) t
  runs_held first_told live ran t no_run clean = λ x may. inl (begun_left _ drive block x may)
  runs_held first_told live ran t (run_on before other fresh stretch counts old m next script runs other_of new_word stands tells moment found) clean =
      any_held before fresh stretch counts old m next script (live before old.tale runs clean.0) moment found (runs_held first_told live before old.tale runs clean.0) other new_word stands tells clean.1

  -- So it is behind each life's runs.
  pub life_held : (ran : List Ran) (t : Tale) → Lived drives made ran t → Held (exchanges_by name ran) t
  life_held ran t life = runs_held life.told (λ other u runs clean. record { fair = life.fair; told = life.told; new = life.new; runs = runs; clean = clean }) ran t life.runs life.clean
