-- What a run leaves in a block of a volume, from a place between two of its lines, or from its start, up to one of its moments, where the volume lasts; unless one of its lines may have taken it away.
use Rattle.std.proofs.Common.{◌≡◌, ◌⊎◌, inl, inr, ℕ, List, [], ◌++◌, Some, refl, sym, ◌∙◌, ap, subst, append_assoc, Contains}
use Rattle.std.proofs.lemmas.List.{append_cancel_left}
use Rattle.mdv_base.specs.declared.name.VolId.{VolId}
use Rattle.mdv_engine_law.specs.Awake.{Happening}
use Rattle.mdv_engine_law.specs.declared.host.Host.{Host}
use Rattle.mdv_map.specs.Maps.{Map}
use Rattle.mdv_name.specs.declared.geometry.Geometry.{Geometry}
use Rattle.mdv_port.specs.Script.{Script}
use Rattle.mdv_run_law.specs.Lives.{IsHistoryOf, IsNewWord, Ran, host_of}
use Rattle.mdv_run_law.specs.Run.{At, Counts, IsNextFront, LinesTold, Stretch}
use Rattle.mdv_run_law.specs.Standing.{AreOfRun, LinesMoment, context_of}
use Rattle.mdv_run_law.specs.Told.{AtWork, RunToldBy}
use Rattle.mdv_run_law.proofs.Owning.{none_own}
use Rattle.mdv_run_law.proofs.Since.{since_itself}
use Rattle.mdv_shelf.specs.Area.{KeptOutside}
use Rattle.mdv_shelf.specs.Everywhere.{Image}
use Rattle.mdv_shelf.specs.Story.{Moment, Story, marked, tale_of}
use Rattle.mdv_shelf.specs.Tale.{Tale, told}
use Rattle.mdv_shown.specs.Site.{site_area}
use Rattle.mdv_status.specs.Telling.{left_in, replies_in}
use Rattle.mdv_store_law.proofs.Machine.{after_more, course_more}
use Rattle.mdv_config.specs.Slices.{IsSound}
use Rattle.mdv_plan.specs.declared.table.Table.{Table}
use Rattle.mdv_volumes.specs.History.{History, history_after, history_after_all}
use Rattle.mdv_volumes.specs.HistoryLaws.{new_history}
use Rattle.mdv_theorem.specs.Exchanges.{Exchange, exchanges_of}
use Rattle.mdv_theorem.proofs.Behind.{lines_told_so}
use Rattle.mdv_theorem.proofs.Come.{CameInWork, HasMetNothing, come_work}
use Rattle.mdv_theorem.proofs.Ends.{TakeVolume, lined_keeps, take_before}
use Rattle.mdv_theorem.proofs.Given.{Given}
use Rattle.mdv_theorem.proofs.Later.{IsLasting, LastsNow, idle_lasts, lasting_on, run_lasts}
use Rattle.mdv_theorem.proofs.Place.{Spot}
use Rattle.mdv_theorem.proofs.Leaving.{Leaves, leaves_more, own, site_leaves}
use Rattle.mdv_theorem.proofs.Left.{lasting_at, lines_here, lines_leave, lines_say, work_leaves}
use Rattle.mdv_theorem.proofs.Lined.{AreLined, come_lined}
use Rattle.mdv_theorem.proofs.Sure.{IsSureAt, booted, sure_boot}

-- what was told of the line in work
pub rest_told : (host : Host) (stretch : Stretch) (start : Counts) (t : Tale) (script : Script) (bytes : List ℕ) (m : Moment) (by : RunToldBy host stretch start t script bytes m) → told m.tale ≡ told t ++ bytes → (s : Story) → stretch.old ≡ Some s → tale_of s ≡ t
    → (u : Story) → by.lines.at.story ≡ Some u → told m.tale ≡ told (tale_of u) ++ by.lines.rest
rest_told host stretch start t script bytes m by is_told s begins starts u is =
    let to = by.point.in_time.drives 0 s begins in
    let front = by.lines.so_far in
    let last : told (tale_of u) ≡ told t ++ front =
    lines_told_so host stretch 0 (booted host stretch start t script bytes m by) by.lines.at front by.lines.lines (marked s to.0) u to.1 is ∙ ap (λ (l : List ℕ). l ++ front) (by.point.quiet s (marked s to.0) begins to.1 ∙ ap told starts) in
    is_told ∙ ap (λ (l : List ℕ). told t ++ l) by.lines.parts ∙ sym (append_assoc (told t) front by.lines.rest) ∙ ap (λ (l : List ℕ). l ++ by.lines.rest) (sym last)

module _ (drives : Geometry) (name : List ℕ) (fresh : ℕ) (before : List Ran) (script : Script) (t : Tale) (held : Image) (of : IsHistoryOf drives name held before t) (m : Moment) (none : HasMetNothing (host_of drives name fresh) script (history_after_all new_history of.es) t m.tale)
    (bytes : List ℕ) (is_told : told m.tale ≡ told t ++ bytes) where
  abbrev host : Host
  host = host_of drives name fresh

  abbrev h : History
  h = history_after_all new_history of.es

  -- the run, as it is stopped there
  abbrev pub here : Ran
  here = record { host = name; fresh = fresh; script = script; bytes = bytes }

  -- by the line in work
  module _ (at : At) (sure : IsSureAt host script h t at) (rest : List ℕ) (told_more : told m.tale ≡ told (tale_of sure.story) ++ rest) (moment : LinesMoment host at.script at.kept.memory (tale_of sure.story) m.tale) where
    abbrev came : CameInWork host script h t at.kept.memory at.script (tale_of sure.story) sure.come m.tale
    came = come_work host script h t at.kept.memory at.script (tale_of sure.story) sure.come m.tale moment (since_itself m.tale) none

    rest_is : came.bytes ≡ rest
    rest_is = append_cancel_left (told (tale_of sure.story)) came.bytes rest (ap (λ (l : List ℕ). l ++ came.bytes) sure.come.is_told ∙ append_assoc (told t) sure.come.bytes came.bytes ∙ sym came.is_told ∙ told_more)

    all_is : sure.come.bytes ++ came.bytes ≡ bytes
    all_is = append_cancel_left (told t) (sure.come.bytes ++ came.bytes) bytes (sym came.is_told ∙ is_told)

    pub lasts_work : (volume : VolId) (v : Map) → IsLasting drives name volume v (history_after_all h sure.come.es) → TakeVolume volume (exchanges_of at.script rest) ⊎ LastsNow drives name volume v here before m.tale
    lasts_work volume v lasts =
        let there = history_after_all h sure.come.es in
        let run = sure.come.es ++ came.fs in
        let lined : AreLined drives name (exchanges_of at.script rest) came.fs = subst (λ (l : List ℕ). AreLined drives name (exchanges_of at.script l) came.fs) rest_is
        (come_lined drives name fresh (left_in came.bytes) (context_of at.kept.memory) at.script (replies_in came.bytes) came.fs came.come) in
        elim (lined_keeps drives name volume (exchanges_of at.script rest) came.fs lined) [
          | inl takes ↦ inl takes
          | inr keeps ↦ inr (run_lasts drives name volume v before fresh t m.tale held of here refl refl run (course_more history_after (Happening host) h sure.come.es came.fs sure.come.course came.course)
              (subst (λ (l : List ℕ). AreOfRun host script l run) all_is came.all) came.stands
              (subst (IsLasting drives name volume v) (sym (after_more history_after h sure.come.es came.fs)) (lasting_on drives name volume v there came.fs came.course keeps lasts)))
        ]

  module _ (sound : IsSound drives) (of_table : Contains drives.hosts name) (given : Given) (final : Table) (volume : VolId) (number : ℕ) (spot : Spot (own drives name).drives final volume number) where
    abbrev AreLeft : List Exchange → Tale → Tale → Type 0
    AreLeft es t u = Leaves volume number spot.at.drive spot.at.block es t u

    abbrev Lasts : History → Type 0
    Lasts g = IsLasting drives name volume spot.map g

    -- from a place between two lines to the moment
    pub tail_leaves : (stretch : Stretch) (n : ℕ) (now at : At) (so_far rest : List ℕ) (lines : LinesTold host stretch n now so_far at) (sure : IsSureAt host script h t now) → ((u : Story) → at.story ≡ Some u → AtWork host at (tale_of u) m.tale) → IsNextFront host at rest m
        → Lasts (history_after_all h sure.come.es) → TakeVolume volume (exchanges_of now.script (so_far ++ rest)) ⊎ AreLeft (exchanges_of now.script (so_far ++ rest)) (tale_of sure.story) m.tale
    tail_leaves stretch n now at so_far rest lines sure work front lasts =
        let these = lines_here host stretch n now at so_far lines in
        let others = exchanges_of at.script rest in
        let all = lines_say host stretch n now at so_far rest lines in
        elim (lines_leave drives name sound of_table given fresh final volume number spot script h t m.tale none stretch n now at so_far lines sure (λ u is. (work u is).moment.since) lasts) [
          | inl takes ↦ inl (subst (TakeVolume volume) (sym all) (take_before volume these others takes))
          | inr (end, still, led) ↦
              let place = lasting_at drives name sound of_table given fresh final volume number spot script h t m.tale none at end still in
              let last = work_leaves drives name sound of_table given fresh final volume number spot at end.story m end.is rest front place (work end.story end.is).writes in
              inr (subst (λ (l : List Exchange). AreLeft l (tale_of sure.story) m.tale) (sym all)
              (leaves_more volume number spot.at.drive spot.at.block these others (tale_of sure.story) (tale_of end.story) m.tale led last))
        ]

    -- a run, from its start, whose word is new
    module _ (new_word : IsNewWord name fresh before) (lasts : Lasts h) (stretch : Stretch) (start : Counts) (s : Story) (begins : stretch.old ≡ Some s) (starts : tale_of s ≡ t) where
      pub run_leaves : RunToldBy host stretch start t script bytes m → TakeVolume volume (exchanges_of script bytes) ⊎ AreLeft (exchanges_of script bytes) t m.tale
      run_leaves by =
          let lines = by.lines in
          let up = sure_boot host stretch start t script bytes m by s begins h of.stands (none_own drives name before fresh of.es new_word of.come) none in
          let v = up.0.story in
          let first = subst (λ (x : Tale). AreLeft [] x (tale_of v)) starts (site_leaves drives name sound of_table final volume number spot [] (tale_of s) (tale_of v) (by.writes s v begins up.0.is)) in
          let said : exchanges_of script (lines.so_far ++ lines.rest) ≡ exchanges_of script bytes = ap (exchanges_of script) (sym lines.parts) in
          elim (tail_leaves stretch 0 (booted host stretch start t script bytes m by) lines.at lines.so_far lines.rest lines.lines up.0 lines.work lines.front (idle_lasts drives name volume spot.map fresh h up.0.come.es up.0.come.course up.1 lasts)) [
            | inl takes ↦ inl (subst (TakeVolume volume) said takes)
            | inr last ↦ inr (leaves_more volume number spot.at.drive spot.at.block [] (exchanges_of script bytes) t (tale_of v) m.tale first (subst (λ (l : List Exchange). AreLeft l (tale_of v) m.tale) said last))
          ]

      pub told_leave : ((bytes ≡ []) × KeptOutside (site_area host.site) t m.tale) ⊎ RunToldBy host stretch start t script bytes m → TakeVolume volume (exchanges_of script bytes) ⊎ AreLeft (exchanges_of script bytes) t m.tale
      told_leave (inl none) = inr (site_leaves drives name sound of_table final volume number spot (exchanges_of script bytes) t m.tale none.1)
      told_leave (inr by) = run_leaves by
