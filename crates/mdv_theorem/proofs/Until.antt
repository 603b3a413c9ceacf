-- Where a run was before a read, and what earlier runs, from any start of theirs on, and its lines so far leave in a block of a volume that lasts; unless one of them may have taken the volume away.
use Rattle.std.proofs.Common.{◌≡◌, ◌⊎◌, inl, inr, ℕ, ◌+◌, List, [], ◌∷◌, ◌++◌, length, Some, sym, ◌∙◌, ap, subst, append_assoc, Contains}
use Rattle.std.proofs.lemmas.List.{append-nil, append_cancel_right}
use Rattle.mdv_base.specs.declared.name.VolId.{VolId}
use Rattle.mdv_engine_law.specs.declared.host.Host.{Host}
use Rattle.mdv_name.specs.declared.geometry.Geometry.{Geometry}
use Rattle.mdv_plan.specs.Table.{empty_table}
use Rattle.mdv_port.specs.Script.{Script}
use Rattle.mdv_run_law.specs.Lives.{IsHistoryOf, Ran, host_of}
use Rattle.mdv_run_law.specs.Run.{At, behind_boot}
use Rattle.mdv_run_law.specs.Standing.{AreIdle}
use Rattle.mdv_run_law.specs.Told.{RunToldBy}
use Rattle.mdv_run_law.proofs.Owning.{none_own}
use Rattle.mdv_shelf.specs.Everywhere.{Image}
use Rattle.mdv_shelf.specs.Moments.{IsSince}
use Rattle.mdv_shelf.specs.Story.{Story, tale_of}
use Rattle.mdv_shelf.specs.Tale.{Tale}
use Rattle.mdv_status.specs.Values.{values_reply}
use Rattle.mdv_config.specs.Slices.{IsSound}
use Rattle.mdv_plan.specs.declared.table.Table.{Table}
use Rattle.mdv_volumes.specs.History.{History, history_after_all}
use Rattle.mdv_volumes.specs.HistoryLaws.{new_history}
use Rattle.mdv_theorem.specs.Exchanges.{Exchange, TellsBlock, exchanges_by, exchanges_of}
use Rattle.mdv_theorem.specs.Running.{HaveMetNone, Running, Runs, exchanges_now}
use Rattle.mdv_theorem.specs.Words.{MayLie}
use Rattle.mdv_theorem.proofs.Clean.{its_start, met_none, start}
use Rattle.mdv_theorem.proofs.Come.{HasMetNothing}
use Rattle.mdv_theorem.proofs.Contents.{IsToldOf, told_block}
use Rattle.mdv_theorem.proofs.Ends.{TakeVolume, take_before, take_behind}
use Rattle.mdv_theorem.proofs.Given.{Given}
use Rattle.mdv_theorem.proofs.Later.{Lasts, idle_lasts, lines_since, open_has}
use Rattle.mdv_theorem.proofs.Leaving.{Leaves, leaves_more, own, site_leaves}
use Rattle.mdv_theorem.proofs.Left.{lines_here, lines_leave, lines_say}
use Rattle.mdv_theorem.proofs.Lined.{idle_quiet}
use Rattle.mdv_theorem.proofs.Having.{HasCome, come_quiet}
use Rattle.mdv_theorem.proofs.Onward.{IsSoAt, IsSoBehind, life_goes_on, lines_on}
use Rattle.mdv_theorem.proofs.Over.{runs_leave}
use Rattle.mdv_theorem.proofs.Place.{Spot}
use Rattle.mdv_theorem.proofs.Placed.{Place, lines_place}
use Rattle.mdv_theorem.proofs.Staying.{its_sound}
use Rattle.mdv_theorem.proofs.Steps.{Between, known_at}
use Rattle.mdv_theorem.proofs.Sure.{IsSureAt, since_last, sure_boot}
use Rattle.mdv_theorem.proofs.Tabled.{SaysNothing, come_goes, open_lies}
use Rattle.mdv_volumes.proofs.Made.{HasFront}
use Rattle.mdv_engine_law.specs.Line.{IsSame, contents}

module _ (drives : Geometry) (name : List ℕ) (before : List Ran) (script : Script) (sound : IsSound drives) (of_table : Contains drives.hosts name) (run : Running drives name before script) (given : Given) (read : Exchange) (here later : List Exchange)
    (volume : VolId) (number : ℕ) (block : List ℕ) (parts : exchanges_now run ≡ here ++ read ∷ later) (tells : TellsBlock volume number block read) (by : RunToldBy (host_of drives name run.fresh) run.stretch run.start run.t.tale script run.tells.bytes run.m) where
  abbrev pub host : Host
  host = host_of drives name run.fresh

  abbrev pub booted : At
  booted = behind_boot by.booted by.by by.kept script

  -- of a history with which the run began
  module _ (held : Image) (of : IsHistoryOf drives name held before run.t.tale) where
    abbrev pub h : History
    h = history_after_all new_history of.es

    abbrev pub none : HasMetNothing host script h run.t.tale run.m.tale
    none = run.clean held of

    pub up : (sure : IsSureAt host script h run.t.tale booted) × AreIdle host sure.come.es
    up = sure_boot host run.stretch run.start run.t.tale script run.tells.bytes run.m by run.moment.begins.0 run.moment.begins.1 h of.stands (none_own drives name before run.fresh of.es run.new_word of.come) none

  abbrev pub begun : IsSureAt host script (start run of_table) run.t.tale booted
  begun = (up run.made (its_start run of_table)).0

  -- where the run was before the read
  abbrev pub ThePlace : Type 1
  ThePlace = Place host run.start run.m run.stretch 0 booted by.lines.at (record { kept = by.kept; sure = known_at host script (start run of_table) run.t.tale booted begun }) by.lines.so_far by.lines.rest here read later

  pub place : ThePlace
  place = lines_place host run.start run.m run.stretch script (start run of_table) run.t.tale (met_none run of_table) 0 booted by.lines.at by.lines.so_far by.lines.rest begun (λ u is. (by.lines.work u is).moment.since) by.lines.lines by.lines.front here later read (values_reply tells.at tells.blocks)
      (subst (λ (l : List ℕ). exchanges_of script l ≡ here ++ read ∷ later) by.lines.parts parts) tells.told

  pub its : IsToldOf host volume number block place.at.kept place.next
  its = told_block host (its_sound drives name before script sound of_table run) place.calls place.at.kept place.next place.sure read place.answer place.comes place.said place.told volume number block tells

  abbrev pub final : Table
  final = its.o.table

  abbrev pub lines : List Exchange
  lines = lines_here host run.stretch 0 booted place.at place.front place.lines

  pub here_is : lines ≡ here
  here_is =
      let rest = place.left ++ by.lines.rest in
      let said = lines_say host run.stretch 0 booted place.at place.front rest place.lines in
      let all : exchanges_of script (place.front ++ rest) ≡ here ++ read ∷ later =
      ap (exchanges_of script) (sym (append_assoc place.front place.left by.lines.rest) ∙ ap (λ (l : List ℕ). l ++ by.lines.rest) (sym place.parts) ∙ sym by.lines.parts) ∙ parts in
      append_cancel_right lines here (read ∷ later) (ap (λ (l : List Exchange). lines ++ l) (sym place.asked) ∙ sym said ∙ all)

  -- it came before the moment
  abbrev pub IsBefore : At → Type 0
  IsBefore at = (u : Story) → at.story ≡ Some u → IsSince (tale_of u) run.m.tale

  pub before_now : IsBefore place.at
  before_now = since_last host run.stretch (0 + length place.front) place.at by.lines.at place.left run.m.tale place.more (λ u is. (by.lines.work u is).moment.since)

  abbrev pub spot : Spot (own drives name).drives final volume number
  spot = its.spot

  -- a history by which each table that a boot may find is one that the lines of earlier runs may have made
  behind_them : IsSoBehind drives name SaysNothing (HasCome drives name) (come_goes drives name) of_table run.made (λ earlier its_script other by front at upto k rest more. tt) before run.t.tale
  behind_them =
      life_goes_on drives name SaysNothing (HasCome drives name) (come_goes drives name) of_table run.made (λ earlier its_script other by front at upto k rest more. tt) before run.t.tale run.life

  abbrev its_history : IsHistoryOf drives name run.made before run.t.tale
  its_history = behind_them.history

  abbrev its_none : HasMetNothing host script (h run.made its_history) run.t.tale run.m.tale
  its_none = none run.made its_history

  -- so it is at the read
  come_so : IsSoAt drives name SaysNothing (HasCome drives name) (come_goes drives name) run.fresh script (h run.made its_history) run.t.tale run.m.tale its_none run.stretch (exchanges_by name before ++ lines) place.at
  come_so =
      let first = up run.made its_history in
      lines_on drives name SaysNothing (HasCome drives name) (come_goes drives name) run.fresh script (h run.made its_history) run.t.tale run.m.tale its_none run.stretch 0 booted place.at place.front place.lines before_now (exchanges_by name before)
      (λ front at upto k rest more. tt)
      (record { sure = first.0; is = come_quiet drives name (empty_table []) (exchanges_by name before) (h run.made its_history) first.0.come.es first.0.come.course (idle_quiet host first.0.come.es first.1) behind_them.is })

  -- and so the volume may lie
  pub lie : MayLie drives name volume spot.map (exchanges_by name before ++ here)
  lie =
      let now : Between host = record { kept = place.at.kept; sure = known_at host script (h run.made its_history) run.t.tale place.at come_so.sure } in
      subst (λ (l : List Exchange). MayLie drives name volume spot.map (exchanges_by name before ++ l)) here_is
      (open_lies drives name run.fresh (exchanges_by name before ++ lines) now its.o its.opened come_so.is volume spot.map spot.lies)

  -- Of a block of the volume where it lay in a table, from a start on from which it lasted.
  module _ (table : Table) (old : Spot (own drives name).drives table volume number) where
    abbrev pub AreLeft : List Exchange → Tale → Tale → Type 0
    AreLeft es t u = Leaves volume number old.at.drive old.at.block es t u

    -- so it was at the read: the open table has the volume, where it lay, and the block has what was left there
    pub record LeftAtRead (es : List Exchange) (from : Tale) : Type 0 where
      pub now : Tale
      pub reads : IsSame place.at.kept.content (contents now)
      pub has : HasFront (own drives name).drives volume old.map final
      pub left : AreLeft es from now

    abbrev StillLasts : List Ran → Tale → Type 0
    StillLasts ran t = Lasts drives name volume old.map ran t

    -- behind runs, by its boot, and its lines
    module _ (since : List Exchange) (from : Tale) (lasts : StillLasts before run.t.tale) (before_left : AreLeft since from run.t.tale) where
      abbrev g : History
      g = h lasts.held lasts.of

      abbrev none_met : HasMetNothing host script g run.t.tale run.m.tale
      none_met = none lasts.held lasts.of

      first : (sure : IsSureAt host script g run.t.tale booted) × AreIdle host sure.come.es
      first = up lasts.held lasts.of

      -- what the boot leaves
      by_boot : AreLeft [] run.t.tale (tale_of first.0.story)
      by_boot =
          let begins = run.moment.begins in
          subst (λ (x : Tale). AreLeft [] x (tale_of first.0.story)) begins.2 (site_leaves drives name sound of_table table volume number old [] (tale_of begins.0) (tale_of first.0.story) (by.writes begins.0 first.0.story begins.1 first.0.is))

      -- and the lines
      by_lines : TakeVolume volume here ⊎ LeftAtRead (since ++ here) from
      by_lines =
          elim (lines_leave drives name sound of_table given run.fresh table volume number old script g run.t.tale run.m.tale none_met run.stretch 0 booted place.at place.front place.lines first.0 before_now
          (idle_lasts drives name volume old.map run.fresh g first.0.come.es first.0.come.course first.1 lasts.lasting)) [
            | inl takes ↦ inl (subst (TakeVolume volume) here_is takes)
            | inr (end, still, these) ↦
                let boot = leaves_more volume number old.at.drive old.at.block since [] from run.t.tale (tale_of first.0.story) before_left by_boot in
                let both = leaves_more volume number old.at.drive old.at.block (since ++ []) lines from (tale_of first.0.story) (tale_of end.story) boot these in
                inr (record {
                  now = tale_of end.story;
                  reads = end.reads;
                  has = open_has drives name volume old.map run.fresh place.at.kept.memory (history_after_all g end.come.es) (tale_of end.story) its.o end.come.known still its.opened;
                  left = subst (λ (l : List Exchange). AreLeft l from (tale_of end.story)) (λ i. append-nil since i ++ here_is i) both;
                })
          ]

    -- and runs before, from any start on
    pub all_left : (first : List Ran) (from : Tale) (runs : Runs drives first from before run.t.tale) → HaveMetNone runs → StillLasts first from
        → TakeVolume volume (lines_since drives name first from before run.t.tale runs ++ here) ⊎ LeftAtRead (lines_since drives name first from before run.t.tale runs ++ here) from
    all_left first from runs clean lasts =
        let since = lines_since drives name first from before run.t.tale runs in
        elim (runs_leave drives name sound of_table given table volume number old first from before run.t.tale runs clean lasts) [
          | inl takes ↦ inl (take_before volume since here takes)
          | inr (still, left) ↦ elim (by_lines since from still left) [
            | inl takes ↦ inl (take_behind volume since here takes)
            | inr at_read ↦ inr at_read
          ]
        ]
