-- A volume that a line of a run found in the open table lasts, over what the run did since, unless a line may have taken it away.
use Rattle.std.proofs.Common.{◌≡◌, ◌⊎◌, inl, inr, ℕ, ◌+◌, List, ◌∷◌, ◌++◌, length, Some, Contains, sym, ◌∙◌, subst}
use Rattle.mdv_base.specs.declared.name.VolId.{VolId}
use Rattle.mdv_engine_law.specs.declared.host.Host.{Host}
use Rattle.mdv_map.specs.Maps.{Map}
use Rattle.mdv_volumes.specs.Tables.{IsMapOf}
use Rattle.mdv_name.specs.declared.geometry.Geometry.{Geometry}
use Rattle.mdv_port.specs.Script.{Script}
use Rattle.mdv_run_law.specs.Lives.{Ran, host_of}
use Rattle.mdv_run_law.specs.Run.{behind_boot}
use Rattle.mdv_shelf.specs.Story.{Moment, Story, tale_of}
use Rattle.mdv_shelf.specs.Tale.{told}
use Rattle.mdv_store.specs.Opened.{Opened}
use Rattle.mdv_config.specs.Slices.{IsSound}
use Rattle.mdv_volumes.specs.History.{History, history_after_all}
use Rattle.mdv_theorem.specs.Exchanges.{Exchange, IsTold, exchanges_of}
use Rattle.mdv_theorem.specs.Running.{Running, exchanges_now}
use Rattle.mdv_theorem.proofs.Clean.{its_start, none_met, start}
use Rattle.mdv_theorem.proofs.Come.{HasMetNothing}
use Rattle.mdv_theorem.proofs.Ends.{TakeVolume, take_before, take_behind}
use Rattle.mdv_theorem.proofs.Given.{Given}
use Rattle.mdv_theorem.proofs.Later.{IsLasting, LastsNow, open_lasts}
use Rattle.mdv_theorem.proofs.Left.{CameBefore, Gone, gone_lasts, lines_go, lines_here, lines_say}
use Rattle.mdv_theorem.proofs.Reread.{Came, there}
use Rattle.mdv_theorem.proofs.Sure.{IsSureAt, since_last}
use Rattle.mdv_theorem.proofs.Tail.{lasts_work, rest_told}

-- what the run had open before a line that it answered
module _ (given : Given) (drives : Geometry) (name : List ℕ) (before : List Ran) (script : Script) (sound : IsSound drives) (of_table : Contains drives.hosts name) (run : Running drives name before script) (here rest behind : List Exchange) (one : Exchange) (reply : List ℕ) (told_it : IsTold one reply)
    (m : Moment) (bytes : List ℕ) (at : Came drives name before script sound of_table run here behind one reply told_it m bytes) (now : exchanges_now run ≡ here ++ one ∷ rest) where
  abbrev host : Host
  host = host_of drives name run.fresh

  abbrev h : History
  h = start run of_table

  abbrev none : HasMetNothing host script h run.t.tale m.tale
  none = none_met run of_table m.tale at.clean

  abbrev pub point : (u : Story) × (at.place.at.story ≡ Some u)
  point = there drives name before script sound of_table run here rest behind one reply told_it m bytes at now run.moment.begins.0 run.moment.begins.1

  -- the place before the line came before the moment
  since_there : CameBefore drives name sound of_table given run.fresh script h run.t.tale m.tale none at.place.at
  since_there = since_last host run.stretch (0 + length at.place.front) at.place.at at.by.lines.at at.place.left m.tale at.place.more (λ u is. (at.by.lines.work u is).moment.since)

  to_there : Gone drives name sound of_table given run.fresh script h run.t.tale m.tale none (behind_boot at.by.booted at.by.by at.by.kept script) at.place.at at.first_sure (lines_here host run.stretch 0 (behind_boot at.by.booted at.by.by at.by.kept script) at.place.at at.place.front at.place.lines)
  to_there = lines_go drives name sound of_table given run.fresh script h run.t.tale m.tale none run.stretch 0 (behind_boot at.by.booted at.by.by at.by.kept script) at.place.at at.place.front at.place.lines at.first_sure since_there

  -- a history is known there
  pub known_there : IsSureAt host script h run.t.tale at.place.at
  known_there = to_there.next

  pub known_point : known_there.story ≡ point.0
  known_point = (let both : Some known_there.story ≡ Some point.0 = sym known_there.is ∙ point.1 in cc (both))

  -- what was open has each volume of it
  pub open_there : (o : Opened) → at.place.at.kept.memory.opened ≡ Some o → (volume : VolId) (v : Map) → IsMapOf host.drives o.table volume v → IsLasting drives name volume v (history_after_all h known_there.come.es)
  open_there o opened volume v lies = open_lasts drives name volume v run.fresh at.place.at.kept.memory (history_after_all h known_there.come.es) (tale_of known_there.story) o known_there.come.known opened lies

  -- and it lasts, unless the line or one behind it may have taken it away
  pub lasts_there : (volume : VolId) (v : Map) → IsLasting drives name volume v (history_after_all h known_there.come.es) → (is_told : told m.tale ≡ told run.t.tale ++ bytes)
      → TakeVolume volume (one ∷ behind) ⊎ LastsNow drives name volume v (record { host = name; fresh = run.fresh; script = script; bytes = bytes }) before m.tale
  lasts_there volume v first is_told =
      let last = at.by.lines.at in
      let left = at.place.left in
      let more = at.by.lines.rest in
      let these = lines_here host run.stretch (0 + length at.place.front) at.place.at last left at.place.more in
      let others = exchanges_of last.script more in
      let all : these ++ others ≡ one ∷ behind = sym (lines_say host run.stretch (0 + length at.place.front) at.place.at last left more at.place.more) ∙ at.place.asked in
      let gone = lines_go drives name sound of_table given run.fresh script h run.t.tale m.tale none run.stretch (0 + length at.place.front) at.place.at last left at.place.more known_there (λ u is. (at.by.lines.work u is).moment.since) in
      elim (gone_lasts drives name sound of_table given run.fresh script h run.t.tale m.tale none at.place.at last known_there these gone volume v first) [
        | inl takes ↦ inl (subst (TakeVolume volume) all (take_before volume these others takes))
        | inr lasts ↦
            let end = gone.next in
            let told_more = rest_told host run.stretch run.start run.t.tale script bytes m at.by is_told run.moment.begins.0 run.moment.begins.1 run.moment.begins.2 end.story end.is in
            elim (lasts_work drives name run.fresh before script run.t.tale run.made (its_start run of_table) m none bytes is_told last end more told_more (at.by.lines.work end.story end.is).moment volume v lasts) [
              | inl takes ↦ inl (subst (TakeVolume volume) all (take_behind volume these others takes))
              | inr is ↦ inr is
            ]
      ]
