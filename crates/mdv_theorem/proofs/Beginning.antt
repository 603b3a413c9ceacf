-- What a read tells of a block is what the new drives held in the block of a drive where it may lie, or what one of the lines since may have put there.
use Rattle.std.proofs.Common.{◌≡◌, inl, inr, ℕ, false, List, ◌∷◌, ◌++◌, refl, sym, ◌∙◌, ap, subst, Contains}
use Rattle.mdv_base.specs.declared.name.VolId.{VolId}
use Rattle.mdv_dev.proofs.Copies.{has_copy}
use Rattle.mdv_engine_law.proofs.Plain.{nothing_answers}
use Rattle.mdv_engine_law.specs.Hosts.{host_area}
use Rattle.mdv_engine_law.specs.declared.host.Host.{Host}
use Rattle.mdv_name.specs.declared.geometry.Geometry.{Geometry}
use Rattle.mdv_port.specs.Script.{Script}
use Rattle.mdv_run_law.specs.Lives.{Ran, host_of}
use Rattle.mdv_run_law.specs.Told.{RunToldBy}
use Rattle.mdv_shelf.specs.Everywhere.{Image}
use Rattle.mdv_shelf.specs.Story.{tale_of}
use Rattle.mdv_shelf.specs.Tale.{MayLeave, last}
use Rattle.mdv_shelf.proofs.Everywhere.{last_image}
use Rattle.mdv_shown.specs.Site.{site_area}
use Rattle.mdv_status.specs.Values.{values_reply}
use Rattle.mdv_status.specs.Telling.{replies_in}
use Rattle.mdv_config.specs.Slices.{IsSound}
use Rattle.mdv_volumes.specs.History.{history_after_all}
use Rattle.mdv_volumes.specs.HistoryLaws.{new_history}
use Rattle.mdv_theorem.specs.Exchanges.{Exchange, IsSameBlock, TellsBlock, exchanges, exchanges_by}
use Rattle.mdv_theorem.specs.Observed.{BlocksBegin}
use Rattle.mdv_theorem.specs.Running.{Running, exchanges_now}
use Rattle.mdv_theorem.specs.Words.{HeldOrWasPut, MayLieAt}
use Rattle.mdv_theorem.proofs.Agreeing.{own_sound}
use Rattle.mdv_theorem.proofs.Contents.{IsToldOf}
use Rattle.mdv_theorem.proofs.Given.{Given}
use Rattle.mdv_theorem.proofs.Held.{behind, first_held, life_held}
use Rattle.mdv_theorem.proofs.Put.{lines_held}
use Rattle.mdv_theorem.proofs.Place.{BlockAt, spot_beside}
use Rattle.mdv_theorem.proofs.Spots.{spot_elsewhere}
use Rattle.mdv_theorem.proofs.Steps.{unreplied}
use Rattle.mdv_theorem.proofs.Sure.{booted}
use Rattle.mdv_theorem.proofs.Until.{ThePlace, before_now, here_is, its, lie, place}

-- the block was held so at first, or was put so by one of these lines, in the block of a drive where it may lie
abbrev Begins : Geometry → List ℕ → Image → VolId → ℕ → List ℕ → List Exchange → Type 0
Begins drives name made volume number block lines = (drive at : ℕ) × (bytes : List ℕ) × MayLieAt drives name lines volume number drive at × HeldOrWasPut drives name made lines drive at bytes × IsSameBlock block bytes

module _ (drives : Geometry) (name : List ℕ) (before : List Ran) (script : Script) (sound : IsSound drives) (of_table : Contains drives.hosts name) (run : Running drives name before script) (given : Given) (read : Exchange) (here later : List Exchange)
    (volume : VolId) (number : ℕ) (block : List ℕ) (parts : exchanges_now run ≡ here ++ read ∷ later) (tells : TellsBlock volume number block read) (by : RunToldBy (host_of drives name run.fresh) run.stretch run.start run.t.tale script run.tells.bytes run.m) where
  abbrev host : Host
  host = host_of drives name run.fresh

  abbrev all : List Exchange
  all = exchanges_by name before ++ here

  abbrev read_place : ThePlace drives name before script sound of_table run given read here later volume number block parts tells by
  read_place = place drives name before script sound of_table run given read here later volume number block parts tells by

  abbrev it : IsToldOf host volume number block read_place.at.kept read_place.next
  it = its drives name before script sound of_table run given read here later volume number block parts tells by

  -- where it lies
  abbrev its_place : BlockAt it.spot.map number
  its_place = it.spot.at

  abbrev its_bytes : List ℕ
  its_bytes = read_place.at.kept.content its_place.drive its_place.block

  out : site_area (host_of drives name 0).site its_place.drive its_place.block ≡ false
  out = spot_beside (host_of drives name 0) (own_sound drives name 0 sound) refl it.o.table volume number it.spot

  elsewhere : (other : List ℕ) (fresh : ℕ) → (other ≡ name → ⊥) → host_area (host_of drives other fresh) its_place.drive its_place.block ≡ false
  elsewhere = spot_elsewhere drives name sound it.o.table volume number it.spot

  was_put : HeldOrWasPut drives name run.made all its_place.drive its_place.block its_bytes
  was_put =
      let drive = its_place.drive in
      let at = its_place.block in
      let was = behind drives name run.made drive at sound of_table out elsewhere before run.t.tale run.life in
      let first = first_held drives name run.made drive at sound of_table out elsewhere before script run was.history was.is (life_held drives name run.made drive at sound of_table out elsewhere before run.t.tale run.life) by in
      let start = booted host run.stretch run.start run.t.tale script run.tells.bytes run.m by in
      let there = lines_held drives name run.made drive at sound out run.fresh script (history_after_all new_history was.history.es) run.t.tale run.m.tale (run.clean run.made was.history) run.stretch 0 start read_place.at read_place.front read_place.lines
      (before_now drives name before script sound of_table run given read here later volume number block parts tells by) (exchanges_by name before) first in
      let now = tale_of there.so.sure.story in
      let reads : last now drive at ≡ its_bytes = there.so.sure.reads drive at in
      let may : MayLeave now drive at its_bytes = subst (MayLeave now drive at) reads ((last_image now).each drive at) in
      subst (λ (l : List Exchange). HeldOrWasPut drives name run.made (exchanges_by name before ++ l) drive at its_bytes)
      (here_is drives name before script sound of_table run given read here later volume number block parts tells by) (there.held its_bytes may)

  begins_at : MayLieAt drives name all volume number its_place.drive its_place.block
  begins_at = record {
    map = it.spot.map;
    may = lie drives name before script sound of_table run given read here later volume number block parts tells by;
    within = its_place.within;
    lies = has_copy it.spot.map number its_place.drive its_place.block its_place.lies;
  }

  block_begins : Begins drives name run.made volume number block all
  block_begins = (its_place.drive, its_place.block, its_bytes, begins_at, was_put, it.same)

pub blocks_begin : Given → BlocksBegin
blocks_begin given drives name before script of_table run read earlier volume number block answered tells =
    subst (Begins drives name run.made volume number block) (sym answered.behind) (elim run.tells.tells [
      | inl none ↦
          absurd (unreplied script answered.here answered.later read (values_reply tells.at tells.blocks)
          (subst (λ (l : List (List ℕ)). exchanges script l ≡ answered.here ++ read ∷ answered.later) (ap replies_in none.0 ∙ nothing_answers) answered.is) tells.told)
      | inr by ↦ block_begins drives name before script run.life.fair of_table run given read answered.here answered.later volume number block answered.is tells by
    ])
