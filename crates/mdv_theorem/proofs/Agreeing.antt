-- What two reads of a run tell of one block agrees, but for what was written in between.
use Rattle.std.proofs.Common.{◌≡◌, inl, inr, ℕ, false, List, ◌∷◌, ◌++◌, Some, refl, sym, ◌∙◌, ap}
use Rattle.mdv_base.specs.declared.name.VolId.{VolId}
use Rattle.mdv_engine_law.specs.Line.{Kept, Memory}
use Rattle.mdv_engine_law.specs.declared.host.Host.{Host}
use Rattle.mdv_home.proofs.Viewing.{view_is_own}
use Rattle.mdv_map.specs.Maps.{Map}
use Rattle.mdv_name.specs.declared.geometry.Geometry.{Geometry}
use Rattle.mdv_run_law.specs.Lives.{host_of}
use Rattle.mdv_run_law.proofs.Extents.{SeesOwn}
use Rattle.mdv_status.specs.Values.{significant, values_reply}
use Rattle.mdv_config.specs.Slices.{IsSound}
use Rattle.mdv_plan.specs.declared.table.Table.{Table}
use Rattle.mdv_volumes.proofs.Made.{HasFront, front_stays, has_itself}
use Rattle.mdv_theorem.specs.Exchanges.{Exchange, IsSameBlock}
use Rattle.mdv_theorem.specs.Observed.{ReadsAgree}
use Rattle.mdv_theorem.specs.Words.{IsOrWasWritten}
use Rattle.mdv_theorem.proofs.Contents.{IsStill, IsToldOf, content_steps, told_block}
use Rattle.mdv_theorem.proofs.Ends.{TakeVolume}
use Rattle.mdv_theorem.proofs.Kept.{keeps_over}
use Rattle.mdv_theorem.proofs.Steps.{Between, Failed, Steps, reached, stepped, steps_cut}
use Rattle.mdv_theorem.proofs.Tables.{Keeps, keeps_open, open_keeps}
use Rattle.mdv_theorem.proofs.Place.{BlockAt, front_spot, spot_beside}
use Rattle.mdv_shown.specs.Site.{site_area}

-- what a host sees of sound drives
pub own_sound : (drives : Geometry) (name : List ℕ) (fresh : ℕ) → IsSound drives → IsSound (host_of drives name fresh).drives
own_sound drives name fresh sound = view_is_own.sound drives name sound

-- where a line took the volume away, nothing more is said
pub taken_or : (volume : VolId) (number : ℕ) (old : List ℕ) (lines : List Exchange) (block : List ℕ) → TakeVolume volume lines → IsOrWasWritten volume number old lines block
taken_or volume number old lines block takes = inr (inr takes)

module _ (host : Host) (sound : IsSound host.drives) (sees : SeesOwn host) (volume : VolId) (number : ℕ) where
  abbrev Lies_in : Map → Table → Type 0
  Lies_in v t = HasFront host.drives volume v t

  -- a block that was told is where it was known to lie
  pub told_there : (v : Map) (place : BlockAt v number) (at : Between host) (next : Kept) (block : List ℕ) → Keeps host (Lies_in v) at → IsToldOf host volume number block at.kept next → IsSameBlock block (at.kept.content place.drive place.block)
  told_there v place at next block keeps told =
      let lies = open_keeps host (Lies_in v) at told.o keeps told.opened in
      let same = front_spot host.drives sound told.o.table told.spot.plan volume told.spot.map v number told.spot.lies lies told.spot.at place in
      told.same ∙ (λ i. significant (at.kept.content (same.0 i) (same.1 i)))

  module _ (Failed : ℕ → Type 0) (es : List Exchange) (kept : Kept) (mid last : Between host) (next : Kept) (old block : List ℕ) (told : IsToldOf host volume number old kept mid.kept) (steps : Steps host Failed mid es last) (again : IsToldOf host volume number block last.kept next) where
    abbrev map : Map
    map = told.spot.map

    abbrev place : BlockAt map number
    place = told.spot.at

    abbrev Lies : Table → Type 0
    Lies = Lies_in map

    still_open : mid.kept.memory.opened ≡ Some told.o
    still_open = ap (λ (m : Memory). m.opened) told.stays.memory ∙ told.opened

    keeps : Keeps host Lies mid
    keeps = keeps_open host Lies mid told.o still_open (has_itself host.drives volume map told.o.table told.spot.lies)

    -- none of a replica's
    out : site_area host.site place.drive place.block ≡ false
    out = spot_beside host sound sees told.o.table volume number told.spot

    by : Keeps host Lies last → IsStill host sound sees volume map number place out es mid.kept last.kept → IsOrWasWritten volume number old es block
    by now (inl same) = inl (told_there map place last next block now again ∙ ap significant (same ∙ told.stays.content place.drive place.block) ∙ sym told.same)
    by now (inr (one, new, has, may, reads)) = inr (inl (one, new, has, may, told_there map place last next block now again ∙ ap significant reads))

    agree_on : IsOrWasWritten volume number old es block
    agree_on = elim (keeps_over host volume Lies (front_stays host.drives volume map) Failed mid last es keeps steps) [
      | inl takes ↦ taken_or volume number old es block takes
      | inr now ↦ elim (content_steps host sound sees volume map number place out Failed mid last es keeps steps) [
        | inl takes ↦ taken_or volume number old es block takes
        | inr still ↦ by now still
      ]
    ]

pub reads_agree : ReadsAgree
reads_agree = λ drives name before script of_table run read again first between later volume number old block parts tells tells_again.
    let host = host_of drives name run.fresh in
    let own = own_sound drives name run.fresh run.life.fair in
    let there = reached run of_table (first ++ read ∷ between) later again (values_reply tells_again.at tells_again.blocks) parts tells_again.told in
    let last : Between host = record { kept = there.kept; sure = there.sure } in
    let cut = steps_cut host (Failed run) first (read ∷ between) (record { kept = there.first; sure = there.first_sure }) last there.steps in
    let line = stepped host (Failed run) cut.0 last read between cut.2 in
    agree_on host own refl volume number (Failed run) between line.kept (record { kept = line.mid; sure = line.next }) last there.next old block
    (told_block host own line.calls line.kept line.mid line.sure read line.answer line.comes line.said line.told volume number old tells) line.after
    (told_block host own there.calls there.kept there.next there.sure again there.answer there.comes there.said there.told volume number block tells_again)
