-- What a read tells of a block whose write was acknowledged, in this run or an earlier one: that write's value, or one that a line behind it may have written.
use Rattle.std.proofs.Common.{◌≡◌, inl, inr, ℕ, ◌<◌, false, List, [], ◌∷◌, ◌++◌, Contains, refl, sym, ◌∙◌, ap, subst}
use Rattle.std.proofs.lemmas.List.Elements.{Contains-append_left, Contains-append_right}
use Rattle.mdv_engine_law.specs.Answers.{accepted}
use Rattle.mdv_engine_law.specs.Line.{Memory, contents}
use Rattle.mdv_layout_law.specs.Chained.{IsFrontOf}
use Rattle.mdv_name.specs.declared.geometry.Geometry.{Geometry}
use Rattle.mdv_port.specs.Script.{Script}
use Rattle.mdv_run_law.specs.Below.{Host, IsSound, Map, Table, VolId}
use Rattle.mdv_dev.proofs.Copies.{reads_there}
use Rattle.mdv_run_law.specs.Lives.{Ran, host_of}
use Rattle.mdv_run_law.specs.Run.{started}
use Rattle.mdv_status.specs.Values.{significant, values_reply}
use Rattle.mdv_volumes.proofs.Maps.{same_map}
use Rattle.mdv_volumes.proofs.Made.{HasFront, front_stays, has_itself}
use Rattle.mdv_theorem.specs.Exchanges.{Exchange, IsAcknowledged, IsSameBlock, MayBeWritten, TellsBlock, exchanges_by}
use Rattle.mdv_theorem.specs.Observed.{WritesLast}
use Rattle.mdv_theorem.specs.Running.{Running}
use Rattle.mdv_theorem.proofs.Agreeing.{taken_or, told_there}
use Rattle.mdv_theorem.proofs.Blocks.{write_left}
use Rattle.mdv_theorem.specs.Words.{IsOrWasWritten}
use Rattle.mdv_theorem.proofs.Clean.{its_start}
use Rattle.mdv_theorem.proofs.Contents.{IsStill, IsToldOf, acked_block, content_steps, first_left, told_block}
use Rattle.mdv_theorem.proofs.Kept.{keeps_over}
use Rattle.mdv_theorem.proofs.Ends.{take_before, take_behind}
use Rattle.mdv_theorem.proofs.Living.{lived_life}
use Rattle.mdv_theorem.proofs.Parting.{in_first, in_second, parts}
use Rattle.mdv_theorem.proofs.Place.{BlockAt, block_shorter, spot_beside}
use Rattle.mdv_theorem.proofs.Staying.{KeepsAtFirst, first_keeps, its_sound, passed}
use Rattle.mdv_theorem.proofs.Steps.{Between, Failed, Reached, Steps, reached}
use Rattle.mdv_theorem.proofs.Tables.{Keeps, keeps_open, open_keeps}
use Rattle.mdv_shown.specs.Site.{site_area}

-- a block that has a value, or one that a line may have written, is told so
pub was_told : (volume : VolId) (number : ℕ) (old block x : List ℕ) (lines : List Exchange) → IsSameBlock block x → IsOrWasWritten volume number old lines x → IsOrWasWritten volume number old lines block
was_told volume number old block x lines same (inl is) = inl (same ∙ is)
was_told volume number old block x lines same (inr (inl (one, new, has, may, is))) = inr (inl (one, new, has, may, same ∙ is))
was_told volume number old block x lines same (inr (inr away)) = inr (inr away)

-- lines before others, and behind them
more_behind : (volume : VolId) (number : ℕ) (old x : List ℕ) (lines more : List Exchange) → IsOrWasWritten volume number old lines x → IsOrWasWritten volume number old (lines ++ more) x
more_behind volume number old x lines more (inl is) = inl is
more_behind volume number old x lines more (inr (inl (one, new, has, may, is))) = inr (inl (one, new, Contains-append_left lines more one has, may, is))
more_behind volume number old x lines more (inr (inr (one, has, may))) = inr (inr (one, Contains-append_left lines more one has, may))

more_before : (volume : VolId) (number : ℕ) (old x : List ℕ) (lines more : List Exchange) → (one : Exchange) (new : List ℕ) → Contains more one → MayBeWritten volume number new one → x ≡ new → IsOrWasWritten volume number old (lines ++ more) x
more_before volume number old x lines more one new has may is = inr (inl (one, new, Contains-append_right lines more one has, may, ap significant is))

module _ (drives : Geometry) (name : List ℕ) (before : List Ran) (script : Script) (sound : IsSound drives) (of_table : Contains drives.hosts name) (run : Running drives name before script) (here : List Exchange) (read : Exchange) (at : Reached run (its_start run of_table) here read)
    (volume : VolId) (number : ℕ) (block : List ℕ) (tells : TellsBlock volume number block read) where
  abbrev host : Host
  host = host_of drives name run.fresh

  abbrev own : IsSound host.drives
  own = its_sound drives name before script sound of_table run

  abbrev pub told : IsToldOf host volume number block at.kept at.next
  told = told_block host own at.calls at.kept at.next at.sure read at.answer at.comes at.said at.told volume number block tells

  -- the volume lies there, and may have more blocks behind
  abbrev Lies : Map → Table → Type 0
  Lies v table = HasFront host.drives volume v table

  abbrev last : Between host
  last = record { kept = at.kept; sure = at.sure }

  -- its block is none of a replica's
  told_out : site_area host.site told.spot.at.drive told.spot.at.block ≡ false
  told_out = spot_beside host own refl told.o.table volume number told.spot

  -- from a line on, behind which its block had that value
  module _ (v : Map) (place : BlockAt v number) (out : site_area host.site place.drive place.block ≡ false) (lines es : List Exchange) (mid : Between host) (keeps : Keeps host (Lies v) mid) (steps : Steps host (Failed run) mid es last)
      (old : List ℕ) (was : IsOrWasWritten volume number old lines (mid.kept.content place.drive place.block)) where
    module _ (now : Keeps host (Lies v) last) where
      its_value : IsSameBlock block (at.kept.content place.drive place.block)
      its_value = told_there host own refl volume number v place last at.next block now told

      then_value : IsStill host own refl volume v number place out es mid.kept at.kept → IsOrWasWritten volume number old (lines ++ es) block
      then_value (inl same) = was_told volume number old block (mid.kept.content place.drive place.block) (lines ++ es) (its_value ∙ ap significant same) (more_behind volume number old (mid.kept.content place.drive place.block) lines es was)
      then_value (inr (one, new, has, may, reads)) = was_told volume number old block (at.kept.content place.drive place.block) (lines ++ es) its_value (more_before volume number old (at.kept.content place.drive place.block) lines es one new has may reads)

    last_value : IsOrWasWritten volume number old (lines ++ es) block
    last_value = elim (keeps_over host volume (Lies v) (front_stays host.drives volume v) (Failed run) mid last es keeps steps) [
      | inl takes ↦ taken_or volume number old (lines ++ es) block (take_behind volume lines es takes)
      | inr now ↦ elim (content_steps host own refl volume v number place out (Failed run) mid last es keeps steps) [
        | inl takes ↦ taken_or volume number old (lines ++ es) block (take_behind volume lines es takes)
        | inr still ↦ then_value now still
      ]
    ]

  -- the write is one of this run
  written_here : (front between : List Exchange) (write : Exchange) (old : List ℕ) → here ≡ front ++ write ∷ between → IsAcknowledged volume number old write → IsOrWasWritten volume number old between block
  written_here front between write old is acknowledged =
      let way = passed drives name before script sound of_table run (its_start run of_table) here read at front between write is in
      let step = way.step in
      let mid : Between host = record { kept = step.mid; sure = step.next } in
      let to = acked_block host own step.calls step.kept step.mid step.sure write step.answer step.comes step.said step.told volume number old acknowledged in
      let opened = ap (λ (m : Memory). m.opened) to.memory ∙ to.opened in
      let keeps : Keeps host (Lies to.spot.map) mid = keeps_open host (Lies to.spot.map) mid to.o opened (has_itself host.drives volume to.spot.map to.o.table to.spot.lies) in
      let out = spot_beside host own refl to.o.table volume number to.spot in
      last_value to.spot.map to.spot.at out [] between mid keeps step.after old (inl (ap significant to.reads))

  -- where the volume lay as the run began: its boot wrote no block of a volume
  module _ (v : Map) (within : number < v.blocks) (lasts : KeepsAtFirst drives name before script sound of_table run (its_start run of_table) (λ table. HasFront host.drives volume v table)) where
    abbrev begun : Between host
    begun = record { kept = at.first; sure = at.first_sure }

    booted_so : Keeps host (Lies v) begun
    booted_so = first_keeps drives name before script sound of_table run (its_start run of_table) here read at volume (Lies v) (front_stays host.drives volume v) lasts

    -- there it is read
    same : Keeps host (Lies v) last → IsFrontOf v told.spot.map
    same now =
        let there = open_keeps host (Lies v) last told.o now told.opened in
        subst (IsFrontOf v) (same_map host.drives told.o.table volume there.0 told.spot.map there.1 told.spot.lies) there.2

    -- what earlier runs left in the block, or a line before the read may have written
    pub since_began : (rest : List Exchange) (old : List ℕ) → (IsFrontOf v told.spot.map → IsOrWasWritten volume number old rest (contents run.t.tale told.spot.at.drive told.spot.at.block)) → IsOrWasWritten volume number old (rest ++ here) block
    since_began rest old was = elim (keeps_over host volume (Lies v) (front_stays host.drives volume v) (Failed run) begun last here booted_so at.steps) [
      | inl takes ↦ taken_or volume number old (rest ++ here) block (take_behind volume rest here takes)
      | inr now ↦
          let is = same now in
          let place = block_shorter v told.spot.map number is within told.spot.at in
          let kept_on = first_left host own refl volume v number place told_out at.booted accepted (started (contents run.t.tale)) at.first at.boots in
          last_value v place told_out rest here begun booted_so at.steps old (subst (λ (y : List ℕ). IsOrWasWritten volume number old rest y) (sym kept_on) (was is))
    ]

  -- the write is one of an earlier run: what that left is what this one began with
  written_before : (first rest : List Exchange) (write : Exchange) (old : List ℕ) → exchanges_by name before ≡ first ++ write ∷ rest → IsAcknowledged volume number old write → IsOrWasWritten volume number old (rest ++ here) block
  written_before first rest write old stood acknowledged = elim (write_left drives name run.made before run.t.tale sound of_table (lived_life drives run.made before run.t.tale run.life) first rest write volume number old stood acknowledged) [
    | inl takes ↦ taken_or volume number old (rest ++ here) block (take_before volume rest here takes)
    | inr is ↦
        let x = contents run.t.tale told.spot.at.drive told.spot.at.block in
        since_began is.map is.within is.lasts rest old
        (λ front. (let place = block_shorter is.map told.spot.map number front is.within told.spot.at in is.values x (reads_there is.map number place.drive place.block place.lies (contents run.t.tale))))
  ]

pub writes_last : WritesLast
writes_last drives name before script of_table run read write earlier first between volume number old block answered stands acknowledged tells =
    let sound = run.life.fair in
    let at = reached run of_table answered.here answered.later read (values_reply tells.at tells.blocks) answered.is tells.told in
    elim (parts (exchanges_by name before) answered.here first between write (sym answered.behind ∙ stands)) [
      | in_first rest is behind ↦
          subst (λ (l : List Exchange). IsOrWasWritten volume number old l block) (sym behind)
          (written_before drives name before script sound of_table run answered.here read at volume number block tells first rest write old is acknowledged)
      | in_second front is behind ↦ written_here drives name before script sound of_table run answered.here read at volume number block tells front between write old behind acknowledged
    ]
