-- What a read tells of a block is what a read of an earlier run told of it, by which no call had failed on the block's drive, or was written in between.
use Rattle.std.proofs.Common.{◌≡◌, ◌⊎◌, inl, inr, ℕ, ◌+◌, true, List, [], ◌∷◌, ◌++◌, length, Contains, refl, sym, ◌∙◌, ap, subst, append_assoc, if◌then◌else◌, arith}
use Rattle.std.proofs.lemmas.List.{append-nil, append_cancel_left}
use Rattle.std.proofs.lemmas.List.Elements.{Contains-append_cases}
use Rattle.std.proofs.lemmas.Slice.Eq.{bytes_eq-Decides}
use Rattle.std.specs.Prelude.{Bool}
use Rattle.std.specs.Str.{bytes_eq}
use Rattle.mdv_base.specs.declared.drive.DriveNo.{DriveNo}
use Rattle.mdv_base.specs.declared.name.VolId.{VolId}
use Rattle.mdv_dev.proofs.Copies.{has_copy}
use Rattle.mdv_engine_law.specs.declared.host.Host.{Host}
use Rattle.mdv_engine_law.proofs.Plain.{nothing_answers}
use Rattle.mdv_home.proofs.Siting.{sites_are_own}
use Rattle.mdv_home.proofs.Viewing.{view_is_own}
use Rattle.mdv_home.specs.View.{own_view}
use Rattle.mdv_name.specs.declared.geometry.Geometry.{Geometry}
use Rattle.mdv_port.specs.Script.{Script}
use Rattle.mdv_run_law.specs.Lives.{Ran, host_of}
use Rattle.mdv_run_law.specs.Told.{RunToldBy}
use Rattle.mdv_shelf.specs.Area.{KeptOutside}
use Rattle.mdv_shelf.specs.Story.{Story, tale_of}
use Rattle.mdv_shelf.specs.Tale.{MayLeave, Tale, last, told}
use Rattle.mdv_shelf.proofs.Blocks.{last_may_be_left}
use Rattle.mdv_status.specs.Telling.{replies_in}
use Rattle.mdv_status.specs.Values.{significant, values_reply}
use Rattle.mdv_shown.specs.Site.{site_area}
use Rattle.mdv_config.specs.Slices.{IsSound}
use Rattle.mdv_volumes.proofs.Lists.{first_or_behind}
use Rattle.mdv_words.proofs.Lines.{one_line}
use Rattle.mdv_words.specs.Line.{Exec}
use Rattle.mdv_words.specs.declared.command.Command.TheVariants.{Read, Write}
use Rattle.mdv_layout_law.specs.Laid.{plain_area}
use Rattle.mdv_theorem.specs.Exchanges.{Exchange, IsSameBlock, MayBeWritten, TellsBlock, exchanges, exchanges_by, exchanges_of}
use Rattle.mdv_theorem.specs.Observed.{Bears, RunsAgree}
use Rattle.mdv_theorem.specs.Running.{HasAnswered, HaveMetNone, Running, Runs, WentOn, exchanges_now, ran_on}
use Rattle.mdv_theorem.specs.Words.{IsOrWasWritten, MayTakeAway, TakesAway}
use Rattle.mdv_theorem.proofs.Contents.{IsToldOf, told_block}
use Rattle.mdv_theorem.proofs.Given.{Given}
use Rattle.mdv_theorem.proofs.Later.{IsLasting, Lasts, LastsNow, lasts_between, lines_since}
use Rattle.mdv_theorem.proofs.Leaving.{Leaves, Written, leaves_more, own}
use Rattle.mdv_theorem.proofs.Place.{Spot, front_spot, spot_own, spot_plain}
use Rattle.mdv_theorem.proofs.Tail.{tail_leaves}
use Rattle.mdv_theorem.proofs.Until.{LeftAtRead, ThePlace, all_left, its, lie, place, spot}
use Rattle.mdv_theorem.proofs.Agreeing.{taken_or}
use Rattle.mdv_theorem.proofs.Clean.{its_start, none_met, start}
use Rattle.mdv_theorem.proofs.Ends.{TakeVolume, take_before, take_behind}
use Rattle.mdv_theorem.proofs.Lines.{the_only}
use Rattle.mdv_theorem.proofs.Opened.{known_point, known_there, lasts_there, open_there}
use Rattle.mdv_theorem.proofs.Over.{found_leaves, since_are}
use Rattle.mdv_theorem.proofs.Reread.{Came, came, settled_there}
use Rattle.mdv_theorem.proofs.Settled.{IsSettledAt}
use Rattle.mdv_theorem.proofs.Staying.{its_sound}
use Rattle.mdv_theorem.proofs.Steps.{unreplied}
use Rattle.mdv_theorem.proofs.Sure.{IsSureAt}
use Rattle.mdv_map.specs.Maps.{Map}
use Rattle.mdv_volumes.specs.History.{history_after_all}

-- a read writes no block
never_written : (read : Exchange) (volume other : VolId) (number at : ℕ) (old new : List ℕ) (tells : TellsBlock volume at old read) → MayBeWritten other number new read → ⊥
never_written read volume other number at old new tells may =
    let its = may.writes in
    let same : Exec (Read volume tells.at (length tells.blocks)) ≡ Exec (Write other its.at its.what) = one_line read.text (Exec (Read volume tells.at (length tells.blocks))) (Exec (Write other its.at its.what)) tells.asks its.asks in
    cc same

-- nor does it take the volume away
read_keeps : (read : Exchange) (volume : VolId) (number : ℕ) (block : List ℕ) → TellsBlock volume number block read → MayTakeAway volume read → ⊥
read_keeps read volume number block tells takes =
    let same : Exec takes.command ≡ Exec (Read volume tells.at (length tells.blocks)) = one_line read.text (Exec takes.command) (Exec (Read volume tells.at (length tells.blocks))) takes.asks tells.asks in
    let both : takes.command ≡ Read volume tells.at (length tells.blocks) = cc (same) in
    subst (TakesAway volume) both takes.takes

taken_behind : (read : Exchange) (volume : VolId) (number : ℕ) (block : List ℕ) → TellsBlock volume number block read → (rest : List Exchange) → TakeVolume volume (read ∷ rest) → TakeVolume volume rest
taken_behind read volume number block tells rest takes = elim (first_or_behind read takes.0 rest takes.1) [
  | inl here ↦ absurd (read_keeps read volume number block tells (subst (MayTakeAway volume) (sym here) takes.2))
  | inr behind ↦ (takes.0, behind, takes.2)
]

-- Where a run that was stopped was before the read, and what lasts of what it read.
module _ (given : Given) (drives : Geometry) (name : List ℕ) (before : List Ran) (script : Script) (sound : IsSound drives) (of_table : Contains drives.hosts name) (run : Running drives name before script) (next : Tale) (went : WentOn run next) (here rest behind : List Exchange) (read : Exchange)
    (volume : VolId) (number : ℕ) (old : List ℕ) (tells : TellsBlock volume number old read) (now : exchanges_now run ≡ here ++ read ∷ rest) (so_went : exchanges_of script went.stands.bytes ≡ here ++ read ∷ behind) where
  abbrev host : Host
  host = host_of drives name run.fresh

  abbrev reply : List ℕ
  reply = values_reply tells.at tells.blocks

  -- what was told of it by then
  bytes_are : went.tells.bytes ≡ went.stands.bytes
  bytes_are = append_cancel_left (told run.t.tale) went.tells.bytes went.stands.bytes (sym went.tells.is_told ∙ went.stands.is_told)

  pub at : Came drives name before script sound of_table run here behind read reply tells.told went.m went.tells.bytes
  at = came drives name before script sound of_table run here behind read reply tells.told went.m went.tells went.clean (subst (λ (b : List ℕ). exchanges_of script b ≡ here ++ read ∷ behind) (sym bytes_are) so_went)

  -- as it was told there
  pub then_told : IsToldOf host volume number old at.place.at.kept at.place.next
  then_told = told_block host (its_sound drives name before script sound of_table run) at.place.calls at.place.at.kept at.place.next at.place.sure read at.place.answer at.place.comes at.place.said at.place.told volume number old tells

  -- a history is known there
  abbrev pub known : IsSureAt host script (start run of_table) run.t.tale at.place.at
  known = known_there given drives name before script sound of_table run here rest behind read reply tells.told went.m went.tells.bytes at now

  abbrev pub its_run : Ran
  its_run = ran_on run next went

  abbrev told_run : Ran
  told_run = record { host = name; fresh = run.fresh; script = script; bytes = went.tells.bytes }

  same_run : told_run ≡ its_run
  same_run = λ i. record { host = name; fresh = run.fresh; script = script; bytes = bytes_are i }

  -- where the block lay
  abbrev pub old_spot : Spot (own drives name).drives then_told.o.table volume number
  old_spot = then_told.spot

  abbrev old_map : Map
  old_map = old_spot.map

  lasts_here : IsLasting drives name volume old_map (history_after_all (start run of_table) known.come.es)
  lasts_here = open_there given drives name before script sound of_table run here rest behind read reply tells.told went.m went.tells.bytes at now then_told.o then_told.opened volume old_map old_spot.lies

  pub lasts_next : TakeVolume volume behind ⊎ Lasts drives name volume old_map (its_run ∷ before) next
  lasts_next = elim (lasts_there given drives name before script sound of_table run here rest behind read reply tells.told went.m went.tells.bytes at now volume old_map lasts_here went.tells.is_told) [
    | inl takes ↦ inl (taken_behind read volume number old tells behind takes)
    | inr lasts ↦ inr (lasts_between drives name volume old_map its_run before went.m.tale next went.found (subst (λ (one : Ran). LastsNow drives name volume old_map one before went.m.tale) same_run lasts))
  ]

  abbrev pub AreLeft : List Exchange → Tale → Tale → Type 0
  AreLeft es t u = Leaves volume number old_spot.at.drive old_spot.at.block es t u

  -- the lines from there on leave what was there, or what they may have written
  pub behind_left : TakeVolume volume behind ⊎ AreLeft (read ∷ behind) (tale_of known.story) next
  behind_left =
      elim (tail_leaves drives name run.fresh before script run.t.tale run.made (its_start run of_table) went.m (none_met run of_table went.m.tale went.clean) went.tells.bytes went.tells.is_told sound of_table given then_told.o.table volume number old_spot
      run.stretch (0 + length at.place.front) at.place.at at.by.lines.at at.place.left at.by.lines.rest at.place.more known at.by.lines.work at.by.lines.front lasts_here) [
        | inl takes ↦ inl (taken_behind read volume number old tells behind (subst (TakeVolume volume) at.place.asked takes))
        | inr left ↦
            let drive = old_spot.at.drive in
            let block = old_spot.at.block in
            let these = subst (λ (l : List Exchange). AreLeft l (tale_of known.story) went.m.tale) at.place.asked left in
            let all = leaves_more volume number drive block (read ∷ behind) [] (tale_of known.story) went.m.tale next these (found_leaves volume number drive block went.m.tale next went.found) in
            inr (subst (λ (l : List Exchange). AreLeft l (tale_of known.story) next) (append-nil (read ∷ behind)) all)
      ]

  -- it was read as it is there
  pub there_old : IsSameBlock (last (tale_of known.story) old_spot.at.drive old_spot.at.block) old
  there_old = ap significant (known.reads old_spot.at.drive old_spot.at.block) ∙ sym then_told.same

  -- where no call had failed on its drive, a crash would leave just that
  pub settled_so : (drive : DriveNo) → Contains host.site.drives drive → HasAnswered run drive → (b : ℕ) → plain_area host.drives drive.0 b ≡ true → IsSettledAt drive.0 b (tale_of known.story)
  settled_so drive is_own calm b plain =
      let begun = run.moment.begins in
      let same = known_point given drives name before script sound of_table run here rest behind read reply tells.told went.m went.tells.bytes at now in
      subst (λ (u : Story). IsSettledAt drive.0 b (tale_of u)) (sym same)
      (settled_there drives name before script sound of_table run here rest behind read reply tells.told went.m went.tells.bytes at now begun.0 begun.1 drive is_own calm b plain)

-- The read of the later run: the volume lies where it lay, on a slice of which no drive had failed.
module _ (given : Given) (drives : Geometry) (name : List ℕ) (before more : List Ran) (script other : Script) (next : Tale) (sound : IsSound drives) (of_table : Contains drives.hosts name) (run : Running drives name before script) (went : WentOn run next)
    (later : Running drives name more other) (runs : Runs drives (ran_on run next went ∷ before) next more later.t.tale) (clean : HaveMetNone runs) (here rest behind its_here its_rest : List Exchange) (read again : Exchange) (volume : VolId) (number : ℕ) (old block : List ℕ)
    (tells : TellsBlock volume number old read) (tells_again : TellsBlock volume number block again) (now : exchanges_now run ≡ here ++ read ∷ rest) (so_went : exchanges_of script went.stands.bytes ≡ here ++ read ∷ behind) (parts : exchanges_now later ≡ its_here ++ again ∷ its_rest)
    (by : RunToldBy (host_of drives name later.fresh) later.stretch later.start later.t.tale other later.tells.bytes later.m) where
  abbrev one : Ran
  one = ran_on run next went

  abbrev from : Came drives name before script sound of_table run here behind read (values_reply tells.at tells.blocks) tells.told went.m went.tells.bytes
  from = at given drives name before script sound of_table run next went here rest behind read volume number old tells now so_went

  abbrev told_first : IsToldOf (host_of drives name run.fresh) volume number old from.place.at.kept from.place.next
  told_first = then_told given drives name before script sound of_table run next went here rest behind read volume number old tells now so_went

  abbrev place_again : ThePlace drives name more other sound of_table later given again its_here its_rest volume number block parts tells_again by
  place_again = place drives name more other sound of_table later given again its_here its_rest volume number block parts tells_again by

  abbrev told_again : IsToldOf (host_of drives name later.fresh) volume number block place_again.at.kept place_again.next
  told_again = its drives name more other sound of_table later given again its_here its_rest volume number block parts tells_again by

  abbrev its_spot : Spot (own drives name).drives told_again.o.table volume number
  its_spot = spot drives name more other sound of_table later given again its_here its_rest volume number block parts tells_again by

  abbrev pub since : List Exchange
  since = lines_since drives name (one ∷ before) next more later.t.tale runs

  -- the lines between the reads, of which one may have taken the database away
  abbrev pub between : List Exchange
  between = (behind ++ since) ++ its_here

  by_behind : TakeVolume volume behind → TakeVolume volume between
  by_behind takes = take_before volume (behind ++ since) its_here (take_before volume behind since takes)

  by_later : TakeVolume volume (since ++ its_here) → TakeVolume volume between
  by_later takes = subst (TakeVolume volume) (sym (append_assoc behind since its_here)) (take_behind volume behind (since ++ its_here) takes)

  abbrev first_spot : Spot (own drives name).drives told_first.o.table volume number
  first_spot = told_first.spot

  abbrev known_then : IsSureAt (host_of drives name run.fresh) script (start run of_table) run.t.tale from.place.at
  known_then = known given drives name before script sound of_table run next went here rest behind read volume number old tells now so_went

  abbrev Later : List Exchange → Tale → Type 0
  Later es t = LeftAtRead drives name more other sound of_table later given again its_here its_rest volume number block parts tells_again by told_first.o.table first_spot es t

  -- what is left from the one read to the other
  left : TakeVolume volume between ⊎ Later ((read ∷ behind) ++ (since ++ its_here)) (tale_of known_then.story)
  left = elim (lasts_next given drives name before script sound of_table run next went here rest behind read volume number old tells now so_went) [
    | inl takes ↦ inl (by_behind takes)
    | inr lasts ↦ elim (behind_left given drives name before script sound of_table run next went here rest behind read volume number old tells now so_went) [
      | inl takes ↦ inl (by_behind takes)
      | inr first ↦ elim (all_left drives name more other sound of_table later given again its_here its_rest volume number block parts tells_again by told_first.o.table first_spot (one ∷ before) next runs clean lasts) [
        | inl takes ↦ inl (by_later takes)
        | inr end ↦ inr (record {
          now = end.now;
          reads = end.reads;
          has = end.has;
          left = leaves_more volume number first_spot.at.drive first_spot.at.block (read ∷ behind) (since ++ its_here) (tale_of known_then.story) next end.now first end.left;
        })
      ]
    ]
  ]

  module _ (bears : Bears run volume (exchanges_by name more ++ its_here) (number + 1)) (end : Later ((read ∷ behind) ++ (since ++ its_here)) (tale_of known_then.story)) where
    -- it lies where it lay
    moved : (its_spot.at.drive ≡ first_spot.at.drive) × (its_spot.at.block ≡ first_spot.at.block)
    moved = front_spot (own drives name).drives (view_is_own.sound drives name sound) told_again.o.table its_spot.plan volume its_spot.map first_spot.map number its_spot.lies end.has its_spot.at first_spot.at

    -- no call had failed on its drive by the first read
    settled_then : IsSettledAt its_spot.at.drive its_spot.at.block (tale_of known_then.story)
    settled_then =
        let map = its_spot.map in
        let place = its_spot.at in
        let within = place.within in
        let may = lie drives name more other sound of_table later given again its_here its_rest volume number block parts tells_again by in
        let calm = bears.answered map may (omega (arith, within)) number place.drive place.block (omega arith) (has_copy map number place.drive place.block place.lies) in
        let own_sound = view_is_own.sound drives name sound in
        let is_own = subst (λ (l : List DriveNo). Contains l (record { 0 = place.drive })) (sym (sites_are_own.drives (own_view drives name) name)) (spot_own drives name told_again.o.table volume number own_sound its_spot) in
        settled_so given drives name before script sound of_table run next went here rest behind read volume number old tells now so_went (record { 0 = place.drive }) is_own calm place.block
        (spot_plain (own_view drives name) told_again.o.table volume number own_sound its_spot)

    settled : (x : List ℕ) → MayLeave (tale_of known_then.story) first_spot.at.drive first_spot.at.block x → x ≡ last (tale_of known_then.story) first_spot.at.drive first_spot.at.block
    settled =
        let same = moved in
        subst (λ (d : ℕ). IsSettledAt d first_spot.at.block (tale_of known_then.story)) same.0 (subst (λ (b : ℕ). IsSettledAt its_spot.at.drive b (tale_of known_then.story)) same.1 settled_then)

    -- so it has what the first read told, or what a line since may have written
    by_value : (x : List ℕ) → IsSameBlock block x → MayLeave (tale_of known_then.story) first_spot.at.drive first_spot.at.block x ⊎ Written volume number ((read ∷ behind) ++ (since ++ its_here)) x → IsOrWasWritten volume number old between block
    by_value x same (inl was) = inl (same ∙ ap significant (settled x was) ∙ there_old given drives name before script sound of_table run next went here rest behind read volume number old tells now so_went)
    by_value x same (inr (writes, new, has, may, is)) = elim (Contains-append_cases (read ∷ []) (behind ++ (since ++ its_here)) writes has) [
      | inl first ↦ absurd (never_written read volume volume number number old new tells (subst (λ (e : Exchange). MayBeWritten volume number new e) (sym (the_only read writes first)) may))
      | inr after ↦ inr (inl (writes, new, subst (λ (l : List Exchange). Contains l writes) (sym (append_assoc behind since its_here)) after, may, same ∙ ap significant is))
    ]

    value : IsOrWasWritten volume number old between block
    value =
        let drive = first_spot.at.drive in
        let at_block = first_spot.at.block in
        let x = last end.now drive at_block in
        let same_place = moved in
        let read_there : IsSameBlock block x = told_again.same ∙ ap significant ((λ i. place_again.at.kept.content (same_place.0 i) (same_place.1 i)) ∙ sym (end.reads drive at_block)) in
        by_value x read_there (end.left x (last_may_be_left end.now drive at_block))

  pub agreed : Bears run volume (exchanges_by name more ++ its_here) (number + 1) → IsOrWasWritten volume number old between block
  agreed bears = elim left [
    | inl takes ↦ taken_or volume number old between block takes
    | inr end ↦ value bears end
  ]

-- what stands behind the first read
same_since : (before here behind since its_here lines : List Exchange) (read : Exchange) → ((before ++ (here ++ read ∷ behind)) ++ since) ++ its_here ≡ (before ++ here) ++ read ∷ lines → lines ≡ (behind ++ since) ++ its_here
same_since before here behind since its_here lines read is =
    let first : ((before ++ (here ++ read ∷ behind)) ++ since) ++ its_here ≡ (before ++ here) ++ read ∷ ((behind ++ since) ++ its_here) =
    ap (λ (l : List Exchange). (l ++ since) ++ its_here) (sym (append_assoc before here (read ∷ behind))) ∙ ap (λ (l : List Exchange). l ++ its_here) (append_assoc (before ++ here) (read ∷ behind) since) ∙ append_assoc (before ++ here) ((read ∷ behind) ++ since) its_here in
    let both : read ∷ lines ≡ read ∷ ((behind ++ since) ++ its_here) = append_cancel_left (before ++ here) (read ∷ lines) (read ∷ ((behind ++ since) ++ its_here)) (sym is ∙ first) in
    cc (both)

pub runs_agree : Given → RunsAgree
runs_agree given drives name before more script other next t of_table run went runs clean later start read again here rest behind first earlier volume number old block now so_went is_first answered bears tells tells_again since parts = by later.tells.tells where
  sound : IsSound drives
  sound = run.life.fair

  bears_all : Bears run volume (exchanges_by name more ++ answered.here) (number + 1)
  bears_all = subst (λ (l : List Exchange). Bears run volume l (number + 1)) answered.behind bears

  so : (to : Runs drives (ran_on run next went ∷ before) next more later.t.tale) → HaveMetNone to → RunToldBy (host_of drives name later.fresh) later.stretch later.start later.t.tale other later.tells.bytes later.m → IsOrWasWritten volume number old since block
  so to met told_by =
      let done = agreed given drives name before more script other next sound of_table run went later to met here rest behind answered.here answered.later read again volume number old block tells tells_again now so_went answered.is told_by bears_all in
      let after = lines_since drives name (ran_on run next went ∷ before) next more later.t.tale to in
      let its_own : (bytes_eq name name) ≡ true = (bytes_eq-Decides name name).1 refl in
      let ran : exchanges_by name (ran_on run next went ∷ before) ≡ exchanges_by name before ++ (here ++ read ∷ behind) =
      ap (λ (b : Bool). exchanges_by name before ++ (if b then exchanges_of script went.stands.bytes else [])) its_own ∙ ap (λ (l : List Exchange). exchanges_by name before ++ l) so_went in
      let are = since_are drives name sound of_table given (ran_on run next went ∷ before) next more later.t.tale to in
      let all : ((exchanges_by name before ++ (here ++ read ∷ behind)) ++ after) ++ answered.here ≡ (exchanges_by name before ++ here) ++ read ∷ since =
      sym (answered.behind ∙ ap (λ (l : List Exchange). l ++ answered.here) (are ∙ ap (λ (l : List Exchange). l ++ after) ran)) ∙ parts ∙ ap (λ (l : List Exchange). l ++ read ∷ since) is_first in
      subst (λ (l : List Exchange). IsOrWasWritten volume number old l block) (sym (same_since (exchanges_by name before) here behind after answered.here since read all)) done

  by : ((later.tells.bytes ≡ []) × KeptOutside (site_area (host_of drives name later.fresh).site) later.t.tale later.m.tale) ⊎ RunToldBy (host_of drives name later.fresh) later.stretch later.start later.t.tale other later.tells.bytes later.m → IsOrWasWritten volume number old since block
  by (inl none) =
      absurd (unreplied other answered.here answered.later again (values_reply tells_again.at tells_again.blocks)
      (subst (λ (l : List (List ℕ)). exchanges other l ≡ answered.here ++ again ∷ answered.later) (ap replies_in none.0 ∙ nothing_answers) answered.is) tells_again.told)
  by (inr told_by) = subst (λ (x : Tale). (to : Runs drives (ran_on run next went ∷ before) next more x) → HaveMetNone to → IsOrWasWritten volume number old since block) start (λ to met. so to met told_by) runs clean
