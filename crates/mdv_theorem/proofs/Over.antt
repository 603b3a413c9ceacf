-- What runs of any hosts leave in a block of a volume, one behind the other, as long as the volume lasts.
use Rattle.std.proofs.Common.{◌≡◌, ◌⊎◌, inl, inr, ℕ, Bool, true, List, [], ◌++◌, if◌then◌else◌, sym, ◌∙◌, ap, subst, append_assoc, refl, Contains}
use Rattle.std.proofs.lemmas.List.{append-nil, append_cancel_left}
use Rattle.std.proofs.lemmas.Slice.Eq.{bytes_eq-Decides}
use Rattle.std.specs.Str.{bytes_eq}
use Rattle.mdv_base.specs.declared.name.VolId.{VolId}
use Rattle.mdv_name.specs.declared.geometry.Geometry.{Geometry}
use Rattle.mdv_port.specs.Script.{Script}
use Rattle.mdv_run_law.specs.Lives.{HasMetNone, MayBeFound, Ran, as_it_was, crashed, host_of, IsNewWord}
use Rattle.mdv_run_law.specs.Run.{Counts, Stretch}
use Rattle.mdv_run_law.specs.Standing.{RunMoment}
use Rattle.mdv_run_law.specs.Told.{IsToldBy, RunToldBy}
use Rattle.mdv_shelf.specs.Area.{KeptOutside}
use Rattle.mdv_shelf.specs.Story.{Moment}
use Rattle.mdv_shelf.specs.Tale.{Tale, told}
use Rattle.mdv_shelf.proofs.Blocks.{both_ways}
use Rattle.mdv_config.specs.Slices.{IsSound}
use Rattle.mdv_plan.specs.declared.table.Table.{Table}
use Rattle.mdv_shown.specs.Site.{site_area}
use Rattle.mdv_volumes.specs.History.{history_after_all}
use Rattle.mdv_volumes.specs.HistoryLaws.{new_history}
use Rattle.mdv_theorem.specs.Exchanges.{Exchange, exchanges_by, exchanges_of}
use Rattle.mdv_theorem.specs.Running.{HaveMetNone, IsMomentOf, Runs, no_run, run_on}
use Rattle.mdv_theorem.proofs.Come.{HasMetNothing}
use Rattle.mdv_theorem.proofs.Ends.{TakeVolume, take_before, take_behind}
use Rattle.mdv_theorem.proofs.Given.{Given}
use Rattle.mdv_theorem.proofs.Later.{Lasts, lasts_between, lasts_run, lines_since, run_lines}
use Rattle.mdv_theorem.proofs.Place.{Spot}
use Rattle.mdv_theorem.proofs.Leaving.{Leaves, kept_leaves, leaves_more, own}
use Rattle.mdv_theorem.proofs.Tail.{told_leave}
use Rattle.mdv_theorem.proofs.Spots.{spot_elsewhere}

-- what is found of a moment holds no more than it did
pub found_leaves : (volume : VolId) (number drive block : ℕ) (m next : Tale) → MayBeFound m next → Leaves volume number drive block [] m next
found_leaves volume number drive block m next as_it_was x may = inl may
found_leaves volume number drive block m next (crashed found left) x may = inl (left drive block x may)

module _ (drives : Geometry) (name : List ℕ) (sound : IsSound drives) (of_table : Contains drives.hosts name) (given : Given) where
  -- what a run of the host told, where it is known by its name
  pub own_told : (other : List ℕ) (fresh : ℕ) (stretch : Stretch) (start : Counts) (script : Script) (t m : Moment) → bytes_eq other name ≡ true → (stands : RunMoment (host_of drives other fresh) script t.tale m.tale)
      → IsToldBy (host_of drives other fresh) stretch start script t m → (its : IsToldBy (host_of drives name fresh) stretch start script t m) × (its.bytes ≡ stands.bytes)
  own_told other fresh stretch start script t m does stands tells =
      let same = (bytes_eq-Decides other name).0 does in
      let its : IsToldBy (host_of drives name fresh) stretch start script t m = subst (λ (h : List ℕ). IsToldBy (host_of drives h fresh) stretch start script t m) same tells in
      (its, append_cancel_left (told t.tale) its.bytes stands.bytes (sym its.is_told ∙ stands.is_told))

  -- the lines of runs come behind those before
  pub since_are : (first : List Ran) (from : Tale) (ran : List Ran) (t : Tale) (runs : Runs drives first from ran t) → exchanges_by name ran ≡ exchanges_by name first ++ lines_since drives name first from ran t runs
  since_are first from ran t no_run = sym (append-nil (exchanges_by name first))
  since_are first from ran t (run_on before other fresh stretch start old m next script runs other_of new_word stands tells moment found) =
      let one : Ran = record { host = other; fresh = fresh; script = script; bytes = stands.bytes } in
      ap (λ (l : List Exchange). l ++ run_lines name one) (since_are first from before old.tale runs) ∙ append_assoc (exchanges_by name first) (lines_since drives name first from before old.tale runs) (run_lines name one)

  -- Of a block of a volume, where it lasts.
  module _ (final : Table) (volume : VolId) (number : ℕ) (spot : Spot (own drives name).drives final volume number) where
    abbrev AreLeft : List Exchange → Tale → Tale → Type 0
    AreLeft es t u = Leaves volume number spot.at.drive spot.at.block es t u

    abbrev StillLasts : List Ran → Tale → Type 0
    StillLasts ran t = Lasts drives name volume spot.map ran t

    -- what another host's run leaves
    other_leaves : (other : List ℕ) (fresh : ℕ) (script : Script) (t m : Tale) → (other ≡ name → ⊥) → RunMoment (host_of drives other fresh) script t m → AreLeft [] t m
    other_leaves other fresh script t m differ moment =
        kept_leaves volume number spot.at.drive spot.at.block [] t m (moment.home spot.at.drive spot.at.block (spot_elsewhere drives name sound final volume number spot other fresh differ))

    -- a run of whichever host
    any_leaves : (before : List Ran) (other : List ℕ) (fresh : ℕ) (stretch : Stretch) (start : Counts) (script : Script) (t m : Moment) → IsNewWord other fresh before → (stands : RunMoment (host_of drives other fresh) script t.tale m.tale)
        → IsToldBy (host_of drives other fresh) stretch start script t m → IsMomentOf stretch t m → HasMetNone drives other before fresh script t.tale m.tale → StillLasts before t.tale
        → TakeVolume volume (run_lines name (record { host = other; fresh = fresh; script = script; bytes = stands.bytes })) ⊎ AreLeft (run_lines name (record { host = other; fresh = fresh; script = script; bytes = stands.bytes })) t.tale m.tale
    any_leaves before other fresh stretch start script t m new_word stands tells moment clean lasts = elim (both_ways (bytes_eq other name)) [
      | inl does ↦
          let same = (bytes_eq-Decides other name).0 does in
          let its = own_told other fresh stretch start script t m does stands tells in
          let bytes = stands.bytes in
          let told_so : told m.tale ≡ told t.tale ++ bytes = stands.is_told in
          let none : HasMetNothing (host_of drives name fresh) script (history_after_all new_history lasts.of.es) t.tale m.tale = subst (λ (n : List ℕ). HasMetNone drives n before fresh script t.tale m.tale) same clean lasts.held lasts.of in
          let begins = moment.begins in
          let tells_by = subst (λ (l : List ℕ). ((l ≡ []) × KeptOutside (site_area (host_of drives name fresh).site) t.tale m.tale) ⊎ RunToldBy (host_of drives name fresh) stretch start t.tale script l m) its.1 its.0.tells in
          let left = told_leave drives name fresh before script t.tale lasts.held lasts.of m none bytes told_so sound of_table given final volume number spot (subst (λ (n : List ℕ). IsNewWord n fresh before) same new_word) lasts.lasting stretch start begins.0 begins.1 begins.2 tells_by in
          subst (λ (b : Bool). TakeVolume volume (if b then exchanges_of script bytes else []) ⊎ AreLeft (if b then exchanges_of script bytes else []) t.tale m.tale) (sym does) left
      | inr never ↦
          inr (subst (λ (b : Bool). AreLeft (if b then exchanges_of script stands.bytes else []) t.tale m.tale) (sym never)
          (other_leaves other fresh script t.tale m.tale (λ same. (let does = (bytes_eq-Decides other name).1 same in cc (does, never))) stands))
    ]

    -- what these runs leave
    pub runs_leave : (first : List Ran) (from : Tale) (ran : List Ran) (t : Tale) (runs : Runs drives first from ran t) → HaveMetNone runs → StillLasts first from
        → TakeVolume volume (lines_since drives name first from ran t runs) ⊎ (StillLasts ran t × AreLeft (lines_since drives name first from ran t runs) from t)
    runs_leave first from ran t no_run none lasts = inr (lasts, λ x may. inl may)
    runs_leave first from ran t (run_on before other fresh stretch start old m next script runs other_of new_word stands tells moment found) none lasts =
        let here : Ran = record { host = other; fresh = fresh; script = script; bytes = stands.bytes } in
        let since = lines_since drives name first from before old.tale runs in
        let more = run_lines name here in
        elim (runs_leave first from before old.tale runs none.0 lasts) [
          | inl takes ↦ inl (take_before volume since more takes)
          | inr (still, done) ↦ elim (any_leaves before other fresh stretch start script old m new_word stands tells moment none.1 still) [
            | inl takes ↦ inl (take_behind volume since more takes)
            | inr left ↦ elim (lasts_run drives name volume spot.map here before old.tale m.tale new_word stands refl none.1 still) [
              | inl takes ↦ inl (take_behind volume since more takes)
              | inr now ↦
                  let drive = spot.at.drive in
                  let block = spot.at.block in
                  let all = leaves_more volume number drive block more [] old.tale m.tale next left (found_leaves volume number drive block m.tale next found) in
                  inr (
                    lasts_between drives name volume spot.map here before m.tale next found now,
                    leaves_more volume number drive block since more from old.tale next done (subst (λ (l : List Exchange). AreLeft l old.tale next) (append-nil more) all),
                  )
            ]
          ]
        ]
